-- A commit of a locality: what it makes, and what it leaves that deals a stock.
use Rattle.hpx_node.proofs.Common.{AllByRecursion, AreRight, AreWithin, Due, HasCredit, HasRightCredit, HaveLog, HaveNone, Id, IsBare, IsBirth, IsFitDue, IsFitJob, IsManaged, IsMessage, IsMovable, IsPlace, IsPlanned, IsState, IsStock, Job, KeepsLaws, List, MatchOption, Message, MessageDue, None, Option, Outcome, PrintDue, Some, Stock, Tables, [], all_append, all_imp, ap, arith, bare, bare_due, birth_of, birth_state, due_with, flat_map, hand_of, ids_due, ids_of, is_below, is_some, length, made_of, map, message_filled, nat_le, own_few, own_within, places_in_hand, planned, refl, refs_in, same_at, suc, sym, true, ℕ, ◌+◌, ◌<◌, ◌∷◌, ◌≡◌, ◌≤◌}
use Rattle.hpx_value.specs.declared.outcome.Make.{Make}
use Rattle.hpx_commit.proofs.HandFit.{fit_due, hand_right}
use Rattle.hpx_commit.proofs.Naming.{unmanaged}
use Rattle.hpx_commit.proofs.Places.{is_least}
use Rattle.hpx_commit.proofs.Short.{yes}

-- ---- credits

pub rights : AreRight HasRightCredit HasCredit
rights = record { says = λ id h. says id.kind id.log h; so = λ id h. so id.kind id.log h; has = λ id h t. has id.kind id.log h t; had = λ id h. had id.kind id.log h }
  where
    says : (kind : ℕ) (log : Option ℕ) → MatchOption log (kind < 16) (λ l. 16 ≤ kind) → is_some log ≡ nat_le 16 kind
    says kind None h = sym (unmanaged kind h)
    says kind (Some l) h = sym (yes 16 kind h)

    so : (kind : ℕ) (log : Option ℕ) → is_some log ≡ nat_le 16 kind → MatchOption log (kind < 16) (λ l. 16 ≤ kind)
    so kind None e = is_below kind (sym e)
    so kind (Some l) e = is_least kind (sym e)

    has : (kind : ℕ) (log : Option ℕ) → is_some log ≡ true → nat_le 16 kind ≡ true → MatchOption log ⊥ (λ l. 16 ≤ kind)
    has kind None e t = absurd (cc)
    has kind (Some l) e t = is_least kind t

    had : (kind : ℕ) (log : Option ℕ) → MatchOption log ⊥ (λ l. 16 ≤ kind) → MatchOption log (kind < 16) (λ l. 16 ≤ kind)
    had kind None e = absurd e
    had kind (Some l) e = e

pub none_of : (ids : List Id) → AllByRecursion IsBare ids → HaveNone ids
none_of ids h = all_imp IsBare (λ (id : Id). id.log ≡ None) (λ id i. i.0) ids h

-- ids of the same objects fill what is due
due_filled : (m : Message) (ids : List Id) → map bare ids ≡ map bare m.ids → length ids ≡ length m.ids
    → (AllByRecursion HasRightCredit m.ids → AllByRecursion HasRightCredit ids) → IsFitDue (MessageDue m) → IsFitDue (MessageDue (record m { ids = ids }))
due_filled m ids same many credit fit = record {
  sent = record { shape = message_filled m ids many fit.sent.shape; credit = credit fit.sent.credit };
  moves = λ e. let x = fit.moves e in (movable m.ids ids same many x.0, x.1);
}
  where
    movable : (xs ys : List Id) → map bare ys ≡ map bare xs → length ys ≡ length xs → IsMovable xs → IsMovable ys
    movable [] ys e n h = absurd h
    movable (x ∷ xs) [] e n h = absurd (omega (arith, n))
    movable (x ∷ xs) (y ∷ ys) e n h =
        let k : y.kind ≡ x.kind = ap (λ (z : Id). z.kind) (same_at bare (y ∷ ys) (x ∷ xs) 0 e) in (omega (arith, k, h.0), omega (arith, k, h.1))

-- a well-formed message with its credits may be due
pub may_be_due : (m : Message) → IsMessage m → AllByRecursion HasRightCredit m.ids → (m.code ≡ 1 → IsMovable m.ids × IsPlace m.args) → IsFitDue (MessageDue m)
may_be_due m shape credit moves = record { sent = record { shape = shape; credit = credit }; moves = moves }

-- the ids of what is due have their credits
pub due_credit : (due : List Due) → AllByRecursion IsFitDue due → AllByRecursion HasRightCredit (flat_map ids_due due)
due_credit [] h = tt
due_credit (PrintDue bytes ∷ due) h = due_credit due h.1
due_credit (MessageDue m ∷ due) h = all_append HasRightCredit m.ids (flat_map ids_due due) h.0.sent.credit (due_credit due h.1)

-- ---- what is made

pub record AreMade (log : ℕ) (makes : List Make) (ids : List Id) : Type 0 where
  pub births : AllByRecursion IsBirth (map birth_of makes)
  pub kinds : map (λ (id : Id). id.kind) ids ≡ map (λ (x : Make). x.kind) makes
  pub credit : AllByRecursion HasRightCredit ids
  pub logs : HaveLog log ids
  pub bare : AllByRecursion IsBare (map bare ids)

are_made : (here n log : ℕ) (makes : List Make) → AllByRecursion (λ make. IsManaged make.kind × (refs_in make.values ≡ [])) makes
    → AllByRecursion (λ make. IsState (birth_state make)) makes → AreMade log makes (ids_of here n log (map birth_of makes))
are_made here n log [] h i = record { births = tt; kinds = refl; credit = tt; logs = tt; bare = tt }
are_made here n log (make ∷ makes) h i = let rest = are_made here (n + 1) log makes h.1 i.1 in record {
  births = (record { least = h.0.0.0; most = h.0.0.1; state = i.0; same = refl; drawn = refl; alone = refl; none = refl }, rest.births);
  kinds = ap (λ ks. make.kind ∷ ks) rest.kinds;
  credit = (h.0.0.0, rest.credit);
  logs = (refl, rest.logs);
  bare = ((refl, h.0.0.0), rest.bare);
}

pub made_long : (here n log : ℕ) (makes : List Make) → length (ids_of here n log (map birth_of makes)) ≡ length makes
made_long here n log [] = refl
made_long here n log (make ∷ makes) = ap suc (made_long here (n + 1) log makes)

pub bare_kinds : (ids : List Id) → map (λ (id : Id). id.kind) (map bare ids) ≡ map (λ (id : Id). id.kind) ids
bare_kinds [] = refl
bare_kinds (id ∷ ids) = ap (λ ks. id.kind ∷ ks) (bare_kinds ids)

-- ---- a job whose outcome keeps the laws of n localities

module _ (n : ℕ) (t : Tables) (job : Job) (out : Outcome) (laws : KeepsLaws n job.kind job.at job.state job.action out) (fit : IsFitJob job) where
  pub made_of_job : AreMade t.profile.credit_log out.makes (made_of t out)
  made_of_job = are_made t.here t.births t.profile.credit_log out.makes laws.few.managed laws.shapes.births

  pub hand_within : AreWithin (hand_of t job out) (places_in_hand t job out)
  hand_within = own_within n job.kind job.at job.state job.action out laws (made_of t out) made_of_job.kinds

  pub hand_few : length (hand_of t job out) ≤ 194
  hand_few = own_few n job.kind job.at job.state job.action out laws (made_of t out) made_of_job.kinds fit.state fit.action.sent.shape

-- ---- what is planned

module _ (t : Tables) (job : Job) (out : Outcome) (fit : IsFitJob job) (few : t.localities ≤ 64)
    (laws : KeepsLaws t.localities job.kind job.at job.state job.action out) where
  are : AreMade t.profile.credit_log out.makes (made_of t out)
  are = made_of_job t.localities t job out laws fit

  pub made_fit : AllByRecursion IsBirth (map birth_of out.makes)
  made_fit = are.births

  pub hand_has : AllByRecursion HasRightCredit (hand_of t job out)
  hand_has = hand_right HasRightCredit HasCredit rights t.localities job.kind job.at job.state job.action out laws few (made_of t out) are.kinds fit.credit
      fit.action.sent.credit are.credit

  due_has : AllByRecursion IsFitDue (due_with job.state job.action (made_of t out) out)
  due_has = fit_due HasRightCredit HasCredit rights t.localities job.kind job.at job.state job.action out laws few (made_of t out) are.kinds fit.credit
      fit.action.sent.credit are.credit (λ ids args. IsMovable ids × IsPlace args) IsFitDue (λ target ids at low high most. ((low, high), (at, most, refl)))
      may_be_due (λ bytes. tt)

  pub planned_of : (s : Stock) → IsStock t job out s
      → IsPlanned HasRightCredit HasCredit IsFitDue bare_due job.kind job.state job.action (made_of t out) out s
  planned_of s is = planned HasRightCredit HasCredit rights IsFitDue bare_due (λ m. refl) (λ bytes. refl) (λ bytes. tt) due_filled
      t.localities job.kind job.at job.state job.action out laws few fit.state fit.action.sent.shape (made_of t out) are.kinds fit.credit
      fit.action.sent.credit are.credit due_has s is.names is.credit
