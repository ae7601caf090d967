-- What waits for an object holds credit of it, so that its last credit does not come meanwhile.
use Rattle.std.proofs.Common.{ℕ, Bool, true, false, cond, List, [], ◌∷◌, ◌≡◌, ◌+◌, ◌<◌, ◌≤◌, ◌==◌, Option, Some, None, refl, sym, ap, ◌∙◌, subst, arith, inl, inr}
use Rattle.std.specs.Prelude.{◌&&◌, ◌⊎◌, nat_le, if◌then◌else◌, flat_map}
use Rattle.std.specs.List.{list_any, sum_by, AllByRecursion}
use Rattle.std.proofs.lemmas.Bool.{cases_Bool, eq-eqb}
use Rattle.std.proofs.lemmas.Bool.Decides.{nat_tests}
use Rattle.std.proofs.lemmas.List.Sums.{sum_by-cons}
use Rattle.std.proofs.Math.Pow.{pow_pos}
use Rattle.hpx_value.specs.Hands.{session}
use Rattle.hpx_value.specs.Ids.{bare, credit, credit_of_log, same_object}
use Rattle.hpx_parcel.specs.Parcels.{IsParcel, HasRightCredit, IsMovable}
use Rattle.hpx_journal.specs.Data.{Id, Act, Parcel, Apply, Return, Ask, Give, Cached, Move, Go, Shipped, Arrived, Free}
use Rattle.hpx_journal.specs.Entries.{Rules, target_of}
use Rattle.hpx_journal.specs.Laws.{HasGrammar, IsLegalLocal, count_events}
use Rattle.hpx_journal.specs.Local.{after}
use Rattle.hpx_journal.specs.Moving.{is_born_of}
use Rattle.hpx_journal.specs.Rows.{Row}
use Rattle.hpx_journal.specs.Whole.{IsLegal, part, recorded_in, replayed, run_local}
use Rattle.hpx_journal.proofs.Grow.{legal_part}
use Rattle.hpx_journal.proofs.Same.{same_object-true, same_object-refl}
use Rattle.hpx_journal.proofs.Start.{first}
use Rattle.hpx_part.specs.Data.{Event, Entry, Local, Born, Left, Out}
use Rattle.hpx_steps.specs.Calls.{act_in}
use Rattle.hpx_steps.specs.Rest.{grants_of_all}
use Rattle.hpx_steps.specs.Rows.{one_if, weighed}
use Rattle.hpx_steps.specs.Sound.{IsWaitingFor, all_count, grants_left, grants_of}
use Rattle.hpx_steps.proofs.Sums.{messages_sum}
use Rattle.hpx_tables.specs.Kept.{credit_in, ids_held}
use Rattle.hpx_tables.specs.Tables.{Tables, messages}
use Rattle.hpx_world.proofs.Begun.{born_here}
use Rattle.hpx_world.proofs.Known.{IsShown}
use Rattle.hpx_world.proofs.Rowed.{none_sum}

-- ---- numbers

-- a birth with this number
abbrev numbered : ℕ → Event → ℕ
numbered n (Born x state) = one_if (x.number == n)
numbered n _ = 0

number_next : (n m k : ℕ) → k ≡ m + 1 → one_if (k == n) + one_if (nat_le n m) ≤ one_if (nat_le n (m + 1))
number_next n m k e = rw e (grind (arith, nat_tests))

number_one : (r : Rules) (s : Local) (e : Event) → Row r s e → (n : ℕ) → numbered n e + one_if (nat_le n s.number) ≤ one_if (nat_le n (after r s e).number)
unfolding after
number_one r s (Born x state) row n = number_next n s.number x.number row.2
number_one r s _ row n = omega arith

number_most : (r : Rules) (s : Local) (es : List Entry) → IsLegalLocal r s es → (n : ℕ) → all_count (numbered n) es + one_if (nat_le n s.number) ≤ one_if (nat_le n (run_local r s es).number)
number_most r s [] legal n = omega arith
number_most r s (e ∷ es) legal n = omega (
  arith,
  number_one r s e.event legal.0.row n,
  number_most r (after r s e.event) es legal.1 n,
  sum_by-cons (λ (x : Entry). numbered n x.event) e es,
)

one_most : (b : Bool) → one_if b ≤ 1
one_most true = omega arith
one_most false = omega arith

module _ (o x : Id) (number : o.number ≡ x.number) (other : same_object o x ≡ false) where
  same_both : (y : Id) → same_object o y ≡ true → same_object x y ≡ true → ⊥
  same_both y a b =
      let e : bare o ≡ bare x = same_object-true o y a ∙ sym (same_object-true x y b) in
      let t : same_object o x ≡ true = ap (λ z. same_object o z) (sym e) ∙ same_object-refl o in
      cc

  born_two : (e : Event) → one_if (is_born_of o e) + one_if (is_born_of x e) ≤ numbered o.number e
  born_two (Born y state) = each (same_object o y) (same_object x y) refl refl
    where
      its : (a : Id) → a.number ≡ o.number → same_object a y ≡ true → one_if (y.number == o.number) ≡ 1
      its a e t = ap one_if (eq-eqb y.number o.number (sym (ap (λ (z : Id). z.number) (same_object-true a y t)) ∙ e))

      each : (a b : Bool) → same_object o y ≡ a → same_object x y ≡ b → one_if (same_object o y) + one_if (same_object x y) ≤ one_if (y.number == o.number)
      each true true s t = absurd (same_both y s t)
      each true false s t = rw (s, t) (omega (arith, its o refl s))
      each false true s t = rw (s, t) (omega (arith, its x (sym number) t))
      each false false s t = rw (s, t) (omega arith)
  born_two _ = omega arith

  born_all : (es : List Entry) → count_events (is_born_of o) es + count_events (is_born_of x) es ≤ all_count (numbered o.number) es
  born_all [] = omega arith
  born_all (e ∷ es) = omega (
    arith,
    born_two e.event,
    born_all es,
    sum_by-cons (λ (y : Entry). one_if (is_born_of o y.event)) e es,
    sum_by-cons (λ (y : Entry). one_if (is_born_of x y.event)) e es,
    sum_by-cons (λ (y : Entry). numbered o.number y.event) e es,
  )

-- objects of one home with one number are one
pub same_born : (r : Rules) (es : List Entry) → IsLegal r es → (o x : Id) → 1 ≤ recorded_in o (replayed r es) → 1 ≤ recorded_in x (replayed r es) → o.home ≡ x.home → o.number ≡ x.number
    → same_object o x ≡ true
same_born r es legal o x a b home number = elim (cases_Bool (same_object o x)) [
  | inl t ↦ t
  | inr f ↦ absurd (omega (
    arith,
    born_here r es legal o a,
    subst (λ j. count_events (is_born_of x) (part j es) ≡ 1) (sym home) (born_here r es legal x b),
    born_all o x number f (part o.home es),
    number_most r ((first r).places o.home) (part o.home es) (legal_part r (first r) es legal o.home) o.number,
    one_most (nat_le o.number (run_local r ((first r).places o.home) (part o.home es)).number),
  ))
]

-- ---- roots

-- no move of a root is granted
pub movable : (act : Act) → IsMovable act.ids → 16 ≤ (target_of act).kind
movable act h = each act.ids refl h
  where
    each : (ids : List Id) → act.ids ≡ ids → IsMovable ids → 16 ≤ (target_of act).kind
    each [] e h = absurd h
    each (id ∷ ids) e h = rw e h.0

root_none : (o : Id) → o.kind < 16 → (p : Parcel) → IsParcel p → grants_of o p ≡ 0
root_none o small (Go act) h = elim (cases_Bool (same_object o (target_of act))) [
  | inl t ↦ absurd (omega (arith, small, ap (λ (x : Id). x.kind) (same_object-true o (target_of act) t), movable act h.target))
  | inr f ↦ ap one_if f
]
root_none o small _ h = refl

module _ (r : Rules) (log : ℕ) (es : List Entry) (grammar : HasGrammar r) (legal : IsLegal r es) (k : ℕ) (t : Tables) (s : IsShown r log es k t) where
  root_gone : (o : Id) → o.kind < 16 → (l : Local) (xs : List Entry) → IsLegalLocal r l xs → all_count (grants_left o) xs ≡ 0
  root_gone o small l [] h = refl
  root_gone o small l (e ∷ xs) h = omega (
    arith,
    one e.event h.0.row,
    root_gone o small (after r l e.event) xs h.1,
    sum_by-cons (λ (x : Entry). grants_left o x.event) e xs,
  )
    where
      one : (e : Event) → Row r l e → grants_left o e ≡ 0
      one (Left x to) row = elim (cases_Bool (same_object o x)) [
        | inl t ↦ absurd (omega (arith, small, ap (λ (y : Id). y.kind) (same_object-true o x t), row.0.0))
        | inr f ↦ ap one_if f
      ]
      one _ row = refl

  pub root_grants : (o : Id) → o.kind < 16 → grants_of_all t (part k es) o ≡ 0
  root_grants o small = omega (
    arith,
    root_gone o small ((first r).places k) (part k es) (legal_part r (first r) es legal k),
    messages_sum (grants_of o) t,
    none_sum IsParcel (grants_of o) (messages t) (root_none o small) s.tidy.messages,
  )

  -- ---- what waits

  pub first_credit : (o : Id) (act : Act) (ids : List Id) → act.ids ≡ ids → 16 ≤ (target_of act).kind → AllByRecursion HasRightCredit ids → same_object o (target_of act) ≡ true → 1 ≤ credit_in o act.ids
  first_credit o act [] e managed right t =
      let is : target_of act ≡ session = ap (λ (xs : List Id). target_of (record act { ids = xs })) e in
      absurd (omega (arith, managed, ap (λ (x : Id). x.kind) is))
  first_credit o act (id ∷ ids) e managed right t =
      let is : target_of act ≡ id = ap (λ (xs : List Id). target_of (record act { ids = xs })) e in
      let same : same_object o id ≡ true = subst (λ x. same_object o x ≡ true) is t in
      let some : 1 ≤ credit id = has id.log (subst (λ (x : Id). 16 ≤ x.kind) is managed) right.0 in
      subst (λ xs. 1 ≤ credit_in o xs) (sym e) (omega (
        arith,
        some,
        sum_by-cons (λ (x : Id). if same_object o x then credit x else 0) id ids,
        ap (λ b. cond b (credit id) 0) same,
      ))
    where
      has : (l : Option ℕ) → 16 ≤ id.kind → Rattle.std.specs.Prelude.MatchOption l (id.kind < 16) (λ n. 16 ≤ id.kind) → 1 ≤ credit_of_log l
      has None big h = absurd (omega (arith, big, h))
      has (Some n) big h = omega (arith, pow_pos n)

  pub acts_parcel : (p : Parcel) (n : ℕ) → IsWaitingFor k n p → IsParcel p → (target_of (act_in p)).home ≡ k × ((target_of (act_in p)).number ≡ n) × AllByRecursion HasRightCredit (act_in p).ids × (ids_held p ≡ (act_in p).ids)
  acts_parcel (Apply act) n h fit = (h.0, h.1, fit.sent.credit, refl)
  acts_parcel (Move act) n h fit = (h.0, h.1, fit.sent.credit, refl)
  acts_parcel (Go act) n h fit = absurd h
  acts_parcel (Shipped act state) n h fit = absurd h
  acts_parcel (Return id) n h fit = absurd h
  acts_parcel (Ask id asker entry) n h fit = absurd h
  acts_parcel (Give id entry) n h fit = absurd h
  acts_parcel (Cached id place) n h fit = absurd h
  acts_parcel (Arrived id place) n h fit = absurd h
  acts_parcel (Free id) n h fit = absurd h
