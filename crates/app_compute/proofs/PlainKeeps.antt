-- Actions on plain objects keep the laws.
use Rattle.std.specs.Prelude.{ℕ, ℤ, pos, Bool, true, false, cond, nat_lt, List, [], ◌∷◌, ◌++◌, ◌≡◌, ◌+◌, ◌-◌, ◌%◌, ◌+ℤ◌, ◌<◌, ◌≤◌, ◌==◌, ◌&&◌, Option, Some, None, length, map, refl, if◌then◌else◌}
use Rattle.std.specs.List.{AllByRecursion, count_by}
use Rattle.std.proofs.Common.{sym, ap, ◌∙◌, subst, arith, lit≤, inr}
use Rattle.std.proofs.Math.Nat.{mod-lt}
use Rattle.std.proofs.lemmas.Bool.{cond_both, and_parts, eqb-false, eqb-true}
use Rattle.std.proofs.lemmas.List.{length-map}
use Rattle.std.proofs.lemmas.List.Sums.{count_by-le-length, sum_by-cons}
use Rattle.hpx_value.specs.Ids.{Id, bare}
use Rattle.hpx_value.specs.Values.{refs_in, bare_state, bare_act, named, message_of}
use Rattle.hpx_value.specs.Shapes.{IsCount, IsValue, IsAct, IsState, IsMessage}
use Rattle.hpx_value.specs.Hands.{hand_slots, sent}
use Rattle.hpx_value.specs.Kept.{answers, numbers, stays}
use Rattle.hpx_value.specs.Mentions.{mentions, cont_place}
use Rattle.hpx_value.specs.Laws.{KeepsLaws, UsesEachOnce, uses, answered, drawn_slots, is_made_slot, made_slots}
use Rattle.hpx_value.proofs.Kept.{few_roots, one_answer, stays_keeps, used_once}
use Rattle.hpx_value.proofs.Uses.{used_below}
use Rattle.hpx_calls.specs.Contents.{count_in}
use Rattle.hpx_calls.specs.Outcomes.{outcome_of}
use Rattle.hpx_calls.proofs.Blind.{outcome_blind}
use Rattle.hpx_calls.proofs.Lawful.{every_keeps}
use Rattle.hpx_calls.specs.Tables.{fits}
use Rattle.app_compute.specs.Types.{Value, Nothing, Int, Fault, Cont, State, Act, Sending, Outcome}
use Rattle.app_compute.specs.Numbers.{fibonacci, is_direct}
use Rattle.app_compute.specs.Acts

pub none_left : {X : Type 0} (xs : List X) → Acts.is_empty xs ≡ true → xs ≡ []
none_left [] e = refl
none_left (x ∷ xs) e = cc

-- the slots of the dataflow are named once each
made_once : (make slot : ℕ) → count_by (is_made_slot make slot) (record { make = 0; slot = 0 } ∷ record { make = 0; slot = 1 } ∷ []) ≤ 1
made_once make slot =
    let apart : (0 == slot) ≡ true → (1 == slot) ≡ false = λ e. ap (λ k. 1 == k) (sym (eqb-true 0 slot e)) in
    omega (
      arith,
      small (0 == make) (0 == slot) (1 == slot) apart,
      sum_by-cons (λ x. cond (is_made_slot make slot x) 1 0) (record { make = 0; slot = 0 }) (record { make = 0; slot = 1 } ∷ []),
      sum_by-cons (λ x. cond (is_made_slot make slot x) 1 0) (record { make = 0; slot = 1 }) [],
    )
  where
    small : (b c d : Bool) → (c ≡ true → d ≡ false) → cond (b && c) 1 0 + cond (b && d) 1 0 ≤ 1
    small true true d h = rw (h refl) (lit≤ tt)
    small true false true h = lit≤ tt
    small true false false h = lit≤ tt
    small false c d h = lit≤ tt

module _ (n here : ℕ) (s : State) (a : Act) (some : 1 ≤ n) (place : here < n) (h : IsState s) (act : IsAct a) where
  stay_keeps : (v : Value) → IsValue v → refs_in (v ∷ []) ≡ [] → KeepsLaws n 7 here s a (stays s a v)
  stay_keeps v good plain =
      stays_keeps n 7 here s a v h act good plain (λ c m args. absurd (let low = m.0 in omega arith)) (λ c m args. absurd (let low = m.0 in omega arith))

  refused_keeps : KeepsLaws n 7 here s a (Acts.refused s a)
  refused_keeps = stay_keeps (Fault 11) (lit≤ tt, lit≤ tt) refl

  sum_keeps : (x y : ℤ) → KeepsLaws n 7 here s a (stays s a (Acts.sum_of x y))
  sum_keeps x y =
      cond_both (fits (x +ℤ y)) _ _ (λ v. KeepsLaws n 7 here s a (stays s a v)) (λ e. stay_keeps (Int (x +ℤ y)) tt refl)
      (λ e. stay_keeps (Fault 1) (lit≤ tt, lit≤ tt) refl)

  module _ (bare : s.conts ≡ []) (threshold m : ℕ) where
    abbrev calls : Option Cont → List Sending
    calls cont =
        Acts.fib_call threshold (m - 1) ((here + 1) % n) 0 ∷ Acts.fib_call threshold (m - 2) here 1
        ∷ Acts.get_call (length s.ids + length a.ids) (Acts.handed cont) ∷ []

    abbrev out : Option Cont → Outcome
    out cont = record {
      state = record { drawn = s.drawn; values = []; conts = [] };
      makes = Acts.sum_of_two ∷ [];
      sends = calls cont;
      replies = [];
      prints = [];
    }

    used : (cont : Option Cont) → a.cont ≡ cont → UsesEachOnce (length (hand_slots s a)) (uses (out cont))
    used cont e i = ap (count_by (λ j. j == i)) (same cont e) ∙ used_once s a Nothing i
      where
        same : (cont : Option Cont) → a.cont ≡ cont → uses (out cont) ≡ numbers 0 s.conts ++ answered (answers s a.cont Nothing)
        same None e = sym (ap (λ cs. numbers 0 cs ++ answered (answers s a.cont Nothing)) bare ∙ ap (λ c. answered (answers s c Nothing)) e)
        same (Some c) e =
            sym (ap (λ cs. numbers 0 cs ++ answered (answers s a.cont Nothing)) bare ∙ ap (λ o. answered (answers s o Nothing)) e
            ∙ ap (λ cs. length cs ∷ []) bare)

    own_below : (c : Cont) → a.cont ≡ Some c → cont_place s a 0 < length s.ids + length a.ids + 1
    own_below c e =
        let own : cont_place s a (length s.conts) < length s.ids + length a.ids + 0 = (one_answer s a Nothing act refl (Some c) e).below.0 in
        let same : cont_place s a (length s.conts) ≡ cont_place s a 0 = ap (λ cs. cont_place s a (length cs)) bare in
        omega arith

    below : (cont : Option Cont) → a.cont ≡ cont → AllByRecursion (λ p. p < length s.ids + length a.ids + 1) (mentions s a (out cont))
    below None e = (omega arith, (omega arith, (omega arith, tt)))
    below (Some c) e = let own = own_below c e in (omega arith, (omega arith, (omega arith, (omega arith, tt))))

    count : (cont : Option Cont) → length (mentions s a (out cont)) ≤ 4
    count None = lit≤ tt
    count (Some c) = lit≤ tt

    fib_message : (made : List Id) (k at slot : ℕ) → IsMessage (sent s a made (Acts.fib_call threshold k at slot))
    fib_message made k at slot =
        record { values = record { few = lit≤ tt; each = (tt, (tt, tt)) }; refs = tt; few_refs = lit≤ tt; cont = (refl, tt); ids = refl; short = lit≤ tt }

    get_message : (made : List Id) (cont : Option Cont) → IsMessage (sent s a made (Acts.get_call (length s.ids + length a.ids) (Acts.handed cont)))
    get_message made None =
        record { values = record { few = lit≤ tt; each = tt }; refs = tt; few_refs = lit≤ tt; cont = tt; ids = refl; short = lit≤ tt }
    get_message made (Some c) =
        record { values = record { few = lit≤ tt; each = tt }; refs = tt; few_refs = lit≤ tt; cont = (refl, tt); ids = refl; short = lit≤ tt }

    made_slots_are : (cont : Option Cont) → made_slots (calls cont) ≡ record { make = 0; slot = 0 } ∷ record { make = 0; slot = 1 } ∷ []
    made_slots_are None = refl
    made_slots_are (Some c) = refl

    splits_lawful : (cont : Option Cont) → a.cont ≡ cont → KeepsLaws n 7 here s a (out cont)
    splits_lawful cont e =
        let once = used cont e in
        let four = count cont in
        let roots = few_roots (calls cont) in
        let slots = made_slots_are cont in
        record {
          names = record {
            places = below cont e;
            conts = used_below (length (hand_slots s a)) (uses (out cont)) once;
            each = λ p _. omega (arith, count_by-le-length (λ q. q == p) (mentions s a (out cont)));
            all = omega arith;
          };
          conts = once;
          slots = record {
            made = subst (AllByRecursion (λ x. x.make < 1)) (sym slots) (lit≤ tt, (lit≤ tt, tt));
            made_once = λ make slot. rw slots (made_once make slot);
            session = λ _. drawn_none cont;
            drawn = subst (IsCount s.drawn) (sym (drawn_none cont)) tt;
            counted = let none = ap length (drawn_none cont) in omega arith;
          };
          few = record { makes = lit≤ tt; sends = lit≤ tt; prints = lit≤ tt; managed = (((lit≤ tt, lit≤ tt), refl), tt); session = λ _. refl; short = tt };
          shapes = record {
            state = λ made. record { values = record { few = lit≤ tt; each = tt }; refs = tt; conts = tt; ids = refl; few = lit≤ tt; short = lit≤ tt };
            births = (record { values = record { few = lit≤ tt; each = (tt, (tt, tt)) }; refs = tt; conts = tt; ids = refl; few = lit≤ tt; short = lit≤ tt }, tt);
            sends = λ made. (fib_message made (m - 1) ((here + 1) % n) 0, (fib_message made (m - 2) here 1, (get_message made cont, tt)));
            replies = λ made. tt;
          };
          moves = record {
            codes = (((λ x. cc), (λ x. cc)), (((λ x. cc), (λ x. cc)), (((λ x. cc), (λ x. cc)), tt)));
            moves = ((λ x. absurd (cc)), ((λ x. absurd (cc)), ((λ x. absurd (cc)), tt)));
            moved = λ c k args. absurd (let low = k.0 in omega arith);
            place = λ c k args. absurd (let low = k.0 in omega arith);
          };
          plain = λ _ _ _. (refl, refl);
          roots = (inr (inr (inr refl), mod-lt (here + 1) some), (inr (inr (inr refl), place), (tt, tt)));
        }
      where
        drawn_none : (cont : Option Cont) → drawn_slots (calls cont) ≡ []
        drawn_none None = refl
        drawn_none (Some c) = refl

  fib_keeps : s.conts ≡ [] → (k t : Option ℕ) → KeepsLaws n 7 here s a (Acts.fib_outcome n here s a k t)
  fib_keeps bare (Some k) (Some t) =
      cond_both (nat_lt t 2) _ _ (KeepsLaws n 7 here s a) (λ e. refused_keeps)
      (λ e. cond_both (is_direct t k) _ _ (KeepsLaws n 7 here s a) (λ f. stay_keeps (Int (pos (fibonacci k))) tt refl)
      (λ f. splits_lawful bare t k a.cont refl))
  fib_keeps bare (Some k) None = refused_keeps
  fib_keeps bare None t = refused_keeps

  args_keep : s.conts ≡ [] → (args : List Value) → KeepsLaws n 7 here s a (Acts.plain_args n here s a args)
  args_keep bare (Int x ∷ Int y ∷ []) =
      cond_both (a.code == 48) _ _ (KeepsLaws n 7 here s a) (λ e. fib_keeps bare (count_in 92 x) (count_in 92 y))
      (λ e. cond_both (a.code == 49) _ _ (KeepsLaws n 7 here s a) (λ f. sum_keeps x y) (λ f. refused_keeps))
  args_keep bare _ = refused_keeps

  pub plain_keeps : KeepsLaws n 7 here s a (Acts.plain_outcome n here s a)
  unfolding Acts.plain_outcome
  plain_keeps =
      cond_both (Acts.is_empty s.values && Acts.is_empty s.conts) _ _ (KeepsLaws n 7 here s a)
      (λ e. args_keep (none_left s.conts (and_parts (Acts.is_empty s.values) (Acts.is_empty s.conts) e).1) a.args) (λ e. refused_keeps)

-- ---- every kind

pub keeps_laws : (n kind here : ℕ) (s : State) (a : Act) → 1 ≤ n → here < n → IsState s → IsAct a → KeepsLaws n kind here s a (Acts.compute_outcome n kind here s a)
unfolding Acts.compute_outcome
keeps_laws n kind here s a some place h act =
    cond_both (kind == 7) _ _ (KeepsLaws n kind here s a)
    (λ e. subst (λ k. KeepsLaws n k here s a (Acts.plain_outcome n here s a)) (sym (eqb-true kind 7 e)) (plain_keeps n here s a some place h act))
    (λ e. every_keeps n kind here s a place (eqb-false kind 7 e) h act)

-- ---- neither names nor credits matter

abbrev blind : Act → Act
blind a = named 0 0 (message_of (bare_act a))

-- where the dataflow stands, by its place in the hand
abbrev splits_at : ℕ → ℕ → State → Act → ℕ → ℕ → ℕ → Outcome
splits_at n here s a t m place = record {
  state = record { drawn = s.drawn; values = []; conts = [] };
  makes = Acts.sum_of_two ∷ [];
  sends = Acts.fib_call t (m - 1) ((here + 1) % n) 0 ∷ Acts.fib_call t (m - 2) here 1 ∷ Acts.get_call place (Acts.handed a.cont) ∷ [];
  replies = [];
  prints = [];
}

splits_blind : (n here : ℕ) (s : State) (a : Act) (t m : ℕ) → Acts.splits n here s a t m ≡ Acts.splits n here (bare_state s) (blind a) t m
splits_blind n here s a t m =
    ap (splits_at n here s a t m)
    (sym (ap (λ k. k + length (map bare a.ids)) (length-map s.ids bare) ∙ ap (λ k. length s.ids + k) (length-map a.ids bare)))

fib_blind : (n here : ℕ) (s : State) (a : Act) (k t : Option ℕ) → Acts.fib_outcome n here s a k t ≡ Acts.fib_outcome n here (bare_state s) (blind a) k t
fib_blind n here s a (Some k) (Some t) =
    ap (λ o. if nat_lt t 2 then Acts.refused s a else if is_direct t k then stays s a (Int (pos (fibonacci k))) else o) (splits_blind n here s a t k)
fib_blind n here s a (Some k) None = refl
fib_blind n here s a None t = refl

args_blind : (n here : ℕ) (s : State) (a : Act) (args : List Value) → Acts.plain_args n here s a args ≡ Acts.plain_args n here (bare_state s) (blind a) args
args_blind n here s a (Int x ∷ Int y ∷ []) =
    ap (λ o. if a.code == 48 then o else if a.code == 49 then stays s a (Acts.sum_of x y) else Acts.refused s a)
    (fib_blind n here s a (count_in 92 x) (count_in 92 y))
args_blind n here s a _ = refl

plain_blind : (n here : ℕ) (s : State) (a : Act) → Acts.plain_outcome n here s a ≡ Acts.plain_outcome n here (bare_state s) (blind a)
unfolding Acts.plain_outcome
plain_blind n here s a =
    ap (λ o. if Acts.is_empty s.values && Acts.is_empty s.conts then o else Acts.refused s a) (args_blind n here s a a.args)

pub is_blind : (n kind here : ℕ) (s : State) (a : Act) → Acts.compute_outcome n kind here s a ≡ Acts.compute_outcome n kind here (bare_state s) (blind a)
unfolding Acts.compute_outcome
is_blind n kind here s a =
    ap (λ o. if kind == 7 then o else outcome_of n kind here s a) (plain_blind n here s a)
    ∙ ap (λ o. if kind == 7 then Acts.plain_outcome n here (bare_state s) (blind a) else o) (outcome_blind n kind here s a)
