-- What an outline says of its message.
use Rattle.std.proofs.Common.{◌≡◌, ℕ, ◌≤◌, ◌&&◌, Bool, true, false, cond, List, [], ◌∷◌, Option, Some, None, refl, ap, ◌∙◌, arith, inl, inr}
use Rattle.std.specs.Prelude.{pos, negsuc, max, ◌||◌, ◌==◌, nat_le}
use Rattle.std.proofs.lemmas.Bool.{cases_lt, leb-true, le-leb}
use Rattle.hpx_value.specs.Ids.{bare}
use Rattle.hpx_journal.specs.Data.{Id, Value, Int, Text, Act, Parcel, Apply, Return, Ask, Give, Cached, Move, Go, Shipped, Arrived, Free}
use Rattle.hpx_parcel.specs.Types.{Nothing, Flag, Ref, Fault, Ints}
use Rattle.hpx_journal.specs.Entries.{target_of, is_movable, place_in, move_to}
use Rattle.hpx_parcel.specs.Outlines.{most_home, most_place, outline}
use Rattle.hpx_parcel.specs.Outlines as outlines
use Rattle.hpx_tables.specs.Tables.{Tables}
use Rattle.hpx_tables.specs.Rules.{go_rule, near_rule, rule_of, broken_near, broken}
use Rattle.hpx_tables.specs.Strange.{object_of, are_far, moves_far, is_far_act, is_far, breaks_at}

-- ---- its object

pub told_object : (p : Parcel) → bare (outline p).id ≡ object_of p
told_object (Apply act) = refl
told_object (Return id) = refl
told_object (Ask id asker entry) = refl
told_object (Give id entry) = refl
told_object (Cached id place) = refl
told_object (Move act) = refl
told_object (Go act) = refl
told_object (Shipped act state) = refl
told_object (Arrived id place) = refl
told_object (Free id) = refl

-- ---- where it goes

place_same : (args : List Value) → outlines.place_in args ≡ place_in args
place_same [] = refl
place_same (Int (pos t) ∷ []) = refl
place_same (Int (negsuc t) ∷ []) = refl
place_same (Nothing ∷ []) = refl
place_same (Flag b ∷ []) = refl
place_same (Text bytes ∷ []) = refl
place_same (Ref place ∷ []) = refl
place_same (Fault code ∷ []) = refl
place_same (Ints zs ∷ []) = refl
place_same (Int (pos t) ∷ (v ∷ vs)) = refl
place_same (Int (negsuc t) ∷ (v ∷ vs)) = refl
place_same (Nothing ∷ (v ∷ vs)) = refl
place_same (Flag b ∷ (v ∷ vs)) = refl
place_same (Text bytes ∷ (v ∷ vs)) = refl
place_same (Ref place ∷ (v ∷ vs)) = refl
place_same (Fault code ∷ (v ∷ vs)) = refl
place_same (Ints zs ∷ (v ∷ vs)) = refl

move_same : (act : Act) → outlines.move_to act ≡ move_to act
move_same act = ap (λ (to : Option ℕ). cond ((act.code == 1) && is_movable (target_of act).kind) to None) (place_same act.args)

-- ---- whether it is far

or_false : (b : Bool) → b ≡ (b || false)
or_false true = refl
or_false false = refl

or_assoc : (a b c : Bool) → ((a || b) || c) ≡ (a || (b || c))
or_assoc true b c = refl
or_assoc false b c = refl

-- where the one number is above the other
above : (x y : Bool) → (y ≡ true → x ≡ true) → x ≡ (x || y)
above true y h = refl
above false true h = h refl
above false false h = refl

or_swap : (x y : Bool) → (x || y) ≡ (y || x)
or_swap true true = refl
or_swap true false = refl
or_swap false true = refl
or_swap false false = refl

left_le : (n a b : ℕ) → b ≤ a → nat_le n a ≡ (nat_le n a || nat_le n b)
left_le n a b le = above (nat_le n a) (nat_le n b) (λ e. let h : n ≤ b = leb-true _ _ e in le-leb _ _ (omega arith))

right_le : (n a b : ℕ) → a ≤ b → nat_le n b ≡ (nat_le n a || nat_le n b)
right_le n a b le = left_le n b a le ∙ or_swap (nat_le n b) (nat_le n a)

le_max : (n a b : ℕ) → nat_le n (max a b) ≡ (nat_le n a || nat_le n b)
le_max n a b =
    elim (cases_lt a b) [
      | inl lt ↦ let m : max a b ≡ b = omega arith in ap (λ (k : ℕ). nat_le n k) m ∙ right_le n a b (omega arith)
      | inr le ↦ let m : max a b ≡ a = omega arith in ap (λ (k : ℕ). nat_le n k) m ∙ left_le n a b le
    ]

most_any : (n most : ℕ) (ids : List Id) → nat_le n (most_home most ids) ≡ (nat_le n most || are_far n ids)
most_any n most [] = or_false (nat_le n most)
most_any n most (id ∷ ids) =
    most_any n (max most id.home) ids
    ∙ (ap (λ (b : Bool). b || are_far n ids) (le_max n most id.home) ∙ or_assoc (nat_le n most) (nat_le n id.home) (are_far n ids))

place_any : (n most : ℕ) (to : Option ℕ) → nat_le n (most_place most to) ≡ (nat_le n most || moves_far n to)
place_any n most None = or_false (nat_le n most)
place_any n most (Some to) = le_max n most to

act_any : (n : ℕ) (act : Act) → nat_le n (most_place (most_home act.origin act.ids) (outlines.move_to act)) ≡ (is_far_act n act || moves_far n (move_to act))
act_any n act =
    place_any n (most_home act.origin act.ids) (outlines.move_to act)
    ∙ (ap (λ (b : Bool). b || moves_far n (outlines.move_to act)) (most_any n act.origin act.ids) ∙ ap (λ (to : Option ℕ). is_far_act n act || moves_far n to) (move_same act))

pub told_far : (n : ℕ) (p : Parcel) → nat_le n (outline p).most ≡ is_far n p
told_far n (Apply act) = most_any n act.origin act.ids
told_far n (Return id) = refl
told_far n (Ask id asker entry) = le_max n id.home asker
told_far n (Give id entry) = refl
told_far n (Cached id place) = le_max n id.home place
told_far n (Move act) = act_any n act
told_far n (Go act) = act_any n act
told_far n (Shipped act state) =
    most_any n (most_place (most_home act.origin act.ids) (outlines.move_to act)) state.ids
    ∙ (ap (λ (b : Bool). b || are_far n state.ids) (act_any n act) ∙ or_assoc (is_far_act n act) (moves_far n (move_to act)) (are_far n state.ids))
told_far n (Arrived id place) = le_max n id.home place
told_far n (Free id) = refl

-- ---- the rule that it breaks

told_near : (t : Tables) (p : Parcel) → near_rule t (outline p).kind (outline p) ≡ broken_near t p
told_near t (Apply act) = refl
told_near t (Return id) = refl
told_near t (Ask id asker entry) = refl
told_near t (Give id entry) = refl
told_near t (Cached id place) = refl
told_near t (Move act) = refl
told_near t (Go act) = ap (λ (to : Option ℕ). go_rule t (bare (target_of act)) (target_of act) to) (move_same act)
told_near t (Shipped act state) = refl
told_near t (Arrived id place) = refl
told_near t (Free id) = refl

pub told_rule : (t : Tables) (p : Parcel) → rule_of t (outline p) ≡ broken t p
told_rule t p =
    ap (λ (b : Bool). cond b (breaks_at 9 (bare (outline p).id) t.localities) (near_rule t (outline p).kind (outline p))) (told_far t.localities p)
    ∙ (ap (λ (o : Id). cond (is_far t.localities p) (breaks_at 9 o t.localities) (near_rule t (outline p).kind (outline p))) (told_object p)
    ∙ ap (λ (r : _). cond (is_far t.localities p) (breaks_at 9 (object_of p) t.localities) r) (told_near t p))
