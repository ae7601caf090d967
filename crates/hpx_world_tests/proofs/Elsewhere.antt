-- Where no number is to be made, it does not matter how many localities there are.
use Rattle.std.specs.Prelude.{ℕ, Bool, true, false, cond, nat_lt, List, [], ◌∷◌, ◌+◌, ◌-◌, ◌==◌, ◌&&◌, ◌≡◌, Option, Some, None}
use Rattle.std.proofs.Common.{refl, ap, sym, subst, ◌∙◌}
use Rattle.std.proofs.lemmas.Bool.{and_parts}
use Rattle.hpx_value.specs.declared.value.Cont.{Cont}
use Rattle.hpx_value.specs.declared.outcome.Target.TheVariants.{Root}
use Rattle.hpx_value.specs.declared.outcome.SendCont.TheVariants.{Here}
use Rattle.hpx_value.specs.declared.value.Value.TheVariants.{Flag, Fault, Ints}
use Rattle.hpx_trial.specs.Data.{Value, Nothing, Int, Text, Ref, State, Act, Outcome}
use Rattle.hpx_trial.specs.Trial.{said, one_send, byte_in, first_line, line_outcome, session_outcome, free_outcome, some_outcome, is_number, or_stays, trial}
use Rattle.hpx_world_tests.specs.Trials.{has_none, is_none, makes, making}

cond_no : {T : Type 0} (b : Bool) (x z : T) → b ≡ false → cond b x z ≡ z
cond_no b x z other = subst (λ c. cond c x z ≡ z) (sym other) refl

cond_yes : {T : Type 0} (b : Bool) (x z : T) → b ≡ true → cond b x z ≡ x
cond_yes b x z there = subst (λ c. cond c x z ≡ x) (sym there) refl

cond_same : {T : Type 0} (b : Bool) (x y z : T) → (b ≡ true → x ≡ y) → cond b x z ≡ cond b y z
cond_same true x y z same = same refl
cond_same false x y z same = refl

no_second : (b c : Bool) → b && c ≡ false → b ≡ true → c ≡ false
no_second b c other is = subst (λ x. x && c ≡ false) is other

line_same : (n drawn : ℕ) (movable : Bool) (values : List Value) (byte : ℕ) → has_none values && (byte == 110) ≡ false
    → line_outcome n drawn movable values byte ≡ line_outcome 2 drawn movable values byte
line_same n drawn movable [] byte other = cond_no (byte == 110) _ None other ∙ sym (cond_no (byte == 110) _ None other)
line_same n drawn movable (Ref p ∷ []) byte other = refl
line_same n drawn movable (Ref p ∷ x ∷ xs) byte other = refl
line_same n drawn movable (Nothing ∷ xs) byte other = refl
line_same n drawn movable (Int i ∷ xs) byte other = refl
line_same n drawn movable (Flag b ∷ xs) byte other = refl
line_same n drawn movable (Fault code ∷ xs) byte other = refl
line_same n drawn movable (Ints is ∷ xs) byte other = refl
line_same n drawn movable (Text t ∷ xs) byte other = refl

session_same : (n : ℕ) (movable : Bool) (s : State) (a : Act) → (a.code == 4) && (has_none s.values && (byte_in a.args == 110)) ≡ false
    → session_outcome n movable s a ≡ session_outcome 2 movable s a
session_same n movable s a other =
    cond_same (a.code == 4) _ _ _ (λ is. line_same n s.drawn movable s.values (byte_in a.args) (no_second _ _ other is))

free_same : (n : ℕ) (movable : Bool) (kind : ℕ) (s : State) (a : Act) (cont : Option Cont)
    → is_none cont && (((kind == 1) && nat_lt s.drawn 100) && ((a.code == 4) && (has_none s.values && (byte_in a.args == 110)))) ≡ false
    → free_outcome n movable kind s a cont ≡ free_outcome 2 movable kind s a cont
free_same n movable kind s a None other =
    cond_same ((kind == 1) && nat_lt s.drawn 100) _ _ None (λ is. session_same n movable s a (no_second _ _ other is))
free_same n movable kind s a (Some c) other = refl

some_same : (n : ℕ) (movable : Bool) (kind : ℕ) (s : State) (a : Act) (conts : List Cont)
    → has_none conts && (is_none a.cont && (((kind == 1) && nat_lt s.drawn 100)
    && ((a.code == 4) && (has_none s.values && (byte_in a.args == 110))))) ≡ false
    → some_outcome n movable kind s a conts ≡ some_outcome 2 movable kind s a conts
some_same n movable kind s a [] other = free_same n movable kind s a a.cont other
some_same n movable kind s a (c ∷ conts) other = refl

-- what hpx_trial says of two localities, it says of any number
pub same_elsewhere : (n kind here : ℕ) (s : State) (a : Act) → makes kind s a ≡ false → trial n kind here s a ≡ trial 2 kind here s a
same_elsewhere n kind here s a other = ap (or_stays here s a) (some_same n (is_number s.ids) kind s a s.conts other)

line_there : (n drawn : ℕ) (movable : Bool) (values : List Value) (byte : ℕ) → has_none values && (byte == 110) ≡ true
    → line_outcome n drawn movable values byte ≡ Some (said (drawn + 1) [] (one_send (Root 3 (n - 1)) 5 [] (Here drawn)) [])
line_there n drawn movable [] byte there = cond_yes (byte == 110) _ None there
line_there n drawn movable (x ∷ xs) byte there = absurd (cc)

session_there : (n : ℕ) (movable : Bool) (s : State) (a : Act) → (a.code == 4) && (has_none s.values && (byte_in a.args == 110)) ≡ true
    → session_outcome n movable s a ≡ Some (making n s)
session_there n movable s a there =
    let both = and_parts _ _ there in
    cond_yes (a.code == 4) _ _ both.0 ∙ line_there n s.drawn movable s.values (byte_in a.args) both.1

free_there : (n : ℕ) (movable : Bool) (kind : ℕ) (s : State) (a : Act) (cont : Option Cont)
    → is_none cont && (((kind == 1) && nat_lt s.drawn 100) && ((a.code == 4) && (has_none s.values && (byte_in a.args == 110)))) ≡ true
    → free_outcome n movable kind s a cont ≡ Some (making n s)
free_there n movable kind s a None there =
    let both = and_parts _ _ there in
    cond_yes ((kind == 1) && nat_lt s.drawn 100) _ None both.0 ∙ session_there n movable s a both.1
free_there n movable kind s a (Some c) there = absurd (cc)

some_there : (n : ℕ) (movable : Bool) (kind : ℕ) (s : State) (a : Act) (conts : List Cont)
    → has_none conts && (is_none a.cont && (((kind == 1) && nat_lt s.drawn 100)
    && ((a.code == 4) && (has_none s.values && (byte_in a.args == 110))))) ≡ true
    → some_outcome n movable kind s a conts ≡ Some (making n s)
some_there n movable kind s a [] there = free_there n movable kind s a a.cont there
some_there n movable kind s a (c ∷ conts) there = absurd (cc)

-- a number is made at the last of any number of localities
pub makes_there : (n kind here : ℕ) (s : State) (a : Act) → makes kind s a ≡ true → trial n kind here s a ≡ making n s
makes_there n kind here s a there = ap (or_stays here s a) (some_there n (is_number s.ids) kind s a s.conts there)
