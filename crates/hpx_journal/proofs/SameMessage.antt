-- A test of whether two messages are the same.
use Rattle.std.proofs.Common.{ℕ, Bool, true, false, List, [], ◌∷◌, ◌≡◌, Option, Some, None, refl, ap}
use Rattle.std.specs.Prelude.{ℤ, ◌&&◌, ◌==◌}
use Rattle.std.specs.Ordering.{int_eq}
use Rattle.std.specs.Str.{bytes_eq}
use Rattle.std.proofs.lemmas.Bool.{eqb-true, eq-eqb}
use Rattle.std.proofs.lemmas.Bool.Decides.{Decides-int_eq}
use Rattle.std.proofs.lemmas.Slice.Eq.{bytes_eq-Decides}
use Rattle.hpx_value.specs.Ids.{Id}
use Rattle.hpx_journal.specs.Data.{Value, Nothing, Flag, Int, Text, Ref, Fault, Ints, Cont, Message}
use Rattle.hpx_journal.proofs.Same.{and_true}

abbrev same_bool : Bool → Bool → Bool
same_bool true b = b
same_bool false true = false
same_bool false false = true

same_bool-true : (a b : Bool) → same_bool a b ≡ true → a ≡ b
same_bool-true true true h = refl
same_bool-true true false h = cc
same_bool-true false true h = h
same_bool-true false false h = refl

same_bool-refl : (a : Bool) → same_bool a a ≡ true
same_bool-refl true = refl
same_bool-refl false = refl

-- ---- lists and options

abbrev same_option : {X : Type 0} → (X → X → Bool) → Option X → Option X → Bool
same_option test None None = true
same_option test (Some x) (Some y) = test x y
same_option test _ _ = false

abbrev pub same_list : {X : Type 0} → (X → X → Bool) → List X → List X → Bool
same_list test [] [] = true
same_list test (x ∷ xs) (y ∷ ys) = test x y && same_list test xs ys
same_list test _ _ = false

cons_same : {X : Type 0} (x y : X) (xs ys : List X) → x ≡ y → xs ≡ ys → (x ∷ xs) ≡ (y ∷ ys)
cons_same x y xs ys p q = cc

module _ {X : Type 0} (test : X → X → Bool) (sound : (x y : X) → test x y ≡ true → x ≡ y) where
  pub same_list-true : (xs ys : List X) → same_list test xs ys ≡ true → xs ≡ ys
  same_list-true [] [] h = refl
  same_list-true (x ∷ xs) (y ∷ ys) h =
      cons_same x y xs ys (sound x y (and_true _ _ h).0) (same_list-true xs ys (and_true _ _ h).1)
  same_list-true _ _ h = cc

  same_option-true : (x y : Option X) → same_option test x y ≡ true → x ≡ y
  same_option-true None None h = refl
  same_option-true (Some x) (Some y) h = ap (λ v. Some v) (sound x y h)
  same_option-true _ _ h = cc

module _ {X : Type 0} (test : X → X → Bool) (same : (x : X) → test x x ≡ true) where
  pub same_list-refl : (xs : List X) → same_list test xs xs ≡ true
  same_list-refl [] = refl
  same_list-refl (x ∷ xs) = rw (same x, same_list-refl xs) refl

  same_option-refl : (x : Option X) → same_option test x x ≡ true
  same_option-refl None = refl
  same_option-refl (Some x) = same x

int_eq-true : (x y : ℤ) → int_eq x y ≡ true → x ≡ y
int_eq-true x y h = (Decides-int_eq x y).0 h

int_eq-refl : (x : ℤ) → int_eq x x ≡ true
int_eq-refl x = (Decides-int_eq x x).1 refl

-- ---- values

abbrev pub same_value : Value → Value → Bool
same_value Nothing Nothing = true
same_value (Flag x) (Flag y) = same_bool x y
same_value (Int x) (Int y) = int_eq x y
same_value (Text x) (Text y) = bytes_eq x y
same_value (Ref x) (Ref y) = x == y
same_value (Fault x) (Fault y) = x == y
same_value (Ints x) (Ints y) = same_list int_eq x y
same_value _ _ = false

pub same_value-true : (a b : Value) → same_value a b ≡ true → a ≡ b
same_value-true Nothing Nothing h = refl
same_value-true (Flag x) (Flag y) h = ap (λ v. Flag v) (same_bool-true x y h)
same_value-true (Int x) (Int y) h = ap (λ v. Int v) (int_eq-true x y h)
same_value-true (Text x) (Text y) h = ap (λ v. Text v) ((bytes_eq-Decides x y).0 h)
same_value-true (Ref x) (Ref y) h = ap (λ v. Ref v) (eqb-true x y h)
same_value-true (Fault x) (Fault y) h = ap (λ v. Fault v) (eqb-true x y h)
same_value-true (Ints x) (Ints y) h = ap (λ v. Ints v) (same_list-true int_eq int_eq-true x y h)
same_value-true _ _ h = cc

pub same_value-refl : (a : Value) → same_value a a ≡ true
same_value-refl Nothing = refl
same_value-refl (Flag x) = same_bool-refl x
same_value-refl (Int x) = int_eq-refl x
same_value-refl (Text x) = (bytes_eq-Decides x x).1 refl
same_value-refl (Ref x) = eq-eqb x x refl
same_value-refl (Fault x) = eq-eqb x x refl
same_value-refl (Ints x) = same_list-refl int_eq int_eq-refl x

-- ---- continuations and ids

abbrev made_cont : ℕ → ℕ → Cont
made_cont x y = record { place = x; slot = y }

made_cont-same : (x x' y y' : ℕ) → x ≡ x' → y ≡ y' → made_cont x y ≡ made_cont x' y'
made_cont-same x x' y y' p q = cc

abbrev pub same_cont : Cont → Cont → Bool
same_cont a b = (a.place == b.place) && (a.slot == b.slot)

pub same_cont-true : (a b : Cont) → same_cont a b ≡ true → a ≡ b
same_cont-true a b h =
    made_cont-same a.place b.place a.slot b.slot (eqb-true _ _ (and_true _ _ h).0) (eqb-true _ _ (and_true _ _ h).1)

pub same_cont-refl : (a : Cont) → same_cont a a ≡ true
same_cont-refl a = rw (eq-eqb a.place a.place refl, eq-eqb a.slot a.slot refl) refl

abbrev made_id : ℕ → ℕ → ℕ → Option ℕ → Id
made_id x y z l = record { home = x; kind = y; number = z; log = l }

made_id-same : (x x' y y' z z' : ℕ) (l l' : Option ℕ) → x ≡ x' → y ≡ y' → z ≡ z' → l ≡ l' → made_id x y z l ≡ made_id x' y' z' l'
made_id-same x x' y y' z z' l l' p q t u = cc

abbrev pub same_nat : ℕ → ℕ → Bool
same_nat x y = x == y

pub same_nat-true : (x y : ℕ) → same_nat x y ≡ true → x ≡ y
same_nat-true x y h = eqb-true x y h

pub same_nat-refl : (x : ℕ) → same_nat x x ≡ true
same_nat-refl x = eq-eqb x x refl

abbrev pub same_id : Id → Id → Bool
same_id a b = (a.home == b.home) && ((a.kind == b.kind) && ((a.number == b.number) && same_option same_nat a.log b.log))

pub same_id-true : (a b : Id) → same_id a b ≡ true → a ≡ b
same_id-true a b h =
    let h1 = and_true _ _ h in
    let h2 = and_true _ _ h1.1 in
    let h3 = and_true _ _ h2.1 in
    made_id-same a.home b.home a.kind b.kind a.number b.number a.log b.log
    (eqb-true _ _ h1.0) (eqb-true _ _ h2.0) (eqb-true _ _ h3.0) (same_option-true same_nat same_nat-true a.log b.log h3.1)

pub same_id-refl : (a : Id) → same_id a a ≡ true
same_id-refl a =
    rw (
      eq-eqb a.home a.home refl,
      eq-eqb a.kind a.kind refl,
      eq-eqb a.number a.number refl,
      same_option-refl same_nat same_nat-refl a.log,
    ) refl

-- ---- messages

abbrev made_message : ℕ → List Value → Option Cont → List Id → Message
made_message c a k i = record { code = c; args = a; cont = k; ids = i }

made_message-same : (c c' : ℕ) (a a' : List Value) (k k' : Option Cont) (i i' : List Id)
    → c ≡ c' → a ≡ a' → k ≡ k' → i ≡ i' → made_message c a k i ≡ made_message c' a' k' i'
made_message-same c c' a a' k k' i i' p1 p2 p3 p4 = cc

abbrev pub same_message : Message → Message → Bool
same_message a b =
    (a.code == b.code) && (same_list same_value a.args b.args && (same_option same_cont a.cont b.cont && same_list same_id a.ids b.ids))

pub same_message-true : (a b : Message) → same_message a b ≡ true → a ≡ b
same_message-true a b h =
    let h1 = and_true _ _ h in
    let h2 = and_true _ _ h1.1 in
    let h3 = and_true _ _ h2.1 in
    made_message-same a.code b.code a.args b.args a.cont b.cont a.ids b.ids
    (eqb-true _ _ h1.0) (same_list-true same_value same_value-true _ _ h2.0)
    (same_option-true same_cont same_cont-true _ _ h3.0) (same_list-true same_id same_id-true _ _ h3.1)

pub same_message-refl : (a : Message) → same_message a a ≡ true
same_message-refl a =
    rw (
      eq-eqb a.code a.code refl,
      same_list-refl same_value same_value-refl a.args,
      same_option-refl same_cont same_cont-refl a.cont,
      same_list-refl same_id same_id-refl a.ids,
    ) refl
