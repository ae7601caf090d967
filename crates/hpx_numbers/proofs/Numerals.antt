-- What a state of a kind from 16 to 31 shows is a number or a row, at any number of localities.
use Rattle.std.specs.Prelude.{ℕ, ℤ, Bool, true, false, nat_le, List, [], ◌∷◌, ◌≡◌, ◌≤◌, ◌==◌, ◌||◌, Option, Some, None, refl, if◌then◌else◌}
use Rattle.std.proofs.Common.{arith, ap, lit≤}
use Rattle.std.proofs.lemmas.Bool.{cond_both, eqb-true, leb-true}
use Rattle.hpx_calls.specs.Values.{Nothing, Flag, Int, Text, Ref, Fault, Ints, Look, Sort}
use Rattle.hpx_calls.specs.Contents
use Rattle.hpx_calls.specs.declared.content.Content.{Content}
use Rattle.hpx_calls.specs.declared.content.Content.TheVariants.{Row}
use Rattle.hpx_numbers.specs.Sort.{IsNumeral}

-- what is there, if anything is, is of the sort
abbrev Numerals : {V : Type 0} → Option (Content V) → Type 0
Numerals None = Unit {0}
Numerals (Some x) = IsNumeral x

number_numerals : (V : Type 0) (l : Look) → Numerals (Contents.number_in {V = V} l)
number_numerals V (Int z) = tt
number_numerals V _ = tt

provided_numerals : (V : Type 0) (b : Bool) (numbers : List ℤ) → Numerals (Contents.provided {V = V} b (Row numbers))
provided_numerals V true numbers = tt
provided_numerals V false numbers = tt

row_numerals : (V : Type 0) (l : Look) → Numerals (Contents.row_in {V = V} l)
row_numerals V (Ints numbers) = provided_numerals V _ numbers
row_numerals V _ = tt

of_one_numerals : {V : Type 0} (k : Sort V) (f : Look → Option (Content V)) (vs : List V) → ((l : Look) → Numerals (f l)) → Numerals (Contents.of_one k f vs)
of_one_numerals k f [] h = tt
of_one_numerals k f (v ∷ []) h = h (k.look v)
of_one_numerals k f (v ∷ u ∷ vs) h = tt

or_numerals : {V : Type 0} (vs : List V) (o : Option (Content V)) → Numerals o → IsNumeral (Contents.or_unreadable vs o)
or_numerals vs None h = tt
or_numerals vs (Some x) h = h

module _ {V : Type 0} (k : Sort V) (kind w : ℕ) (vs : List V) (low : 16 ≤ kind) (high : kind ≤ 31) where
  -- this kind is no lower one, and no control object
  lower : (m : ℕ) → m ≤ 15 → (kind == m) ≡ true → ⊥
  lower m h e = omega (arith, eqb-true kind m e)

  table : ((kind == 2) || (kind == 5)) ≡ true → ⊥
  table e = by_two (kind == 2) refl e
    where
      by_two : (b : Bool) → (kind == 2) ≡ b → (b || (kind == 5)) ≡ true → ⊥
      by_two true f g = lower 2 (lit≤ tt) f
      by_two false f g = lower 5 (lit≤ tt) g

  control : nat_le 32 kind ≡ true → ⊥
  control e = omega (arith, leb-true 32 kind e)

  resting_numerals : (n : ℕ) → Numerals (Contents.resting_in k n kind vs)
  resting_numerals n =
      cond_both ((kind == 2) || (kind == 5)) _ _ Numerals (λ e. absurd (table e)) (λ e.
      cond_both (kind == 3) _ _ Numerals (λ e. absurd (lower 3 (lit≤ tt) e)) (λ e.
      cond_both (kind == 4) _ _ Numerals (λ e. absurd (lower 4 (lit≤ tt) e)) (λ e.
      cond_both (kind == 16) _ _ Numerals (λ e. of_one_numerals k Contents.number_in vs (number_numerals V)) (λ e.
      cond_both (kind == 17) _ _ Numerals (λ e. of_one_numerals k Contents.row_in vs (row_numerals V)) (λ e. tt)))))

  pub numeral_content : (n : ℕ) → IsNumeral (Contents.content_of k n kind w vs)
  numeral_content n =
      cond_both (nat_le 32 kind) _ _ (λ o. IsNumeral (Contents.or_unreadable vs o)) (λ e. absurd (control e))
      (λ e. or_numerals vs _ (cond_both (w == 0) _ _ Numerals (λ f. resting_numerals n) (λ f. tt)))

  abbrev rest : Option (Content V)
  rest = if kind == 16 then Contents.of_one k Contents.number_in vs else if kind == 17 then Contents.of_one k Contents.row_in vs else None

  -- the number of localities matters to kind 4 alone
  resting_same : (m n : ℕ) → Contents.resting_in k m kind vs ≡ Contents.resting_in k n kind vs
  resting_same m n =
      ap (λ o. if (kind == 2) || (kind == 5) then Contents.table_in (Contents.pairs_in k vs) else if kind == 3 then Contents.maker_in vs else o)
      (cond_both (kind == 4) _ _ (λ o. o ≡ (if kind == 4 then Contents.of_one k (Contents.size_in n) vs else rest)) (λ e. absurd (lower 4 (lit≤ tt) e)) (λ e. rest_is (kind == 4) e))
    where
      rest_is : (b : Bool) → b ≡ false → rest ≡ (if b then Contents.of_one k (Contents.size_in n) vs else rest)
      rest_is true e = cc
      rest_is false e = refl

  pub numeral_same : (m n : ℕ) → Contents.content_of k m kind w vs ≡ Contents.content_of k n kind w vs
  numeral_same m n =
      ap (λ o. Contents.or_unreadable vs (if nat_le 32 kind then Contents.control_in k kind w vs else if w == 0 then o else None)) (resting_same m n)
