-- What waits for objects, each queue in order.
use Rattle.std.specs.Prelude.{ℕ, ◌≡◌, ◌-◌, ◌^◌, ◌==◌, nat_le, cond, Bool, List, [], ◌∷◌, map, filter, min, refl}
use Rattle.std.specs.Coded.{Coded, code_by, coded×, coded_ℕ}
use Rattle.std.specs.Fn.{Shared, FnReturnsAt}
use Rattle.std.specs.Borrow.{Bor}
use Rattle.hpx_agas.specs.declared.record.Waiting.{Waiting}

module _ {Q : Type 0} where
  -- what waits for the object of a number, the oldest first
  abbrev pub items_of : ℕ → List (Waiting Q) → List Q
  items_of n waiting = map (λ w. w.item) (filter (λ w. w.number == n) waiting)

  -- an item that waits for the object of a number
  abbrev pub waits : ℕ → Q → Waiting Q
  waits n item = record { number = n; item = item }

  -- one that waits for the object of this number
  abbrev pub is_for : ℕ → Waiting Q → Bool
  is_for n w = w.number == n

  -- what waits, with one more: the last of those that wait for the object of its number
  abbrev pub with_last : Waiting Q → List (Waiting Q) → List (Waiting Q)
  with_last w [] = w ∷ []
  with_last w (x ∷ xs) = cond (nat_le x.number w.number) (x ∷ with_last w xs) (w ∷ x ∷ xs)

  -- what waits, without the first that waits for the object of a number
  abbrev pub without_first : ℕ → List (Waiting Q) → List (Waiting Q)
  without_first n [] = []
  without_first n (x ∷ xs) = cond (is_for n x) xs (x ∷ without_first n xs)

-- calls tell what each item weighs, or the greatest number
abbrev pub Weighs : {F Q : Type 0} → Shared F (Bor Q × Unit {0}) ℕ → F → (Q → ℕ) → Type 0
Weighs g f w = (item : _) (r : ℕ) → FnReturnsAt g f item r → r ≡ min (2 ^ 128 - 1) (w item)

-- one that waits is stored as the pair of its fields
abbrev pub waiting_code : {Q : Type 0} → Coded Q → Coded (Waiting Q)
waiting_code {Q} code = code_by (ℕ × Q) (coded× coded_ℕ code) (λ w. (w.number, w.item)) (λ p. record { number = p.0; item = p.1 }) (λ _. refl)
