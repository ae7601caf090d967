-- What waits for a number.
use Rattle.std.proofs.Common.{ℕ, true, ◌≡◌, ◌≢◌, ◌≤◌, ◌+◌, List, [], ◌∷◌, ◌++◌, map, min, refl, sym, ap, ◌∙◌, inl, inr, arith}
use Rattle.std.specs.Prelude.{◌==◌}
use Rattle.std.specs.List.{sum_by}
use Rattle.std.proofs.lemmas.Bool.{cases_Bool, eqb-true, eq-eqb}
use Rattle.std.proofs.lemmas.List.Sums.{sum_by-cons}
use Rattle.hpx_agas.specs.declared.record.Waiting.{Waiting}
use Rattle.hpx_agas.specs.Queues.{items_of, waits}

module _ {Q : Type 0} where
  pub items_hit : (n : ℕ) (w : Waiting Q) (ws : List (Waiting Q)) → w.number ≡ n → items_of n (w ∷ ws) ≡ w.item ∷ items_of n ws
  items_hit n w ws e = let t : (w.number == n) ≡ true = eq-eqb w.number n e in rw t refl

  pub items_miss : (n : ℕ) (w : Waiting Q) (ws : List (Waiting Q)) → w.number ≢ n → items_of n (w ∷ ws) ≡ items_of n ws
  items_miss n w ws away = elim (cases_Bool (w.number == n)) [
    | inl t ↦ absurd (away (eqb-true w.number n t))
    | inr f ↦ rw f refl
  ]

  pub items-append : (n : ℕ) (xs ys : List (Waiting Q)) → items_of n (xs ++ ys) ≡ items_of n xs ++ items_of n ys
  items-append n [] ys = refl
  items-append n (x ∷ xs) ys = elim (cases_Bool (x.number == n)) [
    | inl t ↦ let e : x.number ≡ n = eqb-true x.number n t in
        items_hit n x (xs ++ ys) e ∙ ap (λ is. x.item ∷ is) (items-append n xs ys) ∙ sym (ap (λ is. is ++ items_of n ys) (items_hit n x xs e))
    | inr f ↦ rw (f, items-append n xs ys) refl
  ]

  -- items weigh the same with the number that they wait for
  pub waits_weigh : (w : Q → ℕ) (n : ℕ) (items : List Q) → sum_by (λ (x : Waiting Q). w x.item) (map (waits n) items) ≡ sum_by w items
  waits_weigh w n [] = refl
  waits_weigh w n (item ∷ items) =
      omega (arith, waits_weigh w n items, sum_by-cons (λ (x : Waiting Q). w x.item) (waits n item) (map (waits n) items), sum_by-cons w item items)

-- what is cut off at m on the way is cut off in the end
pub capped : (m a b x y : ℕ) → x ≡ min m a → y ≡ min m b → min (x + y) m ≡ min m (a + b)
capped m a b x y p q = grind arith

pub capped_more : (m a b s x y : ℕ) → x ≡ min (a + y) m → y ≡ min m b → min m (x + s) ≡ min m (a + (b + s))
capped_more m a b s x y p q = grind arith

pub capped_end : (m a t : ℕ) → a ≤ m → min m (a + 0) ≡ min m t → a ≡ min m t
capped_end m a t low h = grind arith
