-- Loads: what goes and comes of a list that is read by a key, and one exchange after another.
use Rattle.std.proofs.Common.{ℕ, Bool, true, List, [], ◌∷◌, ◌++◌, ◌≡◌, ◌+◌, Some, arith, map}
use Rattle.std.specs.List.{find, count_by, sum_by, AllByRecursion}
use Rattle.std.proofs.lemmas.List.Sums.{sum_by-cons, sum_by-append}
use Rattle.hpx_value.specs.Ids.{same_object}
use Rattle.hpx_journal.specs.Bags.{minus}
use Rattle.hpx_journal.proofs.Moves.{IsShort}
use Rattle.hpx_part.specs.Keyed.{Agree}
use Rattle.hpx_part.specs.View.{View}
use Rattle.hpx_part.specs.Loads.{Load, Exchanges, with_load}
use Rattle.hpx_part.proofs.Keyed.{Agree-put, Agree-take, Agree-found, counts_of}
use Rattle.hpx_part.proofs.Sums.{Agree-sums}
use Rattle.hpx_part.proofs.Telling.{Telling}

module _ {K X : Type 0} (t : Telling X) (test : K → X → Bool) (key : X → K)
    (means : (k : K) (x : X) → test k x ≡ true → (y : X) → test k y ≡ test (key x) y) (own : (x : X) → test (key x) x ≡ true) where
  -- what is seen to go was there, and what is left is seen
  pub Agree-goes : (xs ys zs gone : List X) → IsShort gone → Agree test xs ys → ((f : X → ℕ) → sum_by f zs + sum_by f gone ≡ sum_by f ys)
      → AllByRecursion (λ x. find (test (key x)) xs ≡ Some x) gone × Agree test (minus test xs (map key gone)) zs
  Agree-goes xs ys zs [] short agree sums = (tt, Agree-sums t test xs ys zs agree (λ f. omega (arith, sums f)))
  Agree-goes xs ys zs (x ∷ []) short agree sums =
      let first : Agree test xs (x ∷ zs) = Agree-sums t test xs ys (x ∷ zs) agree (λ f. omega (arith, sums f, sum_by-cons f x zs)) in
      ((Agree-found test key means own xs [] zs x first, tt), Agree-take test key means own xs [] zs x first)
  Agree-goes xs ys zs (x ∷ y ∷ gone) short agree sums = absurd short

  -- what comes new is seen
  pub Agree-comes : (xs ys zs new : List X) → IsShort new → Agree test xs ys → AllByRecursion (λ x. count_by (test (key x)) xs ≡ 0) new
      → ((f : X → ℕ) → sum_by f zs ≡ sum_by f ys + sum_by f new) → Agree test (new ++ xs) zs
  Agree-comes xs ys zs [] short agree none sums = Agree-sums t test xs ys zs agree (λ f. omega (arith, sums f))
  Agree-comes xs ys zs (x ∷ []) short agree none sums =
      Agree-sums t test (x ∷ xs) (x ∷ ys) zs (Agree-put test key means own xs [] ys x agree none.0)
      (λ f. omega (arith, sums f, sum_by-cons f x ys))
  Agree-comes xs ys zs (x ∷ y ∷ new) short agree none sums = absurd short

-- one exchange after another
pub exchanges_then : (a b c d : Load) (v m w : View) → Exchanges a b v m → Exchanges c d m w → Exchanges (with_load a c) (with_load b d) v w
exchanges_then a b c d v m w s t = record {
  acts = λ f. omega (arith, s.acts f, t.acts f, sum_by-append f a.acts c.acts, sum_by-append f b.acts d.acts);
  objects = λ f. omega (arith, s.objects f, t.objects f, sum_by-append f a.objects c.objects, sum_by-append f b.objects d.objects);
  travels = λ f. omega (arith, s.travels f, t.travels f, sum_by-append f a.travels c.travels, sum_by-append f b.travels d.travels);
  tokens = λ f fair. omega (arith, s.tokens f fair, t.tokens f fair, sum_by-append f a.tokens c.tokens, sum_by-append f b.tokens d.tokens);
  asks = λ o.
      let f = counts_of (same_object o) in
      omega (arith, s.asks o, t.asks o, sum_by-append f a.asks c.asks, sum_by-append f b.asks d.asks);
}

-- what goes and comes again does neither
pub exchanges_less : (x a b : Load) (v w : View) → Exchanges (with_load x a) (with_load x b) v w → Exchanges a b v w
exchanges_less x a b v w s = record {
  acts = λ f. omega (arith, s.acts f, sum_by-append f x.acts a.acts, sum_by-append f x.acts b.acts);
  objects = λ f. omega (arith, s.objects f, sum_by-append f x.objects a.objects, sum_by-append f x.objects b.objects);
  travels = λ f. omega (arith, s.travels f, sum_by-append f x.travels a.travels, sum_by-append f x.travels b.travels);
  tokens = λ f fair. omega (arith, s.tokens f fair, sum_by-append f x.tokens a.tokens, sum_by-append f x.tokens b.tokens);
  asks = λ o.
      let f = counts_of (same_object o) in
      omega (arith, s.asks o, sum_by-append f x.asks a.asks, sum_by-append f x.asks b.asks);
}
