-- The sums of a wave, over members and over the list of their answers.
use Rattle.std.proofs.Common.{ℕ, zero, suc, true, List, [], ◌∷◌, ◌≡◌, ◌+◌, ◌<◌, refl, sym, ap, ◌∙◌, subst, arith, inl, inr, length, Some}
use Rattle.std.specs.List.{sum_by, slice_get}
use Rattle.std.proofs.lemmas.Bool.{eqb-true, cases_Bool}
use Rattle.std.proofs.lemmas.List.Sums.{sum_by-cons}
use Rattle.hpx_journal.specs.Bags.{total}
use Rattle.hpx_journal.specs.Entries.{Rules}
use Rattle.hpx_journal.specs.declared.entry.Entry.{Entry}
use Rattle.hpx_ended.specs.declared.round.Verdict.TheVariants.{Ended}
use Rattle.hpx_ended.specs.Waves.{Answers, sent_in, taken_in, sent_at, taken_at}
use Rattle.hpx_ended.specs.Tally.{Tally, Tells, sent_of, taken_of, waits, is_found, verdict_of}

total-first : (n : ℕ) (f : ℕ → ℕ) → total (suc n) f ≡ f 0 + total n (λ k. f (suc k))
total-first zero f = refl
total-first (suc n) f = omega (arith, total-first n f)

sums : {X : Type 0} (g : X → ℕ) (xs : List X) (f : ℕ → ℕ) → ((k : ℕ) → k < length xs → (x : X) × (slice_get xs k ≡ Some x) × (g x ≡ f k))
    → sum_by g xs ≡ total (length xs) f
sums g [] f h = refl
sums g (x ∷ xs) f h =
    let a : sum_by g xs ≡ total (length xs) (λ k. f (suc k)) = sums g xs (λ k. f (suc k)) (λ k i. h (suc k) (omega arith)) in
    let b : g x ≡ f 0 = first (h 0 (omega arith)) in
    omega (arith, sum_by-cons g x xs, a, b, total-first (length xs) f)
  where
    first : (y : _) × (slice_get (x ∷ xs) 0 ≡ Some y) × (g y ≡ f 0) → g x ≡ f 0
    first (y, e, s) = cc

found : (n : ℕ) (m : ℕ) → is_found n (Some m) ≡ true → n ≡ m
found n m h = eqb-true n m h

ends : (t : Tally) (m : ℕ) → t.earlier ≡ Some m → verdict_of t ≡ Ended → sum_by sent_of t.answers ≡ m
ends t m e h = elim (cases_Bool (waits t)) [
  | inl w ↦ absurd (cc)
  | inr w ↦ elim (cases_Bool (is_found (sum_by sent_of t.answers) t.earlier)) [
    | inl f ↦ found (sum_by sent_of t.answers) m (subst (λ x. is_found (sum_by sent_of t.answers) x ≡ true) e f)
    | inr f ↦ absurd (cc)
  ]
]

module _ (r : Rules) (es : List Entry) (v : Answers) (w : ℕ) (t : Tally) (tells : Tells r es v w t) where
  pub tells_sent : sum_by sent_of t.answers ≡ sent_in r es v (suc w)
  tells_sent =
      sums sent_of t.answers (sent_at r es v (suc w)) (λ k h. (_, tells.answers k (omega (arith, h, tells.members)), refl))
      ∙ ap (λ n. total n (sent_at r es v (suc w))) tells.members

  pub tells_taken : sum_by taken_of t.answers ≡ taken_in r es v (suc w)
  tells_taken =
      sums taken_of t.answers (taken_at r es v (suc w)) (λ k h. (_, tells.answers k (omega (arith, h, tells.members)), refl))
      ∙ ap (λ n. total n (taken_at r es v (suc w))) tells.members

  pub tells_ended : verdict_of t ≡ Ended → taken_in r es v w ≡ sent_in r es v (suc w)
  tells_ended h = sym (ends t (taken_in r es v w) tells.before h) ∙ tells_sent
