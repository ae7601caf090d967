-- What localities count of one object's moves, put together.
use Rattle.std.proofs.Common.{ℕ, ◌≡◌, ◌+◌, ◌<◌, sym, subst, arith, inl, inr}
use Rattle.std.proofs.lemmas.Bool.{cases_eq}
use Rattle.hpx_journal.specs.Bags.{total}
use Rattle.hpx_journal.specs.Moving.{MoveCounts, IsCounted, IsOnTheRoad, IsTracked, going, untold}
use Rattle.hpx_journal.proofs.Bags.{total-same, total-add}

module _ (n h : ℕ) (m : MoveCounts) (c : IsCounted n h m) (road : IsOnTheRoad n h m) where
  -- a Go that was made is under way, or its object has left
  sent_is : (t k : ℕ) → t < n → k < n → m.sent t k ≡ going m t k + m.left t k
  sent_is t k lt within = elim (cases_eq k h) [
    | inl home ↦
        subst (λ j. m.sent t j ≡ going m t j + m.left t j) (sym home) (omega (arith, c.sent_own t lt, road.own_gos t lt))
    | inr other ↦ omega (arith, c.sent t k lt within other, road.gos t k lt within, c.taken t k lt within other)
  ]

  -- a landing was told, or is being told
  told_is : (t : ℕ) → t < n → m.told t + untold m t ≡ m.landed t
  told_is t lt = elim (cases_eq t h) [
    | inl home ↦ subst (λ j. m.told j + untold m j ≡ m.landed j) (sym home) (omega (arith, c.heard_own, road.own_tells))
    | inr other ↦ omega (arith, c.heard t lt other, c.tells t lt other, road.tells t lt)
  ]

  pub tracked : IsTracked n m
  tracked = record {
    moving = λ t lt. omega (
      arith,
      c.begun t lt,
      total-same n (λ k. m.sent t k) (λ k. going m t k + m.left t k) (λ k within. sent_is t k lt within),
      total-add n (λ k. going m t k) (λ k. m.left t k),
      total-same n (λ k. m.left t k) (λ k. m.ship_kept t k + m.ship_out t k) (λ k within. c.shipped t k lt within),
      total-add n (λ k. m.ship_kept t k) (λ k. m.ship_out t k),
      road.ships t lt,
      c.arrived t lt,
      told_is t lt,
    );
    stands = λ k lt. omega (
      arith,
      c.placed k lt,
      total-same n (λ t. m.sent t k) (λ t. going m t k + m.left t k) (λ t within. sent_is t k within lt),
      total-add n (λ t. going m t k) (λ t. m.left t k),
      c.place k lt,
      told_is k lt,
    );
  }
