-- Each id of a hand is halved once less often than it is named, whether some of it is split ahead or not.
use Rattle.std.proofs.Common.{ℕ, zero, suc, List, [], ◌∷◌, ◌≡◌, ◌+◌, ◌-◌, ◌≤◌, drop, length, length-append, refl, ap, arith}
use Rattle.hpx_value.specs.Hands.{session, id_at}
use Rattle.hpx_journal.specs.Data.{Id}
use Rattle.hpx_commit.specs.Deals.{named, AreWithin}
use Rattle.hpx_commit.specs.Stocks.{Stock, halvings, ahead, IsAhead}
use Rattle.hpx_commit.proofs.Ahead.{halvings_need, ahead_is}
use Rattle.hpx_tables.specs.Splits.{first_cuts, cuts, splits_from}
use Rattle.hpx_tables.proofs.Cutting.{cuts_long}
use Rattle.hpx_tables.proofs.FirstCuts.{plus_one, drop_at}

-- how many halves k places cost, from place p on
abbrev cost : ℕ → ℕ → List ℕ → ℕ
cost zero p places = 0
cost (suc k) p places = named places p - 1 + cost k (p + 1) places

-- how many of them are taken ahead
abbrev early : ℕ → ℕ → Stock → ℕ
early zero p s = 0
early (suc k) p s = halvings (id_at s.hand p) (named s.places p) + early k (p + 1) s

cost_append : (a b p : ℕ) (places : List ℕ) → cost (a + b) p places ≡ cost a p places + cost b (p + a) places
cost_append zero b p places =
    let many : 0 + b ≡ b = omega arith in
    let place : p ≡ p + 0 = omega arith in
    omega (arith, ap (λ n. cost n p places) many, ap (λ q. cost b q places) place)
cost_append (suc a) b p places =
    let many : suc a + b ≡ suc (a + b) = omega arith in
    let place : p + 1 + a ≡ p + suc a = omega arith in
    omega (arith, ap (λ n. cost n p places) many, cost_append a b (p + 1) places, ap (λ q. cost b q places) place)

splits_long : (ids : List Id) (p : ℕ) (places : List ℕ) → length (splits_from p ids places) ≡ cost (length ids) p places
splits_long [] p places = refl
splits_long (id ∷ ids) p places = omega (
  arith,
  length-append (cuts id (named places p)) (splits_from (p + 1) ids places),
  cuts_long id (named places p) (named places p - 1) refl,
  splits_long ids (p + 1) places,
)

first_long : (k p : ℕ) (s : Stock) → p + k ≤ length s.hand → length (first_cuts k p (drop p s.hand) s.places) ≡ early k p s
first_long zero p s h = refl
first_long (suc k) p s h = omega (
  arith,
  ap (λ xs. length (first_cuts (suc k) p xs s.places)) (drop_at s.hand p session (omega (arith, h))),
  length-append (cuts (id_at s.hand p) (suc (halvings (id_at s.hand p) (named s.places p)))) (first_cuts k (p + 1) (drop (suc p) s.hand) s.places),
  cuts_long (id_at s.hand p) (suc (halvings (id_at s.hand p) (named s.places p))) (halvings (id_at s.hand p) (named s.places p)) (omega arith),
  ap (λ q. length (first_cuts k (p + 1) (drop q s.hand) s.places)) (plus_one p),
  first_long k (p + 1) s (omega (arith, h)),
)

module _ (n : ℕ) (s t : Stock) (h : IsAhead n s t) where
  first_cost : (k p : ℕ) → p + k ≤ n → early k p s + cost k p t.places ≡ cost k p s.places
  first_cost zero p le = refl
  first_cost (suc k) p le =
      let one = (h.first p (omega (arith, le))).others in
      omega (arith, one, halvings_need (id_at s.hand p) (named s.places p), first_cost k (p + 1) (omega (arith, le)))

  rest_cost : (k p : ℕ) → n ≤ p → p + k ≤ length s.hand → cost k p t.places ≡ cost k p s.places
  rest_cost zero p from le = refl
  rest_cost (suc k) p from le =
      let one = (h.rest p from (omega (arith, le))).others in omega (arith, one, rest_cost k (p + 1) (omega (arith, from)) (omega (arith, le)))

  half_cost : (k p : ℕ) → length s.hand ≤ p → p + k ≤ length t.hand → cost k p t.places ≡ 0
  half_cost zero p from le = refl
  half_cost (suc k) p from le =
      let one = h.halves p from (omega (arith, le)) in omega (arith, one, half_cost k (p + 1) (omega (arith, from)) (omega (arith, le)))

pub all_cuts : (n : ℕ) (s : Stock) (hand : List Id) → n ≤ length s.hand → AreWithin s.hand s.places → length hand ≡ length (ahead n s).hand
    → length (first_cuts n 0 s.hand s.places) + length (splits_from 0 hand (ahead n s).places) ≡ length (splits_from 0 s.hand s.places)
all_cuts n s hand le within same =
    let t : Stock = ahead n s in
    let h : IsAhead n s (ahead n s) = ahead_is n s le within in
    let longer = h.longer in
    let a : ℕ = length s.hand - n in
    let b : ℕ = length (ahead n s).hand - length s.hand in
    let old : length s.hand ≡ n + (length s.hand - n) = omega (arith, le) in
    let new : length hand ≡ n + ((length s.hand - n) + (length (ahead n s).hand - length s.hand)) = omega (arith, le, longer, same) in
    omega (
      arith,
      first_long n 0 s (omega (arith, le)),
      splits_long hand 0 (ahead n s).places,
      splits_long s.hand 0 s.places,
      ap (λ k. cost k 0 s.places) old,
      cost_append n (length s.hand - n) 0 s.places,
      ap (λ k. cost k 0 (ahead n s).places) new,
      cost_append n ((length s.hand - n) + (length (ahead n s).hand - length s.hand)) 0 (ahead n s).places,
      cost_append (length s.hand - n) (length (ahead n s).hand - length s.hand) (0 + n) (ahead n s).places,
      first_cost n s (ahead n s) h n 0 (omega arith),
      rest_cost n s (ahead n s) h (length s.hand - n) (0 + n) (omega arith) (omega (arith, le)),
      half_cost n s (ahead n s) h (length (ahead n s).hand - length s.hand) (0 + n + (length s.hand - n)) (omega (arith, le)) (omega (arith, le, longer)),
    )
