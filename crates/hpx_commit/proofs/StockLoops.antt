-- Steps of the loops over a stock.
use Rattle.std.proofs.Common.{ℕ, zero, suc, true, cond, nat_le, List, [], ◌∷◌, ◌++◌, ◌≡◌, ◌+◌, ◌-◌, ◌<◌, ◌≤◌, ◌==◌, set, length, take, drop, append_assoc, refl, sym, ap, ◌∙◌, arith, add-one}
use Rattle.std.specs.List.{slice_index_or}
use Rattle.std.proofs.lemmas.Bool.{eq-eqb}
use Rattle.hpx_value.specs.Ids.{Id}
use Rattle.hpx_value.specs.Hands.{id_at}
use Rattle.hpx_commit.specs.Deals.{log_of, named}
use Rattle.hpx_commit.specs.Stocks.{Stock, first_moved, take_half, take_halves, halvings, split_place, ahead_from, short_from, Lasting}
use Rattle.hpx_commit.proofs.Deals.{drop_at, log_half}
use Rattle.hpx_commit.proofs.Moved.{half_size, half_at}
use Rattle.hpx_commit.proofs.Short.{yes, no}

-- ---- the first that names a place

set_parts : (ps : List ℕ) (i q : ℕ) → i < length ps → set ps i q ≡ take i ps ++ q ∷ drop (suc i) ps
set_parts [] i q h = absurd (omega arith)
set_parts (p ∷ ps) zero q h = refl
set_parts (p ∷ ps) (suc i) q h = ap (λ xs. p ∷ xs) (set_parts ps i q (omega (arith, h)))

pub moved_here : (p q i : ℕ) (ps all : List ℕ) → i < length ps → slice_index_or ps i 0 ≡ p
    → take i ps ++ first_moved p q (drop i ps) ≡ all → set ps i q ≡ all
moved_here p q i ps all h e at =
    let t : (slice_index_or ps i 0 == p) ≡ true = eq-eqb (slice_index_or ps i 0) p e in
    let rest : drop i ps ≡ slice_index_or ps i 0 ∷ drop (i + 1) ps = drop_at ps i 0 h in
    let now : first_moved p q (drop i ps) ≡ q ∷ drop (suc i) ps =
    ap (first_moved p q) rest ∙ (ap (λ b. cond b (q ∷ drop (i + 1) ps) (slice_index_or ps i 0 ∷ first_moved p q (drop (i + 1) ps))) t
    ∙ rw add-one refl) in
    set_parts ps i q h ∙ (ap (λ xs. take i ps ++ xs) (sym now) ∙ at)

-- ---- halves of one id

-- what a loop keeps that halved the id at a place i times
pub record IsTaking (place times i : ℕ) (s0 s : Stock) : Type 0 where
  pub here : place < length s.hand
  pub log : times - i ≤ log_of (id_at s.hand place).log
  pub all : take_halves (times - i) place s ≡ take_halves times place s0

pub taking_first : (place times : ℕ) (s : Stock) → place < length s.hand → times ≤ log_of (id_at s.hand place).log → IsTaking place times 0 s s
taking_first place times s here log = record {
  here = here;
  log = omega (arith, log);
  all = ap (λ n. take_halves n place s) (none times);
}
  where
    none : (n : ℕ) → n - 0 ≡ n
    none n = omega arith

pub taking_next : (place times i : ℕ) (s0 s : Stock) → i < times → IsTaking place times i s0 s → IsTaking place times (i + 1) s0 (take_half place s)
taking_next place times i s0 s h at =
    let now : times - i ≡ suc (times - (i + 1)) = omega (arith, h) in
    let log : log_of (id_at (take_half place s).hand place).log ≡ log_of (id_at s.hand place).log - 1 =
    ap (λ (x : Id). log_of x.log) (half_at s place at.here) ∙ log_half (id_at s.hand place).log in record {
      here = omega (arith, at.here, half_size s place at.here);
      log = omega (arith, at.log, now, log);
      all = ap (λ n. take_halves n place s) (sym now) ∙ at.all;
    }

pub taking_some : (place times i : ℕ) (s0 s : Stock) → i < times → IsTaking place times i s0 s → 1 ≤ log_of (id_at s.hand place).log
taking_some place times i s0 s h at = omega (arith, h, at.log)

pub taking_last : (place times i : ℕ) (s0 s : Stock) → times ≤ i → IsTaking place times i s0 s → s ≡ take_halves times place s0
taking_last place times i s0 s h at = let none : times - i ≡ 0 = omega (arith, h) in ap (λ n. take_halves n place s) (sym none) ∙ at.all

-- ---- the first places

-- what a loop keeps that split the first i places
pub record IsSplitting (n i : ℕ) (s0 s : Stock) : Type 0 where
  pub fits : n ≤ length s.hand
  pub all : ahead_from (n - i) i s ≡ ahead_from n 0 s0

pub halves_longer : (k p : ℕ) (s : Stock) → p < length s.hand → length s.hand ≤ length (take_halves k p s).hand
halves_longer zero p s h = omega arith
halves_longer (suc k) p s h =
    omega (arith, half_size s p h, halves_longer k p (take_half p s) (omega (arith, h, half_size s p h)))

pub splitting_first : (n : ℕ) (s : Stock) → n ≤ length s.hand → IsSplitting n 0 s s
splitting_first n s fits = record { fits = fits; all = ap (λ k. ahead_from k 0 s) (none n) }
  where
    none : (n : ℕ) → n - 0 ≡ n
    none n = omega arith

pub splitting_next : (n i : ℕ) (s0 s : Stock) → i < n → IsSplitting n i s0 s → IsSplitting n (i + 1) s0 (split_place i s)
splitting_next n i s0 s h at =
    let now : n - i ≡ suc (n - (i + 1)) = omega (arith, h) in record {
      fits = omega (arith, at.fits, halves_longer (halvings (id_at s.hand i) (named s.places i)) i s (omega (arith, h, at.fits)));
      all = ap (λ k. ahead_from k i s) (sym now) ∙ at.all;
    }

pub splitting_here : (n i : ℕ) (s0 s : Stock) → i < n → IsSplitting n i s0 s → i < length s.hand
splitting_here n i s0 s h at = omega (arith, h, at.fits)

pub splitting_last : (n i : ℕ) (s0 s : Stock) → n ≤ i → IsSplitting n i s0 s → s ≡ ahead_from n 0 s0
splitting_last n i s0 s h at = let none : n - i ≡ 0 = omega (arith, h) in ap (λ k. ahead_from k i s) (sym none) ∙ at.all

-- ---- places whose ids do not last

short_step : (n i : ℕ) (s : Stock) → i < n → short_from (n - i) i s
    ≡ cond (nat_le (named s.places i) (log_of (id_at s.hand i).log + 1)) (short_from (n - (i + 1)) (i + 1) s) (i ∷ short_from (n - (i + 1)) (i + 1) s)
short_step n i s h = let now : n - i ≡ suc (n - (i + 1)) = omega (arith, h) in ap (λ k. short_from k i s) now

pub short_same : (n i : ℕ) (s : Stock) (out all : List ℕ) → i < n → Lasting s i → out ++ short_from (n - i) i s ≡ all
    → out ++ short_from (n - (i + 1)) (i + 1) s ≡ all
short_same n i s out all h lasts at =
    let rest = short_from (n - (i + 1)) (i + 1) s in
    let t = yes (named s.places i) (log_of (id_at s.hand i).log + 1) lasts in
    ap (λ ps. out ++ ps) (sym (short_step n i s h ∙ ap (λ b. cond b rest (i ∷ rest)) t)) ∙ at

pub short_more : (n i : ℕ) (s : Stock) (out all : List ℕ) → i < n → (Lasting s i → ⊥) → out ++ short_from (n - i) i s ≡ all
    → (out ++ i ∷ []) ++ short_from (n - (i + 1)) (i + 1) s ≡ all
short_more n i s out all h short at =
    let rest = short_from (n - (i + 1)) (i + 1) s in
    let t = no (named s.places i) (log_of (id_at s.hand i).log + 1) short in
    append_assoc out (i ∷ []) rest ∙ (ap (λ ps. out ++ ps) (sym (short_step n i s h ∙ ap (λ b. cond b rest (i ∷ rest)) t)) ∙ at)
