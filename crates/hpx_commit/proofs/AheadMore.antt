-- More that holds of a stock once its first places are split ahead: what each id has, and how many ids there are.
use Rattle.std.proofs.Common.{ℕ, zero, suc, List, [], ◌∷◌, ◌++◌, ◌≡◌, ◌+◌, ◌-◌, ◌<◌, ◌≤◌, set, length, refl, arith, inl, inr}
use Rattle.std.specs.List.{AllByRecursion}
use Rattle.std.proofs.lemmas.Bool.{cases_eq}
use Rattle.hpx_value.specs.Ids.{Id}
use Rattle.hpx_value.specs.Hands.{id_at}
use Rattle.hpx_commit.specs.Deals.{half, named, AreWithin}
use Rattle.hpx_commit.specs.Stocks.{Stock, take_half, take_halves, halvings, split_place, ahead_from, ahead}
use Rattle.hpx_commit.proofs.Deals.{named_hit, named_miss}
use Rattle.hpx_commit.proofs.Moved.{half_size}
use Rattle.hpx_commit.proofs.Ahead.{ahead_is, ahead_same}
use Rattle.hpx_commit.proofs.StockLoops.{halves_longer}

-- ---- what each id has

module _ (P : Id → Type 0) where
  pub all_at : (ids : List Id) (p : ℕ) → p < length ids → AllByRecursion P ids → P (id_at ids p)
  all_at [] p h all = absurd (omega (arith, h))
  all_at (id ∷ ids) zero h all = all.0
  all_at (id ∷ ids) (suc p) h all = all_at ids p (omega (arith, h)) all.1

  pub all_set : (ids : List Id) (p : ℕ) (x : Id) → P x → AllByRecursion P ids → AllByRecursion P (set ids p x)
  all_set [] p x h all = tt
  all_set (id ∷ ids) zero x h all = (h, all.1)
  all_set (id ∷ ids) (suc p) x h all = (all.0, all_set ids p x h all.1)

  pub all_more : (ids : List Id) (x : Id) → P x → AllByRecursion P ids → AllByRecursion P (ids ++ x ∷ [])
  all_more [] x h all = (h, tt)
  all_more (id ∷ ids) x h all = (all.0, all_more ids x h all.1)

  module _ (halves : (id : Id) → P id → P (half id)) where
    all_half : (p : ℕ) (s : Stock) → p < length s.hand → AllByRecursion P s.hand → AllByRecursion P (take_half p s).hand
    all_half p s here all =
        let one : P (half (id_at s.hand p)) = halves (id_at s.hand p) (all_at s.hand p here all) in
        all_more (set s.hand p (half (id_at s.hand p))) (half (id_at s.hand p)) one (all_set s.hand p (half (id_at s.hand p)) one all)

    all_halves : (k p : ℕ) (s : Stock) → p < length s.hand → AllByRecursion P s.hand → AllByRecursion P (take_halves k p s).hand
    all_halves zero p s here all = all
    all_halves (suc k) p s here all = all_halves k p (take_half p s) (omega (arith, here, half_size s p here)) (all_half p s here all)

    all_from : (k p : ℕ) (s : Stock) → p + k ≤ length s.hand → AllByRecursion P s.hand → AllByRecursion P (ahead_from k p s).hand
    all_from zero p s fits all = all
    all_from (suc k) p s fits all =
        let here : p < length s.hand = omega (arith, fits) in
        let longer = halves_longer (halvings (id_at s.hand p) (named s.places p)) p s here in
        all_from k (p + 1) (split_place p s) (omega (arith, fits, longer)) (all_halves (halvings (id_at s.hand p) (named s.places p)) p s here all)

    -- what each id has, and each half then, each id has once they are split ahead
    pub all_ahead : (n : ℕ) (s : Stock) → n ≤ length s.hand → AllByRecursion P s.hand → AllByRecursion P (ahead n s).hand
    all_ahead n s fits all = all_from n 0 s (omega (arith, fits)) all

-- ---- how many ids there are

-- how often so many places are named, from place m on
naming : ℕ → ℕ → List ℕ → ℕ
naming zero m ps = 0
naming (suc j) m ps = named ps m + naming j (m + 1) ps

naming_past : (j m r : ℕ) (rs : List ℕ) → r < m → naming j m (r ∷ rs) ≡ naming j m rs
unfolding naming
naming_past zero m r rs h = refl
naming_past (suc j) m r rs h =
    let miss : named (r ∷ rs) m ≡ named rs m = named_miss r rs m (λ e. absurd (omega (arith, e, h))) in
    omega (arith, miss, naming_past j (m + 1) r rs (omega (arith, h)))

naming_cons : (j m r : ℕ) (rs : List ℕ) → naming j m (r ∷ rs) ≤ naming j m rs + 1
unfolding naming
naming_cons zero m r rs = omega arith
naming_cons (suc j) m r rs = elim (cases_eq r m) [
  | inl e ↦
      let hit : named (r ∷ rs) m ≡ suc (named rs m) = rw e (named_hit rs m) in
      omega (arith, hit, naming_past j (m + 1) r rs (omega (arith, e)))
  | inr d ↦
      let miss : named (r ∷ rs) m ≡ named rs m = named_miss r rs m d in
      omega (arith, miss, naming_cons j (m + 1) r rs)
]

naming_none : (j m : ℕ) → naming j m [] ≡ 0
unfolding naming
naming_none zero m = refl
naming_none (suc j) m = omega (arith, naming_none j (m + 1))

naming_few : (j m : ℕ) (ps : List ℕ) → naming j m ps ≤ length ps
naming_few j m [] = omega (arith, naming_none j m)
naming_few j m (r ∷ rs) = omega (arith, naming_cons j m r rs, naming_few j m rs)

naming_ones : (j m : ℕ) (ps : List ℕ) → ((q : ℕ) → m ≤ q → q < m + j → named ps q ≡ 1) → naming j m ps ≡ j
unfolding naming
naming_ones zero m ps h = refl
naming_ones (suc j) m ps h =
    omega (arith, h m (omega arith) (omega arith), naming_ones j (m + 1) ps (λ q le lt. h q (omega (arith, le)) (omega (arith, lt))))

-- a half for each who names a place, at the most
pub ahead_few : (n : ℕ) (s : Stock) → n ≤ length s.hand → AreWithin s.hand s.places
    → length (ahead n s).hand ≤ length s.hand + length s.places
ahead_few n s fits within =
    let is = ahead_is n s fits within in
    let j = length (ahead n s).hand - length s.hand in
    let size : length s.hand + (length (ahead n s).hand - length s.hand) ≡ length (ahead n s).hand = omega (arith, is.longer) in
    omega (
      arith,
      is.longer,
      naming_few j (length s.hand) (ahead n s).places,
      naming_ones j (length s.hand) (ahead n s).places (λ q le lt. is.halves q le (omega (arith, lt, size))),
      (ahead_same n s fits within).objects.as_many,
    )
