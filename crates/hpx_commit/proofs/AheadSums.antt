-- What a stock weighs once its first places are split ahead.
use Rattle.std.proofs.Common.{ℕ, zero, suc, List, [], ◌∷◌, ◌≡◌, ◌+◌, ◌-◌, ◌<◌, ◌≤◌, length, refl, ap, ◌∙◌, arith, add-one}
use Rattle.std.specs.List.{sum_by}
use Rattle.std.proofs.lemmas.List.Sums.{sum_by-cons, sum_by-append}
use Rattle.hpx_value.specs.Ids.{Id}
use Rattle.hpx_value.specs.Hands.{id_at}
use Rattle.hpx_commit.specs.Deals.{half, named, shares, AreWithin}
use Rattle.hpx_commit.specs.Stocks.{Stock, take_half, take_halves, halvings, ahead_from, ahead, parts_from}
use Rattle.hpx_commit.proofs.Moved.{half_size, half_at, half_less, half_same, half_sums}
use Rattle.hpx_commit.proofs.Ahead.{IsHalved, halves_taken, halvings_need, halvings_same, unmoved}

module _ (f : Id → ℕ) where
  -- the halves of one id
  halves_sum : (k p : ℕ) (s : Stock) → p < length s.hand → AreWithin s.hand s.places → k ≤ named s.places p - 1
      → sum_by f (take_halves k p s).hand + f (id_at s.hand p) ≡ sum_by f s.hand + sum_by f (shares (id_at s.hand p) (k + 1))
  halves_sum zero p s here within more = omega (arith, sum_by-cons f (id_at s.hand p) [])
  halves_sum (suc k) p s here within more =
      let two : 2 ≤ named s.places p = omega (arith, more) in
      let less : named (take_half p s).places p + 1 ≡ named s.places p = half_less s p here within two in
      let then : sum_by f (take_halves k p (take_half p s)).hand + f (id_at (take_half p s).hand p)
      ≡ sum_by f (take_half p s).hand + sum_by f (shares (id_at (take_half p s).hand p) (k + 1)) =
      halves_sum k p (take_half p s) (omega (arith, here, half_size s p here)) (half_same s p here within two).objects.within (omega (arith, more, less)) in
      let half_is : f (id_at (take_half p s).hand p) ≡ f (half (id_at s.hand p)) = ap f (half_at s p here) in
      let parts_are : sum_by f (shares (id_at (take_half p s).hand p) (k + 1)) ≡ sum_by f (shares (half (id_at s.hand p)) (suc k)) =
      rw add-one (ap (λ x. sum_by f (shares x (suc k))) (half_at s p here)) in
      let all : sum_by f (shares (id_at s.hand p) (suc k + 1)) ≡ f (half (id_at s.hand p)) + sum_by f (shares (half (id_at s.hand p)) (suc k)) =
      rw add-one (sum_by-cons f (half (id_at s.hand p)) (shares (half (id_at s.hand p)) (suc k))) in
      omega (arith, then, half_is, parts_are, all, half_sums s p here f)

  -- what the ids at so many places weigh, and what their parts do
  whole : ℕ → ℕ → Stock → ℕ
  whole zero p s = 0
  whole (suc k) p s = f (id_at s.hand p) + whole k (p + 1) s

  parted : ℕ → ℕ → Stock → ℕ
  parted zero p s = 0
  parted (suc k) p s = sum_by f (shares (id_at s.hand p) (halvings (id_at s.hand p) (named s.places p) + 1)) + parted k (p + 1) s

  whole_same : (k p : ℕ) (s t : Stock) → ((q : ℕ) → p ≤ q → q < p + k → id_at t.hand q ≡ id_at s.hand q) → whole k p t ≡ whole k p s
  unfolding whole
  whole_same zero p s t h = refl
  whole_same (suc k) p s t h =
      let first : f (id_at t.hand p) ≡ f (id_at s.hand p) = ap f (h p (omega arith) (omega arith)) in
      omega (arith, first, whole_same k (p + 1) s t (λ q le lt. h q (omega (arith, le)) (omega (arith, lt))))

  parted_same : (k p : ℕ) (s t : Stock) → ((q : ℕ) → p ≤ q → q < p + k → id_at t.hand q ≡ id_at s.hand q)
      → ((q : ℕ) → p ≤ q → q < p + k → named t.places q ≡ named s.places q) → parted k p t ≡ parted k p s
  unfolding parted
  parted_same zero p s t h i = refl
  parted_same (suc k) p s t h i =
      let same = h p (omega arith) (omega arith) in
      let count = i p (omega arith) (omega arith) in
      let first : sum_by f (shares (id_at t.hand p) (halvings (id_at t.hand p) (named t.places p) + 1))
      ≡ sum_by f (shares (id_at s.hand p) (halvings (id_at s.hand p) (named s.places p) + 1)) =
      ap (λ n. sum_by f (shares (id_at t.hand p) (n + 1))) (halvings_same (id_at t.hand p) (id_at s.hand p) (named t.places p) (named s.places p) same count)
      ∙ ap (λ x. sum_by f (shares x (halvings (id_at s.hand p) (named s.places p) + 1))) same in
      omega (arith, first, parted_same k (p + 1) s t (λ q le lt. h q (omega (arith, le)) (omega (arith, lt))) (λ q le lt. i q (omega (arith, le)) (omega (arith, lt))))

  from_sum : (k p : ℕ) (s : Stock) → p + k ≤ length s.hand → AreWithin s.hand s.places
      → sum_by f (ahead_from k p s).hand + whole k p s ≡ sum_by f s.hand + parted k p s
  unfolding whole parted
  from_sum zero p s fits within = omega arith
  from_sum (suc k) p s fits within =
      let h = halvings (id_at s.hand p) (named s.places p) in
      let t = take_halves (halvings (id_at s.hand p) (named s.places p)) p s in
      let one : IsHalved (halvings (id_at s.hand p) (named s.places p)) p s (take_halves (halvings (id_at s.hand p) (named s.places p)) p s) =
      halves_taken h p s (omega (arith, fits)) within (halvings_need (id_at s.hand p) (named s.places p)) in
      let stays = λ (q : ℕ) (le : p + 1 ≤ q) (lt : q < p + 1 + k). one.rest q (λ e. absurd (omega (arith, e, le))) (omega (arith, lt, fits)) in
      omega (
        arith,
        from_sum k (p + 1) t (omega (arith, fits, one.size)) one.same.objects.within,
        halves_sum h p s (omega (arith, fits)) within (halvings_need (id_at s.hand p) (named s.places p)),
        whole_same k (p + 1) s t (λ q le lt. (stays q le lt).part),
        parted_same k (p + 1) s t (λ q le lt. (stays q le lt).part) (λ q le lt. unmoved (named t.places q) (named s.places q) (stays q le lt).others),
      )

  -- the ids from a place on, in parts
  parts_sum : (k p : ℕ) (ids : List Id) (s : Stock) → ((i : ℕ) → i < length ids → id_at s.hand (p + i) ≡ id_at ids i) → k ≤ length ids
      → sum_by f (parts_from k p ids s.places) + whole k p s ≡ sum_by f ids + parted k p s
  unfolding whole parted
  parts_sum zero p [] s h le = omega arith
  parts_sum (suc k) p [] s h le = absurd (omega (arith, le))
  parts_sum zero p (id ∷ ids) s h le = omega arith
  parts_sum (suc k) p (id ∷ ids) s h le =
      let here : id_at s.hand p ≡ id = ap (id_at s.hand) (none p) ∙ h 0 (omega arith) in
      let weighs : f (id_at s.hand p) ≡ f id = ap f here in
      let splits : sum_by f (shares (id_at s.hand p) (halvings (id_at s.hand p) (named s.places p) + 1))
      ≡ sum_by f (shares id (halvings id (named s.places p) + 1)) =
      ap (λ x. sum_by f (shares x (halvings x (named s.places p) + 1))) here in
      omega (
        arith,
        weighs,
        splits,
        sum_by-cons f id ids,
        sum_by-append f (shares id (halvings id (named s.places p) + 1)) (parts_from k (p + 1) ids s.places),
        parts_sum k (p + 1) ids s (λ i lt. ap (id_at s.hand) (more p i) ∙ h (suc i) (omega (arith, lt))) (omega (arith, le)),
      )
    where
      none : (p : ℕ) → p ≡ p + 0
      none p = omega arith

      more : (p i : ℕ) → p + 1 + i ≡ p + suc i
      more p i = omega arith

  pub ahead_sums : (n : ℕ) (s : Stock) → n ≤ length s.hand → AreWithin s.hand s.places
      → sum_by f (ahead n s).hand ≡ sum_by f (parts_from n 0 s.hand s.places)
  ahead_sums n s fits within = omega (
    arith,
    from_sum n 0 s (omega (arith, fits)) within,
    parts_sum n 0 s.hand s (λ i lt. ap (id_at s.hand) (same i)) fits,
  )
    where
      same : (i : ℕ) → 0 + i ≡ i
      same i = omega arith
