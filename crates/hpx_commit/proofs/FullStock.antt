-- The stock of a commit that waited, once all credit has come: it names what the hand named, and each of its ids lasts.
use Rattle.std.proofs.Common.{ℕ, zero, suc, false, List, [], ◌∷◌, ◌++◌, ◌≡◌, ◌≤◌, ◌<◌, ◌+◌, ◌-◌, ◌⊎◌, Some, set, take, drop, map, length, length-append, append_assoc, refl, sym, ap, ◌∙◌, arith, inl, inr, subst, take-append-drop}
use Rattle.std.specs.Prelude.{is_some}
use Rattle.std.specs.List.{AllByRecursion}
use Rattle.std.proofs.lemmas.Bool.{cases_lt, cases_Bool}
use Rattle.std.proofs.lemmas.List.{length-set, length-map, length-take-le, drop-set-lt, drop-drop, drop_at, get_or-take}
use Rattle.std.proofs.Math.Seq.{get_or-append_right}
use Rattle.hpx_value.specs.Ids.{Id, bare}
use Rattle.hpx_value.specs.Hands.{id_at, session}
use Rattle.hpx_commit.specs.Deals.{is_managed, log_of, named, unnamed, AreWithin, AllLast}
use Rattle.hpx_commit.specs.Stocks.{Stock, ahead, replaced_from, Lasting, SameNames}
use Rattle.hpx_commit.proofs.Ahead.{ahead_is, ahead_same, names_then}
use Rattle.hpx_commit.proofs.AheadMore.{ahead_few, all_ahead}
use Rattle.hpx_commit.proofs.Deals.{past_hand}
use Rattle.hpx_commit.proofs.Later.{later_made}
use Rattle.hpx_commit.proofs.Moved.{at_longer, unnamed_alike, wider}
use Rattle.hpx_commit.proofs.Places.{all_from, map_each, same_at}
use Rattle.hpx_commit.proofs.Rights.{AreRight, right_at, right_half}
use Rattle.hpx_commit.proofs.Short.{short_is, ahead_lasts, place_bare, refilled}

-- ---- lists

plus_one : (n : ℕ) → suc n ≡ n + 1
plus_one n = omega arith

take_set : (n : ℕ) (xs : List Id) (x : Id) → n < length xs → take (suc n) (set xs n x) ≡ take n xs ++ x ∷ []
take_set n [] x lt = absurd (omega (arith, lt))
take_set zero (y ∷ xs) x lt = refl
take_set (suc n) (y ∷ xs) x lt = ap (λ ys. y ∷ ys) (take_set n xs x (omega (arith, lt)))

drop_again : (m n : ℕ) (xs : List Id) → drop (suc m) (drop n xs) ≡ drop m (drop (suc n) xs)
drop_again m n xs = drop-drop (suc m) n xs ∙ (ap (λ k. drop k xs) (omega arith) ∙ sym (drop-drop m (suc n) xs))

at_past : (n : ℕ) (xs ys zs : List Id) (p : ℕ) → length xs ≡ n → length ys ≡ n → n ≤ p → id_at (xs ++ zs) p ≡ id_at (ys ++ zs) p
at_past n xs ys zs p e f le =
    get_or-append_right xs zs p session (omega (arith, e, le))
    ∙ (ap (λ k. id_at zs (p - k)) (e ∙ sym f) ∙ sym (get_or-append_right ys zs p session (omega (arith, f, le))))

at_front : (n : ℕ) (xs ys : List Id) (p : ℕ) → p < n → n ≤ length xs → id_at (take n xs ++ ys) p ≡ id_at xs p
at_front n xs ys p lt le = at_longer (take n xs) ys p (omega (arith, lt, length-take-le n xs le)) ∙ get_or-take n xs p session lt

-- other ids at the places from n on
pub replaced_split : (n : ℕ) (new xs : List Id) (ps : List ℕ) → n + length new ≤ length xs
    → replaced_from n new (record { hand = xs; places = ps }) ≡ record { hand = take n xs ++ (new ++ drop (length new) (drop n xs)); places = ps }
replaced_split n [] xs ps le = ap (λ ys. record { hand = ys; places = ps }) (sym (take-append-drop n xs))
replaced_split n (id ∷ new) xs ps le =
    let step : take (n + 1) (set xs n id) ≡ take n xs ++ id ∷ [] =
    ap (λ k. take k (set xs n id)) (sym (plus_one n)) ∙ take_set n xs id (omega (arith, le)) in
    let rest : drop (length new) (drop (n + 1) (set xs n id)) ≡ drop (suc (length new)) (drop n xs) =
    ap (λ k. drop (length new) (drop k (set xs n id))) (sym (plus_one n))
    ∙ (ap (drop (length new)) (drop-set-lt (suc n) xs n id (omega arith)) ∙ sym (drop_again (length new) n xs)) in
    replaced_split (n + 1) new (set xs n id) ps (omega (arith, le, length-set xs n id))
    ∙ (ap (λ ys. record { hand = ys ++ (new ++ drop (length new) (drop (n + 1) (set xs n id))); places = ps }) step
    ∙ (ap (λ ys. record { hand = ys; places = ps }) (append_assoc (take n xs) (id ∷ []) (new ++ drop (length new) (drop (n + 1) (set xs n id))))
    ∙ ap (λ ys. record { hand = take n xs ++ (id ∷ (new ++ ys)); places = ps }) rest))

zero_plus : (p : ℕ) → p ≡ 0 + p
zero_plus p = omega arith

-- ---- a hand of which the first places are the job's own, and what it makes stands behind them

module _ (own old new : List Id) (ps : List ℕ) (hand : List Id) (log : ℕ) (long : length new ≡ length old) (within : AreWithin (own ++ new) ps)
    (rest : drop (length own) hand ≡ drop (length own) (ahead (length own) (record { hand = own ++ old; places = ps })).hand)
    (front : map bare (take (length own) hand) ≡ map bare own) where
  abbrev n : ℕ
  n = length own

  abbrev start : Stock
  start = record { hand = own ++ new; places = ps }

  abbrev begun : Stock
  begun = record { hand = own ++ old; places = ps }

  abbrev split : Stock
  split = ahead (length own) (record { hand = own ++ new; places = ps })

  abbrev waiting : Stock
  waiting = ahead (length own) (record { hand = own ++ old; places = ps })

  abbrev pub full : Stock
  full = replaced_from (length own) new (record { hand = hand; places = (ahead (length own) (record { hand = own ++ old; places = ps })).places })

  fits : length own ≤ length (own ++ new)
  fits = omega (arith, length-append own new)

  fits_old : length own ≤ length (own ++ old)
  fits_old = omega (arith, length-append own old)

  within_old : AreWithin (own ++ old) ps
  within_old = wider (length (own ++ new)) (length (own ++ old)) ps (omega (arith, long, length-append own new, length-append own old)) within

  longer : length own + length new ≤ length split.hand
  longer = omega (arith, (ahead_is (length own) start fits within).longer, length-append own new)

  longer_old : length own + length new ≤ length waiting.hand
  longer_old = omega (arith, (ahead_is (length own) begun fits_old within_old).longer, length-append own old, long)

  abbrev halves : List Id
  halves = drop (length new) (drop (length own) split.hand)

  -- what it makes stands behind its own ids, and the halves behind that
  waiting_is : waiting ≡ record { hand = take n split.hand ++ (old ++ drop (length old) (drop n split.hand)); places = split.places }
  waiting_is = later_made (length own) own new old ps (omega arith) (sym long)
      ∙ replaced_split (length own) old split.hand split.places (omega (arith, longer, long))

  split_is : split ≡ record { hand = take n waiting.hand ++ (new ++ drop (length new) (drop n waiting.hand)); places = waiting.places }
  split_is = later_made (length own) own old new ps (omega arith) long ∙ replaced_split (length own) new waiting.hand waiting.places longer_old

  old_behind : drop n waiting.hand ≡ old ++ halves
  old_behind =
      ap (λ (s : Stock). drop n s.hand) waiting_is
      ∙ (drop_at (take n split.hand) (old ++ drop (length old) (drop n split.hand)) n (length-take-le n split.hand (omega (arith, longer)))
      ∙ ap (λ k. old ++ drop k (drop n split.hand)) (sym long))

  past_old : drop (length new) (old ++ halves) ≡ halves
  past_old = drop_at old halves (length new) (sym long)

  split_hand : split.hand ≡ take n waiting.hand ++ (new ++ halves)
  split_hand =
      ap (λ (s : Stock). s.hand) split_is
      ∙ ap (λ ys. take n waiting.hand ++ (new ++ ys)) (ap (drop (length new)) old_behind ∙ past_old)

  pub split_places : split.places ≡ waiting.places
  split_places = ap (λ (s : Stock). s.places) split_is

  behind : drop n hand ≡ old ++ halves
  behind = rest ∙ old_behind

  own_long : length (take n hand) ≡ n
  own_long = omega (arith, ap (λ (xs : List Id). length xs) front, length-map (take n hand) bare, length-map own bare)

  hand_parts : hand ≡ take n hand ++ (old ++ halves)
  hand_parts = sym (take-append-drop n hand) ∙ ap (λ ys. take n hand ++ ys) behind

  pub hand_long : n + length new ≤ length hand
  hand_long = omega (
    arith,
    ap (λ (xs : List Id). length xs) hand_parts,
    length-append (take n hand) (old ++ halves),
    length-append old halves,
    own_long,
    long,
  )

  full_is : full ≡ record { hand = take n hand ++ (new ++ halves); places = waiting.places }
  full_is =
      replaced_split n new hand waiting.places hand_long
      ∙ ap (λ ys. record { hand = take n hand ++ (new ++ ys); places = waiting.places }) (ap (drop (length new)) behind ∙ past_old)

  full_hand : full.hand ≡ take n hand ++ (new ++ halves)
  full_hand = ap (λ (s : Stock). s.hand) full_is

  full_places : full.places ≡ split.places
  full_places = ap (λ (s : Stock). s.places) full_is ∙ sym split_places

  waits_long : length (take n waiting.hand) ≡ n
  waits_long = length-take-le n waiting.hand (omega (arith, longer_old))

  -- ---- its ids, one by one

  pub full_own : (p : ℕ) → p < n → id_at full.hand p ≡ id_at hand p
  full_own p lt = ap (λ xs. id_at xs p) full_hand ∙ at_front n hand (new ++ halves) p lt (omega (arith, hand_long))

  split_own : (p : ℕ) → p < n → id_at split.hand p ≡ id_at waiting.hand p
  split_own p lt = ap (λ xs. id_at xs p) split_hand ∙ at_front n waiting.hand (new ++ halves) p lt (omega (arith, longer_old))

  full_past : (p : ℕ) → n ≤ p → id_at full.hand p ≡ id_at split.hand p
  full_past p le =
      ap (λ xs. id_at xs p) full_hand
      ∙ (at_past n (take n hand) (take n waiting.hand) (new ++ halves) p own_long waits_long le ∙ sym (ap (λ xs. id_at xs p) split_hand))

  pub full_bare : (p : ℕ) → bare (id_at full.hand p) ≡ bare (id_at split.hand p)
  full_bare p = elim (cases_lt p n) [
    | inl lt ↦
        let inside : p < length (own ++ new) = omega (arith, lt, fits) in
        let hand_at : id_at hand p ≡ id_at (take n hand) p =
        ap (λ xs. id_at xs p) hand_parts ∙ at_longer (take n hand) (old ++ halves) p (omega (arith, lt, own_long)) in
        ap bare (full_own p lt ∙ hand_at)
        ∙ (same_at bare (take n hand) own p front ∙ sym (place_bare (length own) start fits within p inside ∙ ap bare (at_longer own new p lt)))
    | inr le ↦ ap bare (full_past p le)
  ]

  full_long : length full.hand ≡ length split.hand
  full_long = omega (
    arith,
    ap (λ (xs : List Id). length xs) full_hand,
    ap (λ (xs : List Id). length xs) split_hand,
    length-append (take n hand) (new ++ halves),
    length-append (take n waiting.hand) (new ++ halves),
    own_long,
    waits_long,
  )

  pub full_size : length full.hand ≡ length hand
  full_size = omega (
    arith,
    ap (λ (xs : List Id). length xs) full_hand,
    ap (λ (xs : List Id). length xs) hand_parts,
    length-append (take n hand) (new ++ halves),
    length-append (take n hand) (old ++ halves),
    length-append new halves,
    length-append old halves,
    long,
  )

  pub full_few : length full.hand ≤ length (own ++ new) + length ps
  full_few = omega (arith, full_long, ahead_few (length own) start fits within)

  -- ---- who names them

  module _ (stays : (p : ℕ) → p < length own → Lasting waiting p → id_at hand p ≡ id_at waiting.hand p)
      (given : (p : ℕ) → p < length own → (Lasting waiting p → ⊥) → (id_at hand p).log ≡ Some log) (few : (p : ℕ) → named ps p ≤ log + 1)
      (made : (p : ℕ) → length own ≤ p → p < length (own ++ new) → Lasting start p) where
    waits_as : (p : ℕ) → p < n → Lasting split p → Lasting waiting p
    waits_as p lt h =
        let log_is : log_of (id_at split.hand p).log ≡ log_of (id_at waiting.hand p).log = ap (λ (x : Id). log_of x.log) (split_own p lt) in
        let many : named split.places p ≡ named waiting.places p = ap (λ qs. named qs p) split_places in
        omega (arith, h, log_is, many)

    splits_as : (p : ℕ) → p < n → Lasting waiting p → Lasting split p
    splits_as p lt h =
        let log_is : log_of (id_at split.hand p).log ≡ log_of (id_at waiting.hand p).log = ap (λ (x : Id). log_of x.log) (split_own p lt) in
        let many : named split.places p ≡ named waiting.places p = ap (λ qs. named qs p) split_places in
        omega (arith, h, log_is, many)

    past_lasts : (p : ℕ) → n ≤ p → Lasting split p
    past_lasts p le = ahead_lasts (length own) start fits within p (λ lt. made p le lt)

    few_split : (p : ℕ) → named split.places p ≤ log + 1
    few_split p =
        let is = ahead_is (length own) start fits within in
        let some = few p in elim (cases_lt p n) [
          | inl lt ↦ omega (arith, (is.first p lt).others, some)
          | inr le ↦ elim (cases_lt p (length (own ++ new))) [
            | inl here ↦ omega (arith, (is.rest p le here).others, some)
            | inr past ↦ elim (cases_lt p (length split.hand)) [
              | inl half ↦ omega (arith, is.halves p past half)
              | inr none ↦ omega (arith, past_hand split.hand split.places p (ahead_same (length own) start fits within).objects.within none)
            ]
          ]
        ]

    same_where : (p : ℕ) → Lasting split p → id_at full.hand p ≡ id_at split.hand p
    same_where p h = elim (cases_lt p n) [
      | inl lt ↦ full_own p lt ∙ (stays p lt (waits_as p lt h) ∙ sym (split_own p lt))
      | inr le ↦ full_past p le
    ]

    given_where : (p : ℕ) → p < n → (Lasting split p → ⊥) → (id_at full.hand p).log ≡ Some log
    given_where p lt h = ap (λ (x : Id). x.log) (full_own p lt) ∙ given p lt (λ i. h (splits_as p lt i))

    pub full_lasts : AllLast full.hand full.places
    full_lasts = subst (AllLast full.hand) (sym full_places) (refilled log (length own) split full.hand past_lasts few_split same_where given_where)

    -- an id that did not last is named
    named_where : (p : ℕ) → p < n → (Lasting split p → ⊥) → 2 ≤ named split.places p
    named_where p lt h = (short_is (length own) start fits within p lt (λ i. h (ahead_lasts (length own) start fits within p (λ _. i)))).1

    left_same : unnamed full.hand split.places ≡ unnamed split.hand split.places
    left_same = unnamed_alike 0 full.hand split.hand split.places split.places full_long (λ p lt. each p)
      where
        each : (p : ℕ) → ((id_at full.hand p ≡ id_at split.hand p) × (named split.places (0 + p) ≡ named split.places (0 + p)))
            ⊎ ((1 ≤ named split.places (0 + p)) × (1 ≤ named split.places (0 + p)))
        each p = elim (cases_lt (log_of (id_at split.hand p).log + 1) (named split.places p)) [
          | inr le ↦ inl (same_where p le, refl)
          | inl far ↦ elim (cases_lt p n) [
            | inr past ↦ inl (full_past p past, refl)
            | inl lt ↦
                let many : 2 ≤ named split.places p = named_where p lt (λ i. absurd (omega (arith, far, i))) in
                let some : 1 ≤ named split.places (0 + p) = omega (arith, many, ap (named split.places) (zero_plus p)) in
                inr (some, some)
          ]
        ]

    pub full_names : SameNames start full
    full_names = names_then start split full (ahead_same (length own) start fits within).objects (record {
      within = subst (AreWithin full.hand) (sym full_places)
          (wider (length split.hand) (length full.hand) split.places (omega (arith, full_long)) (ahead_same (length own) start fits within).objects.within);
      as_many = ap (λ (qs : List ℕ). length qs) full_places;
      names = ap (map (λ p. bare (id_at full.hand p))) full_places
          ∙ map_each (λ p. bare (id_at full.hand p)) (λ p. bare (id_at split.hand p)) split.places full_bare;
      left = ap (unnamed full.hand) full_places ∙ left_same;
    })

    -- each has its credit
    module _ (P Q : Id → Type 0) (are : AreRight P Q) (right : AllByRecursion P (own ++ new))
        (managed : (p : ℕ) → is_managed (id_at split.hand p) ≡ false → named split.places p ≡ 0) where
      pub full_right : AllByRecursion P full.hand
      full_right = all_from P full.hand (λ p lt. each p)
        where
          stays_right : (p : ℕ) → id_at full.hand p ≡ id_at split.hand p → P (id_at full.hand p)
          stays_right p e = subst P (sym e) (right_at P Q are split.hand p (all_ahead P (right_half P Q are) (length own) start fits right))

          came : (p : ℕ) → p < n → (Lasting split p → ⊥) → P (id_at full.hand p)
          came p lt far = elim (cases_Bool (is_managed (id_at split.hand p))) [
            | inl t ↦ are.so (id_at full.hand p) (ap is_some (given_where p lt far) ∙ sym (ap is_managed (full_bare p) ∙ t))
            | inr f ↦ absurd (omega (arith, managed p f, named_where p lt far))
          ]

          each : (p : ℕ) → P (id_at full.hand p)
          each p = elim (cases_lt (log_of (id_at split.hand p).log + 1) (named split.places p)) [
            | inr le ↦ stays_right p (same_where p le)
            | inl far ↦ elim (cases_lt p n) [
              | inr past ↦ stays_right p (full_past p past)
              | inl lt ↦ came p lt (λ i. absurd (omega (arith, far, i)))
            ]
          ]
