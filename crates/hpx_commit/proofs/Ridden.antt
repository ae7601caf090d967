-- What riders add to what an outcome names: at most one place more, the target's, and only where nothing else names that.
use Rattle.std.proofs.Common.{ℕ, Bool, true, false, List, [], ◌∷◌, ◌++◌, ◌≡◌, ◌+◌, ◌≤◌, ◌==◌, ◌&&◌, not, nat_lt, length, length-append, refl, sym, ap, ◌∙◌, arith, inl, inr}
use Rattle.std.specs.Prelude.{flat_map, ◌||◌}
use Rattle.std.specs.List.{list_any, count_by}
use Rattle.std.proofs.lemmas.Bool.{cases_eq, cases_lt, ne_eqb}
use Rattle.std.proofs.lemmas.List.Sums.{sum_by-append, sum_by-cons}
use Rattle.hpx_value.specs.Hands.{hand_slots}
use Rattle.hpx_value.specs.Laws.{UsesEachOnce, uses, handed_on, answered}
use Rattle.hpx_value.specs.Mentions.{mentions, state_mentions, send_mentions, reply_mentions}
use Rattle.hpx_value.specs.Riders.{names_target, may_ride, rides, rider_places, rode_mentions, mentions_with}
use Rattle.hpx_value.proofs.Uses.{one_if, count-cons}
use Rattle.hpx_commit.specs.Deals.{named}
use Rattle.hpx_commit.proofs.Common.{State, Act, Reply, Outcome}

one_most : (b : Bool) → one_if b ≤ 1
one_most true = omega arith
one_most false = omega arith

fewer_and : (b c : Bool) → one_if (b && c) ≤ one_if c
fewer_and true c = omega arith
fewer_and false true = omega arith
fewer_and false false = omega arith

true_and : (b c : Bool) → 1 ≤ one_if (b && c) → b ≡ true
true_and true c h = refl
true_and false c h = absurd (omega arith)

and_not : (b c d : Bool) → (b && (c && not d)) ≡ true → d ≡ false
and_not true true false h = refl
and_not true true true h = cc
and_not true false d h = cc
and_not false c d h = cc

-- none of them is this one
none_counted : (t : ℕ) (ps : List ℕ) → list_any (λ p. p == t) ps ≡ false → named ps t ≡ 0
none_counted t [] h = refl
none_counted t (p ∷ ps) h =
    let parts = neither (p == t) (list_any (λ q. q == t) ps) h in
    let here : one_if (p == t) ≡ 0 = ap one_if parts.0 in
    omega (arith, here, count-cons (λ q. q == t) p ps, none_counted t ps parts.1)
  where
    neither : (b c : Bool) → (b || c) ≡ false → (b ≡ false) × (c ≡ false)
    neither false false h = (refl, refl)
    neither true c h = cc
    neither false true h = cc

module _ (s : State) (a : Act) (out : Outcome) where
  -- ---- what a test counts

  rider_counted : (p : ℕ → Bool) (b : Bool) → count_by p (rider_places b (length s.ids)) ≤ one_if b
  rider_counted p true = omega (arith, count-cons p (length s.ids) [], one_most (p (length s.ids)))
  rider_counted p false = omega arith

  riders_counted : (p : ℕ → Bool) (xs : List Reply)
      → count_by p (flat_map (rode_mentions s a out) xs) ≤ count_by p (flat_map (reply_mentions s a) xs) + count_by (rides s a out) xs
  riders_counted p [] = omega arith
  riders_counted p (x ∷ xs) = omega (
    arith,
    riders_counted p xs,
    rider_counted p (rides s a out x),
    sum_by-append (λ j. one_if (p j)) (rode_mentions s a out x) (flat_map (rode_mentions s a out) xs),
    sum_by-append (λ j. one_if (p j)) (reply_mentions s a x) (rider_places (rides s a out x) (length s.ids)),
    sum_by-append (λ j. one_if (p j)) (reply_mentions s a x) (flat_map (reply_mentions s a) xs),
    sum_by-cons (λ y. one_if (rides s a out y)) x xs,
  )

  -- a test that the target's place fails counts no rider
  rider_apart : (p : ℕ → Bool) → p (length s.ids) ≡ false → (b : Bool) → count_by p (rider_places b (length s.ids)) ≡ 0
  rider_apart p h true = let none : one_if (p (length s.ids)) ≡ 0 = ap one_if h in omega (arith, none, count-cons p (length s.ids) [])
  rider_apart p h false = refl

  riders_apart : (p : ℕ → Bool) → p (length s.ids) ≡ false → (xs : List Reply)
      → count_by p (flat_map (rode_mentions s a out) xs) ≡ count_by p (flat_map (reply_mentions s a) xs)
  riders_apart p h [] = refl
  riders_apart p h (x ∷ xs) = omega (
    arith,
    riders_apart p h xs,
    rider_apart p h (rides s a out x),
    sum_by-append (λ j. one_if (p j)) (rode_mentions s a out x) (flat_map (rode_mentions s a out) xs),
    sum_by-append (λ j. one_if (p j)) (reply_mentions s a x) (rider_places (rides s a out x) (length s.ids)),
    sum_by-append (λ j. one_if (p j)) (reply_mentions s a x) (flat_map (reply_mentions s a) xs),
  )

  all_counted : (p : ℕ → Bool) → count_by p (mentions_with s a out) + count_by p (flat_map (reply_mentions s a) out.replies)
      ≡ count_by p (mentions s a out) + count_by p (flat_map (rode_mentions s a out) out.replies)
  all_counted p = omega (
    arith,
    sum_by-append (λ j. one_if (p j)) (state_mentions s a out.state) (flat_map (send_mentions s a) out.sends ++ flat_map (rode_mentions s a out) out.replies),
    sum_by-append (λ j. one_if (p j)) (flat_map (send_mentions s a) out.sends) (flat_map (rode_mentions s a out) out.replies),
    sum_by-append (λ j. one_if (p j)) (state_mentions s a out.state) (flat_map (send_mentions s a) out.sends ++ flat_map (reply_mentions s a) out.replies),
    sum_by-append (λ j. one_if (p j)) (flat_map (send_mentions s a) out.sends) (flat_map (reply_mentions s a) out.replies),
  )

  -- ---- how many ride

  answered_counted : (xs : List Reply) → count_by (rides s a out) xs ≤ count_by (λ j. j == length s.conts) (answered xs)
  answered_counted [] = omega arith
  answered_counted (x ∷ xs) = omega (
    arith,
    answered_counted xs,
    fewer_and (may_ride a (names_target s a out)) (x.cont == length s.conts),
    sum_by-cons (λ y. one_if (rides s a out y)) x xs,
    count-cons (λ j. j == length s.conts) x.cont (answered xs),
  )

  few_riders : UsesEachOnce (length (hand_slots s a)) (uses out) → count_by (rides s a out) out.replies ≤ 1
  few_riders once = omega (
    arith,
    answered_counted out.replies,
    once (length s.conts),
    one_most (nat_lt (length s.conts) (length (hand_slots s a))),
    sum_by-append (λ j. one_if (j == length s.conts)) out.state.conts (handed_on out.sends ++ answered out.replies),
    sum_by-append (λ j. one_if (j == length s.conts)) (handed_on out.sends) (answered out.replies),
  )

  -- where one rides the target's place is named nowhere
  some_may : (xs : List Reply) → 1 ≤ count_by (rides s a out) xs → may_ride a (names_target s a out) ≡ true
  some_may [] h = absurd (omega arith)
  some_may (x ∷ xs) h = elim (cases_lt 0 (count_by (rides s a out) xs)) [
    | inl some ↦ some_may xs some
    | inr none ↦
        true_and (may_ride a (names_target s a out)) (x.cont == length s.conts) (omega (arith, h, none, sum_by-cons (λ y. one_if (rides s a out y)) x xs))
  ]

  none_named : 1 ≤ count_by (rides s a out) out.replies → named (mentions s a out) (length s.ids) ≡ 0
  none_named some = none_counted (length s.ids) (mentions s a out) (and_not _ _ (names_target s a out) (some_may out.replies some))

  -- ---- so no place is named too often, and few are named

  pub few_with : UsesEachOnce (length (hand_slots s a)) (uses out) → (p m : ℕ) → 1 ≤ m → named (mentions s a out) p ≤ m → named (mentions_with s a out) p ≤ m
  few_with once p m least h = elim (cases_eq (length s.ids) p) [
    | inr other ↦ omega (
      arith,
      h,
      all_counted (λ q. q == p),
      riders_apart (λ q. q == p) (ne_eqb (length s.ids) p other) out.replies,
    )
    | inl same ↦ elim (cases_lt 0 (count_by (rides s a out) out.replies)) [
      | inl some ↦ omega (
        arith,
        least,
        few_riders once,
        ap (λ q. named (mentions s a out) q) (sym same) ∙ none_named some,
        all_counted (λ q. q == p),
        riders_counted (λ q. q == p) out.replies,
      )
      | inr none ↦ omega (
        arith,
        h,
        none,
        all_counted (λ q. q == p),
        riders_counted (λ q. q == p) out.replies,
      )
    ]
  ]

  riders_long : (xs : List Reply) → length (flat_map (rode_mentions s a out) xs) ≡ length (flat_map (reply_mentions s a) xs) + count_by (rides s a out) xs
  riders_long [] = refl
  riders_long (x ∷ xs) = omega (
    arith,
    riders_long xs,
    one (rides s a out x),
    length-append (rode_mentions s a out x) (flat_map (rode_mentions s a out) xs),
    length-append (reply_mentions s a x) (rider_places (rides s a out x) (length s.ids)),
    length-append (reply_mentions s a x) (flat_map (reply_mentions s a) xs),
    sum_by-cons (λ y. one_if (rides s a out y)) x xs,
  )
    where
      one : (b : Bool) → length (rider_places b (length s.ids)) ≡ one_if b
      one true = refl
      one false = refl

  pub long_with : UsesEachOnce (length (hand_slots s a)) (uses out) → length (mentions_with s a out) ≤ length (mentions s a out) + 1
  long_with once = omega (
    arith,
    few_riders once,
    riders_long out.replies,
    length-append (state_mentions s a out.state) (flat_map (send_mentions s a) out.sends ++ flat_map (rode_mentions s a out) out.replies),
    length-append (flat_map (send_mentions s a) out.sends) (flat_map (rode_mentions s a out) out.replies),
    length-append (state_mentions s a out.state) (flat_map (send_mentions s a) out.sends ++ flat_map (reply_mentions s a) out.replies),
    length-append (flat_map (send_mentions s a) out.sends) (flat_map (reply_mentions s a) out.replies),
  )
