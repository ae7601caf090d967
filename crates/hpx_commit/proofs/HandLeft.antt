-- What is in the hand of a commit that waits for nothing any more: each of its ids has its credit, and so has each half.
use Rattle.std.proofs.Common.{ℕ, zero, suc, Bool, true, false, List, [], ◌∷◌, ◌++◌, ◌≡◌, ◌+◌, ◌≤◌, ◌<◌, Option, Some, None, map, take, drop, length, length-append, append_assoc, refl, sym, ap, ◌∙◌, arith, inl, inr, subst}
use Rattle.std.specs.Prelude.{is_some}
use Rattle.std.specs.List.{AllByRecursion, remove}
use Rattle.std.proofs.lemmas.Bool.{cases_lt}
use Rattle.std.proofs.lemmas.List.{length-map, drop-drop, length-drop, length-take, get_or-take, get_or-drop, get_or-append-add}
use Rattle.std.proofs.lemmas.List.Sums.{length-filter, count_by-le-length}
use Rattle.hpx_value.specs.Ids.{Id, bare}
use Rattle.hpx_value.specs.Hands.{id_at, session, hand_ids}
use Rattle.hpx_value.specs.Laws.{KeepsLaws}
use Rattle.hpx_value.specs.Riders.{mentions_with}
use Rattle.hpx_value.specs.Shapes.{IsAct}
use Rattle.hpx_commit.specs.Deals.{is_managed, log_of, named, places_named, AreWithin}
use Rattle.hpx_commit.specs.Failures.{action_ids, halves_ahead, state_failed, unanswered, ups_failed}
use Rattle.hpx_commit.specs.Stocks.{Stock, ahead, Lasting, IsHalf}
use Rattle.hpx_commit.proofs.Ahead.{ahead_is}
use Rattle.hpx_commit.proofs.AheadMore.{all_at, ahead_few}
use Rattle.hpx_commit.proofs.Common.{State, Act, Outcome, Make, Cont}
use Rattle.hpx_commit.proofs.Failed.{front_parts}
use Rattle.hpx_commit.proofs.Halves.{ahead_halves}
use Rattle.hpx_commit.proofs.HandFit.{all_append}
use Rattle.hpx_commit.proofs.Moved.{at_longer}
use Rattle.hpx_commit.proofs.Naming.{all_parts}
use Rattle.hpx_commit.proofs.Places.{kind_of, take_parts, same_at, all_from, managed_there}
use Rattle.hpx_commit.proofs.Planned.{action_few, own_places}
use Rattle.hpx_commit.proofs.Rights.{AreRight}
use Rattle.hpx_commit.proofs.Short.{place_some}

abbrev pub HaveNone : List Id → Type 0
HaveNone ids = AllByRecursion (λ (id : Id). id.log ≡ None) ids

-- what is given up is among the ids of the action and the halves
pub ups_few : (s : State) (a : Act) (makes : ℕ) (ids : List Id)
    → length (ups_failed s a makes ids) ≤ length (action_ids s a ids) + length (halves_ahead s a makes ids)
ups_few s a makes ids =
    omega (
      arith,
      length-filter is_managed (unanswered (action_ids s a ids) a.cont ++ halves_ahead s a makes ids),
      count_by-le-length is_managed (unanswered (action_ids s a ids) a.cont ++ halves_ahead s a makes ids),
      length-append (unanswered (action_ids s a ids) a.cont) (halves_ahead s a makes ids),
      left_few (action_ids s a ids) a.cont,
    )
  where
    remove_few : (xs : List Id) (i : ℕ) → length (remove xs i) ≤ length xs
    remove_few [] zero = omega arith
    remove_few [] (suc i) = omega arith
    remove_few (id ∷ xs) zero = omega arith
    remove_few (id ∷ xs) (suc i) = omega (arith, remove_few xs i)

    left_few : (xs : List Id) (cont : Option Cont) → length (unanswered xs cont) ≤ length xs
    left_few xs None = omega arith
    left_few xs (Some c) = remove_few xs c.place

module _ (P Q : Id → Type 0) (are : AreRight P Q) (s : State) (a : Act) (out : Outcome) (credit : AllByRecursion P s.ids) (action_credit : AllByRecursion P a.ids)
    (hand made : List Id) (kinds : map kind_of made ≡ map (λ (x : Make). x.kind) out.makes) (none : HaveNone made)
    (within : AreWithin (hand_ids s a made) (places_named s a made out))
    (rest : drop (length (s.ids ++ a.ids)) hand ≡ drop (length (s.ids ++ a.ids)) (ahead (length (s.ids ++ a.ids)) (record { hand = hand_ids s a made; places = places_named s a made out })).hand) where
  abbrev own : List Id
  own = s.ids ++ a.ids

  abbrev n : ℕ
  n = length (s.ids ++ a.ids)

  abbrev whole : Stock
  whole = record { hand = hand_ids s a made; places = places_named s a made out }

  abbrev first : Stock
  first = ahead (length (s.ids ++ a.ids)) (record { hand = hand_ids s a made; places = places_named s a made out })

  makes_are : length made ≡ length out.makes
  makes_are = sym (length-map made kind_of) ∙ (ap (λ (ks : List ℕ). length ks) kinds ∙ length-map out.makes (λ (x : Make). x.kind))

  hand_is : hand_ids s a made ≡ own ++ made
  hand_is = sym (append_assoc s.ids a.ids made)

  size : length whole.hand ≡ n + length made
  size = omega (arith, ap (λ (xs : List Id). length xs) hand_is, length-append own made)

  fits : n ≤ length whole.hand
  fits = omega (arith, size)

  start_right : (p : ℕ) → p < n → P (id_at whole.hand p)
  start_right p lt = subst P (sym (ap (λ (xs : List Id). id_at xs p) hand_is ∙ at_longer own made p lt))
      (all_at P own p lt (all_append P s.ids a.ids credit action_credit))

  -- it has room for what is made
  pub long_enough : length (s.ids ++ a.ids) ≤ length hand → length s.ids + length a.ids + length out.makes ≤ length hand
  long_enough le = omega (
    arith,
    le,
    size,
    makes_are,
    length-append s.ids a.ids,
    ap (λ (xs : List Id). length xs) rest,
    length-drop n hand,
    length-drop n first.hand,
    (ahead_is n whole fits within).longer,
  )

  behind : halves_ahead s a (length out.makes) hand ≡ drop (length whole.hand) first.hand
  behind =
      ap (λ k. drop k hand) (omega (arith, length-append s.ids a.ids, makes_are))
      ∙ (sym (drop-drop (length made) n hand)
      ∙ (ap (drop (length made)) rest
      ∙ (drop-drop (length made) n first.hand ∙ ap (λ k. drop k first.hand) (sym size))))

  -- the halves have their credit, and they are few
  pub halves_have : AllByRecursion Q (halves_ahead s a (length out.makes) hand)
  halves_have = subst (AllByRecursion Q) (sym behind) (each (drop (length whole.hand) first.hand) (ahead_halves n whole fits within))
    where
      each : (ids : List Id) → AllByRecursion (IsHalf n whole) ids → AllByRecursion Q ids
      each [] h = tt
      each (x ∷ xs) h =
          (are.has x h.0.has (ap is_managed h.0.object ∙ (sym (are.says (id_at whole.hand h.0.place) (start_right h.0.place h.0.first)) ∙ h.0.had)), each xs h.1)

  halves_few : length (halves_ahead s a (length out.makes) hand) ≤ length whole.places
  halves_few = omega (
    arith,
    ap (λ (xs : List Id). length xs) behind,
    length-drop (length whole.hand) first.hand,
    ahead_few n whole fits within,
  )

  pub ups_limit : (m kind here : ℕ) → KeepsLaws m kind here s a out → IsAct a → length (ups_failed s a (length out.makes) hand) ≤ 227
  ups_limit m kind here laws action = omega (
    arith,
    action_few a action,
    ups_few s a (length out.makes) hand,
    length-take (length a.ids) (drop (length s.ids) hand),
    halves_few,
    own_places m kind here s a out laws made kinds,
  )

  -- what would have been made has no credit
  pub later_none : HaveNone (take (length out.makes) (drop (length s.ids + length a.ids) hand))
  later_none =
      subst (λ k. HaveNone (take (length out.makes) (drop k hand))) (length-append s.ids a.ids)
      (subst (λ k. HaveNone (take k (drop n hand))) makes_are (subst (λ ids. HaveNone (take (length made) ids)) (sym rest) made_none))
    where
      made_none : HaveNone (take (length made) (drop n first.hand))
      made_none = all_from (λ (id : Id). id.log ≡ None) (take (length made) (drop n first.hand)) (λ p lt.
          let less : p < length made = omega (arith, lt, length-take (length made) (drop n first.hand)) in
          ap (λ (x : Id). x.log)
          (get_or-take (length made) (drop n first.hand) p session less
          ∙ (get_or-drop n first.hand p session
          ∙ (((ahead_is n whole fits within).rest (n + p) (omega arith) (omega (arith, size, less))).part
          ∙ (ap (λ (xs : List Id). id_at xs (n + p)) hand_is ∙ get_or-append-add own made p session))))
          ∙ all_at (λ (id : Id). id.log ≡ None) made p less none)

  -- ---- the ids of its object and of its action, once nothing is asked for: each managed one has a credit

  module _ (names : map bare (take (length (s.ids ++ a.ids)) hand) ≡ map bare (s.ids ++ a.ids))
      (stays : (p : ℕ) → p < length (s.ids ++ a.ids) → Lasting first p → id_at hand p ≡ id_at first.hand p)
      (given : (p : ℕ) → p < length (s.ids ++ a.ids) → is_managed (id_at hand p) ≡ true → is_some (id_at hand p).log ≡ true) where
    same_kind : (p : ℕ) → p < n → is_managed (id_at hand p) ≡ is_managed (id_at whole.hand p)
    same_kind p lt = ap is_managed
        (ap bare (sym (get_or-take n hand p session lt))
        ∙ (same_at bare (take n hand) own p names ∙ ap bare (sym (ap (λ (xs : List Id). id_at xs p) hand_is ∙ at_longer own made p lt))))

    low_none : (p : ℕ) → p < n → is_managed (id_at hand p) ≡ false → is_some (id_at hand p).log ≡ false
    low_none p lt low =
        let plain : is_managed (id_at whole.hand p) ≡ false = sym (same_kind p lt) ∙ low in
        elim (cases_lt (log_of (id_at first.hand p).log + 1) (named first.places p)) [
          | inr lasts ↦
              ap (λ (x : Id). is_some x.log) (stays p lt lasts)
              ∙ (place_some n whole fits within p (omega (arith, lt, fits)) ∙ (are.says (id_at whole.hand p) (start_right p lt) ∙ plain))
          | inl far ↦
              let some : 1 ≤ named whole.places p = omega (arith, ((ahead_is n whole fits within).first p lt).others, far) in
              let yes : true ≡ false = sym (managed_there whole.hand (mentions_with s a out) p some) ∙ plain in absurd (cc)
        ]

    own_right : AllByRecursion P (take n hand)
    own_right = all_from P (take n hand) (λ p lt.
        let less : p < n = omega (arith, lt, length-take n hand) in
        subst P (sym (get_or-take n hand p session less)) (are.so (id_at hand p) (at p less (is_managed (id_at hand p)) refl)))
      where
        at : (p : ℕ) → p < n → (b : Bool) → is_managed (id_at hand p) ≡ b → is_some (id_at hand p).log ≡ is_managed (id_at hand p)
        at p lt true e = given p lt e ∙ sym e
        at p lt false e = low_none p lt e ∙ sym e

    pub both_right : AllByRecursion P (state_failed s hand).ids × AllByRecursion P (action_ids s a hand)
    both_right = all_parts P (state_failed s hand).ids (action_ids s a hand) (subst (AllByRecursion P) (take_parts s.ids a.ids hand) own_right)

  -- they name the same objects
  pub both_same : map bare (take (length (s.ids ++ a.ids)) hand) ≡ map bare (s.ids ++ a.ids)
      → (map bare (state_failed s hand).ids ≡ map bare s.ids) × (map bare (action_ids s a hand) ≡ map bare a.ids)
  both_same names = front_parts s.ids a.ids hand names
