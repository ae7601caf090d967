-- What is asked for of a hand that was split ahead, and what is left in it.
use Rattle.std.proofs.Common.{ℕ, true, List, drop, map, ◌++◌, ◌≡◌, ◌≤◌, ◌<◌, Option, Some, None, length, length-append, append_assoc, sym, ap, ◌∙◌, arith, subst}
use Rattle.std.specs.Prelude.{is_some}
use Rattle.std.specs.List.{AllByRecursion}
use Rattle.hpx_value.specs.Ids.{Id, bare}
use Rattle.std.proofs.lemmas.List.{length-map}
use Rattle.hpx_value.specs.Hands.{id_at, hand_ids}
use Rattle.hpx_value.specs.Riders.{mentions_with}
use Rattle.hpx_commit.specs.Deals.{is_managed, log_of, named, places_named, AreWithin}
use Rattle.hpx_commit.specs.Stocks.{Stock, ahead, short_places, stripped, Lasting}
use Rattle.hpx_commit.proofs.Ahead.{ahead_is}
use Rattle.hpx_commit.proofs.AheadMore.{all_at}
use Rattle.hpx_commit.proofs.Common.{State, Act, Outcome}
use Rattle.hpx_commit.proofs.HandFit.{all_append}
use Rattle.hpx_commit.proofs.Moved.{at_longer, wider}
use Rattle.hpx_commit.proofs.Places.{kind_of, is_least, hand_kinds, managed_same, managed_there}
use Rattle.hpx_commit.proofs.Rights.{AreRight}
use Rattle.hpx_commit.proofs.Short.{place_bare, place_some, ahead_lasts, short_is}
use Rattle.hpx_commit.proofs.Stripped.{short_lasting, short_once, short_each, stripped_else, stripped_at, stripped_behind, stripped_places}

least_log : (log : Option ℕ) → is_some log ≡ true → log_of log ≡ 0 → log ≡ Some 0
least_log None some none = absurd (cc)
least_log (Some l) some none = ap Some none

module _ (P Q : Id → Type 0) (are : AreRight P Q) (s : State) (a : Act) (out : Outcome) (credit : AllByRecursion P s.ids) (action_credit : AllByRecursion P a.ids)
    (made later : List Id) (kinds : map kind_of later ≡ map kind_of made) (inside : AreWithin (hand_ids s a made) (places_named s a made out)) where
  abbrev places : List ℕ
  places = places_named s a made out

  pub hands_long : length (hand_ids s a later) ≡ length (hand_ids s a made)
  hands_long = omega (
    arith,
    length-append s.ids (a.ids ++ later),
    length-append s.ids (a.ids ++ made),
    length-append a.ids later,
    length-append a.ids made,
    length-map later kind_of,
    length-map made kind_of,
    ap (λ (ks : List ℕ). length ks) kinds,
  )

  pub within : AreWithin (hand_ids s a later) (places_named s a made out)
  within = wider (length (hand_ids s a made)) (length (hand_ids s a later)) places (omega (arith, hands_long)) inside

  -- the places are those of what is made later
  pub later_named : places_named s a made out ≡ places_named s a later out
  later_named = managed_same (hand_ids s a made) (hand_ids s a later) (mentions_with s a out) (hand_kinds s a made later (sym kinds))

  managed : (p : ℕ) → 1 ≤ named places p → is_managed (id_at (hand_ids s a later) p) ≡ true
  managed p some = managed_there (hand_ids s a later) (mentions_with s a out) p (subst (λ ps. 1 ≤ named ps p) later_named some)

  abbrev many : ℕ
  many = length (s.ids ++ a.ids)

  abbrev start : Stock
  start = record { hand = hand_ids s a later; places = places_named s a made out }

  abbrev split : Stock
  split = ahead (length (s.ids ++ a.ids)) (record { hand = hand_ids s a later; places = places_named s a made out })

  abbrev short : List ℕ
  short = short_places (length (s.ids ++ a.ids)) (ahead (length (s.ids ++ a.ids)) (record { hand = hand_ids s a later; places = places_named s a made out }))

  hand_is : hand_ids s a later ≡ (s.ids ++ a.ids) ++ later
  hand_is = sym (append_assoc s.ids a.ids later)

  pub fits : length (s.ids ++ a.ids) ≤ length (hand_ids s a later)
  fits = omega (arith, length-append (s.ids ++ a.ids) later, ap (λ (xs : List Id). length xs) hand_is)

  long : many ≤ length split.hand
  long = omega (arith, fits, (ahead_is many start fits within).longer)

  short_low : AllByRecursion (λ p. p < length (s.ids ++ a.ids)) short
  short_low = short_each (λ p. p < many) many split (λ p lt none. lt)

  pub short_within : AreWithin split.hand short
  short_within = wider many (length split.hand) short long short_low

  -- an id that does not last has the least credit then
  least_at : (p : ℕ) → p < many → (Lasting split p → ⊥) → ((id_at split.hand p).log ≡ Some 0) × (16 ≤ (id_at split.hand p).kind)
  least_at p lt none =
      let there : p < length (hand_ids s a later) = omega (arith, lt, fits) in
      let empty = short_is many start fits within p lt (λ lasts. none (ahead_lasts many start fits within p (λ here. lasts))) in
      let is : is_managed (id_at start.hand p) ≡ true = managed p (omega (arith, empty.1, (ahead_is many start fits within).first p lt)) in
      let right : P (id_at start.hand p) =
      subst P (sym (ap (λ (xs : List Id). id_at xs p) hand_is ∙ at_longer (s.ids ++ a.ids) later p lt))
      (all_at P (s.ids ++ a.ids) p lt (all_append P s.ids a.ids credit action_credit)) in (
        least_log (id_at split.hand p).log (place_some many start fits within p there ∙ (are.says (id_at start.hand p) right ∙ is)) empty.0,
        is_least (id_at split.hand p).kind (ap is_managed (place_bare many start fits within p there) ∙ is),
      )

  pub least_all : AllByRecursion (λ p. ((id_at split.hand p).log ≡ Some 0) × (16 ≤ (id_at split.hand p).kind)) short
  least_all = short_each (λ p. ((id_at split.hand p).log ≡ Some 0) × (16 ≤ (id_at split.hand p).kind)) many split (λ p lt none. least_at p lt none)

  is_short : (p : ℕ) → p < length (s.ids ++ a.ids) → (Lasting split p → ⊥) → id_at (stripped short split).hand p ≡ bare (id_at split.hand p)
  is_short p lt none = stripped_at short split p (omega (arith, lt, long)) (omega (arith, short_once many split p lt none))

  is_kept : (p : ℕ) → Lasting split p → id_at (stripped short split).hand p ≡ id_at split.hand p
  is_kept p lasts = stripped_else short split p (short_lasting many split p lasts)

  -- ---- so it may wait, as if the places were those of what is made later

  abbrev left : Stock
  left = stripped short split

  abbrev pub whole : List ℕ → Stock
  whole ps = ahead (length (s.ids ++ a.ids)) (record { hand = hand_ids s a later; places = ps })

  pub later_within : AreWithin (hand_ids s a later) (places_named s a later out)
  later_within = subst (AreWithin (hand_ids s a later)) later_named within

  pub left_places : left.places ≡ (whole (places_named s a later out)).places
  left_places = stripped_places short split ∙ ap (λ ps. (whole ps).places) later_named

  pub left_rest : drop (length (s.ids ++ a.ids)) left.hand ≡ drop (length (s.ids ++ a.ids)) (whole (places_named s a later out)).hand
  left_rest = stripped_behind many short split short_low ∙ ap (λ ps. drop many (whole ps).hand) later_named

  pub left_own : (p : ℕ) → p < length (s.ids ++ a.ids) → Lasting (whole (places_named s a later out)) p
      → id_at left.hand p ≡ id_at (whole (places_named s a later out)).hand p
  left_own p lt lasts = is_kept p (subst (λ ps. Lasting (whole ps) p) (sym later_named) lasts) ∙ ap (λ ps. id_at (whole ps).hand p) later_named

  pub left_short : (p : ℕ) → p < length (s.ids ++ a.ids) → (Lasting (whole (places_named s a later out)) p → ⊥) → (id_at left.hand p).log ≡ None
  left_short p lt none = ap (λ (y : Id). y.log) (is_short p lt (λ lasts. none (subst (λ ps. Lasting (whole ps) p) later_named lasts)))
