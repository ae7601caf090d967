-- What was asked for is put into the hand of the commit that waits for it.
use Rattle.hpx_steps.proofs.Common.{AskedFor, Bool, HasCredit, HasRightCredit, HasSplit, Id, IsCommit, IsShort, List, Option, Some, Waits, all_append, all_at, all_remove, and_true, ap, append_assoc, arith, bare, cases_Bool, cond, count_by, eq-eqb, eqb-true, false, first_stock, id_at, ids_named, inl, inr, is_asked, is_asked_for, is_some, length, length-append, list_any, log_of, nat_le, not, own_ids, place_bare, plain, plain_all, place_some, refilled, refl, remove, same_object, same_object-true, set, slice_get, some_same, subst, sym, true, whole_stock, ℕ, ◌&&◌, ◌++◌, ◌+◌, ◌<◌, ◌==◌, ◌∙◌, ◌≡◌, ◌≤◌, ◌⊎◌}
use Rattle.hpx_steps.proofs.Tools.{any_place, front_place, hand_long, has_not_asked, if_so, less_sum, names_place, not_asked, place_at, put_behind, put_elsewhere, put_names, put_there, recommit, some_log, take_place}

short_still : (log : ℕ) (b : Bool) (o : Id) (was : Option Id) (id : Id) → IsShort log was id → IsShort log (cond b (Some o) was) id
short_still log b o was id c = grind arith

module _ (k l log : ℕ) (w : Waits) (n : ℕ) (ask : AskedFor) (id : Id) (entry : ℕ) (its : IsCommit k l w) (held : HasSplit log w)
    (there : slice_get w.asked n ≡ Some ask) (for : is_asked_for w id entry ask ≡ true) (credit : HasCredit id)
    (brings : (log_of id.log ≡ 0) ⊎ (log_of id.log ≡ log)) where
  abbrev filled : Waits
  filled = refilled n ask.place id w

  pub asked_low : ask.place < length (ids_named w)
  asked_low = all_at (λ (x : AskedFor). x.place < length (ids_named w)) w.asked n ask its.within there

  inside : ask.place < length w.hand
  inside = omega (arith, asked_low, hand_long k l w its)

  pub asked_at_place : slice_get w.hand ask.place ≡ Some (id_at w.hand ask.place)
  asked_at_place = place_at w.hand ask.place inside

  pub asked_same : bare id ≡ bare (id_at w.hand ask.place)
  asked_same = same_object-true id (id_at w.hand ask.place) (and_true (ask.entry == entry) (same_object id (id_at w.hand ask.place)) for).1

  left : (q : ℕ) → count_by (λ (x : AskedFor). x.place == q) (remove w.asked n) + cond (ask.place == q) 1 0 ≡ count_by (λ (x : AskedFor). x.place == q) w.asked
  left q = omega (arith, less_sum (λ (x : AskedFor). cond (x.place == q) 1 0) w.asked n ask there)

  one : ◌≡◌ {A = ℕ} (cond (ask.place == ask.place) 1 0) 1
  one = ap {B = ℕ} (λ b. cond b 1 0) (eq-eqb ask.place ask.place refl)

  pub was_asked : is_asked (id_at w.hand ask.place) ≡ true
  was_asked = if_so (is_asked (id_at w.hand ask.place)) (λ t. t) (λ f. absurd (omega (arith, left ask.place, one, its.once ask.place asked_low, ap {B = ℕ} (λ b. cond b 1 0) f)))

  pub asked_no_more : is_asked id ≡ false
  asked_no_more = has_not_asked id (log_of id.log) (some_log id.kind id.log credit)

  once_then : (q : ℕ) → q < length (ids_named w) → count_by (λ (x : AskedFor). x.place == q) (remove w.asked n) ≡ cond (is_asked (id_at (set w.hand ask.place id) q)) 1 0
  once_then q lt = elim (cases_Bool (ask.place == q)) [
    | inl t ↦
        let e : ask.place ≡ q = eqb-true ask.place q t in
        let now : is_asked (id_at (set w.hand ask.place id) q) ≡ false =
        subst (λ r. is_asked (id_at (set w.hand ask.place id) r) ≡ false) e (ap is_asked (put_there w.hand ask.place id inside) ∙ asked_no_more) in
        let was : is_asked (id_at w.hand q) ≡ true = subst (λ r. is_asked (id_at w.hand r) ≡ true) e was_asked in
        omega (arith, left q, ap {B = ℕ} (λ b. cond b 1 0) t, its.once q lt, ap {B = ℕ} (λ b. cond b 1 0) was, ap {B = ℕ} (λ b. cond b 1 0) now)
    | inr f ↦
        let other : id_at (set w.hand ask.place id) q ≡ id_at w.hand q =
        put_elsewhere w.hand ask.place q id (λ e. let t : true ≡ false = sym (eq-eqb ask.place q (sym e)) ∙ f in cc) in
        omega (arith, left q, ap {B = ℕ} (λ b. cond b 1 0) f, its.once q lt, ap {B = ℕ} (λ (x : Id). cond (is_asked x) 1 0) other)
  ]

  -- what the job had has its credit, where it was split ahead too
  first_unasked : (p : ℕ) → p < length (ids_named w) → is_asked (id_at (first_stock w held.made).hand p) ≡ false
  first_unasked p lt =
      let start = whole_stock w held.made in
      let own : List Id = ids_named w in
      let hand_is : start.hand ≡ own ++ held.made = sym (append_assoc w.job.state.ids (plain w.job.action).ids held.made) in
      let fits : length own ≤ length start.hand = omega (arith, length-append own held.made, ap (λ (xs : List Id). length xs) hand_is) in
      let inside : p < length start.hand = omega (arith, lt, fits) in
      let right : HasRightCredit (id_at start.hand p) = subst (λ (xs : List Id). HasRightCredit (id_at xs p)) (sym hand_is)
      (front_place HasRightCredit own held.made p (all_append HasRightCredit w.job.state.ids (plain w.job.action).ids its.job.credit (plain_all HasRightCredit w.job.action its.job.action.sent.credit)) lt) in
      let kind : (id_at (first_stock w held.made).hand p).kind ≡ (id_at start.hand p).kind = ap (λ (x : Id). x.kind) (place_bare (length own) start fits held.within p inside) in
      ap (λ c. nat_le 16 c && not (is_some (id_at (first_stock w held.made).hand p).log)) kind
      ∙ (ap (λ b. nat_le 16 (id_at start.hand p).kind && not b) (place_some (length own) start fits held.within p inside) ∙ not_asked (id_at start.hand p) right)

  -- its hand is still that of its job, split ahead
  pub still_split : HasSplit log (refilled n ask.place id w)
  still_split = record {
    made = held.made;
    kinds = held.kinds;
    bare = held.bare;
    within = held.within;
    places = held.places;
    rest = put_behind (length (ids_named w)) w.hand ask.place id asked_low ∙ held.rest;
    own = λ p lt lasting. elim (cases_Bool (p == ask.place)) [
      | inl t ↦
          let e : p ≡ ask.place = eqb-true p ask.place t in
          let was : is_asked (id_at w.hand p) ≡ true = subst (λ q. is_asked (id_at w.hand q) ≡ true) (sym e) was_asked in
          absurd (let no : true ≡ false = sym was ∙ (ap is_asked (held.own p lt lasting) ∙ first_unasked p lt) in cc)
      | inr f ↦
          put_elsewhere w.hand ask.place p id (λ e. let t : true ≡ false = sym (eq-eqb p ask.place e) ∙ f in cc) ∙ held.own p lt lasting
    ];
    short = λ p lt none. elim (cases_Bool (p == ask.place)) [
      | inl t ↦
          subst (λ q. IsShort log filled.refused (id_at filled.hand q)) (sym (eqb-true p ask.place t))
          (subst (IsShort log filled.refused) (sym (put_there w.hand ask.place id inside)) (grind arith))
      | inr f ↦
          subst (IsShort log filled.refused)
          (sym (put_elsewhere w.hand ask.place p id (λ e. let t : true ≡ false = sym (eq-eqb p ask.place e) ∙ f in cc)))
          (short_still log (log_of id.log == 0) (bare id) w.refused (id_at w.hand p) (held.short p lt none))
    ];
  }

  -- what has no more credit is named
  refused_then : (o : Id) (b : Bool) → cond b (Some (bare id)) w.refused ≡ Some o → list_any (same_object o) (ids_named w) ≡ true
  refused_then o true e =
      let named : bare (id_at w.hand ask.place) ≡ bare (id_at (ids_named w) ask.place) =
      ap bare (sym (take_place (length (ids_named w)) w.hand ask.place asked_low)) ∙ names_place (own_ids w) (ids_named w) its.hand ask.place in
      subst (λ q. list_any (same_object q) (ids_named w) ≡ true) (some_same (bare id) o e) (any_place (bare id) (ids_named w) ask.place asked_low (asked_same ∙ named))
  refused_then o false e = its.refused o e

  pub still_commit : IsCommit k l (refilled n ask.place id w)
  still_commit = recommit k l w (set w.hand ask.place id) (remove w.asked n) w.places (cond (log_of id.log == 0) (Some (bare id)) w.refused) its
      (put_names (length (ids_named w)) w.hand ask.place (id_at w.hand ask.place) id asked_at_place asked_same ∙ its.hand)
      (all_remove (λ (x : AskedFor). x.place < length (ids_named w)) w.asked n its.within) (λ o e. refused_then o (log_of id.log == 0) e) once_then
