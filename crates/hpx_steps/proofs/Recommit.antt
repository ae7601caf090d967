-- What a commit in work has in its hand changes: its job stays.
use Rattle.hpx_steps.proofs.Mails.{held_by}
use Rattle.hpx_steps.proofs.Sums.{ids_each, less_sum, view_worth}
use Rattle.hpx_steps.proofs.Common.{AllByRecursion, AskedFor, HasCommits, Id, IsCommit, List, Option, Some, Token, Turn, Waits, [], ap, arith, bare, commits, cond, count_by, counts_of, counts_true, false, filter, held_token, id_at, ids_named, is_asked, length, length-map, length-take, list_any, map, refl, same_object, same_token, set, slice_get, some_same, subst, suc, sum_by, sum_by-cons, sym, take, take-append-le, token_own, tokens, tokens_of, true, worth, Working, zero, ℕ, ◌++◌, ◌<◌, ◌==◌, ◌∙◌, ◌∷◌, ◌≡◌, ◌≤◌}

-- its hand has all that its object and its action name
pub hand_long : (k n : ℕ) (w : Waits) → IsCommit k n w → length (ids_named w) ≤ length w.hand
hand_long k n w h = omega (
  arith,
  ap (λ (xs : List Id). length xs) h.hand,
  length-map (take (length (ids_named w)) w.hand) bare,
  length-map (ids_named w) bare,
  length-take (length (ids_named w)) w.hand,
)

-- the same job, with another hand
pub recommit : (k n : ℕ) (w : Waits) (hand : List Id) (asked : List AskedFor) (places : List ℕ) (refused : Option Id) → IsCommit k n w
    → map bare (take (length (ids_named w)) hand) ≡ map bare (ids_named w) → AllByRecursion (λ (x : AskedFor). x.place < length (ids_named w)) asked
    → ((o : Id) → refused ≡ Some o → list_any (same_object o) (ids_named w) ≡ true)
    → ((p : ℕ) → p < length (ids_named w) → count_by (λ (x : AskedFor). x.place == p) asked ≡ cond (is_asked (id_at hand p)) 1 0)
    → IsCommit k n (record w { hand = hand; asked = asked; places = places; refused = refused })
recommit k n w hand asked places refused h own within named once = grind arith

-- the first commit in work has the same job, and the same action
pub work_commits : (s : Turn) (w w' : Waits) (rest : List Waits) → s.working ≡ w ∷ rest → w' ≡ record w { hand = w'.hand; asked = w'.asked; places = w'.places; refused = w'.refused }
    → HasCommits s.tables.objects s.tables.running (commits s) → HasCommits s.tables.objects s.tables.running (w' ∷ rest ++ s.tables.pending)
work_commits s w w' rest works is all = rw is (record {
  each = (record { standing = h.each.0.standing; found = h.each.0.found; kind = h.each.0.kind; state = h.each.0.state }, h.each.1);
  apart = h.apart;
  whole = h.whole;
  lent = h.lent;
})
  where
    h : HasCommits s.tables.objects s.tables.running (w ∷ rest ++ s.tables.pending)
    h = subst (λ ws. HasCommits s.tables.objects s.tables.running (ws ++ s.tables.pending)) works all

-- the token of an id in its hand is held
pub token_held : (s : Turn) (w : Waits) (rest : List Waits) (p : ℕ) (id : Id) (log : ℕ) → s.working ≡ w ∷ rest → slice_get w.hand p ≡ Some id → id.log ≡ Some log
    → 1 ≤ count_by (same_token (held_token (bare id) log)) (tokens s)
token_held s w rest p id log works at has =
    let t : Token = held_token (bare id) log in
    let f : Token → ℕ = counts_of (same_token t) in
    omega (
      arith,
      view_worth f s,
      ap (sum_by (λ y. worth f (Working y))) works,
      sum_by-cons (λ y. worth f (Working y)) w rest,
      less_sum (λ y. sum_by f (tokens_of (y ∷ []))) w.hand p id at,
      ids_each f w.hand,
      held_by f id log has,
      counts_true (same_token t) t (token_own t),
    )

-- ---- the first n of a hand, with another id at a place and more behind

pub first_map : (g : Id → Id) (n p : ℕ) (hand more : List Id) (x y : Id) → slice_get hand p ≡ Some x → g y ≡ g x → n ≤ length hand → map g (take n (set hand p y ++ more)) ≡ map g (take n hand)
first_map g zero p hand more x y at same le = refl
first_map g (suc n) p [] more x y at same le = absurd (cc)
first_map g (suc n) zero (z ∷ hand) more x y at same le = grind (arith, some_same, hand, take-append-le)
first_map g (suc n) (suc p) (z ∷ hand) more x y at same le = ap (λ ks. g z ∷ ks) (first_map g n p hand more x y at same (omega (arith, le)))

pub first_asked : (n p : ℕ) (hand more : List Id) (x y : Id) → slice_get hand p ≡ Some x → is_asked x ≡ false → is_asked y ≡ false → n ≤ length hand
    → filter is_asked (take n (set hand p y ++ more)) ≡ filter is_asked (take n hand)
first_asked zero p hand more x y at a b le = refl
first_asked (suc n) p [] more x y at a b le = absurd (cc)
first_asked (suc n) zero (z ∷ hand) more x y at a b le = grind (arith, some_same, take-append-le, hand)
first_asked (suc n) (suc p) (z ∷ hand) more x y at a b le = grind (arith, hand, first_asked n p hand more x y at a b)

-- at each of these places an id is asked for as before
pub first_at : (n p q : ℕ) (hand more : List Id) (x y : Id) → slice_get hand p ≡ Some x → is_asked y ≡ is_asked x → q < n → n ≤ length hand
    → is_asked (id_at (set hand p y ++ more) q) ≡ is_asked (id_at hand q)
first_at n p q [] more x y at same lt le = absurd (omega (arith, lt, le))
first_at n zero zero (z ∷ hand) more x y at same lt le = same ∙ ap is_asked (sym (some_same z x at))
first_at n zero (suc q) (z ∷ hand) more x y at same lt le = behind hand q (omega (arith, lt, le))
  where
    behind : (ids : List Id) (k : ℕ) → k < length ids → is_asked (id_at (ids ++ more) k) ≡ is_asked (id_at ids k)
    behind [] k l = absurd (omega (arith, l))
    behind (i ∷ ids) zero l = refl
    behind (i ∷ ids) (suc k) l = behind ids k (omega (arith, l))
first_at n (suc p) zero (z ∷ hand) more x y at same lt le = refl
first_at zero (suc p) (suc q) (z ∷ hand) more x y at same lt le = absurd (omega (arith, lt))
first_at (suc n) (suc p) (suc q) (z ∷ hand) more x y at same lt le = first_at n p q hand more x y at same (omega (arith, lt)) (omega (arith, le))
