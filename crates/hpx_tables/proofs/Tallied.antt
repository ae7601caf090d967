-- What a tally counts.
use Rattle.std.proofs.Common.{ℕ, zero, suc, Bool, true, false, cond, ◌≡◌, ◌<◌, ◌+◌, List, [], ◌∷◌, ◌++◌, get_or, take, set, length, slice_get, Option, Some, None, refl, sym, ap, ◌∙◌, inl, inr, arith}
use Rattle.std.specs.Prelude.{◌&&◌, is_some}
use Rattle.std.specs.List.{sum_by, remove}
use Rattle.std.specs.List.Sorted.{IsPermutation}
use Rattle.std.proofs.lemmas.List.{take_more}
use Rattle.std.proofs.lemmas.List.Sorted.{sum_by-IsPermutation}
use Rattle.std.proofs.lemmas.List.Sums.{sum_by-cons, sum_by-append, sum_by_push, sum_by-set, sum_by-remove}
use Rattle.std.proofs.lemmas.Bool.{cases_Bool, and_parts}
use Rattle.hpx_value.specs.Ids.{Id, same_object, credit, credit_of_log}
use Rattle.hpx_part.proofs.Keyed.{slice_get_less}
use Rattle.hpx_tables.specs.declared.tally.Tally.{Tally}
use Rattle.hpx_tables.proofs.Alls.{some_same}
use Rattle.hpx_tables.specs.Kept.{credit_in}
use Rattle.hpx_tables.specs.Merged.{has_log, is_like, merged}
use Rattle.hpx_tables.specs.Tallies.{has_credit, many_in, number_of, Adds, Takes, Counts}

-- ---- no id with credit is no credit

abbrev count : Bool → ℕ
count b = cond b 1 0

worth : (b : Bool) (log : Option ℕ) → count (b && is_some log) ≡ 0 → cond b (credit_of_log log) 0 ≡ 0
worth false log h = refl
worth true None h = refl
worth true (Some n) h = cc

sums : {X : Type 0} (f g : X → ℕ) → ((x : X) → f x ≡ 0 → g x ≡ 0) → (xs : List X) → sum_by f xs ≡ 0 → sum_by g xs ≡ 0
sums f g each [] h = refl
sums f g each (x ∷ xs) h =
    let both = sum_by-cons f x xs in
    let one : g x ≡ 0 = each x (omega (arith, both, h)) in
    let rest : sum_by g xs ≡ 0 = sums f g each xs (omega (arith, both, h)) in
    omega (arith, sum_by-cons g x xs, one, rest)

no_credit : (o : Id) (ids : List Id) → many_in o ids ≡ 0 → credit_in o ids ≡ 0
no_credit o ids h = sums (λ id. count (has_credit o id)) (λ id. cond (same_object o id) (credit id) 0) (λ id e. worth (same_object o id) id.log e) ids h

pub none_held : {X : Type 0} (t : Tally) (ids : X → List Id) (xs : List X) (o : Id) → Counts t ids xs → t.lost ≡ false → number_of t o ≡ 0
    → sum_by (λ x. credit_in o (ids x)) xs ≡ 0
none_held t ids xs o counts kept none =
    sums (λ x. many_in o (ids x)) (λ x. credit_in o (ids x)) (λ x e. no_credit o (ids x) e) xs (sym (counts kept o) ∙ none)

-- ---- ids come and go

pub adds_none : (t : Tally) → Adds t [] t
adds_none t h = (h, λ o. omega arith)

pub takes_none : (t : Tally) → Takes t [] t
takes_none t h = (h, λ o. omega arith)

pub adds_both : (t u v : Tally) (is js : List Id) → Adds t is u → Adds u js v → Adds t (is ++ js) v
adds_both t u v is js f g h =
    let second = g h in
    let first = f second.0 in
    (first.0, λ o. omega (arith, first.1 o, second.1 o, sum_by-append (λ id. count (has_credit o id)) is js))

pub takes_both : (t u v : Tally) (is js : List Id) → Takes t is u → Takes u js v → Takes t (is ++ js) v
takes_both t u v is js f g h =
    let second = g h in
    let first = f second.0 in
    (first.0, λ o. omega (arith, first.1 o, second.1 o, sum_by-append (λ id. count (has_credit o id)) is js))

pub adds_next : (t u v : Tally) (ids : List Id) (i : ℕ) (x : Id) → i < length ids → x ≡ get_or ids i x → Adds t (take i ids) u → Adds u (x ∷ []) v → Adds t (take (i + 1) ids) v
adds_next t u v ids i x less is f g =
    rw (take_more ids i x less, ← is) (adds_both t u v (take i ids) (x ∷ []) f g)

pub takes_next : (t u v : Tally) (ids : List Id) (i : ℕ) (x : Id) → i < length ids → x ≡ get_or ids i x → Takes t (take i ids) u → Takes u (x ∷ []) v → Takes t (take (i + 1) ids) v
takes_next t u v ids i x less is f g =
    rw (take_more ids i x less, ← is) (takes_both t u v (take i ids) (x ∷ []) f g)

-- ---- things come and go

there_is : {X : Type 0} (xs : List X) (i : ℕ) (x : X) → slice_get xs i ≡ Some x → get_or xs i x ≡ x
there_is [] i x h = refl
there_is (y ∷ xs) zero x h = some_same y x h
there_is (y ∷ xs) (suc i) x h = there_is xs i x h

module _ {X : Type 0} (ids : X → List Id) where
  abbrev many : Id → X → ℕ
  many o x = many_in o (ids x)

  pub counts_push : (t u : Tally) (xs : List X) (x : X) → Counts t ids xs → Adds t (ids x) u → Counts u ids (xs ++ x ∷ [])
  counts_push t u xs x counts adds h o =
      let a = adds h in omega (arith, a.1 o, counts a.0 o, sum_by_push (many o) xs x)

  pub counts_pop : (t u : Tally) (xs : List X) (x : X) → Counts t ids (x ∷ xs) → Takes t (ids x) u → Counts u ids xs
  counts_pop t u xs x counts takes h o =
      let a = takes h in omega (arith, a.1 o, counts a.0 o, sum_by-cons (many o) x xs)

  pub counts_remove : (t : Tally) (xs : List X) (i : ℕ) (x : X) → slice_get xs i ≡ Some x → Counts t ids xs → Counts t ids (x ∷ remove xs i)
  counts_remove t xs i x there counts h o =
      omega (arith, counts h o, sum_by-cons (many o) x (remove xs i), sum_by-remove (many o) xs i x (slice_get_less xs i x there), ap (many o) (there_is xs i x there))

  -- none, once there is nothing
  pub counts_none : (t : Tally) (xs : List X) → ((o : Id) → number_of t o ≡ 0) → length xs ≡ 0 → Counts t ids xs
  counts_none t [] none long h o = none o
  counts_none t (x ∷ xs) none long h o = cc

  pub counts_moved : (t : Tally) (xs ys : List X) → IsPermutation xs ys → Counts t ids xs → Counts t ids ys
  counts_moved t xs ys moved counts h o = counts h o ∙ sym (sum_by-IsPermutation (many o) xs ys moved)

  pub counts_set : (t u v : Tally) (xs : List X) (i : ℕ) (x y : X) → slice_get xs i ≡ Some x → Counts t ids xs → Takes t (ids x) u → Adds u (ids y) v → Counts v ids (set xs i y)
  counts_set t u v xs i x y there counts takes adds h o =
      let a = adds h in
      let b = takes a.0 in
      omega (arith, a.1 o, b.1 o, counts b.0 o, sum_by-set (many o) xs i y x (slice_get_less xs i x there), ap (many o) (there_is xs i x there))

  -- one that has as many ids of each object
  pub counts_like : (t : Tally) (xs : List X) (i : ℕ) (x y : X) → slice_get xs i ≡ Some x → ((o : Id) → many_in o (ids y) ≡ many_in o (ids x)) → Counts t ids xs → Counts t ids (set xs i y)
  counts_like t xs i x y there like counts h o =
      omega (arith, counts h o, sum_by-set (many o) xs i y x (slice_get_less xs i x there), ap (many o) (there_is xs i x there), like o)

-- ---- a rider that is merged is no id more

has_log_some : (log : ℕ) (l : Option ℕ) → has_log log l ≡ true → is_some l ≡ true
has_log_some log None h = cc
has_log_some log (Some n) h = refl

pub merged_many : (o rider : Id) (log : ℕ) (ids : List Id) → many_in o (merged rider log ids) ≡ many_in o ids
merged_many o rider log [] = refl
merged_many o rider log (id ∷ ids) = elim (cases_Bool (is_like rider log id)) [
  | inl t ↦
      let some = has_log_some log id.log (and_parts (same_object rider id) (has_log log id.log) t).1 in
      let same : has_credit o (record id { log = Some (log + 1) }) ≡ has_credit o id = ap (λ b. same_object o id && b) (sym some) in
      rw t (sum_by-cons (λ i. count (has_credit o i)) (record id { log = Some (log + 1) }) ids
      ∙ ap (λ b. count b + many_in o ids) same
      ∙ sym (sum_by-cons (λ i. count (has_credit o i)) id ids))
  | inr f ↦
      rw f (sum_by-cons (λ i. count (has_credit o i)) id (merged rider log ids)
      ∙ ap (λ n. count (has_credit o id) + n) (merged_many o rider log ids)
      ∙ sym (sum_by-cons (λ i. count (has_credit o i)) id ids))
]
