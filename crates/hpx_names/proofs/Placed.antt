-- A pair put in at its place, and taken out.
use Rattle.std.specs.Prelude.{ℕ, Bool, true, false, List, [], ◌∷◌, ◌++◌, ◌+◌, ◌<◌, ◌≤◌, ◌≡◌, Some, length, insert, remove, refl, if◌then◌else◌}
use Rattle.std.specs.Str.{bytes_eq}
use Rattle.std.proofs.Common.{ap, append_assoc, ◌∙◌, arith, add-one}
use Rattle.std.proofs.lemmas.List.{append-nil}
use Rattle.hpx_value.specs.declared.value.Value.{Value}
use Rattle.hpx_calls.specs.declared.content.Pair.{Pair}
use Rattle.hpx_calls.specs.Contents.{precedes}
use Rattle.hpx_calls.specs.Tables.{added, found, removed, listed}
use Rattle.hpx_names.specs.Places.{place_of, index_of, gap}

pub place_within : (key : List ℕ) (xs : List (Pair Value)) → place_of key xs ≤ length xs
place_within key [] = omega arith
place_within key (x ∷ xs) = by_test (precedes key x.key) (place_within key xs)
  where
    by_test : (b : Bool) → place_of key xs ≤ length xs → (if b then 0 else place_of key xs + 1) ≤ length (x ∷ xs)
    by_test true rest = omega arith
    by_test false rest = omega arith

insert-cons : (x y : Pair Value) (xs : List (Pair Value)) (i : ℕ) → insert (x ∷ xs) (i + 1) y ≡ x ∷ insert xs i y
insert-cons x y xs i = ap (λ j. insert (x ∷ xs) j y) (add-one i)

pub added_is : (key : List ℕ) (to : Value) (xs : List (Pair Value)) → insert xs (place_of key xs) (record { key = key; to = to }) ≡ added key to xs
added_is key to [] = refl
added_is key to (x ∷ xs) = by_test (precedes key x.key) (added_is key to xs)
  where
    by_test : (b : Bool) → insert xs (place_of key xs) (record { key = key; to = to }) ≡ added key to xs
        → insert (x ∷ xs) (if b then 0 else place_of key xs + 1) (record { key = key; to = to })
        ≡ (if b then record { key = key; to = to } ∷ x ∷ xs else x ∷ added key to xs)
    by_test true rest = refl
    by_test false rest = insert-cons x (record { key = key; to = to }) xs (place_of key xs) ∙ ap (λ ys. x ∷ ys) rest

remove-cons : (x : Pair Value) (xs : List (Pair Value)) (i : ℕ) → remove (x ∷ xs) (i + 1) ≡ x ∷ remove xs i
remove-cons x xs i = ap (remove (x ∷ xs)) (add-one i)

-- a key that is found has an index within
pub index_within : (key : List ℕ) (xs : List (Pair Value)) (v : Value) → found key xs ≡ Some v → index_of key xs < length xs
index_within key [] v e = cc
index_within key (x ∷ xs) v e = by_test (bytes_eq key x.key) (index_within key xs v) e
  where
    by_test : (b : Bool) → (found key xs ≡ Some v → index_of key xs < length xs)
        → (if b then Some x.to else found key xs) ≡ Some v → (if b then 0 else index_of key xs + 1) < length (x ∷ xs)
    by_test true rest h = omega arith
    by_test false rest h = let within = rest h in omega arith

pub removed_is : (key : List ℕ) (xs : List (Pair Value)) → index_of key xs < length xs → remove xs (index_of key xs) ≡ removed key xs
removed_is key [] h = absurd (omega arith)
removed_is key (x ∷ xs) h = by_test (bytes_eq key x.key) (removed_is key xs) h
  where
    by_test : (b : Bool) → (index_of key xs < length xs → remove xs (index_of key xs) ≡ removed key xs)
        → (if b then 0 else index_of key xs + 1) < length (x ∷ xs)
        → remove (x ∷ xs) (if b then 0 else index_of key xs + 1) ≡ (if b then xs else x ∷ removed key xs)
    by_test true rest h = refl
    by_test false rest h = remove-cons x xs (index_of key xs) ∙ ap (λ ys. x ∷ ys) (rest (omega arith))

-- the first key, and what comes after it
pub listed_more : (text : List ℕ) (x : Pair Value) (xs : List (Pair Value)) → ((text ++ x.key) ++ gap xs) ++ listed xs ≡ text ++ listed (x ∷ xs)
listed_more text x [] = append-nil _ ∙ append-nil _
listed_more text x (y ∷ xs) =
    append_assoc (text ++ x.key) (32 ∷ []) (listed (y ∷ xs)) ∙ append_assoc text x.key (32 ∷ listed (y ∷ xs))
