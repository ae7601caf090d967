-- Values for inputs that fit into so many bytes, in the order in which they came.
use Rattle.std.specs.Prelude.{ℕ, Bool, true, false, nat_le, List, [], ◌∷◌, ◌++◌, ◌+◌, ◌-◌, ◌*◌, ◌≤◌, ◌≡◌, Option, Some, None, length, refl, if◌then◌else◌}
use Rattle.std.proofs.Common.{ap, sym, ◌∙◌, arith}
use Rattle.std.proofs.lemmas.Bool.{leb-true, le-leb}
use Rattle.hpx_calls.specs.Values.{Nothing, Flag, Int, Text, Ref, Fault, Ints, Look, Sort, size}
use Rattle.hpx_calls.specs.Contents.{Given, given_size, is_full, room_after, are_fitted}
use Rattle.hpx_calls.specs.Tables.{fitted}

full_size : (l : Look) → is_full l ≡ true → size l ≡ 2
full_size (Fault code) e = refl
full_size Nothing e = absurd (cc)
full_size (Flag b) e = absurd (cc)
full_size (Int z) e = absurd (cc)
full_size (Text t) e = absurd (cc)
full_size (Ref r) e = absurd (cc)
full_size (Ints zs) e = absurd (cc)

abbrev number_in : Option ℕ → ℕ
number_in None = 0
number_in (Some n) = n

-- what is left, where something is
room_is : (room : ℕ) (l : Look) (r : ℕ) → room_after room l ≡ Some r → (r ≡ room - size l) × (size l + r ≤ room + 2)
room_is room l r e = by_full (is_full l) refl e
  where
    by_size : (b : Bool) → nat_le (size l) room ≡ b → (if b then Some (room - size l) else None) ≡ Some r → (r ≡ room - size l) × (size l + r ≤ room + 2)
    by_size true f g = let same : room - size l ≡ r = ap number_in g in let low = leb-true (size l) room f in (sym same, omega arith)
    by_size false f g = absurd (cc)

    by_full : (b : Bool) → is_full l ≡ b → (if b then Some (room - 2) else if nat_le (size l) room then Some (room - size l) else None) ≡ Some r
        → (r ≡ room - size l) × (size l + r ≤ room + 2)
    by_full true f g = let two = full_size l f in let same : room - 2 ≡ r = ap number_in g in (omega arith, omega arith)
    by_full false f g = by_size (nat_le (size l) room) refl g

room_fits : (room : ℕ) (l : Look) → size l ≤ room → room_after room l ≡ Some (room - size l)
room_fits room l low = by_full (is_full l) refl
  where
    by_full : (b : Bool) → is_full l ≡ b → (if b then Some (room - 2) else if nat_le (size l) room then Some (room - size l) else None) ≡ Some (room - size l)
    by_full true f = ap (λ m. Some (room - m)) (sym (full_size l f))
    by_full false f = ap (λ b. if b then Some (room - size l) else None) (le-leb (size l) room low)

room_full : (room : ℕ) (l : Look) → is_full l ≡ true → room_after room l ≡ Some (room - size l)
room_full room l e =
    ap (λ b. if b then Some (room - 2) else if nat_le (size l) room then Some (room - size l) else None) e ∙ ap (λ m. Some (room - m)) (sym (full_size l e))

-- they take no more than there was, and 2 bytes for each
pub fitted_short : {V : Type 0} (k : Sort V) (room : ℕ) (xs : List (Given V)) → are_fitted k (Some room) xs ≡ true → given_size k xs ≤ room + 2 * length xs
fitted_short k room [] e = omega arith
fitted_short k room (x ∷ xs) e = by_room (room_after room (k.look x.value)) refl e (λ r g. fitted_short k r xs g)
  where
    by_room : (o : Option ℕ) → room_after room (k.look x.value) ≡ o → are_fitted k o xs ≡ true
        → ((r : ℕ) → are_fitted k (Some r) xs ≡ true → given_size k xs ≤ r + 2 * length xs) → given_size k (x ∷ xs) ≤ room + 2 * length (x ∷ xs)
    by_room None f g rest = absurd (cc)
    by_room (Some r) f g rest = let short = rest r g in let most = (room_is room (k.look x.value) r f).1 in omega arith

-- one more behind them
pub fitted_more : {V : Type 0} (k : Sort V) (room : ℕ) (xs : List (Given V)) (x : Given V) (r : ℕ) → are_fitted k (Some room) xs ≡ true
    → room_after (room - given_size k xs) (k.look x.value) ≡ Some r → are_fitted k (Some room) (xs ++ x ∷ []) ≡ true
fitted_more k room [] x r e f =
    let whole : room ≡ room - 0 = omega arith in
    ap (λ m. are_fitted k (room_after m (k.look x.value)) []) whole ∙ ap (λ o. are_fitted k o []) f
fitted_more k room (y ∷ ys) x r e f = by_room (room_after room (k.look y.value)) refl e (λ q h i. fitted_more k q ys x r h i)
  where
    by_room : (o : Option ℕ) → room_after room (k.look y.value) ≡ o → are_fitted k o ys ≡ true
        → ((q : ℕ) → are_fitted k (Some q) ys ≡ true → room_after (q - given_size k ys) (k.look x.value) ≡ Some r → are_fitted k (Some q) (ys ++ x ∷ []) ≡ true)
        → are_fitted k (room_after room (k.look y.value)) (ys ++ x ∷ []) ≡ true
    by_room None g h more = absurd (cc)
    by_room (Some q) g h more =
        let left = (room_is room (k.look y.value) q g).0 in
        let same : q - given_size k ys ≡ room - given_size k (y ∷ ys) = omega arith in
        ap (λ o. are_fitted k o (ys ++ x ∷ [])) g ∙ more q h (ap (λ m. room_after m (k.look x.value)) same ∙ f)

-- a value that is kept fits behind those before, or is the fault Full
pub fitted_fits : {V : Type 0} (k : Sort V) (xs : List (Given V)) (v : V) → is_full (k.look (k.fault 10)) ≡ true
    → room_after (64000 - given_size k xs) (k.look (fitted k xs v)) ≡ Some (64000 - given_size k xs - size (k.look (fitted k xs v)))
fitted_fits k xs v full = by_test (nat_le (given_size k xs + size (k.look v)) 64000) refl
  where
    by_test : (b : Bool) → nat_le (given_size k xs + size (k.look v)) 64000 ≡ b
        → room_after (64000 - given_size k xs) (k.look (if b then v else k.fault 10)) ≡ Some (64000 - given_size k xs - size (k.look (if b then v else k.fault 10)))
    by_test true e =
        let low = leb-true (given_size k xs + size (k.look v)) 64000 e in
        room_fits (64000 - given_size k xs) (k.look v) (omega arith)
    by_test false e = room_full (64000 - given_size k xs) (k.look (k.fault 10)) full
