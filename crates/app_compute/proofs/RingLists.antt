-- Lists of a ring, one more at the end.
use Rattle.std.specs.Prelude.{ℕ, zero, suc, ℤ, pos, Bool, true, false, List, [], ◌∷◌, ◌++◌, ◌≡◌, ◌≤◌, ◌<◌, ◌+◌, ◌-◌, ◌*◌, ◌==◌, Some, None, length, take, drop, slice_index_or, Result, Ok, Err, OnOk, refl}
use Rattle.std.specs.Fmt.{signed_decimal}
use Rattle.std.proofs.Common.{ap, ◌∙◌, sym, arith, add-one}
use Rattle.std.proofs.lemmas.List.{append_assoc}
use Rattle.hpx_calls.specs.Contents.{both}
use Rattle.app_compute.specs.Types.{Value, Sending}
use Rattle.app_compute.specs.declared.ring.Part.{Part}
use Rattle.app_compute.specs.Ring.{last_or, points_from, row_words}
use Rattle.app_compute.specs.StencilSession.{answered, blank_parts, first_rows, new_call, new_calls, next_of, parts_with, step_call, step_calls}

blank-push : (count : ℕ) → blank_parts (suc count) ≡ blank_parts count ++ record { to = None; row = None } ∷ []
blank-push zero = refl
blank-push (suc count) = ap (λ rest. record { to = None; row = None } ∷ rest) (blank-push count)

pub blank_more : (i : ℕ) → blank_parts (i + 1) ≡ blank_parts i ++ record { to = None; row = None } ∷ []
blank_more i = ap blank_parts (add-one i) ∙ blank-push i

points-push : (first count : ℕ) → points_from first (suc count) ≡ points_from first count ++ pos (first + count) ∷ []
points-push first zero = ap (λ k. pos k ∷ []) (omega arith)
points-push first (suc count) =
    ap (λ rest. pos first ∷ rest) (points-push (first + 1) count ∙ ap (λ k. points_from (first + 1) count ++ pos k ∷ []) (omega arith))

pub points_more : (first i : ℕ) → points_from first (i + 1) ≡ points_from first i ++ pos (first + i) ∷ []
points_more first i = ap (points_from first) (add-one i) ∙ points-push first i

calls-push : (n slot size q count : ℕ) → new_calls n slot size q (suc count) ≡ new_calls n slot size q count ++ new_call n (slot + count) size (q + count) ∷ []
calls-push n slot size q zero = ap (λ k. new_call n k size q ∷ []) (omega arith) ∙ ap (λ k. new_call n (slot + 0) size k ∷ []) (omega arith)
calls-push n slot size q (suc count) =
    ap (λ rest. new_call n slot size q ∷ rest)
    (calls-push n (slot + 1) size (q + 1) count
    ∙ ap (λ k. new_calls n (slot + 1) size (q + 1) count ++ new_call n k size (q + 1 + count) ∷ []) (omega arith)
    ∙ ap (λ k. new_calls n (slot + 1) size (q + 1) count ++ new_call n (slot + suc count) size k ∷ []) (omega arith))

pub calls_more : (n slot size i : ℕ) → new_calls n slot size 0 (i + 1) ≡ new_calls n slot size 0 i ++ new_call n (slot + i) size i ∷ []
calls_more n slot size i =
    ap (new_calls n slot size 0) (add-one i) ∙ calls-push n slot size 0 i ∙ ap (λ k. new_calls n slot size 0 i ++ new_call n (slot + i) size k ∷ []) (omega arith)

rows-push : (size q count : ℕ) → first_rows size q (suc count) ≡ first_rows size q count ++ points_from ((q + count) * size) size ∷ []
rows-push size q zero = ap (λ k. points_from (k * size) size ∷ []) (omega arith)
rows-push size q (suc count) =
    ap (λ rest. points_from (q * size) size ∷ rest)
    (rows-push size (q + 1) count ∙ ap (λ k. first_rows size (q + 1) count ++ points_from (k * size) size ∷ []) (omega arith))

pub rows_more : (size i : ℕ) → first_rows size 0 (i + 1) ≡ first_rows size 0 i ++ points_from (i * size) size ∷ []
rows_more size i =
    ap (first_rows size 0) (add-one i) ∙ rows-push size 0 i ∙ ap (λ k. first_rows size 0 i ++ points_from (k * size) size ∷ []) (omega arith)

-- ---- parts are asked to step

take_all : {X : Type 0} (xs : List X) → take (length xs) xs ≡ xs
take_all [] = refl
take_all (x ∷ xs) = ap (λ ys. x ∷ ys) (take_all xs)

-- all but the first
abbrev pub rest_of : {X : Type 0} → List X → List X
rest_of xs = take (length xs - 1) (drop 1 xs)

rest_is : {X : Type 0} (x : X) (xs : List X) → rest_of (x ∷ xs) ≡ xs
rest_is x xs = ap (λ n. take n xs) (omega arith) ∙ take_all xs

pub steps_pushed : (old mid new : List Sending) (slot : ℕ) (left right : ℤ) (parts : List Part) (rows : List (List ℤ)) (x : Part) (row : List ℤ) (call : Sending) (next last : ℤ)
    → 1 ≤ length parts → 1 ≤ length rows → x ≡ slice_index_or parts 0 x → row ≡ slice_index_or rows 0 row → next ≡ next_of (rest_of rows) right
    → call ≡ step_call slot x.to left next → last ≡ last_or row left
    → mid ≡ old ++ call ∷ [] → new ≡ mid ++ step_calls (slot + 1) last (rest_of parts) (rest_of rows) right → new ≡ old ++ step_calls slot left parts rows right
steps_pushed old mid new slot left right [] rows x row call next last a b p r n c l m e = absurd (omega arith)
steps_pushed old mid new slot left right (y ∷ parts) [] x row call next last a b p r n c l m e = absurd (omega arith)
steps_pushed old mid new slot left right (y ∷ parts) (z ∷ rows) x row call next last a b p r n c l m e =
    e ∙ (ap (λ xs. xs ++ step_calls (slot + 1) last (rest_of (y ∷ parts)) (rest_of (z ∷ rows)) right) m
    ∙ (ap (λ xs. (old ++ call ∷ []) ++ step_calls (slot + 1) last xs (rest_of (z ∷ rows)) right) (rest_is y parts)
    ∙ (ap (λ xs. (old ++ call ∷ []) ++ step_calls (slot + 1) last parts xs right) (rest_is z rows)
    ∙ (append_assoc old (call ∷ []) (step_calls (slot + 1) last parts rows right)
    ∙ (ap (λ k. old ++ k ∷ step_calls (slot + 1) last parts rows right)
    (c ∙ (ap (λ (u : Part). step_call slot u.to left next) p ∙ ap (step_call slot y.to left) (n ∙ ap (λ xs. next_of xs right) (rest_is z rows))))
    ∙ ap (λ k. old ++ step_call slot y.to left (next_of rows right) ∷ step_calls (slot + 1) k parts rows right) (l ∙ ap (λ u. last_or u left) r))))))

pub on_ok_map : {T E : Type 0} (r : Result T E) (P Q : Type 0) → (P → Q) → OnOk r P → OnOk r Q
on_ok_map (Ok x) P Q f p = f p
on_ok_map (Err e) P Q f p = tt

-- ---- one part is answered

pub with_none : (size places : ℕ) (v : Value) (parts : List Part) (q : ℕ) → length parts ≤ q → parts_with size places v parts q ≡ None
with_none size places v [] q h = refl
with_none size places v (x ∷ parts) zero h = absurd (omega arith)
with_none size places v (x ∷ parts) (suc q) h = ap (both (Some x)) (with_none size places v parts q (omega arith))

pub with_refused : (size places : ℕ) (v : Value) (parts : List Part) (q : ℕ) (x : Part) → q < length parts → x ≡ slice_index_or parts q x → None ≡ answered size places v x.to x.row
    → parts_with size places v parts q ≡ None
with_refused size places v [] q x low at h = absurd (omega arith)
with_refused size places v (y ∷ parts) zero x low at h =
    ap (λ o. both o (Some parts)) (ap (λ (z : Part). answered size places v z.to z.row) (sym at) ∙ sym h)
with_refused size places v (y ∷ parts) (suc q) x low at h = ap (both (Some y)) (with_refused size places v parts q x (omega arith) at h)

with_answer : (size places : ℕ) (v : Value) (parts : List Part) (q : ℕ) (x y : Part) → q < length parts → x ≡ slice_index_or parts q x → Some y ≡ answered size places v x.to x.row
    → parts_with size places v parts q ≡ Some (take q parts ++ y ∷ drop (q + 1) parts)
with_answer size places v [] q x y low at h = absurd (omega arith)
with_answer size places v (z ∷ parts) zero x y low at h =
    ap (λ o. both o (Some parts)) (ap (λ (u : Part). answered size places v u.to u.row) (sym at) ∙ sym h)
with_answer size places v (z ∷ parts) (suc q) x y low at h =
    let more : suc q + 1 ≡ suc (q + 1) = omega arith in
    ap (both (Some z)) (with_answer size places v parts q x y (omega arith) at h) ∙ ap (λ k. Some (z ∷ (take q parts ++ y ∷ drop k (z ∷ parts)))) (sym more)

behind_is : {X : Type 0} (xs : List X) (n : ℕ) → take (length xs - n) (drop n xs) ≡ drop n xs
behind_is [] zero = refl
behind_is {X} [] (suc n) = let none : 0 - suc n ≡ 0 = omega arith in ap (λ k. take {A = X} k []) none
behind_is (x ∷ xs) zero = let all : length (x ∷ xs) - 0 ≡ length (x ∷ xs) = omega arith in ap (λ k. take k (x ∷ xs)) all ∙ take_all (x ∷ xs)
behind_is (x ∷ xs) (suc n) = let fewer : length (x ∷ xs) - suc n ≡ length xs - n = omega arith in ap (λ k. take k (drop n xs)) fewer ∙ behind_is xs n

pub with_pieces : (size places : ℕ) (v : Value) (parts : List Part) (q : ℕ) (x y : Part) (front mid new : List Part) → q < length parts → x ≡ slice_index_or parts q x
    → Some y ≡ answered size places v x.to x.row → front ≡ take q parts → mid ≡ front ++ y ∷ [] → new ≡ mid ++ take (length parts - (q + 1)) (drop (q + 1) parts)
    → Some new ≡ parts_with size places v parts q
with_pieces size places v parts q x y front mid new low at h f m n =
    ap (λ xs. Some xs) (n ∙ (ap (λ xs. mid ++ xs) (behind_is parts (q + 1)) ∙ (ap (λ xs. xs ++ drop (q + 1) parts) (m ∙ ap (λ xs. xs ++ y ∷ []) f)
    ∙ append_assoc (take q parts) (y ∷ []) (drop (q + 1) parts))))
    ∙ sym (with_answer size places v parts q x y low at h)

-- ---- numbers of a row

pub word_last : (x : ℤ) (rest : List ℤ) → length rest ≡ 0 → row_words (x ∷ rest) ≡ signed_decimal x
word_last x [] h = refl
word_last x (y ∷ rest) h = absurd (omega arith)

pub words_pushed : (old mid one new : List ℕ) (numbers : List ℤ) (x : ℤ) (b : Bool) → 1 ≤ length numbers → b ≡ false → b ≡ (length (rest_of numbers) == 0)
    → x ≡ slice_index_or numbers 0 (pos 0)
    → mid ≡ old ++ signed_decimal x → one ≡ mid ++ 32 ∷ [] → new ≡ one ++ row_words (rest_of numbers) → new ≡ old ++ row_words numbers
words_pushed old mid one new [] x b a f g p m o e = absurd (omega arith)
words_pushed old mid one new (z ∷ rest) x b a f g p m o e =
    e ∙ (ap (λ xs. one ++ row_words xs) (rest_is z rest)
    ∙ (ap (λ xs. xs ++ row_words rest) (o ∙ ap (λ xs. xs ++ 32 ∷ []) (m ∙ ap (λ u. old ++ signed_decimal u) p))
    ∙ (append_assoc (old ++ signed_decimal z) (32 ∷ []) (row_words rest) ∙ (append_assoc old (signed_decimal z) (32 ∷ row_words rest)
    ∙ ap (λ xs. old ++ xs) (behind z rest (some rest (sym g' ∙ f)))))))
  where
    g' : b ≡ (length rest == 0)
    g' = g ∙ ap (λ xs. length xs == 0) (rest_is z rest)

    some : (xs : List ℤ) → (length xs == 0) ≡ false → 1 ≤ length xs
    some [] h = absurd (let no : true ≡ false = h in cc)
    some (y ∷ xs) h = omega arith

    behind : (z : ℤ) (xs : List ℤ) → 1 ≤ length xs → signed_decimal z ++ 32 ∷ row_words xs ≡ row_words (z ∷ xs)
    behind z [] h = absurd (omega arith)
    behind z (y ∷ xs) h = refl
