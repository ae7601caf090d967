-- The lines of a made session, one more at the end.
use Rattle.std.specs.Prelude.{ℕ, zero, suc, List, [], ◌∷◌, ◌++◌, ◌≡◌, ◌+◌, ◌%◌, ◌/◌, codes, refl}
use Rattle.std.proofs.Common.{ap, ◌∙◌, sym, arith, add-one}
use Rattle.std.proofs.lemmas.List.{append_assoc}
use Rattle.app_compute.specs.Load.{next_number, line_of, line_with, lines_from, objects_from}

-- the number after so many
abbrev pub number_after : ℕ → ℕ → ℕ
number_after x zero = x
number_after x (suc count) = next_number (number_after x count)

later : (x count : ℕ) → number_after (next_number x) count ≡ next_number (number_after x count)
later x zero = refl
later x (suc count) = ap next_number (later x count)

lines-push : (n x count : ℕ) → lines_from n x (suc count) ≡ lines_from n x count ++ line_of n (number_after x (suc count) / 65536) ∷ []
lines-push n x zero = refl
lines-push n x (suc count) =
    ap (λ rest. line_of n (next_number x / 65536) ∷ rest)
    (lines-push n (next_number x) count
    ∙ ap (λ y. lines_from n (next_number x) count ++ line_of n (y / 65536) ∷ []) (ap next_number (later x count)))

pub lines_more : (n x i : ℕ) → lines_from n x (i + 1) ≡ lines_from n x i ++ line_of n (number_after x (i + 1) / 65536) ∷ []
lines_more n x i =
    ap (lines_from n x) (add-one i) ∙ lines-push n x i
    ∙ ap (λ k. lines_from n x i ++ line_of n (number_after x k / 65536) ∷ []) (sym (add-one i))

objects-push : (n j count : ℕ) → objects_from n j (suc count) ≡ objects_from n j count ++ line_with (codes "new") (j + count) ((j + count) % n) ∷ []
objects-push n j zero = ap (λ k. line_with (codes "new") k (k % n) ∷ []) (omega arith)
objects-push n j (suc count) =
    ap (λ rest. line_with (codes "new") j (j % n) ∷ rest)
    (objects-push n (j + 1) count ∙ ap (λ k. objects_from n (j + 1) count ++ line_with (codes "new") k (k % n) ∷ []) (omega arith))

pub objects_more : (n i : ℕ) → objects_from n 0 (i + 1) ≡ objects_from n 0 i ++ line_with (codes "new") i (i % n) ∷ []
objects_more n i =
    ap (objects_from n 0) (add-one i) ∙ objects-push n 0 i
    ∙ ap (λ k. objects_from n 0 i ++ line_with (codes "new") k (k % n) ∷ []) (omega arith)

-- lists that grow by their next line
pushed : (old texts new front : List (List ℕ)) (item line : List ℕ) (whole : List (List ℕ)) → texts ≡ old ++ front → item ≡ line
    → whole ≡ front ++ line ∷ [] → new ≡ texts ++ item ∷ [] → new ≡ old ++ whole
pushed old texts new front item line whole h e w p =
    p ∙ ap (λ xs. xs ++ item ∷ []) h ∙ ap (λ x. (old ++ front) ++ x ∷ []) e ∙ append_assoc old front (line ∷ []) ∙ ap (λ xs. old ++ xs) (sym w)

pub objects_pushed : (n i : ℕ) (old texts new : List (List ℕ)) (item : List ℕ) → texts ≡ old ++ objects_from n 0 i
    → item ≡ line_with (codes "new") i (i % n) → new ≡ texts ++ item ∷ [] → new ≡ old ++ objects_from n 0 (i + 1)
objects_pushed n i old texts new item h e p = pushed old texts new _ item _ _ h e (objects_more n i) p

pub number_more : (x i m number : ℕ) → number ≡ number_after x i → m ≡ next_number number → m ≡ number_after x (i + 1)
number_more x i m number h e = e ∙ ap next_number h ∙ ap (number_after x) (sym (add-one i))

pub lines_pushed : (n x i m : ℕ) (old texts new : List (List ℕ)) (item : List ℕ) → texts ≡ old ++ lines_from n x i
    → m ≡ number_after x (i + 1) → item ≡ line_of n (m / 65536) → new ≡ texts ++ item ∷ [] → new ≡ old ++ lines_from n x (i + 1)
lines_pushed n x i m old texts new item h k e p =
    pushed old texts new _ item _ _ h (e ∙ ap (λ y. line_of n (y / 65536)) k) (lines_more n x i) p
