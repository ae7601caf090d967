-- Words that are text, one more after another.
use Rattle.std.proofs.Common.{ℕ, zero, suc, Bool, true, false, ◌&&◌, List, [], ◌∷◌, ◌++◌, ◌+◌, ◌<◌, ◌≡◌, length, get_or, take, map, refl, sym, ap, ◌∙◌, inl, inr, arith}
use Rattle.std.specs.List.{list_all}
use Rattle.std.specs.Str.{IsUtf8, is_utf8}
use Rattle.std.proofs.lemmas.Bool.{cases_Bool}
use Rattle.std.proofs.lemmas.List.{take_more}
use Rattle.std.proofs.lemmas.Str.{IsUtf8-from_is_utf8, is_utf8-from_IsUtf8}

and_false : (b : Bool) → (b && false) ≡ false
and_false true = refl
and_false false = refl

map_more : {X : Type 0} (f : X → List ℕ) (xs : List X) (x : X) → map f (xs ++ x ∷ []) ≡ map f xs ++ f x ∷ []
map_more f [] x = refl
map_more f (y ∷ ys) x = ap (λ zs. f y ∷ zs) (map_more f ys x)

all_more : (xs : List (List ℕ)) (x : List ℕ) → list_all is_utf8 xs ≡ true → is_utf8 x ≡ true → list_all is_utf8 (xs ++ x ∷ []) ≡ true
all_more [] x all one = rw one refl
all_more (y ∷ ys) x all one = elim (cases_Bool (is_utf8 y)) [
  | inl good ↦ (let rest : list_all is_utf8 ys ≡ true = rw good at all in rw good (all_more ys x rest one))
  | inr bad ↦ absurd (let none : false ≡ true = rw bad at all in cc)
]

pub texts_more : {X : Type 0} (now : X → List ℕ) (old new : List X) (x : X) (words : List (List ℕ)) (i : ℕ) (word : List ℕ) → i < length words
    → word ≡ get_or words i word → map now old ≡ take i words → new ≡ old ++ x ∷ [] → now x ≡ word → map now new ≡ take (i + 1) words
texts_more now old new x words i word within at so_far more same =
    ap (map now) more
    ∙ (map_more now old x
    ∙ (ap (λ ws. ws ++ now x ∷ []) so_far ∙ (ap (λ w. take i words ++ w ∷ []) (same ∙ at) ∙ sym (take_more words i word within))))

pub text_more : (words : List (List ℕ)) (i : ℕ) (word : List ℕ) → i < length words → word ≡ get_or words i word → list_all is_utf8 (take i words) ≡ true
    → IsUtf8 word → list_all is_utf8 (take (i + 1) words) ≡ true
text_more words i word within at so_far text =
    ap (list_all is_utf8) (take_more words i word within ∙ ap (λ w. take i words ++ w ∷ []) (sym at)) ∙ all_more (take i words) word so_far (is_utf8-from_IsUtf8 word text)

one_bad : (words : List (List ℕ)) (i : ℕ) (word : List ℕ) → i < length words → word ≡ get_or words i word → is_utf8 word ≡ false → list_all is_utf8 words ≡ false
one_bad [] i word within at bad = absurd (omega arith)
one_bad (w ∷ ws) zero word within at bad = let here : is_utf8 w ≡ false = ap is_utf8 (sym at) ∙ bad in rw here refl
one_bad (w ∷ ws) (suc i) word within at bad = ap (λ b. is_utf8 w && b) (one_bad ws i word (omega arith) at bad) ∙ and_false (is_utf8 w)

pub not_text : (words : List (List ℕ)) (i : ℕ) (word bytes : List ℕ) → i < length words → word ≡ get_or words i word → bytes ≡ word → (IsUtf8 bytes → ⊥)
    → list_all is_utf8 words ≡ false
not_text words i word bytes within at same bad = elim (cases_Bool (is_utf8 word)) [
  | inl good ↦ absurd (bad (rw same (IsUtf8-from_is_utf8 word good)))
  | inr none ↦ one_bad words i word within at none
]
