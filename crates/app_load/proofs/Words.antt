-- The eight names, and the words of the lines that say what they stand for.
use Rattle.std.specs.Prelude.{ℕ, ℤ, pos, negsuc, Bool, true, false, List, [], ◌∷◌, ◌++◌, ◌≡◌, ◌==◌, ◌<◌, Option, Some, None, codes, refl}
use Rattle.std.specs.Str.{bytes_eq}
use Rattle.std.specs.Fmt.{decimal, digits}
use Rattle.std.proofs.Common.{ap, ◌∙◌, sym}
use Rattle.std.proofs.lemmas.Bool.{eqb-true}
use Rattle.std.proofs.lemmas.Slice.Eq.{bytes_eq-Decides}
use Rattle.app_console.specs.Console.{words_of, number_of}
use Rattle.app_console.specs.Commands.{is_name}
use Rattle.app_compute.specs.Load.{line_with}
use Rattle.app_load.proofs.Small.{below_each, all_below, below_all}

-- the name of an object
abbrev pub name : ℕ → List ℕ
name j = codes "o" ++ decimal j

pub good_name : (j : ℕ) → j < 8 → is_name (name j) ≡ true
unfolding digits
good_name j low = below_each (λ i. is_name (name i) ≡ true) 8 j (refl, (refl, (refl, (refl, (refl, (refl, (refl, (refl, tt)))))))) low

-- no two are the same
abbrev same : Bool → Bool → Bool
same true b = b
same false true = false
same false false = true

same-true : (a b : Bool) → same a b ≡ true → a ≡ b
same-true true b h = sym h
same-true false true h = cc
same-true false false h = refl

pub names_apart : (i j : ℕ) → i < 8 → j < 8 → bytes_eq (name i) (name j) ≡ (i == j)
unfolding digits
names_apart i j low low' =
    same-true (bytes_eq (name i) (name j)) (i == j)
    (below_all (λ k. same (bytes_eq (name i) (name k)) (i == k)) 8 j
    (below_all (λ l. all_below (λ k. same (bytes_eq (name l) (name k)) (l == k)) 8) 8 i refl low) low')

-- ---- places

abbrev reads : ℕ → Option ℤ → Bool
reads p (Some (pos n)) = n == p
reads p _ = false

reads-true : (p : ℕ) (o : Option ℤ) → reads p o ≡ true → o ≡ Some (pos p)
reads-true p (Some (pos n)) h = ap (λ k. Some (pos k)) (eqb-true n p h)
reads-true p (Some (negsuc n)) h = cc
reads-true p None h = cc

-- a place is read as it was written
pub place_read : (p : ℕ) → p < 64 → number_of (decimal p) ≡ Some (pos p)
unfolding digits
place_read p low = reads-true p (number_of (decimal p)) (below_all (λ k. reads k (number_of (decimal k))) 64 p refl low)

abbrev is_one : List (List ℕ) → List ℕ → Bool
is_one (w ∷ []) word = bytes_eq w word
is_one _ word = false

is_one-true : (ws : List (List ℕ)) (word : List ℕ) → is_one ws word ≡ true → ws ≡ word ∷ []
is_one-true [] word h = cc
is_one-true (w ∷ []) word h = ap (λ x. x ∷ []) ((bytes_eq-Decides w word).0 h)
is_one-true (w ∷ x ∷ ws) word h = cc

-- and is one word
place_word : (p : ℕ) → p < 64 → words_of (decimal p) ≡ decimal p ∷ []
unfolding digits
place_word p low = is_one-true (words_of (decimal p)) (decimal p) (below_all (λ k. is_one (words_of (decimal k)) (decimal k)) 64 p refl low)

-- ---- lines

new_split : (j : ℕ) → j < 8 → (p : ℕ) → words_of (line_with (codes "new") j p) ≡ codes "new" ∷ name j ∷ words_of (decimal p)
unfolding digits
new_split j low =
    below_each (λ i. (p : ℕ) → words_of (line_with (codes "new") i p) ≡ codes "new" ∷ name i ∷ words_of (decimal p)) 8 j
    ((λ p. refl), ((λ p. refl), ((λ p. refl), ((λ p. refl), ((λ p. refl), ((λ p. refl), ((λ p. refl), ((λ p. refl), tt)))))))) low

pub new_words : (j p : ℕ) → j < 8 → p < 64 → words_of (line_with (codes "new") j p) ≡ codes "new" ∷ name j ∷ decimal p ∷ []
new_words j p low place = new_split j low p ∙ ap (λ ws. codes "new" ∷ name j ∷ ws) (place_word p place)

pub drop_words : (j : ℕ) → j < 8 → words_of (codes "drop o" ++ decimal j) ≡ codes "drop" ∷ name j ∷ []
unfolding digits
drop_words j low =
    below_each (λ i. words_of (codes "drop o" ++ decimal i) ≡ codes "drop" ∷ name i ∷ []) 8 j
    (refl, (refl, (refl, (refl, (refl, (refl, (refl, (refl, tt)))))))) low
