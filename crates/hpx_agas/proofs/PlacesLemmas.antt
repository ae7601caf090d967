-- Places that are filled, and places that are empty.
use Rattle.std.proofs.Common.{ℕ, zero, suc, Bool, true, false, ◌≡◌, ◌<◌, List, [], ◌∷◌, ◌++◌, map, Option, Some, None, length, get_or, take, drop, refl, sym, ap, ◌∙◌, arith}
use Rattle.std.specs.Prelude.{MatchOption, if◌then◌else◌}
use Rattle.std.proofs.lemmas.List.{map-append}
use Rattle.hpx_agas.specs.Places.{filled}

module _ {Q : Type 0} where
  pub filled-append : (xs ys : List (Option Q)) → filled (xs ++ ys) ≡ filled xs ++ filled ys
  filled-append [] ys = refl
  filled-append (None ∷ xs) ys = filled-append xs ys
  filled-append (Some x ∷ xs) ys = ap (λ l. x ∷ l) (filled-append xs ys)

  -- two lists of filled places make one
  pub all_filled : (xs ys : List (Option Q)) → xs ≡ map (λ x. Some x) (filled xs) → ys ≡ map (λ x. Some x) (filled ys) → xs ++ ys ≡ map (λ x. Some x) (filled (xs ++ ys))
  all_filled xs ys hx hy =
      let e : map (λ (x : Q). Some x) (filled (xs ++ ys)) ≡ map (λ x. Some x) (filled xs) ++ map (λ x. Some x) (filled ys) =
      ap (map (λ x. Some x)) (filled-append xs ys) ∙ map-append (λ x. Some x) (filled xs) (filled ys) in
      ap (λ l. l ++ ys) hx ∙ ap (λ l. map (λ x. Some x) (filled xs) ++ l) hy ∙ sym e

  -- the first of filled places, and those behind it
  pub record FirstOut (xs : List (Option Q)) (x : Option Q) (rest : List (Option Q)) : Type 0 where
    pub item : MatchOption x ((filled xs ≡ []) × (filled rest ≡ [])) (λ item. filled xs ≡ item ∷ filled rest)
    pub behind : filled rest ≡ drop 1 (filled xs)
    pub kept : rest ≡ map (λ x. Some x) (filled rest)

  pub first_out : (xs : List (Option Q)) (x : Option Q) (rest : List (Option Q)) → xs ≡ map (λ x. Some x) (filled xs) → xs ≡ x ∷ rest → FirstOut xs x rest
  first_out [] x rest h e = cc
  first_out (None ∷ xs) x rest h e = absurd (no (filled xs) h)
    where
      no : (ys : List Q) → None ∷ xs ≡ map (λ x. Some x) ys → ⊥
      no [] e = cc
      no (y ∷ ys) e = cc
  first_out (Some y ∷ xs) None rest h e = cc
  first_out (Some y ∷ xs) (Some x) rest h e =
      let same : y ≡ x = cc in
      let behind : xs ≡ rest = cc in
      let kept : xs ≡ map (λ x. Some x) (filled xs) = cc in
      record {
        item = ap (λ z. z ∷ filled xs) same ∙ ap (λ l. x ∷ filled l) behind;
        behind = ap filled (sym behind);
        kept = sym behind ∙ kept ∙ ap (λ l. map (λ x. Some x) (filled l)) behind;
      }

  -- empty places
  pub none_taken : (n : ℕ) (xs : List (Option Q)) → filled xs ≡ [] → filled (take n xs) ≡ []
  none_taken zero [] h = refl
  none_taken (suc n) [] h = refl
  none_taken zero (x ∷ xs) h = refl
  none_taken (suc n) (None ∷ xs) h = none_taken n xs h
  none_taken (suc n) (Some x ∷ xs) h = cc

  pub none_dropped : (n : ℕ) (xs : List (Option Q)) → filled xs ≡ [] → filled (drop n xs) ≡ []
  none_dropped zero xs h = h
  none_dropped (suc n) [] h = refl
  none_dropped (suc n) (None ∷ xs) h = none_dropped n xs h
  none_dropped (suc n) (Some x ∷ xs) h = cc

  pub none_first : (xs : List (Option Q)) (x : Option Q) → filled xs ≡ [] → 0 < length xs → x ≡ get_or xs 0 x → x ≡ None
  none_first [] x h within e = absurd (omega arith)
  none_first (None ∷ xs) x h within e = e
  none_first (Some y ∷ xs) x h within e = cc

  pub none_added : (b : Bool) (xs : List (Option Q)) → filled xs ≡ [] → filled (if b then xs ++ None ∷ [] else xs) ≡ []
  none_added true xs h = filled-append xs (None ∷ []) ∙ ap (λ l. l ++ []) h
  none_added false xs h = h
