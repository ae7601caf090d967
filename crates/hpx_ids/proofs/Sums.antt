-- Sums over what is at the keys of a table, where one key changes.
use Rattle.std.proofs.Common.{ℕ, zero, suc, List, [], ◌∷◌, ◌≡◌, ◌≢◌, ◌+◌, Option, None, refl, sym, ap, ◌∙◌, arith, get_or, take, add-one}
use Rattle.std.specs.List.{sum_by}
use Rattle.std.proofs.lemmas.List.{take_all}
use Rattle.std.proofs.lemmas.List.Sums.{sum_by-cons}
use Rattle.hpx_value.specs.Ids.{Id}
use Rattle.hpx_ids.specs.declared.held.Held.{Held}
use Rattle.hpx_ids.specs.Tables.{Table, entry, credit_at, credit_sum}

module _ {T : Type 0} (f : Option T → ℕ) (none : f None ≡ 0) where
  -- the same at each key, the same sum
  same_sum : (xs ys : List (Option T)) → ((k : ℕ) → get_or ys k None ≡ get_or xs k None) → sum_by f ys ≡ sum_by f xs
  same_sum [] [] same = refl
  same_sum [] (y ∷ ys) same =
      let head : f y ≡ 0 = ap f (same 0) ∙ none in
      let tail : sum_by f ys ≡ 0 = same_sum [] ys (λ k. same (suc k)) in
      omega (arith, sum_by-cons f y ys)
  same_sum (x ∷ xs) [] same =
      let head : f x ≡ 0 = ap f (sym (same 0)) ∙ none in
      let tail : 0 ≡ sum_by f xs = same_sum xs [] (λ k. same (suc k)) in
      omega (arith, sum_by-cons f x xs)
  same_sum (x ∷ xs) (y ∷ ys) same =
      let head : f y ≡ f x = ap f (same 0) in
      let tail : sum_by f ys ≡ sum_by f xs = same_sum xs ys (λ k. same (suc k)) in
      omega (arith, sum_by-cons f x xs, sum_by-cons f y ys)

  -- one key changes: so does its share of the sum
  pub one_changed : (e : ℕ) (xs ys : List (Option T)) → ((k : ℕ) → k ≢ e → get_or ys k None ≡ get_or xs k None)
      → sum_by f ys + f (get_or xs e None) ≡ sum_by f xs + f (get_or ys e None)
  one_changed e [] [] others = refl
  one_changed zero [] (y ∷ ys) others =
      let tail : sum_by f ys ≡ 0 = same_sum [] ys (λ k. others (suc k) (λ h. (cc))) in
      omega (arith, none, sum_by-cons f y ys)
  one_changed (suc e) [] (y ∷ ys) others =
      let head : f y ≡ 0 = ap f (others 0 (λ h. (cc))) ∙ none in
      let tail : sum_by f ys + f None ≡ 0 + f (get_or ys e None) = one_changed e [] ys (λ k away. others (suc k) (λ h. away (omega arith))) in
      omega (arith, none, sum_by-cons f y ys)
  one_changed zero (x ∷ xs) [] others =
      let tail : 0 ≡ sum_by f xs = same_sum xs [] (λ k. others (suc k) (λ h. (cc))) in
      omega (arith, none, sum_by-cons f x xs)
  one_changed (suc e) (x ∷ xs) [] others =
      let head : f x ≡ 0 = ap f (sym (others 0 (λ h. (cc)))) ∙ none in
      let tail : 0 + f (get_or xs e None) ≡ sum_by f xs + f None = one_changed e xs [] (λ k away. others (suc k) (λ h. away (omega arith))) in
      omega (arith, none, sum_by-cons f x xs)
  one_changed zero (x ∷ xs) (y ∷ ys) others =
      let tail : sum_by f ys ≡ sum_by f xs = same_sum xs ys (λ k. others (suc k) (λ h. (cc))) in
      omega (arith, sum_by-cons f x xs, sum_by-cons f y ys)
  one_changed (suc e) (x ∷ xs) (y ∷ ys) others =
      let head : f y ≡ f x = ap f (others 0 (λ h. (cc))) in
      let tail : sum_by f ys + f (get_or xs e None) ≡ sum_by f xs + f (get_or ys e None) = one_changed e xs ys (λ k away. others (suc k) (λ h. away (omega arith))) in
      omega (arith, sum_by-cons f x xs, sum_by-cons f y ys)

-- what the entries hold of an object, where one key changes
pub credits_changed : (o : Id) (old new : Table) (e : ℕ) (was is : Option Held) → entry old e ≡ was → entry new e ≡ is
    → ((k : ℕ) → k ≢ e → entry new k ≡ entry old k) → credit_sum o new + credit_at o was ≡ credit_sum o old + credit_at o is
credits_changed o old new e was is first then others =
    let base : credit_sum o new + credit_at o (entry old e) ≡ credit_sum o old + credit_at o (entry new e) = one_changed (credit_at o) refl e old.slots new.slots others in
    let a : credit_at o (entry old e) ≡ credit_at o was = ap (credit_at o) first in
    let b : credit_at o (entry new e) ≡ credit_at o is = ap (credit_at o) then in
    omega arith

module _ {T : Type 0} (f : Option T → ℕ) (none : f None ≡ 0) where
  sum_next : (xs : List (Option T)) (e : ℕ) → sum_by f (take (suc e) xs) ≡ sum_by f (take e xs) + f (get_or xs e None)
  sum_next [] e =
      let long : sum_by f (take (suc e) []) ≡ 0 = ap (sum_by f) (take_all (suc e) [] (omega arith)) in
      let short : sum_by f (take e []) ≡ 0 = ap (sum_by f) (take_all e [] (omega arith)) in
      omega (arith, none)
  sum_next (x ∷ xs) zero = omega (arith, sum_by-cons f x [])
  sum_next (x ∷ xs) (suc e) = omega (arith, sum_by-cons f x (take (suc e) xs), sum_by-cons f x (take e xs), sum_next xs e)

  -- the step of a sum over the keys below e
  pub sum_more : (xs : List (Option T)) (e : ℕ) → sum_by f (take (e + 1) xs) ≡ sum_by f (take e xs) + f (get_or xs e None)
  sum_more xs e = rw add-one (sum_next xs e)
