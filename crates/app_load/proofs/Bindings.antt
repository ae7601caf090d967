-- How often a name is bound, where no name is pending: once where it stands for an object, and else not.
use Rattle.std.specs.Prelude.{ℕ, suc, Bool, true, false, cond, is_some, List, [], ◌∷◌, ◌++◌, ◌≡◌, ◌+◌, ◌≤◌, Option, Some, None, length, refl, if◌then◌else◌}
use Rattle.std.specs.List.{AllByRecursion}
use Rattle.std.specs.Str.{bytes_eq}
use Rattle.std.proofs.Common.{ap, ◌∙◌, sym, subst, arith}
use Rattle.std.proofs.lemmas.Bool.{cond_both}
use Rattle.std.proofs.lemmas.Slice.Eq.{bytes_eq-Decides}
use Rattle.app_console.specs.declared.desk.Naming.{Naming}
use Rattle.app_console.specs.declared.plan.Status.TheVariants.{Unknown}
use Rattle.app_console.specs.declared.plan.Refusal.TheVariants.{NameInUse}
use Rattle.app_console.specs.Commands.{new_refusal, bound_refusal}
use Rattle.app_console.specs.Desks.{seek, status_by, status_in, without}
use Rattle.app_console.specs.Plain.{Datum}

-- how often a name is bound
abbrev pub times : List ℕ → List (Naming Datum) → ℕ
times name [] = 0
times name (x ∷ xs) = if bytes_eq name x.name then suc (times name xs) else times name xs

-- no name is pending
abbrev pub AreBound : List (Naming Datum) → Type 0
AreBound xs = AllByRecursion (λ x. is_some x.to ≡ true) xs

-- ---- a name that is not bound

pub absent_seek : (name : List ℕ) (xs : List (Naming Datum)) → times name xs ≡ 0 → is_some (seek name xs) ≡ false
absent_seek name [] e = refl
absent_seek name (x ∷ xs) e = by_name (bytes_eq name x.name) (absent_seek name xs) e
  where
    by_name : (b : Bool) → (times name xs ≡ 0 → is_some (seek name xs) ≡ false) → cond b (suc (times name xs)) (times name xs) ≡ 0 → is_some (cond b x.to (seek name xs)) ≡ false
    by_name true more f = absurd (omega arith)
    by_name false more f = more f

pub absent_status : (kind : Datum → ℕ) (name : List ℕ) (xs : List (Naming Datum)) → times name xs ≡ 0 → status_in kind xs name ≡ Unknown
absent_status kind name [] e = refl
absent_status kind name (x ∷ xs) e = by_name (bytes_eq name x.name) (absent_status kind name xs) e
  where
    by_name : (b : Bool) → (times name xs ≡ 0 → status_in kind xs name ≡ Unknown) → cond b (suc (times name xs)) (times name xs) ≡ 0 → cond b (status_by kind x.to) (status_in kind xs name) ≡ Unknown
    by_name true more f = absurd (omega arith)
    by_name false more f = more f

pub absent_without : (name : List ℕ) (xs : List (Naming Datum)) → times name xs ≡ 0 → without name xs ≡ xs
absent_without name [] e = refl
absent_without name (x ∷ xs) e = by_name (bytes_eq name x.name) (absent_without name xs) e
  where
    by_name : (b : Bool) → (times name xs ≡ 0 → without name xs ≡ xs) → cond b (suc (times name xs)) (times name xs) ≡ 0 → cond b xs (x ∷ without name xs) ≡ x ∷ xs
    by_name true more f = absurd (omega arith)
    by_name false more f = ap (λ ys. x ∷ ys) (more f)

-- ---- a name that is bound

pub present_seek : (name : List ℕ) (xs : List (Naming Datum)) → AreBound xs → 1 ≤ times name xs → is_some (seek name xs) ≡ true
present_seek name [] all h = absurd (omega arith)
present_seek name (x ∷ xs) all h = by_name (bytes_eq name x.name) (present_seek name xs all.1) h
  where
    by_name : (b : Bool) → (1 ≤ times name xs → is_some (seek name xs) ≡ true) → 1 ≤ cond b (suc (times name xs)) (times name xs) → is_some (cond b x.to (seek name xs)) ≡ true
    by_name true more f = all.0
    by_name false more f = more f

pub present_new : (kind : Datum → ℕ) (name : List ℕ) (xs : List (Naming Datum)) → 1 ≤ times name xs → new_refusal (status_in kind xs name) ≡ Some NameInUse
present_new kind name [] h = absurd (omega arith)
present_new kind name (x ∷ xs) h = by_name (bytes_eq name x.name) (present_new kind name xs) h
  where
    by_to : (o : Option Datum) → new_refusal (status_by kind o) ≡ Some NameInUse
    by_to None = refl
    by_to (Some v) = refl

    by_name : (b : Bool) → (1 ≤ times name xs → new_refusal (status_in kind xs name) ≡ Some NameInUse) → 1 ≤ cond b (suc (times name xs)) (times name xs)
        → new_refusal (cond b (status_by kind x.to) (status_in kind xs name)) ≡ Some NameInUse
    by_name true more f = by_to x.to
    by_name false more f = more f

pub present_bound : (kind : Datum → ℕ) (name : List ℕ) (xs : List (Naming Datum)) → AreBound xs → 1 ≤ times name xs → bound_refusal (status_in kind xs name) ≡ None
present_bound kind name [] all h = absurd (omega arith)
present_bound kind name (x ∷ xs) all h = by_name (bytes_eq name x.name) (present_bound kind name xs all.1) h
  where
    by_to : (o : Option Datum) → is_some o ≡ true → bound_refusal (status_by kind o) ≡ None
    by_to None e = cc
    by_to (Some v) e = refl

    by_name : (b : Bool) → (1 ≤ times name xs → bound_refusal (status_in kind xs name) ≡ None) → 1 ≤ cond b (suc (times name xs)) (times name xs)
        → bound_refusal (cond b (status_by kind x.to) (status_in kind xs name)) ≡ None
    by_name true more f = by_to x.to all.0
    by_name false more f = more f

-- ---- one binding less

pub bound_without : (name : List ℕ) (xs : List (Naming Datum)) → AreBound xs → AreBound (without name xs)
bound_without name [] all = tt
bound_without name (x ∷ xs) all = cond_both (bytes_eq name x.name) _ _ AreBound (λ e. all.1) (λ e. (all.0, bound_without name xs all.1))

pub length_without : (name : List ℕ) (xs : List (Naming Datum)) → 1 ≤ times name xs → length (without name xs) + 1 ≡ length xs
length_without name [] h = absurd (omega arith)
length_without name (x ∷ xs) h = by_name (bytes_eq name x.name) (length_without name xs) h
  where
    by_name : (b : Bool) → (1 ≤ times name xs → length (without name xs) + 1 ≡ length xs) → 1 ≤ cond b (suc (times name xs)) (times name xs)
        → length (cond b xs (x ∷ without name xs)) + 1 ≡ suc (length xs)
    by_name true more f = omega arith
    by_name false more f = let less = more f in omega arith

pub times_without : (name : List ℕ) (xs : List (Naming Datum)) → 1 ≤ times name xs → times name (without name xs) + 1 ≡ times name xs
times_without name [] h = absurd (omega arith)
times_without name (x ∷ xs) h = by_name (bytes_eq name x.name) refl (times_without name xs) h
  where
    by_name : (b : Bool) → bytes_eq name x.name ≡ b → (1 ≤ times name xs → times name (without name xs) + 1 ≡ times name xs)
        → 1 ≤ cond b (suc (times name xs)) (times name xs) → times name (cond b xs (x ∷ without name xs)) + 1 ≡ cond b (suc (times name xs)) (times name xs)
    by_name true e more f = omega arith
    by_name false e more f = ap (λ c. cond c (suc (times name (without name xs))) (times name (without name xs)) + 1) e ∙ more f

pub times_other : (other name : List ℕ) (xs : List (Naming Datum)) → bytes_eq other name ≡ false → times other (without name xs) ≡ times other xs
times_other other name [] d = refl
times_other other name (x ∷ xs) d = by_name (bytes_eq name x.name) refl (times_other other name xs d)
  where
    by_name : (b : Bool) → bytes_eq name x.name ≡ b → times other (without name xs) ≡ times other xs
        → times other (cond b xs (x ∷ without name xs)) ≡ cond (bytes_eq other x.name) (suc (times other xs)) (times other xs)
    by_name true e more =
        let apart : bytes_eq other x.name ≡ false = subst (λ w. bytes_eq other w ≡ false) ((bytes_eq-Decides name x.name).0 e) d in
        ap (λ c. cond c (suc (times other xs)) (times other xs)) (sym apart)
    by_name false e more = ap (λ k. cond (bytes_eq other x.name) (suc k) k) more

-- ---- one binding more

pub bound_end : (x : Naming Datum) (xs : List (Naming Datum)) → AreBound xs → is_some x.to ≡ true → AreBound (xs ++ x ∷ [])
bound_end x [] all e = (e, tt)
bound_end x (y ∷ xs) all e = (all.0, bound_end x xs all.1 e)

pub length_end : (x : Naming Datum) (xs : List (Naming Datum)) → length (xs ++ x ∷ []) ≡ length xs + 1
length_end x [] = refl
length_end x (y ∷ xs) = let more = length_end x xs in omega arith

pub times_end : (name : List ℕ) (x : Naming Datum) (xs : List (Naming Datum))
    → times name (xs ++ x ∷ []) ≡ cond (bytes_eq name x.name) (suc (times name xs)) (times name xs)
times_end name x [] = refl
times_end name x (y ∷ xs) = ap (λ k. cond (bytes_eq name y.name) (suc k) k) (times_end name x xs) ∙ swap (bytes_eq name x.name) (bytes_eq name y.name)
  where
    swap : (a b : Bool) → cond b (suc (cond a (suc (times name xs)) (times name xs))) (cond a (suc (times name xs)) (times name xs))
        ≡ cond a (suc (cond b (suc (times name xs)) (times name xs))) (cond b (suc (times name xs)) (times name xs))
    swap true true = refl
    swap true false = refl
    swap false true = refl
    swap false false = refl
