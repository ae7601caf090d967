-- Bags of messages, of which one is taken.
use Rattle.std.specs.Prelude.{ℕ, Bool, true, false, cond, List, [], ◌∷◌, ◌++◌, ◌≡◌, ◌+◌, ◌≤◌, ◌||◌, refl}
use Rattle.std.specs.List.{AllByRecursion, list_any, sum_by}
use Rattle.std.proofs.Common.{sym, ap, subst, arith, inl, inr}
use Rattle.std.proofs.lemmas.List.Sums.{sum_by-cons, sum_by-append}
use Rattle.hpx_value.specs.declared.value.Message.{Message}
use Rattle.hpx_journal.proofs.SameMessage.{same_message, same_message-refl, same_message-true}
use Rattle.app_compute.proofs.Trees.{or_cases}

one_there : (m : Message) → ◌≡◌ {A = ℕ} (cond (same_message m m) 1 0) 1
one_there m = ap (λ (b : Bool). cond b 1 0) (same_message-refl m)

passes_at : (p : Message → Bool) (b : Bool) (x : Message) (xs : List Message) → p x ≡ b
    → (1 ≤ sum_by (λ y. cond (p y) 1 0) xs → list_any p xs ≡ true) → 1 ≤ cond b 1 0 + sum_by (λ y. cond (p y) 1 0) xs
    → (b || list_any p xs) ≡ true
passes_at p true x xs e ih h = refl
passes_at p false x xs e ih h = ih (omega arith)

passes : (p : Message → Bool) (xs : List Message) → 1 ≤ sum_by (λ y. cond (p y) 1 0) xs → list_any p xs ≡ true
passes p [] h = absurd (omega arith)
passes p (x ∷ xs) h = passes_at p (p x) x xs refl (passes p xs) (omega (arith, sum_by-cons (λ y. cond (p y) 1 0) x xs))

pub none_left : (xs : List Message) → sum_by (λ x. 1) xs ≡ 0 → xs ≡ []
none_left [] h = refl
none_left (x ∷ xs) h = absurd (omega (arith, sum_by-cons (λ y. 1) x xs))

-- one of a bag, and the others
pub sum_split : (h : Message → ℕ) (before : List Message) (m : Message) (behind all : List Message) → all ≡ before ++ m ∷ behind
    → sum_by h all ≡ sum_by h (before ++ behind) + h m
sum_split h before m behind all e =
    omega (arith, ap (sum_by h) e, sum_by-append h before (m ∷ behind), sum_by-append h before behind, sum_by-cons h m behind)

-- what is in one bag is in another that is the same
pub in_bag : (before : List Message) (m : Message) (behind all ys : List Message) → all ≡ before ++ m ∷ behind
    → ((h : Message → ℕ) → sum_by h all ≡ sum_by h ys) → list_any (same_message m) ys ≡ true
in_bag before m behind all ys e same =
    let h : Message → ℕ = λ y. cond (same_message m y) 1 0 in
    passes (same_message m) ys (omega (arith, same h, sum_split h before m behind all e, one_there m))

pub any_holds : (P : Message → Type 0) (m : Message) (ys : List Message) → AllByRecursion P ys → list_any (same_message m) ys ≡ true → P m
any_holds P m [] all h = cc
any_holds P m (y ∷ ys) all h = elim (or_cases (same_message m y) (list_any (same_message m) ys) h) [
  | inl e ↦ subst P (sym (same_message-true m y e)) all.0
  | inr e ↦ any_holds P m ys all.1 e
]
