-- What the first calls of an iterator tell of the list that it gives.
use Rattle.std.proofs.Common.{◌≡◌, sym, ap, ◌∙◌, List, [], ◌∷◌, Option, Some, None, refl}
use Rattle.std.proofs.lemmas.Iterator.{YieldsList}

-- the first call gives nothing: it is empty
pub none-given : {S A B : Type 0} {steps : S → Option A → S → Type 0} {v : A → B} {s : S} {r : Option A} (t : S) (all : List B) →
    steps s r t → r ≡ None → YieldsList steps v s all → all ≡ []
none-given t [] h e road = refl
none-given t (y ∷ ys) h e road = absurd (road.runs.0 _ (rw e at h))

-- the first call gives an item: it is the first, and the others are given next
pub first-given : {S A B : Type 0} {steps : S → Option A → S → Type 0} {v : A → B} {s : S} {r : Option A} {x : A} (t : S) (all : List B) →
    steps s r t → r ≡ Some x → YieldsList steps v s all → (rest : List B) × (all ≡ v x ∷ rest) × YieldsList steps v t rest
first-given t [] h e road = absurd (road.runs _ _ (rw e at h))
first-given t (y ∷ ys) h e road =
    let goes = road.runs.1 _ _ (rw e at h) in (ys, ap (λ z. z ∷ ys) (sym goes.0), record { runs = goes.1 })

-- one item, and then nothing
pub one-given : {S A B : Type 0} {steps : S → Option A → S → Type 0} {v : A → B} {s : S} {r q : Option A} {x : A} (t u : S) (all : List B) →
    steps s r t → steps t q u → r ≡ Some x → q ≡ None → YieldsList steps v s all → all ≡ v x ∷ []
one-given {v} {x} t u all h k e d road =
    let first = first-given t all h e road in first.1 ∙ ap (λ z. v x ∷ z) (none-given u first.0 k d first.2)

-- two items, and then nothing
pub two-given : {S A B : Type 0} {steps : S → Option A → S → Type 0} {v : A → B} {s : S} {r q p : Option A} {x y : A} (t u w : S) (all : List B) →
    steps s r t → steps t q u → steps u p w → r ≡ Some x → q ≡ Some y → p ≡ None → YieldsList steps v s all → all ≡ v x ∷ v y ∷ []
two-given {v} {x} t u w all h k l e d f road =
    let first = first-given t all h e road in first.1 ∙ ap (λ z. v x ∷ z) (one-given u w first.0 k l d f first.2)

-- three items
pub three-given : {S A B : Type 0} {steps : S → Option A → S → Type 0} {v : A → B} {s : S} {r q p : Option A} {x y z : A} (t u w : S) (all : List B) →
    steps s r t → steps t q u → steps u p w → r ≡ Some x → q ≡ Some y → p ≡ Some z → YieldsList steps v s all →
    (rest : List B) × (all ≡ v x ∷ v y ∷ v z ∷ rest)
three-given {v} {x} {y} t u w all h k l e d f road =
    let first = first-given t all h e road in
    let second = first-given u first.0 k d first.2 in
    let third = first-given w second.0 l f second.2 in
    (third.0, first.1 ∙ ap (λ z. v x ∷ z) (second.1 ∙ ap (λ z. v y ∷ z) third.1))
