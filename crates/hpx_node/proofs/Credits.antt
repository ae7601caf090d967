-- Ids are given up, one after another.
use Rattle.hpx_node.proofs.Common.{Entry, Freed, HasCredit, Id, List, MatchOption, None, Option, Some, Standing, Tables, Up, [], ap, append_assoc, at_all, bare, entry_at, flat_append, freed, get_or, ids_in, length, log_of, map-append, refl, returns_objects, sym, take, take_more, up_of, ups, with_return, with_returns, ℕ, ◌++◌, ◌+◌, ◌<◌, ◌∙◌, ◌∷◌, ◌≡◌, ◌≤◌}

pub credit_log_is : (id : Id) → HasCredit id → (log : ℕ) × (id.log ≡ Some log)
credit_log_is id h = at id.log refl h
  where
    at : (log : Option ℕ) → id.log ≡ log → MatchOption log ⊥ (λ l. 16 ≤ id.kind) → (l : ℕ) × (id.log ≡ Some l)
    at None e h = absurd h
    at (Some l) e h = (l, e)

returns_append : (xs ys : List Id) (t : Tables) → with_returns (xs ++ ys) t ≡ with_returns ys (with_returns xs t)
returns_append [] ys t = refl
returns_append (x ∷ xs) ys t = returns_append xs ys (with_return x x.log t)

pub returns_more : (ids : List Id) (i : ℕ) (x : Id) (t m t' : Tables) → i < length ids → x ≡ get_or ids i x
    → m ≡ with_returns (take i ids) t → t' ≡ with_return x x.log m → t' ≡ with_returns (take (i + 1) ids) t
returns_more ids i x t m t' lt is before goes =
    let e : take (i + 1) ids ≡ take i ids ++ x ∷ [] = take_more ids i x lt ∙ ap (λ y. take i ids ++ y ∷ []) (sym is) in
    goes ∙ (ap (with_return x x.log) before ∙ (sym (returns_append (take i ids) (x ∷ []) t) ∙ ap (λ xs. with_returns xs t) (sym e)))

pub returns_here : (ids : List Id) (t : Tables) → (with_returns ids t).here ≡ t.here
returns_here [] t = refl
returns_here (id ∷ ids) t = returns_here ids (with_return id id.log t) ∙ one id.log
  where
    one : (l : Option ℕ) → (with_return id l t).here ≡ t.here
    one None = refl
    one (Some log) = refl

pub returns_kept : (ids : List Id) (t : Tables) → (with_returns ids t).objects ≡ t.objects
returns_kept [] t = refl
returns_kept (id ∷ ids) t = returns_kept ids (with_return id id.log t) ∙ one id.log
  where
    one : (l : Option ℕ) → (with_return id l t).objects ≡ t.objects
    one None = refl
    one (Some log) = refl

pub grows_more : (ids : List Id) (i : ℕ) (x : Id) (k k' : ℕ) (before now after : List Entry) → i < length ids → x ≡ get_or ids i x → k' ≡ k
    → now ≡ before ++ at_all k (ups (take i ids)) → after ≡ now ++ at_all k' (ups (x ∷ [])) → after ≡ before ++ at_all k (ups (take (i + 1) ids))
grows_more ids i x k k' before now after lt is at was grows =
    let e : take (i + 1) ids ≡ take i ids ++ x ∷ [] = take_more ids i x lt ∙ ap (λ y. take i ids ++ y ∷ []) (sym is) in
    grows
    ∙ (ap (λ z. now ++ at_all z (ups (x ∷ []))) at
    ∙ (ap (λ xs. xs ++ at_all k (ups (x ∷ []))) was
    ∙ (append_assoc before (at_all k (ups (take i ids))) (at_all k (ups (x ∷ [])))
    ∙ ap (λ xs. before ++ xs) (sym (ap (λ xs. at_all k (ups xs)) e ∙ (ap (at_all k) (flat_append (λ (id : Id). up_of id id.log) (take i ids) (x ∷ [])) ∙ map-append (entry_at k) (ups (take i ids)) (ups (x ∷ []))))))))

pub one_up : (id : Id) → HasCredit id → (ids : List Id) (k : ℕ) (es : List Entry)
    → (es ++ record { at = k; event = Up (bare id) (log_of id.log) } ∷ []) ++ at_all k (ups ids) ≡ es ++ at_all k (ups (id ∷ ids))
one_up id h ids k es = each id.log h
  where
    each : (l : Option ℕ) → MatchOption l ⊥ (λ x. 16 ≤ id.kind)
        → (es ++ record { at = k; event = Up (bare id) (log_of l) } ∷ []) ++ at_all k (ups ids) ≡ es ++ at_all k (up_of id l ++ ups ids)
    each None h = absurd h
    each (Some log) h = append_assoc es (record { at = k; event = Up (bare id) log } ∷ []) (at_all k (ups ids))

-- ---- with an object that goes

pub freed_deals : (ids : List Id) (t t' : Tables) (os : List Standing) (o : Option Standing) (x : Standing) → o ≡ Some x → ids ≡ x.state.ids
    → t' ≡ with_returns ids (record t { objects = os }) → t' ≡ record (with_returns (ids_in o) t) { objects = t'.objects }
freed_deals ids t t' os o x found same h =
    h
    ∙ (returns_objects ids t os
    ∙ (ap (λ ys. record (with_returns ids t) { objects = ys }) (sym (ap (λ (u : Tables). u.objects) h ∙ returns_kept ids (record t { objects = os })))
    ∙ ap (λ ys. record (with_returns ys t) { objects = t'.objects }) (same ∙ sym (ap ids_in found))))

pub freed_grows : (k : ℕ) (o : Id) (x : Standing) (ids : List Id) (u : Option Standing) (before now after : List Entry) → u ≡ Some x → ids ≡ x.state.ids
    → now ≡ before ++ record { at = k; event = Freed o } ∷ [] → after ≡ now ++ at_all k (ups ids) → after ≡ before ++ at_all k (freed o u)
freed_grows k o x ids u before now after is same one grows =
    grows
    ∙ (ap (λ xs. xs ++ at_all k (ups ids)) one
    ∙ (append_assoc before (record { at = k; event = Freed o } ∷ []) (at_all k (ups ids))
    ∙ (ap (λ xs. before ++ record { at = k; event = Freed o } ∷ at_all k (ups xs)) same ∙ sym (ap (λ z. before ++ at_all k (freed o z)) is))))
