-- What one action leaves of a pool.
use Rattle.std.specs.Prelude.{ℕ, Bool, true, false, cond, List, [], ◌∷◌, ◌++◌, ◌≡◌, ◌<◌, Option, Some, refl}
use Rattle.std.specs.List.{list_any}
use Rattle.std.proofs.Common.{sym, ap, ◌∙◌, arith}
use Rattle.hpx_value.specs.Ids.{Id, same_object}
use Rattle.hpx_value.specs.Values.{named}
use Rattle.hpx_value.specs.Hands.{state_after}
use Rattle.hpx_value.specs.Laws.{birth_state}
use Rattle.hpx_journal.specs.Entries.{Rules}
use Rattle.hpx_journal.specs.Pool.{Pool, IsActed, target_in, outcome_in, sent_by, with_made}
use Rattle.hpx_journal.proofs.Same.{same_object-from}
use Rattle.app_compute.specs.Types.{State, Make, Outcome}

-- what is made looks at objects alone
made_alike : (f : Id → Option State) → ((a b : Id) → same_object a b ≡ true → f a ≡ f b) → (makes : List Make) (made : List Id) (a b : Id)
    → same_object a b ≡ true → with_made f makes made a ≡ with_made f makes made b
made_alike f alike [] made a b e = alike a b e
made_alike f alike (make ∷ makes) [] a b e = alike a b e
made_alike f alike (make ∷ makes) (o ∷ made) a b e =
    ap (λ c. cond c (Some (birth_state make)) (with_made f makes made a)) (same_object-from a b o e)
    ∙ ap (λ y. cond (same_object b o) (Some (birth_state make)) y) (made_alike f alike makes made a b e)

module _ (law : Rules) (p q : Pool) (h : IsActed law p q) where
  abbrev here : ℕ
  here = p.places (target_in h.message)

  abbrev out : Outcome
  out = outcome_in law here h.message h.state

  -- the states after it
  pub states_are : (u : Id) → q.states u ≡ cond (same_object u (target_in h.message)) (Some (state_after h.state (named 0 0 h.message) h.made out)) (with_made p.states out.makes h.made u)
  states_are u = ap (λ (y : Pool). y.states u) h.next

  pub places_are : (u : Id) → q.places u ≡ cond (list_any (same_object u) h.made) here (p.places u)
  places_are u = ap (λ (y : Pool). y.places u) h.next

  pub same_target : (u : Id) → same_object u (target_in h.message) ≡ true → q.states u ≡ Some (state_after h.state (named 0 0 h.message) h.made out)
  same_target u e = states_are u ∙ ap (λ b. cond b (Some (state_after h.state (named 0 0 h.message) h.made out)) (with_made p.states out.makes h.made u)) e

  pub other_target : (u : Id) → same_object u (target_in h.message) ≡ false → q.states u ≡ with_made p.states out.makes h.made u
  other_target u e = states_are u ∙ ap (λ b. cond b (Some (state_after h.state (named 0 0 h.message) h.made out)) (with_made p.states out.makes h.made u)) e

  pub lower : here < law.localities → (u : Id) → p.places u < law.localities → q.places u < law.localities
  lower low u l = by_made (list_any (same_object u) h.made) refl
    where
      by_made : (b : Bool) → list_any (same_object u) h.made ≡ b → q.places u < law.localities
      by_made true e = let z = places_are u ∙ ap (λ b. cond b here (p.places u)) e in omega arith
      by_made false e = let z = places_are u ∙ ap (λ b. cond b here (p.places u)) e in omega arith

  pub alike_after : ((x y : Id) → same_object x y ≡ true → p.states x ≡ p.states y) → (x y : Id) → same_object x y ≡ true → q.states x ≡ q.states y
  alike_after alike x y e =
      states_are x
      ∙ ap (λ b. cond b (Some (state_after h.state (named 0 0 h.message) h.made out)) (with_made p.states out.makes h.made x)) (same_object-from x y (target_in h.message) e)
      ∙ ap (λ o. cond (same_object y (target_in h.message)) (Some (state_after h.state (named 0 0 h.message) h.made out)) o) (made_alike p.states alike out.makes h.made x y e)
      ∙ sym (states_are y)

  pub printed_are : q.printed ≡ p.printed ++ out.prints
  printed_are = ap (λ (y : Pool). y.printed) h.next

  pub pending_are : q.pending ≡ sent_by h.message h.state h.made out ++ (h.before ++ h.behind)
  pending_are = ap (λ (y : Pool). y.pending) h.next
