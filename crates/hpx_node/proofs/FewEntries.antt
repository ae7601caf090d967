-- A message that is dealt with writes few entries.
use Rattle.hpx_node.proofs.Common.{AllByRecursion, Arrived, Ask, Bool, Entry, Event, Free, Id, IsKept, IsTidy, Landed, List, None, Option, Parcel, Return, Shipped, Some, Standing, Tables, [], ap, arith, at_all, bare, cases_Bool, cond, effects, false, find, freed, inl, inr, is_standing, length, length-append, may_land, refl, returned, subst, suc, target_of, true, ℕ, ◌++◌, ◌+◌, ◌∷◌, ◌≡◌, ◌≤◌}
use Rattle.hpx_node.proofs.PlanWeights.{ups_few}

returned_few : (t : Tables) (id : Id) (log : Option ℕ) → length (returned t id log) ≤ 1
returned_few t id None = omega arith
returned_few t id (Some log) = omega arith

one_at_most : (b : Bool) (e : Event) → length (cond b (e ∷ []) []) ≤ 129
one_at_most true e = omega arith
one_at_most false e = omega arith

kept_found : (o : Id) (xs : List Standing) (x : Standing) → AllByRecursion IsKept xs → find (is_standing o) xs ≡ Some x → IsKept x
kept_found o [] x all h = cc
kept_found o (y ∷ ys) x all h = elim (cases_Bool (is_standing o y)) [
  | inl t ↦ let e : Some y ≡ Some x = rw t at h in subst IsKept (same_of y x e) all.0
  | inr t ↦ kept_found o ys x all.1 (rw t at h)
]
  where
    same_of : (y x : Standing) → Some y ≡ Some x → y ≡ x
    same_of y x e = cc

freed_few : (t : Tables) (o : Id) → IsTidy t [] → (u : Option Standing) → find (is_standing o) t.objects ≡ u → length (freed o u) ≤ 129
freed_few t o tidy None e = omega arith
freed_few t o tidy (Some x) e =
    let kept : IsKept x = kept_found o t.objects x tidy.objects e in omega (arith, ups_few x.state.ids, kept.state.few)

pub effects_few : (t : Tables) (p : Parcel) → IsTidy t [] → length (effects t p) ≤ 129
effects_few t (Return id) tidy = omega (arith, returned_few t id id.log)
effects_few t (Arrived id place) tidy = omega (arith, returned_few t id id.log)
effects_few t (Shipped act state) tidy = one_at_most (may_land t act) (Landed (bare (target_of act)))
effects_few t (Ask id asker entry) tidy = omega arith
effects_few t (Free o) tidy = freed_few t o tidy (find (is_standing o) t.objects) refl
effects_few t _ tidy = omega arith

pub at_all_length : (k : ℕ) (events : List Event) → length (at_all k events) ≡ length events
at_all_length k [] = refl
at_all_length k (e ∷ es) = ap suc (at_all_length k es)

pub grows_few : (k : ℕ) (e : Entry) (t : Tables) (p : Parcel) (before now after : List Entry) → IsTidy t [] → now ≡ before ++ e ∷ []
    → after ≡ now ++ at_all k (effects t p) → length after ≤ length before + 130
grows_few k e t p before now after tidy one grows = omega (
  arith,
  ap length one,
  ap length grows,
  length-append before (e ∷ []),
  length-append now (at_all k (effects t p)),
  at_all_length k (effects t p),
  effects_few t p tidy,
)

-- where the first message on the desk is taken from it
pub popped_tidy : (p : Parcel) (t : Tables) (rest : List Parcel) → t.desk ≡ p ∷ rest → IsTidy t [] → IsTidy (record t { desk = rest }) []
popped_tidy p t rest first whole =
    let tidy : IsTidy (record t { desk = p ∷ rest }) [] = subst (λ d. IsTidy (record t { desk = d }) []) first whole in record {
      accepted = tidy.accepted;
      running = tidy.running;
      paused = tidy.paused;
      objects = tidy.objects;
      messages = tidy.messages.1;
      fit = tidy.fit;
      moves = tidy.moves;
      targets = tidy.targets;
      queued = tidy.queued;
      leaving = tidy.leaving;
      leaves = tidy.leaves;
      stray = tidy.stray;
      ways = (tidy.ways.0, tidy.ways.1.1);
      serves = tidy.serves;
      drawn = tidy.drawn;
      unborn = tidy.unborn;
      places = tidy.places;
    }

pub taken_tidy : (t : Tables) (n : ℕ) → IsTidy t [] → IsTidy (record t { taken = n }) []
taken_tidy t n tidy = record {
  accepted = tidy.accepted;
  running = tidy.running;
  paused = tidy.paused;
  objects = tidy.objects;
  messages = tidy.messages;
  fit = tidy.fit;
  moves = tidy.moves;
  targets = tidy.targets;
  queued = tidy.queued;
  leaving = tidy.leaving;
  leaves = tidy.leaves;
  stray = tidy.stray;
  ways = tidy.ways;
  serves = tidy.serves;
  drawn = tidy.drawn;
  unborn = tidy.unborn;
  places = tidy.places;
}
