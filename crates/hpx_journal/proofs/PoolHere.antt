-- What the pool shows of a locality stays so at the entries that leave the pool as it is.
use Rattle.std.proofs.Common.{ℕ, true, false, cond, List, [], ◌∷◌, ◌≡◌, ◌≤◌, Option, Some, None, refl, sym, ap, ◌∙◌, arith, inl, inr, map}
use Rattle.std.specs.Prelude.{◌||◌, is_some}
use Rattle.std.specs.List.{list_any, find, AllByRecursion}
use Rattle.std.proofs.lemmas.List.Folds.{list_any-append}
use Rattle.std.proofs.lemmas.Bool.{cases_Bool}
use Rattle.hpx_value.specs.Ids.{Id, same_object}
use Rattle.hpx_journal.specs.Bags.{without}
use Rattle.hpx_journal.specs.Data.{State}
use Rattle.hpx_journal.specs.Entries.{Name, Event, Fire, Born, Done, Freed, Left, Landed, Out, In, Standing, Rules, target_of}
use Rattle.hpx_journal.specs.Frames.{travels_in}
use Rattle.hpx_journal.specs.Local.{Local, after, is_standing, is_travel}
use Rattle.hpx_journal.specs.Rows.{Row, TurnAllows}
use Rattle.hpx_journal.specs.Foreign.{kept}
use Rattle.hpx_journal.specs.Pool.{Pool, HasTravel, ShowsAt}
use Rattle.hpx_journal.proofs.Bags.{list_any-find, find-passes, find-without, sum_by-without-find}
use Rattle.hpx_journal.proofs.PoolLists.{state_in, all-minus, all-append, any-without, found, one-any, same-right, same-sym, same-trans, find-same, any-same, true_or}

-- entries that move no object and fire nothing
abbrev pub IsStill : Event → Type 0
IsStill (Fire a) = ⊥
IsStill (Born o state) = ⊥
IsStill (Done a failed) = ⊥
IsStill (Freed o) = ⊥
IsStill (Left o to) = ⊥
IsStill (Landed o) = ⊥
IsStill (Out to bytes) = ⊥
IsStill (In bytes) = ⊥
IsStill _ = Unit {0}

pub shows_still : (r : Rules) (p : Pool) (k : ℕ) (s : Local) (e : Event) → IsStill e → ShowsAt p k s → ShowsAt p k (after r s e)
unfolding after
shows_still r p k s (Fire a) h shows = absurd h
shows_still r p k s (Born o state) h shows = absurd h
shows_still r p k s (Done a failed) h shows = absurd h
shows_still r p k s (Freed o) h shows = absurd h
shows_still r p k s (Left o to) h shows = absurd h
shows_still r p k s (Landed o) h shows = absurd h
shows_still r p k s (Out to bytes) h shows = absurd h
shows_still r p k s (In bytes) h shows = absurd h
shows_still r p k s _ h shows = record {
  stands = shows.stands;
  travels = shows.travels;
  fired = shows.fired;
  fresh = shows.fresh;
  unknown = shows.unknown;
}

-- ---- Fire

some_known : (x : Option State) (y : Option Standing) → x ≡ state_in y → is_some y ≡ true → is_some x ≡ true
some_known x None h i = cc
some_known x (Some y) h i = rw h refl

-- what stands here, and is not being made, is known
pub is_known : (p : Pool) (k : ℕ) (s : Local) → ShowsAt p k s → (o : Id) → list_any (is_standing o) s.objects ≡ true
    → list_any (same_object o) s.fresh ≡ false → is_some (p.states o) ≡ true
is_known p k s shows o here old =
    some_known (p.states o) (find (is_standing o) s.objects) (shows.stands o here old).0 (found (is_standing o) s.objects here)

pub shows_fire : (r : Rules) (p : Pool) (k : ℕ) (s : Local) (a : Name) → Row r s (Fire a) → TurnAllows s (Fire a) → ShowsAt p k s
    → ShowsAt p k (after r s (Fire a))
unfolding after
shows_fire r p k s a row turn shows = record {
  stands = shows.stands;
  travels = shows.travels;
  fired =
      let known : is_some (p.states (target_of row.0)) ≡ true =
      is_known p k s shows (target_of row.0) (list_any-find (is_standing (target_of row.0)) s.objects row.1 row.3)
      (ap (λ xs. list_any (same_object (target_of row.0)) xs) turn.1) in
      rw (row.2) (known, shows.fired);
  fresh = shows.fresh;
  unknown = shows.unknown;
}

-- ---- Born

born_state : (o t : Id) (state : State) (xs : List Standing) → same_object t o ≡ false
    → find (is_standing t) (record { object = o; state = state } ∷ xs) ≡ find (is_standing t) xs
born_state o t state xs h = rw h refl

born_any : (o t : Id) (state : State) (xs : List Standing) → same_object t o ≡ false
    → list_any (is_standing t) (record { object = o; state = state } ∷ xs) ≡ list_any (is_standing t) xs
born_any o t state xs h = rw h refl

pub shows_born : (r : Rules) (p : Pool) (k : ℕ) (s : Local) (o : Id) (state : State) → s.here ≡ k → Row r s (Born o state) → ShowsAt p k s
    → ShowsAt p k (after r s (Born o state))
unfolding after
shows_born r p k s o state here row shows = record {
  stands = λ t any old.
      let apart = true_or (list_any (same_object t) s.fresh) (same_object t o || false)
      (sym (list_any-append (same_object t) s.fresh (o ∷ [])) ∙ old) in
      let other : same_object t o ≡ false = (true_or (same_object t o) false apart.1).0 in
      let before = shows.stands t (sym (born_any o t state s.objects other) ∙ any) apart.0 in
      (before.0 ∙ ap state_in (sym (born_state o t state s.objects other)), before.1);
  travels = shows.travels;
  fired = shows.fired;
  fresh = all-append (λ x. p.states x ≡ None) s.fresh (o ∷ []) shows.fresh
      (shows.unknown o (row.1).0 (row.0 ∙ here) (omega (arith, row.2)), tt);
  unknown = λ t managed home late. shows.unknown t managed home (omega (arith, late));
}

-- ---- Freed and Left

-- an object that is taken away stands here no more
none_left : (o t : Id) (s : Local) (x : Standing) → kept o s ≤ 1 → find (is_standing o) s.objects ≡ Some x
    → list_any (is_standing t) (without (is_standing o) s.objects) ≡ true → same_object t o ≡ false
none_left o t s x once f any =
    elim (cases_Bool (same_object t o)) [
      | inl same ↦
          let again = one-any (is_standing o) (without (is_standing o) s.objects)
          (sym (any-same t o (without (is_standing o) s.objects) same) ∙ any) in
          let one : cond {A = ℕ} (is_standing o x) 1 0 ≡ 1 = ap {B = ℕ} (λ b. cond b 1 0) (find-passes (is_standing o) s.objects x f) in
          absurd (omega (arith, once, again, one, sum_by-without-find (λ y. cond (is_standing o y) 1 0) (is_standing o) s.objects x f))
      | inr other ↦ other
    ]

pub taken_find : (o t : Id) (xs : List Standing) → same_object t o ≡ false → find (is_standing t) (without (is_standing o) xs) ≡ find (is_standing t) xs
taken_find o t xs other =
    find-without (is_standing t) (is_standing o) xs (λ y e. sym (same-right o y.object e t) ∙ other)

module _ (p : Pool) (k : ℕ) (s : Local) (shows : ShowsAt p k s) (o : Id) (x : Standing) (once : kept o s ≤ 1)
    (f : find (is_standing o) s.objects ≡ Some x) where
  taken_stands : (t : Id) → list_any (is_standing t) (without (is_standing o) s.objects) ≡ true → list_any (same_object t) s.fresh ≡ false
      → (p.states t ≡ state_in (find (is_standing t) (without (is_standing o) s.objects))) × (p.places t ≡ k)
  taken_stands t any old =
      let before = shows.stands t (any-without (is_standing t) (is_standing o) s.objects any) old in
      (before.0 ∙ ap state_in (sym (taken_find o t s.objects (none_left o t s x once f any))), before.1)

pub shows_freed : (r : Rules) (p : Pool) (k : ℕ) (s : Local) (o : Id) → Row r s (Freed o) → kept o s ≤ 1 → ShowsAt p k s
    → ShowsAt p k (after r s (Freed o))
unfolding after
shows_freed r p k s o row once shows = record {
  stands = taken_stands p k s shows o (row.1).0 once (row.1).1;
  travels = shows.travels;
  fired = shows.fired;
  fresh = shows.fresh;
  unknown = shows.unknown;
}

pub shows_left : (r : Rules) (p : Pool) (k : ℕ) (s : Local) (o : Id) (to : ℕ) → Row r s (Left o to) → TurnAllows s (Left o to) → kept o s ≤ 1
    → ShowsAt p k s → ShowsAt p k (after r s (Left o to))
unfolding after
shows_left r p k s o to row turn once shows = record {
  stands = taken_stands p k s shows o (row.1).0 once (row.1).1;
  travels =
      let x = (row.1).0 in
      let one : HasTravel p (record { object = x.object; state = x.state; to = to }) =
      λ t same.
      let t_o : same_object t o ≡ true = same-trans t x.object o same (same-sym o x.object (find-passes (is_standing o) s.objects x (row.1).1)) in
      let there : find (is_standing t) s.objects ≡ Some x = find-same t o s.objects t_o ∙ (row.1).1 in
      (shows.stands t (list_any-find (is_standing t) s.objects x there) (ap (λ xs. list_any (same_object t) xs) turn.1)).0 ∙ ap state_in there
      in
      rw ((row.1).1) (one, shows.travels);
  fired = shows.fired;
  fresh = shows.fresh;
  unknown = shows.unknown;
}

-- ---- Out and In

pub shows_out : (r : Rules) (p : Pool) (k : ℕ) (s : Local) (to : ℕ) (bytes : List ℕ) → ShowsAt p k s → ShowsAt p k (after r s (Out to bytes))
unfolding after
shows_out r p k s to bytes shows = record {
  stands = shows.stands;
  travels = all-minus (HasTravel p) is_travel s.travels (map (λ x. x.object) (travels_in (r.parcel_of bytes))) shows.travels;
  fired = shows.fired;
  fresh = shows.fresh;
  unknown = shows.unknown;
}

pub shows_in : (r : Rules) (p : Pool) (k : ℕ) (s : Local) (bytes : List ℕ) → AllByRecursion (HasTravel p) (travels_in (r.parcel_of bytes)) → ShowsAt p k s
    → ShowsAt p k (after r s (In bytes))
unfolding after
shows_in r p k s bytes carried shows = record {
  stands = shows.stands;
  travels = all-append (HasTravel p) (travels_in (r.parcel_of bytes)) s.travels carried shows.travels;
  fired = shows.fired;
  fresh = shows.fresh;
  unknown = shows.unknown;
}
