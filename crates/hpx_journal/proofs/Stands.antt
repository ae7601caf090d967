-- The target of each fired action stands where the action was fired.
use Rattle.std.proofs.Common.{Bool, true, false, cond, List, [], ◌∷◌, ◌≡◌, ◌≤◌, refl, ◌∙◌, subst, arith, inl, inr}
use Rattle.std.specs.List.{list_any, AllByRecursion}
use Rattle.std.specs.Prelude.{◌||◌, ◌==◌}
use Rattle.std.proofs.lemmas.Bool.{cases_Bool, ne_eqb}
use Rattle.hpx_value.specs.Ids.{Id, same_object}
use Rattle.hpx_journal.specs.Bags.{without}
use Rattle.hpx_journal.specs.Data.{State, Act}
use Rattle.hpx_journal.specs.Entries.{Event, Fire, Born, Done, Freed, Left, Landed, Standing, Rules, target_of}
use Rattle.hpx_journal.specs.Local.{Local, after, is_act, is_standing, acts_on, is_busy, stood}
use Rattle.hpx_journal.specs.Rows.{Row}
use Rattle.hpx_journal.specs.Laws.{TargetsStand}
use Rattle.hpx_journal.proofs.Bags.{list_any-find}
use Rattle.hpx_journal.proofs.Same.{same_object-through, same_object-sym}
use Rattle.hpx_journal.proofs.Done.{done_settles, new_standing}
use Rattle.hpx_journal.proofs.Bools.{or_left, or_right}

abbrev stands : List Standing → Id → Bool
stands objects o = list_any (is_standing o) objects

abbrev AllStand : List Standing → List Act → Type 0
AllStand objects fired = AllByRecursion (λ act. list_any (is_standing (target_of act)) objects ≡ true) fired

more_stand : (xs ys : List Standing) (acts : List Act) → ((o : Id) → stands xs o ≡ true → stands ys o ≡ true) → AllStand xs acts → AllStand ys acts
more_stand xs ys [] h all = tt
more_stand xs ys (act ∷ acts) h all = (h (target_of act) all.0, more_stand xs ys acts h all.1)

fewer_acts_at : (objects : List Standing) (b : Bool) (act : Act) (acts rest : List Act)
    → AllStand objects rest → AllStand objects (act ∷ acts) → AllStand objects (cond b acts (act ∷ rest))
fewer_acts_at objects true act acts rest ih all = all.1
fewer_acts_at objects false act acts rest ih all = (all.0, ih)

fewer_acts : (objects : List Standing) (p : Act → Bool) (acts : List Act) → AllStand objects acts → AllStand objects (without p acts)
fewer_acts objects p [] all = tt
fewer_acts objects p (act ∷ acts) all = fewer_acts_at objects (p act) act acts (without p acts) (fewer_acts objects p acts all.1) all

any_without_at : {X : Type 0} (p q : X → Bool) (b : Bool) (y : X) (ys : List X) → (b ≡ true → p y ≡ false)
    → list_any p (without q ys) ≡ list_any p ys → list_any p (cond b ys (y ∷ without q ys)) ≡ (p y || list_any p ys)
any_without_at p q true y ys apart ih = rw (apart refl) refl
any_without_at p q false y ys apart ih = rw ih refl

pub any_without : {X : Type 0} (p q : X → Bool) (xs : List X) → ((x : X) → q x ≡ true → p x ≡ false)
    → list_any p (without q xs) ≡ list_any p xs
any_without p q [] apart = refl
any_without p q (y ∷ ys) apart = any_without_at p q (q y) y ys (apart y) (any_without p q ys apart)

pub apart_from : (t o : Id) → same_object o t ≡ false → (x : Standing) → is_standing o x ≡ true → is_standing t x ≡ false
apart_from t o d x h =
    elim (cases_Bool (same_object t x.object)) [
      | inl u ↦
          let e : same_object o t ≡ true = same_object-through o t x.object u ∙ h in absurd (cc)
      | inr u ↦ u
    ]

or_false_both : (a b : Bool) → (a || b) ≡ false → (a ≡ false) × (b ≡ false)
or_false_both true b h = absurd (cc)
or_false_both false b h = (refl, h)

gone_stand : (objects : List Standing) (o : Id) (acts : List Act) → list_any (acts_on o) acts ≡ false → AllStand objects acts
    → AllStand (without (is_standing o) objects) acts
gone_stand objects o [] h all = tt
gone_stand objects o (act ∷ acts) h all =
    let d : same_object o (target_of act) ≡ false = (or_false_both _ _ h).0 in (
      any_without (is_standing (target_of act)) (is_standing o) objects (apart_from (target_of act) o d) ∙ all.0,
      gone_stand objects o acts (or_false_both _ _ h).1 all.1,
    )

pub settled_stand : (objects : List Standing) (o : Id) (new : State) (t : Id) → stands objects t ≡ true
    → stands (record { object = o; state = new } ∷ without (is_standing o) objects) t ≡ true
settled_stand objects o new t h =
    elim (cases_Bool (same_object o t)) [
      | inl u ↦ or_left (same_object t o) (stands (without (is_standing o) objects) t) (same_object-sym o t u)
      | inr u ↦ or_right (same_object t o) (stands (without (is_standing o) objects) t) (any_without (is_standing t) (is_standing o) objects (apart_from t o u) ∙ h)
    ]

one_more : (x : Standing) (objects : List Standing) (acts : List Act) → AllStand objects acts → AllStand (x ∷ objects) acts
one_more x objects acts all = more_stand objects (x ∷ objects) acts (λ t u. or_right (is_standing t x) (stands objects t) u) all

-- a managed object that is not busy is the target of no fired action
unbusy : (o : Id) (fired : List Act) → 16 ≤ o.kind → is_busy o fired ≡ false → list_any (acts_on o) fired ≡ false
unbusy o fired managed h =
    let d : (o.kind == 7) ≡ false = ne_eqb o.kind 7 (λ e. omega arith) in
    subst (λ b. cond b false (list_any (acts_on o) fired) ≡ false) d h

pub stand_after : (r : Rules) (s : Local) (e : Event) → Row r s e → TargetsStand s → TargetsStand (after r s e)
unfolding after
stand_after r s (Fire a) h all =
    rw h.2 (list_any-find (is_standing (target_of h.0)) s.objects h.1 h.3, all)
stand_after r s (Born o state) h all = one_more (record { object = o; state = state }) s.objects s.fired all
stand_after r s (Done a true) h all = fewer_acts s.objects (is_act a) s.fired all
stand_after r s (Done a false) h all =
    let x = h.0 in
    let y = new_standing r s x.act x.target in
    let new : List Standing = y ∷ without (is_standing x.target.object) s.objects in
    rw (done_settles r s a x.act x.target x.fired x.stands)
    (fewer_acts new (is_act a) s.fired (more_stand s.objects new s.fired (settled_stand s.objects x.target.object y.state) all))
stand_after r s (Freed o) h all = gone_stand s.objects o s.fired h.3 all
stand_after r s (Left o to) h all = gone_stand s.objects o s.fired (unbusy o s.fired h.0.0 h.2) all
stand_after r s (Landed o) h all = rw h.1.1 (one_more (stood h.1.0) s.objects s.fired all)
stand_after r s _ h all = all
