-- What each locality of a legal journal keeps, where no action fails: roots stay at home, only the session's locality prints,
-- what is being made is new, and only managed objects travel.
use Rattle.std.specs.Prelude.{IfSome, Option, Some, None}
use Rattle.hpx_journal.specs.Entries.{move_to}
use Rattle.std.proofs.Common.{ℕ, true, false, List, [], ◌∷◌, ◌++◌, ◌≡◌, ◌≢◌, ◌+◌, ◌<◌, ◌≤◌, Some, refl, ap, ◌∙◌, subst, arith, inl, inr, map}
use Rattle.std.specs.List.{list_any, find, AllByRecursion}
use Rattle.std.proofs.lemmas.Bool.{cases_Bool}
use Rattle.hpx_value.specs.Ids.{Id, same_object}
use Rattle.hpx_value.specs.Riders.{plain, due_with}
use Rattle.hpx_journal.specs.Data.{Act}
use Rattle.hpx_journal.specs.Entries.{Name, Event, Line, Fire, Split, Born, Done, Sent, Print, Merge, Up, Asked, Given, Count, Freed, Left, Landed, Looked, Mail, Out, In, Standing, Rules, target_of}
use Rattle.hpx_journal.specs.Frames.{travels_in}
use Rattle.hpx_journal.specs.Local.{Local, after, is_standing, is_travel, is_act, outcome, leaving}
use Rattle.hpx_journal.specs.Rows.{Row}
use Rattle.hpx_journal.specs.Laws.{HasGrammar}
use Rattle.hpx_journal.specs.Pool.{prints_due, prints_by}
use Rattle.hpx_journal.proofs.Mass.{DoesNotFail, prints-due}
use Rattle.hpx_journal.proofs.Bags.{find-passes}
use Rattle.hpx_journal.proofs.Same.{same_object-true}
use Rattle.hpx_journal.proofs.Joined.{ships}
use Rattle.hpx_journal.proofs.PoolLists.{all-without, all-minus, all-append, all-map, find-all, true_or}
use Rattle.hpx_journal.proofs.PoolSteps.{IsDrawn, same_number}

abbrev pub AreDistinct : List Id → Type 0
AreDistinct [] = Unit {0}
AreDistinct (o ∷ os) = (list_any (same_object o) os ≡ false) × AreDistinct os

-- at k, a fired MOVE is at its place
abbrev pub IsAtPlace : ℕ → Act → Type 0
IsAtPlace k act = IfSome (move_to act) (λ t. t ≡ k)

-- what is done here prints only for the session
pub record IsSilent (r : Rules) (s : Local) : Type 0 where
  pub silent : (a : Name) (act : Act) (x : Standing) → find (is_act a) s.fired ≡ Some act → find (is_standing (target_of act)) s.objects ≡ Some x
      → x.object.kind ≢ 1 → (outcome r s act x).prints ≡ []

pub record IsSound (k : ℕ) (s : Local) : Type 0 where
  pub here : s.here ≡ k
  pub home : AllByRecursion (λ x. x.object.kind < 16 → x.object.home ≡ k) s.objects
  pub console : AllByRecursion (λ x. x.object.kind ≡ 1 → k ≡ 0) s.objects
  pub unprinted : k ≢ 0 → prints_due s.due ≡ []
  pub drawn : AllByRecursion (IsDrawn k s.number) s.fresh
  pub distinct : AreDistinct s.fresh
  pub managed : AllByRecursion (λ x. 16 ≤ x.object.kind) s.travels
  pub movers : AllByRecursion (IsAtPlace k) s.fired

-- ---- what holds of all objects that stand, and of all managed ones

module _ (P : Id → Type 0) (others : (o : Id) → 16 ≤ o.kind → P o) (r : Rules) (s : Local) (all : AllByRecursion (λ x. P x.object) s.objects)
    (managed : AllByRecursion (λ x. 16 ≤ x.object.kind) s.travels) where
  done_keeps : (a : Name) → Row r s (Done a false) → AllByRecursion (λ x. P x.object) (after r s (Done a false)).objects
  unfolding after
  done_keeps a row =
      let x = row.0 in
      rw (x.fired) (rw (x.stands) (
        find-all (λ y. P y.object) (is_standing (target_of x.act)) s.objects x.target all x.stands,
        all-without (λ y. P y.object) (is_standing (x.target).object) s.objects all,
      ))

  landed_keeps : (o : Id) → Row r s (Landed o) → AllByRecursion (λ x. P x.object) (after r s (Landed o)).objects
  unfolding after
  landed_keeps o row =
      let x = row.1 in
      rw (x.1) (others (x.0).object (find-all (λ y. 16 ≤ y.object.kind) (is_travel o) s.travels x.0 managed x.1), all)

  pub objects_keep : (e : Event) → Row r s e → DoesNotFail e → AllByRecursion (λ x. P x.object) (after r s e).objects
  unfolding after
  objects_keep (Born o state) row well = (others o (row.1).0, all)
  objects_keep (Done a true) row well = absurd well
  objects_keep (Done a false) row well = done_keeps a row
  objects_keep (Freed o) row well = all-without (λ x. P x.object) (is_standing o) s.objects all
  objects_keep (Left o to) row well = all-without (λ x. P x.object) (is_standing o) s.objects all
  objects_keep (Landed o) row well = landed_keeps o row
  objects_keep _ row well = all

left_managed : (o : Id) (to : ℕ) (x : Standing) (xs : List Standing) → 16 ≤ o.kind → find (is_standing o) xs ≡ Some x → 16 ≤ (leaving to x).object.kind
left_managed o to x xs managed f =
    subst (λ n. 16 ≤ n) (ap (λ v. v.kind) (same_object-true o x.object (find-passes (is_standing o) xs x f))) managed

pub travels_keep : (r : Rules) (grammar : HasGrammar r) (s : Local) (e : Event) → Row r s e → AllByRecursion (λ x. 16 ≤ x.object.kind) s.travels
    → AllByRecursion (λ x. 16 ≤ x.object.kind) (after r s e).travels
unfolding after
travels_keep r grammar s (Left o to) row all =
    let x = row.1 in
    rw (x.1) (left_managed o to x.0 s.objects (row.0).0 x.1, all)
travels_keep r grammar s (Landed o) row all = all-without (λ x. 16 ≤ x.object.kind) (is_travel o) s.travels all
travels_keep r grammar s (Out to bytes) row all =
    all-minus (λ x. 16 ≤ x.object.kind) is_travel s.travels (map (λ x. x.object) (travels_in (r.parcel_of bytes))) all
travels_keep r grammar s (In bytes) row all =
    all-append (λ x. 16 ≤ x.object.kind) (travels_in (r.parcel_of bytes)) s.travels (ships r grammar bytes) all
travels_keep r grammar s _ row all = all

-- ---- what is being made

drawn_more : (k n m : ℕ) → n ≤ m → (os : List Id) → AllByRecursion (IsDrawn k n) os → AllByRecursion (IsDrawn k m) os
drawn_more k n m more os all = all-map (IsDrawn k n) (IsDrawn k m) (λ o d. (d.0, d.1, omega (arith, d.2))) os all

late_other : (k n : ℕ) (o t : Id) → IsDrawn k n o → n < t.number → same_object o t ≡ false
late_other k n o t d late =
    elim (cases_Bool (same_object o t)) [ inl same ↦ absurd (omega (arith, same_number o t same, d.2, late)) | inr other ↦ other ]

append_other : (o t : Id) (os : List Id) → list_any (same_object o) os ≡ false → same_object o t ≡ false → list_any (same_object o) (os ++ t ∷ []) ≡ false
append_other o t [] h other = rw other refl
append_other o t (x ∷ os) h other =
    let apart = true_or (same_object o x) (list_any (same_object o) os) h in
    rw (apart.0) (append_other o t os apart.1 other)

distinct_more : (k n : ℕ) (t : Id) → n < t.number → (os : List Id) → AllByRecursion (IsDrawn k n) os → AreDistinct os → AreDistinct (os ++ t ∷ [])
distinct_more k n t late [] all d = (refl, tt)
distinct_more k n t late (o ∷ os) all d =
    (append_other o t os d.0 (late_other k n o t all.0 late), distinct_more k n t late os all.1 d.1)

abbrev IsMaking : ℕ → Local → Type 0
IsMaking k s = AllByRecursion (IsDrawn k s.number) s.fresh × AreDistinct s.fresh

fresh_keeps : (r : Rules) (k : ℕ) (s : Local) (e : Event) → s.here ≡ k → Row r s e → IsMaking k s → IsMaking k (after r s e)
unfolding after
fresh_keeps r k s (Born o state) here row h = (
  all-append (IsDrawn k (s.number + 1)) s.fresh (o ∷ []) (drawn_more k s.number (s.number + 1) (omega arith) s.fresh h.0)
      ((((row.1).0, row.0 ∙ here, omega (arith, row.2)), tt)),
  distinct_more k s.number o (omega (arith, row.2)) s.fresh h.0 h.1,
)
fresh_keeps r k s (Done a failed) here row h = (tt, tt)
fresh_keeps r k s _ here row h = h

-- ---- prints

append_empty : {X : Type 0} (xs ys : List X) → xs ++ ys ≡ [] → (xs ≡ []) × (ys ≡ [])
append_empty [] ys h = (refl, h)
append_empty (x ∷ xs) ys h = cc

-- entries after which the same prints are due, or were written
abbrev pub IsQuietly : Event → Type 0
IsQuietly (Done a failed) = ⊥
IsQuietly _ = Unit {0}

pub prints_stay : (r : Rules) (s : Local) (e : Event) → Row r s e → IsQuietly e → prints_by e ++ prints_due (after r s e).due ≡ prints_due s.due
unfolding after
prints_stay r s (Done a failed) row h = absurd h
prints_stay r s (Sent a) row h = rw (row.2) refl
prints_stay r s (Print bytes) row h = rw (row.1) refl
prints_stay r s _ row h = refl

pub unprinted_stays : (r : Rules) (k : ℕ) (s : Local) (e : Event) → Row r s e → IsQuietly e → IsSound k s → k ≢ 0
    → (prints_by e ≡ []) × (prints_due (after r s e).due ≡ [])
unprinted_stays r k s e row still sound h =
    append_empty (prints_by e) (prints_due (after r s e).due) (prints_stay r s e row still ∙ sound.unprinted h)

module _ (r : Rules) (s : Local) (a : Name) (act : Act) (x : Standing) (fires : find (is_act a) s.fired ≡ Some act)
    (stands : find (is_standing (target_of act)) s.objects ≡ Some x) where
  pub done_due : (after r s (Done a false)).due ≡ due_with x.state (plain act) s.fresh (outcome r s act x)
  unfolding after
  done_due = rw fires (rw stands refl)

  pub done_prints : prints_due (after r s (Done a false)).due ≡ (outcome r s act x).prints
  done_prints = ap prints_due done_due ∙ prints-due x.state (plain act) s.fresh (outcome r s act x)

  pub done_silent : (k : ℕ) → IsSound k s → IsSilent r s → k ≢ 0 → (outcome r s act x).prints ≡ []
  done_silent k sound law h =
      law.silent a act x fires stands
      (λ e. h (find-all (λ y. y.object.kind ≡ 1 → k ≡ 0) (is_standing (target_of act)) s.objects x sound.console stands e))

silent_after : (r : Rules) (k : ℕ) (s : Local) (e : Event) → Row r s e → DoesNotFail e → IsSilent r s → IsSound k s → k ≢ 0
    → prints_due (after r s e).due ≡ []
silent_after r k s (Done a true) row well law sound h = absurd well
silent_after r k s (Done a false) row well law sound h =
    let x = row.0 in
    done_prints r s a x.act x.target x.fired x.stands ∙ done_silent r s a x.act x.target x.fired x.stands k sound law h
silent_after r k s (Sent a) row well law sound h = (unprinted_stays r k s (Sent a) row tt sound h).1
silent_after r k s (Print bytes) row well law sound h = (unprinted_stays r k s (Print bytes) row tt sound h).1
silent_after r k s (Line a bytes) row well law sound h = (unprinted_stays r k s (Line a bytes) row tt sound h).1
silent_after r k s (Fire a) row well law sound h = (unprinted_stays r k s (Fire a) row tt sound h).1
silent_after r k s (Split o log) row well law sound h = (unprinted_stays r k s (Split o log) row tt sound h).1
silent_after r k s (Born o state) row well law sound h = (unprinted_stays r k s (Born o state) row tt sound h).1
silent_after r k s (Merge o log) row well law sound h = (unprinted_stays r k s (Merge o log) row tt sound h).1
silent_after r k s (Up o log) row well law sound h = (unprinted_stays r k s (Up o log) row tt sound h).1
silent_after r k s (Asked o) row well law sound h = (unprinted_stays r k s (Asked o) row tt sound h).1
silent_after r k s (Given o log) row well law sound h = (unprinted_stays r k s (Given o log) row tt sound h).1
silent_after r k s (Count o count why) row well law sound h = (unprinted_stays r k s (Count o count why) row tt sound h).1
silent_after r k s (Freed o) row well law sound h = (unprinted_stays r k s (Freed o) row tt sound h).1
silent_after r k s (Left o to) row well law sound h = (unprinted_stays r k s (Left o to) row tt sound h).1
silent_after r k s (Landed o) row well law sound h = (unprinted_stays r k s (Landed o) row tt sound h).1
silent_after r k s (Looked o hit) row well law sound h = (unprinted_stays r k s (Looked o hit) row tt sound h).1
silent_after r k s (Mail kind) row well law sound h = (unprinted_stays r k s (Mail kind) row tt sound h).1
silent_after r k s (Out to bytes) row well law sound h = (unprinted_stays r k s (Out to bytes) row tt sound h).1
silent_after r k s (In bytes) row well law sound h = (unprinted_stays r k s (In bytes) row tt sound h).1

at_place_of : (h k : ℕ) (moves : Option ℕ) → h ≡ k → IfSome moves (λ t. t ≡ h) → IfSome moves (λ t. t ≡ k)
at_place_of h k None e i = tt
at_place_of h k (Some t) e i = i ∙ e

movers_keep : (r : Rules) (k : ℕ) (s : Local) (e : Event) → s.here ≡ k → Row r s e → AllByRecursion (IsAtPlace k) s.fired
    → AllByRecursion (IsAtPlace k) (after r s e).fired
unfolding after
movers_keep r k s (Fire a) here row all = rw (row.2) (at_place_of s.here k (move_to row.0) here row.5, all)
movers_keep r k s (Done a failed) here row all = all-without (IsAtPlace k) (is_act a) s.fired all
movers_keep r k s _ here row all = all

not_root : (k : ℕ) (o : Id) → 16 ≤ o.kind → o.kind < 16 → o.home ≡ k
not_root k o managed root = absurd (omega arith)

not_session : (k : ℕ) (o : Id) → 16 ≤ o.kind → o.kind ≡ 1 → k ≡ 0
not_session k o managed session = absurd (omega arith)

pub sound_after : (r : Rules) (grammar : HasGrammar r) (k : ℕ) (s : Local) (e : Event) → Row r s e → DoesNotFail e → IsSilent r s → IsSound k s
    → IsSound k (after r s e)
unfolding after
sound_after r grammar k s e row well law sound =
    let making = fresh_keeps r k s e sound.here row (sound.drawn, sound.distinct) in
    record {
      here = sound.here;
      home = objects_keep (λ o. o.kind < 16 → o.home ≡ k) (not_root k) r s sound.home sound.managed e row well;
      console = objects_keep (λ o. o.kind ≡ 1 → k ≡ 0) (not_session k) r s sound.console sound.managed e row well;
      unprinted = silent_after r k s e row well law sound;
      drawn = making.0;
      distinct = making.1;
      managed = travels_keep r grammar s e row sound.managed;
      movers = movers_keep r k s e sound.here row sound.movers;
    }
