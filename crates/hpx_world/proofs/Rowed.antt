-- What the rows of one locality say of the moves of an object.
use Rattle.std.proofs.Common.{ℕ, Bool, true, false, List, [], ◌∷◌, ◌≡◌, ◌≢◌, ◌+◌, ◌<◌, ◌≤◌, Option, Some, None, refl, sym, ◌∙◌, subst, arith, inl, inr}
use Rattle.std.specs.Prelude.{◌&&◌}
use Rattle.std.specs.List.{sum_by, count_by, AllByRecursion}
use Rattle.std.proofs.lemmas.List.Sums.{sum_by-cons}
use Rattle.hpx_value.specs.Ids.{same_object}
use Rattle.hpx_journal.specs.Data.{Id, Act, State, Parcel, Go, Shipped, Arrived}
use Rattle.hpx_journal.specs.Entries.{Rules, target_of, move_to}
use Rattle.hpx_journal.specs.Laws.{IsLegalLocal}
use Rattle.hpx_journal.specs.Local.{after}
use Rattle.hpx_journal.specs.Moving.{is_landed_of}
use Rattle.hpx_journal.specs.Rows.{Row, is_to}
use Rattle.hpx_journal.specs.Whole.{IsClean, part}
use Rattle.hpx_journal.proofs.Single.{here_stays}
use Rattle.hpx_part.specs.Data.{Event, Entry, Local, Left, Out, In}
use Rattle.hpx_part.specs.Parts.{at_boot}
use Rattle.hpx_agas.specs.declared.record.Waiting.{Waiting}
use Rattle.hpx_steps.specs.Frames.{IsOnItsWay, IsForHere}
use Rattle.hpx_steps.specs.Items.{Among}
use Rattle.hpx_steps.specs.Rows.{GosOf, ShipsOf, LandsOf, TellsOf, go_to, ship_to, tell_of, one_if, weighed, goes, causes}
use Rattle.hpx_steps.specs.Sound.{IsGranted, IsStray, IsWaitingFor, all_count, come, gone}
use Rattle.hpx_steps.proofs.Sums.{zeros, same_sum}
use Rattle.hpx_tables.specs.Tables.{Tables}
use Rattle.hpx_tables.specs.declared.kept.Arrival.{Arrival}
use Rattle.hpx_tables.specs.declared.kept.Outgoing.{Outgoing}
use Rattle.hpx_world.specs.Tracks.{kept_mail, leaves_for}
use Rattle.hpx_world.proofs.Known.{IsShown}
use Rattle.hpx_world.proofs.Mails.{ship_self, tell_home}

-- ---- lists

pub none_sum : {X : Type 0} (P : X → Type 0) (f : X → ℕ) (xs : List X) → ((x : X) → P x → f x ≡ 0) → AllByRecursion P xs → sum_by f xs ≡ 0
none_sum P f [] none h = refl
none_sum P f (x ∷ xs) none h = omega (arith, none x h.0, none_sum P f xs none h.1, sum_by-cons f x xs)

pub none_among : {X : Type 0} (f : X → ℕ) (xs : List X) → ((x : X) → Among x xs → f x ≡ 0) → sum_by f xs ≡ 0
none_among f [] none = refl
none_among f (x ∷ xs) none = omega (arith, none x (inl refl), none_among f xs (λ y m. none y (inr m)), sum_by-cons f x xs)

-- what is to leave is no object and tells of none; what is stray grants nothing and tells of none; nor does what waits
pub granted_ships : (k : ℕ) (t : Tables) (o : Id) (to : ℕ) (p : Parcel) → IsGranted k t.objects p → ship_to o to p ≡ 0
granted_ships k t o to (Shipped act state) h = absurd h
granted_ships k t o to _ h = refl

pub stray_goes : (o : Id) (to : ℕ) (p : Parcel) → IsStray p → go_to o to p ≡ 0
stray_goes o to (Go act) h = absurd h
stray_goes o to _ h = refl

pub waits_ships : (o : Id) (to k n : ℕ) (p : Parcel) → IsWaitingFor k n p → ship_to o to p ≡ 0
waits_ships o to k n (Shipped act state) h = absurd h
waits_ships o to k n _ h = refl

pub waits_tells : (o : Id) (k n : ℕ) (p : Parcel) → IsWaitingFor k n p → tell_of o p ≡ 0
waits_tells o k n (Arrived id place) h = absurd h
waits_tells o k n _ h = refl

-- ---- entries

no_weight : (p : Option Parcel) → weighed (λ q. 0) p ≡ 0
no_weight None = refl
no_weight (Some p) = refl

gos_left : (r : Rules) (o : Id) (to : ℕ) (e : Event) → goes r (GosOf o to) e ≡ leaves_for o to e
gos_left r o to (Out place bytes) = no_weight (r.parcel_of bytes)
gos_left r o to _ = refl

gos_come : (r : Rules) (o : Id) (to : ℕ) (e : Event) → causes r (GosOf o to) e ≡ come r (go_to o to) e
gos_come r o to _ = refl

ships_go : (r : Rules) (o : Id) (to : ℕ) (e : Event) → goes r (ShipsOf o to) e ≡ gone r (ship_to o to) e
ships_go r o to _ = refl

ships_left : (r : Rules) (o : Id) (to : ℕ) (e : Event) → causes r (ShipsOf o to) e ≡ leaves_for o to e
ships_left r o to (In bytes) = no_weight (r.parcel_of bytes)
ships_left r o to _ = refl

lands_here : (r : Rules) (o : Id) (to : ℕ) (e : Event) → goes r (LandsOf o to) e ≡ one_if (is_landed_of o e)
lands_here r o to (Out place bytes) = no_weight (r.parcel_of bytes)
lands_here r o to _ = refl

lands_come : (r : Rules) (o : Id) (to : ℕ) (e : Event) → causes r (LandsOf o to) e ≡ come r (ship_to o to) e
lands_come r o to _ = refl

tells_go : (r : Rules) (o : Id) (e : Event) → goes r (TellsOf o) e ≡ gone r (tell_of o) e
tells_go r o _ = refl

tells_landed : (r : Rules) (o : Id) (e : Event) → causes r (TellsOf o) e ≡ one_if (is_landed_of o e)
tells_landed r o (In bytes) = no_weight (r.parcel_of bytes)
tells_landed r o _ = refl

pub all_same : (F G : Event → ℕ) (es : List Entry) → ((e : Event) → F e ≡ G e) → all_count F es ≡ all_count G es
all_same F G es h = same_sum (λ (e : Entry). F e.event) (λ (e : Entry). G e.event) es (λ e. h e.event)

-- nothing leaves for where it is
pub none_left : (r : Rules) (s : Local) (es : List Entry) → IsLegalLocal r s es → (o : Id) (k : ℕ) → s.here ≡ k → all_count (leaves_for o k) es ≡ 0
none_left r s [] legal o k here = refl
none_left r s (e ∷ es) legal o k here = omega (
  arith,
  one e.event legal.0.row,
  none_left r (after r s e.event) es legal.1 o k (here_stays r s (e ∷ []) ∙ here),
  sum_by-cons (λ (x : Entry). leaves_for o k x.event) e es,
)
  where
    one : (e : Event) → Row r s e → leaves_for o k e ≡ 0
    one (Left x to) row = rw (Rattle.std.proofs.lemmas.Bool.ne_eqb to k (λ i. row.4 (i ∙ sym here))) (no (same_object o x))
      where
        no : (b : Bool) → one_if (b && false) ≡ 0
        no true = refl
        no false = refl
    one _ row = refl

module _ (r : Rules) (log : ℕ) (es : List Entry) (k : ℕ) (t : Tables) (s : IsShown r log es k t) (o : Id) where
  granted : AllByRecursion (IsGranted k t.objects) t.leaving
  granted = subst (λ j. AllByRecursion (IsGranted j t.objects) t.leaving) s.here s.tidy.leaving

  waiting : AllByRecursion (λ (w : Waiting Parcel). IsWaitingFor k w.number w.item) t.queued
  waiting = subst (λ j. AllByRecursion (λ (w : Waiting Parcel). IsWaitingFor j w.number w.item) t.queued) s.here s.tidy.queued

  pub on_way : AllByRecursion (IsOnItsWay r.localities k) t.outgoing
  on_way = subst (λ n. AllByRecursion (IsOnItsWay n k) t.outgoing) s.count (subst (λ j. AllByRecursion (IsOnItsWay t.localities j) t.outgoing) s.here s.tidy.ways.0)

  pub for_here : AllByRecursion (IsForHere r.localities k) t.desk
  for_here = subst (λ n. AllByRecursion (IsForHere n k) t.desk) s.count (subst (λ j. AllByRecursion (IsForHere t.localities j) t.desk) s.here s.tidy.ways.1)

  -- a Go that came elsewhere is taken up, or its object has left
  pub taken_here : (to : ℕ) → o.home ≢ k → all_count (come r (go_to o to)) (part k es) ≡ sum_by (go_to o to) t.leaving + all_count (leaves_for o to) (part k es)
  taken_here to other = omega (
    arith,
    s.paid.rows (GosOf o to) (λ e. other (e ∙ s.here)),
    all_same (goes r (GosOf o to)) (leaves_for o to) (part k es) (gos_left r o to),
    all_same (causes r (GosOf o to)) (come r (go_to o to)) (part k es) (gos_come r o to),
    zeros t.desk,
    zeros t.outgoing,
    zeros t.queued,
    none_sum IsStray (go_to o to) t.stray (stray_goes o to) s.tidy.stray,
  )

  -- an object that left is kept or went
  pub shipped_away : (to : ℕ) → to < r.localities → to ≢ k
      → all_count (leaves_for o to) (part k es) ≡ kept_mail (ship_to o to) t + all_count (gone r (ship_to o to)) (part k es)
  shipped_away to lt other = omega (
    arith,
    s.paid.rows (ShipsOf o to) (subst (λ n. to < n) (sym s.count) lt, λ e. other (e ∙ s.here)),
    all_same (goes r (ShipsOf o to)) (gone r (ship_to o to)) (part k es) (ships_go r o to),
    all_same (causes r (ShipsOf o to)) (leaves_for o to) (part k es) (ships_left r o to),
    none_sum (λ (w : Waiting Parcel). IsWaitingFor k w.number w.item) (λ (w : Waiting Parcel). ship_to o to w.item) t.queued (λ w h. waits_ships o to k w.number w.item h) waiting,
    zeros t.leaving,
    zeros t.stray,
  )

  -- none goes from where it is to there
  pub kept_self : kept_mail (ship_to o k) t ≡ 0
  kept_self = omega (
    arith,
    none_sum (IsForHere r.localities k) (ship_to o k) t.desk (λ p h. ship_self o k h.to p h.may) for_here,
    none_sum (IsOnItsWay r.localities k) (λ (x : Outgoing). ship_to o k x.parcel) t.outgoing (λ x h. ship_self o k x.to x.parcel h.may) on_way,
  )

  -- an object that came landed
  pub arrived_here : IsClean r (at_boot r k) (part k es) → all_count (come r (ship_to o k)) (part k es) ≡ all_count (λ e. one_if (is_landed_of o e)) (part k es)
  arrived_here clean = omega (
    arith,
    s.paid.rows (LandsOf o k) (subst (λ n. k < n) (sym s.count) s.lt, sym s.here),
    all_same (goes r (LandsOf o k)) (λ e. one_if (is_landed_of o e)) (part k es) (lands_here r o k),
    all_same (causes r (LandsOf o k)) (come r (ship_to o k)) (part k es) (lands_come r o k),
    zeros t.desk,
    zeros t.outgoing,
    zeros t.queued,
    none_sum (IsGranted k t.objects) (ship_to o k) t.leaving (granted_ships k t o k) granted,
    none_among (ship_to o k) t.stray none_stray,
  )
    where
      lands : IsClean r (at_boot r t.here) (part k es) → (act : Act) (state : State) → Among (Shipped act state) t.stray → is_to t.here (move_to act) ≡ false
      lands = s.begun.lands

      none_stray : (p : Parcel) → Among p t.stray → ship_to o k p ≡ 0
      none_stray (Shipped act state) m =
          let e : is_to k (move_to act) ≡ false =
          subst (λ j. is_to j (move_to act) ≡ false) s.here (lands (subst (λ j. IsClean r (at_boot r j) (part k es)) (sym s.here) clean) act state m) in
          rw e (no (same_object o (target_of act)))
        where
          no : (b : Bool) → one_if (b && false) ≡ 0
          no true = refl
          no false = refl
      none_stray _ m = refl

  -- each landing elsewhere is told once its MOVE is done
  pub told_away : o.home < r.localities → o.home ≢ k
      → all_count (λ e. one_if (is_landed_of o e)) (part k es) ≡ count_by (λ (a : Arrival). same_object o a.object) t.came + kept_mail (tell_of o) t + all_count (gone r (tell_of o)) (part k es)
  told_away near other = omega (
    arith,
    s.paid.rows (TellsOf o) (subst (λ n. o.home < n) (sym s.count) near, λ e. other (e ∙ s.here)),
    all_same (goes r (TellsOf o)) (gone r (tell_of o)) (part k es) (tells_go r o),
    all_same (causes r (TellsOf o)) (λ e. one_if (is_landed_of o e)) (part k es) (tells_landed r o),
    none_sum (λ (w : Waiting Parcel). IsWaitingFor k w.number w.item) (λ (w : Waiting Parcel). tell_of o w.item) t.queued (λ w h. waits_tells o k w.number w.item h) waiting,
    zeros t.leaving,
    zeros t.stray,
  )

  -- at home no more is to be told than landed
  pub told_own : o.home ≡ k → count_by (λ (a : Arrival). same_object o a.object) t.came + kept_mail (tell_of o) t ≤ all_count (λ e. one_if (is_landed_of o e)) (part k es)
  told_own home = omega (
    arith,
    s.placed.own o,
    none_sum (IsOnItsWay r.localities k) (λ (x : Outgoing). tell_of o x.parcel) t.outgoing (λ x h. tell_home o k x.to x.parcel h.may (λ e. h.away (e ∙ home))) on_way,
  )
