-- Each action that waits or is on the road names what there is, where objects move too.
use Rattle.std.proofs.Common.{ℕ, true, List, [], ◌∷◌, ◌++◌, ◌≡◌, ◌<◌, ◌≤◌, Some, map, refl, sym, ap, ◌∙◌, subst, arith, inl, inr}
use Rattle.std.specs.Prelude.{flat_map}
use Rattle.std.specs.List.{list_any, sum_by, AllByRecursion}
use Rattle.std.proofs.lemmas.Bool.{cases_Bool, cases_lt, eqb-true}
use Rattle.std.proofs.lemmas.List.Sums.{sum_by-cons}
use Rattle.hpx_value.specs.Hands.{session}
use Rattle.hpx_value.specs.Ids.{bare}
use Rattle.hpx_value.specs.Values.{bare_act}
use Rattle.hpx_parcel.specs.Parcels.{IsParcel}
use Rattle.hpx_journal.specs.Data.{Id, Act, Parcel, Apply, Move}
use Rattle.hpx_journal.specs.Entries.{Rules, Frame, target_of}
use Rattle.hpx_journal.specs.Frames.{acts_in}
use Rattle.hpx_journal.specs.Laws.{IsOnRoad}
use Rattle.hpx_journal.specs.Natives.{IsRootIfSmall, StandsAtHome}
use Rattle.hpx_journal.specs.Whole.{Space, IsLegal, part, recorded_in, replayed, credit_sum}
use Rattle.hpx_journal.proofs.Credited.{named_credited}
use Rattle.hpx_journal.proofs.Homes.{root_stands}
use Rattle.hpx_journal.proofs.Origins.{each_origin}
use Rattle.hpx_journal.proofs.PoolMoves.{arrived}
use Rattle.hpx_journal.proofs.RootNames.{root_names, session_root}
use Rattle.hpx_journal.proofs.Start.{joined_legal, legal_whole}
use Rattle.hpx_journal.proofs.Targets.{all_near}
use Rattle.hpx_part.specs.Data.{Entry}
use Rattle.hpx_agas.specs.Queues.{is_for}
use Rattle.hpx_agas.specs.declared.record.Waiting.{Waiting}
use Rattle.hpx_steps.specs.Calls.{act_in}
use Rattle.hpx_steps.specs.Rest.{grants_of_all}
use Rattle.hpx_steps.specs.Sound.{IsWaitingFor}
use Rattle.hpx_steps.specs.Turn.{parcel_acts}
use Rattle.hpx_steps.proofs.Puts.{target-bare}
use Rattle.hpx_steps.proofs.Sums.{messages_sum}
use Rattle.hpx_tables.specs.Kept.{credit_in, held_here, ids_held, is_queued}
use Rattle.hpx_tables.specs.Tables.{Tables, messages, queued_parcels}
use Rattle.hpx_tables.specs.declared.kept.Outgoing.{Outgoing}
use Rattle.hpx_tables.proofs.Alls.{all_parts}
use Rattle.hpx_world.proofs.Known.{IsJoined, IsShown}
use Rattle.hpx_world.proofs.Near.{IsNear, legal_near}
use Rattle.hpx_world.proofs.Nearby.{agree_from, each_part, both_all, map_all}
use Rattle.hpx_world.proofs.Numbered.{acts_parcel, first_credit, root_grants, same_born}

-- an action with bare ids: it comes from a locality that there is, as do its ids; a root that it is for stands at home, and what is managed has
-- credit; and it goes to a locality that there is, if it is a MOVE
pub record IsActMet (r : Rules) (w : Space) (act : Act) : Type 0 where
  pub origin : act.origin < r.localities
  pub near : AllByRecursion (λ o. o.home < r.localities) act.ids
  pub root : (target_of act).kind < 16 → StandsAtHome r.localities w (target_of act)
  pub credited : AllByRecursion (λ o. 16 ≤ o.kind → 1 ≤ credit_sum r o w) act.ids
  pub moves : IsNear r.localities act

all_met : (r : Rules) (w : Space) (stand : (o : Id) → IsRootIfSmall r.localities o → o.kind < 16 → StandsAtHome r.localities w o) (acts : List Act) → AllByRecursion (λ act. act.origin < r.localities) acts
    → AllByRecursion (λ act. AllByRecursion (λ o. o.home < r.localities) act.ids) acts
    → AllByRecursion (λ act. AllByRecursion (IsRootIfSmall r.localities) act.ids) acts
    → AllByRecursion (λ act. AllByRecursion (λ o. 16 ≤ o.kind → 1 ≤ credit_sum r o w) act.ids) acts
    → AllByRecursion (IsNear r.localities) acts → AllByRecursion (IsActMet r w) acts
all_met r w stand [] a b c d e = tt
all_met r w stand (act ∷ acts) a b c d e =
    (record { origin = a.0; near = b.0; root = stand (target_of act) (target act act.ids refl c.0); credited = d.0; moves = e.0 }, all_met r w stand acts a.1 b.1 c.1 d.1 e.1)
  where
    target : (act : Act) (ids : List Id) → act.ids ≡ ids → AllByRecursion (IsRootIfSmall r.localities) ids → IsRootIfSmall r.localities (target_of act)
    target act [] is h = subst (IsRootIfSmall r.localities) (sym (ap (λ (xs : List Id). target_of (record act { ids = xs })) is)) (λ small. session_root r.localities)
    target act (id ∷ ids) is h = subst (IsRootIfSmall r.localities) (sym (ap (λ (xs : List Id). target_of (record act { ids = xs })) is)) h.0

-- what has the credit that a target needs
pub target_credited : (r : Rules) (w : Space) (act : Act) → AllByRecursion (λ o. 16 ≤ o.kind → 1 ≤ credit_sum r o w) act.ids → 16 ≤ (target_of act).kind → 1 ≤ credit_sum r (target_of act) w
target_credited r w act h managed = each act.ids refl h
  where
    each : (ids : List Id) → act.ids ≡ ids → AllByRecursion (λ o. 16 ≤ o.kind → 1 ≤ credit_sum r o w) ids → 1 ≤ credit_sum r (target_of act) w
    each [] is h =
        let e : target_of act ≡ session = ap (λ (xs : List Id). target_of (record act { ids = xs })) is in
        absurd (omega (arith, managed, ap (λ (o : Id). o.kind) e))
    each (id ∷ ids) is h =
        let e : target_of act ≡ id = ap (λ (xs : List Id). target_of (record act { ids = xs })) is in
        subst (λ o. 1 ≤ credit_sum r o w) (sym e) (h.0 (subst (λ (o : Id). 16 ≤ o.kind) e managed))

-- and where a target is at home
pub target_near : (n : ℕ) (act : Act) → 1 ≤ n → AllByRecursion (λ o. o.home < n) act.ids → (target_of act).home < n
target_near n act some h = each act.ids refl h
  where
    each : (ids : List Id) → act.ids ≡ ids → AllByRecursion (λ (o : Id). o.home < n) ids → (target_of act).home < n
    each [] is h =
        let e : target_of act ≡ session = ap (λ (xs : List Id). target_of (record act { ids = xs })) is in
        omega (arith, some, ap (λ (o : Id). o.home) e)
    each (id ∷ ids) is h =
        let e : target_of act ≡ id = ap (λ (xs : List Id). target_of (record act { ids = xs })) is in
        subst (λ (o : Id). o.home < n) (sym e) h.0

module _ (r : Rules) (es : List Entry) (joined : IsJoined r es) where
  pub lawful : IsLegal r es
  lawful = joined_legal r joined.grammar es joined.join

  abbrev Met : Act → Type 0
  Met = IsActMet r (replayed r es)

  -- credit of its target is out, if that is managed
  pub met_recorded : (act : Act) → Met (bare_act act) → 16 ≤ (target_of act).kind → 1 ≤ recorded_in (target_of act) (replayed r es)
  met_recorded act met managed = subst (λ y. 1 ≤ recorded_in y (replayed r es)) (target-bare act) (omega (
    arith,
    target_credited r (replayed r es) (bare_act act) met.credited (subst (λ (y : Id). 16 ≤ y.kind) (sym (target-bare act)) managed),
    (legal_whole r es lawful).ledger (target_of (bare_act act)),
  ))

  stand : (o : Id) → IsRootIfSmall r.localities o → o.kind < 16 → StandsAtHome r.localities (replayed r es) o
  stand o h small = root_stands r es lawful o joined.some (h small)

  -- at a locality
  pub waiting : (k : ℕ) → k < r.localities → AllByRecursion Met ((replayed r es).places k).waiting
  waiting k lt = all_met r (replayed r es) stand ((replayed r es).places k).waiting
      ((each_origin r (replayed r es) (legal_whole r es lawful)).waiting k lt)
      ((all_near r joined.grammar joined.laws joined.some es joined.join).acts.waiting k lt)
      ((root_names r joined.grammar joined.laws es lawful).acts.waiting k lt)
      ((named_credited r joined.grammar es joined.join).acts.waiting k lt)
      ((legal_near r joined.grammar joined.laws es lawful).places k lt).waiting

  road : AllByRecursion (λ (f : Frame). AllByRecursion Met (acts_in (r.parcel_of f.1))) (replayed r es).road
  road = each (replayed r es).road
      (each_origin r (replayed r es) (legal_whole r es lawful)).road
      (all_near r joined.grammar joined.laws joined.some es joined.join).acts.road
      (root_names r joined.grammar joined.laws es lawful).acts.road
      (named_credited r joined.grammar es joined.join).acts.road
      (legal_near r joined.grammar joined.laws es lawful).road
    where
      each : (fs : List Frame) → AllByRecursion (λ f. AllByRecursion (λ act. act.origin < r.localities) (acts_in (r.parcel_of f.1))) fs
          → AllByRecursion (λ f. AllByRecursion (λ act. AllByRecursion (λ o. o.home < r.localities) act.ids) (acts_in (r.parcel_of f.1))) fs
          → AllByRecursion (λ f. AllByRecursion (λ act. AllByRecursion (IsRootIfSmall r.localities) act.ids) (acts_in (r.parcel_of f.1))) fs
          → AllByRecursion (λ f. AllByRecursion (λ act. AllByRecursion (λ o. 16 ≤ o.kind → 1 ≤ credit_sum r o (replayed r es)) act.ids) (acts_in (r.parcel_of f.1))) fs
          → AllByRecursion (λ f. AllByRecursion (IsNear r.localities) (acts_in (r.parcel_of f.1))) fs
          → AllByRecursion (λ f. AllByRecursion Met (acts_in (r.parcel_of f.1))) fs
      each [] a b c d e = tt
      each (f ∷ fs) a b c d e = (all_met r (replayed r es) stand (acts_in (r.parcel_of f.1)) a.0 b.0 c.0 d.0 e.0, each fs a.1 b.1 c.1 d.1 e.1)

  -- in a frame on the road
  pub road_met : (f : Frame) (p : Parcel) → IsOnRoad f (replayed r es) → r.parcel_of f.1 ≡ Some p → AllByRecursion Met (acts_in (Some p))
  road_met f p on spelled =
      subst (λ x. AllByRecursion Met (acts_in x)) spelled
      (arrived (λ x. AllByRecursion Met (acts_in (r.parcel_of x.1))) (replayed r es).road f road on)

  module _ (log k : ℕ) (t : Tables) (s : IsShown r log es k t) where
    -- in each message of a locality
    pub messages_met : AllByRecursion (λ p. AllByRecursion Met (acts_in (Some p))) (messages t)
    messages_met = each_part Met parcel_acts (messages t)
        (all_parts Met (map bare_act t.accepted) (flat_map parcel_acts (messages t))
        (agree_from Met ((replayed r es).places k).waiting _ s.shows.acts.waiting (waiting k s.lt) [] _ refl)).1

    abbrev pub QueuedWell : Waiting Parcel → Type 0
    QueuedWell w = IsWaitingFor k w.number w.item × (IsParcel w.item × AllByRecursion Met (acts_in (Some w.item))) × (1 ≤ grants_of_all t (part k es) (target_of (act_in w.item)))

    pub queued_well : AllByRecursion QueuedWell t.queued
    queued_well = each t.queued (subst (λ j. AllByRecursion (λ (w : Waiting Parcel). IsWaitingFor j w.number w.item) t.queued) s.here s.tidy.queued) queued_met s.begun.queued
      where
        queued_met : AllByRecursion (λ (w : Waiting Parcel). IsParcel w.item × AllByRecursion Met (acts_in (Some w.item))) t.queued
        queued_met =
            let P : Parcel → Type 0 = λ p. IsParcel p × AllByRecursion Met (acts_in (Some p)) in
            let carried = map (λ (x : Outgoing). x.parcel) t.outgoing in
            let a = all_parts P t.desk (carried ++ (queued_parcels t.queued ++ (t.leaving ++ t.stray))) (both_all IsParcel (λ p. AllByRecursion Met (acts_in (Some p))) (messages t) s.tidy.messages messages_met) in
            let b = all_parts P carried (queued_parcels t.queued ++ (t.leaving ++ t.stray)) a.1 in
            map_all (λ (w : Waiting Parcel). w.item) P t.queued (all_parts P (queued_parcels t.queued) (t.leaving ++ t.stray) b.1).0

        each : (ws : List (Waiting Parcel)) → AllByRecursion (λ (w : Waiting Parcel). IsWaitingFor k w.number w.item) ws
            → AllByRecursion (λ (w : Waiting Parcel). IsParcel w.item × AllByRecursion Met (acts_in (Some w.item))) ws
            → AllByRecursion (λ (w : Waiting Parcel). 1 ≤ grants_of_all t (part k es) (target_of (act_in w.item))) ws → AllByRecursion QueuedWell ws
        each [] a b c = tt
        each (w ∷ ws) a b c = ((a.0, b.0, c.0), each ws a.1 b.1 c.1)

    -- its action names its object, which is managed
    act_met : (p : Parcel) (n : ℕ) → IsWaitingFor k n p → AllByRecursion Met (acts_in (Some p)) → Met (bare_act (act_in p))
    act_met (Apply act) n h met = met.0
    act_met (Move act) n h met = met.0
    act_met (Rattle.hpx_journal.specs.Data.Go act) n h met = absurd h
    act_met (Rattle.hpx_journal.specs.Data.Shipped act state) n h met = absurd h
    act_met (Rattle.hpx_journal.specs.Data.Return id) n h met = absurd h
    act_met (Rattle.hpx_journal.specs.Data.Ask id asker entry) n h met = absurd h
    act_met (Rattle.hpx_journal.specs.Data.Give id entry) n h met = absurd h
    act_met (Rattle.hpx_journal.specs.Data.Cached id place) n h met = absurd h
    act_met (Rattle.hpx_journal.specs.Data.Arrived id place) n h met = absurd h
    act_met (Rattle.hpx_journal.specs.Data.Free id) n h met = absurd h

    -- which is of here, and of which credit is out
    pub queued_there : (w : Waiting Parcel) → QueuedWell w → (16 ≤ (target_of (act_in w.item)).kind) × (1 ≤ recorded_in (target_of (act_in w.item)) (replayed r es))
    queued_there w h =
        let act = act_in w.item in
        let managed : 16 ≤ (target_of act).kind = elim (cases_lt (target_of act).kind 16) [
          | inl small ↦ absurd (omega (arith, h.2, root_grants r log es joined.grammar lawful k t s (target_of act) small))
          | inr large ↦ large
        ] in
        (managed, met_recorded act (act_met w.item w.number h.0 h.1.1) managed)

    pub queued_home : (w : Waiting Parcel) → QueuedWell w → (target_of (act_in w.item)).home ≡ k
    queued_home w h = (acts_parcel r log es joined.grammar lawful k t s w.item w.number h.0 h.1.0).0

    module _ (o : Id) (home : o.home ≡ k) (some : 1 ≤ recorded_in o (replayed r es)) where
      held_one : (w : Waiting Parcel) → QueuedWell w → w.number ≡ o.number → 1 ≤ credit_in o (ids_held w.item)
      held_one w h number =
          let act = act_in w.item in
          let x = acts_parcel r log es joined.grammar lawful k t s w.item w.number h.0 h.1.0 in
          let there = queued_there w h in
          let same = same_born r es lawful o (target_of act) some there.1 (home ∙ sym x.0) (sym number ∙ sym x.1) in
          omega (
            arith,
            first_credit r log es joined.grammar lawful k t s o act act.ids refl there.0 x.2 same,
            ap (credit_in o) x.3,
          )

      held_some : (ws : List (Waiting Parcel)) → AllByRecursion QueuedWell ws → list_any (is_for o.number) ws ≡ true → 1 ≤ sum_by (λ (w : Waiting Parcel). credit_in o (ids_held w.item)) ws
      held_some [] h any = absurd (cc)
      held_some (w ∷ ws) h any = elim (cases_Bool (is_for o.number w)) [
        | inl u ↦ omega (arith, held_one w h.0 (eqb-true w.number o.number u), sum_by-cons (λ (y : Waiting Parcel). credit_in o (ids_held y.item)) w ws)
        | inr f ↦ omega (arith, held_some ws h.1 (rw f at any), sum_by-cons (λ (y : Waiting Parcel). credit_in o (ids_held y.item)) w ws)
      ]

      -- what waits for it holds credit of it
      pub queued_held : is_queued t o.number ≡ true → 1 ≤ held_here t o
      queued_held any = omega (arith, held_some t.queued queued_well any, messages_sum (λ p. credit_in o (ids_held p)) t)
