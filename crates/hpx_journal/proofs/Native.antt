-- What holds of the session, of managed objects, of the codes of lines and answers, and of what outcomes send, holds of each
-- id and each code in a legal journal.
use Rattle.std.proofs.Common.{ℕ, true, false, List, [], ◌∷◌, ◌<◌, ◌≤◌, Option, Some, None, map}
use Rattle.std.specs.List.{find, AllByRecursion}
use Rattle.std.specs.Option.{option_to_list}
use Rattle.hpx_value.specs.Ids.{Id}
use Rattle.hpx_value.specs.Values.{bare_act, bare_state}
use Rattle.hpx_value.specs.Hands.{session}
use Rattle.hpx_value.specs.Shapes.{IsAct, IsState}
use Rattle.hpx_journal.specs.Bags.{minus, Covers}
use Rattle.hpx_journal.specs.Data.{State, Act, Due, MessageDue, PrintDue, Parcel, Shipped}
use Rattle.hpx_journal.specs.Entries.{Name, Event, Line, Fire, Born, Done, Sent, Print, Freed, Left, Landed, Out, In, Entry, Standing, Travel, Rules, Frame, same_frame, name_of, target_of, move_to}
use Rattle.hpx_journal.specs.Frames.{acts_in, travels_in, travel_of}
use Rattle.hpx_journal.specs.Local.{Local, after, is_act, is_standing, is_travel, comes, leaves, sets_off, stops, due_act, outcome, stood, leaving}
use Rattle.hpx_journal.specs.Names.{due_ids}
use Rattle.hpx_journal.specs.Rows.{Row, AreWaiting, MayGo, Runs}
use Rattle.hpx_journal.specs.Whole.{Space, IsLegal, IsLegalFrom, MayStand, run, step, replayed, sends, arrives, arrives_at}
use Rattle.hpx_journal.specs.Laws.{HasGrammar, KeepsActLaws}
use Rattle.hpx_value.specs.Riders.{plain}
use Rattle.hpx_value.proofs.Riders.{plain_all, plain_formed}
use Rattle.hpx_journal.specs.Natives.{EachName}
use Rattle.hpx_journal.proofs.Alls.{all-append, all-without, all-minus, all-map, all-find, all-listed}
use Rattle.hpx_journal.proofs.Done.{done_settles}
use Rattle.hpx_journal.proofs.Formed.{IsPlace, IsSettled, target_formed, all-image, all-tail}
use Rattle.hpx_journal.proofs.Handed.{SendIs, DueIs, failure_is, state_is, due_is}
use Rattle.hpx_journal.proofs.Homes.{kept_step}
use Rattle.hpx_journal.proofs.PoolMoves.{arrived}
use Rattle.hpx_journal.proofs.SlotsWhole.{IsSlotted, place_of, slotted_run, start_slotted}
use Rattle.hpx_journal.proofs.Start.{first, start_whole, roots_all}
use Rattle.hpx_journal.proofs.Wholes.{IsWhole, whole_step}

-- what the ids and codes are to be, which the session, managed objects, lines, answers and sends have
pub record IsGiven (r : Rules) (P : Id → Type 0) (C : ℕ → Type 0) : Type 0 where
  pub session : P session
  pub managed : (o : Id) → 16 ≤ o.kind → P o
  pub line : C 4
  pub set : C 3
  pub sends : (kind here : ℕ) (s : State) (a : Act) → here < r.localities → IsState s → IsAct a
      → AllByRecursion (SendIs P C) (r.outcome_of kind here s a).sends

abbrev pub ActIs : (Id → Type 0) → (ℕ → Type 0) → Act → Type 0
ActIs P C act = AllByRecursion P act.ids × C act.code

abbrev StandingIs : (Id → Type 0) → Standing → Type 0
StandingIs P x = AllByRecursion P x.state.ids

abbrev TravelIs : (Id → Type 0) → Travel → Type 0
TravelIs P x = AllByRecursion P x.state.ids

abbrev pub FrameIs : Rules → (Id → Type 0) → (ℕ → Type 0) → Frame → Type 0
FrameIs r P C f = AllByRecursion (ActIs P C) (acts_in (r.parcel_of f.1)) × AllByRecursion (TravelIs P) (travels_in (r.parcel_of f.1))

-- so it is at a locality
pub record IsSoAt (P : Id → Type 0) (C : ℕ → Type 0) (s : Local) : Type 0 where
  pub waiting : AllByRecursion (ActIs P C) s.waiting
  pub fired : AllByRecursion (ActIs P C) s.fired
  pub objects : AllByRecursion (StandingIs P) s.objects
  pub travels : AllByRecursion (TravelIs P) s.travels
  pub due : AllByRecursion (DueIs P C) s.due
  pub fresh : AllByRecursion P s.fresh

-- so it is everywhere
pub record IsSo (r : Rules) (P : Id → Type 0) (C : ℕ → Type 0) (w : Space) : Type 0 where
  pub places : (k : ℕ) → k < r.localities → IsSoAt P C (w.places k)
  pub road : AllByRecursion (FrameIs r P C) w.road

travel_is : (P : Id → Type 0) (act : Act) (state : State) (moves : Option ℕ) → AllByRecursion P state.ids → AllByRecursion (TravelIs P) (travel_of act state moves)
travel_is P act state None h = tt
travel_is P act state (Some to) h = (h, tt)

due_act_is : (P : Id → Type 0) (C : ℕ → Type 0) (a : Name) (due : List Due) → AllByRecursion (DueIs P C) due → AllByRecursion (ActIs P C) (due_act a due)
due_act_is P C a [] h = tt
due_act_is P C a (PrintDue bytes ∷ rest) h = tt
due_act_is P C a (MessageDue m ∷ rest) h = (h.0, tt)

module _ (r : Rules) (grammar : HasGrammar r) (laws : KeepsActLaws r) (P : Id → Type 0) (C : ℕ → Type 0) (given : IsGiven r P C) where
  -- ---- one entry

  module _ (s : Local) (so : IsSoAt P C s) where
    come : (k : ℕ) (e : Event) → AllByRecursion (FrameIs r P C) (arrives_at k e) → AllByRecursion (ActIs P C) (comes r s e)
    come k (Line a bytes) h = (((given.session, tt), given.line), tt)
    come k (Sent a) h = due_act_is P C a s.due so.due
    come k (In bytes) h = h.0.0
    come k _ h = tt

    waiting_so : (k : ℕ) (e : Event) → AllByRecursion (FrameIs r P C) (arrives_at k e) → AllByRecursion (ActIs P C) (after r s e).waiting
    unfolding after
    waiting_so k e h = all-append (ActIs P C) (comes r s e) _ (come k e h) (all-minus (ActIs P C) is_act s.waiting (leaves r e) so.waiting)

    fired_so : (e : Event) → AllByRecursion (ActIs P C) (after r s e).fired
    unfolding after
    fired_so (Fire a) =
        all-append (ActIs P C) (option_to_list (find (is_act a) s.waiting)) s.fired (all-listed (ActIs P C) (is_act a) s.waiting so.waiting) so.fired
    fired_so (Done a failed) = all-without (ActIs P C) (is_act a) s.fired so.fired
    fired_so _ = so.fired

    -- the ids of a fired action, and those of its target's state
    acted : (a : Name) (x : Runs s a) → AllByRecursion P x.act.ids
    acted a x = (all-find (ActIs P C) (is_act a) s.fired x.act so.fired x.fired).0

    stated : (a : Name) (x : Runs s a) → AllByRecursion P x.target.state.ids
    stated a x = all-find (StandingIs P) (is_standing (target_of x.act)) s.objects x.target so.objects x.stands

    objects_so : (e : Event) → Row r s e → AllByRecursion (StandingIs P) (after r s e).objects
    unfolding after
    objects_so (Born o state) row = (rw row.5 tt, so.objects)
    objects_so (Done a true) row = so.objects
    objects_so (Done a false) row =
        let x = row.0 in
        rw (done_settles r s a x.act x.target x.fired x.stands) (
          state_is P C given.session given.set x.target.state (plain x.act) s.fresh (stated a x) (plain_all P x.act (acted a x)) so.fresh (outcome r s x.act x.target),
          all-without (StandingIs P) (is_standing x.target.object) s.objects so.objects,
        )
    objects_so (Freed o) row = all-without (StandingIs P) (is_standing o) s.objects so.objects
    objects_so (Left o to) row = all-without (StandingIs P) (is_standing o) s.objects so.objects
    objects_so (Landed o) row =
        all-append (StandingIs P) (map stood (option_to_list (find (is_travel o) s.travels))) s.objects
        (all-image (StandingIs P) stood (option_to_list (find (is_travel o) s.travels)) (all-listed (TravelIs P) (is_travel o) s.travels so.travels))
        so.objects
    objects_so _ row = so.objects

    set_off : (k : ℕ) (e : Event) → AllByRecursion (FrameIs r P C) (arrives_at k e) → AllByRecursion (TravelIs P) (sets_off r s e)
    set_off k (Left o to) h =
        all-image (TravelIs P) (leaving to) (option_to_list (find (is_standing o) s.objects)) (all-listed (StandingIs P) (is_standing o) s.objects so.objects)
    set_off k (In bytes) h = h.0.1
    set_off k _ h = tt

    travels_so : (k : ℕ) (e : Event) → AllByRecursion (FrameIs r P C) (arrives_at k e) → AllByRecursion (TravelIs P) (after r s e).travels
    unfolding after
    travels_so k e h = all-append (TravelIs P) (sets_off r s e) _ (set_off k e h) (all-minus (TravelIs P) is_travel s.travels (stops r e) so.travels)

    fresh_so : (e : Event) → Row r s e → AllByRecursion P (after r s e).fresh
    unfolding after
    fresh_so (Born o state) row = all-append P s.fresh (o ∷ []) so.fresh (given.managed o row.1.0, tt)
    fresh_so (Done a failed) row = tt
    fresh_so _ row = so.fresh

    acts_go : (acts : List Act) → AreWaiting s acts → AllByRecursion (ActIs P C) acts
    acts_go [] h = tt
    acts_go (act ∷ acts) h = (all-find (ActIs P C) (is_act (name_of act)) s.waiting act so.waiting h.0, acts_go acts h.1)

    travels_go : (to : ℕ) (p : Parcel) → MayGo s to p → AllByRecursion (TravelIs P) (travels_in (Some p))
    travels_go to (Shipped act state) h =
        let object = target_of (bare_act act) in
        travel_is P (bare_act act) (bare_state state) (move_to (bare_act act))
        (all-find (TravelIs P) (is_travel object) s.travels (record { object = object; state = bare_state state; to = to }) so.travels h.1)
    travels_go to _ h = tt

    frames_go : (e : Event) → Row r s e → AllByRecursion (FrameIs r P C) (sends e)
    frames_go (Out to bytes) row = (rw row.2.1 (acts_go (acts_in (Some row.2.0)) row.2.2, travels_go to row.2.0 row.2.3), tt)
    frames_go _ row = tt

    module _ (place : IsPlace r s) (settled : IsSettled s) where
      sends_so : (a : Name) (x : Runs s a) → AllByRecursion (SendIs P C) (outcome r s x.act x.target).sends
      sends_so a x =
          given.sends x.target.object.kind s.here x.target.state (plain x.act) place.here (target_formed r grammar laws s place settled a x)
          (plain_formed x.act (all-find IsAct (is_act a) s.fired x.act settled.formed.fired x.fired))

      due_so : (e : Event) → Row r s e → AllByRecursion (DueIs P C) (after r s e).due
      unfolding after
      due_so (Done a false) row =
          let x = row.0 in
          rw (x.fired, x.stands)
          (due_is P C given.session given.set x.target.state (plain x.act) s.fresh (stated a x) (plain_all P x.act (acted a x)) so.fresh (outcome r s x.act x.target) (sends_so a x))
      due_so (Done a true) row = rw row.0.fired (failure_is P C given.session given.set row.0.act (acted a row.0))
      due_so (Sent a) row = all-tail (DueIs P C) s.due so.due
      due_so (Print bytes) row = all-tail (DueIs P C) s.due so.due
      due_so _ row = so.due

      so_after : (k : ℕ) (e : Event) → Row r s e → AllByRecursion (FrameIs r P C) (arrives_at k e) → IsSoAt P C (after r s e)
      so_after k e row h = record {
        waiting = waiting_so k e h;
        fired = fired_so e;
        objects = objects_so e row;
        travels = travels_so k e h;
        due = due_so e row;
        fresh = fresh_so e row;
      }

  -- ---- the whole

  pub arrive : (road : List Frame) (k : ℕ) (e : Event) → AllByRecursion (FrameIs r P C) road → Covers same_frame road (arrives_at k e)
      → AllByRecursion (FrameIs r P C) (arrives_at k e)
  arrive road k (In bytes) h covers = (arrived (FrameIs r P C) road (k, bytes) h covers.0, tt)
  arrive road k _ h covers = tt

  module _ (w : Space) (e : Entry) (whole : IsWhole r w) (slotted : IsSlotted r w) (ok : MayStand r w e) (so : IsSo r P C w) where
    pub so_step : IsSo r P C (step r w e)
    unfolding step
    so_step =
        let s = w.places e.at in
        let here : IsSoAt P C s = so.places e.at ok.place in
        record {
          places = λ k h. kept_step r (IsSoAt P C) k w e
              (λ before. so_after s before (place_of r w whole e.at ok.place) (slotted.settled e.at) e.at e.event ok.allowed.row
              (arrive w.road e.at e.event so.road ok.road)) (so.places k h);
          road = all-append (FrameIs r P C) (sends e.event) (minus same_frame w.road (arrives e))
              (frames_go s here e.event ok.allowed.row) (all-minus (FrameIs r P C) same_frame w.road (arrives e) so.road);
        }

    pub slotted_next : IsSlotted r (step r w e)
    slotted_next = slotted_run r grammar laws w (e ∷ []) whole slotted (ok, tt)

  so_run : (w : Space) (es : List Entry) → IsWhole r w → IsSlotted r w → IsLegalFrom r w es → IsSo r P C w → IsSo r P C (run r w es)
  so_run w [] whole slotted legal so = so
  so_run w (e ∷ es) whole slotted legal so =
      so_run (step r w e) es (whole_step r w e whole legal.0) (slotted_next w e whole slotted legal.0 so) legal.1 (so_step w e whole slotted legal.0 so)

  pub start_so : IsSo r P C (first r)
  start_so = record {
    places = λ k h. record {
      waiting = tt;
      fired = tt;
      objects = roots_all (StandingIs P) (λ j kind values small. tt) r.localities k;
      travels = tt;
      due = tt;
      fresh = tt;
    };
    road = tt;
  }

  module _ (es : List Entry) (legal : IsLegal r es) where
    pub legal_so : IsSo r P C (replayed r es)
    legal_so = so_run (first r) es (start_whole r) (start_slotted r) legal start_so

    due_named : (x : Due) → DueIs P C x → AllByRecursion P (due_ids x)
    due_named (MessageDue m) h = h.0
    due_named (PrintDue bytes) h = tt

    acts_named : (acts : List Act) → AllByRecursion (ActIs P C) acts → AllByRecursion (λ act. AllByRecursion P act.ids) acts
    acts_named acts h = all-map (ActIs P C) (λ act. AllByRecursion P act.ids) (λ act i. i.0) acts h

    pub legal_named : EachName r P (replayed r es)
    legal_named = record {
      acts = record {
        waiting = λ k h. acts_named ((replayed r es).places k).waiting (legal_so.places k h).waiting;
        fired = λ k h. acts_named ((replayed r es).places k).fired (legal_so.places k h).fired;
        road = all-map (FrameIs r P C) (λ f. AllByRecursion (λ act. AllByRecursion P act.ids) (acts_in (r.parcel_of f.1)))
            (λ f i. acts_named (acts_in (r.parcel_of f.1)) i.0) (replayed r es).road legal_so.road;
      };
      due = λ k h. all-map (DueIs P C) (λ x. AllByRecursion P (due_ids x)) due_named ((replayed r es).places k).due (legal_so.places k h).due;
      objects = λ k h. (legal_so.places k h).objects;
      travels = λ k h. (legal_so.places k h).travels;
      road = all-map (FrameIs r P C) (λ f. AllByRecursion (TravelIs P) (travels_in (r.parcel_of f.1))) (λ f i. i.1) (replayed r es).road legal_so.road;
    }
