-- Credit that was asked for is given to a commit that waits for nothing more then: it goes on, and ends or fails.
use Rattle.hpx_steps.proofs.Common.{AllByRecursion, AreWithin, AskedFor, Done, Event, Give, Given, Gives, HasCredit, HasInHand, Id, IsBirth, IsLeftBy, IsLeftFailed, Lasts, List, None, Option, Parcel, Remains, Rules, Some, Standing, Tables, Turn, Waits, Writes, [], answered_by, ap, at_rest, bare, birth_of, births_of, brings_right, cond, drops, ends, false, find, goes_on, id_at, ids_named, ids_of, is_standing, length, log_of, map, name_of, named, objects_of, records_of, refl, remove, rider_events, rider_of, set, slice_get, splits_from, subst, sym, target_of, true, ups, with_credit, with_done, with_left, works_on, written_due, wrote, ℕ, ◌++◌, ◌+◌, ◌<◌, ◌==◌, ◌∷◌, ◌≡◌, ◌≤◌, Act, Moved, CameWith, CameAlone, inr, ◌⊎◌, ◌≢◌}
use Rattle.hpx_steps.proofs.Committed.{done_steps, ends_so, failed_steps}
use Rattle.hpx_steps.proofs.Handled.{Leads, Writing, given_leads, written_events}
use Rattle.hpx_steps.proofs.Made.{Drawn}
use Rattle.hpx_steps.proofs.Work.{halved_from}

-- ---- an action that is no MOVE ends

abbrev pub same_moved : Turn → Moved
same_moved s = record { came = s.tables.came; untold = s.untold }

pub no_move : (s : Turn) (act : Act) → act.code ≢ 1 → CameWith s act (same_moved s) ⊎ CameAlone s act (same_moved s)
no_move s act other = inr (record { none = λ is. absurd (other is); came = refl; untold = refl })

-- ---- an action fails

-- its Done, what is due, and what is given up
pub fail_steps : (r : Rules) (s : Turn) (w : Waits) (rest : List Waits) (refusal : Id) (j : ℕ) (x : Standing) (left : Remains) → s.due ≡ [] → s.fresh ≡ [] → s.loose ≡ []
    → w.asked ≡ [] → w.refused ≡ Some refusal → slice_get s.tables.objects j ≡ Some x → find (is_standing (target_of w.job.action)) s.tables.objects ≡ Some x → w.job.action.code ≢ 1 → IsLeftFailed w x left
    → (l : Option Event) × Writing r (works_on w rest s) (Done (name_of w.job.action) true ∷ (written_due s.tables.here s.tables.serial left.due ++ ups (with_credit (rider_of w.job.action) ++ left.loose)))
    (record (ends j w rest x left (same_moved s) s) { due = []; loose = []; tables = with_left left.due (with_credit (rider_of w.job.action) ++ left.loose) (ends j w rest x left (same_moved s) s).tables; last = l })
fail_steps r s w rest refusal j x left due fresh loose lacks refused stands found other by =
    let d : Turn = wrote (Done (name_of w.job.action) true) (ends j w rest x left (same_moved s) s) in
    let all : List Id = with_credit (rider_of w.job.action) ++ left.loose in
    let more = failed_steps r (record d { due = []; loose = [] }) left.due (rider_of w.job.action) left.loose refl by.given_up in
    let start : d ≡ record d { due = left.due; loose = with_credit (rider_of w.job.action) ++ left.loose } = ap (λ is. record d { loose = is ++ all }) loose in (
      more.0,
      (
        d,
        record {
          w = w;
          rest = rest;
          j = j;
          x = x;
          left = left;
          moved = same_moved s;
          ending = ends_so (works_on w rest s) w rest j x left (same_moved s) due refl lacks stands found by.kept by.plain by.credit by.fits by.given_up by.deals (no_move (works_on w rest s) w.job.action other);
          fresh = fresh;
          refusal = refusal;
          refused = refused;
          says = by.says;
          leaves = by.leaves;
          now = refl;
        },
        subst (λ z. Writing r z (written_due s.tables.here s.tables.serial left.due ++ ups all)
            (record d { due = []; loose = []; tables = with_left left.due all d.tables; last = more.0 })) (sym start) more.1,
      ),
    )

-- ---- a message brings the last credit

-- while this message is in hand, and nothing else is done
abbrev pub in_hand : Tables → List Parcel → List Parcel → Option Event → Turn
in_hand t came mailed l = record (at_rest t) { came = came; mailed = mailed; last = l }

-- its entry
abbrev pub given_event : Id → Event
given_event id = Given (bare id) (log_of id.log)

module _ (r : Rules) (t mid : Tables) (came mailed : List Parcel) (before : Option Event) (id : Id) (entry : ℕ) (hand : HasInHand (Give id entry) (in_hand t came mailed before))
    (credit : HasCredit id) (right : brings_right t id ≡ true) (g : Gives id entry t mid) (complete : g.after.asked ≡ []) (other : g.after.job.action.code ≢ 1) where
  -- where the commit is in work
  abbrev pub resumed : Turn
  resumed = record (at_rest (record t { pending = remove t.pending g.i })) { working = g.after ∷ []; last = Some (given_event id) }

  -- the commit goes on so
  pub given_ends : (t' : Tables) (events : List Event) → ((l : Option Event) × Writing r resumed events (record (at_rest t') { last = l }))
      → Leads r (in_hand t came mailed before) None t' (given_event id ∷ events)
  given_ends t' events more = record {
    last = more.0;
    labels = Writes (given_event id) ∷ map (λ e. Writes e) events;
    writes = ap (λ es. given_event id ∷ es) (written_events events);
    steps = (
      wrote (given_event id) (goes_on g.i g.after (drops (in_hand t came mailed before))),
      given_leads r (in_hand t came mailed before) mid id entry (record { due = refl; fresh = refl }) hand credit right g,
      subst (λ z. Writing r z events (record (at_rest t') { last = more.0 })) (sym then_is) more.1,
    );
  }
    where
      then_is : wrote (given_event id) (goes_on g.i g.after (drops (in_hand t came mailed before))) ≡ resumed
      then_is =
          ap (λ (asked : List AskedFor). record (at_rest (record t { pending = cond (length asked == 0) (remove t.pending g.i) (set t.pending g.i g.after) })) {
            working = cond (length asked == 0) (g.after ∷ []) [];
            last = Some (given_event id);
          }) complete

  -- where it fails
  abbrev pub failed : ℕ → Standing → Remains → Tables
  failed j x left = with_left left.due (with_credit (rider_of g.after.job.action) ++ left.loose) (record t {
    pending = remove t.pending g.i;
    objects = set t.objects j (record { object = x.object; state = left.state });
    answered = t.answered + answered_by (Some g.after.job.action);
  })

  pub given_fails : (refusal : Id) (j : ℕ) (x : Standing) (left : Remains) → g.after.refused ≡ Some refusal → slice_get t.objects j ≡ Some x
      → find (is_standing (target_of g.after.job.action)) t.objects ≡ Some x → IsLeftFailed g.after x left
      → Leads r (in_hand t came mailed before) None (failed j x left) (given_event id ∷ (Done (name_of g.after.job.action) true ∷ (written_due t.here t.serial left.due ++ ups (with_credit (rider_of g.after.job.action) ++ left.loose))))
  given_fails refusal j x left refused stands found by =
      given_ends (failed j x left) (Done (name_of g.after.job.action) true ∷ (written_due t.here t.serial left.due ++ ups (with_credit (rider_of g.after.job.action) ++ left.loose)))
      (fail_steps r resumed g.after [] refusal j x left refl refl refl complete refused stands found other by)

  -- where it is done
  abbrev pub done : ℕ → Standing → Remains → Tables
  done j x left = with_done j (record { object = x.object; state = left.state }) left.due (rider_of g.after.job.action) left.loose (record t {
    pending = remove t.pending g.i;
    births = t.births + length g.after.outcome.makes;
    records = t.records ++ records_of t.here t.births t.profile.credit_log (map birth_of g.after.outcome.makes);
    objects = set (t.objects ++ objects_of t.here t.births (map birth_of g.after.outcome.makes)) j (record { object = x.object; state = left.state });
    answered = t.answered + answered_by (Some g.after.job.action);
  })

  abbrev made : List Id
  made = ids_of t.here t.births t.profile.credit_log (map birth_of g.after.outcome.makes)

  module _ (front later back : List Id) (places : List ℕ) (is : g.after.hand ≡ front ++ (later ++ back)) (none : AllByRecursion (λ (o : Id). o.log ≡ None) later)
      (many : length later ≡ length g.after.outcome.makes) (long : length (ids_named g.after) ≤ length front) (fit : AllByRecursion IsBirth (map birth_of g.after.outcome.makes)) where
    -- its hand, with what it makes
    abbrev pub full : List Id
    full = front ++ (ids_of t.here t.births t.profile.credit_log (map birth_of g.after.outcome.makes) ++ back)

    abbrev pub full_cut : List Id
    full_cut = (halved_from (length full) 0 (record { hand = full; places = places })).hand

    pub given_done : (j : ℕ) (x : Standing) (left : Remains) → AreWithin full places → ((q : ℕ) → q < length full → Lasts (id_at full q) (named places q))
        → slice_get t.objects j ≡ Some x → find (is_standing (target_of g.after.job.action)) t.objects ≡ Some x
        → AllByRecursion (Drawn t.here t.births) t.objects
        → IsLeftBy r t.here g.after.job g.after.outcome x full_cut (map bare made) left
        → Leads r (in_hand t came mailed before) None (done j x left) (given_event id ∷ ((births_of t.here t.births (map birth_of g.after.outcome.makes) ++ splits_from 0 full places)
        ++ (Done (name_of g.after.job.action) false ∷ (written_due t.here t.serial left.due ++ (rider_events t.profile.credit_log left.state.ids (rider_of g.after.job.action) ++ ups left.loose)))))
    given_done j x left within lasts stands found drawn by =
        let s : Turn = record resumed { working = [] } in
        let events : List Event = (births_of t.here t.births (map birth_of g.after.outcome.makes) ++ splits_from 0 full places)
        ++ (Done (name_of g.after.job.action) false ∷ (written_due t.here t.serial left.due ++ (rider_events t.profile.credit_log left.state.ids (rider_of g.after.job.action) ++ ups left.loose))) in
        let more = done_steps r s g.after [] front later back places refl refl refl complete none many long fit j x left (same_moved s) (no_move s g.after.job.action other) tt within lasts stands found drawn by in
        given_ends (done j x left) events
        (more.0, subst (λ ids. Writing r (record s { working = record g.after { hand = ids } ∷ [] }) events (record (at_rest (done j x left)) { last = more.0 })) (sym is) more.1)
