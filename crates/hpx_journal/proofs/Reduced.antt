-- Every entry, and whole runs.
use Rattle.hpx_journal.proofs.SlotsWhole.{start_slotted}
use Rattle.hpx_journal.specs.Laws.{KeepsActLaws, is_failed}
use Rattle.hpx_journal.proofs.Mass.{DoesNotFail}
use Rattle.std.proofs.Common.{ℕ, Bool, true, false, cond, List, [], ◌∷◌, ◌++◌, ◌≡◌, ◌<◌, ◌≤◌, Option, Some, None, refl, sym, ap, ◌∙◌, subst, arith, append_assoc, append-nil}
use Rattle.std.specs.Prelude.{◌==◌, ◌&&◌}
use Rattle.std.specs.List.{list_any, find, sum_by, AllByRecursion}
use Rattle.std.proofs.lemmas.List.Sums.{sum_by-cons, sum_by-append}
use Rattle.std.proofs.lemmas.Bool.{eqb-true}
use Rattle.hpx_value.specs.Ids.{Id, same_object}
use Rattle.hpx_journal.specs.Data.{Message}
use Rattle.hpx_journal.specs.Entries.{Name, Event, Line, Fire, Split, Born, Done, Sent, Print, Merge, Up, Asked, Given, Count, Freed, Left, Landed, Looked, Mail, Out, In, Entry, Standing, Travel, Rules, line_message}
use Rattle.hpx_journal.specs.Frames.{travels_in}
use Rattle.hpx_journal.specs.Local.{is_standing, is_travel, boot}
use Rattle.hpx_journal.specs.Rows.{is_to}
use Rattle.hpx_journal.specs.Roots.{root, roots, roots_of_first}
use Rattle.hpx_journal.specs.Whole.{Space, step, run, start, replayed, MayStand, IsLegalFrom, IsLegal}
use Rattle.hpx_journal.specs.Laws.{HasGrammar, KeepsActLaws, is_failed}
use Rattle.hpx_journal.specs.Pool.{Pool, target_in, moves_to, fed, carried, IsMoved, Goes, mass_at, HasTravel, Shows, prints_due, prints_by, prints_of, IsBlind, NoneFails, IsPlainRun, boot_pool, state_at}
use Rattle.hpx_journal.proofs.Bags.{find-passes, find-none, total-zero}
use Rattle.hpx_journal.proofs.Fronts.{legal_front, legal_rest}
use Rattle.hpx_journal.proofs.Start.{roots_unmanaged, start_whole}
use Rattle.hpx_journal.proofs.PoolLists.{state_in, all-map, no-any, find-all, any-all, same-left, same-right, same-trans, find-same}
use Rattle.hpx_journal.proofs.PoolHere.{IsStill, shows_still, shows_fire, shows_born, shows_freed, shows_left, shows_out, shows_in}
use Rattle.hpx_journal.proofs.PoolSteps.{same_home, landed_here, landed_there}
use Rattle.hpx_journal.proofs.PoolSound.{IsQuietly, prints_stay}
use Rattle.hpx_journal.proofs.PoolWhole.{stands_apart, moving, HasMove}
use Rattle.hpx_journal.proofs.PoolMoves.{arrived, both_true}
use Rattle.hpx_journal.proofs.Reduce.{IsAmong, among, IsReached, reached_step, assemble, stays, calm, same_road, once}
use Rattle.hpx_journal.proofs.Mass.{DoesNotFail, brings, ends}
use Rattle.hpx_journal.proofs.ReduceActs.{done_step}

-- ---- a line

line_step : (r : Rules) (w : Space) (reached : IsReached r w) (p : Pool) (out : List (List ℕ)) (shows : Shows r w p out) (k : ℕ) (a : Name) (bytes : List ℕ)
    (ok : MayStand r w (record { at = k; event = Line a bytes }))
    → Shows r (step r w (record { at = k; event = Line a bytes })) (fed p bytes) (out ++ [])
line_step r w reached p out shows k a bytes ok =
    let still = shows_still r p k (w.places k) (Line a bytes) tt (shows.places k ok.place) in
    assemble r w reached p out shows (record { at = k; event = Line a bytes }) ok tt (fed p bytes)
    (λ f. omega (arith, sum_by-cons f (line_message bytes) p.pending, sum_by-cons f (line_message bytes) []))
    (record { stands = still.stands; travels = still.travels; fired = still.fired; fresh = still.fresh; unknown = still.unknown })
    (λ j h other.
    let x = shows.places j h in
    record { stands = x.stands; travels = x.travels; fired = x.fired; fresh = x.fresh; unknown = x.unknown })
    (same_road r w reached p out shows (record { at = k; event = Line a bytes }) ok tt)
    (record { alike = shows.alike.alike })
    (λ same. append_assoc out [] _
    ∙ (ap (λ v. out ++ v) (prints_stay r (w.places k) (Line a bytes) ok.allowed.row tt)
    ∙ (ap (λ j. out ++ prints_due (w.places j).due) same ∙ shows.printed)))
    (λ other. (refl, refl))

-- ---- an object that lands

is_to-same : (t : ℕ) (moves : Option ℕ) → is_to t moves ≡ true → moves ≡ Some t
is_to-same t None h = cc
is_to-same t (Some j) h = ap (λ v. Some v) (eqb-true j t h)

pub record MovesTo (x : Travel) (m : Message) : Type 0 where
  pub same : same_object x.object (target_in m) ≡ true
  pub to : moves_to m ≡ Some x.to

abbrev moves_it : Travel → Message → Bool
moves_it x m = same_object x.object (target_in m) && is_to x.to (moves_to m)

moves_here : (x : Travel) (m : Message) → moves_it x m ≡ true → MovesTo x m
moves_here x m h =
    let b = both_true (same_object x.object (target_in m)) (is_to x.to (moves_to m)) h in
    record { same = b.0; to = is_to-same x.to (moves_to m) b.1 }

module _ (r : Rules) (w : Space) (reached : IsReached r w) (p : Pool) (out : List (List ℕ)) (shows : Shows r w p out) (k : ℕ) (o : Id)
    (ok : MayStand r w (record { at = k; event = Landed o })) (managed : 16 ≤ o.kind) (x : Travel) (f : find (is_travel o) (w.places k).travels ≡ Some x)
    (to : x.to ≡ (w.places k).here) where
  abbrev e : Entry
  e = record { at = k; event = Landed o }

  pending_move : IsAmong (MovesTo x) p.pending
  pending_move =
      let has : HasMove r w x = find-all (HasMove r w) (is_travel o) (w.places k).travels x (reached.towards.places k ok.place) f in
      among (MovesTo x) (moves_it x) (moves_here x) p.pending (omega (arith, has, shows.pending (moving x)))

  abbrev m : Id
  m = target_in pending_move.message

  o_m : same_object o m ≡ true
  o_m = same-trans o x.object m (find-passes (is_travel o) (w.places k).travels x f) pending_move.fact.same

  abbrev next : Pool
  next = carried p m k

  shows_next : Shows r (step r w e) next (out ++ [])
  shows_next =
      calm r w reached p out shows e ok tt next refl refl tt (λ g. refl)
      (landed_here r p k m o o_m (w.places k) x f (shows.places k ok.place))
      (λ j h other. landed_there r p k m o o_m j (w.places j) (shows.places j h) (λ t any.
      let apart = stands_apart r w reached.whole o managed k ok.place x f j h t any in
      sym (same-right o m o_m t) ∙ apart))
      (same_road r w reached p out shows e ok tt)
      (record {
        alike = λ a b h. (
          (shows.alike.alike a b h).0,
          (let s = same-left a b h m in let l = (shows.alike.alike a b h).1 in rw (s, l) refl),
        );
      })

  is_moved : IsMoved o p next
  is_moved = record {
    message = pending_move.message;
    before = pending_move.before;
    behind = pending_move.behind;
    to = k;
    pending = pending_move.split;
    target = o_m;
    move = pending_move.fact.to ∙ ap (λ v. Some v) (to ∙ (reached.sound k).here);
    next = refl;
  }

  landed_step : (q : Pool) × Goes r p (Landed o) q × Shows r (step r w e) q (out ++ [])
  landed_step = (next, is_moved, shows_next)

-- ---- every entry

abbrev GoesOn : Rules → Space → Pool → List (List ℕ) → ℕ → Event → Type 0
GoesOn r w p out k e = (q : Pool) × Goes r p e q × Shows r (step r w (record { at = k; event = e })) q (out ++ prints_by e)

module _ (r : Rules) (blind : IsBlind r) (laws : KeepsActLaws r) (w : Space) (reached : IsReached r w) (p : Pool) (out : List (List ℕ)) (shows : Shows r w p out) where
  still_on : (k : ℕ) (e : Event) → IsStill e → IsQuietly e → Goes r p e p → DoesNotFail e
      → ((f : Message → ℕ) → sum_by f (ends (w.places k) e) ≡ sum_by f (brings r (w.places k) e))
      → MayStand r w (record { at = k; event = e }) → GoesOn r w p out k e
  still_on k e still quietly goes fine bag ok =
      (p, goes, stays r w reached p out shows (record { at = k; event = e }) ok fine quietly bag (shows_still r p k (w.places k) e still (shows.places k ok.place)))

  goes_on : (k : ℕ) (e : Event) → MayStand r w (record { at = k; event = e }) → DoesNotFail e → GoesOn r w p out k e
  goes_on k (Line a bytes) ok fine = (fed p bytes, refl, line_step r w reached p out shows k a bytes ok)
  goes_on k (Fire a) ok fine =
      (p, refl, stays r w reached p out shows _ ok fine tt (λ f. refl) (shows_fire r p k (w.places k) a ok.allowed.row ok.allowed.turn (shows.places k ok.place)))
  goes_on k (Split o log) ok fine = still_on k (Split o log) tt tt refl tt (λ f. refl) ok
  goes_on k (Born o state) ok fine =
      (p, refl, stays r w reached p out shows _ ok fine tt (λ f. refl) (shows_born r p k (w.places k) o state (reached.sound k).here ok.allowed.row (shows.places k ok.place)))
  goes_on k (Done a true) ok fine = absurd fine
  goes_on k (Done a false) ok fine =
      let row = ok.allowed.row in
      done_step r blind laws w reached p out shows k a ok (row.0).act (row.0).target (row.0).fired (row.0).stands row.1
  goes_on k (Sent a) ok fine = still_on k (Sent a) tt tt refl tt (λ f. refl) ok
  goes_on k (Print bytes) ok fine = still_on k (Print bytes) tt tt refl tt (λ f. refl) ok
  goes_on k (Merge o log) ok fine = still_on k (Merge o log) tt tt refl tt (λ f. refl) ok
  goes_on k (Up o log) ok fine = still_on k (Up o log) tt tt refl tt (λ f. refl) ok
  goes_on k (Asked o) ok fine = still_on k (Asked o) tt tt refl tt (λ f. refl) ok
  goes_on k (Given o log) ok fine = still_on k (Given o log) tt tt refl tt (λ f. refl) ok
  goes_on k (Count o count why) ok fine = still_on k (Count o count why) tt tt refl tt (λ f. refl) ok
  goes_on k (Freed o) ok fine =
      let row = ok.allowed.row in (
        p,
        refl,
        stays r w reached p out shows _ ok fine tt (λ f. refl)
            (shows_freed r p k (w.places k) o row (once r w reached p out shows _ ok fine o (row.0).0) (shows.places k ok.place)),
      )
  goes_on k (Left o to) ok fine =
      let row = ok.allowed.row in (
        p,
        refl,
        stays r w reached p out shows _ ok fine tt (λ f. refl)
            (shows_left r p k (w.places k) o to row ok.allowed.turn (once r w reached p out shows _ ok fine o (row.0).0) (shows.places k ok.place)),
      )
  goes_on k (Landed o) ok fine =
      let row = ok.allowed.row in
      landed_step r w reached p out shows k o ok (row.0).0 (row.1).0 (row.1).1 (row.1).2
  goes_on k (Looked o hit) ok fine = still_on k (Looked o hit) tt tt refl tt (λ f. refl) ok
  goes_on k (Mail kind) ok fine = still_on k (Mail kind) tt tt refl tt (λ f. refl) ok
  goes_on k (Out to bytes) ok fine =
      (p, refl, stays r w reached p out shows _ ok fine tt (λ f. refl) (shows_out r p k (w.places k) to bytes (shows.places k ok.place)))
  goes_on k (In bytes) ok fine = (
    p,
    refl,
    stays r w reached p out shows _ ok fine tt (λ f. refl)
        (shows_in r p k (w.places k) bytes
        (arrived (λ f. AllByRecursion (HasTravel p) (travels_in (r.parcel_of f.1))) w.road ((k, bytes)) shows.road (ok.road).0)
        (shows.places k ok.place)),
  )

-- ---- whole runs

fine_event : (e : Event) → cond {A = ℕ} (is_failed e) 1 0 ≡ 0 → DoesNotFail e
fine_event (Done a true) h = absurd (omega (arith, h))
fine_event (Done a false) h = tt
fine_event _ h = tt

fine_first : (e : Entry) (es : List Entry) → NoneFails (e ∷ es) → DoesNotFail e.event
fine_first e es h = fine_event e.event (omega (arith, h, sum_by-cons (λ x. cond {A = ℕ} (is_failed x.event) 1 0) e es))

fine_rest : (e : Entry) (es : List Entry) → NoneFails (e ∷ es) → NoneFails es
fine_rest e es h = omega (arith, h, sum_by-cons (λ x. cond {A = ℕ} (is_failed x.event) 1 0) e es)

pub reduced : (r : Rules) → HasGrammar r → KeepsActLaws r → IsBlind r → (w : Space) → IsReached r w → (p : Pool) (out : List (List ℕ)) (es : List Entry)
    → Shows r w p out → IsLegalFrom r w es → NoneFails es → IsPlainRun r w p out es
reduced r grammar laws blind w reached p out [] shows legal fine = record {
  pool = p;
  runs = refl;
  shows = subst (Shows r w p) (sym (append-nil out)) shows;
}
reduced r grammar laws blind w reached p out (e ∷ es) shows legal fine =
    let one = goes_on r blind laws w reached p out shows e.at e.event legal.0 (fine_first e es fine) in
    let rest = reduced r grammar laws blind (step r w e) (reached_step r grammar laws w reached e legal.0 (fine_first e es fine)) one.0 (out ++ prints_by e.event) es one.2 legal.1 (fine_rest e es fine) in
    record {
      pool = rest.pool;
      runs = (one.0, one.1, rest.runs);
      shows = subst (Shows r (run r (step r w e) es) rest.pool) (append_assoc out (prints_by e.event) (prints_of es)) rest.shows;
    }

reached_run : (r : Rules) → HasGrammar r → KeepsActLaws r → (w : Space) → IsReached r w → (es : List Entry) → IsLegalFrom r w es → NoneFails es
    → IsReached r (run r w es)
reached_run r grammar laws w reached [] legal fine = reached
reached_run r grammar laws w reached (e ∷ es) legal fine =
    reached_run r grammar laws (step r w e) (reached_step r grammar laws w reached e legal.0 (fine_first e es fine)) es legal.1 (fine_rest e es fine)

-- ---- at boot

-- a root stands at its home, and the session at 0
abbrev IsAtHome : ℕ → Standing → Type 0
IsAtHome k x = (x.object.home ≡ k) × (x.object.kind ≡ 1 → k ≡ 0)

roots_home_at : (n k : ℕ) (b : Bool) → (k == 0) ≡ b
    → AllByRecursion (IsAtHome k) (cond b (roots_of_first n) [] ++ (root k 3 [] ∷ root k 5 [] ∷ root k 7 [] ∷ []))
roots_home_at n k true is =
    let z : k ≡ 0 = eqb-true k 0 is in
    ((sym z, λ h. z), ((sym z, λ h. z), ((sym z, λ h. z), ((refl, λ h. z), ((refl, λ h. z), ((refl, λ h. z), tt))))))
roots_home_at n k false is =
    ((refl, λ h. absurd (omega (arith, h))), ((refl, λ h. absurd (omega (arith, h))), ((refl, λ h. absurd (omega (arith, h))), tt)))

roots_home : (n k : ℕ) → AllByRecursion (IsAtHome k) (roots n k)
roots_home n k = roots_home_at n k (k == 0) refl

module _ (r : Rules) where
  first : Space
  first = start (roots r.localities)

  boot_reached : IsReached r (replayed r [])
  boot_reached = record {
    whole = start_whole r;
    sound = λ k. record {
      here = refl;
      home = all-map (IsAtHome k) (λ x. x.object.kind < 16 → x.object.home ≡ k) (λ x h low. h.0) (roots r.localities k) (roots_home r.localities k);
      console = all-map (IsAtHome k) (λ x. x.object.kind ≡ 1 → k ≡ 0) (λ x h. h.1) (roots r.localities k) (roots_home r.localities k);
      unprinted = λ h. refl;
      drawn = tt;
      distinct = tt;
      managed = tt;
      movers = tt;
    };
    carried = tt;
    towards = record { places = λ k h. tt; road = tt };
    slotted = start_slotted r;
  }

  boot_states : (k : ℕ) (o : Id) → list_any (is_standing o) (roots r.localities k) ≡ true → o.home ≡ k
  boot_states k o any =
      let x = any-all (IsAtHome k) (is_standing o) (roots r.localities k) (roots_home r.localities k) any in
      same_home o x.element.object x.passes ∙ x.fact.0

  pub boot_shows : Shows r (replayed r []) (boot_pool r) []
  boot_shows = record {
    pending = λ f. omega (arith, total-zero r.localities (λ k. mass_at f (boot (roots r.localities k) k)) (λ k h. refl));
    places = λ k h. record {
      stands = λ o any old. (ap (λ j. state_at (boot (roots r.localities j) j) o) (boot_states k o any), boot_states k o any);
      travels = tt;
      fired = tt;
      fresh = tt;
      unknown = λ o managed home late.
          ap state_in (find-none (is_standing o) (roots r.localities o.home)
          (no-any (is_standing o) (roots r.localities o.home) (roots_unmanaged r.localities o.home o managed)));
    };
    road = tt;
    alike = record {
      alike = λ a b h. (
        ap (λ j. state_at (boot (roots r.localities j) j) a) (same_home a b h)
            ∙ ap state_in (find-same a b (roots r.localities b.home) h),
        same_home a b h,
      );
    };
    printed = refl;
  }

pub none_front : (es later : List Entry) → NoneFails (es ++ later) → NoneFails es × NoneFails later
none_front es later h =
    let sums = sum_by-append (λ x. cond {A = ℕ} (is_failed x.event) 1 0) es later in (omega (arith, h, sums), omega (arith, h, sums))

pub legal_reduced : (r : Rules) (es later : List Entry) (p : Pool) (out : List (List ℕ)) → HasGrammar r → KeepsActLaws r → IsBlind r
    → IsLegal r (es ++ later) → NoneFails (es ++ later) → Shows r (replayed r es) p out → IsPlainRun r (replayed r es) p out later
legal_reduced r es later p out grammar laws blind legal fine shows =
    let none = none_front es later fine in
    reduced r grammar laws blind (replayed r es)
    (reached_run r grammar laws (replayed r []) (boot_reached r) es (legal_front r (start (roots r.localities)) es later legal) none.0)
    p out later shows (legal_rest r (start (roots r.localities)) es later legal) none.1
