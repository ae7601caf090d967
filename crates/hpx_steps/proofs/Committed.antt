-- A commit in work is done, or fails: its objects are made, its ids are halved, it ends, what is due is sent, and what nobody names is given up.
use Rattle.hpx_steps.proofs.Common.{Arrival, with_returns, Arrived, AreOf, Label, MatchOption, Steps, Suspend, Writes, inl, inr, mails, slice_get, up_of, ups, with_done_told, with_told, written, wrote, ◌⊎◌, Act, AllByRecursion, AreMade, AreWithin, Birth, Bool, Commits, Deals, Done, Due, Ends, Entry, Event, HasCredit, HasRightCredit, Id, IsBirth, IsFitDue, IsKept, IsLeftBy, Job, Lasts, List, Merge, MessageDue, None, Option, PrintDue, Remains, Return, Rules, Some, Standing, Stands, StandsHere, State, Step, Stock, Tables, Turn, Up, Waits, [], all_at, all_set, answered_by, ap, append-nil, append_assoc, arith, at_all, at_rest, bare, bare_act, bare_standing, bare_state, birth_of, births_of, cond, due_with, ends, false, find, find_passes, get_before, hand_ids, id_at, ids_named, ids_of, is_some, is_standing, length, length-map, map, may_merge, merged_in, name_of, named, named_act, objects_of, plain, records_of, refl, remove, rider_event, rider_events, rider_of, rules_of, set, splits_from, state_after, subst, suc, sym, target_of, true, waits_with, with_act, with_credit, with_due, with_left, with_mail, with_rider, with_riders, written_due, zero, ℕ, ◌++◌, ◌+◌, ◌<◌, ◌∙◌, ◌∷◌, ◌≡◌, ◌≤◌, Moved, CameWith, CameAlone, arrival_of}
use Rattle.hpx_steps.proofs.Tools.{all_among, find_more, get_set, right_log, single_found, single_set, some_log}
use Rattle.hpx_value.specs.Riders.{rider_at, rider_place}
use Rattle.hpx_value.specs.Values.{message_of}
use Rattle.hpx_value.specs.declared.outcome.Outcome.{Outcome}
use Rattle.hpx_steps.proofs.Made.{Drawn, made_so}
use Rattle.hpx_steps.proofs.Handled.{Writing, steps_append, written_append, due_steps, let_go, ups_steps, with_loose, writes_append, written_events}
use Rattle.hpx_steps.proofs.TurnOf.{turn_stands}
use Rattle.hpx_steps.proofs.Work.{births_steps, halved_from, splits_steps, with_births, with_hand}

-- ids that all have a credit, and those that have one among others
with_all : (ids : List Id) → AllByRecursion HasCredit ids → with_credit ids ≡ ids
with_all [] h = refl
with_all (id ∷ ids) h = ap (λ l. cond (is_some l) (id ∷ with_credit ids) (with_credit ids)) (some_log id.kind id.log h.0) ∙ ap (λ is. id ∷ is) (with_all ids h.1)

with_both : (ids more : List Id) → AllByRecursion HasCredit more → with_credit (with_credit ids ++ more) ≡ with_credit ids ++ more
with_both [] more h = with_all more h
with_both (id ∷ ids) more h = each (is_some id.log) refl (with_both ids more h)
  where
    each : (b : Bool) → is_some id.log ≡ b → with_credit (with_credit ids ++ more) ≡ with_credit ids ++ more
        → with_credit (cond b (id ∷ with_credit ids) (with_credit ids) ++ more) ≡ cond b (id ∷ with_credit ids) (with_credit ids) ++ more
    each true t rest = rw t (ap (λ is. id ∷ is) rest)
    each false t rest = rest

-- what an action left that failed is sent and given up, its rider with it
pub failed_steps : (r : Rules) (s : Turn) (due : List Due) (riders loose : List Id) → s.fresh ≡ [] → AllByRecursion HasCredit loose
    → (l : Option Event) × Writing r (record s { due = due; loose = with_credit riders ++ loose }) (written_due s.tables.here s.tables.serial due ++ ups (with_credit riders ++ loose))
    (record s { due = []; loose = []; tables = with_left due (with_credit riders ++ loose) s.tables; last = l })
failed_steps r s due riders loose fresh credit =
    let all : List Id = with_credit riders ++ loose in
    let one = due_steps r (record s { loose = all }) due fresh in
    let m : Turn = record s { due = []; tables = with_due due s.tables; last = one.0 } in
    let two = ups_steps r m all refl fresh in (
      two.0,
      writes_append r (record s { due = due; loose = all }) (record m { loose = all }) (record s { due = []; loose = []; tables = with_left due all s.tables; last = two.0 })
          (written_due s.tables.here s.tables.serial due) (ups all) one.1 (subst (λ ids. Writing r (with_loose ids m) (ups all) (let_go all two.0 m)) (with_both riders loose credit) two.1),
    )

-- a rider is merged, or given up
rider_steps : (r : Rules) (s : Turn) (j : ℕ) (x : Standing) (id : Id) (rest : List Id) (log : Option ℕ) → s.due ≡ [] → s.fresh ≡ [] → slice_get s.tables.objects j ≡ Some x → id.log ≡ log
    → (l : Option Event) × Writing r (record s { loose = cond (is_some log) (id ∷ []) [] ++ rest }) (rider_event s.tables.profile.credit_log x.state.ids id log)
    (record s { loose = rest; tables = with_rider j x id log s.tables; last = l })
rider_steps r s j x id rest None due fresh stands has = (s.last, refl)
rider_steps r s j x id rest (Some log) due fresh stands has = each (may_merge s.tables.profile.credit_log id log x.state.ids) refl
  where
    each : (b : Bool) → may_merge s.tables.profile.credit_log id log x.state.ids ≡ b
        → (l : Option Event) × Writing r (record s { loose = id ∷ rest }) (cond b (Merge (bare id) log) (Up (bare id) log) ∷ [])
        (record s { loose = rest; tables = cond b (record s.tables { objects = set s.tables.objects j (merged_in id log x) }) (with_mail id.home (Return id) s.tables); last = l })
    each true may =
        let now : Turn = wrote (Merge (bare id) log) (record s { loose = rest; tables = record s.tables { objects = set s.tables.objects j (merged_in id log x) } }) in (
          Some (Merge (bare id) log),
          (now, record { calm = record { due = due; fresh = fresh }; id = id; rest = rest; first = refl; object = refl; has = has; j = j; x = x; stands = stands; may = may; now = refl }, refl),
        )
    each false may =
        let now : Turn = wrote (Up (bare id) log) (mails id.home (Return id) (record s { loose = rest })) in (
          Some (Up (bare id) log),
          (now, inl (record { calm = record { due = due; fresh = fresh }; id = id; rest = rest; first = refl; object = refl; has = has; now = refl }), refl),
        )

-- that of an action, if it has one
riders_steps : (r : Rules) (s : Turn) (j : ℕ) (x : Standing) (ids rest : List Id) (place : Option ℕ) → s.due ≡ [] → s.fresh ≡ [] → slice_get s.tables.objects j ≡ Some x
    → (l : Option Event) × Writing r (record s { loose = with_credit (rider_at ids place) ++ rest }) (rider_events s.tables.profile.credit_log x.state.ids (rider_at ids place))
    (record s { loose = rest; tables = with_riders j x (rider_at ids place) s.tables; last = l })
riders_steps r s j x ids rest None due fresh stands = (s.last, refl)
riders_steps r s j x ids rest (Some p) due fresh stands = rider_steps r s j x (id_at ids (suc p)) rest (id_at ids (suc p)).log due fresh stands refl

-- what is due changes no object
pub due_rest : (due : List Due) (t : Tables) → with_due due t ≡ record t { serial = (with_due due t).serial; accepted = (with_due due t).accepted; desk = (with_due due t).desk; outgoing = (with_due due t).outgoing; queued = (with_due due t).queued; records = (with_due due t).records }
due_rest [] t = refl
due_rest (MessageDue m ∷ due) t = due_rest due (with_act (named_act t.here (t.serial + 1) m) (record t { serial = t.serial + 1 }))
due_rest (PrintDue bytes ∷ due) t = due_rest due t

-- ids are given up, the first of which tell the homes of objects
told_steps : (r : Rules) (s : Turn) (told ids : List Id) → s.due ≡ [] → s.fresh ≡ [] → AllByRecursion HasCredit ids → AreOf told ids
    → (l : Option Event) × Writing r (record s { loose = ids; untold = told }) (ups ids) (record s { loose = []; untold = []; tables = with_told told ids s.tables; last = l })
told_steps r s [] ids due fresh credit of =
    let k = ups_steps r (record s { untold = [] }) ids due fresh in
    (k.0, subst (λ is. Writing r (record s { loose = is; untold = [] }) (ups ids) (record s { loose = []; untold = []; tables = with_returns ids s.tables; last = k.0 })) (with_all ids credit) k.1)
told_steps r s (o ∷ told) [] due fresh credit of = absurd of
told_steps r s (o ∷ told) (id ∷ ids) due fresh credit of =
    each id.log refl credit.0 (λ t e. told_steps r (record s { tables = t; last = e }) told ids due fresh credit.1 of.1)
  where
    each : (lg : Option ℕ) → id.log ≡ lg → MatchOption lg ⊥ (λ x. 16 ≤ id.kind)
        → ((t : Tables) (e : Option Event) → (l : Option Event) × Writing r (record s { loose = ids; untold = told; tables = t; last = e }) (ups ids) (record s { loose = []; untold = []; tables = with_told told ids t; last = l }))
        → (l : Option Event) × Writing r (record s { loose = id ∷ ids; untold = o ∷ told }) (up_of id lg ++ ups ids)
        (record s { loose = []; untold = []; tables = with_told told ids (with_mail id.home (Arrived id s.tables.here) s.tables); last = l })
    each None is k rest = absurd k
    each (Some log) is k rest =
        let now : Turn = wrote (Up (bare id) log) (mails id.home (Arrived id s.tables.here) (record s { loose = ids; untold = told })) in
        let more = rest (with_mail id.home (Arrived id s.tables.here) s.tables) (Some (Up (bare id) log)) in (
          more.0,
          (
            now,
            inr (record { calm = record { due = due; fresh = fresh }; id = id; rest = ids; more = told; first = refl; object = refl; has = is; untold = ap (λ y. y ∷ told) of.0; now = refl }),
            more.1,
          ),
        )

-- what an action left is sent, its rider is merged or given up, and the rest is given up
pub left_steps : (r : Rules) (s : Turn) (act : Act) (j : ℕ) (x : Standing) (due : List Due) (loose : List Id) → s.fresh ≡ [] → AllByRecursion HasCredit loose → AreOf s.untold loose
    → slice_get s.tables.objects j ≡ Some x
    → (l : Option Event) × Writing r (record s { due = due; loose = with_credit (rider_of act) ++ loose })
    (written_due s.tables.here s.tables.serial due ++ (rider_events s.tables.profile.credit_log x.state.ids (rider_of act) ++ ups loose))
    (record s { due = []; loose = []; untold = []; tables = with_done_told s.untold j x due (rider_of act) loose s.tables; last = l })
left_steps r s act j x due loose fresh credit of stands =
    let all : List Id = with_credit (rider_of act) ++ loose in
    let one = due_steps r (record s { loose = all }) due fresh in
    let m : Turn = record s { due = []; tables = with_due due s.tables; last = one.0 } in
    let there : slice_get m.tables.objects j ≡ Some x = ap (λ (t : Tables). slice_get t.objects j) (due_rest due s.tables) ∙ stands in
    let two = riders_steps r m j x act.ids loose (rider_place (message_of act)) refl fresh there in
    let n : Turn = record m { tables = with_riders j x (rider_of act) m.tables; last = two.0 } in
    let three = told_steps r n s.untold loose refl fresh credit of in
    let end : Turn = record s { due = []; loose = []; untold = []; tables = with_done_told s.untold j x due (rider_of act) loose s.tables; last = three.0 } in
    let most : (with_due due s.tables).profile.credit_log ≡ s.tables.profile.credit_log = ap (λ (t : Tables). t.profile.credit_log) (due_rest due s.tables) in (
      three.0,
      writes_append r (record s { due = due; loose = all }) (record m { loose = all }) end (written_due s.tables.here s.tables.serial due)
          (rider_events s.tables.profile.credit_log x.state.ids (rider_of act) ++ ups loose) one.1
          (writes_append r (record m { loose = all }) (record n { loose = loose }) end (rider_events s.tables.profile.credit_log x.state.ids (rider_of act)) (ups loose)
          (subst (λ k. Writing r (record m { loose = all }) (rider_events k x.state.ids (rider_of act)) (record n { loose = loose })) most two.1)
          three.1),
    )

-- ---- what a commit leaves

pub all_right : (ids : List Id) → AllByRecursion HasCredit ids → AllByRecursion HasRightCredit ids
all_right [] h = tt
all_right (id ∷ ids) h = (right_log id.kind id.log h.0, all_right ids h.1)

-- it ends, under the name of its action
pub ends_so : (s : Turn) (w : Waits) (rest : List Waits) (j : ℕ) (x : Standing) (left : Remains) (moved : Moved) → s.due ≡ [] → s.working ≡ w ∷ rest → w.asked ≡ [] → slice_get s.tables.objects j ≡ Some x
    → find (is_standing (target_of w.job.action)) s.tables.objects ≡ Some x → IsKept (record { object = x.object; state = left.state }) → (x.object.kind ≡ 7 → left.state ≡ x.state)
    → AllByRecursion HasRightCredit left.state.ids → AllByRecursion IsFitDue left.due → AllByRecursion HasCredit left.loose → Deals w.hand left.state left.due left.loose
    → CameWith s w.job.action moved ⊎ CameAlone s w.job.action moved → Ends s (name_of w.job.action) w rest j x left moved
ends_so s w rest j x left moved due works lacks stands found kept plain credit fits given_up deals told = grind (arith, all_right)

-- it came so, or not, in another turn too
pub came_so : (s s' : Turn) (act : Act) (moved : Moved) → s'.tables.came ≡ s.tables.came → s'.untold ≡ s.untold → CameWith s act moved ⊎ CameAlone s act moved → CameWith s' act moved ⊎ CameAlone s' act moved
came_so s s' act moved same untold (inl k) = inl (record {
  moves = k.moves;
  i = k.i;
  there = subst (λ (c : List Arrival). slice_get c k.i ≡ Some (arrival_of act)) (sym same) k.there;
  came = k.came ∙ ap (λ (c : List Arrival). remove c k.i) (sym same);
  untold = k.untold ∙ ap (λ os. os ++ bare (target_of act) ∷ []) (sym untold);
})
came_so s s' act moved same untold (inr k) = inr (record {
  none = subst (λ (c : List Arrival). act.code ≡ 1 → (i : ℕ) → slice_get c i ≡ Some (arrival_of act) → ⊥) (sym same) k.none;
  came = k.came ∙ sym same;
  untold = k.untold ∙ sym untold;
})

-- ---- a commit with this in its hand, and these places named there

module _ (r : Rules) (s : Turn) (w : Waits) (rest : List Waits) (front later back : List Id) (places : List ℕ) (due : s.due ≡ []) (fresh : s.fresh ≡ []) (loose : s.loose ≡ [])
    (lacks : w.asked ≡ []) (none : AllByRecursion (λ (id : Id). id.log ≡ None) later) (many : length later ≡ length w.outcome.makes)
    (long : length (ids_named w) ≤ length front) (fit : AllByRecursion IsBirth (map birth_of w.outcome.makes)) where
  abbrev ids : List Id
  ids = ids_of s.tables.here s.tables.births s.tables.profile.credit_log (map birth_of w.outcome.makes)

  -- the hand, once all objects are made
  abbrev pub full_hand : List Id
  full_hand = front ++ (ids_of s.tables.here s.tables.births s.tables.profile.credit_log (map birth_of w.outcome.makes) ++ back)

  abbrev stock : Stock
  stock = record { hand = full_hand; places = places }

  -- and once all ids are halved
  abbrev pub halved_hand : List Id
  halved_hand = (halved_from (length full_hand) 0 stock).hand

  abbrev born : Turn
  born = with_births w rest front back w.outcome.makes None s

  -- before its Done
  abbrev pub ready : Option Event → Turn
  ready l = record (with_births w rest front back w.outcome.makes l s) { working = record w { hand = halved_hand } ∷ rest }

  abbrev pub events : List Event
  events = births_of s.tables.here s.tables.births (map birth_of w.outcome.makes) ++ splits_from 0 full_hand places

  pub ready_steps : AreWithin full_hand places → ((q : ℕ) → q < length full_hand → Lasts (id_at full_hand q) (named places q))
      → (l : Option Event) × Writing r (with_hand w rest (front ++ (later ++ back)) s) events (ready l)
  ready_steps within lasts =
      let one = births_steps r s w rest front later back [] w.outcome.makes due lacks refl (ap (λ (xs : List Id). length xs) (sym fresh)) many none long fit in
      let m : Turn = with_births w rest front back w.outcome.makes one.0 s in
      let two = splits_steps r w rest full_hand places lacks m (length full_hand) 0 stock due (omega arith) within (omega arith) (λ q le lt. (refl, refl)) lasts in
      (two.0, writes_append r (with_hand w rest (front ++ (later ++ back)) s) m (ready two.0) (births_of s.tables.here s.tables.births (map birth_of w.outcome.makes)) (splits_from 0 full_hand places) one.1 two.1)

  -- the whole commit, where its object is x, at j
  pub done_steps : (j : ℕ) (x : Standing) (left : Remains) (moved : Moved) → CameWith s w.job.action moved ⊎ CameAlone s w.job.action moved → AreOf moved.untold left.loose → AreWithin full_hand places → ((q : ℕ) → q < length full_hand → Lasts (id_at full_hand q) (named places q))
      → slice_get s.tables.objects j ≡ Some x → find (is_standing (target_of w.job.action)) s.tables.objects ≡ Some x → AllByRecursion (Drawn s.tables.here s.tables.births) s.tables.objects
      → IsLeftBy r s.tables.here w.job w.outcome x halved_hand (map bare (ids_of s.tables.here s.tables.births s.tables.profile.credit_log (map birth_of w.outcome.makes))) left
      → (l : Option Event) × Writing r (with_hand w rest (front ++ (later ++ back)) s) (events ++ (Done (name_of w.job.action) false ∷ (written_due s.tables.here s.tables.serial left.due ++ (rider_events s.tables.profile.credit_log left.state.ids (rider_of w.job.action) ++ ups left.loose))))
      (record (ends j (record w { hand = halved_hand }) rest x left moved (ready l)) {
        due = [];
        loose = [];
        untold = [];
        tables = with_done_told moved.untold j (record { object = x.object; state = left.state }) left.due (rider_of w.job.action) left.loose (ends j (record w { hand = halved_hand }) rest x left moved (ready l)).tables;
        last = l;
      })
  done_steps j x left moved told of within lasts stands found drawn by =
      let born : List Id = map bare (ids_of s.tables.here s.tables.births s.tables.profile.credit_log (map birth_of w.outcome.makes)) in
      let is_fresh : born ≡ s.fresh ++ born = ap (λ os. os ++ born) (sym fresh) in
      let new : List Standing = objects_of s.tables.here s.tables.births (map birth_of w.outcome.makes) in
      let more : List Event = written_due s.tables.here s.tables.serial left.due ++ (rider_events s.tables.profile.credit_log left.state.ids (rider_of w.job.action) ++ ups left.loose) in
      let then_is : Standing = record { object = x.object; state = left.state } in
      let one = ready_steps within lasts in
      let d : Turn = wrote (Done (name_of w.job.action) false) (ends j (record w { hand = halved_hand }) rest x left moved (ready one.0)) in
      let two = left_steps r (record d { due = []; loose = [] }) w.job.action j then_is left.due left.loose refl by.given_up of
      (get_set (s.tables.objects ++ new) j x then_is (get_before s.tables.objects new j x stands)) in
      let end : Turn = record d { due = []; loose = []; untold = []; tables = with_done_told moved.untold j then_is left.due (rider_of w.job.action) left.loose d.tables; last = two.0 } in
      let start : d ≡ record d { due = left.due; loose = with_credit (rider_of w.job.action) ++ left.loose } = ap (λ is. record d { loose = is ++ (with_credit (rider_of w.job.action) ++ left.loose) }) loose in
      let done : Commits r (ready one.0) (name_of w.job.action) d = record {
        w = record w { hand = halved_hand };
        rest = rest;
        j = j;
        x = x;
        left = left;
        moved = moved;
        ending = ends_so (ready one.0) (record w { hand = halved_hand }) rest j x left moved due refl lacks (get_before s.tables.objects new j x stands)
            (find_more (is_standing (target_of w.job.action)) s.tables.objects new x found) by.kept by.plain by.credit by.fits by.given_up by.deals (came_so s (ready one.0) w.job.action moved refl refl told);
        right = by.right;
        made = subst (λ os. AreMade w.outcome.makes os (map bare_standing (s.tables.objects ++ new))) is_fresh
            (made_so s.tables.here s.tables.births s.tables.profile.credit_log w.outcome.makes s.tables.objects fit drawn);
        says = by.says ∙ ap (λ os. state_after x.state (plain (bare_act w.job.action)) os w.outcome) is_fresh;
        leaves = by.leaves ∙ ap (λ os. due_with x.state (plain (bare_act w.job.action)) os w.outcome) is_fresh;
        now = refl;
      } in (
        two.0,
        writes_append r (with_hand w rest (front ++ (later ++ back)) s) (ready one.0) end events (Done (name_of w.job.action) false ∷ more) one.1
            (d, done, subst (λ z. Writing r z more end) (sym start) two.1),
      )

-- ---- a job commits, from rest to rest

set_twice : (xs ys : List Standing) (j : ℕ) (x y z : Standing) → slice_get xs j ≡ Some x → set (set xs j y ++ ys) j z ≡ set (xs ++ ys) j z
set_twice [] ys j x y z h = cc
set_twice (v ∷ xs) ys zero x y z h = refl
set_twice (v ∷ xs) ys (suc j) x y z h = ap (λ os. v ∷ os) (set_twice xs ys j x y z h)

pub begins : (r : Rules) (t : Tables) (i j : ℕ) (job : Job) (out : Outcome) (x : Standing) → slice_get t.running i ≡ Some job.action → slice_get t.objects j ≡ Some x
    → find (is_standing (target_of job.action)) t.objects ≡ Some x → job.at ≡ t.here → job.kind ≡ x.object.kind → job.state ≡ x.state → (t.localities ≤ 64) × (job.at < t.localities)
    → (later : List Id) → AllByRecursion (λ (id : Id). id.log ≡ None) later → (places : List ℕ)
    → Step r (at_rest t) Suspend (record (at_rest (record t { running = remove t.running i; objects = set t.objects j (record { object = x.object; state = bare_state x.state }) }))
    { working = waits_with job out t.localities [] (record { hand = hand_ids job.state (plain job.action) later; places = places }) ∷ [] })
begins r t i j job out x runs stands found here kind state few later none places = grind arith

module _ (act_of : ℕ → ℕ → ℕ → State → Act → Outcome) (t : Tables) (entries : List Entry) (h : Stands act_of t entries) (i j : ℕ) (job : Job) (out : Outcome) (x : Standing)
    (runs : slice_get t.running i ≡ Some job.action) (stands : slice_get t.objects j ≡ Some x) (found : find (is_standing (target_of job.action)) t.objects ≡ Some x)
    (at : job.at ≡ t.here) (kind : job.kind ≡ x.object.kind) (state : job.state ≡ x.state) (few : (t.localities ≤ 64) × (job.at < t.localities))
    (places : List ℕ) (fit : AllByRecursion IsBirth (map birth_of out.makes)) where
  abbrev r : Rules
  r = rules_of act_of t.localities t.profile

  -- the ids of what it makes
  abbrev made : List Id
  made = ids_of t.here t.births t.profile.credit_log (map birth_of out.makes)

  abbrev own : List Id
  own = job.state.ids ++ (plain job.action).ids

  abbrev later : List Id
  later = map bare made

  -- its hand, with those of what it makes
  abbrev pub hand : List Id
  hand = (job.state.ids ++ (plain job.action).ids) ++ (ids_of t.here t.births t.profile.credit_log (map birth_of out.makes) ++ [])

  abbrev pub cut : List Id
  cut = (halved_from (length hand) 0 (record { hand = hand; places = places })).hand

  abbrev lent : Standing
  lent = record { object = x.object; state = bare_state x.state }

  -- it is in work
  abbrev w : Waits
  w = waits_with job out t.localities [] (record { hand = hand_ids job.state (plain job.action) later; places = places })

  abbrev begun : Turn
  begun = record (at_rest (record t { running = remove t.running i; objects = set t.objects j lent })) { working = w ∷ [] }

  hand_is : hand_ids job.state (plain job.action) later ≡ own ++ (later ++ [])
  hand_is = sym (append_assoc job.state.ids (plain job.action).ids later) ∙ ap (λ ids. own ++ ids) (sym (append-nil later))

  -- where it leads, with these names of moves with which objects came, where the homes of these objects are told
  abbrev pub committed_so : List Arrival → List Id → Remains → Tables
  committed_so came told left = with_done_told told j (record { object = x.object; state = left.state }) left.due (rider_of job.action) left.loose (record t {
    running = remove t.running i;
    came = came;
    births = t.births + length out.makes;
    records = t.records ++ records_of t.here t.births t.profile.credit_log (map birth_of out.makes);
    objects = set (t.objects ++ objects_of t.here t.births (map birth_of out.makes)) j (record { object = x.object; state = left.state });
    answered = t.answered + answered_by (Some job.action);
  })

  -- what is known then of the objects that came
  abbrev pub moved_so : List Arrival → List Id → Moved
  moved_so came told = record { came = came; untold = told }

  -- a MOVE with which its object came is noted, or it is none
  abbrev pub Noted : List Arrival → List Id → Type 0
  Noted came told = CameWith (at_rest t) job.action (record { came = came; untold = told }) ⊎ CameAlone (at_rest t) job.action (record { came = came; untold = told })

  pub told_stands : (came : List Arrival) (told : List Id) → Noted came told → (left : Remains) → AreOf told left.loose → AreWithin hand places
      → ((q : ℕ) → q < length hand → Lasts (id_at hand q) (named places q))
      → IsLeftBy r t.here job out (record { object = x.object; state = bare_state x.state }) cut (map bare made) left
      → Stands act_of (committed_so came told left) (entries ++ at_all t.here (births_of t.here t.births (map birth_of out.makes)
      ++ (splits_from 0 hand places ++ (Done (name_of job.action) false ∷ (written_due t.here t.serial left.due
      ++ (rider_events t.profile.credit_log left.state.ids (rider_of job.action) ++ ups left.loose))))))
  told_stands came told noted left of within lasts by =
      let s : Turn = record begun { working = [] } in
      let drawn : AllByRecursion (Drawn t.here t.births) t.objects = all_among (Drawn t.here t.births) t.objects (λ y m. (h.tidy (StandsHere y) m).1) in
      let more = done_steps r s w [] own later [] places refl refl refl refl (all_none_log made) (omega (arith, length-map made bare, made_long t.here t.births t.profile.credit_log (map birth_of out.makes), length-map out.makes birth_of))
      (omega arith) fit j lent left (moved_so came told) (came_so (at_rest t) s job.action (moved_so came told) refl refl noted) of within lasts (get_set t.objects j x lent stands)
      (single_found (set t.objects j lent) j lent (target_of job.action) (single_set t.objects j x lent stands refl h.places.single) (get_set t.objects j x lent stands)
      (find_passes (is_standing (target_of job.action)) t.objects x found))
      (all_set (Drawn t.here t.births) t.objects j lent drawn (all_at (Drawn t.here t.births) t.objects j x drawn stands)) by in
      let last : List Event = written_due t.here t.serial left.due ++ (rider_events t.profile.credit_log left.state.ids (rider_of job.action) ++ ups left.loose) in
      let events : List Event = (births_of t.here t.births (map birth_of out.makes) ++ splits_from 0 hand places) ++ (Done (name_of job.action) false ∷ last) in
      let ends : Turn = record (at_rest (committed_so came told left)) { last = more.0 } in
      let objects : set (set t.objects j lent ++ objects_of t.here t.births (map birth_of out.makes)) j (record { object = x.object; state = left.state })
      ≡ set (t.objects ++ objects_of t.here t.births (map birth_of out.makes)) j (record { object = x.object; state = left.state }) =
      set_twice t.objects (objects_of t.here t.births (map birth_of out.makes)) j x lent (record { object = x.object; state = left.state }) stands in
      let work : Writing r begun events ends =
      subst (λ z. Writing r z events ends) (ap (λ ids. record s { working = record w { hand = ids } ∷ [] }) (sym hand_is)) (subst (λ os. Writing r (with_hand w [] (own ++ (later ++ [])) s) events
      (record (at_rest (with_done_told told j (record { object = x.object; state = left.state }) left.due (rider_of job.action) left.loose (record t {
        running = remove t.running i;
        came = came;
        births = t.births + length out.makes;
        records = t.records ++ records_of t.here t.births t.profile.credit_log (map birth_of out.makes);
        objects = os;
        answered = t.answered + answered_by (Some job.action);
      }))) { last = more.0 })) objects more.1) in
      subst (λ es. Stands act_of (committed_so came told left) (entries ++ at_all t.here es))
      (written_events events ∙ append_assoc (births_of t.here t.births (map birth_of out.makes)) (splits_from 0 hand places) (Done (name_of job.action) false ∷ last))
      (turn_stands act_of t (committed_so came told left) entries (Suspend ∷ map (λ e. Writes e) events) more.0 h (
        begun,
        begins r t i j job out x runs stands found at kind state few later (all_none_log made) places,
        work,
      ))
    where
      all_none_log : (ids : List Id) → AllByRecursion (λ (id : Id). id.log ≡ None) (map bare ids)
      all_none_log [] = tt
      all_none_log (id ∷ ids) = (refl, all_none_log ids)

      made_long : (here n log : ℕ) (xs : List Birth) → length (ids_of here n log xs) ≡ length xs
      made_long here n log [] = refl
      made_long here n log (y ∷ ys) = ap (λ k. suc k) (made_long here (n + 1) log ys)
