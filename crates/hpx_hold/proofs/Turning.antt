-- Turns at home, one after another: what they write, and why one is refused.
use Rattle.std.specs.Prelude.{Result, Ok, Err, IfErr, Some, None, ◌⊎◌, ◌-◌}
use Rattle.std.proofs.Common.{ℕ, List, [], ◌∷◌, ◌++◌, ◌≡◌, ◌<◌, refl, sym, ap, ◌∙◌, subst, inl, inr, arith, length, append-nil, append_assoc}
use Rattle.std.specs.List.{slice_get, AllByRecursion}
use Rattle.std.specs.Result.{IsErrAnd}
use Rattle.hpx_value.specs.Ids.{bare}
use Rattle.hpx_value.specs.Riders.{plain}
use Rattle.hpx_value.specs.declared.acts.Acts.{Ghosts}
use Rattle.hpx_value.specs.declared.acts.Done.{Done}
use Rattle.hpx_value.specs.declared.acts.Job.{Job}
use Rattle.hpx_value.specs.declared.profile.Profile.{Profile}
use Rattle.hpx_journal.specs.Data.{Outcome}
use Rattle.hpx_journal.specs.Entries.{Rules, name_of, target_of}
use Rattle.hpx_journal.specs.Weights.{HasRoom}
use Rattle.hpx_journal.proofs.Alls.{all-append, all-map}
use Rattle.hpx_part.specs.Data.{Event, Entry, Fire, Left, Mail, Out, In}
use Rattle.hpx_part.specs.Parts.{at_all}
use Rattle.hpx_part.proofs.Keyed.{slice_get_less}
use Rattle.hpx_tables.specs.Splits.{asked_events}
use Rattle.hpx_tables.specs.Tables.{Tables}
use Rattle.hpx_steps.specs.Calls.{effects}
use Rattle.hpx_steps.specs.Rows.{kind_of}
use Rattle.hpx_node.specs.Asks.{splits_before, lacking}
use Rattle.hpx_node.specs.Changes.{Writes}
use Rattle.hpx_node.specs.Commits.{seen, committed}
use Rattle.hpx_node.specs.Handled.{Tends, HasNothingToTend}
use Rattle.hpx_node.specs.declared.parts.Finished.TheVariants.{Committed, Asking, NotRunning}
use Rattle.hpx_world.specs.declared.turns.Choice.TheVariants as choices
use Rattle.hpx_world.specs.declared.turns.Turned.{Turned}
use Rattle.hpx_world.specs.declared.turns.Turned.TheVariants as turned
use Rattle.hpx_world.specs.declared.turns.WorldFault.{WorldFault}
use Rattle.hpx_world.specs.declared.turns.WorldFault.TheVariants as faults
use Rattle.hpx_world.specs.Quiet.{IsStuck}
use Rattle.hpx_world.specs.Refusals.{Refused, RefusedWork, CanCome, CountsFaults}
use Rattle.hpx_world.specs.Sound.{Meaning, IsSound}
use Rattle.hpx_world.specs.Stages.{Stage}
use Rattle.hpx_world.specs.Steps.{DidWork}
use Rattle.hpx_world.specs.Turns.{DidFire, DidFinish, DidDesk}
use Rattle.hpx_world.proofs.Refused.{to_fire_same, to_tend_same}
use Rattle.hpx_world.proofs.Sound.{set_same, some_is}
use Rattle.hpx_world.proofs.Unfed.{unfed_le, fired_longer, finished_unfed, cleared_longer}
use Rattle.hpx_world.proofs.Worked.{fired_at}
use Rattle.hpx_hold.specs.Home.{HasNoFrame, StaysHome, GrowsAtHome, AtHome, DidAtHome, IsDoneAtHome, AreAtHome, GoesAtHome, RefusedAtHome}
use Rattle.hpx_hold.specs.Room.{TellsRoom}
use Rattle.hpx_hold.proofs.Written.{BeginNone, BeginsNone, committed_none, begins_none, dealt_none}

-- ---- what is written

pub home_none : (a b : List Entry) → b ≡ a → GrowsAtHome a b
home_none a b h = record { more = []; is = h ∙ sym (append-nil a); home = tt }

pub home_then : (a b c : List Entry) → GrowsAtHome a b → GrowsAtHome b c → GrowsAtHome a c
home_then a b c g h = record {
  more = g.more ++ h.more;
  is = h.is ∙ (ap (λ xs. xs ++ h.more) g.is ∙ append_assoc a g.more h.more);
  home = all-append (λ (e : Entry). (e.at ≡ 0) × HasNoFrame e.event) g.more h.more g.home h.home;
}

-- what begins no step is no frame
none_frame : (e : Event) → BeginsNone e → HasNoFrame e
none_frame (Out to bytes) h = absurd (cc)
none_frame (In bytes) h = absurd (cc)
none_frame _ h = tt

none_frames : (es : List Event) → BeginNone es → AllByRecursion HasNoFrame es
none_frames es h = all-map BeginsNone HasNoFrame none_frame es h

all_home : (k : ℕ) (events : List Event) → k ≡ 0 → AllByRecursion HasNoFrame events → StaysHome (at_all k events)
all_home k [] here h = tt
all_home k (e ∷ es) here h = ((here, h.0), all_home k es here h.1)

home_writes : (events : List Event) (t t' : Tables) (es es' : List Entry) → t.here ≡ 0 → Writes events t t' es es' → AllByRecursion HasNoFrame events → GrowsAtHome es es'
home_writes events t t' es es' here w h = record { more = at_all t.here events; is = w.grows; home = all_home t.here events here h }

module _ (act_of : Meaning) (profile : Profile) (nodes nodes' : List Tables) (es es' : List Entry) (sound : IsSound act_of profile nodes es) where
  pub fired_home : (x : Turned) → DidFire 0 x nodes nodes' es es' → GrowsAtHome es es'
  fired_home (turned.Fired job) h =
      home_writes (Fire (name_of job.action) ∷ []) h.before h.after es es' (sound.stand 0 h.before h.there).here h.does.writes (tt, tt)
  fired_home turned.Idle h = home_none es es' h.0.journal
  fired_home _ h = absurd h

  tends_home : (t t' : Tables) → t.here ≡ 0 → Tends t t' es es' → GrowsAtHome es es'
  tends_home t t' here (inl d) = home_writes (Left (bare (target_of d.act)) d.to ∷ []) t t' es es' here d.writes (tt, tt)
  tends_home t t' here (inr k) =
      let c = k.1 in
      let more = effects t c.parcel ++ c.more in
      home_writes (Mail (kind_of c.parcel) ∷ more) t t' es es' here c.writes
      (tt, none_frames more (dealt_none t c.parcel (record t { desk = c.rest }) c.mid c.done c.more c.continues))

  pub desk_home : (x : Turned) → DidDesk 0 x nodes nodes' es es' → GrowsAtHome es es'
  desk_home turned.Moved h = tends_home h.before h.after (sound.stand 0 h.before h.there).here h.does
  desk_home turned.Empty h = home_none es es' h.0.journal
  desk_home _ h = absurd h

  -- behind a Fire at home
  module _ (job : Job) (fired : DidFire 0 (turned.Fired job) nodes nodes' es es') where
    after_home : fired.after.here ≡ 0
    after_home = fired.does.writes.here ∙ (sound.stand 0 fired.before fired.there).here

    job_home : (t : Tables) → slice_get nodes' job.at ≡ Some t → t.here ≡ 0
    job_home t at =
        let here = fired_at act_of profile nodes nodes' es es' sound 0 job fired in
        let now : slice_get nodes' 0 ≡ Some fired.after = ap (λ xs. slice_get xs 0) fired.others ∙ set_same nodes 0 fired.after (slice_get_less nodes 0 fired.before fired.there) in
        let same : t ≡ fired.after = some_is t fired.after (sym at ∙ (ap (slice_get nodes') here ∙ now)) in
        ap (λ (x : Tables). x.here) same ∙ after_home

    pub finished_home : (n : ℕ) (out : Outcome) (x : Turned) (new : List Tables) (e2 : List Entry) → DidFinish n job out x nodes' new es' e2 → GrowsAtHome es' e2
    finished_home n out (turned.Finished Committed) new e2 h =
        let d = h.1 in
        home_writes (committed d.before job out) d.before d.after es' e2 (job_home d.before d.there) d.does.writes
        (none_frames (committed d.before job out) (committed_none d.before job out))
    finished_home n out (turned.Finished Asking) new e2 h =
        let d = h.1 in
        let events = splits_before d.before (seen job) out ++ asked_events (lacking d.before (seen job) out) in
        home_writes events d.before d.after es' e2 (job_home d.before d.there) d.does.begins.writes
        (none_frames events (begins_none d.before (seen job) out))
    finished_home n out (turned.Finished NotRunning) new e2 h = home_none es' e2 h.0.journal
    finished_home n out _ new e2 h = absurd h

-- ---- where a turn is refused

module _ {A : Type 0} {g : Ghosts A} (x z : Stage) where
  pub fire_same : (fault : WorldFault A g) → Refused (choices.Fire 0) fault x z → GrowsAtHome x.entries z.entries
  fire_same (faults.JournalFull e w u) h = home_none x.entries z.entries h.0.0.journal
  fire_same (faults.OutOfMemory u) h = home_none x.entries z.entries h.1.0.0.journal
  fire_same _ h = absurd h.1

  pub finish_same : (done : Done A g) (fault : WorldFault A g) → Refused (choices.Finish done) fault x z → GrowsAtHome x.entries z.entries
  finish_same done (faults.JournalFull e w u) h = home_none x.entries z.entries h.0.0.journal
  finish_same done (faults.OutOfMemory u) h = home_none x.entries z.entries h.1.0.0.journal
  finish_same done _ h = absurd h.1

  pub desk_same : (fault : WorldFault A g) → Refused (choices.Desk 0) fault x z → GrowsAtHome x.entries z.entries
  desk_same (faults.JournalFull e w u) h = home_none x.entries z.entries h.0.0.journal
  desk_same (faults.OutOfMemory u) h = home_none x.entries z.entries h.1.0.0.journal
  desk_same (faults.Strange to rule object kept) h = home_none x.entries z.entries h.1.0.0.journal
  desk_same _ h = absurd h.1

  -- a job is not handed out, or not taken back
  pub work_refused : (fault : WorldFault A g) → RefusedWork 0 fault x z → RefusedAtHome fault x z
  work_refused (faults.JournalFull e w None) h = h
  work_refused (faults.JournalFull e w (Some done)) h = h
  work_refused (faults.OutOfMemory None) h = (h.0, h.1, inl (to_fire_same z.nodes x.nodes 0 (sym h.1.0.tables) h.2))
  work_refused (faults.OutOfMemory (Some done)) h = h
  work_refused (faults.NotRun job) h = h
  work_refused _ h = absurd h

  pub work_can : (r : Rules) (fault : WorldFault A g) → RefusedWork 0 fault x z → CanCome r fault
  work_can r (faults.BadFrame to at why) h = h
  work_can r (faults.Strange to rule object kept) h = h
  work_can r (faults.EarlyEnd sent taken) h = h
  work_can r _ h = tt

  desk_at : AtHome IsStuck x → (fault : WorldFault A g) → Refused (choices.Desk 0) fault x z → RefusedAtHome fault x z
  desk_at stuck (faults.JournalFull e w u) h = subst (λ v. RefusedAtHome {A = A} {g = g} (faults.JournalFull e w v) x z) (sym h.2) (h.0, h.1)
  desk_at stuck (faults.OutOfMemory u) h =
      let m = h.1 in
      subst (λ v. RefusedAtHome {A = A} {g = g} (faults.OutOfMemory v) x z) (sym m.1)
      (h.0, m.0, inr (stuck, to_tend_same z.nodes x.nodes 0 (sym m.0.0.tables) m.2))
  desk_at stuck (faults.Strange to rule object kept) h = (h.0, stuck, h.1)
  desk_at stuck faults.Fabric h = absurd h.1
  desk_at stuck (faults.BadFrame to at why) h = absurd h.1
  desk_at stuck (faults.EarlyEnd sent taken) h = absurd h.1
  desk_at stuck (faults.NotRun job) h = absurd h.1

  -- nothing is tended to, where no action could be fired before
  pub desk_refused : (y : Stage) → y ≡ x → AtHome IsStuck x → (fault : WorldFault A g) → Refused (choices.Desk 0) fault y z → RefusedAtHome fault x z
  desk_refused y e stuck fault h = desk_at stuck fault (subst (λ s. Refused {A = A} {g = g} (choices.Desk 0) fault s z) e h)

  -- what is left of the room
  home_room : (T : Type 0) (fault : WorldFault A g) → RefusedAtHome fault x z → TellsRoom {T = T} (Err fault) z.entries
  home_room T (faults.JournalFull e w None) h = λ room. h.1.full (subst HasRoom h.0.0.journal room)
  home_room T (faults.JournalFull e w (Some done)) h = h.2.full
  home_room T (faults.OutOfMemory None) h = subst HasRoom (sym h.1.0.journal) h.0
  home_room T (faults.OutOfMemory (Some done)) h = h.1
  home_room T (faults.NotRun job) h = tt
  home_room T (faults.Strange to rule object kept) h = subst HasRoom (sym h.2.0.0.journal) h.0
  home_room T _ h = absurd h

  pub room_then : {T : Type 0} (r : Result T (WorldFault A g)) (e : WorldFault A g) → IsErrAnd r (λ y. y ≡ e) → RefusedAtHome e x z → TellsRoom r z.entries
  room_then {T} (Ok v) e is h = absurd is
  room_then {T} (Err y) e is h = subst (λ f. TellsRoom {T = T} (Err f) z.entries) (sym is) (home_room T e h)

-- ---- one turn at home

module _ (act_of : Meaning) (x z : Stage) where
  pub home_works : HasRoom x.entries × DidWork act_of 0 x z × (z.outside ≡ x.outside) → DidAtHome act_of x z
  home_works d = record { room = d.0; did = inl d.1; outside = d.2 }

  pub home_tends : (y : Stage) → y ≡ x → AtHome IsStuck x → HasRoom y.entries → DidDesk 0 turned.Moved y.nodes z.nodes y.entries z.entries → z.outside ≡ y.outside
      → DidAtHome act_of x z
  home_tends y e stuck room d out =
      let f = subst (λ (s : Stage). HasRoom s.entries × DidDesk 0 turned.Moved s.nodes z.nodes s.entries z.entries × (z.outside ≡ s.outside)) e (room, d, out) in
      record { room = f.0; did = inr (stuck, f.1); outside = f.2 }

-- none can be made
pub home_done : (x y : Stage) → y ≡ x → AtHome IsStuck x → HasRoom y.entries → AtHome HasNothingToTend y → IsDoneAtHome x
home_done x y e stuck room tends =
    let f = subst (λ (s : Stage). HasRoom s.entries × AtHome HasNothingToTend s) e (room, tends) in
    record { room = f.0; stuck = stuck; tends = f.1 }

-- one writes something, so fewer entries may still come
longer : (act_of : Meaning) (x z : Stage) → DidWork act_of 0 x z ⊎ (AtHome IsStuck x × DidDesk 0 turned.Moved x.nodes z.nodes x.entries z.entries)
    → length x.entries < length z.entries
longer act_of x z (inl d) =
    let fire = fired_longer x.nodes d.mid x.entries d.between 0 d.job d.fired in
    let rest = unfed_le d.between z.entries (finished_unfed d.mid z.nodes d.between z.entries (length x.nodes) d.job
    (act_of (length x.nodes) d.job.kind d.job.at d.job.state (plain d.job.action)) (turned.Finished d.how) d.finished) in
    omega (arith, fire, rest)
longer act_of x z (inr d) = cleared_longer x.nodes z.nodes x.entries z.entries 0 d.1

pub home_fewer : (act_of : Meaning) (x z : Stage) → DidAtHome act_of x z → 2097152 - length z.entries < 2097152 - length x.entries
home_fewer act_of x z d = omega (arith, longer act_of x z d.did, d.room.entries)

-- turns at home lead from one stage to another
pub record HomeTo (act_of : Meaning) (x z : Stage) : Type 0 where
  pub between : List Stage
  pub turns : AreAtHome act_of x between z

-- the fabric is never the cause
pub home_counts : {T A : Type 0} {g : Ghosts A} (act_of : Meaning) (r : Result T (WorldFault A g)) (x z : Stage) (n : ℕ)
    → IfErr r (λ fault. GoesAtHome act_of x (λ last. RefusedAtHome fault last z)) → CountsFaults r n n
home_counts act_of (Ok v) x z n h = refl
home_counts act_of (Err faults.Fabric) x z n h = absurd h.thus
home_counts act_of (Err (faults.BadFrame to at why)) x z n h = refl
home_counts act_of (Err (faults.Strange to rule object kept)) x z n h = refl
home_counts act_of (Err (faults.EarlyEnd sent taken)) x z n h = refl
home_counts act_of (Err (faults.JournalFull e w u)) x z n h = refl
home_counts act_of (Err (faults.OutOfMemory u)) x z n h = refl
home_counts act_of (Err (faults.NotRun job)) x z n h = refl

-- turns, and then one that is refused
pub home_stops : {A : Type 0} {g : Ghosts A} (act_of : Meaning) (x y z : Stage) (fault : WorldFault A g) → HomeTo act_of x y → RefusedAtHome fault y z
    → GoesAtHome act_of x (λ last. RefusedAtHome fault last z)
home_stops act_of x y z fault to h = record { last = y; between = to.between; turns = to.turns; thus = h }
