-- Locality 0 alone goes on: its actions are fired, run and finished, and it tends to its own, until neither can be done.
use Rattle.std.specs.Prelude.{true, List, [], ◌∷◌, ◌++◌, ◌≡◌, ◌<◌, ◌⊎◌, Some, None, length}
use Rattle.std.specs.List.{slice_get, list_any, AllByRecursion}
use Rattle.hpx_value.specs.declared.acts.Acts.{Ghosts}
use Rattle.hpx_journal.specs.Data.{Id}
use Rattle.hpx_journal.specs.Local.{acts_on, is_busy}
use Rattle.hpx_journal.specs.Weights.{HasRoom}
use Rattle.hpx_journal.specs.Whole.{Space}
use Rattle.hpx_part.specs.Data.{Event, Entry, Out, In}
use Rattle.hpx_tables.specs.Tables.{Tables}
use Rattle.hpx_node.specs.Handled.{HasNothingToTend}
use Rattle.hpx_world.specs.declared.turns.Turned.TheVariants as turned
use Rattle.hpx_world.specs.declared.turns.WorldFault.{WorldFault}
use Rattle.hpx_world.specs.declared.turns.WorldFault.TheVariants as faults
use Rattle.hpx_world.specs.Quiet.{IsStuck}
use Rattle.hpx_world.specs.Refusals.{IsFull, StaysAll, RefusedDesk}
use Rattle.hpx_world.specs.Sound.{Meaning}
use Rattle.hpx_world.specs.Stages.{Stage}
use Rattle.hpx_world.specs.Steps.{DidWork, DidHandOut}
use Rattle.hpx_world.specs.Turns.{DidDesk, HasToFire, HasToTend}

-- ---- what is written

-- no frame is sent or accepted
abbrev pub HasNoFrame : Event → Type 0
HasNoFrame (Out to bytes) = ⊥
HasNoFrame (In bytes) = ⊥
HasNoFrame _ = Unit {0}

-- nothing but entries of locality 0, and no frame
abbrev pub StaysHome : List Entry → Type 0
StaysHome more = AllByRecursion (λ e. (e.at ≡ 0) × HasNoFrame e.event) more

-- the journal grew, if at all, by such entries
pub record GrowsAtHome (old new : List Entry) : Type 0 where
  pub more : List Entry
  pub is : new ≡ old ++ more
  pub home : StaysHome more

-- an action on a root of locality 0, as the session is, waits there only where the root is busy with one that is fired and not done
abbrev pub WaitsBusy : Space → Type 0
WaitsBusy w = (o : Id) → o.kind < 16 → o.home ≡ 0 → list_any (acts_on o) (w.places 0).waiting ≡ true → is_busy o (w.places 0).fired ≡ true

-- ---- one turn at home

-- this holds of locality 0
abbrev pub AtHome : (Tables → Type 0) → Stage → Type 0
AtHome P x = (t : Tables) → slice_get x.nodes 0 ≡ Some t → P t

-- where there is room, a Fire with its Finish at locality 0; or where none can be fired there, a Desk; and nothing outside
pub record DidAtHome (act_of : Meaning) (x z : Stage) : Type 0 where
  pub room : HasRoom x.entries
  pub did : DidWork act_of 0 x z ⊎ (AtHome IsStuck x × DidDesk 0 turned.Moved x.nodes z.nodes x.entries z.entries)
  pub outside : z.outside ≡ x.outside

-- there is room, but no action can be fired at locality 0, and it has nothing of its own to tend to
pub record IsDoneAtHome (x : Stage) : Type 0 where
  pub room : HasRoom x.entries
  pub stuck : AtHome IsStuck x
  pub tends : AtHome HasNothingToTend x

-- ---- turns at home, one after another

-- such turns lead from one stage to another, through these, the latest first
abbrev pub AreAtHome : Meaning → Stage → List Stage → Stage → Type 0
AreAtHome act_of x [] z = z ≡ x
AreAtHome act_of x (y ∷ ys) z = AreAtHome act_of x ys y × DidAtHome act_of y z

-- they lead to a stage behind which this is so
pub record GoesAtHome (act_of : Meaning) (x : Stage) (Then : Stage → Type 0) : Type 0 where
  pub last : Stage
  pub between : List Stage
  pub turns : AreAtHome act_of x between last
  pub thus : Then last

-- ---- why one is refused

-- for want of memory, an action that may be fired is not; or where none may, what is to be tended to is not
abbrev pub LacksMemoryAtHome : Stage → Type 0
LacksMemoryAtHome x = HasToFire x.nodes 0 ⊎ (AtHome IsStuck x × HasToTend x.nodes 0)

-- a turn at home: the journal is full or memory is wanting, maybe behind a Fire, whose job is handed back; or the oldest message of
-- locality 0 to itself breaks a rule. The fabric is never the cause
abbrev pub RefusedAtHome : {A : Type 0} {g : Ghosts A} → WorldFault A g → Stage → Stage → Type 0
RefusedAtHome {A} {g} (faults.JournalFull entries weight None) x z = StaysAll x z × IsFull x entries weight
RefusedAtHome {A} {g} (faults.JournalFull entries weight (Some done)) x z = HasRoom x.entries × DidHandOut done.localities done.job 0 x z × IsFull z entries weight
RefusedAtHome {A} {g} (faults.OutOfMemory None) x z = HasRoom x.entries × StaysAll x z × LacksMemoryAtHome x
RefusedAtHome {A} {g} (faults.OutOfMemory (Some done)) x z = HasRoom x.entries × HasRoom z.entries × DidHandOut done.localities done.job 0 x z
RefusedAtHome {A} {g} (faults.NotRun job) x z = HasRoom x.entries × DidHandOut (length z.nodes) job 0 x z
RefusedAtHome {A} {g} (faults.Strange to rule object kept) x z =
    HasRoom x.entries × AtHome IsStuck x × RefusedDesk {A = A} {g = g} 0 (faults.Strange to rule object kept) x z
RefusedAtHome {A} {g} _ x z = ⊥
