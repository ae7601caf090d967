-- What holds of a site whenever no worker is at it.
use Rattle.std.specs.Prelude.{ℕ, ◌≡◌, ◌⊎◌, List, Option, Some, None, IfSome, length, sum_by}
use Rattle.std.specs.List.{slice_get}
use Rattle.hpx_value.specs.declared.acts.Acts.{Ghosts}
use Rattle.hpx_value.specs.declared.acts.Job.{Job}
use Rattle.hpx_journal.specs.Weights.{HasRoom}
use Rattle.hpx_ports.specs.Faults.{Rose}
use Rattle.hpx_ports.specs.declared.link.Latest.TheVariants.{Nothing}
use Rattle.hpx_tables.specs.Jobs.{IsRunning}
use Rattle.hpx_tables.specs.Tables.{Tables}
use Rattle.hpx_world.specs.declared.turns.WorldFault.{WorldFault}
use Rattle.hpx_world.specs.declared.turns.WorldFault.TheVariants as faults
use Rattle.hpx_world.specs.Heard.{KeepsLatest}
use Rattle.hpx_world.specs.Places.{rules_in}
use Rattle.hpx_world.specs.Quiet.{IsQuiet}
use Rattle.hpx_world.specs.Refusals.{IsFull, CanCome}
use Rattle.hpx_world.specs.Sound.{Meaning}
use Rattle.hpx_world.specs.Steps.{IsUnfed}
use Rattle.hpx_world.specs.Turns.{HasToFire, HasToSend, HasToTend, HoldsBadFrame, HoldsRightFrame, HoldsStrangeFrame, IsStrangeMail}
use Rattle.hpx_site.specs.Seen.{Seen, Carries, stage_of}

-- something is to be done that wants memory: an action may be fired, an object leave or a message be dealt with that breaks no rule; a
-- message waits for another locality; or the frame in hand breaks no rule, or none is in hand and one may be in flight
abbrev pub WantsMemory : Seen → Type 0
WantsMemory is =
    ((k : ℕ) × HasToFire is.world.nodes k) ⊎ ((k : ℕ) × HasToTend is.world.nodes k) ⊎ ((k : ℕ) × HasToSend is.world.nodes k)
    ⊎ HoldsRightFrame is.world.nodes is.world.hand is.flight

-- a job is out at its locality
abbrev pub IsOutAt : List Tables → Job → Type 0
IsOutAt nodes job = (t : Tables) × (slice_get nodes job.at ≡ Some t) × IsRunning t job

-- why a site stands still: the fabric's count rose; the journal has no room; the frame in hand spells no parcel or breaks a rule, or
-- a message to the own locality does; no frame is in hand, that none is left was the last answer, and the world is not quiet; or there was no memory for what is to be done, or to
-- commit a job that is out
abbrev pub IsCause : {A : Type 0} {g : Ghosts A} → Seen → Seen → WorldFault A g → Type 0
IsCause was is faults.Fabric = Rose was.faults is.faults
IsCause was is (faults.JournalFull entries weight job_back) = IsFull (stage_of is) entries weight
IsCause was is (faults.BadFrame to place why) = HoldsBadFrame is.world.hand to place why
IsCause was is (faults.Strange to rule object kept) =
    HoldsStrangeFrame is.world.nodes is.world.hand to rule object kept ⊎ IsStrangeMail is.world.nodes to rule object kept
IsCause was is (faults.EarlyEnd sent taken) =
    (is.world.hand ≡ None) × (sent ≡ sum_by (λ t. t.sent) is.world.nodes) × (taken ≡ sum_by (λ t. t.taken) is.world.nodes)
    × (IsQuiet is.world.nodes is.world.hand → ⊥) × (is.latest ≡ Nothing)
IsCause was is (faults.OutOfMemory None) = WantsMemory is
IsCause was is (faults.OutOfMemory (Some done)) = IsOutAt is.world.nodes done.job
IsCause was is (faults.NotRun job) = Unit {0}

-- the journal has room where a site stands still, unless it is full or a job was not run
abbrev pub LeavesRoom : {A : Type 0} {g : Ghosts A} → Seen → WorldFault A g → Type 0
LeavesRoom is (faults.JournalFull entries weight job_back) = Unit {0}
LeavesRoom is (faults.NotRun job) = Unit {0}
LeavesRoom is _ = HasRoom is.world.journal.entries

-- it stands still for want of memory: a job that was to be run or committed is in the fault
abbrev pub IsShort : {A : Type 0} {g : Ghosts A} → WorldFault A g → Type 0
IsShort (faults.OutOfMemory job_back) = Unit {0}
IsShort (faults.NotRun job) = Unit {0}
IsShort _ = ⊥

-- the fabric is not why a site stands still
abbrev pub IsCalm : {A : Type 0} {g : Ghosts A} → Option (WorldFault A g) → Type 0
IsCalm (Some faults.Fabric) = ⊥
IsCalm _ = Unit {0}

-- a site since it was seen so: its localities and its profile are the same, and its journal has grown by no line; where the fabric
-- carried for the journal, it does; where the frame in hand was the fabric's last answer, it is; the fabric's count of faults is the same, unless the fabric is why the site stands still; and a
-- fault that is why it stands still has its cause and leaves room, and on a fabric that carried is none that cannot come
pub record Held {A : Type 0} {g : Ghosts A} (act_of : Meaning) (was is : Seen) (stop : Option (WorldFault A g)) : Type 0 where
  pub localities : length is.world.nodes ≡ length was.world.nodes
  pub profile : is.world.profile ≡ was.world.profile
  pub unfed : IsUnfed was.world.journal.entries is.world.journal.entries
  pub carrying : Carries act_of was → Carries act_of is
  pub hears : KeepsLatest was.world.hand was.latest is.world.hand is.latest
  pub still : IsCalm stop → is.faults ≡ was.faults
  pub cause : IfSome stop (IsCause was is)
  pub room : IfSome stop (LeavesRoom is)
  pub never : Carries act_of was → IfSome stop (CanCome (rules_in act_of was.world))
