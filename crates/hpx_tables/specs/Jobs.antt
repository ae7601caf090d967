-- A job that is done, against what a node keeps.
use Rattle.std.specs.Prelude.{ℕ, [], ◌∷◌, ◌++◌, Some, ◌≡◌, take}
use Rattle.std.specs.List.{find, slice_get, remove, AllByRecursion}
use Rattle.hpx_value.specs.Shapes.{IsState}
use Rattle.hpx_parcel.specs.Parcels.{HasRightCredit}
use Rattle.hpx_value.specs.declared.acts.Job.{Job}
use Rattle.hpx_journal.specs.Entries.{target_of}
use Rattle.hpx_part.specs.Data.{Standing}
use Rattle.hpx_journal.specs.Local.{is_standing}
use Rattle.hpx_tables.specs.Tables.{Tables, fired_acts}
use Rattle.hpx_tables.specs.Fit.{IsFit}
use Rattle.hpx_tables.specs.Free.{IsFree, NoneIsFree}

-- the action of the job is at i among those that run, and its object, at j, is in the state of the job
pub record IsAt (t : Tables) (i j : ℕ) (job : Job) : Type 0 where
  pub standing : Standing
  pub here : job.at ≡ t.here
  pub runs : slice_get t.running i ≡ Some job.action
  pub stands : slice_get t.objects j ≡ Some standing
  pub found : find (is_standing (target_of job.action)) t.objects ≡ Some standing
  pub kind : standing.object.kind ≡ job.kind
  pub state : standing.state ≡ job.state

-- an action that runs here has this job
pub record IsRunning (t : Tables) (job : Job) : Type 0 where
  pub i : ℕ
  pub j : ℕ
  pub is : IsAt t i j job

-- its action is well formed, and so is the state of its object
pub record IsFitJob (job : Job) : Type 0 where
  pub action : IsFit job.action
  pub state : IsState job.state
  pub credit : AllByRecursion HasRightCredit job.state.ids

-- the first accepted action that is free is taken, and its job runs; nothing else changes
pub record Starts (t t' : Tables) (job : Job) : Type 0 where
  pub i : ℕ
  pub standing : Standing
  pub action : slice_get t.accepted i ≡ Some job.action
  pub first : NoneIsFree (fired_acts t) t.objects (take i t.accepted)
  pub free : IsFree (fired_acts t) t.objects job.action
  pub found : find (is_standing (target_of job.action)) t.objects ≡ Some standing
  pub here : job.at ≡ t.here
  pub kind : job.kind ≡ standing.object.kind
  pub state : job.state ≡ standing.state
  pub accepted : t'.accepted ≡ remove t.accepted i
  pub running : t'.running ≡ t.running ++ job.action ∷ []
  pub rest : t' ≡ record t { accepted = t'.accepted; running = t'.running }
  pub runs : IsRunning t' job
