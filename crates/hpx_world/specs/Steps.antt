-- One step, the first turn that can be made, and steps one after another.
use Rattle.std.specs.Prelude.{ℕ, List, [], ◌∷◌, ◌++◌, ◌≡◌, ◌≢◌, ◌⊎◌, Option, Some, None, length, take, sum_by}
use Rattle.std.specs.List.{slice_get, AllByRecursion}
use Rattle.hpx_value.specs.Riders.{plain}
use Rattle.hpx_value.specs.declared.acts.Job.{Job}
use Rattle.hpx_journal.specs.Sessions.{FeedsNothing}
use Rattle.hpx_journal.specs.Weights.{HasRoom}
use Rattle.hpx_part.specs.Data.{Entry}
use Rattle.hpx_tables.specs.Jobs.{IsRunning}
use Rattle.hpx_journal.specs.Entries.{Frame}
use Rattle.hpx_tables.specs.Tables.{Tables}
use Rattle.hpx_node.specs.declared.parts.Finished.{Finished}
use Rattle.hpx_node.specs.declared.parts.Finished.TheVariants.{NotRunning}
use Rattle.hpx_world.specs.declared.turns.Turned.TheVariants as turned
use Rattle.hpx_world.specs.Away.{Fetches, Puts}
use Rattle.hpx_world.specs.Quiet.{IsQuiet, IsStuck, SendsNothing, NothingApplies, NoneRuns}
use Rattle.hpx_node.specs.Handled.{HasNothingToTend}
use Rattle.hpx_world.specs.Sound.{Meaning, IsSame}
use Rattle.hpx_world.specs.Stages.{Stage}
use Rattle.hpx_world.specs.Turns.{DidFire, DidFinish, DidDesk, DidPump, DidTake}

-- the journal grew, if at all, by entries that feed nothing
pub record IsUnfed (old new : List Entry) : Type 0 where
  pub more : List Entry
  pub is : new ≡ old ++ more
  pub unfed : AllByRecursion (λ e. FeedsNothing e.event) more

-- a job, run at n localities, is one that runs where it was handed out
pub record IsOut (nodes : List Tables) (n : ℕ) (job : Job) : Type 0 where
  pub t : Tables
  pub there : slice_get nodes job.at ≡ Some t
  pub localities : n ≡ t.localities
  pub runs : IsRunning t job

-- nothing can be done and no job is out, but the world is not quiet
pub record IsHeld (nodes : List Tables) (held : Option Frame) (frames : Option (List Frame)) : Type 0 where
  pub idle : NothingApplies nodes held frames
  pub jobs : NoneRuns nodes
  pub waits : IsQuiet nodes held → ⊥

-- nothing can be done, and of the frames that were sent not all have come; or all have, no job is out, and the world is not quiet
pub record IsEarly (nodes : List Tables) (held : Option Frame) (frames : Option (List Frame)) (s r : ℕ) : Type 0 where
  pub idle : NothingApplies nodes held frames
  pub sent : s ≡ sum_by (λ t. t.sent) nodes
  pub taken : r ≡ sum_by (λ t. t.taken) nodes
  pub why : (s ≢ r) ⊎ ((s ≡ r) × IsHeld nodes held frames)

-- ---- one step

-- no locality can fire
abbrev pub NoneFires : Stage → Type 0
NoneFires x = AllByRecursion IsStuck x.nodes

-- nor has one an object that may leave, or a message to itself
abbrev pub NoneClears : Stage → Type 0
NoneClears x = NoneFires x × AllByRecursion HasNothingToTend x.nodes

-- nor one to another
abbrev pub NonePumps : Stage → Type 0
NonePumps x = NoneClears x × AllByRecursion SendsNothing x.nodes

-- this was done at the first locality that can: none before it could
pub record AtFirst (Cannot : Tables → Type 0) (Did : ℕ → Type 0) (nodes : List Tables) : Type 0 where
  pub k : ℕ
  pub before : AllByRecursion Cannot (take k nodes)
  pub did : Did k

-- a Fire at k, and the Finish of its job, which was run: it is committed, or waits for credit
pub record DidWork (act_of : Meaning) (k : ℕ) (x z : Stage) : Type 0 where
  pub job : Job
  pub mid : List Tables
  pub between : List Entry
  pub how : Finished
  pub fired : DidFire k (turned.Fired job) x.nodes mid x.entries between
  pub finished : DidFinish (length x.nodes) job (act_of (length x.nodes) job.kind job.at job.state (plain job.action)) (turned.Finished how) mid z.nodes between z.entries
  pub runs : how ≢ NotRunning

-- a Fire at k, and nothing else: its job is handed back, to be run or to be finished, and runs where it was handed out
pub record DidHandOut (n : ℕ) (job : Job) (k : ℕ) (x z : Stage) : Type 0 where
  pub fired : DidFire k (turned.Fired job) x.nodes z.nodes x.entries z.entries
  pub out : IsOut z.nodes n job
  pub outside : z.outside ≡ x.outside

-- so it is with the first action that can be fired
abbrev pub DidHandBack : ℕ → Job → Stage → Stage → Type 0
DidHandBack n job x z = AtFirst IsStuck (λ k. DidHandOut n job k x z) x.nodes

-- one step where there is room, the first that can be made of these: a Fire with its Finish, a Desk, a Pump, a Take; each at the
-- first locality that can
abbrev pub DidFirst : Meaning → Stage → Stage → Type 0
DidFirst act_of x z =
    (AtFirst IsStuck (λ k. DidWork act_of k x z) x.nodes × (z.outside ≡ x.outside))
    ⊎ (NoneFires x × AtFirst HasNothingToTend (λ k. DidDesk k turned.Moved x.nodes z.nodes x.entries z.entries) x.nodes × (z.outside ≡ x.outside))
    ⊎ (NoneClears x
    × AtFirst SendsNothing (λ k. DidPump (Puts k x.outside.flight z.outside.flight x.outside.trace z.outside.trace) k turned.Moved x.nodes z.nodes x.entries z.entries) x.nodes
    × (z.outside.hand ≡ x.outside.hand))
    ⊎ (NonePumps x × DidTake (Fetches x.outside.hand x.outside.flight z.outside.flight x.outside.trace z.outside.trace) turned.Moved x.nodes z.nodes x.entries z.entries
    × (z.outside.hand ≡ None))

abbrev pub DidStep : Meaning → Stage → Stage → Type 0
DidStep act_of x z = HasRoom x.entries × DidFirst act_of x z

-- there is room and no step can be made: nothing has changed, no frame was there, and as many were accepted as sent
pub record IsIdle (x z : Stage) : Type 0 where
  pub room : HasRoom x.entries
  pub same : IsSame x.nodes z.nodes x.entries z.entries
  pub none : Fetches x.outside.hand x.outside.flight z.outside.flight x.outside.trace z.outside.trace None
  pub applies : NothingApplies z.nodes z.outside.hand z.outside.flight
  pub taken : sum_by (λ t. t.taken) z.nodes ≡ sum_by (λ t. t.sent) z.nodes

-- ---- steps, one after another

-- steps lead from one stage to another, through these, the latest first
abbrev pub AreSteps : Meaning → Stage → List Stage → Stage → Type 0
AreSteps act_of x [] z = z ≡ x
AreSteps act_of x (y ∷ ys) z = AreSteps act_of x ys y × DidStep act_of y z

-- steps lead from one stage to another
pub record Goes (act_of : Meaning) (x z : Stage) : Type 0 where
  pub between : List Stage
  pub steps : AreSteps act_of x between z

-- steps lead to a stage behind which this is so
pub record GoesTo (act_of : Meaning) (x : Stage) (Then : Stage → Type 0) : Type 0 where
  pub last : Stage
  pub goes : Goes act_of x last
  pub thus : Then last
