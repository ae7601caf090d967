-- An action that could get no credit: what it leaves, and what is written.
use Rattle.std.specs.Prelude.{Bool, List, None, Option, Some, false, length, set, take, true, ℕ, ◌++◌, ◌+◌, ◌∷◌, ◌≡◌, ◌≤◌}
use Rattle.std.specs.List.{find, remove, slice_get}
use Rattle.hpx_node.specs.Names.{Done, Due, Event, Give, Gives, Id, IsFitJob, Parcel, Remains, Standing, State, Tables, Waits, answered_by, awaits, fails_with, hand_with, is_standing, name_of, plain, rider_of, target_of, ups, with_credit, with_left, written_due}
use Rattle.hpx_commit.specs.Failures.{action_ids, state_failed, due_failed, ups_failed}
use Rattle.hpx_commit.specs.declared.plan.Plan.{Plan}
use Rattle.hpx_node.specs.declared.node.fail.Failing.{Failing}
use Rattle.hpx_steps.specs.Left.{IsLeftFailed}
use Rattle.hpx_node.specs.Resumes.{IsInPlace}

-- the state of its object, as it was, with what is left of its credits
abbrev pub state_left : Waits → State
state_left w = state_failed w.job.state w.hand

-- what is due: the answer, and the print of the session
abbrev pub due_left : Waits → List Due
due_left w = due_failed (action_ids w.job.state (plain w.job.action) w.hand) (plain w.job.action).cont

-- what is left of its hand: the other ids of the action, and the halves
abbrev pub loose_left : Waits → List Id
loose_left w = ups_failed w.job.state (plain w.job.action) (length w.outcome.makes) w.hand

-- what is given up: the rider, if it has a credit, and these
abbrev pub ups_left : Waits → List Id
ups_left w = with_credit (rider_of w.job.action) ++ loose_left w

-- the Done that fails, what is due, and what is given up
abbrev pub failed_events : Tables → Waits → List Event
failed_events t w = Done (name_of w.job.action) true ∷ (written_due t.here t.serial (due_left w) ++ ups (ups_left w))

-- what is left of it, its rider aside
abbrev pub failed_remains : Waits → Remains
failed_remains w = record { state = state_left w; due = due_left w; loose = loose_left w }

-- the commit at i of those that wait has to fail: its object stands at j, and what it leaves is right
pub record MustFail (i j : ℕ) (t : Tables) : Type 0 where
  pub commit : Waits
  pub there : slice_get t.pending i ≡ Some commit
  pub job : IsFitJob commit.job
  pub standing : Standing
  pub stands : slice_get t.objects j ≡ Some standing
  pub found : find (is_standing (target_of commit.job.action)) t.objects ≡ Some standing
  pub left : IsLeftFailed commit standing (failed_remains commit)

-- what it leaves is planned
pub record IsFailure (w : Waits) (p : Plan) : Type 0 where
  pub state : p.state ≡ state_left w
  pub due : p.due.items ≡ due_left w
  pub ups : p.ups.items ≡ ups_left w

-- the commit at i fails: it waits no more, and its object, at j, has its credits again; an answer of the session counts as had;
-- what is due is on its way, and then the rest is given up
pub record Fails (i j : ℕ) (t t' : Tables) : Type 0 where
  pub commit : Waits
  pub there : slice_get t.pending i ≡ Some commit
  pub standing : Standing
  pub stands : slice_get t.objects j ≡ Some standing
  pub found : find (is_standing (target_of commit.job.action)) t.objects ≡ Some standing
  pub rest : t' ≡ with_left (due_left commit) (ups_left commit) (record t {
    pending = remove t.pending i;
    objects = set t.objects j (record { object = standing.object; state = state_left commit });
    answered = t.answered + answered_by (Some commit.job.action);
  })

-- ---- a message that brings the last answer

-- so does the first that waits for it
abbrev pub fails_first : Id → Option Waits → Bool
fails_first id None = false
fails_first id (Some w) = fails_with id w

-- a message brings a commit its last answer, and it fails
abbrev pub dooms : Tables → Parcel → Bool
dooms t (Give id entry) = fails_first id (find (awaits id entry) t.pending)
dooms t _ = false

-- a commit that fails once this is given: where it waits, where its object stands, and what it leaves
pub record IsFailing (t : Tables) (id : Id) (entry : ℕ) (y : Failing) : Type 0 where
  pub commit : Waits
  pub there : slice_get t.pending y.i ≡ Some commit
  pub first : find (awaits id entry) (take y.i t.pending) ≡ None
  pub for : awaits id entry commit ≡ true
  pub last : fails_with id commit ≡ true
  pub place : IsInPlace t commit y.j
  pub plan : IsFailure (record commit { hand = hand_with id entry commit }) y.plan
  pub few : length y.plan.ups.items ≤ 256

-- by the message
abbrev pub IsFailingFor : Tables → Parcel → Failing → Type 0
IsFailingFor t (Give id entry) y = IsFailing t id entry y
IsFailingFor t _ y = ⊥

-- ---- a message is dealt with, and an action may fail with it

-- the commit that gets its last answer fails
pub record FailsWithLast (id : Id) (entry : ℕ) (t mid t' : Tables) (more : List Event) : Type 0 where
  pub gives : Gives id entry t mid
  pub j : ℕ
  pub fails : Fails gives.i j mid t'
  pub what : more ≡ failed_events mid gives.after

-- so it is with a Give, and with no other message
abbrev pub FailsWith : Parcel → Tables → Tables → Tables → List Event → Type 0
FailsWith (Give id entry) t mid t' more = FailsWithLast id entry t mid t' more
FailsWith _ t mid t' more = ⊥
