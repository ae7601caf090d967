-- What an action leaves that ends.
use Rattle.std.specs.Prelude.{ℕ, List, ◌≡◌, map}
use Rattle.std.specs.List.{AllByRecursion}
use Rattle.hpx_value.specs.Hands.{state_after}
use Rattle.hpx_value.specs.Riders.{due_with, plain}
use Rattle.hpx_value.specs.Values.{bare_act, bare_state}
use Rattle.hpx_value.specs.declared.acts.Job.{Job}
use Rattle.hpx_parcel.specs.Parcels.{HasCredit, HasRightCredit}
use Rattle.hpx_journal.specs.Data.{Id, Outcome}
use Rattle.hpx_journal.specs.Entries.{Rules}
use Rattle.hpx_journal.specs.Local.{failure}
use Rattle.hpx_part.specs.Data.{Standing}
use Rattle.hpx_tables.specs.Fit.{IsFitDue, IsKept}
use Rattle.hpx_tables.specs.Pending.{Waits}
use Rattle.hpx_steps.specs.Steps.{Deals, Remains}
use Rattle.hpx_steps.specs.Turn.{bare_due}

-- what a job leaves that is done at k, its rider aside, once its objects are made and this is in its hand; its object is x
pub record IsLeftBy (r : Rules) (k : ℕ) (job : Job) (out : Outcome) (x : Standing) (hand made : List Id) (left : Remains) : Type 0 where
  pub right : out ≡ r.outcome_of x.object.kind k x.state (plain (bare_act job.action))
  pub says : bare_state left.state ≡ state_after x.state (plain (bare_act job.action)) made out
  pub leaves : map bare_due left.due ≡ due_with x.state (plain (bare_act job.action)) made out
  pub kept : IsKept (record { object = x.object; state = left.state })
  pub plain : x.object.kind ≡ 7 → left.state ≡ x.state
  pub credit : AllByRecursion HasRightCredit left.state.ids
  pub fits : AllByRecursion IsFitDue left.due
  pub given_up : AllByRecursion HasCredit left.loose
  pub deals : Deals hand left.state left.due left.loose

-- what a commit leaves that fails, its rider aside; its object is x
pub record IsLeftFailed (w : Waits) (x : Standing) (left : Remains) : Type 0 where
  pub says : bare_state left.state ≡ bare_state w.job.state
  pub leaves : map bare_due left.due ≡ failure (bare_act w.job.action)
  pub kept : IsKept (record { object = x.object; state = left.state })
  pub plain : x.object.kind ≡ 7 → left.state ≡ x.state
  pub credit : AllByRecursion HasRightCredit left.state.ids
  pub fits : AllByRecursion IsFitDue left.due
  pub given_up : AllByRecursion HasCredit left.loose
  pub deals : Deals w.hand left.state left.due left.loose
