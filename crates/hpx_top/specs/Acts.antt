-- What all actions do: both consoles are read, and numbers and rings are computed.
use Rattle.std.specs.Prelude.{ℕ, Bool, nat_le, nat_lt, ◌==◌, ◌&&◌, if◌then◌else◌}
use Rattle.hpx_value.specs.declared.value.State.{State}
use Rattle.hpx_value.specs.declared.value.Act.{Act}
use Rattle.hpx_value.specs.declared.outcome.Outcome.{Outcome}
use Rattle.app_console.specs.Session as Console
use Rattle.app_compute.specs.Acts as Compute
use Rattle.app_compute.specs.Computing.{computing_outcome}
use Rattle.app_compute.specs.Session as Computing

-- there are from 1 to 64 localities, and this is one of them
abbrev pub is_place : ℕ → ℕ → Bool
is_place n here = nat_lt here n && nat_le n 64

-- the session, kind 1, computes where numbers or a ring are asked for or awaited, and else reads a console; plain objects,
-- kind 7, compute
abbrev pub outcome_at : ℕ → ℕ → ℕ → State → Act → Outcome
outcome_at n kind here s a =
    if (kind == 1) && Computing.computes s a then computing_outcome n s a
    else if kind == 7 then Compute.compute_outcome n kind here s a
    else Console.act_of n kind here s a

-- what any action does at n localities, of which this is one
unfoldable pub act_of : ℕ → ℕ → ℕ → State → Act → Outcome
act_of n kind here s a = if is_place n here then outcome_at n kind here s a else Compute.refused s a
