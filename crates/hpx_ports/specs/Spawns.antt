-- What spawners start, and how it ends.
use Rattle.std.specs.Prelude.{ℕ, List, Option, None, Bool, ◌||◌, length, is_none, nat_lt, if◌then◌else◌}
use Rattle.std.specs.List.{slice_get}
use Rattle.hpx_ports.specs.declared.plan.Plan.{Plan}
use Rattle.hpx_ports.specs.Plans.{fails_next}

-- a child that was started: its program, and its words
abbrev pub Start : Type 0
Start = List ℕ × List (List ℕ)

-- a child that has ended: its place among those that were started, and its status
abbrev pub End : Type 0
End = ℕ × ℕ

-- what a spawner in memory has: what was started and has ended, the statuses with which its children end, by child, the calls that are to fail, and how many did
pub record SpawnState : Type 0 where
  pub started : List Start
  pub ended : List End
  pub statuses : List ℕ
  pub starts : Plan
  pub waits : Plan
  pub faults : ℕ

-- the status with which a child ends; none where no such child was started, or no status was given for it
abbrev pub status_at : SpawnState → ℕ → Option ℕ
status_at s child = if nat_lt child (length s.started) then slice_get s.statuses child else None

-- a wait for this child is to fail
abbrev pub fails_wait : SpawnState → ℕ → Bool
fails_wait s child = fails_next s.waits || is_none (status_at s child)

-- what a spawner over child processes keeps: what was started and has ended, and how many calls failed
pub record Spawned : Type 0 where
  pub started : List Start
  pub ended : List End
  pub faults : ℕ
