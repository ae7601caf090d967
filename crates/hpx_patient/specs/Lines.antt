-- Lines, and that they stay where they are fed.
use Rattle.std.specs.Prelude.{ℕ, Bool, false, cond, List, ◌≡◌, ◌==◌, ◌&&◌}
use Rattle.std.specs.List.{AllByRecursion}
use Rattle.hpx_value.specs.Ids.{same_object}
use Rattle.hpx_value.specs.Values.{message_of}
use Rattle.hpx_value.specs.Hands.{session}
use Rattle.hpx_journal.specs.Data.{Message}
use Rattle.hpx_journal.specs.Entries.{Rules}
use Rattle.hpx_journal.specs.Frames.{acts_in}
use Rattle.hpx_journal.specs.Whole.{part}
use Rattle.hpx_journal.specs.Pool.{target_in}
use Rattle.hpx_patient.specs.Data.{Event, Out, Entry}

-- a line: code 4, to the session
abbrev pub is_line : Message → Bool
is_line m = (m.code == 4) && same_object session (target_in m)

-- 1 for a line
abbrev pub line_count : Message → ℕ
line_count m = cond (is_line m) 1 0

-- no frame that an event sends carries a line
abbrev pub SendsNoLine : Rules → Event → Type 0
SendsNoLine r (Out to bytes) = AllByRecursion (λ act. is_line (message_of act) ≡ false) (acts_in (r.parcel_of bytes))
SendsNoLine r _ = Unit {0}

-- lines stay at locality 0
abbrev pub LinesStay : Rules → List Entry → Type 0
LinesStay r es = AllByRecursion (λ e. SendsNoLine r e.event) (part 0 es)
