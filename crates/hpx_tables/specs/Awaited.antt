-- What the session waits for: the answers that it was to have, and those that it has had.
use Rattle.std.specs.Prelude.{ℕ, Bool, cond, ◌-◌, ◌==◌, ◌&&◌, Option, Some, None}
use Rattle.std.specs.List.{count_by, find}
use Rattle.hpx_value.specs.Hands.{session}
use Rattle.hpx_journal.specs.Data.{Act}
use Rattle.hpx_journal.specs.Local.{is_standing, acts_on}
use Rattle.hpx_part.specs.Data.{Standing, Local}
use Rattle.hpx_tables.specs.Tables.{Tables}

-- an action that answers the session: a SET, code 3, on it
abbrev pub is_answer : Act → Bool
is_answer act = (act.code == 3) && acts_on session act

-- 1 for such an action, where there is one
abbrev pub answered_by : Option Act → ℕ
answered_by None = 0
answered_by (Some act) = cond (is_answer act) 1 0

-- how many slots were drawn at an object, where it stands
abbrev pub drawn_by : Option Standing → ℕ
drawn_by None = 0
drawn_by (Some x) = x.state.drawn

-- at locality 0 the slots that the session drew less the answers that it has had
abbrev pub awaited_here : Tables → ℕ
awaited_here t = cond (t.here == 0) (drawn_by (find (is_standing session) t.objects) - t.answered) 0

-- the same by what a locality has
abbrev pub awaited_at : Local → ℕ
awaited_at s = cond (s.here == 0) (drawn_by (find (is_standing session) s.objects) - count_by is_answer s.done) 0
