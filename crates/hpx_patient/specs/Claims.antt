-- What the session waits for: the answers that it is to have, and the messages that will bring them.
use Rattle.std.specs.Prelude.{ℕ, Bool, cond, ◌+◌, ◌-◌, ◌==◌, ◌&&◌, Option, Some, None}
use Rattle.std.specs.List.{count_by, find}
use Rattle.hpx_value.specs.Ids.{same_object}
use Rattle.hpx_value.specs.Values.{named}
use Rattle.hpx_value.specs.Hands.{Slot, session, own_slot}
use Rattle.hpx_journal.specs.Data.{Act, Message}
use Rattle.hpx_journal.specs.Local.{is_standing, acts_on}
use Rattle.hpx_patient.specs.Data.{Standing, Local}

-- an action that answers the session: a SET, code 3, on it
abbrev pub is_answer : Act → Bool
is_answer act = (act.code == 3) && acts_on session act

-- a slot of the session
abbrev pub of_session : Slot → Bool
of_session x = same_object session x.object

-- how often a message claims a slot of the session: by its continuation, or as an answer
abbrev pub session_claims : Message → ℕ
session_claims m = count_by of_session (own_slot m.ids m.cont) + cond (is_answer (named 0 0 m)) 1 0

-- how many slots were drawn at an object, where it stands
abbrev pub drawn_by : Option Standing → ℕ
drawn_by None = 0
drawn_by (Some x) = x.state.drawn

-- how many slots the session has drawn, where it stands
abbrev pub drawn_at : Local → ℕ
drawn_at s = drawn_by (find (is_standing session) s.objects)

-- how many answers it has had
abbrev pub answered_at : Local → ℕ
answered_at s = count_by is_answer s.done

-- at locality 0 the slots that the session drew less the answers that it has had
abbrev pub awaited_at : Local → ℕ
awaited_at s = cond (s.here == 0) (drawn_at s - answered_at s) 0
