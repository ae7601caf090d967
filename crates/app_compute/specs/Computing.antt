-- What the session does where it computes: numbers, or a ring.
use Rattle.std.specs.Prelude.{ℕ, Bool, true, false, List, [], ◌∷◌, if◌then◌else◌}
use Rattle.hpx_calls.specs.Contents.{is_none}
use Rattle.app_compute.specs.Types.{Value, Flag, Text, State, Act, Outcome}
use Rattle.app_compute.specs.Session.{session_outcome}
use Rattle.app_compute.specs.Stencil.{shape_of}
use Rattle.app_compute.specs.StencilSession.{ring_outcome}

-- whether values show that a ring is stepped: a Flag that is set stands first
abbrev pub is_stepping : List Value → Bool
is_stepping (Flag true ∷ vs) = true
is_stepping _ = false

-- whether a line after its mark asks for a ring
abbrev pub asks_ring : List Value → Bool
asks_ring (Text (mark ∷ line) ∷ []) = if is_none (shape_of line) then false else true
asks_ring _ = false

abbrev pub rings : State → Act → Bool
rings s a = if is_stepping s.values then true else asks_ring a.args

-- what the session does at n localities
abbrev pub computing_outcome : ℕ → State → Act → Outcome
computing_outcome n s a = if rings s a then ring_outcome n s a else session_outcome s a
