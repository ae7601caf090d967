-- Worked sessions of `stencil`.
use Rattle.std.specs.Prelude.{ℕ, pos, List, [], ◌∷◌, ◌++◌, ◌≡◌, None, codes, refl}
use Rattle.std.specs.Fmt.{digits}
use Rattle.hpx_value.specs.Ids.{bare_id}
use Rattle.hpx_value.specs.Values.{empty_state}
use Rattle.hpx_value.specs.Hands.{session, state_after}
use Rattle.app_compute.specs.Types.{Value, Int, Text, Ref, Fault, Ints, State, Act}
use Rattle.app_compute.specs.Stencil.{stencil_line}
use Rattle.app_compute.specs.StencilSession

line : ℕ → ℕ → ℕ → Act
line p q s = record { origin = 0; serial = 1; code = 4; args = Text (99 ∷ stencil_line p q s) ∷ []; cont = None; ids = session ∷ [] }

object : ℕ → ℕ → Act
object slot q = record { origin = 0; serial = 1; code = 3; args = Int (pos slot) ∷ Ref 1 ∷ []; cont = None; ids = session ∷ bare_id q 17 1 ∷ [] }

answer : ℕ → Value → Act
answer slot v = record { origin = 0; serial = 1; code = 3; args = Int (pos slot) ∷ v ∷ []; cont = None; ids = session ∷ [] }

-- what is printed at actions, one after another
talk : State → List Act → List (List ℕ)
talk s [] = []
talk s (a ∷ acts) = (StencilSession.ring_outcome 2 s a).prints ++ talk (state_after s a [] (StencilSession.ring_outcome 2 s a)) acts

-- what is kept after them
left : State → List Act → List Value
left s [] = s.values
left s (a ∷ acts) = left (state_after s a [] (StencilSession.ring_outcome 2 s a)) acts

-- four points in two parts, stepped twice; answers come in any order
four : List Act
four =
    line 4 2 2 ∷ object 1 1 ∷ object 0 0 ∷ answer 2 (Ints (pos 2 ∷ pos 1 ∷ [])) ∷ answer 3 (Ints (pos 2 ∷ pos 1 ∷ []))
    ∷ answer 5 (Ints (pos 1 ∷ pos 2 ∷ [])) ∷ answer 4 (Ints (pos 1 ∷ pos 2 ∷ [])) ∷ []

four_talk : talk empty_state four ≡ codes "2 1 2 1\n" ∷ codes "1 2 1 2\n" ∷ []
unfolding talk four line object answer digits StencilSession.ring_outcome
four_talk = refl

four_left : left empty_state four ≡ []
unfolding left four line object answer digits StencilSession.ring_outcome
four_left = refl

-- no step: nothing is made
none_left : left empty_state (line 4 2 0 ∷ []) ≡ []
unfolding left line digits StencilSession.ring_outcome
none_left = refl

-- a fault ends it
fault_talk : talk empty_state (line 4 2 2 ∷ object 0 0 ∷ answer 1 (Fault 5) ∷ object 1 1 ∷ []) ≡ codes "error: credit limit\n" ∷ []
unfolding talk line object answer digits StencilSession.ring_outcome
fault_talk = refl
