-- Of what the session computes: numbers are no ring.
use Rattle.std.specs.Prelude.{ℕ, true, false, List, [], ◌∷◌, ◌≡◌, Some, None, refl, if◌then◌else◌}
use Rattle.std.specs.List.{slice_split}
use Rattle.std.proofs.Common.{ap, ◌∙◌}
use Rattle.hpx_calls.specs.Contents.{is_none}
use Rattle.app_compute.specs.Types.{Text, State, Act}
use Rattle.app_compute.specs.declared.line.Question.{Question}
use Rattle.app_compute.specs.declared.shape.Shape.{Shape}
use Rattle.app_compute.specs.Computing.{asks_ring, computing_outcome, is_stepping}
use Rattle.app_compute.specs.Lines.{is_space, question_in, question_of}
use Rattle.app_compute.specs.Session.{session_outcome}
use Rattle.app_compute.specs.Stencil.{shape_in, shape_of}
use Rattle.app_compute.specs.StencilSession.{ring_outcome}

no_ring : (words : List (List ℕ)) (x : Question) → question_in words ≡ Some x → shape_in words ≡ None
no_ring [] x e = refl
no_ring (a ∷ []) x e = refl
no_ring (a ∷ b ∷ []) x e = refl
no_ring (a ∷ b ∷ c ∷ []) x e = refl
no_ring (a ∷ b ∷ c ∷ d ∷ words) x e = cc

-- a line that asks for a number asks for no ring
pub fib_computed : (n : ℕ) (s : State) (a : Act) (line : List ℕ) (x : Question) → is_stepping s.values ≡ false → a.args ≡ Text (99 ∷ line) ∷ []
    → question_of line ≡ Some x → computing_outcome n s a ≡ session_outcome s a
fib_computed n s a line x calm args asks =
    ap (λ b. if b then ring_outcome n s a else session_outcome s a)
    (ap (λ b. if b then true else asks_ring a.args) calm ∙ ap asks_ring args
    ∙ ap (λ o. if is_none o then false else true) (no_ring (slice_split is_space line) x asks))

-- and one that asks for a ring asks for one
pub ring_computed : (n : ℕ) (s : State) (a : Act) (line : List ℕ) (x : Shape) → is_stepping s.values ≡ false → a.args ≡ Text (99 ∷ line) ∷ []
    → shape_of line ≡ Some x → computing_outcome n s a ≡ ring_outcome n s a
ring_computed n s a line x calm args asks =
    ap (λ b. if b then ring_outcome n s a else session_outcome s a)
    (ap (λ b. if b then true else asks_ring a.args) calm ∙ ap asks_ring args ∙ ap (λ o. if is_none o then false else true) asks)
