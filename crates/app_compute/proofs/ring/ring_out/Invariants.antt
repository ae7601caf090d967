use Rattle.std.proofs.Common.{◌≡◌, ◌∷◌, true, pos}
use Rattle.app_compute.specs.Types.{Flag, Int}
use Rattle.app_compute.specs.Stencil.{parts_out}
use Rattle.app_compute.proofs.ring.ring_out.Given as goal

abbrev pub invariant-loop-part : goal.invariant-loop-part
invariant-loop-part l = l.values ≡ Flag true ∷ Int (pos l.rows) ∷ Int (pos l.first) ∷ Int (pos l.size) ∷ parts_out l.yielded
