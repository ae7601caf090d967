use Rattle.std.proofs.Common.{◌≡◌, ◌++◌, drop}
use Rattle.hpx_value.specs.Shapes.{places_of}
use Rattle.hpx_commit.proofs.mentions.cont_places.Given as goal

abbrev pub invariant-loop-cont : goal.invariant-loop-cont
invariant-loop-cont l = l.places.items ++ places_of (drop l.cont-index l.state.conts) ≡ places_of l.state.conts
