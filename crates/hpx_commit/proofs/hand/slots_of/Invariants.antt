use Rattle.std.proofs.Common.{◌≡◌, ◌++◌, drop, map}
use Rattle.hpx_value.specs.Hands.{slot_at}
use Rattle.hpx_commit.proofs.hand.slots_of.Given as goal

abbrev pub invariant-loop-cont : goal.invariant-loop-cont
invariant-loop-cont l = l.slots.items ++ map (slot_at l.state.ids) (drop l.cont-index l.state.conts) ≡ map (slot_at l.state.ids) l.state.conts
