use Rattle.std.proofs.Common.{◌≡◌, ◌++◌, drop, map}
use Rattle.hpx_value.specs.Hands.{conts_from, hand_slot}
use Rattle.hpx_commit.proofs.hand.Hand.push_kept.Given as goal

abbrev pub invariant-loop-number : goal.invariant-loop-number
invariant-loop-number l = record {
  conts : l.conts.items ++ conts_from l.place (map (hand_slot l.self.state.now l.self.action.now) (drop l.number-index l.kept))
      ≡ l.fn.conts.items ++ conts_from l.first (map (hand_slot l.self.state.now l.self.action.now) l.kept);
  ids : l.ids.items ++ map (λ x. x.object) (map (hand_slot l.self.state.now l.self.action.now) (drop l.number-index l.kept))
      ≡ l.fn.ids.items ++ map (λ x. x.object) (map (hand_slot l.self.state.now l.self.action.now) l.kept);
}
