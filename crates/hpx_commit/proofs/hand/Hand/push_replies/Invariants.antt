use Rattle.std.proofs.Common.{◌≡◌, ◌++◌, drop, map}
use Rattle.hpx_value.specs.Riders.{rode_with, rides_with}
use Rattle.hpx_value.specs.declared.outcome.Due.TheVariants.{Message}
use Rattle.hpx_commit.proofs.hand.Hand.push_replies.Given as goal

abbrev pub invariant-loop-x : goal.invariant-loop-x
invariant-loop-x l =
    l.due.items ++ map (λ x. Message (rode_with l.self.state.now l.self.action.now l.self.made.now (rides_with l.self.state.now l.may x) x)) (drop l.x-index l.replies)
    ≡ l.fn.due.items ++ map (λ x. Message (rode_with l.self.state.now l.self.action.now l.self.made.now (rides_with l.self.state.now l.may x) x)) l.replies
