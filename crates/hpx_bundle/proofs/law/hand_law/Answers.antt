use Rattle.hpx_bundle.proofs.Ways.{next_left, none_left}
use Rattle.hpx_bundle.proofs.law.hand_law.Goals as goal

pub returns-clause-next : goal.returns-clause-next
returns-clause-next c = next_left

pub returns-clause-none : goal.returns-clause-none
returns-clause-none c = none_left
