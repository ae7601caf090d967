use Rattle.hpx_joined.proofs.Computed.{ended_quiet}
use Rattle.hpx_joined.proofs.law.end_law.Goals as goal

pub returns : goal.returns
returns c = λ r es grammar join ended. ended_quiet r es grammar join ended
