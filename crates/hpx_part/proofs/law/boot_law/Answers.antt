use Rattle.hpx_part.proofs.Boot.{stands_at_boot}
use Rattle.hpx_part.proofs.law.boot_law.Goals as goal

pub returns : goal.returns
returns c = λ r k. stands_at_boot r k
