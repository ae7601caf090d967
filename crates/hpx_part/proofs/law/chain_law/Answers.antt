use Rattle.hpx_part.proofs.Grown.{chain}
use Rattle.hpx_part.proofs.law.chain_law.Goals as goal

pub returns : goal.returns
returns c = λ r v m w xs ys g h. chain r v m w xs ys g h
