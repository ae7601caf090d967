use Rattle.hpx_tables.proofs.AllCuts.{all_cuts}
use Rattle.hpx_node.proofs.law.cuts_law.Goals as goal

pub returns : goal.returns
returns c = λ n s hand le within same. all_cuts n s hand le within same
