use Rattle.hpx_part.proofs.LookRows.{follows_looked}
use Rattle.hpx_part.proofs.law.looked_law.Goals as goal

pub returns : goal.returns
returns c = λ r v o hit act fresh bare away last waits same. follows_looked r v o hit act fresh bare away last waits same
