use Rattle.hpx_part.proofs.CreditRows.{follows_split}
use Rattle.hpx_part.proofs.law.split_law.Goals as goal

pub returns : goal.returns
returns c = λ r v o log tokens due bare low one trades. follows_split r v o bare log tokens due low one trades
