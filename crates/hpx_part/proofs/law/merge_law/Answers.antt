use Rattle.hpx_part.proofs.CreditRows.{follows_merge}
use Rattle.hpx_part.proofs.law.merge_law.Goals as goal

pub returns : goal.returns
returns c = λ r v o log tokens due fresh bare below two trades covered. follows_merge r v o bare log tokens due fresh below two trades covered
