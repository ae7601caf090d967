use Rattle.std.proofs.Common.{sym, subst}
use Rattle.hpx_part.specs.Data.{Out}
use Rattle.hpx_part.specs.Loads.{Exchanges, load_of, nothing}
use Rattle.hpx_part.specs.Shows.{Follows}
use Rattle.hpx_part.specs.View.{IsCovered}
use Rattle.hpx_part.proofs.FrameRows.{follows_out}
use Rattle.hpx_part.proofs.law.out_law.Goals as goal

pub returns : goal.returns
returns c = λ r v w p to bytes due fresh range away spelled may is.
    subst (λ z. Exchanges (load_of p) nothing v z → (IsCovered v → IsCovered z) → Follows r v (Out to bytes) z) (sym is)
    (follows_out r v p bytes w.waiting w.travels w.tokens w.asks due fresh spelled to range away may)
