use Rattle.std.proofs.Common.{sym, subst}
use Rattle.hpx_part.specs.Data.{In}
use Rattle.hpx_part.specs.Loads.{Exchanges, load_of, nothing}
use Rattle.hpx_part.specs.Shows.{Follows}
use Rattle.hpx_part.proofs.FrameRows.{follows_in}
use Rattle.hpx_part.proofs.law.in_law.Goals as goal

pub returns : goal.returns
returns c = λ r v w p bytes due fresh spelled parcel is.
    subst (λ z. Exchanges nothing (load_of p) v z → Follows r v (In bytes) z) (sym is)
    (follows_in r v p bytes w.waiting w.travels w.tokens w.asks due fresh spelled parcel)
