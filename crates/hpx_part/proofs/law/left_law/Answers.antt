use Rattle.std.proofs.Common.{sym, subst}
use Rattle.hpx_journal.specs.Local.{leaving}
use Rattle.hpx_part.specs.Data.{Left}
use Rattle.hpx_part.specs.Loads.{Exchanges, standing_load, travel_load}
use Rattle.hpx_part.specs.Shows.{Follows}
use Rattle.hpx_part.proofs.MoveRows.{follows_left}
use Rattle.hpx_part.proofs.law.left_law.Goals as goal

pub returns : goal.returns
returns c = λ r v w o to x due fresh managed bare seen idle moves away is.
    subst (λ z. Exchanges (standing_load x) (travel_load (leaving to x)) v z → Follows r v (Left o to) z) (sym is)
    (follows_left r v o due fresh managed bare w.objects w.travels to x seen idle moves away)
