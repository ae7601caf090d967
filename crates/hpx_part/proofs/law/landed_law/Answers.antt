use Rattle.std.proofs.Common.{sym, subst}
use Rattle.hpx_journal.specs.Local.{stood}
use Rattle.hpx_part.specs.Data.{Landed}
use Rattle.hpx_part.specs.Loads.{Exchanges, standing_load, travel_load}
use Rattle.hpx_part.specs.Shows.{Follows}
use Rattle.hpx_part.proofs.MoveRows.{follows_landed}
use Rattle.hpx_part.proofs.law.landed_law.Goals as goal

pub returns : goal.returns
returns c = λ r v w o x due fresh managed bare seen to is.
    subst (λ z. Exchanges (travel_load x) (standing_load (stood x)) v z → Follows r v (Landed o) z) (sym is)
    (follows_landed r v o due fresh managed bare w.objects w.travels x seen to)
