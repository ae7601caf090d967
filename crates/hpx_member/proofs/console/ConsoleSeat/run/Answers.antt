use Rattle.std.proofs.Common.{ap}
use Rattle.hpx_journal.specs.Weights.{Book}
use Rattle.hpx_node.specs.Locality.{Locality}
use Rattle.hpx_member.proofs.Serving.{serves_stays}
use Rattle.hpx_member.proofs.console.ConsoleSeat.run.Goals as goal

pub returns-in-Err-end-clause-broken : goal.returns-in-Err-end-clause-broken
returns-in-Err-end-clause-broken g c = λ first s.
    serves_stays g.A.Acts.act_of _ _ _ _ _ _ _ _ _ c.in-Err-end.stop (ap (λ (n : Locality). n.tables) c.end.ensures.node)
    (ap (λ (b : Book). b.entries) c.end.ensures.book) (c.in-Ok-close.ensures.serves first (c.in-Ok.ensures.over first s)) c.in-Err-end.ensures.stops
