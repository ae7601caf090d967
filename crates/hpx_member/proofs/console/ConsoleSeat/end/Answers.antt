use Rattle.std.proofs.Common.{ap}
use Rattle.hpx_journal.specs.Weights.{Book}
use Rattle.hpx_node.specs.Locality.{Locality}
use Rattle.hpx_member.proofs.Led.{left_ended}
use Rattle.hpx_member.proofs.console.ConsoleSeat.end.Goals as goal

pub returns-in-Err-clause-left : goal.returns-in-Err-clause-left
returns-in-Err-clause-left g c =
    left_ended g.A.Acts.act_of _ _ _ c.in-Err.stop _ _ _ _ _ _ _ c.requires.leads c.requires.closed c.requires.ended c.tell_all.ensures.sits
    (ap (λ (n : Locality). n.tables) c.tell_all.ensures.node) (ap (λ (b : Book). b.entries) c.tell_all.ensures.book) c.in-Err.ensures.some
    c.in-Err.ensures.link
