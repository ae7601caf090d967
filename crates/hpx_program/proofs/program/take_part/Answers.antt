use Rattle.hpx_program.proofs.Served.{says_none, says_so}
use Rattle.hpx_program.proofs.program.take_part.Goals as goal
use Rattle.hpx_program.proofs.program.take_part.Goals.{then-status-ne0, else-status-ne0}

pub returns-clause-says : goal.returns-clause-says
returns-clause-says g c = elim c.if-status-ne0.branch [
  | then-status-ne0 w ↦ says_so g.E.Sink.held g.E.Sink.faults _ _ _ _ _ w.line_of.ensures w.err-is w.say.ensures
  | else-status-ne0 w ↦ says_none g.E.Sink.held g.E.Sink.faults c.join-joined.result.status _ _ w.if-status-ne0.false w.err-is
]
