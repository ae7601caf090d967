use Rattle.std.specs.Prelude.{Ok}
use Rattle.std.proofs.Common.{ap, ◌∙◌}
use Rattle.hpx_member.proofs.console.ConsoleSeat.serve.Goals as goal

pub returns-in-Ok-false-clause-over : goal.returns-in-Ok-false-clause-over
returns-in-Ok-false-clause-over g c = λ first s. c.serve_line.ensures.over first (c.loop.invariant.serves first s) (c.in-Ok-false.is ∙ ap Ok c.in-Ok-false.field-0-test)
