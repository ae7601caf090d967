use Rattle.std.proofs.Common.{ap, ◌∙◌, refl}
use Rattle.hpx_process.specs.Memberships.{problem_line}
use Rattle.hpx_process.proofs.Passing.{passed_over, passed_such}
use Rattle.hpx_process.proofs.slip.SlipLines.next.Goals as goal

pub returns-then-self-clause-said : goal.returns-then-self-clause-said
returns-then-self-clause-said g c = λ first talk w. (w.0, w.1, passed_over (problem_line first.problem) _ _ talk w.2 c.if-self.true)

pub returns-in-Ok-clause-said : goal.returns-in-Ok-clause-said
returns-in-Ok-clause-said g c = λ first talk w.
    (w.0, w.1, passed_such (problem_line first.problem) c.in-Ok.line _ _ _ talk w.2 c.if-self.false refl refl (c.in-Ok.ensures.line ∙ ap problem_line w.1))
