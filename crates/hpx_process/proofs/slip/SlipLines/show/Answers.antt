use Rattle.std.proofs.Common.{refl}
use Rattle.hpx_process.specs.Memberships.{problem_line}
use Rattle.hpx_process.proofs.Results.{on_ok}
use Rattle.hpx_process.proofs.Passing.{passed_shown}
use Rattle.hpx_process.proofs.slip.SlipLines.show.Goals as goal

pub returns-clause-said : goal.returns-clause-said
returns-clause-said g c = λ first talk w.
    on_ok c.show.result _ _ (λ held. (w.0, w.1, passed_shown (problem_line first.problem) _ _ _ _ talk w.2 refl held)) c.show.ensures.held
