use Rattle.std.specs.List.{concat}
use Rattle.std.proofs.Common.{ap, ◌∙◌}
use Rattle.hpx_ports.specs.Told.{followed}
use Rattle.hpx_process.proofs.Heard.{computed, joined, quiet, said}
use Rattle.hpx_process.proofs.law.joined_law.Goals as goal

pub returns-clause-join : goal.returns-clause-join
returns-clause-join c = λ n p settles ms es some few j. joined n p settles ms es some few j

pub returns-clause-rest : goal.returns-clause-rest
returns-clause-rest c = λ n p settles ms es some few j well heard. quiet n p settles ms es some few j well heard

pub returns-clause-computed : goal.returns-clause-computed
returns-clause-computed c = λ n p settles ms es problem x z some few j well heard none ranges did.
    let whole = did.whole well in
    whole.1 ∙ ap (λ ts. followed x.text (concat ts)) (computed n p settles ms es some few j well heard problem ranges none whole.0)

pub returns-clause-said : goal.returns-clause-said
returns-clause-said c = λ n p settles ms es x z input some few j well none did left short. said n p settles ms es some few j x z well none did input left short
