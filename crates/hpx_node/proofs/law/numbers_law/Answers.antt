use Rattle.hpx_node.proofs.Numbers.{holds_shown, held_shown, owed_shown, rest_shown, awaited_shown}
use Rattle.hpx_node.proofs.law.numbers_law.Goals as goal

pub returns-clause-holds : goal.returns-clause-holds
returns-clause-holds c = λ r t entries o stands clean. holds_shown t _ o (stands.keeps.shows clean)

pub returns-clause-held : goal.returns-clause-held
returns-clause-held c = λ r t entries o stands clean. held_shown t _ o stands.tidy (stands.keeps.shows clean)

pub returns-clause-owed : goal.returns-clause-owed
returns-clause-owed c = λ r t entries o stands clean. owed_shown t _ o stands.tidy (stands.keeps.shows clean)

pub returns-clause-frames : goal.returns-clause-frames
returns-clause-frames c = λ r t entries stands. (stands.sent, stands.taken)

pub returns-clause-rest : goal.returns-clause-rest
returns-clause-rest c = λ r t entries o stands passive managed clean. rest_shown t _ o managed passive stands.tidy (stands.keeps.shows clean)

pub returns-clause-answers : goal.returns-clause-answers
returns-clause-answers c = λ r t entries stands clean. awaited_shown t _ (stands.keeps.shows clean) (stands.answered clean)
