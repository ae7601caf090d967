use Rattle.hpx_node.proofs.Passive.{passive_quiet}
use Rattle.hpx_node.proofs.Targets.{none_stuck}
use Rattle.hpx_node.proofs.law.settled_law.Goals as goal

pub returns-clause-fresh : goal.returns-clause-fresh
returns-clause-fresh c = λ r t entries stands clean. (stands.keeps.shows clean).objects.fresh

pub returns-clause-due : goal.returns-clause-due
returns-clause-due c = λ r t entries stands clean. (stands.keeps.shows clean).acts.due

pub returns-clause-stuck : goal.returns-clause-stuck
returns-clause-stuck c = λ r t entries stands none running pending. none_stuck t t.accepted running pending stands.tidy.targets none

pub returns-clause-quiet : goal.returns-clause-quiet
returns-clause-quiet c = λ r t entries stands passive clean. passive_quiet t _ passive (stands.keeps.shows clean)
