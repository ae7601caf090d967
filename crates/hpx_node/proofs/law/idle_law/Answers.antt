use Rattle.hpx_node.proofs.IdleSince.{paid_since, hops_once, hops_since}
use Rattle.hpx_node.proofs.IdleMoves.{landeds_paid, landeds_since, left_before, onward_granted}
use Rattle.hpx_node.proofs.RowLaws.{refuses_for_cause, frees_the_dead}
use Rattle.hpx_node.proofs.law.idle_law.Goals as goal

pub returns-clause-boot : goal.returns-clause-boot
returns-clause-boot c = λ r t entries stands row kept. stands.paid.rows row kept

pub returns-clause-since : goal.returns-clause-since
returns-clause-since c = λ r t t' entries later stands passive then here row kept kept'. paid_since r t t' entries later stands passive then here row kept kept'

pub returns-clause-once : goal.returns-clause-once
returns-clause-once c = λ r t entries stands. hops_once r t entries stands

pub returns-clause-refuses : goal.returns-clause-refuses
returns-clause-refuses c = λ r t entries stands. refuses_for_cause r t entries stands

pub returns-clause-frees : goal.returns-clause-frees
returns-clause-frees c = λ r t entries stands passive. frees_the_dead r t entries stands passive

pub returns-clause-once_since : goal.returns-clause-once_since
returns-clause-once_since c = λ r t t' entries later stands passive then here. hops_since r t t' entries later stands passive then here

pub returns-clause-landeds : goal.returns-clause-landeds
returns-clause-landeds c = λ r t entries stands clean. landeds_paid r t entries stands clean

pub returns-clause-landeds_since : goal.returns-clause-landeds_since
returns-clause-landeds_since c = λ r t t' entries later stands passive then here clean. landeds_since r t t' entries later stands passive then here clean

pub returns-clause-ways : goal.returns-clause-ways
returns-clause-ways c = λ r t entries stands. stands.orderly.sent

pub returns-clause-onward : goal.returns-clause-onward
returns-clause-onward c = λ r t entries o stands some. onward_granted r t entries o stands some

pub returns-clause-left : goal.returns-clause-left
returns-clause-left c = λ r t entries o stands passive some. left_before r t entries o stands passive some

pub returns-clause-strict : goal.returns-clause-strict
returns-clause-strict c = λ r t entries stands. stands.homes.gone
