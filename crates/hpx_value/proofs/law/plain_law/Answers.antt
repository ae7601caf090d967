use Rattle.hpx_value.proofs.Riders.{plain_target, plain_formed, plain_own}
use Rattle.hpx_value.proofs.law.plain_law.Goals as goal

pub returns-clause-target : goal.returns-clause-target
returns-clause-target c = λ a. plain_target a

pub returns-clause-formed : goal.returns-clause-formed
returns-clause-formed c = λ a h. plain_formed a h

pub returns-clause-own : goal.returns-clause-own
returns-clause-own c = λ a h. plain_own a h
