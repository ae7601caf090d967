use Rattle.std.proofs.Common.{◌∙◌}
use Rattle.hpx_launch.proofs.Clap.{found, refused, taken}
use Rattle.hpx_launch.proofs.matches.matches.Goals as goal

pub returns-in-Ok-clause-taken : goal.returns-in-Ok-clause-taken
returns-in-Ok-clause-taken c =
    taken _ _ c.try_get_matches_from.result c.in-Ok.matches c.in-Ok.is c.in_ok-command.ensures c.try_get_matches_from.ensures.kinds

pub returns-in-Ok-clause-found : goal.returns-in-Ok-clause-found
returns-in-Ok-clause-found c = found _ _ c.in-Ok.matches c.in_ok-command.ensures c.in-Ok.ensures.matches

pub returns-in-Err-clause-bad : goal.returns-in-Err-clause-bad
returns-in-Err-clause-bad c = λ bad none.
    refused _ _ c.try_get_matches_from.result c.in-Err.error c.in-Err.is c.in_ok-command.ensures c.try_get_matches_from.ensures.kinds
    (λ memory. let other = c.fault_of.ensures.memory (c.kind.ensures ∙ memory) in cc) none
