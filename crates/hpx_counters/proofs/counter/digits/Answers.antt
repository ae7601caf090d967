use Rattle.std.proofs.Common.{◌∙◌}
use Rattle.hpx_counters.proofs.Digits.{decimal_one, decimal_two}
use Rattle.hpx_counters.proofs.counter.digits.Goals as goal

pub returns-then-number-lt10-clause-decimal : goal.returns-then-number-lt10-clause-decimal
returns-then-number-lt10-clause-decimal c = rw c.requires.both (decimal_one c.args.number c.if-number-lt10.true)

pub returns-else-number-lt10-clause-decimal : goal.returns-else-number-lt10-clause-decimal
returns-else-number-lt10-clause-decimal c = c.requires.both ∙ decimal_two c.args.number c.if-number-lt10.false c.requires.number
