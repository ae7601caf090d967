use Rattle.std.proofs.Common.{length-append, arith}
use Rattle.std.proofs.lemmas.List.{length-map}
use Rattle.std.proofs.lemmas.List.Sums.{sum_by-append}
use Rattle.hpx_journal.specs.Laws.{entry_at}
use Rattle.hpx_journal.specs.Weights.{weight_of}
use Rattle.hpx_part.specs.Parts.{at_all}
use Rattle.hpx_steps.specs.Steps.{written}
use Rattle.hpx_steps.proofs.law.limits_law.Goals as goal

pub returns-clause-turn : goal.returns-clause-turn
returns-clause-turn c = λ r s s' labels entries steps few light. record {
  entries = omega (arith, few, length-append entries (at_all s.tables.here (written labels)), length-map (written labels) (entry_at s.tables.here));
  weight = omega (arith, light, sum_by-append weight_of entries (at_all s.tables.here (written labels)));
}

pub returns-clause-within : goal.returns-clause-within
returns-clause-within c = λ old new room adds. record {
  entries = omega (arith, room.entries, adds.entries);
  weight = omega (arith, room.weight, adds.weight);
}
