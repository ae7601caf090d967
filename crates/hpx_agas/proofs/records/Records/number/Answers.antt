use Rattle.std.proofs.Common.{arith}
use Rattle.hpx_agas.proofs.RegistriesLemmas.{few_records}
use Rattle.hpx_agas.proofs.records.Records.number.Goals as goal

pub overflow_cast-result : goal.overflow_cast-result
overflow_cast-result g c =
    let kept = c.self.invariant in
    omega (arith, kept.few, few_records c.self.inside.here c.self.inside.table.births c.self.inside.profile c.self.inside.table.records kept.rises kept.good)

pub returns-clause-sound : goal.returns-clause-sound
returns-clause-sound g c =
    let kept = c.self.invariant in
    rw (← c.self.view_is)
    (record {
      rises = kept.rises;
      good = kept.good;
      few = few_records c.self.inside.here c.self.inside.table.births c.self.inside.profile c.self.inside.table.records kept.rises kept.good;
    })
