use Rattle.std.proofs.Common.{Some, ◌≡◌, ◌∙◌, sym}
use Rattle.hpx_agas.specs.Records.{find_record}
use Rattle.hpx_agas.specs.declared.record.Record.{Record}
use Rattle.hpx_agas.proofs.SeenLemmas.{remade_found}
use Rattle.hpx_agas.proofs.records.Records.begin_move.Goals as goal

pub returns-in-Some-clause-records : goal.returns-in-Some-clause-records
returns-in-Some-clause-records g c =
    let found : find_record c.args.gid c.args.self.now.records ≡ Some c.in-Some.record = rw (← c.self.view_is) (sym c.in-Some.ensures.value) in
    c.set.ensures.records ∙ remade_found c.args.gid (λ (r : Record). record r { moving = Some c.args.to }) c.in-Some.record c.args.self.now.records found
