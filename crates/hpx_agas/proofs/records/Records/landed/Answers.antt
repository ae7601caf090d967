use Rattle.std.proofs.Common.{None, Some, ◌≡◌, ◌∙◌, arith}
use Rattle.hpx_agas.specs.Records.{find_record}
use Rattle.hpx_agas.specs.declared.record.Record.{Record}
use Rattle.hpx_agas.proofs.SeenLemmas.{remade_found}
use Rattle.hpx_agas.proofs.records.Records.landed.Goals as goal

pub returns-clause-records : goal.returns-clause-records
returns-clause-records g c =
    let found : find_record c.args.gid c.args.self.now.records ≡ Some c.in_ok-record.record = rw (← c.self.view_is) (grind (arith, c.find.ensures.value, c.in_ok-record.ensures.value, c.in_ok-record.ensures.ok_part, c.in_ok-record.was)) in
    c.set.ensures.records ∙ remade_found c.args.gid (λ (r : Record). record r { place = c.args.place; moving = None }) c.in_ok-record.record c.args.self.now.records found
