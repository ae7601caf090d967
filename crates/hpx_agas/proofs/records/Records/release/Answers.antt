use Rattle.std.proofs.Common.{◌≡◌, ◌∙◌, [], is_some, sym, ap}
use Rattle.std.specs.Prelude.{if◌then◌else◌}
use Rattle.hpx_agas.specs.Records.{find_record}
use Rattle.hpx_agas.specs.Queues.{items_of}
use Rattle.hpx_agas.proofs.RegistriesLemmas.{queues_stay}
use Rattle.hpx_agas.proofs.records.Records.release.Goals as goal

pub returns-clause-queues : goal.returns-clause-queues
returns-clause-queues g c =
    let kept = c.self.invariant in
    let records : c.pop.new.self.records ≡ c.self.inside.table.records = ap (λ t. t.records) c.pop.ensures.rest in
    rw (← c.self.view_is)
    (λ o away.
    ap (λ rs. if is_some (find_record o rs) then items_of o.number c.pop.new.self.waiting else []) records
    ∙ queues_stay c.self.inside.table.records c.self.inside.table.waiting c.pop.new.self.waiting c.args.gid c.in_ok-find.field-0 kept.rises (sym c.in_ok-find.ensures.value) c.pop.ensures.others o away)
