use Rattle.std.proofs.Common.{arith, refl, ap}
use Rattle.std.specs.Option.{option_map_or}
use Rattle.hpx_ids.specs.Tables.{credit_at}
use Rattle.hpx_ids.proofs.Sums.{one_changed}
use Rattle.hpx_ids.proofs.ids.Ids.adopt.Goals as goal

pub returns-clause-credits : goal.returns-clause-credits
returns-clause-credits c =
    let made = c.insert_reserved.ensures in
    rw (← c.self.view_is)
    (λ o. omega (
      arith,
      one_changed (credit_at o) refl c.insert_reserved.result c.self.inside.table.slots c.insert_reserved.new.self.slots made.updates.others,
      ap (credit_at o) made.was_vacant,
      ap (credit_at o) made.updates.changed,
    ))

pub returns-clause-sums : goal.returns-clause-sums
returns-clause-sums c =
    let made = c.insert_reserved.ensures in
    rw (← c.self.view_is)
    (λ f. omega (
      arith,
      one_changed (λ slot. option_map_or f slot 0) refl c.insert_reserved.result c.self.inside.table.slots c.insert_reserved.new.self.slots made.updates.others,
      ap (λ slot. option_map_or f slot 0) made.was_vacant,
      ap (λ slot. option_map_or f slot 0) made.updates.changed,
    ))
