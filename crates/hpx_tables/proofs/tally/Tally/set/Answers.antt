use Rattle.std.proofs.Common.{◌∙◌, ap, cond, sym, Some, None}
use Rattle.hpx_value.specs.Ids.{same_object}
use Rattle.hpx_tables.proofs.Counted.{number_set}
use Rattle.hpx_tables.specs.Tallies.{number_of}
use Rattle.hpx_tables.proofs.tally.Tally.set.Goals as goal

pub returns-then-n-eq0 : goal.returns-then-n-eq0
returns-then-n-eq0 c kept = (
  kept,
  λ o. number_set c.key_of-key.result c.args.gid c.key_of-key.ensures c.args.self.now.numbers.entries c.swap_remove.new.self.entries None c.swap_remove.ensures.updates.0 o
      ∙ ap (λ n. cond (same_object c.args.gid o) n (number_of c.args.self.now o)) (sym c.if-n-eq0.true),
)

pub returns-in-Ok : goal.returns-in-Ok
returns-in-Ok c kept = (
  kept,
  λ o. number_set c.key_of-key.result c.args.gid c.key_of-key.ensures c.args.self.now.numbers.entries c.insert.new.self.entries (Some c.args.n) c.in-Ok.ensures.updates.0 o,
)
