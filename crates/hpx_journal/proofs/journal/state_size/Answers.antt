-- When all values are counted, the bytes so far are those of all.
use Rattle.std.proofs.Common.{ap, arith}
use Rattle.std.proofs.lemmas.List.{drop_all}
use Rattle.hpx_value.specs.Shapes.{values_size}
use Rattle.hpx_journal.proofs.journal.state_size.Goals as goal

pub returns : goal.returns
returns c =
    let none = ap values_size (drop_all c.loop-value.value-index c.as_slice-value-items.result.now (omega (arith, c.loop-value-test.false))) in
    omega (arith, none, c.loop-value.invariant.so_far, c.loop-value.invariant.small)
