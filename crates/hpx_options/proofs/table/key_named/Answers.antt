use Rattle.std.proofs.Common.{arith, sym}
use Rattle.hpx_options.specs.Table.{all_options, is_key}
use Rattle.hpx_options.proofs.Finds.{find_none_more}
use Rattle.hpx_options.proofs.table.key_named.Goals as goal

pub loop-option-preserved : goal.loop-option-preserved
loop-option-preserved c =
    find_none_more (is_key c.args.word.now) all_options c.loop-option.option-index _ (omega arith) c.loop-option.invariant (sym c.if-is_key.ensures)
