use Rattle.std.proofs.Common.{◌≡◌, find, take, None}
use Rattle.hpx_options.specs.Table.{is_option}
use Rattle.hpx_options.proofs.table.option_named.Given as goal

abbrev pub invariant-loop-option : goal.invariant-loop-option
invariant-loop-option l = find (is_option l.application l.word) (take l.option-index l.option-items) ≡ None
