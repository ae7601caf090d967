use Rattle.std.proofs.Common.{◌≡◌, find, take, None}
use Rattle.hpx_options.specs.Table.{is_key}
use Rattle.hpx_options.proofs.table.key_named.Given as goal

abbrev pub invariant-loop-option : goal.invariant-loop-option
invariant-loop-option l = find (is_key l.word) (take l.option-index l.option-items) ≡ None
