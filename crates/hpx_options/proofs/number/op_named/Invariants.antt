use Rattle.std.proofs.Common.{◌≡◌, find, take, None}
use Rattle.std.specs.Str.{bytes_eq}
use Rattle.hpx_options.specs.Values.{op_word}
use Rattle.hpx_options.proofs.number.op_named.Given as goal

abbrev pub invariant-loop-op : goal.invariant-loop-op
invariant-loop-op l = find (λ op. bytes_eq l.word (op_word op)) (take l.op-index l.op-items) ≡ None
