use Rattle.std.proofs.Common.{◌≡◌, find, take, None}
use Rattle.std.specs.Str.{bytes_eq}
use Rattle.hpx_options.specs.Table.{word_of}
use Rattle.hpx_options.proofs.table.application_named.Given as goal

abbrev pub invariant-loop-application : goal.invariant-loop-application
invariant-loop-application l = find (λ application. bytes_eq l.word (word_of application)) (take l.application-index l.application-items) ≡ None
