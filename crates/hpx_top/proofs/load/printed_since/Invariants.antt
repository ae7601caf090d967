use Rattle.std.specs.List.{concat}
use Rattle.std.proofs.Common.{◌≡◌, ◌++◌, drop}
use Rattle.hpx_journal.specs.Pool.{prints_of}
use Rattle.hpx_top.proofs.load.printed_since.Given as goal

-- what the entries before i print is in the text
abbrev pub invariant-loop-i : goal.invariant-loop-i
invariant-loop-i l = l.text.items ++ concat (prints_of (drop l.i l.journal.entries)) ≡ concat (prints_of (drop l.fn.cut l.journal.entries))
