use Rattle.std.proofs.Common.{take}
use Rattle.app_console.specs.Lines.{IsPiece}
use Rattle.hpx_top.proofs.reader.pending.newline_in.Given as goal

abbrev pub invariant-loop-i : goal.invariant-loop-i
invariant-loop-i l = IsPiece (take l.i l.bytes)
