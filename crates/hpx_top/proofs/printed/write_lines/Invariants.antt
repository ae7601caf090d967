use Rattle.std.specs.Prelude.{codes}
use Rattle.std.specs.List.{concat}
use Rattle.std.proofs.Common.{◌≡◌, ◌++◌, map, drop}
use Rattle.hpx_top.specs.Printed.{on_lines}
use Rattle.hpx_top.specs.Session.{WritesUpTo}
use Rattle.hpx_top.proofs.printed.write_lines.Given as goal

-- the texts before this one were written
abbrev pub invariant-loop-text : goal.invariant-loop-text
invariant-loop-text g l =
    WritesUpTo (concat (map (λ text. text ++ codes "\n") (drop l.text-index l.text-items))) (on_lines l.text-items) (g.K.Sink.held l.fn.sink) (g.K.Sink.held l.sink)
    × (g.K.Sink.faults l.sink ≡ g.K.Sink.faults l.fn.sink)
