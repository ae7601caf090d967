use Rattle.std.specs.List.{concat}
use Rattle.std.proofs.Common.{◌≡◌, map, drop}
use Rattle.hpx_own.specs.Texts.{audit_text, line_text}
use Rattle.hpx_top.specs.Session.{WritesUpTo}
use Rattle.hpx_top.proofs.own.write_lines.Given as goal

-- the lines before this one were written
abbrev pub invariant-loop-line : goal.invariant-loop-line
invariant-loop-line g l =
    WritesUpTo (concat (map line_text (drop l.line-index l.lines))) (audit_text l.lines) (g.K.Sink.held l.fn.sink) (g.K.Sink.held l.sink)
    × (g.K.Sink.faults l.sink ≡ g.K.Sink.faults l.fn.sink)
