use Rattle.std.proofs.Common.{◌≡◌, ◌++◌, map, take}
use Rattle.hpx_tables.specs.Kept.{HasRecords}
use Rattle.hpx_node.specs.Locality.{tables_of}
use Rattle.hpx_world.specs.Audit.{audit_line}
use Rattle.hpx_world.proofs.audit.push_lines.Given as goal

abbrev pub invariant-loop-i : goal.invariant-loop-i
invariant-loop-i g l = HasRecords l.node.tables × (l.lines ≡ l.fn.lines ++ map (audit_line (tables_of l.nodes)) (take l.i l.node.tables.records))
