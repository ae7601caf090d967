use Rattle.std.proofs.Common.{◌↔◌, drop}
use Rattle.hpx_journal.specs.Rows.{AreMade}
use Rattle.hpx_replay.proofs.act_rows.are_made.Given as goal

abbrev pub invariant-loop-i : goal.invariant-loop-i
invariant-loop-i l = AreMade l.makes l.fresh l.objects ↔ AreMade (drop l.i l.makes) (drop l.i l.fresh) l.objects
