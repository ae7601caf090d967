use Rattle.std.proofs.Common.{◌↔◌, drop}
use Rattle.hpx_journal.specs.Rows.{AreWaiting}
use Rattle.hpx_replay.proofs.frame_rows.are_waiting.Given as goal

abbrev pub invariant-loop-act : goal.invariant-loop-act
invariant-loop-act l = AreWaiting l.local l.acts ↔ AreWaiting l.local (drop l.act-index l.acts)
