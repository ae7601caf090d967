use Rattle.std.proofs.Common.{take}
use Rattle.hpx_journal.specs.Whole.{IsLegal, replayed}
use Rattle.hpx_replay.specs.Spaces.{Shows, rules_of}
use Rattle.hpx_replay.proofs.replay.judge.Given as goal

abbrev pub invariant-loop-i : goal.invariant-loop-i
invariant-loop-i g l = record {
  legal : IsLegal (rules_of (g.A.Acts.count l.acts) l.profile g.A.Acts.act_of) (take l.i l.journal.entries);
  shows : Shows (rules_of (g.A.Acts.count l.acts) l.profile g.A.Acts.act_of) l.space (replayed (rules_of (g.A.Acts.count l.acts) l.profile g.A.Acts.act_of) (take l.i l.journal.entries));
}
