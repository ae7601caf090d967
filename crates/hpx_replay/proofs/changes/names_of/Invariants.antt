use Rattle.std.proofs.Common.{◌≡◌, ◌++◌, drop, map}
use Rattle.hpx_journal.specs.Entries.{name_of}
use Rattle.hpx_replay.proofs.changes.names_of.Given as goal

abbrev pub invariant-loop-act : goal.invariant-loop-act
invariant-loop-act l = l.out.items ++ map name_of (drop l.act-index l.acts) ≡ map name_of l.acts
