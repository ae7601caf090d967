use Rattle.std.proofs.Common.{◌≡◌, drop}
use Rattle.std.specs.List.{find}
use Rattle.hpx_tables.specs.Pending.{is_asked_for}
use Rattle.hpx_tables.proofs.pending.Pending.ask_at.Given as goal

abbrev pub invariant-loop-k : goal.invariant-loop-k
invariant-loop-k g l = find (is_asked_for l.self l.o l.entry) l.self.asked ≡ find (is_asked_for l.self l.o l.entry) (drop l.k l.self.asked)
