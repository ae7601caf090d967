use Rattle.std.proofs.Common.{◌≡◌, ◌++◌, drop, map}
use Rattle.hpx_journal.specs.Data.{Act}
use Rattle.hpx_journal.specs.Entries.{name_of}
use Rattle.hpx_journal.specs.declared.entry.Refusal.{Refusal}
use Rattle.hpx_replay.proofs.changes.refusals_of.Given as goal

abbrev pub invariant-loop-i : goal.invariant-loop-i
invariant-loop-i l =
    let f : Act → Refusal = λ act. record { action = name_of act; object = l.o } in
    l.out.items ++ map f (drop l.i l.fired) ≡ map f l.fired
