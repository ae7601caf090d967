use Rattle.std.proofs.Common.{◌≡◌, ◌≤◌, ◌++◌, drop, length}
use Rattle.hpx_part.specs.Parts.{at_all}
use Rattle.hpx_tables.specs.Splits.{asked_events}
use Rattle.hpx_tables.proofs.splits.push_asks.Given as goal

abbrev pub invariant-loop-id : goal.invariant-loop-id
invariant-loop-id l = record {
  page : length (drop l.id-index l.ids) ≤ l.book.spare;
  entries : l.book.entries ++ at_all l.here (asked_events (drop l.id-index l.ids)) ≡ l.fn.book.entries ++ at_all l.here (asked_events l.ids);
}
