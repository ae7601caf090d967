use Rattle.hpx_node.proofs.Common.{Entry, Id, List, Option, length, ◌-◌, ◌≡◌, ◌≤◌}
use Rattle.hpx_steps.specs.Rest.{StandsBut}
use Rattle.hpx_node.specs.Behind.{releases}
use Rattle.hpx_node.proofs.node.Node.release.Given as goal

-- what has gone its way so far and what has not is all that goes
abbrev pub invariant-loop : goal.invariant-loop
invariant-loop g l = record {
  stands : (landed : Option Id) × (entries : List Entry) × StandsBut landed g.A.Acts.act_of l.self.tables entries;
  spare : l.end - l.counter ≤ l.self.spare;
  goes : releases (l.end - l.counter) l.o l.self.tables ≡ releases l.end l.o l.fn.self.tables;
  all : l.end ≡ length l.fn.self.tables.queued;
}
