use Rattle.std.proofs.Common.{◌≡◌, false}
use Rattle.hpx_ended.specs.Tally.{waits}
use Rattle.hpx_member.specs.Feeding.{AddsNoLine}
use Rattle.hpx_member.specs.Leads.{Leads}
use Rattle.hpx_member.specs.Seats.{IsSameSite}
use Rattle.hpx_member.proofs.console.ConsoleSeat.settle.Given as goal

abbrev pub invariant-loop : goal.invariant-loop
invariant-loop g l =
    record {
      leads : Leads g.A.Acts.act_of l.self.others l.self.settles l.self.phase l.self.seat.node.tables l.self.seat.book.entries (g.L.Link.trace l.self.seat.link) l.self.waves;
      same : (l.self.others ≡ l.fn.self.others) × (l.self.settles ≡ l.fn.self.settles) × (l.self.phase ≡ l.fn.self.phase);
      site : IsSameSite l.fn.self.seat.node.tables l.self.seat.node.tables;
      unfed : AddsNoLine l.fn.self.seat.book.entries l.self.seat.book.entries;
      waves : waits l.fn.self.waves ≡ false → l.self.waves ≡ l.fn.self.waves;
      calm : g.L.Link.faults l.self.seat.link ≡ g.L.Link.faults l.fn.self.seat.link;
    }
