use Rattle.std.proofs.Common.{◌≡◌}
use Rattle.hpx_member.specs.Feeding.{AddsNoLine}
use Rattle.hpx_member.specs.Leads.{Leads}
use Rattle.hpx_member.specs.Rounds.{IsDue}
use Rattle.hpx_member.specs.Seats.{IsSameSite}
use Rattle.hpx_member.proofs.console.ConsoleSeat.round.Given as goal

abbrev pub invariant-loop : goal.invariant-loop
invariant-loop g l =
    record {
      due : IsDue l.self.settles l.self.phase;
      leads : Leads g.A.Acts.act_of l.self.others l.self.settles l.self.phase l.self.seat.node.tables l.self.seat.book.entries (g.L.Link.trace l.self.seat.link) l.self.waves;
      same : (l.self.others ≡ l.fn.self.others) × (l.self.settles ≡ l.fn.self.settles) × (l.self.phase ≡ l.fn.self.phase);
      site : IsSameSite l.fn.self.seat.node.tables l.self.seat.node.tables;
      unfed : AddsNoLine l.fn.self.seat.book.entries l.self.seat.book.entries;
      calm : g.L.Link.faults l.self.seat.link ≡ g.L.Link.faults l.fn.self.seat.link;
    }
