use Rattle.std.proofs.Common.{◌≡◌}
use Rattle.hpx_steps.specs.Rest.{rules_of}
use Rattle.hpx_member.specs.Leads.{IsReady, Leads}
use Rattle.hpx_member.specs.Rounds.{MayGoOn}
use Rattle.hpx_member.specs.Seats.{IsSameSite}
use Rattle.hpx_member.specs.Serves.{Asking, Serves}
use Rattle.hpx_member.specs.Talks.{Only}
use Rattle.hpx_member.proofs.console.ConsoleSeat.serve.Given as goal

abbrev pub invariant-loop : goal.invariant-loop
invariant-loop g l =
    record {
      leads : Leads g.A.Acts.act_of l.self.others l.self.settles l.self.phase l.self.seat.node.tables l.self.seat.book.entries (g.L.Link.trace l.self.seat.link) l.self.waves;
      ready : IsReady l.self.seat.node.tables;
      next : MayGoOn l.self.settles l.self.waves l.self.phase;
      serves : (first : _) → Serves (rules_of g.A.Acts.act_of l.fn.self.seat.node.tables.localities l.fn.self.seat.node.tables.profile) l.fn.self.seat.book.entries (Only (g.I.Lines.went first l.fn.lines)) Asking
          → Serves (rules_of g.A.Acts.act_of l.self.seat.node.tables.localities l.self.seat.node.tables.profile) l.self.seat.book.entries (Only (g.I.Lines.went first l.lines)) Asking;
      same : (l.self.others ≡ l.fn.self.others) × (l.self.settles ≡ l.fn.self.settles);
      site : IsSameSite l.fn.self.seat.node.tables l.self.seat.node.tables;
      calm : (g.L.Link.faults l.self.seat.link ≡ g.L.Link.faults l.fn.self.seat.link) × (g.I.Lines.reads l.lines ≡ g.I.Lines.reads l.fn.lines) × (g.I.Lines.writes l.lines ≡ g.I.Lines.writes l.fn.lines);
    }
