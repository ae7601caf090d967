use Rattle.std.proofs.Common.{◌≡◌, []}
use Rattle.hpx_member.specs.Feeding.{AddsNoLine}
use Rattle.hpx_member.specs.Seats.{IsSameSite, Sits}
use Rattle.hpx_member.specs.Words.{IsHeeded}
use Rattle.hpx_member.proofs.worker.WorkerSeat.run.Given as goal

abbrev pub invariant-loop : goal.invariant-loop
invariant-loop g l =
    record {
      sits : Sits g.A.Acts.act_of l.self.seat.node.tables l.self.seat.book.entries [] (g.L.Link.trace l.self.seat.link);
      heeded : IsHeeded l.self.waiting.items (g.L.Link.trace l.self.seat.link);
      site : IsSameSite l.fn.self.seat.node.tables l.self.seat.node.tables;
      unfed : AddsNoLine l.fn.self.seat.book.entries l.self.seat.book.entries;
      calm : g.L.Link.faults l.self.seat.link ≡ g.L.Link.faults l.fn.self.seat.link;
    }
