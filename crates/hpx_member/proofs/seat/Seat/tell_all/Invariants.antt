use Rattle.std.proofs.Common.{◌≡◌, []}
use Rattle.hpx_ports.specs.Told.{followed}
use Rattle.hpx_member.specs.Rounds.{told_all}
use Rattle.hpx_member.specs.Seats.{Sits}
use Rattle.hpx_member.proofs.seat.Seat.tell_all.Given as goal

abbrev pub invariant-loop-i : goal.invariant-loop-i
invariant-loop-i g l =
    record {
      sits : Sits g.A.Acts.act_of l.self.node.tables l.self.book.entries [] (g.L.Link.trace l.self.link);
      node : l.self.node ≡ l.fn.self.node;
      book : l.self.book ≡ l.fn.self.book;
      told : g.L.Link.trace l.self.link ≡ followed (g.L.Link.trace l.fn.self.link) (told_all l.body l.i);
      calm : g.L.Link.faults l.self.link ≡ g.L.Link.faults l.fn.self.link;
    }
