use Rattle.std.specs.Option.{option_to_list}
use Rattle.hpx_node.proofs.Common.{Locality, Tables, ap, arith, get_some, length, remove, slice_get_less, ◌∙◌}
use Rattle.hpx_node.proofs.Committing.{stands_less, stands_then}
use Rattle.hpx_node.proofs.Resumed.{resumed, resumed_kept, rider_same, settled_there}
use Rattle.hpx_node.proofs.Seen.{rider_right}
use Rattle.hpx_node.proofs.node.Node.resume.Goals as goal

pub make-requires : goal.make-requires
make-requires g c =
    let w = get_some c.args.self.now.tables.pending c.args.ready.i c.requires.waits in
    let may = c.requires.may w.0 w.1 in
    let is = may.prepared in record {
      fit = is.limits.fit;
      few = omega (arith, is.limits.births, c.requires.births);
      drawn = may.drawn;
      short = is.stock.few;
      lasts = is.stock.lasts;
      spare = omega (arith, is.limits.births, c.requires.spare);
      page = omega (arith, is.limits.births, is.limits.cuts, c.requires.page);
    }

pub settle_waiting-requires : goal.settle_waiting-requires
settle_waiting-requires g c =
    let t = c.args.self.now.tables in
    let w = get_some t.pending c.args.ready.i c.requires.waits in
    let may = c.requires.may w.0 w.1 in
    let u = c.make.new.self.tables in
    let births = c.args.ready.prepared.births.items in
    let place = may.place in record {
      waits = omega (arith, c.requires.waits, ap (λ (x : Tables). length x.pending) c.make.ensures.made.rest);
      object = stands_less t u births c.make.ensures.made c.args.ready.j place.standing place.stands;
      kept = resumed_kept t w.0 c.args.ready.j c.args.ready.prepared may u (stands_then t u births c.make.ensures.made c.args.ready.j place.standing place.stands);
      answers = omega (arith, ap (λ (x : Tables). x.answered) c.make.ensures.made.rest, c.requires.answers);
      page = omega (arith, may.prepared.limits.births, may.prepared.limits.cuts, c.make.ensures.page, c.requires.page);
    }

pub leave-requires : goal.leave-requires
leave-requires g c =
    let w = get_some c.args.self.now.tables.pending c.args.ready.i c.requires.waits in
    let may = c.requires.may w.0 w.1 in
    let l = may.prepared.limits in
    let same = rider_same c.self.inside.pending.items c.args.self.now.tables.pending c.args.ready.i w.0 c.index.result.now c.action.result.now c.rider-rider.result
    (ap (λ (x : Locality). x.tables.pending) c.self.view_is) w.1 c.index.ensures c.action.ensures c.rider-rider.ensures in
    let there = settled_there c.args.self.now.tables w.0 c.args.ready.i c.args.ready.j c.args.ready.prepared w.1 may c.make.new.self.tables c.settle_waiting.new.self.tables c.make.ensures.made
    c.settle_waiting.ensures.pending c.settle_waiting.ensures.objects c.settle_waiting.ensures.rest in record {
      fit = l.due_fit;
      of = tt;
      right = rider_right c.rider-rider.result w.0.job.action same may.place.job.action.sent.shape may.place.job.action.sent.credit;
      object = slice_get_less c.settle_waiting.new.self.tables.objects c.args.ready.j _ there;
      credit = l.ups_fit;
      spare = omega (arith, l.births, l.due, l.ups, c.make.ensures.spare, c.settle_waiting.ensures.spare, c.requires.spare);
      page = omega (arith, l.births, l.cuts, l.due, l.ups, c.make.ensures.page, c.settle_waiting.ensures.page, c.requires.page);
      few = omega (
        arith,
        l.due,
        ap (λ (x : Tables). x.serial) c.settle_waiting.ensures.rest,
        ap (λ (x : Tables). x.serial) c.make.ensures.made.rest,
        c.requires.serial,
      );
    }

pub returns : goal.returns
returns g c =
    let t = c.args.self.now.tables in
    let w = get_some t.pending c.args.ready.i c.requires.waits in
    let may = c.requires.may w.0 w.1 in
    let same = rider_same c.self.inside.pending.items c.args.self.now.tables.pending c.args.ready.i w.0 c.index.result.now c.action.result.now c.rider-rider.result
    (ap (λ (x : Locality). x.tables.pending) c.self.view_is) w.1 c.index.ensures c.action.ensures c.rider-rider.ensures in
    let done = resumed t w.0 c.args.ready.i c.args.ready.j c.args.ready.prepared w.1 may c.make.new.self.tables c.settle_waiting.new.self.tables c.make.ensures.made
    c.settle_waiting.ensures.pending c.settle_waiting.ensures.objects c.settle_waiting.ensures.rest c.leave.new.self.tables (option_to_list c.rider-rider.result) same c.leave.ensures.goes c.leave.ensures.rest
    c.args.book.now.entries c.make.new.book.entries c.settle_waiting.new.book.entries c.leave.new.book.entries c.make.ensures.entries c.settle_waiting.ensures.entries
    c.leave.ensures.writes in
    record {
      running = ap (λ (x : Tables). x.running) c.leave.ensures.rest ∙ (ap (λ (x : Tables). x.running) c.settle_waiting.ensures.rest ∙ ap (λ (x : Tables). x.running) c.make.ensures.made.rest);
      pending = ap (λ (x : Tables). x.pending) c.leave.ensures.rest ∙ (c.settle_waiting.ensures.pending ∙ ap (λ (x : Tables). remove x.pending c.args.ready.i) c.make.ensures.made.rest);
      taken = ap (λ (x : Tables). x.taken) c.leave.ensures.rest ∙ (ap (λ (x : Tables). x.taken) c.settle_waiting.ensures.rest ∙ ap (λ (x : Tables). x.taken) c.make.ensures.made.rest);
      sent = ap (λ (x : Tables). x.sent) c.leave.ensures.rest ∙ (ap (λ (x : Tables). x.sent) c.settle_waiting.ensures.rest ∙ ap (λ (x : Tables). x.sent) c.make.ensures.made.rest);
      few = done.few;
      light = done.light;
      writes = done.writes;
      commits = done.commits;
    }
