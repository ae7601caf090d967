use Rattle.std.specs.Option.{option_to_list}
use Rattle.hpx_node.proofs.Common.{Job, KeepsLaws, Tables, ap, arith, plain, rider_of, slice_get, slice_get_less, subst, ◌<◌, ◌∙◌}
use Rattle.hpx_node.proofs.Committing.{stands_less, stands_then}
use Rattle.hpx_node.proofs.Seen.{rider_right}
use Rattle.hpx_node.proofs.Runs.{settled_there, runs_commits, runs_goes, runs_kept, runs_notes, runs_stands, runs_written}
use Rattle.hpx_node.proofs.Told.{told_of}
use Rattle.hpx_node.proofs.Turned.{are_few, at_rest_tidy}
use Rattle.hpx_node.proofs.TurnSteps.{adds_commit}
use Rattle.hpx_node.proofs.node.Node.commit.Goals as goal

pub make-requires : goal.make-requires
make-requires g c = let l = c.requires.prepared.limits in record {
  fit = l.fit;
  few = omega (arith, l.births, (are_few g.A.Acts.act_of _ _ c.requires.room c.requires.stands).births);
  drawn = (at_rest_tidy g.A.Acts.act_of _ _ c.requires.stands).drawn;
  short = c.requires.prepared.stock.few;
  lasts = c.requires.prepared.stock.lasts;
  spare = omega (arith, l.births, c.requires.spare);
  page = omega (arith, l.births, l.cuts, c.requires.page);
}

pub settle-requires : goal.settle-requires
settle-requires g c =
    let d = c.args.done.now in
    let t = c.args.self.now.tables in
    let u = c.make.new.self.tables in
    let laws = subst (λ n. KeepsLaws n d.job.kind d.job.at d.job.state (plain d.job.action) d.outcome) c.requires.localities c.requires.laws in
    let at = c.requires.at in
    let births = c.args.prepared.births.items in
    let l = c.requires.prepared.limits in record {
      action = slice_get_less u.running c.args.i d.job.action (ap (λ (x : Tables). slice_get x.running c.args.i) c.make.ensures.made.rest ∙ at.runs);
      object = stands_less t u births c.make.ensures.made c.args.j at.standing at.stands;
      kept = runs_kept t d.job d.outcome c.requires.fit c.requires.few laws c.args.prepared c.requires.prepared c.args.i c.args.j at
          (at_rest_tidy g.A.Acts.act_of _ _ c.requires.stands) u (stands_then t u births c.make.ensures.made c.args.j at.standing at.stands);
      answers = omega (arith, ap (λ (x : Tables). x.answered) c.make.ensures.made.rest, (are_few g.A.Acts.act_of _ _ c.requires.room c.requires.stands).answers);
      page = omega (arith, l.births, l.cuts, c.make.ensures.page, c.requires.page);
    }

pub leave-requires : goal.leave-requires
leave-requires g c = let l = c.requires.prepared.limits in record {
  fit = l.due_fit;
  right = rider_right c.rider.result c.args.done.now.job.action (c.rider.ensures ∙ ap (λ (j : Job). rider_of j.action) c.job-2.ensures) c.requires.fit.action.sent.shape c.requires.fit.action.sent.credit;
  of = told_of c.args.done.now.job.action c.args.prepared.plan.ups.items c.settle.new.self.tables.came c.note-told.new.self.tables.came c.note-told.result
      (rw (c.job.ensures, c.as_slice.ensures.value) at c.note-told.ensures.notes);
  object = slice_get_less c.note-told.new.self.tables.objects c.args.j _ (ap (λ (x : Tables). slice_get x.objects c.args.j) c.note-told.ensures.rest ∙ settled_there c.args.self.now.tables c.args.done.now.job c.args.done.now.outcome c.args.prepared c.requires.prepared c.requires.own c.args.i c.args.j c.requires.at
      c.make.new.self.tables c.settle.new.self.tables c.make.ensures.made c.settle.ensures.running c.settle.ensures.objects c.settle.ensures.rest);
  credit = l.ups_fit;
  spare = omega (arith, l.births, l.due, l.ups, c.make.ensures.spare, c.settle.ensures.spare, c.note-told.ensures.spare, c.requires.spare);
  page = omega (arith, l.births, l.cuts, l.due, l.ups, c.make.ensures.page, c.settle.ensures.page, c.requires.page);
  few = omega (
    arith,
    (are_few g.A.Acts.act_of _ _ c.requires.room c.requires.stands).serial,
    ap (λ (x : Tables). x.serial) c.note-told.ensures.rest,
    ap (λ (x : Tables). x.serial) c.settle.ensures.rest,
    ap (λ (x : Tables). x.serial) c.make.ensures.made.rest,
    l.due,
  );
}

pub returns : goal.returns
returns g c =
    let d = c.args.done.now in
    let t = c.args.self.now.tables in
    let p = c.args.prepared in
    let laws = subst (λ n. KeepsLaws n d.job.kind d.job.at d.job.state (plain d.job.action) d.outcome) c.requires.localities c.requires.laws in
    let right = d.right ∙ ap (λ n. g.A.Acts.act_of n d.job.kind d.job.at d.job.state (plain d.job.action)) c.requires.localities in
    let below = subst (λ n. d.job.at < n) c.requires.localities c.requires.here in
    let same = c.rider.ensures ∙ ap (λ (j : Job). rider_of j.action) c.job-2.ensures in
    let came = c.note-told.new.self.tables.came in
    let notes = rw (c.job.ensures, c.as_slice.ensures.value) at c.note-told.ensures.notes in
    let goes = rw c.note-told.ensures.rest at c.leave.ensures.goes in
    let sends = rw c.note-told.ensures.rest at c.leave.ensures.rest in
    let writes = rw c.note-told.ensures.rest at c.leave.ensures.writes in
    let written = runs_written t d.job d.outcome p c.requires.prepared c.requires.own c.args.i c.args.j c.requires.at c.make.new.self.tables
    c.settle.new.self.tables c.make.ensures.made c.settle.ensures.running c.settle.ensures.objects c.settle.ensures.rest c.leave.new.self.tables (option_to_list c.rider.result) same c.note-told.result came notes goes
    sends c.args.book.now.entries c.make.new.book.entries c.settle.new.book.entries c.leave.new.book.entries c.make.ensures.entries c.settle.ensures.entries
    writes in
    record {
      stands = runs_stands g.A.Acts.act_of g.met.A.Acts.is_blind t c.leave.new.self.tables d.job d.outcome c.requires.fit c.requires.few laws right p c.requires.prepared
          c.requires.own c.args.i c.args.j c.requires.at below c.args.book.now.entries c.leave.new.book.entries c.requires.stands written c.note-told.result came
          (runs_notes t d.job d.outcome p c.requires.prepared c.requires.own c.args.i c.args.j c.requires.at c.make.new.self.tables
          c.settle.new.self.tables c.make.ensures.made c.settle.ensures.running c.settle.ensures.objects c.settle.ensures.rest c.leave.new.self.tables (option_to_list c.rider.result) same c.note-told.result came
          notes goes sends)
          (runs_goes t d.job d.outcome p c.requires.prepared c.requires.own c.args.i c.args.j c.requires.at c.make.new.self.tables
          c.settle.new.self.tables c.make.ensures.made c.settle.ensures.running c.settle.ensures.objects c.settle.ensures.rest c.leave.new.self.tables (option_to_list c.rider.result) same c.note-told.result came
          notes goes sends);
      turn = adds_commit t d.job d.outcome p c.requires.prepared c.requires.own c.leave.new.self.tables c.args.book.now.entries c.leave.new.book.entries written;
      committed = written;
      ends = runs_commits t d.job d.outcome p c.requires.prepared c.requires.own c.args.i c.args.j c.requires.at c.make.new.self.tables
          c.settle.new.self.tables c.make.ensures.made c.settle.ensures.running c.settle.ensures.objects c.settle.ensures.rest c.leave.new.self.tables (option_to_list c.rider.result) same c.note-told.result came
          notes goes sends;
    }
