use Rattle.hpx_node.proofs.Common.{Tables, ap, arith, slice_get_less, ◌∙◌}
use Rattle.hpx_node.proofs.Failed.{failed_there, plan_due, plan_ups, plan_few, plan_kept, then_fails, then_writes, then_few}
use Rattle.hpx_node.proofs.TurnSteps.{fails_light}
use Rattle.hpx_node.proofs.node.Node.fail.Goals as goal

pub settle_waiting-requires : goal.settle_waiting-requires
settle_waiting-requires g c = let must = c.requires.must in record {
  waits = slice_get_less c.args.self.now.tables.pending c.args.i must.commit must.there;
  object = slice_get_less c.args.self.now.tables.objects c.args.j must.standing must.stands;
  kept = plan_kept c.args.self.now.tables c.args.i c.args.j c.requires.must c.args.plan c.requires.plan;
  answers = c.requires.answers;
  page = omega (arith, c.requires.page);
}

pub leave-requires : goal.leave-requires
leave-requires g c = let few = plan_few c.args.self.now.tables c.args.i c.args.j c.requires.must c.args.plan c.requires.plan in record {
  right = tt;
  of = tt;
  object = slice_get_less c.settle_waiting.new.self.tables.objects c.args.j _ (failed_there c.args.self.now.tables c.args.i c.args.j c.requires.must c.args.plan c.requires.plan c.settle_waiting.new.self.tables
      c.settle_waiting.ensures.pending c.settle_waiting.ensures.objects c.settle_waiting.ensures.rest);
  fit = plan_due c.args.self.now.tables c.args.i c.args.j c.requires.must c.args.plan c.requires.plan;
  credit = plan_ups c.args.self.now.tables c.args.i c.args.j c.requires.must c.args.plan c.requires.plan;
  spare = omega (arith, few, c.settle_waiting.ensures.spare, c.requires.few, c.requires.spare);
  page = omega (arith, few, c.settle_waiting.ensures.page, c.requires.few, c.requires.page);
  few = omega (arith, few, ap (λ (x : Tables). x.serial) c.settle_waiting.ensures.rest, c.requires.serial);
}

pub returns-clause-fails : goal.returns-clause-fails
returns-clause-fails g c = then_fails c.args.self.now.tables c.args.i c.args.j c.requires.must c.args.plan c.requires.plan c.settle_waiting.new.self.tables c.settle_waiting.ensures.pending c.settle_waiting.ensures.objects
    c.settle_waiting.ensures.rest c.leave.new.self.tables c.leave.ensures.goes c.leave.ensures.rest

pub returns-clause-writes : goal.returns-clause-writes
returns-clause-writes g c = then_writes c.args.self.now.tables c.args.i c.args.j c.requires.must c.args.plan c.requires.plan c.settle_waiting.new.self.tables c.settle_waiting.ensures.pending c.settle_waiting.ensures.objects
    c.settle_waiting.ensures.rest c.leave.new.self.tables c.leave.ensures.goes c.leave.ensures.rest c.args.book.now.entries c.settle_waiting.new.book.entries c.leave.new.book.entries
    c.settle_waiting.ensures.entries c.leave.ensures.writes

pub returns-clause-few : goal.returns-clause-few
returns-clause-few g c = then_few c.args.self.now.tables c.args.i c.args.j c.requires.must c.args.plan c.requires.plan c.settle_waiting.new.self.tables c.settle_waiting.ensures.pending c.settle_waiting.ensures.objects
    c.settle_waiting.ensures.rest c.leave.new.self.tables c.leave.ensures.goes c.leave.ensures.rest c.args.book.now.entries c.settle_waiting.new.book.entries c.leave.new.book.entries
    c.settle_waiting.ensures.entries c.leave.ensures.writes c.requires.few

pub returns-clause-running : goal.returns-clause-running
returns-clause-running g c = ap (λ (x : Tables). x.running) c.leave.ensures.rest ∙ ap (λ (x : Tables). x.running) c.settle_waiting.ensures.rest

pub returns-clause-taken : goal.returns-clause-taken
returns-clause-taken g c = ap (λ (x : Tables). x.taken) c.leave.ensures.rest ∙ ap (λ (x : Tables). x.taken) c.settle_waiting.ensures.rest

pub returns-clause-sent : goal.returns-clause-sent
returns-clause-sent g c = ap (λ (x : Tables). x.sent) c.leave.ensures.rest ∙ ap (λ (x : Tables). x.sent) c.settle_waiting.ensures.rest

pub returns-clause-light : goal.returns-clause-light
returns-clause-light g c =
    let must = c.requires.must in
    fails_light c.args.self.now.tables c.leave.new.self.tables must.commit c.args.plan c.args.book.now.entries c.leave.new.book.entries
    (c.requires.plan must.commit must.there) c.requires.few (returns-clause-writes g c must.commit must.there)
