use Rattle.std.proofs.Common.{◌≡◌, ◌∙◌, ◌++◌, ◌∷◌, [], length, sym, ap, refl, arith, length-append}
use Rattle.hpx_agas.specs.Lines.{in_place, waiting_of}
use Rattle.hpx_agas.proofs.SeenLemmas.{there, requeued, weight_last, last_placed}
use Rattle.hpx_agas.proofs.table.Table.push.Goals as goal

pub push-requires-clause-there : goal.push-requires-clause-there
push-requires-clause-there g c =
    let t = there c.args.gid 0 c.self.inside.births c.self.inside.lines c.self.invariant.lines (rw (← c.self.view_is) at c.requires.there) in
    rw (c.number.ensures, t.found) refl

pub invariant_of-self : goal.invariant_of-self
invariant_of-self g c =
    let t = there c.args.gid 0 c.self.inside.births c.self.inside.lines c.self.invariant.lines (rw (← c.self.view_is) at c.requires.there) in
    let is : c.push.new.self ≡ in_place c.args.gid.number (λ l. record l { queue = l.queue ++ c.args.item ∷ [] } ∷ []) c.self.inside.lines = rw (c.number.ensures, c.fill-more.ensures.queue) at c.push.ensures in
    let r = requeued c.self.inside.births c.args.gid.number (λ q. q ++ c.args.item ∷ []) t.line c.self.inside.lines c.push.new.self c.self.invariant.lines t.found is in
    let one = r.weights (λ ws. length ws) (λ xs ys. length-append xs ys) in
    let two = weight_last (λ ws. length ws) (λ xs ys. length-append xs ys) c.args.gid.number t.line.queue c.args.item in
    record {
      lines = r.kept;
      live = c.self.invariant.live ∙ sym (ap length r.records);
      waiting = omega (arith, c.self.invariant.waiting, one, two);
      most = omega (arith, c.self.invariant.most, c.fill-more.ensures.room);
    }

pub returns-clause-here : goal.returns-clause-here
returns-clause-here g c =
    let t = there c.args.gid 0 c.self.inside.births c.self.inside.lines c.self.invariant.lines (rw (← c.self.view_is) at c.requires.there) in
    let is : c.push.new.self ≡ in_place c.args.gid.number (λ l. record l { queue = l.queue ++ c.args.item ∷ [] } ∷ []) c.self.inside.lines = rw (c.number.ensures, c.fill-more.ensures.queue) at c.push.ensures in
    let r = requeued c.self.inside.births c.args.gid.number (λ q. q ++ c.args.item ∷ []) t.line c.self.inside.lines c.push.new.self c.self.invariant.lines t.found is in
    rw (← c.self.view_is)
    (r.here ∙ ap (λ q. q ++ c.args.item ∷ []) (sym r.old))

pub returns-clause-others : goal.returns-clause-others
returns-clause-others g c =
    let t = there c.args.gid 0 c.self.inside.births c.self.inside.lines c.self.invariant.lines (rw (← c.self.view_is) at c.requires.there) in
    let is : c.push.new.self ≡ in_place c.args.gid.number (λ l. record l { queue = l.queue ++ c.args.item ∷ [] } ∷ []) c.self.inside.lines = rw (c.number.ensures, c.fill-more.ensures.queue) at c.push.ensures in
    let r = requeued c.self.inside.births c.args.gid.number (λ q. q ++ c.args.item ∷ []) t.line c.self.inside.lines c.push.new.self c.self.invariant.lines t.found is in
    rw (← c.self.view_is) r.others

pub returns-clause-all : goal.returns-clause-all
returns-clause-all g c =
    let t = there c.args.gid 0 c.self.inside.births c.self.inside.lines c.self.invariant.lines (rw (← c.self.view_is) at c.requires.there) in
    let is : c.push.new.self ≡ in_place c.args.gid.number (λ l. record l { queue = l.queue ++ c.args.item ∷ [] } ∷ []) c.self.inside.lines = rw (c.number.ensures, c.fill-more.ensures.queue) at c.push.ensures in
    rw (← c.self.view_is)
    (ap waiting_of is ∙ last_placed c.args.gid.number 0 c.self.inside.births c.args.item t.line c.self.inside.lines c.self.invariant.lines t.found)

pub returns-clause-rest : goal.returns-clause-rest
returns-clause-rest g c =
    let t = there c.args.gid 0 c.self.inside.births c.self.inside.lines c.self.invariant.lines (rw (← c.self.view_is) at c.requires.there) in
    let is : c.push.new.self ≡ in_place c.args.gid.number (λ l. record l { queue = l.queue ++ c.args.item ∷ [] } ∷ []) c.self.inside.lines = rw (c.number.ensures, c.fill-more.ensures.queue) at c.push.ensures in
    let r = requeued c.self.inside.births c.args.gid.number (λ q. q ++ c.args.item ∷ []) t.line c.self.inside.lines c.push.new.self c.self.invariant.lines t.found is in
    rw (← c.self.view_is, r.records) refl
