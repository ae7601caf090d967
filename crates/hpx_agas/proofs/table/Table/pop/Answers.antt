use Rattle.std.proofs.Common.{◌≡◌, ◌∙◌, ◌∷◌, [], length, drop, sym, ap, refl, arith, length-append}
use Rattle.hpx_agas.specs.Lines.{in_place, waiting_of}
use Rattle.hpx_agas.proofs.TablesLemmas.{queue_within}
use Rattle.hpx_agas.proofs.SeenLemmas.{there, requeued, weight_first, untouched, first_placed, first_found}
use Rattle.hpx_agas.proofs.table.Table.pop.Goals as goal

pub pop-requires : goal.pop-requires
pop-requires g c =
    let t = there c.args.gid 0 c.self.inside.births c.self.inside.lines c.self.invariant.lines (rw (← c.self.view_is) at c.requires) in
    rw (c.number.ensures, t.found) refl

pub invariant_of-self : goal.invariant_of-self
invariant_of-self g c =
    let t = there c.args.gid 0 c.self.inside.births c.self.inside.lines c.self.invariant.lines (rw (← c.self.view_is) at c.requires) in
    let is : c.pop.new.self ≡ in_place c.args.gid.number (λ l. record l { queue = drop 1 l.queue } ∷ []) c.self.inside.lines = rw c.number.ensures at c.pop.ensures.lines in
    let none : t.line.queue ≡ [] = rw (c.in_err-item.was, c.number.ensures, t.found) at c.pop.ensures.item in
    let same : c.pop.new.self ≡ c.self.inside.lines = is ∙ untouched c.args.gid.number t.line c.self.inside.lines t.found none in
    rw same c.self.invariant

pub returns-in_err-item-clause-item : goal.returns-in_err-item-clause-item
returns-in_err-item-clause-item g c =
    let t = there c.args.gid 0 c.self.inside.births c.self.inside.lines c.self.invariant.lines (rw (← c.self.view_is) at c.requires) in
    let is : c.pop.new.self ≡ in_place c.args.gid.number (λ l. record l { queue = drop 1 l.queue } ∷ []) c.self.inside.lines = rw c.number.ensures at c.pop.ensures.lines in
    let none : t.line.queue ≡ [] = rw (c.in_err-item.was, c.number.ensures, t.found) at c.pop.ensures.item in
    let r = requeued c.self.inside.births c.args.gid.number (λ q. drop 1 q) t.line c.self.inside.lines c.pop.new.self c.self.invariant.lines t.found is in
    rw (c.from_residual.ensures, ← c.self.view_is) (r.old ∙ none)

pub returns-in_err-item-clause-none : goal.returns-in_err-item-clause-none
returns-in_err-item-clause-none g c =
    let t = there c.args.gid 0 c.self.inside.births c.self.inside.lines c.self.invariant.lines (rw (← c.self.view_is) at c.requires) in
    let is : c.pop.new.self ≡ in_place c.args.gid.number (λ l. record l { queue = drop 1 l.queue } ∷ []) c.self.inside.lines = rw c.number.ensures at c.pop.ensures.lines in
    let none : t.line.queue ≡ [] = rw (c.in_err-item.was, c.number.ensures, t.found) at c.pop.ensures.item in
    let same : c.pop.new.self ≡ c.self.inside.lines = is ∙ untouched c.args.gid.number t.line c.self.inside.lines t.found none in
    rw (c.from_residual.ensures, ← c.self.view_is, same) refl

pub returns-in_err-item-clause-others : goal.returns-in_err-item-clause-others
returns-in_err-item-clause-others g c =
    let t = there c.args.gid 0 c.self.inside.births c.self.inside.lines c.self.invariant.lines (rw (← c.self.view_is) at c.requires) in
    let is : c.pop.new.self ≡ in_place c.args.gid.number (λ l. record l { queue = drop 1 l.queue } ∷ []) c.self.inside.lines = rw c.number.ensures at c.pop.ensures.lines in
    let none : t.line.queue ≡ [] = rw (c.in_err-item.was, c.number.ensures, t.found) at c.pop.ensures.item in
    let same : c.pop.new.self ≡ c.self.inside.lines = is ∙ untouched c.args.gid.number t.line c.self.inside.lines t.found none in
    rw (← c.self.view_is, same) (λ n away. refl)

pub returns-in_err-item-clause-rest : goal.returns-in_err-item-clause-rest
returns-in_err-item-clause-rest g c =
    let t = there c.args.gid 0 c.self.inside.births c.self.inside.lines c.self.invariant.lines (rw (← c.self.view_is) at c.requires) in
    let is : c.pop.new.self ≡ in_place c.args.gid.number (λ l. record l { queue = drop 1 l.queue } ∷ []) c.self.inside.lines = rw c.number.ensures at c.pop.ensures.lines in
    let none : t.line.queue ≡ [] = rw (c.in_err-item.was, c.number.ensures, t.found) at c.pop.ensures.item in
    let same : c.pop.new.self ≡ c.self.inside.lines = is ∙ untouched c.args.gid.number t.line c.self.inside.lines t.found none in
    rw (← c.self.view_is, same) refl

pub overflow_sub-self : goal.overflow_sub-self
overflow_sub-self g c =
    let t = there c.args.gid 0 c.self.inside.births c.self.inside.lines c.self.invariant.lines (rw (← c.self.view_is) at c.requires) in
    let first : t.line.queue ≡ c.in_ok-item.item ∷ drop 1 t.line.queue = rw (c.in_ok-item.was, c.number.ensures, t.found) at c.pop.ensures.item in
    omega (arith, c.self.invariant.waiting, queue_within c.args.gid.number t.line c.self.inside.lines t.found, ap length first)

pub invariant_of-self-2 : goal.invariant_of-self-2
invariant_of-self-2 g c =
    let t = there c.args.gid 0 c.self.inside.births c.self.inside.lines c.self.invariant.lines (rw (← c.self.view_is) at c.requires) in
    let is : c.pop.new.self ≡ in_place c.args.gid.number (λ l. record l { queue = drop 1 l.queue } ∷ []) c.self.inside.lines = rw c.number.ensures at c.pop.ensures.lines in
    let first : t.line.queue ≡ c.in_ok-item.item ∷ drop 1 t.line.queue = rw (c.in_ok-item.was, c.number.ensures, t.found) at c.pop.ensures.item in
    let r = requeued c.self.inside.births c.args.gid.number (λ q. drop 1 q) t.line c.self.inside.lines c.pop.new.self c.self.invariant.lines t.found is in
    let one = r.weights (λ ws. length ws) (λ xs ys. length-append xs ys) in
    let two = weight_first (λ ws. length ws) (λ xs ys. length-append xs ys) c.args.gid.number c.in_ok-item.item t.line.queue (drop 1 t.line.queue) first in
    record {
      lines = r.kept;
      live = c.self.invariant.live ∙ sym (ap length r.records);
      waiting = omega (arith, c.self.invariant.waiting, one, two);
      most = omega (arith, c.self.invariant.most);
    }

pub returns-clause-item : goal.returns-clause-item
returns-clause-item g c =
    let t = there c.args.gid 0 c.self.inside.births c.self.inside.lines c.self.invariant.lines (rw (← c.self.view_is) at c.requires) in
    let is : c.pop.new.self ≡ in_place c.args.gid.number (λ l. record l { queue = drop 1 l.queue } ∷ []) c.self.inside.lines = rw c.number.ensures at c.pop.ensures.lines in
    let first : t.line.queue ≡ c.in_ok-item.item ∷ drop 1 t.line.queue = rw (c.in_ok-item.was, c.number.ensures, t.found) at c.pop.ensures.item in
    let r = requeued c.self.inside.births c.args.gid.number (λ q. drop 1 q) t.line c.self.inside.lines c.pop.new.self c.self.invariant.lines t.found is in
    rw (← c.self.view_is)
    (r.old ∙ first ∙ ap (λ q. c.in_ok-item.item ∷ q) (sym r.here))

pub returns-clause-others : goal.returns-clause-others
returns-clause-others g c =
    let t = there c.args.gid 0 c.self.inside.births c.self.inside.lines c.self.invariant.lines (rw (← c.self.view_is) at c.requires) in
    let is : c.pop.new.self ≡ in_place c.args.gid.number (λ l. record l { queue = drop 1 l.queue } ∷ []) c.self.inside.lines = rw c.number.ensures at c.pop.ensures.lines in
    let r = requeued c.self.inside.births c.args.gid.number (λ q. drop 1 q) t.line c.self.inside.lines c.pop.new.self c.self.invariant.lines t.found is in
    rw (← c.self.view_is) r.others

pub returns-clause-first : goal.returns-clause-first
returns-clause-first g c =
    let t = there c.args.gid 0 c.self.inside.births c.self.inside.lines c.self.invariant.lines (rw (← c.self.view_is) at c.requires) in
    let is : c.pop.new.self ≡ in_place c.args.gid.number (λ l. record l { queue = drop 1 l.queue } ∷ []) c.self.inside.lines = rw c.number.ensures at c.pop.ensures.lines in
    let first : t.line.queue ≡ c.in_ok-item.item ∷ drop 1 t.line.queue = rw (c.in_ok-item.was, c.number.ensures, t.found) at c.pop.ensures.item in
    let r = requeued c.self.inside.births c.args.gid.number (λ q. drop 1 q) t.line c.self.inside.lines c.pop.new.self c.self.invariant.lines t.found is in
    rw (← c.self.view_is)
    (first_found c.args.gid.number c.in_ok-item.item (drop 1 t.line.queue) (waiting_of c.self.inside.lines) (r.old ∙ first))

pub returns-clause-all : goal.returns-clause-all
returns-clause-all g c =
    let t = there c.args.gid 0 c.self.inside.births c.self.inside.lines c.self.invariant.lines (rw (← c.self.view_is) at c.requires) in
    let is : c.pop.new.self ≡ in_place c.args.gid.number (λ l. record l { queue = drop 1 l.queue } ∷ []) c.self.inside.lines = rw c.number.ensures at c.pop.ensures.lines in
    let first : t.line.queue ≡ c.in_ok-item.item ∷ drop 1 t.line.queue = rw (c.in_ok-item.was, c.number.ensures, t.found) at c.pop.ensures.item in
    rw (← c.self.view_is)
    (ap waiting_of is ∙ first_placed c.args.gid.number c.in_ok-item.item (drop 1 t.line.queue) t.line c.self.inside.lines t.found first)

pub returns-clause-rest : goal.returns-clause-rest
returns-clause-rest g c =
    let t = there c.args.gid 0 c.self.inside.births c.self.inside.lines c.self.invariant.lines (rw (← c.self.view_is) at c.requires) in
    let is : c.pop.new.self ≡ in_place c.args.gid.number (λ l. record l { queue = drop 1 l.queue } ∷ []) c.self.inside.lines = rw c.number.ensures at c.pop.ensures.lines in
    let r = requeued c.self.inside.births c.args.gid.number (λ q. drop 1 q) t.line c.self.inside.lines c.pop.new.self c.self.invariant.lines t.found is in
    rw (← c.self.view_is, r.records) refl
