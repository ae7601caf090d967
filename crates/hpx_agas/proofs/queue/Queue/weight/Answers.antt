use Rattle.std.proofs.Common.{◌≡◌, ◌∷◌, ◌+◌, ◌-◌, ◌^◌, ◌∙◌, [], min, refl, sym, ap, rules, arith}
use Rattle.std.specs.Fn.{FnReturnsAt}
use Rattle.std.specs.List.{sum_by}
use Rattle.std.proofs.lemmas.Fn.{says_at}
use Rattle.std.proofs.lemmas.List.Sums.{sum_by-cons}
use Rattle.hpx_agas.specs.Places.{filled}
use Rattle.hpx_agas.proofs.QueuesLemmas.{capped_more, capped_end}
use Rattle.hpx_agas.proofs.queue.Queue.weight.Goals as goal

pub loop-place-preserved-in-Some-place : goal.loop-place-preserved-in-Some-place
loop-place-preserved-in-Some-place g c = (
  omega (arith, c.saturating_add-sum.ensures),
  λ w weighs.
      let item = c.in-Some-place.item in
      let rest : filled c.loop-place.place-iterator ≡ c.in-Some-place.item ∷ filled c.next.new.self = search rules in
      let at : FnReturnsAt g.F.Fn c.args.weigh.now item c.weigh.result = says_at g.F.Fn c.weigh.ensures refl in
      capped_more (2 ^ 128 - 1) c.loop-place.sum (w item) (sum_by w (filled c.next.new.self)) c.saturating_add-sum.result c.weigh.result c.saturating_add-sum.ensures
      (weighs item c.weigh.result at)
      ∙ (ap (λ n. min (2 ^ 128 - 1) (c.loop-place.sum + n)) (sym (sum_by-cons w item (filled c.next.new.self)) ∙ ap (sum_by w) (sym rest))
      ∙ c.loop-place.invariant.1 w weighs),
)

pub returns : goal.returns
returns g c = λ w weighs.
    let none : c.loop-place.place-iterator ≡ [] = search rules in
    capped_end (2 ^ 128 - 1) c.loop-place.sum (sum_by w c.args.self.now) c.loop-place.invariant.0
    (ap (λ ps. min (2 ^ 128 - 1) (c.loop-place.sum + sum_by w (filled ps))) (sym none) ∙ c.loop-place.invariant.1 w weighs)
