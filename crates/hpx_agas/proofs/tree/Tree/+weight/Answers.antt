use Rattle.std.proofs.Common.{◌-◌, ◌^◌, ◌∙◌, min, sym, ap}
use Rattle.std.specs.List.{sum_by}
use Rattle.hpx_agas.specs.Lines.{waiting_of}
use Rattle.hpx_agas.specs.Trees.{lines_of}
use Rattle.hpx_agas.proofs.LinesLemmas.{line_weighs, lines_weigh}
use Rattle.hpx_agas.proofs.QueuesLemmas.{capped}
use Rattle.hpx_agas.proofs.tree.Tree.+weight.Goals as goal

pub returns-in-Leaf : goal.returns-in-Leaf
returns-in-Leaf g t c = λ w weighs.
    c.weight.ensures w weighs
    ∙ ap (min (2 ^ 128 - 1)) (sym (line_weighs w c.in-Leaf.line) ∙ ap (λ ls. sum_by (λ x. w x.item) (waiting_of ls)) (sym (ap lines_of c.in-Leaf.is) ∙ c.self.view_is))

pub returns-in-Fork : goal.returns-in-Fork
returns-in-Fork g t c = λ w weighs.
    let low = c.weight-in-Fork.ensures w weighs ∙ ap (λ ls. min (2 ^ 128 - 1) (sum_by (λ x. w x.item) (waiting_of ls))) c.deref.ensures in
    let high = c.weight-in-Fork-2.ensures w weighs ∙ ap (λ ls. min (2 ^ 128 - 1) (sum_by (λ x. w x.item) (waiting_of ls))) c.deref-in-Fork.ensures in
    c.saturating_add.ensures
    ∙ (capped (2 ^ 128 - 1) (sum_by (λ x. w x.item) (waiting_of c.in-Fork.low.value)) (sum_by (λ x. w x.item) (waiting_of c.in-Fork.high.value)) c.weight-in-Fork.result c.weight-in-Fork-2.result low high
    ∙ ap (min (2 ^ 128 - 1)) (sym (lines_weigh (λ x. w x.item) c.in-Fork.low.value c.in-Fork.high.value)
    ∙ ap (λ ls. sum_by (λ x. w x.item) (waiting_of ls)) (sym (ap lines_of c.in-Fork.is) ∙ c.self.view_is)))
