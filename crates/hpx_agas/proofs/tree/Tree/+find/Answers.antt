use Rattle.std.proofs.Common.{◌∙◌, sym, ap, subst}
use Rattle.hpx_agas.specs.Lines.{line_of}
use Rattle.hpx_agas.specs.Trees.{lines_of, IsCut}
use Rattle.hpx_agas.proofs.TreesLemmas.{at_fork, find_low, find_high}
use Rattle.hpx_agas.proofs.tree.Tree.+find.Goals as goal

pub returns-then-number-cut : goal.returns-then-number-cut
returns-then-number-cut g t c =
    let f = at_fork c.args.self.now c.in-Fork.low.value c.in-Fork.high.value c.in-Fork.cut.split c.in-Fork.cut.before (sym (ap lines_of c.in-Fork.is) ∙ c.self.view_is) (subst IsCut c.in-Fork.is c.self.invariant) in
    c.find.ensures ∙ ap (line_of c.args.number) c.deref.ensures ∙ sym (find_low c.args.self.now c.in-Fork.low.value c.in-Fork.high.value c.in-Fork.cut.split c.in-Fork.cut.before f c.args.number c.if-number-cut.true)

pub returns-else-number-cut : goal.returns-else-number-cut
returns-else-number-cut g t c =
    let f = at_fork c.args.self.now c.in-Fork.low.value c.in-Fork.high.value c.in-Fork.cut.split c.in-Fork.cut.before (sym (ap lines_of c.in-Fork.is) ∙ c.self.view_is) (subst IsCut c.in-Fork.is c.self.invariant) in
    c.find-else-number-cut.ensures ∙ ap (line_of c.args.number) c.deref-else-number-cut.ensures ∙ sym (find_high c.args.self.now c.in-Fork.low.value c.in-Fork.high.value c.in-Fork.cut.split c.in-Fork.cut.before f c.args.number c.if-number-cut.false)
