use Rattle.std.proofs.Common.{rules, ◌≡◌, ◌<◌, ◌≤◌, ◌-◌, ◌∙◌, ◌∷◌, ◌++◌, [], length, sym, ap, subst, arith, length-append}
use Rattle.hpx_agas.specs.Lines.{AreBelow, AreFrom, records_of}
use Rattle.hpx_agas.specs.Trees.{lines_of, IsCut}
use Rattle.hpx_agas.proofs.LinesLemmas.{each-append, each_right}
use Rattle.hpx_agas.proofs.TreesLemmas.{at_fork, counts}
use Rattle.hpx_agas.proofs.tree.Tree.+append.Goals as goal
use Rattle.hpx_agas.proofs.tree.Tree.+append.Goals.{in-Empty, in-Leaf, in-Fork+then-reaches, in-Fork+else-reaches}

pub overflow_sub-live : goal.overflow_sub-live
overflow_sub-live g t c =
    let is = sym c.replace.ensures.value ∙ c.in-Fork.is in
    let f = at_fork c.args.self.now c.in-Fork.low.value c.in-Fork.high.value c.in-Fork.cut.split c.in-Fork.cut.before (sym (ap lines_of is) ∙ c.self.view_is) (subst IsCut is c.self.invariant) in
    omega (arith, c.requires.live, counts c.args.self.now c.in-Fork.low.value c.in-Fork.high.value c.in-Fork.cut.split c.in-Fork.cut.before f 0)

pub append-requires : goal.append-requires
append-requires g t c κs within =
    let is = sym c.replace.ensures.value ∙ c.in-Fork.is in
    let f = at_fork c.args.self.now c.in-Fork.low.value c.in-Fork.high.value c.in-Fork.cut.split c.in-Fork.cut.before (sym (ap lines_of is) ∙ c.self.view_is) (subst IsCut is c.self.invariant) in
    let whole : AreBelow c.args.line.number (c.in-Fork.low.value ++ c.in-Fork.high.value) = subst (AreBelow c.args.line.number) f.is c.requires.above in
    let above : AreBelow c.args.line.number c.deref_mut.result.now = rw c.deref_mut.ensures.value (each_right (λ l. l.number < c.args.line.number) c.in-Fork.low.value c.in-Fork.high.value whole) in
    let live : c.args.live - c.in-Fork.cut.before ≡ length (records_of c.deref_mut.result.now) =
    rw c.deref_mut.ensures.value (omega (arith, c.requires.live, counts c.args.self.now c.in-Fork.low.value c.in-Fork.high.value c.in-Fork.cut.split c.in-Fork.cut.before f 0)) in
    let shorter : length c.deref_mut.result.now < length c.args.self.now = rw c.deref_mut.ensures.value f.high_shorter in
    search rules

pub close-requires-clause-cut : goal.close-requires-clause-cut
close-requires-clause-cut g t c = elim c.match-replace.branch [
  | in-Empty w ↦ rw w.node-is tt
  | in-Leaf w ↦ rw w.node-is w.fork-node.ensures.cut
  | in-Fork+then-reaches w ↦
      let is = sym c.replace.ensures.value ∙ w.in-Fork.is in
      let f = at_fork c.args.self.now w.in-Fork.low.value w.in-Fork.high.value w.in-Fork.cut.split w.in-Fork.cut.before (sym (ap lines_of is) ∙ c.self.view_is) (subst IsCut is c.self.invariant) in
      let e : w.append.new.self ≡ w.in-Fork.high.value ++ c.args.line ∷ [] = w.append.ensures ∙ ap (λ ls. ls ++ c.args.line ∷ []) w.deref_mut.ensures.value in
      let le : w.in-Fork.cut.split ≤ c.args.line.number = w.reaches.ensures w.if-reaches.true in
      let some : 1 ≤ length w.append.new.self = omega (arith, ap length e, length-append w.in-Fork.high.value (c.args.line ∷ []), f.high_some) in
      let from : AreFrom w.in-Fork.cut.split w.append.new.self = rw e (each-append (λ l. w.in-Fork.cut.split ≤ l.number) w.in-Fork.high.value (c.args.line ∷ []) f.from (le, tt)) in
      rw w.node-is (f.low_some, some, f.below, from, f.before)
  | in-Fork+else-reaches w ↦ rw w.node-is w.fork.ensures.cut
]
