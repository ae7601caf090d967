use Rattle.std.proofs.Common.{rules, ◌≡◌, ◌<◌, ◌≤◌, ◌∙◌, ◌∷◌, ◌++◌, [], length, sym, ap, subst, arith, refl, append-nil, IsSomeAnd}
use Rattle.hpx_agas.specs.Lines.{line_of, in_place, left_behind, IsLive}
use Rattle.hpx_agas.specs.Trees.{lines_of, IsCut}
use Rattle.hpx_agas.proofs.LinesLemmas.{place_hit}
use Rattle.hpx_agas.proofs.TreesLemmas.{at_fork, find_low, find_high, place_low, place_high, each_killed, killed_count, only_found}
use Rattle.hpx_agas.proofs.tree.Tree.+kill.Goals as goal
use Rattle.hpx_agas.proofs.tree.Tree.+kill.Goals.{in-Empty, in-Leaf, in-Fork+then-number-cut, in-Fork+else-number-cut}

pub kill-requires : goal.kill-requires
kill-requires g t c κs within =
    let is = sym c.replace.ensures.value ∙ c.in-Fork.is in
    let f = at_fork c.args.self.now c.in-Fork.low.value c.in-Fork.high.value c.in-Fork.cut.split c.in-Fork.cut.before (sym (ap lines_of is) ∙ c.self.view_is) (subst IsCut is c.self.invariant) in
    let there : IsSomeAnd (line_of c.args.number c.deref_mut.result.now) IsLive =
    rw (c.deref_mut.ensures.value, ← find_low c.args.self.now c.in-Fork.low.value c.in-Fork.high.value c.in-Fork.cut.split c.in-Fork.cut.before f c.args.number c.if-number-cut.true) c.requires in
    let shorter : length c.deref_mut.result.now < length c.args.self.now = rw c.deref_mut.ensures.value f.low_shorter in
    search rules

pub overflow_sub-cut : goal.overflow_sub-cut
overflow_sub-cut g t c =
    let is = sym c.replace.ensures.value ∙ c.in-Fork.is in
    let f = at_fork c.args.self.now c.in-Fork.low.value c.in-Fork.high.value c.in-Fork.cut.split c.in-Fork.cut.before (sym (ap lines_of is) ∙ c.self.view_is) (subst IsCut is c.self.invariant) in
    let there : IsSomeAnd (line_of c.args.number c.in-Fork.low.value) IsLive =
    rw (← find_low c.args.self.now c.in-Fork.low.value c.in-Fork.high.value c.in-Fork.cut.split c.in-Fork.cut.before f c.args.number c.if-number-cut.true) c.requires in
    omega (arith, killed_count c.args.number c.in-Fork.low.value there, f.before)

pub joined-requires-clause-below : goal.joined-requires-clause-below
joined-requires-clause-below g t c =
    let is = sym c.replace.ensures.value ∙ c.in-Fork.is in
    let f = at_fork c.args.self.now c.in-Fork.low.value c.in-Fork.high.value c.in-Fork.cut.split c.in-Fork.cut.before (sym (ap lines_of is) ∙ c.self.view_is) (subst IsCut is c.self.invariant) in
    rw (c.kill.ensures, c.deref_mut.ensures.value) (each_killed (λ k. k < c.in-Fork.cut.split) c.args.number c.in-Fork.low.value f.below)

pub joined-requires-clause-before : goal.joined-requires-clause-before
joined-requires-clause-before g t c =
    let is = sym c.replace.ensures.value ∙ c.in-Fork.is in
    let f = at_fork c.args.self.now c.in-Fork.low.value c.in-Fork.high.value c.in-Fork.cut.split c.in-Fork.cut.before (sym (ap lines_of is) ∙ c.self.view_is) (subst IsCut is c.self.invariant) in
    let there : IsSomeAnd (line_of c.args.number c.in-Fork.low.value) IsLive =
    rw (← find_low c.args.self.now c.in-Fork.low.value c.in-Fork.high.value c.in-Fork.cut.split c.in-Fork.cut.before f c.args.number c.if-number-cut.true) c.requires in
    rw (c.kill.ensures, c.deref_mut.ensures.value) (omega (arith, killed_count c.args.number c.in-Fork.low.value there, f.before))

pub kill-requires-else-number-cut : goal.kill-requires-else-number-cut
kill-requires-else-number-cut g t c κs within =
    let is = sym c.replace.ensures.value ∙ c.in-Fork.is in
    let f = at_fork c.args.self.now c.in-Fork.low.value c.in-Fork.high.value c.in-Fork.cut.split c.in-Fork.cut.before (sym (ap lines_of is) ∙ c.self.view_is) (subst IsCut is c.self.invariant) in
    let there : IsSomeAnd (line_of c.args.number c.deref_mut-else-number-cut.result.now) IsLive =
    rw (c.deref_mut-else-number-cut.ensures.value, ← find_high c.args.self.now c.in-Fork.low.value c.in-Fork.high.value c.in-Fork.cut.split c.in-Fork.cut.before f c.args.number c.if-number-cut.false) c.requires in
    let shorter : length c.deref_mut-else-number-cut.result.now < length c.args.self.now = rw c.deref_mut-else-number-cut.ensures.value f.high_shorter in
    search rules

pub joined-requires-else-number-cut-clause-from : goal.joined-requires-else-number-cut-clause-from
joined-requires-else-number-cut-clause-from g t c =
    let is = sym c.replace.ensures.value ∙ c.in-Fork.is in
    let f = at_fork c.args.self.now c.in-Fork.low.value c.in-Fork.high.value c.in-Fork.cut.split c.in-Fork.cut.before (sym (ap lines_of is) ∙ c.self.view_is) (subst IsCut is c.self.invariant) in
    rw (c.kill-else-number-cut.ensures, c.deref_mut-else-number-cut.ensures.value) (each_killed (λ k. c.in-Fork.cut.split ≤ k) c.args.number c.in-Fork.high.value f.from)

pub returns : goal.returns
returns g t c = elim c.match-replace.branch [
  | in-Empty w ↦
      let none : [] ≡ c.args.self.now = sym (ap lines_of (sym c.replace.ensures.value ∙ w.in-Empty.is)) ∙ c.self.view_is in
      rw (c.close.ensures, w.node-is, ← none) refl
  | in-Leaf w ↦
      let one : w.in-Leaf.line ∷ [] ≡ c.args.self.now = sym (ap lines_of (sym c.replace.ensures.value ∙ w.in-Leaf.is)) ∙ c.self.view_is in
      let e = (only_found IsLive c.args.number w.in-Leaf.line (rw (← one) at c.requires)).1 in
      rw (c.close.ensures, w.node-is, ← one)
      (w.after_death-node.ensures.lines ∙ sym (append-nil (left_behind w.in-Leaf.line)) ∙ sym (place_hit c.args.number left_behind w.in-Leaf.line [] e))
  | in-Fork+then-number-cut w ↦
      let is = sym c.replace.ensures.value ∙ w.in-Fork.is in
      let f = at_fork c.args.self.now w.in-Fork.low.value w.in-Fork.high.value w.in-Fork.cut.split w.in-Fork.cut.before (sym (ap lines_of is) ∙ c.self.view_is) (subst IsCut is c.self.invariant) in
      c.close.ensures ∙ ap lines_of w.node-is ∙ w.joined.ensures.lines
      ∙ ap (λ ls. ls ++ w.in-Fork.high.value) (w.kill.ensures ∙ ap (in_place c.args.number left_behind) w.deref_mut.ensures.value)
      ∙ sym (place_low c.args.self.now w.in-Fork.low.value w.in-Fork.high.value w.in-Fork.cut.split w.in-Fork.cut.before f c.args.number left_behind w.if-number-cut.true)
  | in-Fork+else-number-cut w ↦
      let is = sym c.replace.ensures.value ∙ w.in-Fork.is in
      let f = at_fork c.args.self.now w.in-Fork.low.value w.in-Fork.high.value w.in-Fork.cut.split w.in-Fork.cut.before (sym (ap lines_of is) ∙ c.self.view_is) (subst IsCut is c.self.invariant) in
      c.close.ensures ∙ ap lines_of w.node-is ∙ w.joined-else-number-cut.ensures.lines
      ∙ ap (λ ls. w.in-Fork.low.value ++ ls) (w.kill-else-number-cut.ensures ∙ ap (in_place c.args.number left_behind) w.deref_mut-else-number-cut.ensures.value)
      ∙ sym (place_high c.args.self.now w.in-Fork.low.value w.in-Fork.high.value w.in-Fork.cut.split w.in-Fork.cut.before f c.args.number left_behind w.if-number-cut.false)
]
