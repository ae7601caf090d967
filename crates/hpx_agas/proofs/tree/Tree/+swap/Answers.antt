use Rattle.std.proofs.Common.{rules, ◌≡◌, ◌<◌, ◌≤◌, ◌∙◌, ◌∷◌, ◌++◌, [], Some, length, sym, ap, subst, arith, IsSomeAnd}
use Rattle.hpx_agas.specs.Lines.{AreBelow, AreFrom, line_of, records_of, in_place, IsLike}
use Rattle.hpx_agas.specs.Trees.{lines_of, IsCut}
use Rattle.hpx_agas.proofs.LinesLemmas.{place_hit}
use Rattle.hpx_agas.proofs.TreesLemmas.{at_fork, find_low, find_high, place_low, place_high, each_swapped, swapped_count, placed_length, only_found}
use Rattle.hpx_agas.proofs.tree.Tree.+swap.Goals as goal
use Rattle.hpx_agas.proofs.tree.Tree.+swap.Goals.{in-Empty, in-Leaf, in-Fork+then-line-cut, in-Fork+else-line-cut}

pub swap-requires-then-line-cut : goal.swap-requires-then-line-cut
swap-requires-then-line-cut g t c κs within =
    let f = at_fork c.args.self.now c.in-Fork.low.value c.in-Fork.high.value c.in-Fork.cut.split c.in-Fork.cut.before (sym (ap lines_of c.in-Fork.is) ∙ c.self.view_is) (subst IsCut c.in-Fork.is c.self.invariant) in
    let there : IsSomeAnd (line_of c.args.line.now.number c.deref_mut.result.now) (IsLike c.args.line.now) =
    rw (c.deref_mut.ensures.value, ← find_low c.args.self.now c.in-Fork.low.value c.in-Fork.high.value c.in-Fork.cut.split c.in-Fork.cut.before f c.args.line.now.number c.if-line-cut.true) c.requires in
    let shorter : length c.deref_mut.result.now < length c.args.self.now = rw c.deref_mut.ensures.value f.low_shorter in
    search rules

pub swap-requires-else-line-cut : goal.swap-requires-else-line-cut
swap-requires-else-line-cut g t c κs within =
    let f = at_fork c.args.self.now c.in-Fork.low.value c.in-Fork.high.value c.in-Fork.cut.split c.in-Fork.cut.before (sym (ap lines_of c.in-Fork.is) ∙ c.self.view_is) (subst IsCut c.in-Fork.is c.self.invariant) in
    let there : IsSomeAnd (line_of c.args.line.now.number c.deref_mut-else-line-cut.result.now) (IsLike c.args.line.now) =
    rw (c.deref_mut-else-line-cut.ensures.value, ← find_high c.args.self.now c.in-Fork.low.value c.in-Fork.high.value c.in-Fork.cut.split c.in-Fork.cut.before f c.args.line.now.number c.if-line-cut.false) c.requires in
    let shorter : length c.deref_mut-else-line-cut.result.now < length c.args.self.now = rw c.deref_mut-else-line-cut.ensures.value f.high_shorter in
    search rules

pub invariant_of-self : goal.invariant_of-self
invariant_of-self g t c = elim c.match-self.branch [
  | in-Empty w ↦ rw w.self-inside-is c.self.invariant
  | in-Leaf w ↦ rw w.self-inside-is tt
  | in-Fork+then-line-cut w ↦
      let m = c.args.line.now in
      let low = w.in-Fork.low.value in
      let f = at_fork c.args.self.now w.in-Fork.low.value w.in-Fork.high.value w.in-Fork.cut.split w.in-Fork.cut.before (sym (ap lines_of w.in-Fork.is) ∙ c.self.view_is) (subst IsCut w.in-Fork.is c.self.invariant) in
      let e : w.swap-then-line-cut.new.self ≡ in_place m.number (λ _. m ∷ []) low = w.swap-then-line-cut.ensures.lines ∙ ap (in_place m.number (λ _. m ∷ [])) w.deref_mut.ensures.value in
      let there : IsSomeAnd (line_of m.number low) (IsLike m) = rw (← find_low c.args.self.now w.in-Fork.low.value w.in-Fork.high.value w.in-Fork.cut.split w.in-Fork.cut.before f m.number w.if-line-cut.true) c.requires in
      let some : 1 ≤ length w.swap-then-line-cut.new.self = omega (arith, ap length e, placed_length m.number m low, f.low_some) in
      let below : AreBelow w.in-Fork.cut.split w.swap-then-line-cut.new.self = rw e (each_swapped (λ k. k < w.in-Fork.cut.split) m low f.below) in
      let before : w.in-Fork.cut.before ≡ length (records_of w.swap-then-line-cut.new.self) = rw e (f.before ∙ sym (swapped_count m low there)) in
      rw w.self-inside-is (some, f.high_some, below, f.from, before)
  | in-Fork+else-line-cut w ↦
      let m = c.args.line.now in
      let high = w.in-Fork.high.value in
      let f = at_fork c.args.self.now w.in-Fork.low.value w.in-Fork.high.value w.in-Fork.cut.split w.in-Fork.cut.before (sym (ap lines_of w.in-Fork.is) ∙ c.self.view_is) (subst IsCut w.in-Fork.is c.self.invariant) in
      let e : w.swap-else-line-cut.new.self ≡ in_place m.number (λ _. m ∷ []) high = w.swap-else-line-cut.ensures.lines ∙ ap (in_place m.number (λ _. m ∷ [])) w.deref_mut-else-line-cut.ensures.value in
      let some : 1 ≤ length w.swap-else-line-cut.new.self = omega (arith, ap length e, placed_length m.number m high, f.high_some) in
      let from : AreFrom w.in-Fork.cut.split w.swap-else-line-cut.new.self = rw e (each_swapped (λ k. w.in-Fork.cut.split ≤ k) m high f.from) in
      rw w.self-inside-is (f.low_some, some, f.below, from, f.before)
]

pub returns-clause-line : goal.returns-clause-line
returns-clause-line g t c = elim c.match-self.branch [
  | in-Empty w ↦
      let none : [] ≡ c.args.self.now = sym (ap lines_of w.in-Empty.is) ∙ c.self.view_is in
      absurd (rw (← none) at c.requires)
  | in-Leaf w ↦
      let one : w.in-Leaf.there ∷ [] ≡ c.args.self.now = sym (ap lines_of w.in-Leaf.is) ∙ c.self.view_is in
      let hit = only_found (IsLike c.args.line.now) c.args.line.now.number w.in-Leaf.there (rw (← one) at c.requires) in
      rw (← one, w.line-is) (hit.0 ∙ ap (λ x. Some x) (sym w.swap.ensures.y_after))
  | in-Fork+then-line-cut w ↦
      let f = at_fork c.args.self.now w.in-Fork.low.value w.in-Fork.high.value w.in-Fork.cut.split w.in-Fork.cut.before (sym (ap lines_of w.in-Fork.is) ∙ c.self.view_is) (subst IsCut w.in-Fork.is c.self.invariant) in
      find_low c.args.self.now w.in-Fork.low.value w.in-Fork.high.value w.in-Fork.cut.split w.in-Fork.cut.before f c.args.line.now.number w.if-line-cut.true
      ∙ ap (line_of c.args.line.now.number) (sym w.deref_mut.ensures.value) ∙ w.swap-then-line-cut.ensures.line ∙ ap (λ x. Some x) (sym w.line-is)
  | in-Fork+else-line-cut w ↦
      let f = at_fork c.args.self.now w.in-Fork.low.value w.in-Fork.high.value w.in-Fork.cut.split w.in-Fork.cut.before (sym (ap lines_of w.in-Fork.is) ∙ c.self.view_is) (subst IsCut w.in-Fork.is c.self.invariant) in
      find_high c.args.self.now w.in-Fork.low.value w.in-Fork.high.value w.in-Fork.cut.split w.in-Fork.cut.before f c.args.line.now.number w.if-line-cut.false
      ∙ ap (line_of c.args.line.now.number) (sym w.deref_mut-else-line-cut.ensures.value) ∙ w.swap-else-line-cut.ensures.line ∙ ap (λ x. Some x) (sym w.line-is)
]

pub returns-clause-lines : goal.returns-clause-lines
returns-clause-lines g t c = elim c.match-self.branch [
  | in-Empty w ↦
      let none : [] ≡ c.args.self.now = sym (ap lines_of w.in-Empty.is) ∙ c.self.view_is in
      absurd (rw (← none) at c.requires)
  | in-Leaf w ↦
      let one : w.in-Leaf.there ∷ [] ≡ c.args.self.now = sym (ap lines_of w.in-Leaf.is) ∙ c.self.view_is in
      let hit = only_found (IsLike c.args.line.now) c.args.line.now.number w.in-Leaf.there (rw (← one) at c.requires) in
      rw (w.self-inside-is, ← one)
      (ap (λ x. x ∷ []) w.swap.ensures.x_after ∙ sym (place_hit c.args.line.now.number (λ _. c.args.line.now ∷ []) w.in-Leaf.there [] hit.1))
  | in-Fork+then-line-cut w ↦
      let m = c.args.line.now in
      let f = at_fork c.args.self.now w.in-Fork.low.value w.in-Fork.high.value w.in-Fork.cut.split w.in-Fork.cut.before (sym (ap lines_of w.in-Fork.is) ∙ c.self.view_is) (subst IsCut w.in-Fork.is c.self.invariant) in
      let e : w.swap-then-line-cut.new.self ≡ in_place m.number (λ _. m ∷ []) w.in-Fork.low.value = w.swap-then-line-cut.ensures.lines ∙ ap (in_place m.number (λ _. m ∷ [])) w.deref_mut.ensures.value in
      rw w.self-inside-is
      (ap (λ ls. ls ++ w.in-Fork.high.value) e
      ∙ sym (place_low c.args.self.now w.in-Fork.low.value w.in-Fork.high.value w.in-Fork.cut.split w.in-Fork.cut.before f m.number (λ _. m ∷ []) w.if-line-cut.true))
  | in-Fork+else-line-cut w ↦
      let m = c.args.line.now in
      let f = at_fork c.args.self.now w.in-Fork.low.value w.in-Fork.high.value w.in-Fork.cut.split w.in-Fork.cut.before (sym (ap lines_of w.in-Fork.is) ∙ c.self.view_is) (subst IsCut w.in-Fork.is c.self.invariant) in
      let e : w.swap-else-line-cut.new.self ≡ in_place m.number (λ _. m ∷ []) w.in-Fork.high.value = w.swap-else-line-cut.ensures.lines ∙ ap (in_place m.number (λ _. m ∷ [])) w.deref_mut-else-line-cut.ensures.value in
      rw w.self-inside-is
      (ap (λ ls. w.in-Fork.low.value ++ ls) e
      ∙ sym (place_high c.args.self.now w.in-Fork.low.value w.in-Fork.high.value w.in-Fork.cut.split w.in-Fork.cut.before f m.number (λ _. m ∷ []) w.if-line-cut.false))
]
