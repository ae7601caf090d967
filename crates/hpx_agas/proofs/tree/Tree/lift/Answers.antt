use Rattle.std.proofs.Common.{◌≡◌, ◌∷◌, ◌∙◌, [], Some, None, ap}
use Rattle.hpx_agas.specs.Lines.{in_place, blank}
use Rattle.hpx_agas.proofs.LinesLemmas.{line_number}
use Rattle.hpx_agas.proofs.ChangesLemmas.{line_with, blank_is}
use Rattle.hpx_agas.proofs.tree.Tree.lift.Goals as goal
use Rattle.hpx_agas.proofs.tree.Tree.lift.Goals.{in-Some, in-None}

pub returns-clause-lines : goal.returns-clause-lines
returns-clause-lines g c =
    let live : c.match-find.live ≡ c.swap.new.line.live = elim c.match-find.branch [
      | in-Some w ↦
          let some : Some w.in-Some.line.now ≡ Some c.swap.new.line = rw w.in-Some.is at c.find.ensures ∙ c.swap.ensures.line in
          let same : w.in-Some.line.now ≡ c.swap.new.line = cc in
          w.live-is ∙ ap (λ l. l.live) same
      | in-None w ↦
          let no : None ≡ Some c.swap.new.line = rw w.in-None.is at c.find.ensures ∙ c.swap.ensures.line in
          cc
    ] in
    let is : line_with c.args.number c.match-find.live [] ≡ blank c.swap.new.line = blank_is c.args.number c.match-find.live c.swap.new.line (line_number c.args.number c.swap.new.line c.args.self.now c.swap.ensures.line) live in
    c.swap.ensures.lines
    ∙ ap (λ q. in_place c.args.number (λ _. line_with c.args.number c.match-find.live q ∷ []) c.args.self.now) c.new.ensures
    ∙ ap (λ m. in_place c.args.number (λ _. m ∷ []) c.args.self.now) is
