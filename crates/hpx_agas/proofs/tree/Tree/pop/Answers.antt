use Rattle.std.proofs.Common.{◌∷◌, ◌∙◌, [], drop, refl, ap}
use Rattle.hpx_agas.specs.Lines.{in_place}
use Rattle.hpx_agas.proofs.LinesLemmas.{line_number}
use Rattle.hpx_agas.proofs.ChangesLemmas.{line_with, lifted, laid_back}
use Rattle.hpx_agas.proofs.tree.Tree.pop.Goals as goal

pub lay-requires-clause-like : goal.lay-requires-clause-like
lay-requires-clause-like g c =
    let there = lifted c.args.number c.lift-line.result c.args.self.now c.lift-line.new.self c.lift-line.ensures.line c.lift-line.ensures.lines in
    rw there refl

pub lay-requires-clause-blank : goal.lay-requires-clause-blank
lay-requires-clause-blank g c =
    let there = lifted c.args.number c.lift-line.result c.args.self.now c.lift-line.new.self c.lift-line.ensures.line c.lift-line.ensures.lines in
    rw there refl

pub returns-clause-lines : goal.returns-clause-lines
returns-clause-lines g c =
    let number = line_number c.args.number c.lift-line.result c.args.self.now c.lift-line.ensures.line in
    c.lay.ensures ∙ ap (λ q. in_place c.lift-line.result.number (λ _. line_with c.lift-line.result.number c.lift-line.result.live q ∷ []) c.lift-line.new.self) c.pop-item.ensures.rest
    ∙ ap (in_place c.lift-line.result.number (λ _. record c.lift-line.result { queue = drop 1 c.lift-line.result.queue } ∷ [])) c.lift-line.ensures.lines
    ∙ laid_back c.args.number (λ l. record l { queue = drop 1 l.queue }) c.lift-line.result (record c.lift-line.result { queue = drop 1 c.lift-line.result.queue }) c.args.self.now c.lift-line.ensures.line refl number
