use Rattle.std.proofs.Common.{◌∷◌, ◌∙◌, [], Some, IsSome, refl, ap, sym}
use Rattle.hpx_agas.specs.Lines.{in_place}
use Rattle.hpx_agas.proofs.LinesLemmas.{line_number}
use Rattle.hpx_agas.proofs.ChangesLemmas.{lifted, laid_back}
use Rattle.hpx_agas.proofs.tree.Tree.set.Goals as goal

pub lay-requires-clause-like : goal.lay-requires-clause-like
lay-requires-clause-like g c =
    let there = lifted c.args.number c.lift-line.result c.args.self.now c.lift-line.new.self c.lift-line.ensures.line c.lift-line.ensures.lines in
    let live : IsSome c.lift-line.result.live = rw c.lift-line.ensures.line at c.requires in
    rw there (sym live)

pub lay-requires-clause-blank : goal.lay-requires-clause-blank
lay-requires-clause-blank g c =
    let there = lifted c.args.number c.lift-line.result c.args.self.now c.lift-line.new.self c.lift-line.ensures.line c.lift-line.ensures.lines in
    rw there refl

pub returns : goal.returns
returns g c =
    let number = line_number c.args.number c.lift-line.result c.args.self.now c.lift-line.ensures.line in
    c.lay.ensures ∙ ap (in_place c.lift-line.result.number (λ _. record c.lift-line.result { live = Some c.args.made } ∷ [])) c.lift-line.ensures.lines
    ∙ laid_back c.args.number (λ l. record l { live = Some c.args.made }) c.lift-line.result (record c.lift-line.result { live = Some c.args.made }) c.args.self.now c.lift-line.ensures.line refl number
