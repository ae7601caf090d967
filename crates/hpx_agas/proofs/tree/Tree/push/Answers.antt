use Rattle.std.proofs.Common.{◌∷◌, ◌∙◌, ◌++◌, [], refl, ap, arith}
use Rattle.hpx_agas.specs.Lines.{in_place}
use Rattle.hpx_agas.proofs.LinesLemmas.{line_number}
use Rattle.hpx_agas.proofs.ChangesLemmas.{line_with, lifted, laid_back}
use Rattle.hpx_agas.proofs.TablesLemmas.{queue_within}
use Rattle.hpx_agas.proofs.tree.Tree.push.Goals as goal

pub append-requires : goal.append-requires
append-requires g c = omega (arith, queue_within c.args.number c.lift-line.result c.args.self.now c.lift-line.ensures.line, c.requires.fit)

pub lay-requires-clause-like : goal.lay-requires-clause-like
lay-requires-clause-like g c =
    let there = lifted c.args.number c.lift-line.result c.args.self.now c.lift-line.new.self c.lift-line.ensures.line c.lift-line.ensures.lines in
    rw there refl

pub lay-requires-clause-blank : goal.lay-requires-clause-blank
lay-requires-clause-blank g c =
    let there = lifted c.args.number c.lift-line.result c.args.self.now c.lift-line.new.self c.lift-line.ensures.line c.lift-line.ensures.lines in
    rw there refl

pub returns : goal.returns
returns g c =
    let number = line_number c.args.number c.lift-line.result c.args.self.now c.lift-line.ensures.line in
    c.lay.ensures ∙ ap (λ q. in_place c.lift-line.result.number (λ _. line_with c.lift-line.result.number c.lift-line.result.live q ∷ []) c.lift-line.new.self) c.append.ensures
    ∙ ap (in_place c.lift-line.result.number (λ _. record c.lift-line.result { queue = c.lift-line.result.queue ++ c.args.more } ∷ [])) c.lift-line.ensures.lines
    ∙ laid_back c.args.number (λ l. record l { queue = l.queue ++ c.args.more }) c.lift-line.result (record c.lift-line.result { queue = c.lift-line.result.queue ++ c.args.more }) c.args.self.now c.lift-line.ensures.line refl number
