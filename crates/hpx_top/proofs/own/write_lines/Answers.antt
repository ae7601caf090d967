use Rattle.std.proofs.Common.{◌≡◌, ◌+◌, ◌∷◌, ◌∙◌, drop, refl, sym, ap}
use Rattle.std.proofs.lemmas.List.{drop_more}
use Rattle.hpx_own.specs.Texts.{audit_text, line_text}
use Rattle.hpx_top.proofs.ShowLemmas.{any_err, audit_start, pieces_more, pieces_front}
use Rattle.hpx_top.proofs.own.write_lines.Goals as goal

pub loop-line-init : goal.loop-line-init
loop-line-init g c = (audit_start c.args.lines.now (g.K.Sink.held c.args.sink.now) c.requires.some, refl)

pub returns-in_err-write_line-clause-front : goal.returns-in_err-write_line-clause-front
returns-in_err-write_line-clause-front g c =
    let items = c.args.lines.now in
    let i = c.loop-line.line-index in
    let at : drop i items ≡ c.line-item.result ∷ drop (i + 1) items
    = drop_more items i c.line-item.result c.loop-line-test.true ∙ ap (λ t. t ∷ drop (i + 1) items) (sym c.line-item.is) in
    any_err c.from_residual.result _
    (pieces_front line_text items i c.line-item.result (audit_text items) _ _ _ at c.loop-line.invariant.0 c.in_err-write_line.ensures.front)

pub loop-line-preserved : goal.loop-line-preserved
loop-line-preserved g c =
    let items = c.args.lines.now in
    let i = c.loop-line.line-index in
    let at : drop i items ≡ c.line-item.result ∷ drop (i + 1) items
    = drop_more items i c.line-item.result c.loop-line-test.true ∙ ap (λ t. t ∷ drop (i + 1) items) (sym c.line-item.is) in (
      pieces_more line_text items i c.line-item.result (audit_text items) _ _ _ at c.loop-line.invariant.0 c.in_ok-write_line.ensures.held,
      c.in_ok-write_line.ensures.stands ∙ c.loop-line.invariant.1,
    )
