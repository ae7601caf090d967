use Rattle.std.specs.Prelude.{codes}
use Rattle.std.proofs.Common.{◌≡◌, ◌++◌, ◌+◌, ◌∷◌, ◌∙◌, List, ℕ, sym, ap, drop, subst}
use Rattle.std.proofs.lemmas.List.{drop_more}
use Rattle.hpx_ports.specs.Told.{followed}
use Rattle.hpx_top.specs.Printed.{on_lines}
use Rattle.hpx_top.specs.Session.{WritesFront}
use Rattle.hpx_top.proofs.ShowLemmas.{any_err, pieces_more, pieces_front}
use Rattle.hpx_top.proofs.printed.write_lines.Goals as goal

abbrev line_of : List ℕ → List ℕ
line_of text = text ++ codes "\n"

pub returns-in_err-write_line-clause-front : goal.returns-in_err-write_line-clause-front
returns-in_err-write_line-clause-front g c =
    let items = c.as_slice-text-items.result.now in
    let i = c.loop-text.text-index in
    let at : drop i items ≡ c.text-item.result ∷ drop (i + 1) items
    = drop_more items i c.text-item.result c.loop-text-test.true ∙ ap (λ t. t ∷ drop (i + 1) items) (sym c.text-item.is) in
    let part : WritesFront (line_of c.text-item.result) (g.K.Sink.held c.loop-text.sink) (g.K.Sink.held c.write_line.new.sink)
    = subst (λ t. WritesFront (t ++ codes "\n") (g.K.Sink.held c.loop-text.sink) (g.K.Sink.held c.write_line.new.sink)) c.as_slice.ensures c.in_err-write_line.ensures.front in
    any_err c.from_residual.result _
    (subst (λ texts. WritesFront (on_lines texts) (g.K.Sink.held c.args.sink.now) (g.K.Sink.held c.write_line.new.sink)) c.as_slice-text-items.ensures
    (pieces_front line_of items i c.text-item.result (on_lines items) _ _ _ at c.loop-text.invariant.0 part))

pub loop-text-preserved : goal.loop-text-preserved
loop-text-preserved g c =
    let items = c.as_slice-text-items.result.now in
    let i = c.loop-text.text-index in
    let at : drop i items ≡ c.text-item.result ∷ drop (i + 1) items
    = drop_more items i c.text-item.result c.loop-text-test.true ∙ ap (λ t. t ∷ drop (i + 1) items) (sym c.text-item.is) in
    let held : g.K.Sink.held c.write_line.new.sink ≡ followed (g.K.Sink.held c.loop-text.sink) (line_of c.text-item.result)
    = c.in_ok-write_line.ensures.held ∙ ap (λ t. followed (g.K.Sink.held c.loop-text.sink) (t ++ codes "\n")) c.as_slice.ensures in (
      pieces_more line_of items i c.text-item.result (on_lines items) _ _ _ at c.loop-text.invariant.0 held,
      c.in_ok-write_line.ensures.stands ∙ c.loop-text.invariant.1,
    )
