use Rattle.std.proofs.Common.{◌∙◌}
use Rattle.std.proofs.lemmas.List.{drop_more}
use Rattle.hpx_counters.specs.Counters.{counter_value, value_text}
use Rattle.hpx_top.specs.Printed.{counters_text}
use Rattle.hpx_top.proofs.ShowLemmas.{any_err, pieces_more, pieces_front}
use Rattle.hpx_top.proofs.printed.write_values.Goals as goal

pub returns-in_err-write_value-clause-front : goal.returns-in_err-write_value-clause-front
returns-in_err-write_value-clause-front g c =
    let items = c.args.counters.now in
    let i = c.loop-counter.counter-index in
    any_err c.from_residual.result _
    (pieces_front (λ counter. value_text counter (counter_value counter c.args.journal.now.entries)) items i _
    (counters_text items c.args.journal.now.entries) _ _ _ (drop_more items i _ c.loop-counter-test.true) c.loop-counter.invariant.0 c.in_err-write_value.ensures.front)

pub loop-counter-preserved : goal.loop-counter-preserved
loop-counter-preserved g c =
    let items = c.args.counters.now in
    let i = c.loop-counter.counter-index in (
      pieces_more (λ counter. value_text counter (counter_value counter c.args.journal.now.entries)) items i _
          (counters_text items c.args.journal.now.entries) _ _ _ (drop_more items i _ c.loop-counter-test.true) c.loop-counter.invariant.0 c.in_ok-write_value.ensures.held,
      c.in_ok-write_value.ensures.stands ∙ c.loop-counter.invariant.1,
    )
