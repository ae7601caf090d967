use Rattle.std.proofs.Common.{◌<◌, ◌∙◌, length, arith}
use Rattle.hpx_top.proofs.ShowLemmas.{any_err, up_to_more, up_to_front}
use Rattle.hpx_top.proofs.session.show.Goals as goal

pub returns-in_err-show_entry-clause-front : goal.returns-in_err-show_entry-clause-front
returns-in_err-show_entry-clause-front g c =
    let within : c.loop-i.i < length c.args.journal.now.entries = omega arith in
    any_err c.from_residual.result _
    (up_to_front c.args.journal.now.entries c.loop-i.i _ _ _ _ within c.loop-i.invariant.0 (λ e at. c.in_err-show_entry.ensures.front e at))

pub loop-i-preserved : goal.loop-i-preserved
loop-i-preserved g c =
    let within : c.loop-i.i < length c.args.journal.now.entries = omega arith in (
      up_to_more c.args.journal.now.entries c.loop-i.i _ _ _ _ within c.loop-i.invariant.0 (λ e at. c.in_ok-show_entry.ensures.held e at),
      c.in_ok-show_entry.ensures.stands ∙ c.loop-i.invariant.1,
    )
