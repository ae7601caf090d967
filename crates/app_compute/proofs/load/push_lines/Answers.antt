use Rattle.std.proofs.Common.{◌≡◌, ◌+◌}
use Rattle.app_compute.proofs.Lines.{number_after, number_more, lines_pushed}
use Rattle.app_compute.proofs.load.push_lines.Goals as goal

pub loop-preserved : goal.loop-preserved
loop-preserved c =
    let next : c.next_number-number.result ≡ number_after c.args.start (c.loop.counter + 1) =
    number_more c.args.start c.loop.counter c.next_number-number.result c.loop.number c.loop.invariant.1 c.next_number-number.ensures in (
      lines_pushed c.args.n c.args.start c.loop.counter c.next_number-number.result c.args.texts.now c.loop.texts c.push.new.self c.in_ok-line_of.field-0
          c.loop.invariant.0 next c.in_ok-line_of.ensures c.in_ok-push.ensures.ok,
      next,
    )
