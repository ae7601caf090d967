use Rattle.std.proofs.Common.{length, sym, ap, ◌∙◌}
use Rattle.std.proofs.Math.Seq.{take-length}
use Rattle.hpx_ports.specs.Told.{followed}
use Rattle.hpx_launch.proofs.launch.say.Goals as goal

pub returns-in-Ok : goal.returns-in-Ok
returns-in-Ok g c = record {
  count = length c.args.line.now;
  front = c.in-Ok.ensures.ok ∙ ap (followed _) (sym (take-length c.args.line.now));
  whole = λ calm. c.in-Ok.ensures.ok;
}
