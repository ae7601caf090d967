use Rattle.std.proofs.Common.{◌<◌, ap, length, map, ◌∙◌, rules}
use Rattle.std.proofs.lemmas.List.{map_push}
use Rattle.hpx_ports.specs.declared.flight.Stage.TheVariants.{Delivered}
use Rattle.hpx_ports.specs.Staged.{wire_of}
use Rattle.hpx_ports.proofs.FramesLemmas.{TakesOut-remove}
use Rattle.hpx_ports.proofs.flight.Flight.deliver.Goals as goal

pub returns-clause-trace : goal.returns-clause-trace
returns-clause-trace c =
    let frame = c.in_ok-frame.frame in
    rw (← c.self.view_is) (ap (map wire_of) c.and-self-inside.ensures ∙ map_push wire_of c.self.inside.stages.items (Delivered frame.0, frame.1))

pub returns-clause-delivers : goal.returns-clause-delivers
returns-clause-delivers c =
    let within : c.place-place.result < length c.self.inside.frames.items = search rules in
    rw (← c.self.view_is) (TakesOut-remove c.self.inside.frames.items c.remove.new.self.items c.in_ok-frame.frame c.place-place.result within c.in_ok-frame.ensures.value c.in_ok-frame.ensures.items)
