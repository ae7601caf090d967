-- A fabric that tells, with nothing in flight and nothing in its trace, carries for an empty journal.
use Rattle.std.proofs.Common.{List, [], ◌≡◌, Option, Some, None, refl}
use Rattle.hpx_journal.specs.Entries.{Frame, Rules}
use Rattle.hpx_journal.specs.declared.entry.Entry.{Entry}
use Rattle.hpx_ports.specs.declared.fabric.Wire.{Wire}
use Rattle.hpx_world.specs.Away.{IsCarrying}

pub carrying_start : (r : Rules) (hand : Option Frame) (flight : Option (List Frame)) (trace : Option (List Wire)) (entries : List Entry)
    → hand ≡ None → flight ≡ Some [] → trace ≡ Some [] → entries ≡ [] → IsCarrying r hand flight trace entries
carrying_start r hand flight trace entries h f t e = rw (h, f, t, e) (record {
  frames = [];
  wires = [];
  flight_is = refl;
  trace_is = refl;
  carried = tt;
  bag = λ x. refl;
  sent = refl;
  arrived = refl;
})
