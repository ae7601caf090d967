use Rattle.std.proofs.Common.{◌≡◌, ◌≤◌, ◌-◌}
use Rattle.hpx_parcel.specs.Reading.{each_at}
use Rattle.hpx_parcel.specs.Outlines.{values_part}
use Rattle.hpx_parcel.proofs.Seen.{shown}
use Rattle.hpx_parcel.proofs.glance.each_in.Given as goal

abbrev pub invariant-loop : goal.invariant-loop
invariant-loop l = record {
  given : shown (values_part l.seen) (each_at l.limit l.seen.ids (l.count - l.counter) l.rest) ≡ shown (values_part l.fn.before) (each_at l.limit l.fn.before.ids l.count l.bytes);
  few : l.fn.before.ids ≤ l.limit → l.seen.ids ≤ l.limit;
}
