use Rattle.std.proofs.Common.{◌≡◌, ◌≤◌, ◌-◌, [], length}
use Rattle.hpx_parcel.specs.Reading.{each_at, joined}
use Rattle.hpx_parcel.proofs.values.each_of.Given as goal

abbrev pub invariant-loop : goal.invariant-loop
invariant-loop l = record {
  given : joined l.values l.ids (each_at l.limit (length l.ids) (l.count - l.counter) l.rest) ≡ joined [] l.fn.ids (each_at l.limit (length l.fn.ids) l.count l.bytes);
  few : length l.fn.ids ≤ l.limit → length l.ids ≤ l.limit;
}
