use Rattle.std.proofs.Common.{◌≡◌, ◌+◌, ◌-◌, [], length}
use Rattle.hpx_parcel.specs.Reading.{conts_at, joined_conts}
use Rattle.hpx_parcel.proofs.acts.conts_of.Given as goal

abbrev pub invariant-loop : goal.invariant-loop
invariant-loop l = record {
  given : joined_conts l.conts l.ids (conts_at (length l.ids) (l.count - l.counter) l.rest) ≡ joined_conts [] l.fn.ids (conts_at (length l.fn.ids) l.count l.bytes);
  many : length l.ids ≡ length l.fn.ids + l.counter;
}
