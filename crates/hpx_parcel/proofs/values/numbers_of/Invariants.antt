use Rattle.std.proofs.Common.{◌≡◌, ◌-◌}
use Rattle.hpx_parcel.specs.Reading.{numbers_at}
use Rattle.hpx_parcel.proofs.Loops.{with_front}
use Rattle.hpx_parcel.proofs.values.numbers_of.Given as goal

abbrev pub invariant-loop : goal.invariant-loop
invariant-loop l = with_front l.numbers (numbers_at (l.count - l.counter) l.rest) ≡ numbers_at l.count l.bytes
