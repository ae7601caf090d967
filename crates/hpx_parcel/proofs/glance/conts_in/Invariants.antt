use Rattle.std.proofs.Common.{◌≡◌, ℕ, ◌+◌, ◌-◌}
use Rattle.hpx_parcel.specs.Reading.{conts_at}
use Rattle.hpx_parcel.specs.Outlines.{conts_part}
use Rattle.hpx_parcel.proofs.Seen.{shown}
use Rattle.hpx_parcel.proofs.glance.conts_in.Given as goal

abbrev pub invariant-loop : goal.invariant-loop
invariant-loop l = (place : ℕ) → shown (conts_part l.most) (conts_at (place + l.counter) (l.count - l.counter) l.rest) ≡ shown (conts_part l.before) (conts_at place l.count l.bytes)
