use Rattle.std.proofs.Common.{refl}
use Rattle.hpx_member.proofs.Seated.{grows_same}
use Rattle.hpx_member.proofs.seat.Seat.go.Goals as goal

pub returns-then-not-room-clause-grows : goal.returns-then-not-room-clause-grows
returns-then-not-room-clause-grows g c = grows_same _ _ _ _ refl refl

pub returns-then-is_passive-clause-grows : goal.returns-then-is_passive-clause-grows
returns-then-is_passive-clause-grows g c = grows_same _ _ _ _ refl refl
