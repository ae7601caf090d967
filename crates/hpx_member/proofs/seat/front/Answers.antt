use Rattle.hpx_member.proofs.Frames.{spelled_framed}
use Rattle.hpx_member.proofs.seat.front.Goals as goal

pub returns-in_ok-encode-in-Some-clause-frame : goal.returns-in_ok-encode-in-Some-clause-frame
returns-in_ok-encode-in-Some-clause-frame g c = spelled_framed _ _ c.in_ok-encode-in-Some.ensures.text
