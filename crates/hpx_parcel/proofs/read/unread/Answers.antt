use Rattle.hpx_parcel.proofs.Frames.{spelled_read}
use Rattle.hpx_parcel.proofs.read.unread.Goals as goal

pub returns-in-Ok : goal.returns-in-Ok
returns-in-Ok c = let f = c.in-Ok.ensures.ok.frame in (f.0, spelled_read c.args.bytes.now f.0 f.1)
