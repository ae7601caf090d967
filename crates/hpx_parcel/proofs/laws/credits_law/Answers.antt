use Rattle.hpx_parcel.proofs.Frames.{spelled_credits}
use Rattle.hpx_parcel.proofs.laws.credits_law.Goals as goal

pub returns : goal.returns
returns c = spelled_credits
