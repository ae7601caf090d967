use Rattle.hpx_parcel.proofs.Frames.{one_parcel}
use Rattle.hpx_parcel.proofs.laws.one_parcel.Goals as goal

pub returns : goal.returns
returns c = one_parcel
