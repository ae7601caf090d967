use Rattle.hpx_parcel.proofs.Frames.{parcel_spelled, spelled_parcel}
use Rattle.hpx_parcel.proofs.laws.reading_law.Goals as goal

pub returns-clause-spelled : goal.returns-clause-spelled
returns-clause-spelled c = parcel_spelled

pub returns-clause-read : goal.returns-clause-read
returns-clause-read c = spelled_parcel
