use Rattle.hpx_parcel.proofs.Frames.{spelled_short, spelled_fits}
use Rattle.hpx_parcel.proofs.laws.frame_law.Goals as goal

pub returns-clause-short : goal.returns-clause-short
returns-clause-short c = spelled_short

pub returns-clause-fits : goal.returns-clause-fits
returns-clause-fits c = spelled_fits
