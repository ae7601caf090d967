use Rattle.hpx_parcel.proofs.Ids.{read_is}
use Rattle.hpx_parcel.proofs.fields.gid_of.Goals as goal

pub returns : goal.returns
returns c = read_is c.args.msb c.args.lsb c.read.result c.ranges.msb.fits c.ranges.lsb.fits c.read.ensures.some c.read.ensures.valid c.read.ensures.none
