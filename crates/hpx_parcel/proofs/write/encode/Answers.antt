use Rattle.std.proofs.Common.{refl}
use Rattle.hpx_parcel.proofs.Frames.{spelled_parcel}
use Rattle.hpx_parcel.proofs.write.encode.Goals as goal

pub returns-clause-read : goal.returns-clause-read
returns-clause-read c = spelled_parcel c.from_vec.result c.args.parcel.now (record {
  parcel = c.requires;
  fits = c.in_ok-put_parcel.ensures.fits;
  text = rw (c.from_vec.ensures, c.in_ok-put_parcel.ensures.text, c.new-out.ensures.items) refl;
})
