use Rattle.std.proofs.Common.{arith}
use Rattle.hpx_parcel.proofs.Lists.{each_below}
use Rattle.hpx_parcel.proofs.write.put_text.Goals as goal

pub returns-clause-fits : goal.returns-clause-fits
returns-clause-fits c = each_below 256 c.args.text.now (λ i. omega (arith, c.type_inv.text i))
