use Rattle.std.proofs.Common.{arith}
use Rattle.hpx_parcel.proofs.Frames.{decoded_ok, decoded_read, decoded_bad}
use Rattle.hpx_parcel.proofs.read.decode.Goals as goal

pub returns-clause-ok : goal.returns-clause-ok
returns-clause-ok c = decoded_ok c.args.bytes.now c.read.result (λ i. omega (arith, c.type_inv.bytes i)) c.read.ensures.ok

pub returns-clause-read : goal.returns-clause-read
returns-clause-read c = decoded_read c.args.bytes.now c.read.result (λ i. omega (arith, c.type_inv.bytes i)) c.read.ensures.ok

pub returns-clause-bad : goal.returns-clause-bad
returns-clause-bad c = decoded_bad c.args.bytes.now c.read.result (λ i. omega (arith, c.type_inv.bytes i)) c.read.ensures.err
