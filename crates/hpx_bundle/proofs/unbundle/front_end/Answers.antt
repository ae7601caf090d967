use Rattle.std.proofs.Common.{◌≡◌, rules, arith, false}
use Rattle.hpx_parcel.specs.declared.parcel.Why.TheVariants.{Trailing}
use Rattle.hpx_bundle.specs.Unbundling.{trails}
use Rattle.hpx_bundle.proofs.Taken.{front_whole, front_some, front_ends, ends_within, front_fails, refused_low}
use Rattle.hpx_bundle.proofs.unbundle.front_end.Goals as goal

pub returns-in-Ok-clause-ok : goal.returns-in-Ok-clause-ok
returns-in-Ok-clause-ok c = front_whole c.args.bytes.now c.in-Ok.ensures.ok.frame

pub returns-in-Ok-clause-inside : goal.returns-in-Ok-clause-inside
returns-in-Ok-clause-inside c = (front_some c.args.bytes.now c.in-Ok.ensures.ok.frame, omega arith)

pub returns-in-Err-clause-ok : goal.returns-in-Err-clause-ok
returns-in-Err-clause-ok c = let why : c.in-Err.fault.why ≡ Trailing = search rules in front_ends c.args.bytes.now c.in-Err.fault c.in-Err.ensures.bad why

pub returns-in-Err-clause-inside : goal.returns-in-Err-clause-inside
returns-in-Err-clause-inside c = let why : c.in-Err.fault.why ≡ Trailing = search rules in ends_within c.args.bytes.now c.in-Err.fault (λ i. omega (arith, c.type_inv.bytes i)) c.in-Err.ensures.bad why

pub returns-in-Err-2-clause-err : goal.returns-in-Err-2-clause-err
returns-in-Err-2-clause-err c = let why : trails c.in-Err.fault.why ≡ false = search rules in front_fails c.args.bytes.now c.in-Err.fault c.in-Err.ensures.bad why

pub returns-in-Err-2-clause-at : goal.returns-in-Err-2-clause-at
returns-in-Err-2-clause-at c = refused_low c.args.bytes.now c.in-Err.fault c.in-Err.ensures.bad
