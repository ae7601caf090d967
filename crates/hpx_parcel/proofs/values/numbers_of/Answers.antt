use Rattle.std.proofs.Common.{rules, FitsSigned, w64, to_z-of_z}
use Rattle.std.proofs.lemmas.Result.{err_from_is_err_and}
use Rattle.hpx_parcel.specs.Reading.{numbers_at}
use Rattle.hpx_parcel.specs.declared.fields.ReadError.TheVariants as errors
use Rattle.hpx_parcel.proofs.Loops.{numbers_go_on, numbers_end, numbers_done}
use Rattle.hpx_parcel.proofs.values.numbers_of.Goals as goal

pub returns-in_err-number : goal.returns-in_err-number
returns-in_err-number c =
    let p = err_from_is_err_and c.from_residual.result c.from_residual.ensures.1 in
    rw (p.1, p.2) (numbers_end (errors.Stop c.in_err-number.field-0.0) c.loop.numbers c.args.count c.loop.counter c.loop.rest.now (numbers_at c.args.count c.args.bytes.now) c.loop-test.true c.in_err-number.ensures c.loop.invariant)

pub loop-preserved : goal.loop-preserved
loop-preserved c =
    let n = c.in_ok-number.number in
    let fits : FitsSigned w64 n = search rules in
    let pushed = simp to_z-of_z at c.in_ok-push.ensures.ok in
    rw pushed (numbers_go_on c.loop.numbers c.args.count c.loop.counter c.loop.rest.now n c.in_ok-number.after.now (numbers_at c.args.count c.args.bytes.now) c.loop-test.true c.in_ok-number.ensures c.loop.invariant)

pub returns : goal.returns
returns c = numbers_done c.loop.numbers c.args.count c.loop.counter c.loop.rest.now (numbers_at c.args.count c.args.bytes.now) c.loop-test.false c.loop.invariant
