use Rattle.std.proofs.Common.{◌≡◌, ◌++◌, ◌∷◌, []}
use Rattle.std.proofs.lemmas.List.{length-append}
use Rattle.hpx_parcel.specs.Reading.{id_list}
use Rattle.hpx_parcel.proofs.Loops.{each_goes_on, each_ends, each_done}
use Rattle.hpx_parcel.proofs.values.each_of.Goals as goal

pub returns-in-Err-clause-given : goal.returns-in-Err-clause-given
returns-in-Err-clause-given c =
    let fault = rw c.len.ensures at c.in-Err.ensures.given in
    each_ends c.args.limit c.in-Err.error c.loop.values c.loop.ids c.args.count c.loop.counter c.loop.rest.now _ c.loop-test.true fault c.loop.invariant.given

pub loop-preserved : goal.loop-preserved
loop-preserved c =
    let o = c.in-Ok.id in
    let pushed : c.push_found.new.ids ≡ c.loop.ids ++ id_list o = c.in_ok-push_found-in-Ok.ensures in
    let values : c.push.new.self ≡ c.loop.values ++ c.in-Ok.value ∷ [] = c.in_ok-push-in-Ok.ensures.ok in
    let one = rw c.len.ensures at c.in-Ok.ensures.given in
    let few = rw c.len.ensures at c.in-Ok.ensures.few in
    record {
      given = rw (values, pushed) (each_goes_on c.args.limit c.loop.values c.loop.ids c.args.count c.loop.counter c.loop.rest.now c.in-Ok.value o c.in-Ok.after.now _ c.loop-test.true one c.loop.invariant.given);
      few = λ start. let sum = length-append c.loop.ids (id_list o) in let bound = few (c.loop.invariant.few start) in rw (pushed, sum) bound;
    }

pub returns-clause-given : goal.returns-clause-given
returns-clause-given c = each_done c.args.limit c.loop.values c.loop.ids c.args.count c.loop.counter c.loop.rest.now _ c.loop-test.false c.loop.invariant.given
