use Rattle.std.proofs.Common.{◌≡◌, ◌++◌, ◌∷◌, [], length, arith}
use Rattle.std.proofs.lemmas.List.{length-append}
use Rattle.hpx_parcel.specs.declared.fields.ReadError.TheVariants as errors
use Rattle.hpx_parcel.proofs.Loops.{cont_to, conts_go_on, conts_end, conts_done}
use Rattle.hpx_parcel.proofs.acts.conts_of.Goals as goal

pub returns-in-Err : goal.returns-in-Err
returns-in-Err c = conts_end (errors.Stop c.in-Err.stop) c.loop.conts c.loop.ids c.args.count c.loop.counter c.loop.rest.now _ c.loop-test.true c.in-Err.ensures c.loop.invariant.given

pub loop-preserved : goal.loop-preserved
loop-preserved c =
    let ids : c.push_link.new.ids ≡ c.loop.ids ++ c.in-Ok.link.id ∷ [] = c.in_ok-push_link-in-Ok.ensures.ids in
    let conts : c.push_link.new.conts ≡ c.loop.conts ++ cont_to (length c.loop.ids) c.in-Ok.link.slot ∷ [] = c.in_ok-push_link-in-Ok.ensures.conts in
    record {
      given = rw (conts, ids) (conts_go_on c.loop.conts c.loop.ids c.args.count c.loop.counter c.loop.rest.now c.in-Ok.link.id c.in-Ok.link.slot c.in-Ok.after.now _ c.loop-test.true c.in-Ok.ensures c.loop.invariant.given);
      many = let sum = length-append c.loop.ids (c.in-Ok.link.id ∷ []) in let many = c.loop.invariant.many in rw (ids, sum) (omega arith);
    }

pub returns : goal.returns
returns c = conts_done c.loop.conts c.loop.ids c.args.count c.loop.counter c.loop.rest.now _ c.loop-test.false c.loop.invariant.given
