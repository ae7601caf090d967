use Rattle.std.proofs.Common.{rules, refl, ap, ◌∙◌, arith}
use Rattle.std.specs.Vec.{with_items}
use Rattle.std.proofs.lemmas.List.{with_items_is, places}
use Rattle.hpx_pool.specs.Bags.{weigh, joined}
use Rattle.hpx_pool.specs.Hands.{got_of, put_of}
use Rattle.hpx_pool.proofs.Lists.{weigh-append}
use Rattle.hpx_pool.proofs.Frames.{none_left}
use Rattle.hpx_pool.proofs.Steps.{same_put, same_got, room_left}
use Rattle.hpx_pool.proofs.pool.gather.Goals as goal

pub left_all-requires : goal.left_all-requires
left_all-requires c =
    rw (c.as_mut_slice-2.ensures.value ∙ with_items_is c.loop.hands c.merge_one.new.hands (search (rules, places))) (none_left _ c.merge_one.ensures.all (c.loop-test.ensures.none refl))

pub returns-in_default-clause-got : goal.returns-in_default-clause-got
returns-in_default-clause-got c h =
    let v = with_items c.loop.hands c.merge_one.new.hands in
    let last = c.as_mut_slice-2.ensures.value ∙ with_items_is c.loop.hands c.merge_one.new.hands (search (rules, places)) in
    let end = with_items_is v c.left_all.new.hands (search (rules, places)) in
    omega (
      arith,
      ap (λ l. weigh h (joined got_of l)) end,
      same_got _ _ c.left_all.ensures.got h,
      ap (λ l. weigh h (joined got_of l)) last,
      c.merge_one.ensures.got h,
      ap (λ l. weigh h (joined got_of l)) c.as_mut_slice.ensures.value,
      c.loop.invariant.2 h,
    )

pub returns-then-is_err-clause-got : goal.returns-then-is_err-clause-got
returns-then-is_err-clause-got c h =
    let v = with_items c.loop.hands c.merge_one.new.hands in
    let last = c.as_mut_slice-2.ensures.value ∙ with_items_is c.loop.hands c.merge_one.new.hands (search (rules, places)) in
    let end = with_items_is v c.left_all.new.hands (search (rules, places)) in
    omega (
      arith,
      ap (λ l. weigh h (joined got_of l)) end,
      same_got _ _ c.left_all.ensures.got h,
      ap (λ l. weigh h (joined got_of l)) last,
      c.merge_one.ensures.got h,
      ap (λ l. weigh h (joined got_of l)) c.as_mut_slice.ensures.value,
      c.loop.invariant.2 h,
    )

pub drain_all-requires : goal.drain_all-requires
drain_all-requires c =
    let v = with_items c.loop.hands c.merge_one.new.hands in
    let last = c.as_mut_slice-2.ensures.value ∙ with_items_is c.loop.hands c.merge_one.new.hands (search (rules, places)) in
    let end = with_items_is v c.left_all.new.hands (search (rules, places)) in
    room_left c.in-Some.n _ _ c.left_all.new.hands c.as_mut_slice-3.result.now c.in-Some.ensures.left (c.as_mut_slice-3.ensures.value ∙ end) (search rules)

pub returns-clause-ok : goal.returns-clause-ok
returns-clause-ok c h =
    let v = with_items c.loop.hands c.merge_one.new.hands in
    let last = c.as_mut_slice-2.ensures.value ∙ with_items_is c.loop.hands c.merge_one.new.hands (search (rules, places)) in
    let end = with_items_is v c.left_all.new.hands (search (rules, places)) in
    let lent = c.as_mut_slice-3.ensures.value ∙ end in
    omega (
      arith,
      c.drain_all.ensures h,
      ap (λ l. weigh h (joined put_of l)) lent,
      ap (λ l. weigh h (joined got_of l)) lent,
      same_got _ _ c.left_all.ensures.got h,
      ap (λ l. weigh h (joined got_of l)) last,
      c.merge_one.ensures.got h,
      ap (λ l. weigh h (joined got_of l)) c.as_mut_slice.ensures.value,
      c.loop.invariant.2 h,
      same_put _ _ c.left_all.ensures.put h,
      ap (λ l. weigh h (joined put_of l)) last,
      same_put _ _ c.merge_one.ensures.put h,
      ap (λ l. weigh h (joined put_of l)) c.as_mut_slice.ensures.value,
      same_put _ _ c.loop.invariant.1 h,
      ap (weigh h) c.new-left.ensures.items,
      ap (weigh h) c.reserve.ensures.items,
      weigh-append h (joined got_of c.args.hands.items) c.drain_all.new.left.items,
    )
