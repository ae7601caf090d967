use Rattle.std.proofs.Common.{ap, ◌∙◌, arith, map, ◌++◌}
use Rattle.hpx_pool.specs.Bags.{weigh, joined}
use Rattle.hpx_pool.specs.Hands.{thief_deck, loot_of, own_deck}
use Rattle.hpx_pool.proofs.Frames.{cut_enough}
use Rattle.hpx_pool.proofs.Steps.{same_got, back_asks, back_is_all, shared_all}
use Rattle.hpx_pool.proofs.pool.share_one.Goals as goal

pub cut_row-requires : goal.cut_row-requires
cut_row-requires c = cut_enough _ c.requires.few c.requires.all

pub returns-in_err-cut_row-clause-got : goal.returns-in_err-cut_row-clause-got
returns-in_err-cut_row-clause-got c = same_got _ _ c.cut_row.ensures.got

pub merge_row-requires : goal.merge_row-requires
merge_row-requires c = ap (λ v. map thief_deck v.items) c.in-Some.ensures.some.0
    ∙ back_asks c.args.hands.now c.cut_row.new.hands c.give_row.new.hands _ (c.in_ok-cut_row.ensures.row ∙ ap (λ l. map thief_deck l ++ map own_deck c.args.hands.now) c.new-row.ensures.items) c.in_ok-cut_row.ensures.frames c.in-Some.ensures.some.1

pub returns-in-Some-clause-got : goal.returns-in-Some-clause-got
returns-in-Some-clause-got c h =
    omega (
      arith,
      c.merge_row.ensures.got h,
      ap (λ v. weigh h (joined loot_of v.items)) c.in-Some.ensures.some.0,
      ap (weigh h) c.in_ok-cut_row.ensures.none,
      ap (λ l. weigh h (joined loot_of l)) c.new-row.ensures.items,
      same_got _ _ (c.give_row.ensures.got ∙ c.cut_row.ensures.got) h,
    )

pub returns-in-Some-clause-all : goal.returns-in-Some-clause-all
returns-in-Some-clause-all c = back_is_all c.args.hands.now c.cut_row.new.hands c.give_row.new.hands _ c.requires.few c.requires.all c.in_ok-cut_row.ensures.frames c.in-Some.ensures.some.1 c.merge_row.ensures.frames

pub returns-in_default-clause-got : goal.returns-in_default-clause-got
returns-in_default-clause-got c = same_got _ _ (c.give_row.ensures.got ∙ c.cut_row.ensures.got)

pub returns-in_default-clause-all : goal.returns-in_default-clause-all
returns-in_default-clause-all c = shared_all c.args.hands.now c.cut_row.new.hands c.give_row.new.hands _ c.requires.few c.requires.some c.requires.all c.in_ok-cut_row.ensures.frames (c.in_ok-cut_row.ensures.row ∙ ap (λ l. map thief_deck l ++ map own_deck c.args.hands.now) c.new-row.ensures.items) c.in_default.ensures.none
