use Rattle.std.proofs.Common.{◌≡◌, ◌++◌, drop, flat_map, length}
use Rattle.hpx_value.specs.Mentions.{cont_places, reply_mentions}
use Rattle.hpx_value.specs.Riders.{rides_with, rider_places}
use Rattle.hpx_commit.proofs.mentions.push_rode.Given as goal

abbrev pub invariant-loop-x : goal.invariant-loop-x
invariant-loop-x l = (s : _) (a : _) → l.sites.conts.items ≡ cont_places s a
    → l.places.items ++ flat_map (λ x. reply_mentions s a x ++ rider_places (rides_with l.state l.may x) (length l.state.ids)) (drop l.x-index l.replies)
    ≡ l.fn.places.items ++ flat_map (λ x. reply_mentions s a x ++ rider_places (rides_with l.state l.may x) (length l.state.ids)) l.replies
