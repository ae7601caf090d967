use Rattle.std.proofs.Common.{◌≡◌, ◌++◌, drop, flat_map}
use Rattle.hpx_value.specs.Mentions.{cont_places, reply_mentions}
use Rattle.hpx_commit.proofs.mentions.Sites.push_replies.Given as goal

abbrev pub invariant-loop-x : goal.invariant-loop-x
invariant-loop-x l = (s : _) (a : _) → l.self.conts.items ≡ cont_places s a
    → l.places.items ++ flat_map (reply_mentions s a) (drop l.x-index l.replies) ≡ l.fn.places.items ++ flat_map (reply_mentions s a) l.replies
