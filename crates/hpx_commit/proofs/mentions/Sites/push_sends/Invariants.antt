use Rattle.std.proofs.Common.{◌≡◌, ◌+◌, ◌++◌, drop, flat_map, length}
use Rattle.hpx_value.specs.Mentions.{cont_places, send_mentions}
use Rattle.hpx_commit.proofs.mentions.Sites.push_sends.Given as goal

abbrev pub invariant-loop-x : goal.invariant-loop-x
invariant-loop-x l = (s : _) (a : _) → l.self.conts.items ≡ cont_places s a → l.self.made ≡ length s.ids + length a.ids
    → l.places.items ++ flat_map (send_mentions s a) (drop l.x-index l.sends) ≡ l.fn.places.items ++ flat_map (send_mentions s a) l.sends
