use Rattle.std.proofs.Common.{◌≡◌, ◌++◌, drop, map}
use Rattle.hpx_value.specs.Values.{refs_in}
use Rattle.std.specs.List.{slice_index_or}
use Rattle.hpx_commit.proofs.mentions.Sites.push_state.Given as goal

abbrev pub invariant-loop-number : goal.invariant-loop-number
invariant-loop-number l =
    l.places.items ++ map (λ n. slice_index_or l.self.conts.items n 0) (drop l.number-index l.new.conts)
    ≡ (l.fn.places.items ++ refs_in l.new.values) ++ map (λ n. slice_index_or l.self.conts.items n 0) l.new.conts
