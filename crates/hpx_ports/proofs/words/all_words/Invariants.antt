use Rattle.std.proofs.Common.{◌≡◌, ◌≤◌, length, take}
use Rattle.std.specs.Prelude.{IfSome}
use Rattle.hpx_ports.proofs.words.all_words.Given as goal

-- the words before this place, in order
abbrev pub invariant-loop-place : goal.invariant-loop-place
invariant-loop-place g l = IfSome (g.W.Words.words l.fn.source) (λ told. (l.place ≤ length told) × (l.all ≡ take l.place told))
