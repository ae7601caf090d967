use Rattle.std.proofs.Common.{◌≡◌, ◌++◌, drop, map}
use Rattle.hpx_replay.proofs.changes.objects_of.Given as goal

abbrev pub invariant-loop-x : goal.invariant-loop-x
invariant-loop-x l = l.out.items ++ map (λ x. x.object) (drop l.x-index l.travels) ≡ map (λ x. x.object) l.travels
