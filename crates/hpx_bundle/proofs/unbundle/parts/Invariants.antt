use Rattle.std.proofs.Common.{◌≡◌, map, take}
use Rattle.hpx_bundle.specs.Unbundling.{part_text}
use Rattle.hpx_bundle.proofs.unbundle.parts.Given as goal

abbrev pub invariant-loop-place : goal.invariant-loop-place
invariant-loop-place l = l.parts ≡ map (part_text l.frame) (take l.place-index l.place-items)
