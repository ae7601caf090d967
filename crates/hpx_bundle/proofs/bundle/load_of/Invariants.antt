use Rattle.std.proofs.Common.{◌≡◌, ◌<◌, take}
use Rattle.hpx_bundle.specs.Bundles.{Fits, load_of}
use Rattle.hpx_bundle.proofs.bundle.load_of.Given as goal

abbrev pub invariant-loop-part : goal.invariant-loop-part
invariant-loop-part l = record {
  load : l.load ≡ load_of (take l.part-index l.parts);
  fits : 0 < l.part-index → Fits (take l.part-index l.parts);
}
