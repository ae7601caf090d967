use Rattle.std.proofs.Common.{◌≡◌, ◌-◌, ◌≤◌, length, drop, map}
use Rattle.std.specs.List.{AllByRecursion}
use Rattle.hpx_bundle.specs.Unbundling.{parts_at, part_text, IsWithin}
use Rattle.hpx_bundle.proofs.Parts.{with_front}
use Rattle.hpx_bundle.proofs.unbundle.several.Given as goal

abbrev pub invariant-loop-frame : goal.invariant-loop-frame
invariant-loop-frame l = record {
  same : l.frame ≡ l.fn.frame;
  some : 1 ≤ l.start;
  inside : l.start ≤ length l.fn.frame;
  few : length l.places.items ≤ l.count;
  all : AllByRecursion (IsWithin l.fn.frame) l.places.items;
  read : with_front (map (part_text l.fn.frame) l.places.items) (parts_at (l.count - length l.places.items) l.start (drop l.start l.fn.frame)) ≡ parts_at l.count 3 (drop 3 l.fn.frame);
}

abbrev pub decreases-loop-frame : goal.decreases-loop-frame
decreases-loop-frame l = l.count - length l.places.items
