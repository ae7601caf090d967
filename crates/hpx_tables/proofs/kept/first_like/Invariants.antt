use Rattle.std.proofs.Common.{◌≡◌, None, drop, take}
use Rattle.std.specs.List.{find}
use Rattle.hpx_tables.specs.Merged.{is_like}
use Rattle.hpx_tables.proofs.kept.first_like.Given as goal

abbrev pub invariant-loop-k : goal.invariant-loop-k
invariant-loop-k l =
    (find (is_like l.rider l.log) l.ids ≡ find (is_like l.rider l.log) (drop l.k l.ids)) × (find (is_like l.rider l.log) (take l.k l.ids) ≡ None)
