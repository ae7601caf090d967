use Rattle.std.proofs.Common.{◌≡◌, drop}
use Rattle.hpx_parcel.specs.Outlines.{most_home}
use Rattle.hpx_parcel.proofs.outline.most_home.Given as goal

abbrev pub invariant-loop-id : goal.invariant-loop-id
invariant-loop-id l = most_home l.most (drop l.id-index l.ids) ≡ most_home l.before l.fn.ids
