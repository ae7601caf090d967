use Rattle.std.proofs.Common.{◌≡◌, ◌++◌, drop, map}
use Rattle.hpx_parcel.specs.Credits.{credits_of}
use Rattle.hpx_journal.specs.Frames.{credited}
use Rattle.hpx_journal.proofs.cargo.tokens_of.Given as goal

abbrev pub invariant-loop-id : goal.invariant-loop-id
invariant-loop-id l = l.out.items ++ map (credited l.owed) (credits_of (drop l.id-index l.ids)) ≡ map (credited l.owed) (credits_of l.ids)
