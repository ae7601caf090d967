use Rattle.hpx_journal.specs.Local.{boot}
use Rattle.hpx_journal.specs.Roots.{roots}
use Rattle.hpx_replay.proofs.Replays.{each_more, length_more}
use Rattle.hpx_replay.proofs.space.Space.boot.Goals as goal

pub loop-k-preserved : goal.loop-k-preserved
loop-k-preserved c = record {
  count = length_more c.loop-k.places.items c.push.new.self.items c.in_ok-boot.field-0 c.loop-k.k c.in_ok-push.ensures.items c.loop-k.invariant.count;
  places = each_more c.loop-k.places.items c.push.new.self.items c.in_ok-boot.field-0 (λ j. boot (roots c.args.n j) j) c.loop-k.k
      c.in_ok-push.ensures.items c.loop-k.invariant.count c.in_ok-boot.ensures c.loop-k.invariant.places;
}
