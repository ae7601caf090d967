use Rattle.std.proofs.Common.{◌≡◌, ◌+◌, ◌∙◌, drop, refl}
use Rattle.std.specs.List.{slice_index_or}
use Rattle.std.proofs.lemmas.List.{take_rest}
use Rattle.hpx_value.specs.Hands.{id_at}
use Rattle.hpx_commit.specs.Deals.{share, named}
use Rattle.hpx_commit.proofs.Deals.{dealing_next}
use Rattle.hpx_commit.proofs.deal.deal.Goals as goal

pub loop-i-preserved : goal.loop-i-preserved
loop-i-preserved c =
    let hand = c.loop-i.hand.items in
    let places = c.args.places.now in
    let part : c.share-part.result
    ≡ share (id_at c.loop-i.hand.items (slice_index_or c.args.places.now c.loop-i.i 0))
    (named (drop (c.loop-i.i + 1) c.args.places.now) (slice_index_or c.args.places.now c.loop-i.i 0)) =
    c.share-part.ensures ∙ rw (c.id_at-id.ensures, c.named.ensures.count, c.as_slice.ensures.value, take_rest c.args.places.now (c.loop-i.i + 1)) refl in
    rw (c.in_ok-push_back.ensures.items, part)
    (dealing_next c.args.hand.now places c.loop-i.i hand c.loop-i.out.items 0 c.loop-i-test.true c.loop-i.invariant)
