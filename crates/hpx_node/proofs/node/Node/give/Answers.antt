use Rattle.hpx_node.proofs.Common.{IsPaused, all_at, awaits, find_passes, length, refl, slice_get_is, ◌<◌, ◌∙◌}
use Rattle.hpx_tables.proofs.Refills.{any_found}
use Rattle.hpx_node.proofs.Paused.{asked_within}
use Rattle.hpx_node.proofs.node.Node.give.Goals as goal

pub returns-in_default : goal.returns-in_default
returns-in_default g c =
    let waits = rw (← c.self.view_is) at c.requires.waits in
    let none = rw (c.as_slice.ensures.value) at c.in_default.ensures.none in
    absurd (any_found (awaits c.args.id c.args.entry) c.self.inside.pending.items waits none)

pub refill-requires-clause-waits : goal.refill-requires-clause-waits
refill-requires-clause-waits g c =
    let ps = c.self.inside.pending.items in
    let inside : c.in-Some.i < length c.self.inside.pending.items = rw (c.as_slice.ensures.value) at c.in-Some.ensures.inside in
    let there = slice_get_is ps c.in-Some.i c.index_mut.result.now inside c.index_mut.ensures.value in
    let found = rw (c.as_slice.ensures.value) at c.in-Some.ensures.found in
    find_passes (awaits c.args.id c.args.entry) ps c.index_mut.result.now (found ∙ there)

pub refill-requires-clause-within : goal.refill-requires-clause-within
refill-requires-clause-within g c =
    let n = c.self.inside in
    let tidy = rw (← c.self.view_is) at c.requires.tidy in
    let inside : c.in-Some.i < length c.self.inside.pending.items = rw (c.as_slice.ensures.value) at c.in-Some.ensures.inside in
    let there = slice_get_is n.pending.items c.in-Some.i c.index_mut.result.now inside c.index_mut.ensures.value in
    asked_within n.here n.localities n.profile.credit_log n.objects.items c.index_mut.result.now
    (all_at (IsPaused n.here n.localities n.profile.credit_log n.objects.items) n.pending.items c.in-Some.i c.index_mut.result.now tidy.paused.each there)

pub returns-clause-gives : goal.returns-clause-gives
returns-clause-gives g c =
    let inside : c.in-Some.i < length c.self.inside.pending.items = rw (c.as_slice.ensures.value) at c.in-Some.ensures.inside in
    let there = slice_get_is c.self.inside.pending.items c.in-Some.i c.index_mut.result.now inside c.index_mut.ensures.value in
    let alone = rw (c.as_slice.ensures.value) at c.in-Some.ensures.first in
    rw (← c.self.view_is) (record {
      i = c.in-Some.i;
      before = c.index_mut.result.now;
      after = c.refill.new.self;
      there = there;
      first = alone;
      refills = c.refill.ensures;
      rest = refl;
    })
