use Rattle.hpx_node.proofs.Common.{awaits, find_passes, length, slice_get_is, sym, ◌<◌, ◌∙◌}
use Rattle.hpx_node.proofs.Paused.{in_place, paused_at}
use Rattle.hpx_node.proofs.node.Node.failing.Goals as goal

pub returns-clause-some : goal.returns-clause-some
returns-clause-some g c =
    let ps = c.self.inside.pending.items in
    let w = c.index-waits.result.now in
    let inside : c.in-Some.i < length c.self.inside.pending.items = rw (c.as_slice.ensures.value) at c.in-Some.ensures.inside in
    let there = slice_get_is c.self.inside.pending.items c.in-Some.i c.index-waits.result.now inside c.index-waits.ensures in
    let found = rw (c.as_slice.ensures.value) at c.in-Some.ensures.found in
    let first = rw (c.as_slice.ensures.value) at c.in-Some.ensures.first in
    let tidy = rw (← c.self.view_is) at c.requires.tidy in
    let paused = paused_at _ c.in-Some.i c.index-waits.result.now tidy there in
    let object = rw (c.target.ensures, c.action.ensures) at c.in-Some-place.ensures.found in
    let plan = rw (← c.self.view_is) at c.in_ok-plan.ensures.plan in
    rw (← c.self.view_is, c.in-Give.is) (record {
      commit = c.index-waits.result.now;
      there = there;
      first = first;
      for = find_passes (awaits c.in-Give.id c.in-Give.entry) c.self.inside.pending.items c.index-waits.result.now (found ∙ there);
      last = sym c.fails_with.ensures ∙ c.if-not-fails_with.false;
      place = in_place _ _ _ _ c.index-waits.result.now c.in-Some-place.j paused tidy.objects (sym object ∙ paused.found);
      plan = plan c.index-waits.result.now there;
      few = c.in_ok-plan.ensures.few;
    })
