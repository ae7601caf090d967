use Rattle.hpx_node.proofs.Common.{IsFree, Locality, Some, Stands, Tables, ap, arith, fire_stands, fired_of, refl, slice_get, started_runs, subst, sym, ◌∙◌, ◌≡◌}
use Rattle.hpx_node.proofs.Same.{writes_from, same_too}
use Rattle.hpx_node.proofs.Targets.{at_error, one_free}
use Rattle.hpx_node.proofs.Turns.{turn_from, adds_one}
use Rattle.hpx_node.proofs.node.Node.fire.Goals as goal

pub returns-clause-fired : goal.returns-clause-fired
returns-clause-fired g c =
    writes_from _ _ _ _ _ _ _ c.in_ok-reserve.ensures.same c.in_ok-reserve-2.ensures.entries
    (c.start.ensures.fired c.in_ok-job.job.action (rw c.in_ok-reserve.ensures.same c.in_ok-job.ensures.action))

pub returns-clause-job : goal.returns-clause-job
returns-clause-job g c =
    let at = rw (← c.self.view_is) at c.in_ok-job.ensures.action in
    let free : IsFree (fired_of c.self.inside.running.items c.self.inside.pending.items) c.self.inside.objects.items c.in_ok-job.job.action =
    rw (← c.as_slice.ensures.value, ← c.as_slice-2.ensures.value) (c.in-Some.ensures.free c.in_ok-job.job.action at) in
    let found = c.in-Some.ensures.found c.in_ok-job.job.action at in
    let stands : slice_get c.self.inside.objects.items c.in-Some.spot.1 ≡ Some free.standing = sym found ∙ free.found in
    let job = (rw (← c.self.view_is) at c.in_ok-job.ensures.object) free.standing stands in
    let now = c.start.ensures.started c.in_ok-job.job.action (rw (c.in_ok-reserve.ensures.same, ← c.self.view_is) at) ∙ rw (c.in_ok-reserve.ensures.same, ← c.self.view_is) in
    rw (← c.self.view_is) (record {
      i = c.in-Some.spot.0;
      standing = free.standing;
      action = at;
      first = rw (← c.as_slice.ensures.value, ← c.as_slice-2.ensures.value) c.in-Some.ensures.first;
      free = free;
      found = free.found;
      here = rw (← c.self.view_is) at c.in_ok-job.ensures.here;
      kind = job.0;
      state = job.1;
      accepted = ap (λ (x : Tables). x.accepted) now;
      running = ap (λ (x : Tables). x.running) now;
      rest = rw now refl;
      runs = started_runs c.self.inside.here c.self.inside.running.items c.self.inside.objects.items c.start.new.self.tables c.in_ok-job.job
          c.in-Some.spot.1 free.standing (ap (λ (x : Tables). x.here) now) (ap (λ (x : Tables). x.running) now) (ap (λ (x : Tables). x.objects) now)
          (rw (← c.self.view_is) at c.in_ok-job.ensures.here) stands free.found job.0 job.1;
    })

pub returns-in_err-reserve-clause-stands : goal.returns-in_err-reserve-clause-stands
returns-in_err-reserve-clause-stands g c =
    same_too (Stands g.A.Acts.act_of) c.args.self.now.tables _ _ _ c.requires.stands c.in_err-reserve.ensures.same refl

pub returns-in_err-reserve-2-clause-stands : goal.returns-in_err-reserve-2-clause-stands
returns-in_err-reserve-2-clause-stands g c =
    same_too (Stands g.A.Acts.act_of) c.args.self.now.tables _ _ _ c.requires.stands c.in_ok-reserve.ensures.same c.in_err-reserve-2.ensures.entries

pub returns-clause-stands : goal.returns-clause-stands
returns-clause-stands g c =
    let act = c.in_ok-job.job.action in
    let at = rw (← c.self.view_is) at c.in_ok-job.ensures.action in
    let stands = rw (← c.self.view_is) at c.requires.stands in
    let free : IsFree (fired_of c.self.inside.running.items c.self.inside.pending.items) c.self.inside.objects.items act =
    rw (← c.as_slice.ensures.value, ← c.as_slice-2.ensures.value) (c.in-Some.ensures.free act at) in
    let same = c.in_ok-reserve.ensures.same ∙ sym (ap (λ (x : Locality). x.tables) c.self.view_is) in
    let here : slice_get c.reserve.new.self.tables.accepted c.in-Some.spot.0 ≡ Some act = rw (c.in_ok-reserve.ensures.same, ← c.self.view_is) at in
    let fired = writes_from _ _ _ _ _ _ _ same c.in_ok-reserve-2.ensures.entries (c.start.ensures.fired act here) in
    subst (Stands g.A.Acts.act_of c.start.new.self.tables) (sym fired.grows)
    (fire_stands g.A.Acts.act_of _ c.start.new.self.tables _ stands (omega (arith, c.self.invariant.3.log_least)) c.in-Some.spot.0 act free.standing at free.found free.idle
    (c.start.ensures.started act here ∙ rw (c.in_ok-reserve.ensures.same, ← c.self.view_is)))

pub returns-clause-turn : goal.returns-clause-turn
returns-clause-turn g c = turn_from _ _ _ c.in_ok-reserve-2.ensures.entries
    (adds_one _ _ _ _ (c.start.ensures.fired c.in_ok-job.job.action (rw c.in_ok-reserve.ensures.same c.in_ok-job.ensures.action)).grows (omega arith))

pub returns-in_err-job-clause-waits : goal.returns-in_err-job-clause-waits
returns-in_err-job-clause-waits g c =
    let n = c.self.inside in
    rw (← c.self.view_is) (at_error _ _ (one_free (fired_of n.running.items n.pending.items) n.objects.items n.accepted.items c.in-Some.spot.0 (omega (arith, c.in-Some.ensures.inside.0))
    (rw (← c.as_slice.ensures.value, ← c.as_slice-2.ensures.value) c.in-Some.ensures.free)))

pub returns-in_err-reserve-clause-waits : goal.returns-in_err-reserve-clause-waits
returns-in_err-reserve-clause-waits g c =
    let n = c.self.inside in
    rw (← c.self.view_is) (at_error _ _ (one_free (fired_of n.running.items n.pending.items) n.objects.items n.accepted.items c.in-Some.spot.0 (omega (arith, c.in-Some.ensures.inside.0))
    (rw (← c.as_slice.ensures.value, ← c.as_slice-2.ensures.value) c.in-Some.ensures.free)))

pub returns-in_err-reserve-2-clause-waits : goal.returns-in_err-reserve-2-clause-waits
returns-in_err-reserve-2-clause-waits g c =
    let n = c.self.inside in
    rw (← c.self.view_is) (at_error _ _ (one_free (fired_of n.running.items n.pending.items) n.objects.items n.accepted.items c.in-Some.spot.0 (omega (arith, c.in-Some.ensures.inside.0))
    (rw (← c.as_slice.ensures.value, ← c.as_slice-2.ensures.value) c.in-Some.ensures.free)))
