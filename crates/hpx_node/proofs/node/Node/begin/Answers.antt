use Rattle.hpx_node.proofs.Common.{Locality, Tables, ap, arith, asked_events, at_all, first_cuts, length, refl, seen, slice_get_less, ◌++◌, ◌∙◌, ◌≤◌}
use Rattle.hpx_node.proofs.Seen.{fit_seen}
use Rattle.hpx_node.proofs.TurnSteps.{adds_asks}
use Rattle.hpx_node.proofs.Waited.{before_short, before_own, before_least, lacks_few, kept_before, begins_by, something}
use Rattle.hpx_node.proofs.Told.{move_goes}
use Rattle.hpx_node.proofs.Turned.{at_rest_tidy}
use Rattle.hpx_node.proofs.node.Node.begin.Goals as goal

pub push_first_splits-requires : goal.push_first_splits-requires
push_first_splits-requires g c =
    let short : length (first_cuts c.args.before.own 0 c.as_slice.result.now c.as_slice-2.result.now) ≤ 193 =
    rw (c.as_slice.ensures.value, c.as_slice-2.ensures.value) (before_short c.args.self.now.tables (seen c.args.done.job) c.args.done.outcome c.args.before c.requires.before c.args.done.localities c.requires.laws (fit_seen c.args.done.job c.requires.fit)) in
    record {
      own = rw c.as_slice.ensures.value (before_own c.args.self.now.tables (seen c.args.done.job) c.args.done.outcome c.args.before c.requires.before);
      page = omega (arith, short, c.requires.page);
    }

pub push_asks-requires : goal.push_asks-requires
push_asks-requires g c =
    let short : length (first_cuts c.args.before.own 0 c.as_slice.result.now c.as_slice-2.result.now) ≤ 193 =
    rw (c.as_slice.ensures.value, c.as_slice-2.ensures.value) (before_short c.args.self.now.tables (seen c.args.done.job) c.args.done.outcome c.args.before c.requires.before c.args.done.localities c.requires.laws (fit_seen c.args.done.job c.requires.fit)) in
    let few : length c.as_slice-3.result.now ≤ 162 = rw c.as_slice-3.ensures.value (lacks_few c.args.self.now.tables (seen c.args.done.job) c.args.done.outcome c.args.before c.requires.before c.args.done.localities c.requires.laws (fit_seen c.args.done.job c.requires.fit)) in
    omega (arith, short, few, c.push_first_splits.ensures.page, c.requires.page)

pub pause-requires-clause-object : goal.pause-requires-clause-object
pause-requires-clause-object g c = slice_get_less c.args.self.now.tables.objects c.args.j c.requires.at.standing c.requires.at.stands

pub pause-requires-clause-kept : goal.pause-requires-clause-kept
pause-requires-clause-kept g c =
    kept_before c.args.self.now.tables (seen c.args.done.job) c.args.done.outcome c.args.before c.requires.before c.requires.at.standing c.requires.at.state c.requires.fit.state
    (at_rest_tidy g.A.Acts.act_of _ _ c.requires.stands) c.args.j c.requires.at.stands

pub ask_all-requires : goal.ask_all-requires
ask_all-requires g c =
    let few : length c.as_slice-4.result.now ≤ 162 = rw c.as_slice-4.ensures.value (lacks_few c.args.self.now.tables (seen c.args.done.job) c.args.done.outcome c.args.before c.requires.before c.args.done.localities c.requires.laws (fit_seen c.args.done.job c.requires.fit)) in
    record {
      least = rw c.as_slice-4.ensures.value (before_least c.args.self.now.tables (seen c.args.done.job) c.args.done.outcome c.args.before c.requires.before c.args.done.localities c.requires.laws (fit_seen c.args.done.job c.requires.fit));
      few = omega (arith, few, c.requires.asked, ap (λ (x : Tables). x.asked) c.pause.ensures.pauses.rest);
      spare = omega (arith, few, c.requires.spare, c.pause.ensures.spare);
    }

pub returns : goal.returns
returns g c =
    let d = c.args.done in
    let t = c.args.self.now.tables in
    let short : length (first_cuts c.args.before.own 0 c.as_slice.result.now c.as_slice-2.result.now) ≤ 193 =
    rw (c.as_slice.ensures.value, c.as_slice-2.ensures.value) (before_short c.args.self.now.tables (seen c.args.done.job) c.args.done.outcome c.args.before c.requires.before c.args.done.localities c.requires.laws (fit_seen c.args.done.job c.requires.fit)) in
    let few : length c.as_slice-3.result.now ≤ 162 = rw c.as_slice-3.ensures.value (lacks_few c.args.self.now.tables (seen c.args.done.job) c.args.done.outcome c.args.before c.requires.before c.args.done.localities c.requires.laws (fit_seen c.args.done.job c.requires.fit)) in
    let pauses = rw c.new.ensures at c.pause.ensures.pauses in
    let asks = rw c.as_slice-4.ensures.value at c.ask_all.ensures.asks in
    let here = ap (λ (x : Locality). x.tables.here) c.self.view_is in
    let cut = rw (c.as_slice.ensures.value, c.as_slice-2.ensures.value, here) at c.push_first_splits.ensures.entries in
    let asked = rw (c.as_slice-3.ensures.value, here) at c.push_asks.ensures.entries in
    let valid = rw (ap (λ (x : Locality). x.tables.profile) c.self.view_is) at c.self.invariant.3 in
    let some = something d.localities t (seen d.job) d.outcome c.requires.laws (fit_seen d.job c.requires.fit) (omega (arith, c.requires.localities, c.requires.few)) valid.log_least c.requires.short in
    let k = begins_by g.A.Acts.act_of t c.pause.new.self.tables c.ask_all.new.self.tables d.job d.outcome d.localities c.args.before c.args.i c.args.j _ c.args.book.now.entries
    c.push_asks.new.book.entries c.requires.fit c.requires.few c.requires.laws c.requires.before c.requires.localities c.requires.here refl pauses asks
    (asked ∙ ap (λ es. es ++ at_all t.here (asked_events c.args.before.lacking.items)) cut) some
    (λ code. c.requires.short (move_goes d.localities t d.job d.outcome c.requires.fit c.requires.laws c.requires.at.standing c.requires.at.found c.requires.at.kind code)) c.requires.stands in
    record {
      stands = k.0;
      turn = adds_asks c.self.inside.here c.args.before.own c.as_slice.result.now c.as_slice-2.result.now c.as_slice-3.result.now _ _ _
          c.push_first_splits.ensures.entries c.push_asks.ensures.entries short few;
      begins = k.1;
    }
