use Rattle.hpx_node.proofs.Common.{action_few, all_imp, arith, false, plain, seen, true, ◌≡◌}
use Rattle.hpx_node.proofs.PlanLimits.{own_is}
use Rattle.hpx_node.proofs.Planned.{hand_few, hand_within}
use Rattle.hpx_node.proofs.Seen.{fit_seen}
use Rattle.hpx_node.proofs.node.Node.prepare.Goals as goal

pub made-requires-clause-managed : goal.made-requires-clause-managed
made-requires-clause-managed g c =
    let d = c.args.done.now in
    rw (c.as_slice.ensures, c.outcome-outcome.ensures) (all_imp _ _ (λ make is. is.0) d.outcome.makes c.lawful.ensures.few.managed)

pub made-requires-clause-few : goal.made-requires-clause-few
made-requires-clause-few g c =
    rw (c.as_slice.ensures, c.outcome-outcome.ensures) (omega (arith, c.lawful.ensures.few.makes, c.requires.few))

pub all_last-requires-clause-few : goal.all_last-requires-clause-few
all_last-requires-clause-few g c =
    let d = c.args.done.now in
    let t = c.args.self.now.tables in
    let few = hand_few d.localities t (seen d.job) d.outcome c.lawful.ensures (fit_seen d.job c.requires.fit) in
    rw (c.ids.ensures, c.in_ok-hand.ensures.0, c.in_ok-hand.ensures.1, c.in_ok-hand.ensures.2, c.in_ok-action.ensures, c.as_slice-2.ensures.value, c.in_ok-made.ensures, c.as_slice.ensures, c.job-job.ensures, c.outcome-outcome.ensures)
    (omega (arith, few))

pub all_last-requires-clause-within : goal.all_last-requires-clause-within
all_last-requires-clause-within g c =
    let d = c.args.done.now in
    let t = c.args.self.now.tables in
    rw (c.as_slice-3.ensures.value, c.in_ok-places.ensures, c.ids.ensures, c.in_ok-hand.ensures.0, c.in_ok-hand.ensures.1, c.in_ok-hand.ensures.2, c.in_ok-action.ensures, c.as_slice-2.ensures.value, c.in_ok-made.ensures, c.as_slice.ensures, c.job-job.ensures, c.outcome-outcome.ensures)
    (hand_within d.localities t (seen d.job) d.outcome c.lawful.ensures (fit_seen d.job c.requires.fit))

pub returns-then-not-all_last-clause-none : goal.returns-then-not-all_last-clause-none
returns-then-not-all_last-clause-none g c =
    let test = rw (c.as_slice-3.ensures.value, c.in_ok-places.ensures, c.ids.ensures, c.in_ok-hand.ensures.0, c.in_ok-hand.ensures.1, c.in_ok-hand.ensures.2, c.in_ok-action.ensures, c.as_slice-2.ensures.value, c.in_ok-made.ensures, c.as_slice.ensures, c.job-job.ensures, c.outcome-outcome.ensures) at c.all_last.ensures in
    λ last. let yes = test.1 last in let no : c.all_last.result ≡ false = c.if-not-all_last.true in cc

pub prepare_from-requires-clause-stock : goal.prepare_from-requires-clause-stock
prepare_from-requires-clause-stock g c =
    let d = c.args.done.now in
    let t = record c.args.self.now.tables { localities = d.localities } in
    let test = rw (c.as_slice-3.ensures.value, c.in_ok-places.ensures, c.ids.ensures, c.in_ok-hand.ensures.0, c.in_ok-hand.ensures.1, c.in_ok-hand.ensures.2, c.in_ok-action.ensures, c.as_slice-2.ensures.value, c.in_ok-made.ensures, c.as_slice.ensures, c.job-job.ensures, c.outcome-outcome.ensures) at c.all_last.ensures in
    let is : c.all_last.result ≡ true = let no = c.if-not-all_last.false in cc in
    let own = own_is t (seen d.job) d.outcome (fit_seen d.job c.requires.fit) (omega (arith, c.requires.localities, c.requires.near)) c.lawful.ensures (test.0 is) in
    rw (c.in_ok-stock.ensures, c.ids-2.ensures, c.as_slice-4.ensures.value, c.in_ok-places.ensures, c.in_ok-hand.ensures.0, c.in_ok-hand.ensures.1, c.in_ok-hand.ensures.2, c.in_ok-action.ensures, c.as_slice-2.ensures.value, c.in_ok-made.ensures, c.as_slice.ensures, c.job-job.ensures, c.outcome-outcome.ensures)
    own

pub places_named-requires-clause-action : goal.places_named-requires-clause-action
places_named-requires-clause-action g c =
    let d = c.args.done.now in
    let few = action_few (plain d.job.action) (fit_seen d.job c.requires.fit).action.sent.shape in
    rw (c.in_ok-hand.ensures.1, c.in_ok-action.ensures, c.job-job.ensures) (omega (arith, few))
