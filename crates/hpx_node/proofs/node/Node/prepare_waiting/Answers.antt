use Rattle.hpx_node.proofs.Common.{Act, Id, Job, List, Outcome, Stock, ap, arith, length, length-append, plain, ◌∙◌, ◌≡◌}
use Rattle.hpx_node.proofs.Planned.{made_long}
use Rattle.hpx_node.proofs.node.Node.prepare_waiting.Goals as goal

pub lawful-requires-clause-localities : goal.lawful-requires-clause-localities
lawful-requires-clause-localities g c = omega (arith, c.done.ensures.localities, c.requires.localities, c.requires.near)

pub replace_from-requires-clause-fits : goal.replace_from-requires-clause-fits
replace_from-requires-clause-fits g c =
    let w = c.args.waits.now in
    let t = c.args.self.now.tables in
    let state : c.len.result ≡ length w.job.state.ids = c.len.ensures ∙ ap (λ (j : Job). length j.state.ids) (c.job-job.ensures ∙ c.done-2.ensures.job) in
    let action : c.len-2.result ≡ length (plain w.job.action).ids = c.len-2.ensures ∙ (ap (λ (a : Act). length a.ids) c.in_ok-action.ensures ∙ ap (λ (j : Job). length (plain j.action).ids) (c.job-job.ensures ∙ c.done-2.ensures.job)) in
    let makes = c.as_slice.ensures ∙ ap (λ (o : Outcome). o.makes) (c.outcome-outcome.ensures ∙ c.done-3.ensures.outcome) in
    let ids = c.as_slice-2.ensures.value ∙ c.in_ok-made.ensures in
    let made : length c.as_slice-2.result.now ≡ length w.outcome.makes =
    ap (λ (xs : List Id). length xs) ids ∙ (made_long t.here t.births t.profile.credit_log c.as_slice.result.now ∙ ap length makes) in
    omega (
      arith,
      state,
      action,
      made,
      ap (λ (s : Stock). length s.hand) c.in_ok-stock.ensures,
      length-append w.job.state.ids (plain w.job.action).ids,
      c.requires.fits,
    )
