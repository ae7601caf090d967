use Rattle.hpx_node.proofs.Common.{Some, Standing, ap, refl, rules, slice_get, slice_get_is, some_same, sym, ◌∙◌, ◌≡◌}
use Rattle.hpx_node.proofs.Paused.{fit_job}
use Rattle.hpx_node.proofs.node.Node.spot.Goals as goal
use Rattle.hpx_node.proofs.node.Node.spot.Goals.{then-kind-job-via-then-kind-job, then-kind-job-via-else-kind-job+then-not-same, then-kind-job-via-else-kind-job+else-not-same+then-not-same-2}
use Rattle.std.proofs.lemmas.Option.{slice_get_within}

pub index-running-requires : goal.index-running-requires
index-running-requires g c =
    let n = c.self.inside in
    let runs : slice_get n.running.items c.in_ok-i.i ≡ Some c.job-job.result.now.action = rw c.as_slice.ensures.value at c.in_ok-i.ensures.some in
    let within = slice_get_within n.running.items c.in_ok-i.i c.job-job.result.now.action runs in
    search (rules, within)

pub returns-clause-fit : goal.returns-clause-fit
returns-clause-fit g c =
    let n = c.self.inside in
    let tidy = rw (← c.self.view_is) at c.requires.tidy in
    let runs : slice_get n.running.items c.in_ok-i.i ≡ Some c.job-job.result.now.action = rw c.as_slice.ensures.value at c.in_ok-i.ensures.some in
    let there = c.at-kept.ensures in
    let found = rw (c.target.ensures) at c.in_ok-j.ensures.found in
    let state : c.state.result.now ≡ c.job-job.result.now.state = c.if-not-same.ensures.0 refl in
    rw (← c.job-job.ensures)
    (fit_job _ c.job-job.result.now c.in_ok-i.i c.in_ok-j.j c.at-kept.result.now tidy runs (found ∙ there) there c.state.ensures.kept (sym c.state.ensures.state ∙ state))

pub returns-clause-found : goal.returns-clause-found
returns-clause-found g c =
    let n = c.self.inside in
    let runs : slice_get n.running.items c.in_ok-i.i ≡ Some c.job-job.result.now.action = rw c.as_slice.ensures.value at c.in_ok-i.ensures.some in
    let there = c.at-kept.ensures in
    let found = rw (c.target.ensures) at c.in_ok-j.ensures.found in
    let state : c.state.result.now ≡ c.job-job.result.now.state = c.if-not-same.ensures.0 refl in
    rw (← c.self.view_is, ← c.job-job.ensures) (
      search rules,
      record {
        standing = c.at-kept.result.now;
        here = search rules;
        runs = runs;
        stands = there;
        found = found ∙ there;
        kind = search rules;
        state = sym c.state.ensures.state ∙ state;
      },
    )

pub returns-then-kind-job-clause-none : goal.returns-then-kind-job-clause-none
returns-then-kind-job-clause-none g c = λ same r.
    let n = c.self.inside in
    let runs : slice_get n.running.items c.in_ok-i.i ≡ Some c.job-job.result.now.action = rw c.as_slice.ensures.value at c.in_ok-i.ensures.some in
    let there = c.at-kept.ensures in
    let found = rw (c.target.ensures) at c.in_ok-j.ensures.found in
    let at = rw (← c.self.view_is, ← c.job-job.ensures) at r in
    let e = some_same c.at-kept.result.now at.is.standing (sym (found ∙ there) ∙ at.is.found) in
    let kind = ap (λ (x : Standing). x.object.kind) e ∙ at.is.kind in
    let state = ap (λ (x : Standing). x.state) e ∙ at.is.state in
    elim c.then-kind-job.branch [
      | then-kind-job-via-then-kind-job w ↦ search (rules, kind)
      | then-kind-job-via-else-kind-job+then-not-same w ↦
          let h = w.if-not-same.ensures.1 (w.state.ensures.state ∙ state) in cc
      | then-kind-job-via-else-kind-job+else-not-same+then-not-same-2 w ↦
          let within = slice_get_within n.running.items c.in_ok-i.i c.job-job.result.now.action runs in
          let here = slice_get_is n.running.items c.in_ok-i.i c.index-running.result.now within c.index-running.ensures in
          let act = some_same c.index-running.result.now c.job-job.result.now.action (sym here ∙ runs) in
          let h = w.if-not-same-2.ensures.1 (w.act.ensures.act ∙ act) in cc
    ]
