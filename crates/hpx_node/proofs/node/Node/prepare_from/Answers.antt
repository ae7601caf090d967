use Rattle.hpx_node.proofs.Common.{KeepsLaws, plain, rules, subst}
use Rattle.hpx_node.proofs.OfPrepared.{prepared_so}
use Rattle.hpx_node.proofs.Seen.{fit_seen}
use Rattle.hpx_node.proofs.node.Node.prepare_from.Goals as goal

pub returns-clause-prepared : goal.returns-clause-prepared
returns-clause-prepared g c =
    let d = c.args.done.now in
    let laws = subst (λ n. KeepsLaws n d.job.kind d.job.at d.job.state (plain d.job.action) d.outcome) c.requires.localities c.requires.laws in
    prepared_so c.args.self.now.tables d.job d.outcome (fit_seen d.job c.requires.fit) c.requires.few laws (record { births = c.in_ok-births.field-0; stock = c.args.stock; plan = c.in_ok-plan.plan })
    (rw (c.as_slice.ensures, c.outcome-outcome.ensures) at c.in_ok-births.ensures) c.requires.stock (search rules) (search rules) (search rules)
