use Rattle.std.proofs.Common.{◌≤◌, sym, subst, arith}
use Rattle.hpx_value.specs.Laws.{KeepsLaws}
use Rattle.hpx_value.specs.Riders.{plain}
use Rattle.hpx_value.proofs.Riders.{plain_formed}
use Rattle.hpx_tables.proofs.pending.lawful.Goals as goal

pub returns : goal.returns
returns g c =
    let d = c.args.done.now in
    let job = d.job in
    let some : 1 ≤ d.localities = omega (arith, c.requires.at) in
    subst (KeepsLaws d.localities job.kind job.at job.state (plain job.action)) (sym d.right)
    (g.met.A.Acts.keeps_laws d.localities job.kind job.at job.state (plain job.action) some c.requires.localities c.requires.at
    c.requires.fit.state (plain_formed job.action c.requires.fit.action.sent.shape))
