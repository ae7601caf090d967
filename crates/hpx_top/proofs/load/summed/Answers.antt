use Rattle.std.proofs.Common.{rules, FitsSigned, ◌≡◌, ◌∙◌, ap, length, to_z, of_z}
use Rattle.std.specs.Int.{w128}
use Rattle.std.proofs.Math.Facts.{to_z-of_z}
use Rattle.std.proofs.lemmas.Result.{IfOk-weaker}
use Rattle.hpx_world.specs.Audit.{audit_lines}
use Rattle.app_load.specs.Load.{summary_of}
use Rattle.hpx_top.specs.Session as Session
use Rattle.hpx_top.proofs.LoadLemmas.{summed_is}
use Rattle.hpx_top.proofs.load.summed.Goals as goal

pub returns : goal.returns
returns c =
    let w = c.args.world.now in
    let lines = audit_lines w.nodes in
    let f : FitsSigned w128 c.args.tally.sum = search rules in
    let live : c.len-live.result ≡ length lines = c.len-live.ensures ∙ ap length c.in_ok-audit.ensures.lines in
    IfOk-weaker c.summary.result _ _
    (λ text is. summed_is (Session.rules w) c.args.load w.journal.entries c.args.tally lines text.items c.requires.loaded c.law.ensures.audit c.law.ensures.ordered
    (is ∙ (ap (λ k. summary_of c.args.load.lines c.args.tally.errors k (to_z w128 (of_z w128 c.args.tally.sum))) live
    ∙ ap (λ z. summary_of c.args.load.lines c.args.tally.errors (length lines) z) (to_z-of_z f))))
    c.summary.ensures
