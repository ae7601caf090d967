use Rattle.std.specs.Prelude.{OnOk}
use Rattle.std.proofs.Common.{Err, refl, ap, subst}
use Rattle.hpx_top.specs.Session.{rules}
use Rattle.hpx_top.specs.Loaded.{IsSummed, WritesSo}
use Rattle.hpx_top.proofs.FeedLemmas.{answer_calm, answer_either, same_rules}
use Rattle.hpx_top.proofs.ShowLemmas.{if_err_from}
use Rattle.hpx_top.proofs.LoadLemmas.{unloaded_before, write_stands}
use Rattle.hpx_top.proofs.load.load_made.Goals as goal

pub returns-clause-loaded : goal.returns-clause-loaded
returns-clause-loaded g c =
    subst (λ r. OnOk c.write_sum.result (WritesSo (IsSummed r c.args.load c.load_lines.new.world.journal.entries) (g.K.Sink.held c.args.sink.now) (g.K.Sink.held c.write_sum.new.sink)))
    (same_rules c.args.world.now c.load_lines.new.world c.load_lines.ensures.count c.load_lines.ensures.profile) c.write_sum.ensures.loaded

pub returns-clause-write_only : goal.returns-clause-write_only
returns-clause-write_only g c = write_stands c.write_sum.result _ _ c.write_sum.ensures.cause c.write_sum.ensures.stands

pub returns-in_err-tally-clause-unloaded : goal.returns-in_err-tally-clause-unloaded
returns-in_err-tally-clause-unloaded g c =
    let other = c.in_err-tally.ensures.other in
    if_err_from c.from_residual.result c.in_err-tally.field-0.0 _ c.from_residual.ensures.1
    (unloaded_before c.in_err-tally.field-0.0 (rules c.args.world.now) c.args.load c.load_lines.new.world.journal.entries (g.K.Sink.held c.args.sink.now) (g.K.Sink.held c.args.sink.now)
    (λ e. other.0 (ap (λ f. Err f) e)) (λ e. other.1 (ap (λ f. Err f) e)) (λ e. other.2 (ap (λ f. Err f) e)) refl)

pub returns-in_err-tally-clause-shown : goal.returns-in_err-tally-clause-shown
returns-in_err-tally-clause-shown g c =
    if_err_from c.from_residual.result c.in_err-tally.field-0.0 _ c.from_residual.ensures.1 c.in_err-tally.ensures.shown

pub returns-in_err-tally-clause-told : goal.returns-in_err-tally-clause-told
returns-in_err-tally-clause-told g c = λ carries.
    if_err_from c.from_residual.result c.in_err-tally.field-0.0 _ c.from_residual.ensures.1 (c.in_err-tally.ensures.told carries)

pub returns-clause-shown : goal.returns-clause-shown
returns-clause-shown g c = answer_either c.write_sum.result c.load_lines.new.world _ _ _ c.write_sum.ensures.cause

pub returns-clause-told : goal.returns-clause-told
returns-clause-told g c = λ carries. answer_calm c.write_sum.result _ _ c.write_sum.ensures.cause
