use Rattle.hpx_top.proofs.FeedLemmas.{end_cut, turn_shown, written_calm, written_shown}
use Rattle.hpx_top.proofs.ShowLemmas.{if_err_from}
use Rattle.std.proofs.Common.{refl}
use Rattle.hpx_top.proofs.serve.let_go.Goals as goal

pub returns-in_err-settle-clause-err : goal.returns-in_err-settle-clause-err
returns-in_err-settle-clause-err g c =
    if_err_from c.from_residual.result c.in_err-settle.field-0.0 _ c.from_residual.ensures.1
    (end_cut c.in_err-settle.field-0.0 c.settle.new.world _ _ _ _ _ c.in_err-settle.ensures.cause refl)

pub returns-in_err-settle-clause-shown : goal.returns-in_err-settle-clause-shown
returns-in_err-settle-clause-shown g c =
    if_err_from c.from_residual.result c.in_err-settle.field-0.0 _ c.from_residual.ensures.1
    (turn_shown c.in_err-settle.field-0.0 c.settle.new.world _ c.in_err-settle.ensures.cause)

pub returns-in_err-settle-clause-told : goal.returns-in_err-settle-clause-told
returns-in_err-settle-clause-told g c = λ carries.
    if_err_from c.from_residual.result c.in_err-settle.field-0.0 _ c.from_residual.ensures.1 (c.in_err-settle.ensures.told carries)

pub returns-clause-shown : goal.returns-clause-shown
returns-clause-shown g c = written_shown c.show.result c.settle.new.world _ _ c.show.ensures.cause

pub returns-clause-told : goal.returns-clause-told
returns-clause-told g c = λ carries. written_calm c.show.result _ c.show.ensures.cause
