use Rattle.hpx_top.proofs.ShowLemmas.{if_err_from}
use Rattle.hpx_top.proofs.load.load_line.Goals as goal

pub returns-in_err-feed-clause-shown : goal.returns-in_err-feed-clause-shown
returns-in_err-feed-clause-shown g c =
    if_err_from c.from_residual.result c.in_err-feed.field-0.0 _ c.from_residual.ensures.1 c.in_err-feed.ensures.shown

pub returns-in_err-feed-clause-told : goal.returns-in_err-feed-clause-told
returns-in_err-feed-clause-told g c = λ carries.
    if_err_from c.from_residual.result c.in_err-feed.field-0.0 _ c.from_residual.ensures.1 (c.in_err-feed.ensures.told carries)
