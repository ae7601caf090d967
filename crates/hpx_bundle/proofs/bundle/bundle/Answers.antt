use Rattle.std.proofs.lemmas.Result.{err_from_is_err_and}
use Rattle.hpx_bundle.proofs.Bundled.{one_fits, one_bundles}
use Rattle.hpx_bundle.proofs.bundle.bundle.Goals as goal

pub returns-in_err-duplicate-in-len1-clause-bad : goal.returns-in_err-duplicate-in-len1-clause-bad
returns-in_err-duplicate-in-len1-clause-bad c =
    let p = err_from_is_err_and c.from_residual.result c.from_residual.ensures.1 in
    rw (p.1, p.2) (one_fits c.args.parts.now c.requires c.in-len1.len_at_least c.in-len1.len_below)

pub returns-in_ok-duplicate-in-len1-clause-ok : goal.returns-in_ok-duplicate-in-len1-clause-ok
returns-in_ok-duplicate-in-len1-clause-ok c =
    one_bundles c.args.parts.now c.frame-item.result c.in_ok-duplicate-in-len1.field-0 c.requires c.in-len1.len_at_least c.in-len1.len_below c.frame-item.is c.in_ok-duplicate-in-len1.ensures
