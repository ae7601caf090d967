use Rattle.std.proofs.Common.{◌∙◌, ◌-◌}
use Rattle.hpx_bundle.proofs.Taken.{lent_back, lent_is, part_read}
use Rattle.hpx_bundle.proofs.unbundle.part_end.Goals as goal

pub returns-in-Ok-clause-same : goal.returns-in-Ok-clause-same
returns-in-Ok-clause-same c = lent_back c.args.frame.now c.set.new.self c.set-2.new.self c.as_slice.result.now (c.args.start - 1) c.set.ensures c.as_slice.ensures c.set-2.ensures

pub returns-in-Ok-clause-ok : goal.returns-in-Ok-clause-ok
returns-in-Ok-clause-ok c =
    let is = lent_is c.args.frame.now c.as_slice-2.result.now c.args.start c.requires.some c.requires.inside (c.as_slice-2.ensures ∙ c.set.ensures) in
    part_read c.args.frame.now _ c.args.start c.in-Ok.len c.requires.some c.requires.inside is c.in-Ok.ensures.ok (c.in-Ok.ensures.inside.0) (c.in-Ok.ensures.inside.1)

pub returns-in-Err-clause-same : goal.returns-in-Err-clause-same
returns-in-Err-clause-same c = lent_back c.args.frame.now c.set.new.self c.set-2.new.self c.as_slice.result.now (c.args.start - 1) c.set.ensures c.as_slice.ensures c.set-2.ensures
