use Rattle.std.proofs.Common.{ap, refl, ◌∙◌}
use Rattle.hpx_value.specs.Ids.{bare}
use Rattle.hpx_parcel.specs.declared.outline.Outline.{Outline}
use Rattle.hpx_parcel.proofs.Frames.{spelled_parcel}
use Rattle.hpx_tables.proofs.Outlined.{told_object}
use Rattle.hpx_world.proofs.locals.far_fault.Goals as goal

pub returns-in-Ok : goal.returns-in-Ok
returns-in-Ok c =
    let is = rw (c.as_slice.ensures) at c.in-Ok.ensures.ok in
    let f = is.frame in
    ((f.0, spelled_parcel c.args.frame.now f.0 f.1, c.bare.ensures ∙ (ap (λ (o : Outline). bare o.id) (is.same f.0 f.1) ∙ told_object f.0)), refl, refl)
