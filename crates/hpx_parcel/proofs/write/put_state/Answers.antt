use Rattle.std.proofs.Common.{◌≡◌, [], rules, sym, subst, List}
use Rattle.std.specs.List.{AllByRecursion}
use Rattle.hpx_value.specs.Ids.{Id, IsId}
use Rattle.hpx_parcel.proofs.Taken.{all_kept}
use Rattle.hpx_parcel.proofs.write.put_state.Goals as goal

pub returns-clause-fits : goal.returns-clause-fits
returns-clause-fits c =
    let nothing : c.in_ok-put_conts.field-0.now ≡ [] =
    rw (c.in_ok-put_conts.ensures.left, c.in_ok-rest.ensures.left, c.as_slice.ensures, c.as_slice-2.ensures, c.as_slice-3.ensures) (all_kept c.args.state.now c.requires) in
    let last : AllByRecursion IsId c.in_ok-put_conts.field-0.now = subst (λ (ids : List Id). AllByRecursion IsId ids) (sym nothing) tt in
    record {
      drawn = search rules;
      values = rw c.as_slice.ensures at c.in_ok-rest.ensures.fits;
      conts = rw c.as_slice-3.ensures at c.in_ok-put_conts.ensures.fits;
      ids = rw c.as_slice-2.ensures at (c.in_ok-rest.ensures.valid (c.in_ok-put_conts.ensures.valid last));
    }
