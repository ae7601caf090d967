use Rattle.std.proofs.Common.{◌≡◌, [], rules, sym, subst, List}
use Rattle.std.specs.List.{AllByRecursion}
use Rattle.hpx_value.specs.Ids.{Id, IsId}
use Rattle.hpx_value.specs.Values.{message_of}
use Rattle.hpx_parcel.proofs.Taken.{all_taken}
use Rattle.hpx_parcel.proofs.write.put_act.Goals as goal

pub returns-clause-fits : goal.returns-clause-fits
returns-clause-fits c =
    let nothing : c.in_ok-put_cont.field-0.now ≡ [] =
    rw (c.in_ok-put_cont.ensures.left, c.in_ok-rest-2.ensures.left, c.in_ok-rest.ensures.left, c.as_slice.ensures, c.as_slice-2.ensures) (all_taken (message_of c.args.act.now) c.requires) in
    let last : AllByRecursion IsId c.in_ok-put_cont.field-0.now = subst (λ (ids : List Id). AllByRecursion IsId ids) (sym nothing) tt in
    let ids = rw c.as_slice.ensures at (c.in_ok-rest.ensures.valid (c.in_ok-rest-2.ensures.valid (c.in_ok-put_cont.ensures.valid last))) in
    record {
      origin = search rules;
      serial = search rules;
      code = search rules;
      args = rw c.as_slice-2.ensures at c.in_ok-rest-2.ensures.fits;
      cont = c.in_ok-put_cont.ensures.fits;
      ids = ids;
    }
