use Rattle.hpx_parcel_rows.proofs.bundles.open.Goals as goal

pub bundle-requires : goal.bundle-requires
bundle-requires c = rw (c.as_slice-4.ensures, c.in_ok-parts.ensures, c.as_slice.ensures, c.in-Ok.ensures.same) c.in-Ok.ensures.ok.each
