use Rattle.std.proofs.Common.{◌≡◌, ◌≤◌, [], ◌∷◌, length, sym, arith}
use Rattle.hpx_parcel.specs.Parcels.{IsFrame}
use Rattle.hpx_bundle.proofs.Bundled.{alone, bundled_parts, refused}
use Rattle.hpx_bundle.proofs.Taken.{OfSeveral, too_long, as_refused, one_place, one_within, several_bundles, several_parts, several_nothing}
use Rattle.hpx_bundle.proofs.unbundle.unbundle.Goals as goal

pub returns-then-end-gt-LONGEST_FRAME-clause-bad : goal.returns-then-end-gt-LONGEST_FRAME-clause-bad
returns-then-end-gt-LONGEST_FRAME-clause-bad c =
    refused c.args.frame.now _ (too_long c.args.frame.now (let n = c.len-end.ensures in let t = c.if-end-gt-LONGEST_FRAME.true in omega (arith, n, t)))

of_several : (c : goal.After-several) → OfSeveral c.args.frame.now
of_several c = record {
  bytes_fit = rw c.as_slice.ensures at c.is_several.ensures.fits;
  short = let n = c.len-end.ensures in let t = c.if-end-gt-LONGEST_FRAME.false in omega (arith, n, t);
  several = sym (rw c.as_slice.ensures at c.if-is_several.ensures.version);
}

pub returns-then-is_several-clause-ok : goal.returns-then-is_several-clause-ok
returns-then-is_several-clause-ok c = several_bundles (λ x. x.items) c.args.frame.now c.several.result (of_several c) c.several.ensures.ok

pub returns-then-is_several-clause-read : goal.returns-then-is_several-clause-read
returns-then-is_several-clause-read c =
    several_parts (λ x. x.items) c.args.frame.now c.several.result (several_bundles (λ x. x.items) c.args.frame.now c.several.result (of_several c) c.several.ensures.ok)

pub returns-then-is_several-clause-bad : goal.returns-then-is_several-clause-bad
returns-then-is_several-clause-bad c = several_nothing c.args.frame.now c.several.result (of_several c) c.several.ensures.err

pub returns-in-Ok-clause-ok : goal.returns-in-Ok-clause-ok
returns-in-Ok-clause-ok c =
    let f : IsFrame c.args.frame.now = rw c.as_slice-2.ensures at c.in-Ok.ensures.ok.frame in
    let is : c.push.new.self.items ≡ record { start = 1; end = length c.args.frame.now } ∷ [] = rw (c.new-places.ensures, c.len-end.ensures) at c.push.ensures.items in
    rw (one_place c.args.frame.now c.push.new.self.items f is) (alone c.args.frame.now f)

pub returns-in-Ok-clause-read : goal.returns-in-Ok-clause-read
returns-in-Ok-clause-read c =
    let f : IsFrame c.args.frame.now = rw c.as_slice-2.ensures at c.in-Ok.ensures.ok.frame in
    let is : c.push.new.self.items ≡ record { start = 1; end = length c.args.frame.now } ∷ [] = rw (c.new-places.ensures, c.len-end.ensures) at c.push.ensures.items in
    rw (one_place c.args.frame.now c.push.new.self.items f is) (bundled_parts c.args.frame.now (c.args.frame.now ∷ []) (alone c.args.frame.now f))

pub returns-in-Ok-clause-inside : goal.returns-in-Ok-clause-inside
returns-in-Ok-clause-inside c =
    let f : IsFrame c.args.frame.now = rw c.as_slice-2.ensures at c.in-Ok.ensures.ok.frame in
    let is : c.push.new.self.items ≡ record { start = 1; end = length c.args.frame.now } ∷ [] = rw (c.new-places.ensures, c.len-end.ensures) at c.push.ensures.items in
    one_within c.args.frame.now c.push.new.self.items f is

pub returns-in-Err-clause-bad : goal.returns-in-Err-clause-bad
returns-in-Err-clause-bad c =
    let short : length c.args.frame.now ≤ 65536 = let n = c.len-end.ensures in let t = c.if-end-gt-LONGEST_FRAME.false in omega (arith, n, t) in
    let one = sym (rw c.as_slice.ensures at c.if-is_several.ensures.version) in
    let r = rw c.as_slice-2.ensures at c.in-Err.ensures.bad in
    refused c.args.frame.now c.in-Err.fault (as_refused c.args.frame.now c.in-Err.fault short one r)
