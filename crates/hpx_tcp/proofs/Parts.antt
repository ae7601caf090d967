-- A buffer of which a part was read into.
use Rattle.std.proofs.Common.{◌≡◌, ◌+◌, ◌≤◌, ℕ, List, ◌++◌, take, length, Option, arith, refl, ap, sym, ◌∙◌, subst}
use Rattle.std.proofs.lemmas.List.{take-take, take_all, length-take-le}
use Rattle.std.proofs.Math.Seq.{take-append-add}
use Rattle.std.proofs.lemmas.Slice.{take-put_mid}
use Rattle.std.specs.Int.{w32, to_be_bytes}
use Rattle.hpx_ports.specs.Told.{preceded}
use Rattle.hpx_ports.specs.Bytes.{Reads}
use Rattle.hpx_ports.proofs.ToldLemmas.{preceded-preceded}
use Rattle.hpx_ports.proofs.BytesLemmas.{read_on}
use Rattle.hpx_tcp.specs.Bodies.{IsBody, framed}
use borrow.Rule.Slice.PartMut.{put_mid}

-- the first bytes of the buffer are those before the part, and then the first ones of the part
front_of : (at k n : ℕ) (all got : List ℕ) → at ≤ length all → n ≤ length got → take (at + n) (put_mid at k all got) ≡ take at all ++ take n got
front_of at k n all got within fits =
    let whole = take-put_mid at k all got (at + length got) refl within in
    let less : at + n ≤ at + length got = omega arith in
    let front = sym (take-take (at + n) (at + length got) (put_mid at k all got) less) ∙ ap (take (at + n)) whole in
    let size : length (take at all) ≡ at = length-take-le at all within in
    let split = subst (λ (m : ℕ). take (m + n) (take at all ++ got) ≡ take at all ++ take n got) size (take-append-add (take at all) got n) in
    front ∙ split

-- what was read before, and then into the part, is what the source had at first
pub reads_on : (at k n : ℕ) (all got : List ℕ) (first old new : Option (List ℕ)) → at ≤ length all → first ≡ preceded (take at all) old → Reads n got old new
    → first ≡ preceded (take (at + n) (put_mid at k all got)) new
reads_on at k n all got first old new within h r =
    let more = read_on n (take at all) got first old new h r in
    subst (λ (front : List ℕ). first ≡ preceded front new) (sym (front_of at k n all got within r.fits)) more

-- a head that says how long a body is, and then that body, are the body behind its length
pub comes : (head body : List ℕ) (n h m : ℕ) (first between last : Option (List ℕ)) → length head ≡ 4 → to_be_bytes w32 n ≡ head → length body ≡ n → 1 ≤ n → n ≤ 65536 → 4 ≤ h → length body ≤ m → first ≡ preceded (take h head) between → between ≡ preceded (take m body) last
    → IsBody body × (first ≡ preceded (framed body) last)
comes head body n h m first between last four is long some most all rest front back =
    let spelled : to_be_bytes w32 (length body) ≡ head = subst (λ (k : ℕ). to_be_bytes w32 k ≡ head) (sym long) is in
    let whole : take h head ≡ head = take_all h head (omega arith) in
    let body_whole : take m body ≡ body = take_all m body rest in
    let front_is : first ≡ preceded head between = subst (λ (xs : List ℕ). first ≡ preceded xs between) whole front in
    let back_is : between ≡ preceded body last = subst (λ (xs : List ℕ). between ≡ preceded xs last) body_whole back in
    let together : first ≡ preceded (head ++ body) last = front_is ∙ (ap (preceded head) back_is ∙ preceded-preceded head body last) in
    (record { some = omega arith; most = omega arith }, subst (λ (xs : List ℕ). first ≡ preceded (xs ++ body) last) (sym spelled) together)
