use Rattle.std.proofs.Common.{◌∷◌, ◌++◌, refl, ap, ◌∙◌, Some, ◌≡◌}
use Rattle.std.specs.Int.{to_be_bytes, w32, w64}
use Rattle.std.proofs.lemmas.Nat.{from_be_bytes-to_be_bytes_4, from_be_bytes-to_be_bytes_8}
use Rattle.hpx_member.specs.Bodies.{counts_of}
use Rattle.hpx_member.proofs.Grown.{counts_read}
use Rattle.hpx_member.proofs.bodies.counts.Goals as goal

pub returns-in-Ok : goal.returns-in-Ok
returns-in-Ok c =
    let read : counts_of (241 ∷ (to_be_bytes w32 c.args.wave ++ (to_be_bytes w64 c.args.sent ++ to_be_bytes w64 c.args.taken)))
    ≡ Some (record { wave = c.args.wave; sent = c.args.sent; taken = c.args.taken }) =
    counts_read (to_be_bytes w32 c.args.wave) (to_be_bytes w64 c.args.sent) (to_be_bytes w64 c.args.taken) c.args.wave c.args.sent c.args.taken
    refl refl refl (from_be_bytes-to_be_bytes_4 c.args.wave c.ranges.wave.fits) (from_be_bytes-to_be_bytes_8 c.args.sent c.ranges.sent.fits)
    (from_be_bytes-to_be_bytes_8 c.args.taken c.ranges.taken.fits) in
    ap counts_of (c.from_vec.ensures ∙ c.in-Ok.ensures) ∙ read
