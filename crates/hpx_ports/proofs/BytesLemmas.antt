-- Reads and writes, one after another.
use Rattle.std.proofs.Common.{◌≡◌, ◌+◌, ◌-◌, ◌≤◌, arith, ℕ, List, ◌++◌, take, drop, length, Option, ap, sym, ◌∙◌}
use Rattle.std.proofs.lemmas.List.{take_rest, length-drop}
use Rattle.std.proofs.Math.Seq.{take-add}
use Rattle.hpx_ports.specs.Told.{followed, preceded}
use Rattle.hpx_ports.specs.Bytes.{Reads, Writes}
use Rattle.hpx_ports.proofs.ToldLemmas.{followed-followed, preceded-preceded}

-- a write goes on where the ones before it ended
pub written_on : (n at : ℕ) (bytes : List ℕ) (first old new : Option (List ℕ)) → old ≡ followed first (take at bytes) → Writes n (take (length bytes - at) (drop at bytes)) old new → new ≡ followed first (take (at + n) bytes)
written_on n at bytes first old new h w =
    let piece : take (length bytes - at) (drop at bytes) ≡ drop at bytes = take_rest bytes at in
    let held : new ≡ followed old (take n (drop at bytes)) = rw piece at w.held in
    held ∙ (ap (λ told. followed told (take n (drop at bytes))) h ∙ (followed-followed first (take at bytes) (take n (drop at bytes)) ∙ ap (followed first) (sym (take-add at n bytes))))

-- a write ends within the bytes
pub written_within : (n at : ℕ) (bytes : List ℕ) (old new : Option (List ℕ)) → at ≤ length bytes → Writes n (take (length bytes - at) (drop at bytes)) old new → at + n ≤ length bytes
written_within n at bytes old new h w =
    let piece : take (length bytes - at) (drop at bytes) ≡ drop at bytes = take_rest bytes at in
    let fits : n ≤ length (drop at bytes) = rw piece at w.fits in
    omega (arith, length-drop at bytes)

-- what was read before, and then by one more read, is what the source had at first
pub read_on : (n : ℕ) (so_far buf : List ℕ) (first old new : Option (List ℕ)) → first ≡ preceded so_far old → Reads n buf old new → first ≡ preceded (so_far ++ take n buf) new
read_on n so_far buf first old new h r = h ∙ (ap (preceded so_far) r.next ∙ preceded-preceded so_far (take n buf) new)
