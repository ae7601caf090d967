-- The bodies on a link: frames, and words of control between members.
use Rattle.std.specs.Int.{from_be_bytes, w32, w64}
use Rattle.std.specs.Prelude.{◌&&◌, not, nat_le, take, drop, ℕ, Bool, true, false, cond, List, [], ◌∷◌, ◌≡◌, ◌≢◌, ◌==◌, Option, Some, None, length}
use Rattle.std.specs.List.{flat_map}
use Rattle.hpx_journal.specs.Entries.{Frame}
use Rattle.hpx_ports.specs.declared.link.Post.{Post}
use Rattle.hpx_ports.specs.declared.link.Post.TheVariants.{Sent, Received}
use Rattle.hpx_member.specs.declared.bodies.Told.{Told}

-- a body is a frame unless its first byte is that of a word of control: f0 to f3
abbrev pub is_frame : List ℕ → Bool
is_frame [] = true
is_frame (f ∷ bytes) = not (nat_le 240 f && nat_le f 243)

-- the frames that a member at k sent, each with where from, as journals have them
abbrev pub frame_sent : ℕ → Post → List (ℕ × Frame)
frame_sent k (Sent to body) = cond (is_frame body) ((k, (to, body)) ∷ []) []
frame_sent k (Received from body) = []

abbrev pub frames_sent : ℕ → List Post → List (ℕ × Frame)
frames_sent k tr = flat_map (frame_sent k) tr

-- the frames that came to it
abbrev pub frame_got : ℕ → Post → List Frame
frame_got k (Sent to body) = []
frame_got k (Received from body) = cond (is_frame body) ((k, body) ∷ []) []

abbrev pub frames_got : ℕ → List Post → List Frame
frames_got k tr = flat_map (frame_got k) tr

-- the frames that a body is which came to k
abbrev pub heard : ℕ → List ℕ → List Frame
heard k body = cond (is_frame body) ((k, body) ∷ []) []

-- a body of Counts: its first byte is f1, and 20 bytes follow
abbrev pub is_counts : List ℕ → Bool
is_counts [] = false
is_counts (f ∷ bytes) = (f == 241) && (length bytes == 20)

-- the numbers behind the first byte
abbrev pub numbers_in : List ℕ → Told
numbers_in bytes = record {
  wave = from_be_bytes w32 (take 4 bytes);
  sent = from_be_bytes w64 (take 8 (drop 4 bytes));
  taken = from_be_bytes w64 (drop 8 (drop 4 bytes));
}

-- what a body of Counts tells
abbrev pub counts_of : List ℕ → Option Told
counts_of body = cond (is_counts body) (Some (numbers_in (drop 1 body))) None

-- what a member tells by what it sends
abbrev pub told_by : Post → Option Told
told_by (Sent to body) = counts_of body
told_by (Received from body) = None

-- a body that begins a wave: its first byte is f0, and 4 bytes follow
abbrev pub is_wave : List ℕ → Bool
is_wave [] = false
is_wave (f ∷ bytes) = (f == 240) && (length bytes == 4)

-- the body that ends a worker
abbrev pub end_body : List ℕ
end_body = 242 ∷ []

-- a word of control that no worker is told: only the console tells one, a wave or the end
abbrev pub IsOutOfPlace : ℕ → List ℕ → Type 0
IsOutOfPlace from body = (is_frame body ≡ false) × (from ≡ 0 → (is_wave body ≡ false) × (body ≢ end_body))
