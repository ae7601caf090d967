-- The values of options, as they are written.
use Rattle.std.specs.Prelude.{ℕ, Bool, true, false, ◌&&◌, ◌||◌, List, [], ◌∷◌, nat_le, take, drop, find, codes, Option, Some, None, if◌then◌else◌}
use Rattle.std.specs.Str.{bytes_eq, all_ascii_digits}
use Rattle.std.specs.Str.Parse.{digits_value}
use Rattle.hpx_options.specs.declared.settings.Op.{Op}
use Rattle.hpx_options.specs.declared.settings.Op.TheVariants.{Broadcast, Reduce, AllGather, Scatter}

-- at least one byte
abbrev pub is_filled : List ℕ → Bool
is_filled [] = false
is_filled (b ∷ bs) = true

-- digits, and the number is in a range
abbrev pub number_in : ℕ → ℕ → List ℕ → Option ℕ
number_in least greatest text =
    if is_filled text && all_ascii_digits text && nat_le least (digits_value 10 text) && nat_le (digits_value 10 text) greatest
    then Some (digits_value 10 text) else None

-- an address of this machine: a host of ten bytes, and a port from 1 on
abbrev pub is_host : List ℕ → Bool
is_host host = bytes_eq host (codes "127.0.0.1:") || bytes_eq host (codes "localhost:")

abbrev pub port_in : ℕ → List ℕ → Option ℕ
port_in greatest text = if is_host (take 10 text) then number_in 1 greatest (drop 10 text) else None

-- the words of the operations
abbrev pub op_word : Op → List ℕ
op_word Broadcast = codes "broadcast"
op_word Reduce = codes "reduce"
op_word AllGather = codes "all_gather"
op_word Scatter = codes "scatter"

-- the operation that a word names
abbrev pub op_named : List ℕ → Option Op
op_named word = find (λ op. bytes_eq word (op_word op)) (Broadcast ∷ Reduce ∷ AllGather ∷ Scatter ∷ [])
