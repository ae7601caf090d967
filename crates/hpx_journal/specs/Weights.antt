-- A journal as clauses see it, what its entries weigh, and the room that it has.
use Rattle.std.specs.Prelude.{ℕ, List, ◌+◌, ◌*◌, ◌^◌, ◌≤◌, length, sum_by}
use Rattle.hpx_value.specs.Shapes.{values_size}
use Rattle.hpx_journal.specs.Data.{State}
use Rattle.hpx_journal.specs.Entries.{Event, Line, Born, Print, Out, In, Entry}

-- the entries, and for how many more there is memory
pub record Book : Type 0 where
  pub entries : List Entry
  pub spare : ℕ

-- how many bytes a state takes as it is spelled
abbrev pub state_size : State → ℕ
state_size s = 8 + values_size s.values + length s.conts * 20

-- the byte strings, states and prints in an entry
abbrev pub bytes_in : Event → ℕ
bytes_in (Line a bytes) = length bytes
bytes_in (Born o state) = state_size state
bytes_in (Print bytes) = length bytes
bytes_in (Out to bytes) = length bytes
bytes_in (In bytes) = length bytes
bytes_in _ = 0

-- 64, and the bytes
abbrev pub weight_of : Entry → ℕ
weight_of e = 64 + bytes_in e.event

-- what entries weigh together
abbrev pub total_weight : List Entry → ℕ
total_weight es = sum_by weight_of es

-- there is room for one more turn: 1,024 entries of weight 2^24 in all
pub record HasRoom (es : List Entry) : Type 0 where
  pub entries : length es + 1024 ≤ 2097152
  pub weight : total_weight es + 16777216 ≤ 2 ^ 30
