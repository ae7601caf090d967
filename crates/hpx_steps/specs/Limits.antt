-- How much a turn writes at most, and the limits of a journal.
use Rattle.std.specs.Prelude.{List, ◌+◌, ◌^◌, ◌≤◌, length}
use Rattle.hpx_journal.specs.Weights.{total_weight}
use Rattle.hpx_part.specs.Data.{Entry}

-- within the limits of a journal: 2,097,152 entries of weight 2^30
pub record IsWithin (es : List Entry) : Type 0 where
  pub entries : length es ≤ 2097152
  pub weight : total_weight es ≤ 2 ^ 30

-- no more is added than one turn may: 1,024 entries of weight 2^24 in all
pub record AddsATurn (old new : List Entry) : Type 0 where
  pub entries : length new ≤ length old + 1024
  pub weight : total_weight new ≤ total_weight old + 16777216
