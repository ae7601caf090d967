-- What is seen of a world and of its fabric, before and after a call.
use Rattle.std.specs.Prelude.{List, Option}
use Rattle.hpx_journal.specs.Entries.{Frame}
use Rattle.hpx_part.specs.Data.{Entry}
use Rattle.hpx_ports.specs.declared.fabric.Wire.{Wire}
use Rattle.hpx_tables.specs.Tables.{Tables}
use Rattle.hpx_world.specs.Places.{Places}

-- what is outside of the nodes: the frame in hand, and what the fabric tells of its flight and its trace
pub record Outside : Type 0 where
  pub hand : Option Frame
  pub flight : Option (List Frame)
  pub trace : Option (List Wire)

-- all that is seen
pub record Stage : Type 0 where
  pub outside : Outside
  pub nodes : List Tables
  pub entries : List Entry

-- of a world, over a fabric that tells this
abbrev pub stage : Places → Option (List Frame) → Option (List Wire) → Stage
stage w flight trace = record { outside = record { hand = w.hand; flight = flight; trace = trace }; nodes = w.nodes; entries = w.journal.entries }
