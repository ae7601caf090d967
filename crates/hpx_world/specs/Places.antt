-- All localities as clauses see them: the nodes, the one journal, and a frame that was delivered and not yet accepted.
use Rattle.std.specs.Prelude.{List, Option, length}
use Rattle.hpx_value.specs.declared.profile.Profile.{Profile}
use Rattle.hpx_journal.specs.Entries.{Frame, Rules}
use Rattle.hpx_journal.specs.Weights.{Book}
use Rattle.hpx_steps.specs.Rest.{rules_of}
use Rattle.hpx_tables.specs.Tables.{Tables}
use Rattle.hpx_world.specs.Sound.{Meaning}

pub record Places : Type 0 where
  pub profile : Profile
  pub nodes : List Tables
  pub journal : Book
  pub hand : Option Frame

-- what its journal is judged by
abbrev pub rules_in : Meaning → Places → Rules
rules_in act_of w = rules_of act_of (length w.nodes) w.profile
