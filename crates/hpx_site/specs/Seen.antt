-- What is seen of a site: its world, and what its fabric tells.
use Rattle.std.specs.Prelude.{ℕ, List, [], Option, None}
use Rattle.hpx_journal.specs.Entries.{Frame}
use Rattle.hpx_ports.specs.declared.fabric.Wire.{Wire}
use Rattle.hpx_ports.specs.declared.link.Latest.{Latest}
use Rattle.hpx_ports.specs.declared.link.Latest.TheVariants.{Never}
use Rattle.hpx_world.specs.Away.{IsCarrying}
use Rattle.hpx_world.specs.Places.{Places, rules_in}
use Rattle.hpx_world.specs.Sound.{Meaning}
use Rattle.hpx_world.specs.Stages.{Stage, stage}

pub record Seen : Type 0 where
  pub world : Places
  pub flight : Option (List Frame)
  pub trace : Option (List Wire)
  pub faults : ℕ
  pub latest : Latest

-- of a world, over a fabric that tells this, has failed so often, and answered this last
abbrev pub seen : Places → Option (List Frame) → Option (List Wire) → ℕ → Latest → Seen
seen w flight trace faults latest = record { world = w; flight = flight; trace = trace; faults = faults; latest = latest }

abbrev pub stage_of : Seen → Stage
stage_of s = stage s.world s.flight s.trace

-- the fabric tells, and carries for the journal
abbrev pub Carries : Meaning → Seen → Type 0
Carries act_of s = IsCarrying (rules_in act_of s.world) s.world.hand s.flight s.trace s.world.journal.entries

-- no site at all
abbrev pub nowhere : Seen
nowhere = record {
  world = record {
    profile = record { credit_log = 0; credit_limit = 0; cache = 0 };
    nodes = [];
    journal = record { entries = []; spare = 0 };
    hand = None;
  };
  flight = None;
  trace = None;
  faults = 0;
  latest = Never;
}
