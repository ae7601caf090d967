-- What never comes where the fabric told, and each frame that was accepted had been sent.
use Rattle.std.proofs.Common.{ℕ, List, length, ◌≡◌, None, Some, Option}
use Rattle.std.specs.List.{sum_by}
use Rattle.hpx_value.specs.declared.profile.Profile.{Profile}
use Rattle.hpx_journal.specs.Entries.{Frame}
use Rattle.hpx_parcel.specs.declared.parcel.Why.{Why}
use Rattle.hpx_parcel.proofs.Frames.{parcel_spelled}
use Rattle.hpx_part.specs.Data.{Entry}
use Rattle.hpx_ports.specs.declared.fabric.Wire.{Wire}
use Rattle.hpx_steps.specs.Rest.{rules_of}
use Rattle.hpx_tables.specs.Tables.{Tables}
use Rattle.hpx_world.specs.Away.{IsCarrying, Fetches}
use Rattle.hpx_world.specs.Sound.{Meaning, IsSound}
use Rattle.hpx_world.specs.Turns.{IsBadFrame}
use Rattle.hpx_world.proofs.Carrying.{carrying_fetched, carrying_there}
use Rattle.hpx_world.proofs.Counts.{all_taken, road_empty, none_fetched}
use Rattle.hpx_world.proofs.Roads.{legal_spelled}
use Rattle.hpx_world.proofs.Sound.{sound_legal}

module _ (act_of : Meaning) (profile : Profile) (nodes : List Tables) (es : List Entry) (sound : IsSound act_of profile nodes es) where
  -- a frame in hand spells a parcel
  pub never_refused : (frame : Frame) (fl : Option (List Frame)) (tr : Option (List Wire)) (at : ℕ) (why : Why)
      → IsCarrying (rules_of act_of (length nodes) profile) (Some frame) fl tr es → IsBadFrame frame.1 at why → ⊥
  never_refused frame fl tr at why c bad =
      let s = legal_spelled (rules_of act_of (length nodes) profile) es frame (sound_legal act_of profile nodes es sound c.carried)
      (carrying_there (rules_of act_of (length nodes) profile) frame fl tr es c) in
      bad.none s.parcel (parcel_spelled frame.1 s.parcel s.spells)

  -- where nothing is delivered, all that were sent were accepted
  pub none_left : (h : Option Frame) (fl fl' : Option (List Frame)) (tr tr' : Option (List Wire))
      → IsCarrying (rules_of act_of (length nodes) profile) h fl tr es → Fetches h fl fl' tr tr' None
      → sum_by (λ t. t.taken) nodes ≡ sum_by (λ t. t.sent) nodes
  none_left h fl fl' tr tr' c f =
      let now = carrying_fetched (rules_of act_of (length nodes) profile) h None fl fl' tr tr' es f c in
      all_taken act_of profile nodes es sound now.carried
      (road_empty (rules_of act_of (length nodes) profile) fl' tr' es now (none_fetched h fl fl' tr tr' f))
