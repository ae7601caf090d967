-- A frame that is kept in hand is one that was sent.
use Rattle.std.proofs.Common.{ℕ, List, length, ◌≡◌, Some, Option, sym, subst}
use Rattle.hpx_value.specs.declared.profile.Profile.{Profile}
use Rattle.hpx_journal.specs.Entries.{Frame}
use Rattle.hpx_parcel.specs.declared.parcel.Why.{Why}
use Rattle.hpx_part.specs.Data.{Entry}
use Rattle.hpx_ports.specs.declared.fabric.Wire.{Wire}
use Rattle.hpx_steps.specs.Rest.{rules_of}
use Rattle.hpx_tables.specs.Tables.{Tables}
use Rattle.hpx_world.specs.Away.{IsCarrying}
use Rattle.hpx_world.specs.Sound.{Meaning, IsSound}
use Rattle.hpx_world.specs.Turns.{IsBadFrame}
use Rattle.hpx_world.proofs.Never.{never_refused}

-- so it spells a parcel, after turns under the same rules
pub never_handed : (act_of : Meaning) (profile : Profile) (nodes : List Tables) (es : List Entry) → IsSound act_of profile nodes es
    → (n : ℕ) (p : Profile) (h : Option Frame) (fl : Option (List Frame)) (tr : Option (List Wire)) (frame : Frame) (at : ℕ) (why : Why)
    → length nodes ≡ n → profile ≡ p → IsCarrying (rules_of act_of n p) h fl tr es → h ≡ Some frame → IsBadFrame frame.1 at why → ⊥
never_handed act_of profile nodes es sound n p h fl tr frame at why count same c held bad =
    never_refused act_of profile nodes es sound frame fl tr at why
    (subst (λ o. IsCarrying (rules_of act_of (length nodes) profile) o fl tr es) held
    (subst (λ m. IsCarrying (rules_of act_of m profile) h fl tr es) (sym count)
    (subst (λ q. IsCarrying (rules_of act_of n q) h fl tr es) (sym same) c))) bad
