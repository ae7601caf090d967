-- A frame that is accepted where it goes, said of all localities.
use Rattle.std.proofs.Common.{ℕ, List, ◌++◌, ◌+◌, ◌≡◌, Option, Some, None, refl, sym, ap, ◌∙◌, subst, length, ◌<◌}
use Rattle.hpx_value.specs.declared.profile.Profile.{Profile}
use Rattle.hpx_journal.specs.Entries.{Frame}
use Rattle.hpx_part.specs.Data.{Entry}
use Rattle.hpx_part.proofs.Keyed.{slice_get_less}
use Rattle.hpx_steps.specs.Calls.{effects}
use Rattle.hpx_node.specs.Handled.{Takes}
use Rattle.hpx_steps.specs.Rest.{rules_of}
use Rattle.hpx_tables.specs.Tables.{Tables}
use Rattle.hpx_ports.specs.Told.{followed}
use Rattle.hpx_ports.specs.Frames.{Delivers, events_of}
use Rattle.hpx_ports.specs.declared.fabric.Wire.{Wire}
use Rattle.hpx_world.specs.Away.{Fetches}
use Rattle.hpx_world.specs.Sound.{Meaning, IsSound, DoneAt}
use Rattle.hpx_world.proofs.Growth.{AcceptsOne, accepts_of, plain_inner}
use Rattle.hpx_world.proofs.Plain.{dealt_plain}

pub took_one : (act_of : Meaning) (profile : Profile) (nodes nodes' : List Tables) (es es' : List Entry) (to : ℕ) (bytes : List ℕ)
    → IsSound act_of profile nodes es → DoneAt to (λ t t'. Takes bytes t t' es es') nodes nodes'
    → AcceptsOne (rules_of act_of (length nodes) profile) (to, bytes) es es'
took_one act_of profile nodes nodes' es es' to bytes h d =
    let c = d.does in
    let here = (h.stand to d.before d.there).here in
    let lt : d.before.here < length nodes = subst (λ j. j < length nodes) (sym here) (slice_get_less nodes to d.before d.there) in
    subst (λ j. AcceptsOne (rules_of act_of (length nodes) profile) (j, bytes) es es') here
    (accepts_of (rules_of act_of (length nodes) profile) d.before d.after es es' bytes (effects d.before c.parcel ++ c.more) lt
    (plain_inner (effects d.before c.parcel ++ c.more)
    (dealt_plain d.before c.parcel (record d.before { taken = d.before.taken + 1 }) c.mid c.done c.more c.continues)) c.writes)

-- a pair by its parts
pub frame_is : (f : Frame) (to : ℕ) (bytes : List ℕ) → to ≡ f.0 → bytes ≡ f.1 → ◌≡◌ {A = Frame} (to, bytes) f
frame_is f to bytes a b = ap (λ x. (x, bytes)) a ∙ ap (λ y. (f.0, y)) b

-- the frame in hand is what was fetched
pub fetches_held : (h : Option Frame) (fl : Option (List Frame)) (tr : Option (List Wire)) → (h ≡ None → ⊥) → Fetches h fl fl tr tr h
fetches_held None fl tr some = absurd (some refl)
fetches_held (Some frame) fl tr some = (refl, refl, refl)

pub fetches_now : (h o : Option Frame) (fl fl' : Option (List Frame)) (tr tr' : Option (List Wire)) → h ≡ None → Delivers fl fl' o
    → tr' ≡ followed tr (events_of o) → Fetches h fl fl' tr tr' o
fetches_now h o fl fl' tr tr' none d trace = subst (λ x. Fetches x fl fl' tr tr' o) (sym none) (d, trace)
