use Rattle.std.specs.Prelude.{ℕ}
use Rattle.std.proofs.Common.{Err, true, false, ◌≡◌, ◌∙◌, ap, sym, subst, inl, inr}
use Rattle.hpx_journal.specs.Weights.{HasRoom}
use Rattle.hpx_top.specs.Acts.{act_of}
use Rattle.hpx_top.specs.Breaches.{breach_in}
use Rattle.hpx_top.specs.Session.{rules}
use Rattle.hpx_top.specs.declared.session.SessionFault.TheVariants.{Fabric, JournalFull}
use Rattle.hpx_top.proofs.FeedLemmas.{carries_then, no_breach, of_turn, room_by}
use Rattle.hpx_top.proofs.WorldFaults.{never_breach, room_breach, room_fabric, room_full, room_memory, counts_rose, counts_stand, turns_shows}
use Rattle.hpx_top.proofs.typed.go_on.Goals as goal

pub returns-in-Ok-clause-carrying : goal.returns-in-Ok-clause-carrying
returns-in-Ok-clause-carrying g c = carries_then c.args.world.now c.turns.new.world _ _ _ _ c.turns.ensures.count c.turns.ensures.profile c.turns.ensures.carrying

pub returns-in-Err-clause-carrying : goal.returns-in-Err-clause-carrying
returns-in-Err-clause-carrying g c = carries_then c.args.world.now c.turns.new.world _ _ _ _ c.turns.ensures.count c.turns.ensures.profile c.turns.ensures.carrying

pub returns-in-Err-clause-cause : goal.returns-in-Err-clause-cause
returns-in-Err-clause-cause g c =
    of_turn c.fault_of.result c.turns.new.world _ c.fault_of.ensures.other
    (λ b e. turns_shows act_of c.args.most _ _ c.turns.new.world _ _ _ c.in-Err.ensures.stops c.in-Err.ensures.finds b (sym c.fault_of.ensures.broken ∙ e))

pub returns-in-Err-clause-told : goal.returns-in-Err-clause-told
returns-in-Err-clause-told g c = λ carries.
    no_breach c.fault_of.result (λ b e. never_breach (rules c.args.world.now) _ b (sym c.fault_of.ensures.broken ∙ e) (c.in-Err.ensures.never carries))

pub returns-in-Err-clause-room : goal.returns-in-Err-clause-room
returns-in-Err-clause-room g c = λ full.
    let es = c.turns.new.world.journal.entries in
    room_by c.fault_of.result c.turns.new.world _ (HasRoom es) (returns-in-Err-clause-cause g c) (λ e. full (ap Err e))
    (λ e. elim (c.fault_of.ensures.memory e) as (λ _. HasRoom es) [
      | inl h ↦ room_memory ℕ _ es c.in-Err.ensures.room h.0 h.1
      | inr h ↦ subst (λ b. HasRoom b.entries) c.journal.ensures.journal (c.room.ensures.0 h.2)
    ])
    (λ e. room_fabric ℕ _ es c.in-Err.ensures.room (c.fault_of.ensures.fabric e))
    (λ b e. room_breach ℕ _ es b (sym c.fault_of.ensures.broken ∙ ap breach_in e) c.in-Err.ensures.room)

pub returns-in-Err-clause-full : goal.returns-in-Err-clause-full
returns-in-Err-clause-full g c = λ e room.
    let es = c.turns.new.world.journal.entries in
    let is : c.fault_of.result ≡ JournalFull = cc in
    elim (c.fault_of.ensures.full is) as (λ _. ⊥) [
      | inl h ↦ room_full ℕ _ es c.in-Err.ensures.room h.0 h.1 h.2 h.3 room
      | inr h ↦ let none : true ≡ false = sym (c.room.ensures.1 (subst (λ b. HasRoom b.entries) (sym c.journal.ensures.journal) room)) ∙ h.2 in absurd (cc)
    ]

pub returns-in-Err-clause-fabric : goal.returns-in-Err-clause-fabric
returns-in-Err-clause-fabric g c = λ e.
    let is : c.fault_of.result ≡ Fabric = cc in
    counts_rose ℕ _ _ _ c.in-Err.ensures.faults (c.fault_of.ensures.fabric is)

pub returns-in-Err-clause-stands : goal.returns-in-Err-clause-stands
returns-in-Err-clause-stands g c = λ other. counts_stand ℕ _ _ _ c.in-Err.ensures.faults (λ e. other (ap Err (c.fault_of.ensures.fabric_too e)))
