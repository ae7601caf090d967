use Rattle.std.proofs.Common.{Err, true, false, ◌≡◌, ◌∙◌, ap, sym, subst, inl, inr}
use Rattle.hpx_top.specs.Acts.{act_of}
use Rattle.hpx_journal.specs.Weights.{HasRoom}
use Rattle.hpx_top.specs.Breaches.{breach_in}
use Rattle.hpx_top.specs.Session.{rules}
use Rattle.hpx_top.specs.declared.session.SessionFault.TheVariants.{Fabric, JournalFull}
use Rattle.hpx_top.proofs.FeedLemmas.{no_breach, of_turn, room_by}
use Rattle.hpx_top.proofs.WorldFaults.{never_breach}
use Rattle.hpx_top.proofs.WorkerLemmas.{site_breach, site_breach_room, site_rose, site_stands, site_fabric_room, site_memory_room, site_full}
use Rattle.hpx_top.proofs.session.settle.Goals as goal

pub returns-in-Err-clause-cause : goal.returns-in-Err-clause-cause
returns-in-Err-clause-cause g c =
    of_turn c.fault_of.result c.drain_by-drained.new.world _ c.fault_of.ensures.other
    (λ b e. site_breach act_of _ _ _ c.in-Err.ensures.held b (sym c.fault_of.ensures.broken ∙ e))

pub returns-in-Err-clause-hears : goal.returns-in-Err-clause-hears
returns-in-Err-clause-hears g c = (c.in-Err.ensures.held).hears

pub returns-in-Err-clause-told : goal.returns-in-Err-clause-told
returns-in-Err-clause-told g c = λ carries.
    no_breach c.fault_of.result (λ b e. never_breach (rules c.args.world.now) _ b (sym c.fault_of.ensures.broken ∙ e) ((c.in-Err.ensures.held).never carries))

-- want of memory leaves room, by what is looked at for a job that was not run
pub returns-in-Err-clause-room : goal.returns-in-Err-clause-room
returns-in-Err-clause-room g c = λ full.
    let es = c.drain_by-drained.new.world.journal.entries in
    room_by c.fault_of.result c.drain_by-drained.new.world _ (HasRoom es) (returns-in-Err-clause-cause g c) (λ e. full (ap Err e))
    (λ e. elim (c.fault_of.ensures.memory e) as (λ _. HasRoom es) [
      | inl h ↦ site_memory_room act_of _ _ _ c.in-Err.ensures.held h.0 h.1
      | inr h ↦ subst (λ b. HasRoom b.entries) c.journal.ensures.journal (c.room.ensures.0 h.2)
    ])
    (λ e. site_fabric_room act_of _ _ _ c.in-Err.ensures.held (c.fault_of.ensures.fabric e))
    (λ b e. site_breach_room act_of _ _ _ c.in-Err.ensures.held b (sym c.fault_of.ensures.broken ∙ ap breach_in e))

pub returns-in-Err-clause-full : goal.returns-in-Err-clause-full
returns-in-Err-clause-full g c = λ e room.
    let is : c.fault_of.result ≡ JournalFull = cc in
    elim (c.fault_of.ensures.full is) as (λ _. ⊥) [
      | inl h ↦ site_full act_of _ _ _ c.in-Err.ensures.held h.0 h.1 h.2 h.3 room
      | inr h ↦ let none : true ≡ false = sym (c.room.ensures.1 (subst (λ b. HasRoom b.entries) (sym c.journal.ensures.journal) room)) ∙ h.2 in absurd (cc)
    ]

pub returns-in-Err-clause-fabric : goal.returns-in-Err-clause-fabric
returns-in-Err-clause-fabric g c = λ e.
    let is : c.fault_of.result ≡ Fabric = cc in
    site_rose act_of _ _ _ c.in-Err.ensures.held (c.fault_of.ensures.fabric is)

pub returns-in-Err-clause-stands : goal.returns-in-Err-clause-stands
returns-in-Err-clause-stands g c = λ other.
    site_stands act_of _ _ _ c.in-Err.ensures.held (λ e. other (ap Err (c.fault_of.ensures.fabric_too e)))

-- the world was seen to be quiet
pub returns-then-quiet-clause-rest : goal.returns-then-quiet-clause-rest
returns-then-quiet-clause-rest g c = λ none. record {
  quiet = c.quiet.ensures.is.0 c.if-quiet.true;
  rest = record { rest = λ carried. c.quiet.ensures.rest carried c.if-quiet.true };
}

pub returns-then-quiet-clause-hears : goal.returns-then-quiet-clause-hears
returns-then-quiet-clause-hears g c = (c.drain_by-drained.ensures.held).hears

pub returns-else-quiet-clause-hears : goal.returns-else-quiet-clause-hears
returns-else-quiet-clause-hears g c = (c.drain_by-drained.ensures.held).hears
