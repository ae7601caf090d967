-- Why a world that several threads drained stands still, for a session.
use Rattle.std.proofs.Common.{ℕ, Option, Some, None, ◌≡◌, refl, subst}
use Rattle.hpx_value.specs.declared.acts.Acts.{Ghosts}
use Rattle.hpx_value.specs.declared.acts.Done.{Done}
use Rattle.hpx_journal.specs.Weights.{HasRoom}
use Rattle.hpx_ports.specs.Faults.{Rose}
use Rattle.hpx_world.specs.declared.turns.WorldFault.{WorldFault}
use Rattle.hpx_world.specs.declared.turns.WorldFault.TheVariants as faults
use Rattle.hpx_world.specs.Sound.{Meaning}
use Rattle.hpx_site.specs.Seen.{Seen}
use Rattle.hpx_top.specs.declared.breach.Breach.{Breach}
use Rattle.hpx_top.specs.Breaches.{breach_of, Shows}
use Rattle.hpx_top.proofs.WorldFaults.{site_shows}
use Rattle.hpx_site.specs.Held.{Held, IsCalm, IsCause, LeavesRoom}

calm_unless : {A : Type 0} {g : Ghosts A} (fault : WorldFault A g) → (fault ≡ faults.Fabric → ⊥) → IsCalm (Some fault)
calm_unless faults.Fabric not = absurd (not refl)
calm_unless (faults.JournalFull e w v) not = tt
calm_unless (faults.BadFrame to place why) not = tt
calm_unless (faults.Strange to rule object kept) not = tt
calm_unless (faults.EarlyEnd s t) not = tt
calm_unless (faults.OutOfMemory v) not = tt
calm_unless (faults.NotRun job) not = tt

breach_room : {A : Type 0} {g : Ghosts A} (is : Seen) (fault : WorldFault A g) (b : Breach) → breach_of fault ≡ Some b → LeavesRoom is fault → HasRoom is.world.journal.entries
breach_room is (faults.BadFrame to place why) b e room = room
breach_room is (faults.Strange to rule object kept) b e room = room
breach_room is (faults.EarlyEnd sent taken) b e room = room
breach_room is faults.Fabric b e room = room
breach_room is (faults.JournalFull entries weight undone) b e room = absurd (let no : ◌≡◌ {A = Option Breach} None (Some b) = e in cc)
breach_room is (faults.OutOfMemory undone) b e room = room
breach_room is (faults.NotRun job) b e room = absurd (let no : ◌≡◌ {A = Option Breach} None (Some b) = e in cc)

module _ {A : Type 0} {g : Ghosts A} (act_of : Meaning) (was is : Seen) (fault : WorldFault A g) (h : Held act_of was is (Some fault)) where
  pub site_rose : fault ≡ faults.Fabric → Rose was.faults is.faults
  site_rose e =
      let cause : IsCause {A = A} {g = g} was is faults.Fabric = subst (λ f. IsCause was is f) e h.cause in
      cause

  pub site_stands : (fault ≡ faults.Fabric → ⊥) → is.faults ≡ was.faults
  site_stands not = h.still (calm_unless fault not)

  pub site_fabric_room : fault ≡ faults.Fabric → HasRoom is.world.journal.entries
  site_fabric_room e =
      let room : LeavesRoom {A = A} {g = g} is faults.Fabric = subst (λ f. LeavesRoom is f) e h.room in
      room

  pub site_memory_room : (u : Option (Done A g)) → fault ≡ faults.OutOfMemory u → HasRoom is.world.journal.entries
  site_memory_room u e =
      let room : LeavesRoom {A = A} {g = g} is (faults.OutOfMemory u) = subst (λ f. LeavesRoom is f) e h.room in
      room

  pub site_full : (n w : ℕ) (u : Option (Done A g)) → fault ≡ faults.JournalFull n w u → HasRoom is.world.journal.entries → ⊥
  site_full n w u e =
      let cause : IsCause {A = A} {g = g} was is (faults.JournalFull n w u) = subst (λ f. IsCause was is f) e h.cause in
      cause.full

  pub site_breach_room : (b : Breach) → breach_of fault ≡ Some b → HasRoom is.world.journal.entries
  site_breach_room b e = breach_room is fault b e h.room

  pub site_breach : (b : Breach) → breach_of fault ≡ Some b → Shows b is.world is.latest
  site_breach b e = site_shows was is fault h.cause b e
