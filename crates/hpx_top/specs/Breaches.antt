-- What comes from outside and was not sent, and what shows it in the world that it leaves.
use Rattle.std.specs.Prelude.{ℕ, Option, Some, None, Result, Ok, Err, ◌≡◌, ◌≢◌, ◌⊎◌, sum_by}
use Rattle.hpx_value.specs.declared.acts.Acts.{Ghosts}
use Rattle.hpx_ports.specs.declared.link.Latest.{Latest}
use Rattle.hpx_ports.specs.declared.link.Latest.TheVariants.{Nothing}
use Rattle.hpx_world.specs.declared.turns.WorldFault.{WorldFault}
use Rattle.hpx_world.specs.declared.turns.WorldFault.TheVariants as faults
use Rattle.hpx_world.specs.Places.{Places}
use Rattle.hpx_world.specs.Quiet.{IsQuiet}
use Rattle.hpx_world.specs.Turns.{HoldsBadFrame, HoldsStrangeFrame, IsStrangeMail}
use Rattle.hpx_top.specs.declared.breach.Breach.{Breach}
use Rattle.hpx_top.specs.declared.breach.Breach.TheVariants.{BadFrame, Strange, EarlyEnd}
use Rattle.hpx_top.specs.declared.session.SessionFault.{SessionFault}
use Rattle.hpx_top.specs.declared.session.SessionFault.TheVariants.{Fabric, JournalFull, OutOfMemory, Broken}

-- the breach that a world tells by its fault
abbrev pub breach_of : {A : Type 0} {g : Ghosts A} → WorldFault A g → Option Breach
breach_of (faults.BadFrame to at why) = Some (BadFrame to at why)
breach_of (faults.Strange to rule object kept) = Some (Strange to rule object kept)
breach_of (faults.EarlyEnd sent taken) = Some (EarlyEnd sent taken)
breach_of _ = None

-- and a session by its own
abbrev pub breach_in : SessionFault → Option Breach
breach_in (Broken breach) = Some breach
breach_in _ = None

abbrev pub breach_after : {T : Type 0} → Result T SessionFault → Option Breach
breach_after (Ok x) = None
breach_after (Err fault) = breach_in fault

-- What shows it in a world: the frame in hand goes there and spells no parcel; it breaks that rule, or the oldest message of that locality to
-- itself does; or no frame is in hand, so many were sent and so many accepted, the world is not quiet, and that no frame is left is
-- what the fabric answered last.
abbrev pub Shows : Breach → Places → Latest → Type 0
Shows (BadFrame to at why) w latest = HoldsBadFrame w.hand to at why
Shows (Strange to rule object kept) w latest = HoldsStrangeFrame w.nodes w.hand to rule object kept ⊎ IsStrangeMail w.nodes to rule object kept
Shows (EarlyEnd sent taken) w latest =
    (w.hand ≡ None) × (sent ≡ sum_by (λ t. t.sent) w.nodes) × (taken ≡ sum_by (λ t. t.taken) w.nodes) × (IsQuiet w.nodes w.hand → ⊥)
    × (latest ≡ Nothing)

-- where a session ends with one, its world shows it
abbrev pub IsShown : SessionFault → Places → Latest → Type 0
IsShown (Broken breach) w latest = Shows breach w latest
IsShown _ w latest = Unit {0}

-- and there is a world
abbrev pub IsShownIn : SessionFault → Option Places → Latest → Type 0
IsShownIn (Broken breach) world latest = (w : Places) × (world ≡ Some w) × Shows breach w latest
IsShownIn _ world latest = Unit {0}

-- a session ends with none
abbrev pub NoBreach : SessionFault → Type 0
NoBreach (Broken breach) = ⊥
NoBreach _ = Unit {0}

-- a turn is refused for the fabric, a full journal, want of memory, or a breach, which the world shows
abbrev pub IsOfTurn : SessionFault → Places → Latest → Type 0
IsOfTurn Fabric w latest = Unit {0}
IsOfTurn JournalFull w latest = Unit {0}
IsOfTurn OutOfMemory w latest = Unit {0}
IsOfTurn (Broken breach) w latest = Shows breach w latest
IsOfTurn _ w latest = ⊥

-- the status for each
abbrev pub breach_status : Breach → ℕ
breach_status (BadFrame to at why) = 7
breach_status (Strange to rule object kept) = 8
breach_status (EarlyEnd sent taken) = 8

-- a run says which breach it ends with, its status is that of the breach, and its world shows it; where it says none, its status is none of
-- these
pub record TellsBreach (status : ℕ) (fault : Option Breach) (world : Option Places) (latest : Latest) : Type 0 where
  pub shown : (breach : Breach) → fault ≡ Some breach → (status ≡ breach_status breach) × ((w : Places) × (world ≡ Some w) × Shows breach w latest)
  pub none : fault ≡ None → (status ≢ 7) × (status ≢ 8)
