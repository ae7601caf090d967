-- What the fabric answered last, beside the frame in hand.
use Rattle.std.specs.Prelude.{◌≡◌, Bool, false, Option, Some, Result, Ok, Err}
use Rattle.hpx_value.specs.declared.acts.Acts.{Ghosts}
use Rattle.hpx_journal.specs.Entries.{Frame}
use Rattle.hpx_ports.specs.declared.link.Latest.{Latest}
use Rattle.hpx_ports.specs.declared.link.Latest.TheVariants.{Got, Nothing}
use Rattle.hpx_world.specs.declared.turns.Choice.{Choice}
use Rattle.hpx_world.specs.declared.turns.Choice.TheVariants as choices
use Rattle.hpx_world.specs.declared.turns.Turned.{Turned}
use Rattle.hpx_world.specs.declared.turns.Turned.TheVariants as turned
use Rattle.hpx_world.specs.declared.turns.WorldFault.{WorldFault}
use Rattle.hpx_world.specs.declared.turns.WorldFault.TheVariants as faults

-- a frame in hand is what the fabric answered last
abbrev pub IsLatest : Option Frame → Latest → Type 0
IsLatest hand latest = (frame : Frame) → hand ≡ Some frame → latest ≡ Got frame.0 frame.1

-- where it was, it is
abbrev pub KeepsLatest : Option Frame → Latest → Option Frame → Latest → Type 0
KeepsLatest hand latest hand' latest' = IsLatest hand latest → IsLatest hand' latest'

-- a refusal that says that the end is early: that no frame is left is what the fabric answered last
abbrev pub HearsEnd : {A : Type 0} {g : Ghosts A} → WorldFault A g → Latest → Type 0
HearsEnd (faults.EarlyEnd sent taken) latest = latest ≡ Nothing
HearsEnd fault latest = Unit {0}

-- a turn: so it is where a Take finds none, or refuses an early end
abbrev pub HearsTurn : {A : Type 0} {g : Ghosts A} → Choice A g → Result Turned (WorldFault A g) → Latest → Type 0
HearsTurn choice (Err fault) latest = HearsEnd fault latest
HearsTurn choices.Take (Ok turned.Empty) latest = latest ≡ Nothing
HearsTurn choice (Ok turned) latest = Unit {0}

-- a step: so it is where none could be made, or at an early end
abbrev pub HearsStep : {A : Type 0} {g : Ghosts A} → Result Bool (WorldFault A g) → Latest → Type 0
HearsStep (Err fault) latest = HearsEnd fault latest
HearsStep (Ok made) latest = made ≡ false → latest ≡ Nothing

-- steps: so it is where no more could be made, or at an early end
abbrev pub HearsDrain : {T A : Type 0} {g : Ghosts A} → Result T (WorldFault A g) → Latest → Type 0
HearsDrain (Err fault) latest = HearsEnd fault latest
HearsDrain (Ok x) latest = latest ≡ Nothing
