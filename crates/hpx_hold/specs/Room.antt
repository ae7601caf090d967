-- What an answer says of the room that the journal is left with.
use Rattle.std.specs.Prelude.{List, Result, Err}
use Rattle.hpx_value.specs.declared.acts.Acts.{Ghosts}
use Rattle.hpx_journal.specs.Weights.{HasRoom}
use Rattle.hpx_part.specs.Data.{Entry}
use Rattle.hpx_world.specs.declared.turns.WorldFault.{WorldFault}
use Rattle.hpx_world.specs.declared.turns.WorldFault.TheVariants as faults

-- there is none where the journal is said to be full, and there is room for a turn else, unless a job was not run
abbrev pub TellsRoom : {T A : Type 0} {g : Ghosts A} → Result T (WorldFault A g) → List Entry → Type 0
TellsRoom (Err (faults.JournalFull entries weight _)) es = HasRoom es → ⊥
TellsRoom (Err (faults.NotRun job)) es = Unit {0}
TellsRoom _ es = HasRoom es
