-- So many steps, and what the journal has of them.
use Rattle.std.specs.Prelude.{ℕ, Bool, true, false, List, [], ◌++◌, ◌≡◌, ◌≤◌, ◌<◌, ◌⊎◌, length}
use Rattle.hpx_value.specs.declared.acts.Acts.{Ghosts}
use Rattle.hpx_journal.specs.Entries.{Rules}
use Rattle.hpx_journal.specs.Laws.{count_events}
use Rattle.hpx_journal.specs.Whole.{IsCarried, replayed}
use Rattle.hpx_part.specs.Data.{Event, Entry, Fire, Mail, Left, Out, In}
use Rattle.hpx_world.specs.declared.turns.WorldFault.{WorldFault}
use Rattle.hpx_world.specs.Quiet.{IsAtRest}
use Rattle.hpx_world.specs.Refusals.{RefusedStep}
use Rattle.hpx_world.specs.Sound.{Meaning}
use Rattle.hpx_world.specs.Stages.{Stage}
use Rattle.hpx_world.specs.Steps.{AreSteps, IsIdle}

-- ---- in the journal

-- an entry with which a step begins: an action is fired, a message to the own locality is taken up, an object leaves, a frame is sent, or
-- one is accepted. Each step writes exactly one of them
abbrev pub begins_step : Event → Bool
begins_step (Fire a) = true
begins_step (Mail kind) = true
begins_step (Left o to) = true
begins_step (Out to bytes) = true
begins_step (In bytes) = true
begins_step _ = false

-- the journal grew by so many steps, no more than `most`; where they are fewer, and each frame that was accepted had been sent, it is at
-- rest
pub record MakesTurns (r : Rules) (most made : ℕ) (old new : List Entry) : Type 0 where
  pub more : List Entry
  pub is : new ≡ old ++ more
  pub count : count_events begins_step more ≡ made
  pub few : made ≤ most
  pub rest : (made ≡ most) ⊎ (IsCarried r [] new → IsAtRest r (replayed r new))

-- ---- steps, one after another

-- so many steps lead to a stage behind which this is so
pub record GoesIn (act_of : Meaning) (made : ℕ) (x : Stage) (Then : Stage → Type 0) : Type 0 where
  pub last : Stage
  pub between : List Stage
  pub steps : AreSteps act_of x between last
  pub count : length between ≡ made
  pub thus : Then last

-- all steps that were asked for were made, or no more can be made
abbrev pub EndsTurns : ℕ → ℕ → Stage → Stage → Type 0
EndsTurns most made x z = ((made ≡ most) × (z ≡ x)) ⊎ ((made < most) × IsIdle x z)

-- no more steps than were asked for, and then one that is refused; or there is no room for a further one
pub record RefusedTurns {A : Type 0} {g : Ghosts A} (act_of : Meaning) (most : ℕ) (fault : WorldFault A g) (x z : Stage) : Type 0 where
  pub made : ℕ
  pub few : made ≤ most
  pub goes : GoesIn act_of made x (λ last. RefusedStep fault last z)
