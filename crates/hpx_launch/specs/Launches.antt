-- How a launch ends.
use Rattle.std.specs.Prelude.{ℕ, Option, Some, None, IsSome, IfSome, Result, IfOk, OnOk, List, [], ◌∷◌, ◌++◌, ◌≡◌, ◌≤◌, ◌<◌, ◌⊎◌, ◌==◌, length, take, codes, if◌then◌else◌}
use Rattle.std.specs.List.{range_with_len, zip}
use Rattle.hpx_ports.specs.Counted.{Writings}
use Rattle.hpx_ports.specs.Faults.{Rose}
use Rattle.hpx_ports.specs.Spawns.{End, Spawned, Start}
use Rattle.hpx_ports.specs.Told.{followed}
use Rattle.hpx_ports.specs.declared.spawner.SpawnFault.{SpawnFault}
use Rattle.hpx_ports.specs.declared.spawner.SpawnFault.TheVariants as spawn
use Rattle.hpx_launch.specs.declared.line.Launch.{Launch}
use Rattle.hpx_launch.specs.declared.fault.LaunchFault.{LaunchFault}
use Rattle.hpx_launch.specs.declared.fault.LaunchFault.TheVariants.{BadWords, StartFailed, OutOfMemory}
use Rattle.hpx_launch.specs.Lines.{launch_in, starts_of}

-- ---- the children

-- the first status that is not 0, else 0
abbrev pub first_failure : List ℕ → ℕ
first_failure [] = 0
first_failure (status ∷ more) = if status == 0 then first_failure more else status

-- what a spawner tells
abbrev pub told : List Start → List End → ℕ → Spawned
told started ended faults = record { started = started; ended = ended; faults = faults }

-- the places of the children among all that were started
abbrev pub children_of : Launch → Spawned → List ℕ
children_of launch x = range_with_len (length x.started) launch.localities

-- The first children were started, in order. Once all were, the first of them have ended, in the same order.
pub record StartsInOrder (launch : Launch) (x z : Spawned) : Type 0 where
  pub count : ℕ
  pub statuses : List ℕ
  pub started : z.started ≡ x.started ++ take count (starts_of launch)
  pub ended : z.ended ≡ x.ended ++ zip (children_of launch x) statuses
  pub in_turn : 0 < length statuses → launch.localities ≤ count

-- no more than what was asked for
abbrev pub HasBegun : Option Launch → Spawned → Spawned → Type 0
HasBegun None x z = z ≡ x
HasBegun (Some launch) x z = StartsInOrder launch x z

-- All children were started, in order, and each has ended. The answer is the first status that is not 0, else 0.
pub record HasAnswer (asked : Option Launch) (answer : ℕ) (x z : Spawned) : Type 0 where
  pub launch : Launch
  pub asks : asked ≡ Some launch
  pub statuses : List ℕ
  pub each : length statuses ≡ launch.localities
  pub started : z.started ≡ x.started ++ starts_of launch
  pub ended : z.ended ≡ x.ended ++ zip (children_of launch x) statuses
  pub first : answer ≡ first_failure statuses
  pub calm : z.faults ≡ x.faults

-- ---- the launcher's own answers

abbrev pub fault_status : LaunchFault → ℕ
fault_status BadWords = 1
fault_status StartFailed = 4
fault_status OutOfMemory = 6

abbrev pub fault_line : LaunchFault → List ℕ
fault_line BadWords = codes "hpxrun: bad words\n"
fault_line StartFailed = codes "hpxrun: start failed\n"
fault_line OutOfMemory = codes "hpxrun: out of memory\n"

abbrev pub fault_of_spawn : SpawnFault → LaunchFault
fault_of_spawn spawn.Failed = StartFailed
fault_of_spawn spawn.OutOfMemory = OutOfMemory

-- when each of them may come
abbrev pub HasCause : LaunchFault → Option Launch → Spawned → Spawned → Type 0
HasCause BadWords asked x z = asked ≡ None
HasCause StartFailed asked x z = IsSome asked × Rose x.faults z.faults
HasCause OutOfMemory asked x z = z.faults ≡ x.faults

-- A line was written, unless the sink failed: then some front of it.
pub record Says (line : List ℕ) (x z : Writings) : Type 0 where
  pub count : ℕ
  pub front : z.held ≡ followed x.held (take count line)
  pub whole : (Rose x.faults z.faults → ⊥) → z.held ≡ followed x.held line

-- the answer of the children, in silence; or one for a fault, with its line
abbrev pub Ends : Option Launch → ℕ → Spawned → Spawned → Writings → Writings → Type 0
Ends asked answer x z before after =
    (HasAnswer asked answer x z × (after ≡ before))
    ⊎ ((fault : LaunchFault) × (answer ≡ fault_status fault) × HasCause fault asked x z × Says (fault_line fault) before after)

-- so it was with the words of an environment, which are these where it tells them
pub record HasLaunched (told : Option (List (List ℕ))) (answer : ℕ) (x z : Spawned) (before after : Writings) : Type 0 where
  pub words : List (List ℕ)
  pub same : IfSome told (λ given. words ≡ given)
  pub ends : Ends (launch_in words) answer x z before after
  pub begun : HasBegun (launch_in words) x z

-- ---- parts of a launch

-- some first ones of these starts were made
abbrev pub StartsFront : List Start → List Start → List Start → Type 0
StartsFront starts old new = (count : ℕ) × (new ≡ old ++ take count starts)

-- The first of these children have ended, in order; where there is an answer, all have, and it is the first status that is not 0, else 0.
pub record WaitsFor (children : List ℕ) (answer : Result ℕ SpawnFault) (old new : List End) : Type 0 where
  pub statuses : List ℕ
  pub ended : new ≡ old ++ zip children statuses
  pub each : OnOk answer (length statuses ≡ length children)
  pub answers : IfOk answer (λ status. status ≡ first_failure statuses)
