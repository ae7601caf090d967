-- What a run leaves: its world, and what it did with its ports, by the status that it ends with.
use Rattle.std.specs.Prelude.{ℕ, false, Option, Some, IfSome, List, [], length, slice_get, ◌≡◌, ◌≢◌, ◌⊎◌, ◌++◌, ◌+◌, ◌-◌, ◌<◌, ◌≤◌}
use Rattle.std.specs.List.{list_any}
use Rattle.hpx_value.specs.declared.profile.Profile.{Profile}
use Rattle.hpx_journal.specs.Pool.{prints_of}
use Rattle.hpx_journal.specs.Weights.{HasRoom}
use Rattle.hpx_journal.specs.Whole.{IsCarried}
use Rattle.hpx_steps.specs.Limits.{IsWithin}
use Rattle.hpx_steps.specs.Rest.{rules_of, StandsAtRest}
use Rattle.hpx_ports.specs.Faults.{Rose}
use Rattle.hpx_ports.specs.Told.{followed}
use Rattle.hpx_world.specs.Audit.{audit_lines, IsAudit, StandWhereTold}
use Rattle.hpx_tables.specs.Tables.{Tables}
use Rattle.hpx_world.specs.Places.{Places}
use Rattle.hpx_world.specs.Quiet.{IsQuiet}
use Rattle.hpx_world.specs.Promises.{KeepsPromises}
use Rattle.app_console.specs.Console.{prompt}
use Rattle.app_console.specs.Lines.{IsFront, lines_of}
use Rattle.hpx_top.specs.Acts.{act_of}
use Rattle.hpx_top.specs.declared.task.Task.{Task}
use Rattle.hpx_top.specs.declared.task.Task.TheVariants.{Console, Load}
use Rattle.hpx_top.specs.declared.task.Workload.{Workload}
use Rattle.hpx_top.specs.declared.consoles.UserConsole.{UserConsole}
use Rattle.hpx_top.specs.Computed.{HasComputed, reads_input, task_line, task_texts}
use Rattle.hpx_top.specs.Loaded.{HasLoaded, IsSummed, IsSummedPlainly}
use Rattle.hpx_top.specs.Ends.{IsWhole, IsBroken, IsBrokenOff, IsBegun, IsShort, IsReadFrom, IsReadUp, IsReadOn}
use Rattle.hpx_top.specs.Session.{rules, entries_in, IsAmple, NoneRefused, AllGranted, AllDone, IsRested, Telling, ByJournal, ByOneSpace, WritesFront}
use Rattle.hpx_top.specs.declared.task.Setup.{Setup}
use Rattle.hpx_top.specs.Printed.{HasCounted}
use Rattle.hpx_top.specs.Texts.{commands, how, is_own, lines_text}

-- ---- ports

-- what is left to read and how many bytes were read, what was written, and how often reading, writing and the fabric failed
pub record Ports : Type 0 where
  pub left : Option (List ℕ)
  pub taken : ℕ
  pub text : Option (List ℕ)
  pub read_faults : ℕ
  pub write_faults : ℕ
  pub frame_faults : ℕ

-- the ports, by what is told of each
abbrev pub ports_of : Option (List ℕ) → ℕ → Option (List ℕ) → ℕ → ℕ → ℕ → Ports
ports_of left taken text reads writes frames =
    record { left = left; taken = taken; text = text; read_faults = reads; write_faults = writes; frame_faults = frames }

-- what was written for errors, and how often that failed
pub record Errors : Type 0 where
  pub text : Option (List ℕ)
  pub faults : ℕ

-- a line was written for errors, or a front of it where that failed
pub record Says (line : List ℕ) (x z : Errors) : Type 0 where
  pub front : WritesFront line x.text z.text
  pub whole : (Rose x.faults z.faults → ⊥) → z.text ≡ followed x.text line

-- ---- causes

-- no port failed, not all of the bytes that may be read were read, and the journal has room
pub record NothingFailed (world : Option Places) (x z : Ports) : Type 0 where
  pub read : Rose x.read_faults z.read_faults → ⊥
  pub write : Rose x.write_faults z.write_faults → ⊥
  pub frame : Rose x.frame_faults z.frame_faults → ⊥
  pub few : z.taken < x.taken + 67108864
  pub room : IfSome world (λ w. HasRoom w.journal.entries)

-- each status has its cause, no port failed but that which the status names, and at most 67,108,864 bytes were read
pub record HasCause (status : ℕ) (world : Option Places) (x z : Ports) : Type 0 where
  pub read : status ≡ 2 → Rose x.read_faults z.read_faults
  pub write : status ≡ 3 → Rose x.write_faults z.write_faults
  pub frame : status ≡ 4 → Rose x.frame_faults z.frame_faults
  pub full : status ≡ 5 → IfSome world (λ w. HasRoom w.journal.entries → ⊥)
  pub room : status ≢ 5 → IfSome world (λ w. HasRoom w.journal.entries)
  pub input : status ≡ 9 → z.taken ≡ x.taken + 67108864
  pub read_only : status ≢ 2 → z.read_faults ≡ x.read_faults
  pub write_only : status ≢ 3 → z.write_faults ≡ x.write_faults
  pub frame_only : status ≢ 4 → z.frame_faults ≡ x.frame_faults
  pub limit : z.taken ≤ x.taken + 67108864

-- ---- texts

-- what a console read and wrote of this input, by what its lines are told by
pub record HasServed (console : UserConsole) (telling : Telling) (status : ℕ) (input : List ℕ) (world : Option Places) (x z : Ports) : Type 0 where
  pub reads : IsReadFrom input z.left x.taken z.taken
  pub whole : status ≡ 0 → IsWhole console telling input (entries_in world) x.text z.text
  pub read_up : status ≡ 0 → IsReadUp input z.left
  pub begun : IsBegun console telling input (entries_in world) x.text z.text
  pub between_lines : (status ≡ 2) ⊎ (status ≡ 9) → (b : IsBrokenOff console telling 0 input (entries_in world) x.text z.text)
      × (IsReadOn (z.taken - x.taken) (length b.handled) input z.left)
  pub refused : (status ≡ 4) ⊎ (status ≡ 5) ⊎ (status ≡ 7) ⊎ (status ≡ 8) → IsBroken console telling input z.left (entries_in world) x.text z.text
  pub short : status ≡ 6 → IfSome world (λ w. IsShort console telling input z.left w.journal.entries x.text z.text)

-- what was written begins what one plain space at n localities says of the whole input
pub record BeginsPlainly (console : UserConsole) (n : ℕ) (input : List ℕ) (old new : Option (List ℕ)) : Type 0 where
  pub text : List ℕ
  pub is : new ≡ followed old text
  pub begins : IsFront text (commands console ++ (lines_text console n (lines_of input) ++ prompt))

-- each line of the input is fed, too long, or a `drain`
abbrev pub OwnsNone : UserConsole → List ℕ → Type 0
OwnsNone console input = list_any (λ line. is_own (how console line)) (lines_of input) ≡ false

-- What was done of a task at n localities: the console served its input, and the journal and its lengths behind each line tell what it
-- wrote; any other application read nothing, and what was written is what the journal printed, or what the prints of the made session come
-- to. Where each frame that was accepted had been sent, no ask for credit was refused, and no line is a `hold`, `turn`, `audit` or `counter`,
-- that is what one plain space says, or what was to be computed.
pub record HasDone (task : Task) (n : ℕ) (p : Profile) (status : ℕ) (cuts : List ℕ) (world : Option Places) (x z : Ports) : Type 0 where
  pub shown : (line : List ℕ) → task_line task ≡ Some line
      → HasComputed line (prints_of (entries_in world)) status (entries_in world) x.text z.text
  pub computed : IsCarried (rules_of act_of n p) [] (entries_in world) → NoneRefused p (entries_in world) → (line : List ℕ) → task_line task ≡ Some line
      → HasComputed line (task_texts task) status (entries_in world) x.text z.text
  pub loaded : (load : Workload) → task ≡ Load load
      → HasLoaded (rules_of act_of n p) load (IsSummed (rules_of act_of n p) load (entries_in world)) status (entries_in world) x.text z.text
  pub loaded_plainly : IsCarried (rules_of act_of n p) [] (entries_in world) → NoneRefused p (entries_in world) → (load : Workload) → task ≡ Load load
      → HasLoaded (rules_of act_of n p) load (IsSummedPlainly (rules_of act_of n p) load (entries_in world)) status (entries_in world) x.text z.text
  pub unread : reads_input task ≡ false → (z.left ≡ x.left) × (z.taken ≡ x.taken) × (z.read_faults ≡ x.read_faults) × (cuts ≡ [])
  pub no_read : reads_input task ≡ false → (status ≢ 2) × (status ≢ 9)
  pub reads : (input : List ℕ) → x.left ≡ Some input → IsReadFrom input z.left x.taken z.taken
  pub served : (console : UserConsole) → task ≡ Console console → (input : List ℕ) → x.left ≡ Some input
      → HasServed console (ByJournal (rules_of act_of n p) cuts) status input world x z
  pub served_plainly : IsCarried (rules_of act_of n p) [] (entries_in world) → NoneRefused p (entries_in world) → (console : UserConsole) → task ≡ Console console → (input : List ℕ) → x.left ≡ Some input
      → OwnsNone console input → HasServed console (ByOneSpace n) status input world x z × BeginsPlainly console n input x.text z.text

-- What was done of a setup: first its task, which ended with a status, and left the ports so; then the values of the counters were
-- written.
pub record HasRun (setup : Setup) (status : ℕ) (cuts : List ℕ) (world : Option Places) (x z : Ports) : Type 0 where
  pub places : IfSome world (λ w. (length w.nodes ≡ setup.localities) × (w.profile ≡ setup.profile))
  pub ended : ℕ
  pub mid : Ports
  pub did : HasDone setup.task setup.localities setup.profile ended cuts world x mid
  pub still : z ≡ record mid { text = z.text; write_faults = z.write_faults }
  pub counted : HasCounted setup.counters.items status ended (entries_in world) mid.text z.text

-- ---- worlds

-- What holds of a world wherever a run ends: the journal is within its limits, and each node stands for its part of it, in which
-- nothing is idle. Where each frame that was accepted had been sent, the journal keeps all that is promised of it, an audit tells what it leads
-- to, and where the limit of credit is high no ask was refused and no action failed.
pub record IsLawful (w : Places) : Type 0 where
  pub within : IsWithin w.journal.entries
  pub stands : (k : ℕ) (t : Tables) → slice_get w.nodes k ≡ Some t → StandsAtRest (rules w) t w.journal.entries
  pub granted : IsCarried (rules w) [] w.journal.entries → IsAmple w.profile → AllGranted w.journal.entries
  pub promises : IsCarried (rules w) [] w.journal.entries → KeepsPromises (rules w) w.journal.entries
  pub audit : IsCarried (rules w) [] w.journal.entries → IsAudit (rules w) w.journal.entries (audit_lines w.nodes)
  pub stand : IsCarried (rules w) [] w.journal.entries → IsQuiet w.nodes w.hand → StandWhereTold (rules w) w.journal.entries (audit_lines w.nodes)

-- nothing is to be done anywhere; and where each frame that was accepted had been sent, all that was begun is done, and nothing is under way
pub record HasEnded (w : Places) : Type 0 where
  pub rest : IsRested w
  pub done : IsCarried (rules w) [] w.journal.entries → AllDone w.journal.entries
