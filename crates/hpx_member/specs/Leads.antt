-- What a console keeps, and what it leaves.
use Rattle.std.specs.Prelude.{ℕ, suc, Bool, true, false, List, [], ◌≡◌, ◌≢◌, ◌≤◌, ◌⊎◌, Option, Some, None, Result, Ok, Err}
use Rattle.hpx_journal.specs.Entries.{Rules}
use Rattle.hpx_part.specs.Data.{Entry}
use Rattle.hpx_tables.specs.Awaited.{awaited_here}
use Rattle.hpx_tables.specs.Tables.{IsPassive, Tables}
use Rattle.hpx_steps.specs.Rest.{rules_of}
use Rattle.hpx_ended.specs.Tally.{Tally}
use Rattle.hpx_ports.specs.Faults.{Rose}
use Rattle.hpx_ports.specs.Told.{followed}
use Rattle.hpx_ports.specs.declared.link.Latest.{Latest}
use Rattle.hpx_ports.specs.declared.link.Post.{Post}
use Rattle.hpx_member.specs.Rounds.{Asks, AsksBut, Last, Nothing, Asking, Ending, Refused, Spent, told_all}
use Rattle.hpx_member.specs.Seats.{Meaning, Sits}
use Rattle.hpx_member.specs.Serves.{Done, Given, Serves, Stage}
use Rattle.hpx_member.specs.Stops.{IsCauseBy, IsOther, IsTurnDue, SitsLeft, fault_of, status_of}
use Rattle.hpx_member.specs.Bodies.{is_frame}
use Rattle.hpx_member.specs.Talks.{IsLineCause, Only, Talk}
use Rattle.hpx_member.specs.declared.console.Phase.{Phase}
use Rattle.hpx_member.specs.declared.lines.LineFault.{LineFault}
use Rattle.hpx_member.specs.declared.lines.LineFault.TheVariants as line_faults
use Rattle.hpx_member.specs.declared.stop.Halt.{Halt}
use Rattle.hpx_member.specs.declared.stop.Halt.TheVariants.{Lines, Member}
use Rattle.hpx_member.specs.declared.stop.MemberFault.{MemberFault}
use Rattle.hpx_member.specs.declared.stop.MemberFault.TheVariants.{OutOfPlace, Waves}
use Rattle.hpx_member.specs.declared.stop.Stop.{Stop}
use Rattle.hpx_member.specs.declared.stop.Stop.TheVariants.{Link, JournalFull, OutOfMemory, Fault}

-- ---- between calls

-- a node at locality 0, beside so many others, stands for its journal, which agrees with the link; and so do the turns of its rounds, where its lines are so far
pub record Leads (act_of : Meaning) (others : ℕ) (settles : Bool) (phase : Phase) (t : Tables) (es : List Entry) (trace : Option (List Post)) (waves : Tally) : Type 0 where
  pub here : t.here ≡ 0
  pub members : t.localities ≡ suc others
  pub sits : Sits act_of t es [] trace
  pub asks : Asks (rules_of act_of t.localities t.profile) settles phase (IsPassive t) es trace waves

-- nothing is to be done, and no answer is awaited
pub record IsReady (t : Tables) : Type 0 where
  pub passive : IsPassive t
  pub answered : awaited_here t ≡ 0

-- a body was sent to members 1 to so many, fewer than there are
pub record ToldSome (body : List ℕ) (others : ℕ) (trace trace' : Option (List Post)) : Type 0 where
  pub some : ℕ
  pub few : some ≤ others
  pub is : trace' ≡ followed trace (told_all body some)

-- ---- why it stops

-- a fault of the link, or of its memory
abbrev pub IsOfLink : Stop → Type 0
IsOfLink stop = (stop ≡ Link) ⊎ (stop ≡ OutOfMemory)

-- what may have come behind the last turn where it stops: a word that is not taken stops it, and a word that could not be sent, and waves that are spent
abbrev pub MayClose : Stop → Last → Type 0
MayClose stop Nothing = IsOther stop
MayClose stop (Asking wave some) = IsOfLink stop
MayClose stop (Ending some) = IsOfLink stop
MayClose stop (Refused from body) = stop ≡ Fault (OutOfPlace from)
MayClose stop Spent = stop ≡ Fault Waves

-- a console that stops: at most one frame is left that was not accepted
pub record LeadsLeft (act_of : Meaning) (settles : Bool) (stop : Stop) (t : Tables) (es : List Entry) (trace : Option (List Post)) : Type 0 where
  pub left : SitsLeft act_of stop t es trace
  pub last : Last
  pub asks : AsksBut (rules_of act_of t.localities t.profile) settles es trace last
  pub closes : MayClose stop last

-- a body that is no frame
abbrev pub IsNoFrame : ℕ → List ℕ → Type 0
IsNoFrame from body = is_frame body ≡ false

-- why it halts, by the counts of faults of its lines and of its link, before and after
abbrev pub IsHaltCause : Tables → List Entry → Latest → (reads reads' writes writes' : ℕ) (full : Bool) (before after : ℕ) → Halt → Type 0
IsHaltCause t es latest reads reads' writes writes' full before after (Lines fault) =
    IsLineCause reads reads' writes writes' full fault × (after ≡ before)
IsHaltCause t es latest reads reads' writes writes' full before after (Member stop) =
    IsCauseBy IsNoFrame (Unit {0}) t es latest before after stop × (reads' ≡ reads) × (writes' ≡ writes)

-- a line was handed out that is not fed
abbrev pub IsGiven : Stage → Type 0
IsGiven (Given line) = Unit {0}
IsGiven _ = ⊥

-- where it halts since there is no room, a turn was due: of the node, or to feed a line
abbrev pub IsDueAt : Halt → Stage → Tables → Latest → Type 0
IsDueAt (Lines fault) stage t latest = Unit {0}
IsDueAt (Member Link) stage t latest = Unit {0}
IsDueAt (Member JournalFull) stage t latest = IsTurnDue t latest ⊎ IsGiven stage
IsDueAt (Member OutOfMemory) stage t latest = Unit {0}
IsDueAt (Member (Fault fault)) stage t latest = Unit {0}

-- what it leaves then
abbrev pub HaltsLeft : Meaning → Bool → Halt → Tables → List Entry → Option (List Post) → Type 0
HaltsLeft act_of settles (Lines fault) t es trace =
    Sits act_of t es [] trace × AsksBut (rules_of act_of t.localities t.profile) settles es trace Nothing
HaltsLeft act_of settles (Member stop) t es trace = LeadsLeft act_of settles stop t es trace

-- what was said then: a fault of its lines has broken it off
abbrev pub Saying : (List Talk → Type 0) → (LineFault → List Talk → List Talk → Type 0) → Halt → List Talk → List Talk → Type 0
Saying Went Broke (Lines fault) = Broke fault
Saying Went Broke (Member stop) = Only Went

-- ---- statuses

-- that of a fault of its lines
abbrev pub status_of_lines : LineFault → ℕ
status_of_lines line_faults.Read = 2
status_of_lines line_faults.Write = 3
status_of_lines line_faults.OutOfMemory = 6
status_of_lines line_faults.InputFull = 9

abbrev pub halt_status : Halt → ℕ
halt_status (Lines fault) = status_of_lines fault
halt_status (Member stop) = status_of stop

abbrev pub halt_fault : Halt → Option MemberFault
halt_fault (Lines fault) = None
halt_fault (Member stop) = fault_of stop

-- the status of an end: 0 where all was done
abbrev pub halted_status : Result (Unit {0}) Halt → ℕ
halted_status (Ok x) = 0
halted_status (Err halt) = halt_status halt

-- the statuses of a console: 0, or 2 to 9
abbrev pub IsConsolesStatus : ℕ → Type 0
IsConsolesStatus status = (status ≡ 0) ⊎ ((2 ≤ status) × (status ≤ 9))

abbrev pub halted_fault : Result (Unit {0}) Halt → Option MemberFault
halted_fault (Ok x) = None
halted_fault (Err halt) = halt_fault halt

-- ---- what it leaves

-- what came behind the last turn, by status and fault: at status 0 the end, told to each of n members but member 0; waves are spent at that fault alone
abbrev pub Ends : ℕ → ℕ → Option MemberFault → Last → Type 0
Ends n status fault Nothing = (status ≢ 0) × (fault ≢ Some Waves)
Ends n status fault (Asking wave some) = (status ≡ 4) ⊎ (status ≡ 6)
Ends n status fault (Ending some) = ((status ≡ 0) × (n ≡ suc some)) ⊎ ((status ≡ 4) ⊎ (status ≡ 6))
Ends n status fault (Refused from body) = (status ≡ 8) × (fault ≡ Some (OutOfPlace from))
Ends n status fault Spent = (status ≡ 8) × (fault ≡ Some Waves)

-- What a console has asked of the others. Its turns are in order, its own numbers are those of its journal, and the words on its link, where that
-- tells, are those of its turns. The end is told only behind a round that was begun once the lines were over and has ended, and at status 0 to all.
pub record HasAsked (r : Rules) (settles : Bool) (status : ℕ) (fault : Option MemberFault) (es : List Entry) (trace : Option (List Post)) : Type 0 where
  pub last : Last
  pub asked : AsksBut r settles es trace last
  pub ends : Ends r.localities status fault last

-- a status that is not one of its lines' alone: theirs are 2, 3 and 9
abbrev pub IsNotOfLines : ℕ → Type 0
IsNotOfLines status = (status ≢ 2) × (status ≢ 3) × (status ≢ 9)

-- how it has served its lines, by what was said of them: at status 0 there are no more, and all that was written is shown
pub record HasServed (r : Rules) (status : ℕ) (es : List Entry) (Went : List Talk → Type 0) (Broke : LineFault → List Talk → List Talk → Type 0) : Type 0 where
  pub stage : Stage
  pub serves : (IsNotOfLines status × Serves r es (Only Went) stage) ⊎ ((fault : LineFault) × (status ≡ status_of_lines fault) × Serves r es (Broke fault) stage)
  pub done : status ≡ 0 → stage ≡ Done

-- a line was handed out that is not fed, as it has served its lines
abbrev pub HasLineToFeed : Rules → List Entry → (List Talk → Type 0) → Type 0
HasLineToFeed r es Went = (line : List ℕ) × Serves r es (Only Went) (Given line)

-- 2 and 3 only where the count of that fault rose, and it rose at no other status; 9 only where no more may be read
pub record HasLineCause (status reads reads' writes writes' : ℕ) (full : Bool) : Type 0 where
  pub read : status ≡ 2 → Rose reads reads'
  pub write : status ≡ 3 → Rose writes writes'
  pub ended : status ≡ 9 → full ≡ true
  pub read_only : status ≢ 2 → reads' ≡ reads
  pub write_only : status ≢ 3 → writes' ≡ writes
