-- How far a session has come: the lines that were handled, what was fed for them, and what was written.
use Rattle.std.specs.Prelude.{ℕ, Bool, true, false, Option, Some, None, IfSome, List, [], ◌∷◌, ◌++◌, ◌≡◌, ◌+◌, ◌≤◌, ◌^◌, ◌⊎◌, length, take, drop}
use Rattle.std.specs.Option.{option_map}
use Rattle.std.specs.List.{concat, list_any}
use Rattle.hpx_value.specs.declared.profile.Profile.{Profile}
use Rattle.hpx_journal.specs.declared.entry.Entry.{Entry}
use Rattle.hpx_journal.specs.declared.entry.Name.{Name}
use Rattle.hpx_journal.specs.declared.entry.Event.{Event}
use Rattle.hpx_journal.specs.declared.entry.Event.TheVariants.{Line}
use Rattle.hpx_journal.specs.Entries.{Frame, Rules}
use Rattle.hpx_journal.specs.Whole.{IsCarried, IsLegal, replayed}
use Rattle.hpx_journal.specs.Laws.{begun, fires, dones, count_events, is_refused_count}
use Rattle.hpx_journal.specs.Pool.{NoneFails, prints_of}
use Rattle.hpx_journal.specs.Sessions.{IsSettled, BeginsWith}
use Rattle.hpx_ports.specs.Told.{preceded, followed}
use Rattle.hpx_ports.specs.declared.fabric.Wire.{Wire}
use Rattle.hpx_world.specs.Away.{IsCarrying}
use Rattle.hpx_world.specs.Places.{Places, rules_in}
use Rattle.hpx_world.specs.Quiet.{IsQuiet}
use Rattle.app_console.specs.Console.{prompt}
use Rattle.app_console.specs.Lines.{IsFront, is_long, is_quit, IsPiece, before_quit, opening}
use Rattle.hpx_top.specs.Acts.{act_of}
use Rattle.hpx_top.specs.declared.consoles.UserConsole.{UserConsole}
use Rattle.hpx_top.specs.declared.consoles.UserConsole.TheVariants.{Accumulator, Space}
use Rattle.hpx_top.specs.Texts.{commands, fed, fed_lines, held_behind, lines_text}
use Rattle.hpx_top.specs.Parts.{Part, Rests, AreParts, IsHandled, journal_of, text_of, part_text, cuts_of}
use Rattle.hpx_top.specs.declared.session.SessionFault.{SessionFault}
use Rattle.hpx_top.specs.declared.session.SessionFault.TheVariants.{Read, Write, OutOfMemory, InputFull}
use Rattle.hpx_top.specs.Reader.{Reading, input_left, lines_left, bytes_left, behind}

-- ---- the world of a console

-- what its journal is judged by
abbrev pub rules : Places → Rules
rules w = rules_in act_of w

-- a count that grows by the credit of a new object at each entry of a whole journal stays within the limit
pub record IsAmple (p : Profile) : Type 0 where
  pub log : p.credit_log ≤ 31
  pub limit : 2 ^ 53 ≤ p.credit_limit

-- no ask for credit was refused, and no action failed
pub record AllGranted (entries : List Entry) : Type 0 where
  pub asks : count_events is_refused_count entries ≡ 0
  pub actions : NoneFails entries

-- none was refused, or none can be by this profile
abbrev pub NoneRefused : Profile → List Entry → Type 0
NoneRefused p entries = IsAmple p ⊎ (count_events is_refused_count entries ≡ 0)

-- each action that was fed or sent was fired, and is done
pub record AllDone (entries : List Entry) : Type 0 where
  pub fired : (a : Name) → fires a entries ≡ begun a entries
  pub done : (a : Name) → dones a entries ≡ begun a entries

-- nothing is to be done anywhere; and where each frame that was accepted had been sent, nothing is under way, and as many credits are held
-- as objects are named
pub record IsRested (w : Places) : Type 0 where
  pub quiet : IsQuiet w.nodes w.hand
  pub rest : Rests (rules w) w.journal.entries

-- a fabric that tells this has carried for the journal
abbrev pub Carries : Places → Option (List Frame) → Option (List Wire) → Type 0
Carries w flight trace = IsCarrying (rules w) w.hand flight trace w.journal.entries

-- the entries that stand where a run ends: none without a world
abbrev pub entries_in : Option Places → List Entry
entries_in None = []
entries_in (Some w) = w.journal.entries

-- ---- the Line entries of a journal

-- the line that an event feeds
abbrev pub lines_by : Event → List (List ℕ)
lines_by (Line a bytes) = bytes ∷ []
lines_by _ = []

-- the lines that a journal says were fed, in order
abbrev pub lines_fed : List Entry → List (List ℕ)
lines_fed [] = []
lines_fed (e ∷ es) = lines_by e.event ++ lines_fed es

-- the journal grew by what follows from a text that was fed
pub record IsFed (text : List ℕ) (old new : List Entry) : Type 0 where
  pub block : List Entry
  pub is : new ≡ old ++ block
  pub begins : BeginsWith text block

-- or it stands
abbrev pub FeedsAtMost : List ℕ → List Entry → List Entry → Type 0
FeedsAtMost text old new = (new ≡ old) ⊎ IsFed text old new

-- nothing was done; or the journal grew, and the line was fed, if it is one that is fed
pub record HasBegun (console : UserConsole) (line : List ℕ) (old new : List Entry) : Type 0 where
  pub more : List Entry
  pub is : new ≡ old ++ more
  pub once : (more ≡ []) ⊎ (lines_fed more ≡ fed_lines console (line ∷ []))

-- what is fed for these lines was fed, or there are none and nothing was fed at all
abbrev pub HasFed : UserConsole → List (List ℕ) → List Entry → Type 0
HasFed console lines entries = (lines_fed entries ≡ fed console lines) ⊎ ((lines_fed entries ≡ []) × (lines ≡ []))

-- the journal grew by what a text did: it was fed; and where each frame that was accepted had been sent, the journal is legal, and then nothing
-- was left to do
pub record Feeds (r : Rules) (text : List ℕ) (old new : List Entry) : Type 0 where
  pub block : List Entry
  pub is : new ≡ old ++ block
  pub begins : BeginsWith text block
  pub legal : IsCarried r [] new → IsLegal r new
  pub settled : IsCarried r [] new → IsSettled r (replayed r new)

-- ---- what goes to a sink

-- bytes went to a sink, which are the front of these
pub record WritesFront (bytes : List ℕ) (old new : Option (List ℕ)) : Type 0 where
  pub front : List ℕ
  pub begins : IsFront front bytes
  pub held : new ≡ followed old front

-- bytes went to a sink, and these are still to be written
pub record WritesUpTo (rest bytes : List ℕ) (old new : Option (List ℕ)) : Type 0 where
  pub front : List ℕ
  pub whole : front ++ rest ≡ bytes
  pub held : new ≡ followed old front

-- ---- what is said of lines

-- what was done before the first line: the accumulator was made, and then nothing was left to do; or nothing
abbrev pub IsOpened : UserConsole → Rules → List Entry → Type 0
IsOpened Accumulator r first = BeginsWith opening first × Rests r first
IsOpened Space r first = first ≡ []

-- the journal grew so before the first line
pub record HasOpened (console : UserConsole) (r : Rules) (old new : List Entry) : Type 0 where
  pub first : List Entry
  pub is : new ≡ old ++ first
  pub opened : IsOpened console r first

-- The text of these lines, by a journal and its lengths behind each line: the journal has a part for each.
pub record IsTold (console : UserConsole) (r : Rules) (cuts : List ℕ) (entries : List Entry) (lines : List (List ℕ)) (text : List ℕ) : Type 0 where
  pub first : List Entry
  pub parts : List Part
  pub later : List Entry
  pub entries_are : entries ≡ (first ++ journal_of parts) ++ later
  pub opened : IsOpened console r first
  pub handled : AreParts console r false first lines parts
  pub cuts_are : cuts_of first parts ≡ take (length lines) cuts
  pub text_is : text ≡ text_of parts

-- by what lines are told: by the journal and its lengths behind them, or by one plain space at so many localities
pub data Telling : Type 0 where
  ByJournal : (r : Rules) (cuts : List ℕ) → Telling
  ByOneSpace : (n : ℕ) → Telling

-- the text of lines
abbrev pub Tells : UserConsole → Telling → List Entry → List (List ℕ) → List ℕ → Type 0
Tells console (ByJournal r cuts) entries lines text = IsTold console r cuts entries lines text
Tells console (ByOneSpace n) entries lines text = text ≡ lines_text console n lines

-- no line but these was handled
abbrev pub TellsAll : UserConsole → Telling → List Entry → List (List ℕ) → List ℕ → Type 0
TellsAll console (ByJournal r cuts) entries lines text = IsTold console r cuts entries lines text × (length cuts ≡ length lines)
TellsAll console (ByOneSpace n) entries lines text = text ≡ lines_text console n lines

-- and behind them the journal has no more
abbrev pub EndsThere : (console : UserConsole) (telling : Telling) (entries : List Entry) (lines : List (List ℕ)) (text : List ℕ) → TellsAll console telling entries lines text → Type 0
EndsThere console (ByJournal r cuts) entries lines text t = t.0.later ≡ []
EndsThere console (ByOneSpace n) entries lines text t = Unit {0}

-- no line was handled
abbrev pub TellsNone : Telling → Type 0
TellsNone (ByJournal r cuts) = cuts ≡ []
TellsNone (ByOneSpace n) = Unit {0}

-- the text of all lines with the last prompt, and in a hold what was printed behind it, once it was let go
pub record IsToldUp (console : UserConsole) (r : Rules) (cuts : List ℕ) (entries : List Entry) (lines : List (List ℕ)) (text : List ℕ) : Type 0 where
  pub body : List ℕ
  pub told : IsTold console r cuts entries lines body
  pub count : length cuts ≡ length lines
  pub last : held_behind console false lines ≡ false → told.later ≡ []
  pub unfed : lines_fed told.later ≡ []
  pub text_is : text ≡ body ++ (prompt ++ concat (prints_of told.later))

-- so it is told, or by one plain space
abbrev pub TellsUp : UserConsole → Telling → List Entry → List (List ℕ) → List ℕ → Type 0
TellsUp console (ByJournal r cuts) entries lines text = IsToldUp console r cuts entries lines text
TellsUp console (ByOneSpace n) entries lines text = text ≡ lines_text console n lines ++ prompt

-- ---- what a session has done

-- the first lines of an input were handled, none of them a quit, and the rest is left
pub record HandsOut (all left : Option (List (List ℕ))) (lines : List (List ℕ)) : Type 0 where
  pub first : all ≡ preceded lines left
  pub goes_on : list_any is_quit lines ≡ false

-- between two lines: those that were handled were fed, if they are fed at all, and their text was written
pub record IsServing (console : UserConsole) (r : Rules) (all : Option (List (List ℕ))) (before : Option (List ℕ)) (reading : Reading) (left : Option (List ℕ))
    (held : Bool) (cuts : List ℕ) (entries : List Entry) (now : Option (List ℕ)) : Type 0 where
  pub lines : List (List ℕ)
  pub handled : HandsOut all (lines_left reading left) lines
  pub few : length lines + bytes_left reading ≤ 67108864
  pub text : List ℕ
  pub told : IsTold console r cuts entries lines text
  pub last : told.later ≡ []
  pub count : length cuts ≡ length lines
  pub fed_are : lines_fed entries ≡ fed console lines
  pub mode : held ≡ held_behind console false lines
  pub written : now ≡ followed before (commands console ++ text)

-- and the others are behind so many newlines of all bytes
pub record IsHandling (console : UserConsole) (r : Rules) (bytes : Option (List ℕ)) (all : Option (List (List ℕ))) (before : Option (List ℕ)) (reading : Reading) (left : Option (List ℕ))
    (held : Bool) (cuts : List ℕ) (entries : List Entry) (now : Option (List ℕ)) : Type 0 where
  pub serving : IsServing console r all before reading left held cuts entries now
  pub behind_is : input_left reading left ≡ option_map (behind (length cuts)) bytes

-- After a prompt: the text is that of the lines that were handled. Of the lines behind them so many may have been begun; if none, the
-- journal ends with those that were handled.
pub record IsCut (console : UserConsole) (telling : Telling) (most : ℕ) (all : Option (List (List ℕ))) (before : Option (List ℕ)) (entries : List Entry) (now : Option (List ℕ)) : Type 0 where
  pub lines : List (List ℕ)
  pub next : List (List ℕ)
  pub left : Option (List (List ℕ))
  pub handled : HandsOut all left (lines ++ next)
  pub few : length next ≤ most
  pub journal : lines_fed entries ≡ fed console (lines ++ next)
  pub text : List ℕ
  pub told : TellsAll console telling entries lines text
  pub ended : next ≡ [] → EndsThere console telling entries lines text told
  pub written : now ≡ followed before (commands console ++ (text ++ prompt))

-- so many were handled
abbrev pub IsCutAt : UserConsole → ℕ → Telling → ℕ → Option (List (List ℕ)) → Option (List ℕ) → List Entry → Option (List ℕ) → Type 0
IsCutAt console count telling most all before entries now = (c : IsCut console telling most all before entries now) × (length c.lines ≡ count)

-- In a line behind a prompt: the text is that of the lines before it. It is not too long, and it may have been fed.
pub record IsCutIn (console : UserConsole) (telling : Telling) (all : Option (List (List ℕ))) (before : Option (List ℕ)) (entries : List Entry) (now : Option (List ℕ)) : Type 0 where
  pub lines : List (List ℕ)
  pub line : List ℕ
  pub left : Option (List (List ℕ))
  pub handled : HandsOut all left (lines ++ line ∷ [])
  pub short : is_long line ≡ false
  pub journal : (lines_fed entries ≡ fed console lines) ⊎ (lines_fed entries ≡ fed console (lines ++ line ∷ []))
  pub text : List ℕ
  pub told : TellsAll console telling entries lines text
  pub written : now ≡ followed before (commands console ++ (text ++ prompt))

-- Behind the first text, before the first prompt: the accumulator is to be made, and the line for it may have been fed. Only its
-- console makes one.
pub record IsCutAtOpening (console : UserConsole) (telling : Telling) (before : Option (List ℕ)) (entries : List Entry) (now : Option (List ℕ)) : Type 0 where
  pub only : console ≡ Accumulator
  pub none : TellsNone telling
  pub journal : (lines_fed entries ≡ []) ⊎ (lines_fed entries ≡ opening ∷ [])
  pub written : now ≡ followed before (commands console)

-- after the last prompt: all lines were handled, up to the end or to a quit
pub record IsOver (console : UserConsole) (r : Rules) (ended : Bool) (all : Option (List (List ℕ))) (before : Option (List ℕ)) (held : Bool) (cuts : List ℕ) (entries : List Entry) (now : Option (List ℕ)) : Type 0 where
  pub lines : List (List ℕ)
  pub left : Option (List (List ℕ))
  pub handled : HandsOut all left lines
  pub last : IfSome left (λ others. before_quit others ≡ [])
  pub read_up : (ended ≡ true) ⊎ IfSome all (λ lines. list_any is_quit lines ≡ true)
  pub text : List ℕ
  pub told : IsTold console r cuts entries lines text
  pub none : told.later ≡ []
  pub count : length cuts ≡ length lines
  pub fed_are : lines_fed entries ≡ fed console lines
  pub mode : held ≡ held_behind console false lines
  pub written : now ≡ followed before (commands console ++ (text ++ prompt))

-- the text of these lines, or of all but the last of them, was written whole
pub record AllButOne (console : UserConsole) (telling : Telling) (entries : List Entry) (lines : List (List ℕ)) (written : List ℕ) : Type 0 where
  pub done : List (List ℕ)
  pub last : List (List ℕ)
  pub parts : lines ≡ done ++ last
  pub few : length last ≤ 1
  pub text : List ℕ
  pub told : Tells console telling entries done text
  pub front : IsFront (commands console ++ text) written

-- what was written is a front of the text of these lines, with the prompt behind it
abbrev pub IsTheirs : UserConsole → Telling → List Entry → List (List ℕ) → List ℕ → Type 0
IsTheirs console telling entries lines written = (text : List ℕ) × TellsAll console telling entries lines text × IsFront written (commands console ++ (text ++ prompt))

-- or, where no line is left, of all that is written for them
abbrev pub IsOfAll : UserConsole → Telling → List Entry → List (List ℕ) → List ℕ → Type 0
IsOfAll console telling entries lines written = (text : List ℕ) × TellsUp console telling entries lines text × IsFront written (commands console ++ text)

-- wherever a session ends: what was written is the front of what the lines that were handled print, and is whole for all but the last;
-- one line more may have been begun
pub record IsUnderWay (console : UserConsole) (telling : Telling) (all : Option (List (List ℕ))) (before : Option (List ℕ)) (entries : List Entry) (now : Option (List ℕ)) : Type 0 where
  pub lines : List (List ℕ)
  pub next : List (List ℕ)
  pub left : Option (List (List ℕ))
  pub handled : HandsOut all left (lines ++ next)
  pub few : length next ≤ 1
  pub journal : HasFed console (lines ++ next) entries
  pub text : List ℕ
  pub written : now ≡ followed before text
  pub theirs : IsTheirs console telling entries lines text
      ⊎ (IsOfAll console telling entries lines text × (next ≡ []) × IfSome left (λ others. before_quit others ≡ []))
      ⊎ ((lines ≡ []) × (next ≡ []) × TellsNone telling × IsFront text (commands console))
  pub almost : AllButOne console telling entries lines text ⊎ ((lines ≡ []) × (next ≡ []))

-- behind so many lines, which were handled, the bytes that were read hold no whole line
pub record IsStopped (count : ℕ) (all : Option (List (List ℕ))) (reading : Reading) (left : Option (List ℕ)) : Type 0 where
  pub lines : List (List ℕ)
  pub many : length lines ≡ count
  pub handled : HandsOut all (lines_left reading left) lines
  pub no_line : IsPiece reading.pending
  pub goes_on : reading.ended ≡ false

-- ---- by the cause of an end

-- a line was handled, and its text was written
pub record IsServed (console : UserConsole) (r : Rules) (line : List ℕ) (held held' : Bool) (cuts cuts' : List ℕ) (old new : List Entry) (before now : Option (List ℕ)) : Type 0 where
  pub handled : IsHandled console r line held held' cuts cuts' old new
  pub written : now ≡ followed before (part_text handled.part)

-- or a write failed
pub record IsServedUpTo (console : UserConsole) (r : Rules) (line : List ℕ) (held held' : Bool) (cuts cuts' : List ℕ) (old new : List Entry) (before now : Option (List ℕ)) : Type 0 where
  pub handled : IsHandled console r line held held' cuts cuts' old new
  pub written : WritesFront (part_text handled.part) before now

-- or it was begun at most, and nothing was written
pub record IsLeft (console : UserConsole) (line : List ℕ) (cuts cuts' : List ℕ) (old new : List Entry) (before now : Option (List ℕ)) : Type 0 where
  pub begun : HasBegun console line old new
  pub cut : cuts' ≡ cuts
  pub written : now ≡ before

-- a line was broken off: a write failed once it was handled, or it was begun
abbrev pub IsLineEndedBy : UserConsole → SessionFault → Rules → List ℕ → Bool → Bool → List ℕ → List ℕ → List Entry → List Entry → Option (List ℕ) → Option (List ℕ) → Type 0
IsLineEndedBy console Write r line held held' cuts cuts' old new before now = IsServedUpTo console r line held held' cuts cuts' old new before now
IsLineEndedBy console Read r line held held' cuts cuts' old new before now = ⊥
IsLineEndedBy console InputFull r line held held' cuts cuts' old new before now = ⊥
IsLineEndedBy console _ r line held held' cuts cuts' old new before now = IsLeft console line cuts cuts' old new before now

-- a session was broken off: at a write anywhere, otherwise behind a prompt, or in the line behind it
abbrev pub IsCutBy : UserConsole → SessionFault → Telling → Option (List (List ℕ)) → Option (List ℕ) → List Entry → Option (List ℕ) → Type 0
IsCutBy console Write telling all before entries now = IsUnderWay console telling all before entries now
IsCutBy console Read telling all before entries now = IsCut console telling 0 all before entries now
IsCutBy console InputFull telling all before entries now = IsCut console telling 0 all before entries now
IsCutBy console OutOfMemory telling all before entries now = IsCut console telling 1 all before entries now
IsCutBy console _ telling all before entries now = IsCutIn console telling all before entries now

-- behind the last prompt: what was held back was not let go, or what it prints was not written
abbrev pub IsEndCutBy : SessionFault → List Entry → List Entry → Option (List ℕ) → Option (List ℕ) → Type 0
IsEndCutBy Write old new before now = WritesFront (concat (prints_of (drop (length old) new))) before now
IsEndCutBy Read old new before now = ⊥
IsEndCutBy InputFull old new before now = ⊥
IsEndCutBy _ old new before now = now ≡ before
