-- What belongs to each line that was handled: its part of the journal, and what the top call itself wrote for it.
use Rattle.std.specs.Prelude.{ℕ, Bool, true, false, List, [], ◌∷◌, ◌++◌, ◌≡◌, length}
use Rattle.std.specs.List.{concat, AllByRecursion}
use Rattle.hpx_journal.specs.declared.entry.Entry.{Entry}
use Rattle.hpx_journal.specs.Entries.{Rules}
use Rattle.hpx_journal.specs.Whole.{IsCarried, replayed}
use Rattle.hpx_journal.specs.Pool.{prints_of}
use Rattle.hpx_journal.specs.Sessions.{FeedsNothing, BeginsWith}
use Rattle.hpx_world.specs.declared.audit.AuditLine.{AuditLine}
use Rattle.hpx_world.specs.Audit.{IsAudit, AreOrdered, StandWhereTold}
use Rattle.hpx_world.specs.Quiet.{IsAtRest}
use Rattle.hpx_hold.specs.Home.{StaysHome, WaitsBusy}
use Rattle.hpx_hold.specs.Turns.{MakesTurns}
use Rattle.hpx_own.specs.Texts.{refusal_text, audit_text, counted_text}
use Rattle.hpx_own.specs.declared.lines.Handled.TheVariants.{Fed, Turn, Drain, Audit, Count, Refused}
use Rattle.app_console.specs.Console.{prompt}
use Rattle.app_console.specs.Text.{too_long}
use Rattle.hpx_top.specs.declared.consoles.UserConsole.{UserConsole}
use Rattle.hpx_top.specs.Texts.{How, TooLong, Typed, how, held_by, mark_of}

-- the journal's part of a line, and what the top call itself wrote for it
pub record Part : Type 0 where
  pub entries : List Entry
  pub own : List ℕ

-- the journal grew by entries of which this is so
pub record GrowsBy (Of : List Entry → Type 0) (old new : List Entry) : Type 0 where
  pub more : List Entry
  pub is : new ≡ old ++ more
  pub of : Of more

-- ---- what a line does

-- behind these entries nothing is under way, where each frame that was accepted had been sent
pub record Rests (r : Rules) (es : List Entry) : Type 0 where
  pub rest : IsCarried r [] es → IsAtRest r (replayed r es)

-- one thing in a hold, and another outside
abbrev pub InHold : Bool → Type 0 → Type 0 → Type 0
InHold true within outside = within
InHold false within outside = outside

-- only locality 0 went on, and no frame went or came; where each frame that was accepted had been sent, a line waits there only where the
-- session is busy
pub record IsHeldBack (r : Rules) (before more : List Entry) : Type 0 where
  pub home : StaysHome more
  pub waits : IsCarried r [] (before ++ more) → WaitsBusy (replayed r (before ++ more))

-- nothing was done, and outside a hold nothing is under way
pub record IsNothing (r : Rules) (held : Bool) (before more : List Entry) : Type 0 where
  pub none : more ≡ []
  pub rest : held ≡ false → Rests r before

-- up to n steps were made, as many unless nothing was left to do; from there on only locality 0 went on
pub record IsTurned (r : Rules) (n : ℕ) (before more : List Entry) : Type 0 where
  pub unfed : AllByRecursion (λ e. FeedsNothing e.event) more
  pub made : ℕ
  pub mid : List Entry
  pub turns : MakesTurns r n made before mid
  pub later : List Entry
  pub is : before ++ more ≡ mid ++ later
  pub back : IsHeldBack r mid later

-- all that was held back was done
pub record IsLetGo (r : Rules) (before more : List Entry) : Type 0 where
  pub unfed : AllByRecursion (λ e. FeedsNothing e.event) more
  pub rest : Rests r (before ++ more)

-- What a line does behind the entries before it. A line that is fed does all that follows from it; in a hold only what locality 0
-- does of it. Outside a hold nothing is left for `turn` and `drain` to do.
abbrev pub Does : Rules → List ℕ → Bool → How → List Entry → List Entry → Type 0
Does r text held (Typed Fed) before more = BeginsWith text more × InHold held (IsHeldBack r before more) (Rests r (before ++ more))
Does r text held (Typed (Turn n)) before more = InHold held (IsTurned r n before more) (IsNothing r held before more)
Does r text held (Typed Drain) before more = InHold held (IsLetGo r before more) (IsNothing r held before more)
Does r text held _ before more = IsNothing r held before more

-- ---- what the top call itself writes

-- a line for each object of which credit is out, where each frame that was accepted had been sent; outside a hold it stands where its
-- line says
pub record IsAuditText (r : Rules) (held : Bool) (es : List Entry) (text : List ℕ) : Type 0 where
  pub lines : List AuditLine
  pub tells : IsCarried r [] es → IsAudit r es lines
  pub ordered : AreOrdered lines
  pub stand : held ≡ false → IsCarried r [] es → StandWhereTold r es lines
  pub text_is : text ≡ audit_text lines

-- what is written for a line behind these entries
abbrev pub IsOwn : Rules → Bool → How → List Entry → List ℕ → Type 0
IsOwn r held TooLong es text = text ≡ too_long
IsOwn r held (Typed (Refused why)) es text = text ≡ refusal_text why
IsOwn r held (Typed (Count counter)) es text = text ≡ counted_text counter es
IsOwn r held (Typed Audit) es text = IsAuditText r held es text
IsOwn r held _ es text = text ≡ []

-- ---- line after line

-- the part of a line
pub record IsPart (console : UserConsole) (r : Rules) (held : Bool) (before : List Entry) (line : List ℕ) (part : Part) : Type 0 where
  pub did : Does r (mark_of console ∷ line) held (how console line) before part.entries
  pub own : IsOwn r held (how console line) (before ++ part.entries) part.own

-- each line has its part, one behind the other
abbrev pub AreParts : UserConsole → Rules → Bool → List Entry → List (List ℕ) → List Part → Type 0
AreParts console r held before [] [] = Unit {0}
AreParts console r held before (line ∷ lines) (part ∷ parts) =
    IsPart console r held before line part × AreParts console r (held_by held (how console line)) (before ++ part.entries) lines parts
AreParts console r held before _ _ = ⊥

-- all their entries
abbrev pub journal_of : List Part → List Entry
journal_of [] = []
journal_of (part ∷ parts) = part.entries ++ journal_of parts

-- their text: for each a prompt, what the journal printed, and what was written behind it
abbrev pub text_of : List Part → List ℕ
text_of [] = []
text_of (part ∷ parts) = prompt ++ (concat (prints_of part.entries) ++ (part.own ++ text_of parts))

-- how long the journal is behind each
abbrev pub cuts_of : List Entry → List Part → List ℕ
cuts_of before [] = []
cuts_of before (part ∷ parts) = length (before ++ part.entries) ∷ cuts_of (before ++ part.entries) parts

-- the text of a part, behind its prompt
abbrev pub part_text : Part → List ℕ
part_text part = concat (prints_of part.entries) ++ part.own

-- ---- one line more

-- a line was handled: the journal grew by its part, and its length was noted
pub record IsHandled (console : UserConsole) (r : Rules) (line : List ℕ) (held held' : Bool) (cuts cuts' : List ℕ) (old new : List Entry) : Type 0 where
  pub part : Part
  pub is : new ≡ old ++ part.entries
  pub does : IsPart console r held old line part
  pub mode : held' ≡ held_by held (how console line)
  pub cut : cuts' ≡ cuts ++ length new ∷ []
