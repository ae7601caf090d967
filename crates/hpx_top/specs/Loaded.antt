-- What a run of `load` has done where it ends: the lines of its session were fed, and what they came to is one line.
use Rattle.std.specs.Prelude.{ℕ, ℤ, pos, negsuc, Option, List, [], ◌∷◌, ◌++◌, ◌≡◌, ◌≢◌, ◌≤◌, ◌+◌, ◌-◌, ◌*◌, ◌+ℤ◌, ◌≤ℤ◌, map, take, drop, length, nat_lt, if◌then◌else◌}
use Rattle.std.specs.List.{concat}
use Rattle.hpx_journal.specs.declared.entry.Entry.{Entry}
use Rattle.hpx_journal.specs.Entries.{Rules}
use Rattle.hpx_journal.specs.Sessions.{BeginsWith, IsSession, entries_of, shown}
use Rattle.hpx_journal.specs.Whole.{IsCarried}
use Rattle.hpx_ports.specs.Told.{followed}
use Rattle.hpx_world.specs.Audit.{AreOrdered, IsAudit}
use Rattle.hpx_world.specs.declared.audit.AuditLine.{AuditLine}
use Rattle.app_console.specs.Console.{number_of}
use Rattle.app_console.specs.Text.{marked}
use Rattle.app_load.specs.Load.{errors_in, is_error, number_or_0, session_lines, sum_in, summary_of, texts_asked, texts_made}
use Rattle.hpx_top.specs.declared.session.SessionFault.{SessionFault}
use Rattle.hpx_top.specs.declared.session.SessionFault.TheVariants.{Read, Write, InputFull}
use Rattle.hpx_top.specs.declared.load.Tally.{Tally}
use Rattle.hpx_top.specs.declared.task.Workload.{Workload}
use Rattle.hpx_top.specs.Session.{lines_fed, WritesFront}

-- ---- what is counted

-- the number that a text tells before its newline, 0 where it tells none
abbrev pub number_told : List ℕ → ℤ
number_told text = number_or_0 (number_of (take (length text - 1) text))

-- What was counted so far, and what one more line printed: the first eight count for nothing, of so many behind them the errors are
-- counted, and behind those the numbers are added.
abbrev pub counted : ℕ → Tally → List ℕ → Tally
counted lines t text =
    if nat_lt t.fed 8 then record { fed = t.fed + 1; errors = t.errors; sum = t.sum }
    else if nat_lt t.fed (8 + lines) then record { fed = t.fed + 1; errors = t.errors + (if is_error text then 1 else 0); sum = t.sum }
    else record { fed = t.fed + 1; errors = t.errors; sum = t.sum +ℤ number_told text }

-- ---- what a session comes to

-- all lines of the session, as they are fed at the localities of these rules
abbrev pub load_fed : Rules → Workload → List (List ℕ)
load_fed r load = marked 115 (session_lines load.start load.lines r.localities)

-- what the lines behind the first eight printed, and what the queries printed
abbrev pub made_in : ℕ → List (List Entry) → List (List ℕ)
made_in lines blocks = take lines (drop 8 (map concat (shown blocks)))

abbrev pub asked_in : ℕ → List (List Entry) → List (List ℕ)
asked_in lines blocks = drop (8 + lines) (map concat (shown blocks))

-- so many objects have credit that is out: where each frame that was accepted had been sent, an audit has one line for each
pub record AreLive (r : Rules) (entries : List Entry) (live : ℕ) : Type 0 where
  pub lines : List AuditLine
  pub audit : IsCarried r [] entries → IsAudit r entries lines
  pub ordered : AreOrdered lines
  pub many : live ≡ length lines

-- these lines were fed, each at the head of its block
abbrev pub AreFed : List (List ℕ) → List (List Entry) → Type 0
AreFed [] [] = Unit {0}
AreFed (line ∷ lines) (es ∷ blocks) = BeginsWith line es × AreFed lines blocks
AreFed _ _ = ⊥

-- all lines were fed, and the journal has no more; what they print comes to this text; where each frame that was accepted had been sent,
-- each line was fed once nothing was under way
pub record IsSummed (r : Rules) (load : Workload) (entries : List Entry) (text : List ℕ) : Type 0 where
  pub blocks : List (List Entry)
  pub begin : AreFed (load_fed r load) blocks
  pub session : IsCarried r [] entries → IsSession r [] (load_fed r load) blocks
  pub entries_are : entries ≡ entries_of blocks
  pub live : ℕ
  pub objects : AreLive r entries live
  pub text_is : text ≡ summary_of load.lines (errors_in (made_in load.lines blocks)) live (sum_in (asked_in load.lines blocks))

-- the text tells the errors and the sum that one plain space says
pub record IsSummedPlainly (r : Rules) (load : Workload) (entries : List Entry) (text : List ℕ) : Type 0 where
  pub live : ℕ
  pub objects : AreLive r entries live
  pub text_is : text ≡ summary_of load.lines (errors_in (texts_made load.start load.lines r.localities)) live (sum_in (texts_asked load.start load.lines r.localities))

-- ---- how far it has come

-- each error is of a line, and the sum is of as many numbers of 64 bits at most
pub record IsBounded (t : Tally) : Type 0 where
  pub fed : t.fed ≤ 4000000000
  pub errors : t.errors ≤ t.fed
  pub least : negsuc (9223372036854775808 * t.fed) ≤ℤ t.sum
  pub most : t.sum ≤ℤ pos (9223372036854775808 * t.fed)

-- what was counted of lines that printed these texts
pub record IsCounted (lines : ℕ) (texts : List (List ℕ)) (t : Tally) : Type 0 where
  pub fed : t.fed ≡ length texts
  pub errors : t.errors ≡ errors_in (take lines (drop 8 texts))
  pub sum : t.sum ≡ sum_in (drop (8 + lines) texts)

-- between two lines: those before were fed and counted, and the others are left; where each frame that was accepted had been sent, each was
-- fed once nothing was under way
pub record IsLoading (r : Rules) (load : Workload) (left : List (List ℕ)) (entries : List Entry) (t : Tally) : Type 0 where
  pub before : List (List ℕ)
  pub lines_are : session_lines load.start load.lines r.localities ≡ before ++ left
  pub blocks : List (List Entry)
  pub begin : AreFed (marked 115 before) blocks
  pub session : IsCarried r [] entries → IsSession r [] (marked 115 before) blocks
  pub entries_are : entries ≡ entries_of blocks
  pub many : length (map concat (shown blocks)) ≡ length before
  pub counts : IsCounted load.lines (map concat (shown blocks)) t
  pub bounded : IsBounded t

-- ---- where a run ends

-- the first of the lines were fed, and no other
abbrev pub FeedsFirst : Rules → Workload → List Entry → Type 0
FeedsFirst r load entries = (later : List (List ℕ)) × (lines_fed entries ++ later ≡ load_fed r load)

-- a text that tells so was written
abbrev pub WritesSo : (List ℕ → Type 0) → Option (List ℕ) → Option (List ℕ) → Type 0
WritesSo Tells old new = (text : List ℕ) × Tells text × (new ≡ followed old text)

-- or a front of it
abbrev pub WritesSoUpTo : (List ℕ → Type 0) → Option (List ℕ) → Option (List ℕ) → Type 0
WritesSoUpTo Tells old new = (text : List ℕ) × Tells text × WritesFront text old new

-- how it was broken off: all was done and the write failed, or nothing was written
abbrev pub IsUnloaded : SessionFault → Rules → Workload → List Entry → Option (List ℕ) → Option (List ℕ) → Type 0
IsUnloaded Write r load entries old new = WritesSoUpTo (IsSummed r load entries) old new
IsUnloaded Read r load entries old new = ⊥
IsUnloaded InputFull r load entries old new = ⊥
IsUnloaded _ r load entries old new = new ≡ old

-- Wherever a run ends: the first of the lines are all that was fed. At status 0 a text that tells so was written, at status 3 a front
-- of it, and else nothing.
pub record HasLoaded (r : Rules) (load : Workload) (Tells : List ℕ → Type 0) (status : ℕ) (entries : List Entry) (old new : Option (List ℕ)) : Type 0 where
  pub fed : FeedsFirst r load entries
  pub whole : status ≡ 0 → (lines_fed entries ≡ load_fed r load) × WritesSo Tells old new
  pub front : status ≡ 3 → (lines_fed entries ≡ load_fed r load) × WritesSoUpTo Tells old new
  pub nothing : status ≢ 0 → status ≢ 3 → new ≡ old
