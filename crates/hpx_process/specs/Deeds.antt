-- What a desk does: it hands out the lines of a session, and writes what a person reads.
use Rattle.std.specs.Prelude.{ℕ, true, false, Option, IfSome, List, [], ◌∷◌, ◌++◌, ◌≡◌, ◌≢◌, ◌≤◌, ◌+◌, ◌⊎◌, length, map}
use Rattle.std.specs.List.{concat, flat_map, AllByRecursion}
use Rattle.hpx_journal.specs.Pool.{prints_of}
use Rattle.hpx_part.specs.Data.{Entry}
use Rattle.hpx_ports.specs.Told.{followed}
use Rattle.app_console.specs.Console.{prompt}
use Rattle.app_console.specs.Lines.{IsPiece, is_long, is_quit, before_quit, opening}
use Rattle.app_console.specs.Text.{too_long}
use Rattle.hpx_member.specs.Talks.{Talk, Handed, Over, Shown}
use Rattle.hpx_member.specs.declared.lines.LineFault.{LineFault}
use Rattle.hpx_member.specs.declared.lines.LineFault.TheVariants.{Read, Write, OutOfMemory, InputFull}
use Rattle.hpx_top.specs.Reader.{Reading, HasRead, lines_left}
use Rattle.hpx_top.specs.Session.{HandsOut, WritesFront}
use Rattle.hpx_top.specs.Texts.{commands}
use Rattle.hpx_top.specs.declared.consoles.UserConsole.TheVariants.{Accumulator}
use Rattle.hpx_process.specs.declared.sheet.Sheet.{Sheet}
use Rattle.hpx_process.specs.declared.sheet.Sheet.TheVariants.{Blank, Open, Full}

-- ---- what was done

-- The commands were written, and the line was handed out by which the accumulator is made. A line was typed and handed out, or the lines were over,
-- behind some that are too long. There was nothing more to be handed out. Or entries were shown.
pub data Deed : Type 0 where
  Opens : Deed
  Takes : (longs : List (List ℕ)) (line : List ℕ) → Deed
  Ends : (longs : List (List ℕ)) → Deed
  Rests : Deed
  Shows : (entries : List Entry) → Deed

-- what is said by it: a typed line is handed out behind an `a`
abbrev pub talk_by : Deed → Talk
talk_by Opens = Handed opening
talk_by (Takes longs line) = Handed (97 ∷ line)
talk_by (Ends longs) = Over
talk_by Rests = Over
talk_by (Shows entries) = Shown entries

-- a prompt and an error for each line that is too long
abbrev pub longs_text : List (List ℕ) → List ℕ
longs_text longs = flat_map (λ line. prompt ++ too_long) longs

-- what is written by it
abbrev pub text_by : Deed → List ℕ
text_by Opens = commands Accumulator
text_by (Takes longs line) = longs_text longs ++ prompt
text_by (Ends longs) = longs_text longs ++ prompt
text_by Rests = []
text_by (Shows entries) = concat (prints_of entries)

-- the lines that were typed then
abbrev pub lines_by : Deed → List (List ℕ)
lines_by (Takes longs line) = longs ++ line ∷ []
lines_by (Ends longs) = longs
lines_by _ = []

abbrev pub AreLong : List (List ℕ) → Type 0
AreLong longs = AllByRecursion (λ line. is_long line ≡ true) longs

-- it is done on this sheet, and leaves that
abbrev pub Turns : Sheet → Deed → Sheet → Type 0
Turns sheet (Shows entries) next = next ≡ sheet
Turns Blank Opens next = next ≡ Open
Turns Open (Takes longs line) next = AreLong longs × (is_long line ≡ false) × (next ≡ Open)
Turns Open (Ends longs) next = AreLong longs × (next ≡ Full)
Turns Full Rests next = next ≡ Full
Turns _ _ next = ⊥

-- one after the other
abbrev pub TurnsAll : Sheet → List Deed → Sheet → Type 0
TurnsAll sheet [] next = next ≡ sheet
TurnsAll sheet (deed ∷ deeds) next = (mid : Sheet) × Turns sheet deed mid × TurnsAll mid deeds next

-- ---- before and after

-- a sheet, what was read, what is left to be read, how many bytes were taken of it, and what was written
pub record Sitting : Type 0 where
  pub sheet : Sheet
  pub reading : Reading
  pub left : Option (List ℕ)
  pub taken : ℕ
  pub text : Option (List ℕ)

abbrev pub sitting : Sheet → Reading → Option (List ℕ) → ℕ → Option (List ℕ) → Sitting
sitting sheet reading left taken text = record { sheet = sheet; reading = reading; left = left; taken = taken; text = text }

-- the lines that are left
abbrev pub lines_at : Sitting → Option (List (List ℕ))
lines_at x = lines_left x.reading x.left

-- what was read are the next bytes, they were counted, and they are no more than may be read
pub record Reads (x z : Sitting) : Type 0 where
  pub next : (all : Option (List ℕ)) → HasRead all x.reading x.left → HasRead all z.reading z.left
  pub counted : z.reading.read + x.taken ≡ x.reading.read + z.taken
  pub limit : x.reading.read ≤ 67108864 → z.reading.read ≤ 67108864

-- behind the lines that were typed so many are left, or on a full sheet none before a `quit`
abbrev pub AreLeft : Sheet → Option (List (List ℕ)) → Option (List (List ℕ)) → Type 0
AreLeft Full others left = IfSome others (λ lines. before_quit lines ≡ [])
AreLeft _ others left = others ≡ left

-- the next line is a `quit`
abbrev pub IsQuitNext : List (List ℕ) → Type 0
IsQuitNext [] = ⊥
IsQuitNext (line ∷ lines) = is_quit line ≡ true

-- the lines are over: the next of those that are left is a `quit`, or a read has met the end
abbrev pub AreOver : Option (List (List ℕ)) → Reading → Type 0
AreOver others reading = IfSome others IsQuitNext ⊎ (reading.ended ≡ true)

-- one deed was done
pub record Does (deed : Deed) (x z : Sitting) : Type 0 where
  pub turns : Turns x.sheet deed z.sheet
  pub text : z.text ≡ followed x.text (text_by deed)
  pub others : Option (List (List ℕ))
  pub typed : x.sheet ≢ Full → HandsOut (lines_at x) others (lines_by deed)
  pub left : x.sheet ≢ Full → AreLeft z.sheet others (lines_at z)
  pub over : x.sheet ≢ Full → z.sheet ≡ Full → AreOver others z.reading
  pub still : x.sheet ≡ Full → z.reading ≡ x.reading
  pub reads : Reads x z

-- these deeds were done, and this was said by them
pub record HasTalked (x z : Sitting) (talk : List Talk) : Type 0 where
  pub deeds : List Deed
  pub said : talk ≡ map talk_by deeds
  pub turns : TurnsAll x.sheet deeds z.sheet
  pub text : z.text ≡ followed x.text (flat_map text_by deeds)
  pub others : Option (List (List ℕ))
  pub typed : HandsOut (lines_at x) others (flat_map lines_by deeds)
  pub left : AreLeft z.sheet others (lines_at z)
  pub over : z.sheet ≡ Full → AreOver others z.reading
  pub reads : Reads x z

-- ---- what was broken off

-- A deed that a fault broke off: the first text was to be written; or lines were typed that are too long, and another one may have been lost; or
-- entries were to be shown.
pub data Broken : Type 0 where
  Opening : Broken
  Asking : (longs lost : List (List ℕ)) → Broken
  Showing : (entries : List Entry) → Broken

-- what was to be said
abbrev pub tried_by : Broken → List Talk
tried_by (Showing entries) = Shown entries ∷ []
tried_by _ = []

-- what was to be written
abbrev pub broken_text : Broken → List ℕ
broken_text Opening = commands Accumulator
broken_text (Asking longs lost) = longs_text longs ++ prompt
broken_text (Showing entries) = concat (prints_of entries)

-- the lines that were typed
abbrev pub broken_lines : Broken → List (List ℕ)
broken_lines (Asking longs lost) = longs ++ lost
broken_lines _ = []

-- a line is lost for want of memory alone
abbrev pub MayLose : LineFault → List (List ℕ) → Type 0
MayLose OutOfMemory lost = length lost ≤ 1
MayLose _ lost = lost ≡ []

-- this fault breaks it off on this sheet
abbrev pub Breaks : LineFault → Sheet → Broken → Type 0
Breaks fault sheet (Showing entries) = fault ≡ Write
Breaks fault Blank Opening = (fault ≡ Write) ⊎ (fault ≡ OutOfMemory)
Breaks fault Open (Asking longs lost) = AreLong longs × MayLose fault lost
Breaks _ _ _ = ⊥

-- a text was written; a fault of writing leaves a front of it
abbrev pub Wrote : LineFault → List ℕ → Option (List ℕ) → Option (List ℕ) → Type 0
Wrote Write bytes before now = WritesFront bytes before now
Wrote _ bytes before now = now ≡ followed before bytes

-- where no line could be read, or no more may be, no whole line that was read is left
abbrev pub LosesNone : LineFault → Reading → Type 0
LosesNone fault reading = (fault ≡ Read) ⊎ (fault ≡ InputFull) → IsPiece reading.pending

-- one deed was broken off
pub record Fails (fault : LineFault) (broken : Broken) (x z : Sitting) : Type 0 where
  pub sheet : z.sheet ≡ x.sheet
  pub breaks : Breaks fault x.sheet broken
  pub text : Wrote fault (broken_text broken) x.text z.text
  pub typed : x.sheet ≢ Full → HandsOut (lines_at x) (lines_at z) (broken_lines broken)
  pub loses : LosesNone fault z.reading
  pub reads : Reads x z

-- behind these deeds, by which this was said, another was broken off, by which that was to be said
pub record HasBroken (x z : Sitting) (fault : LineFault) (talk tried : List Talk) : Type 0 where
  pub deeds : List Deed
  pub said : talk ≡ map talk_by deeds
  pub turns : TurnsAll x.sheet deeds z.sheet
  pub broken : Broken
  pub tried_is : tried ≡ tried_by broken
  pub breaks : Breaks fault z.sheet broken
  pub text : Wrote fault (broken_text broken) (followed x.text (flat_map text_by deeds)) z.text
  pub others : Option (List (List ℕ))
  pub typed : HandsOut (lines_at x) others (flat_map lines_by deeds ++ broken_lines broken)
  pub left : AreLeft z.sheet others (lines_at z)
  pub loses : LosesNone fault z.reading
  pub reads : Reads x z
