-- A reader of lines: what it holds, what is left of its input, and what each of its answers says.
use Rattle.std.specs.Prelude.{ℕ, zero, suc, Bool, true, false, Option, Some, Result, Ok, Err, IfSome, List, [], ◌∷◌, ◌++◌, ◌≡◌, ◌==◌, ◌&&◌, not, ◌+◌, ◌-◌, ◌^◌, ◌<◌, ◌⊎◌, length, take, if◌then◌else◌}
use Rattle.std.specs.Option.{option_map}
use Rattle.std.specs.List.{slice_split, list_any}
use Rattle.std.specs.Str.Lines.{strip_carriage_return}
use Rattle.hpx_ports.specs.Told.{preceded}
use Rattle.hpx_top.specs.declared.reader.Next.{Next}
use Rattle.hpx_top.specs.declared.reader.Next.TheVariants.{Line, Long, Quit, End, Full}
use Rattle.hpx_top.specs.declared.reader.ReadFault.{ReadFault}
use Rattle.hpx_top.specs.declared.reader.ReadFault.TheVariants.{OutOfMemory}
use Rattle.hpx_top.specs.declared.reader.Found.{Found}
use Rattle.hpx_top.specs.declared.reader.Found.TheVariants.{Newline, Last, Over, AtLimit}
use Rattle.app_console.specs.Lines.{is_long, is_quit, is_newline, IsPiece, lines_in}
use Rattle.hpx_top.specs.Pending.{IsNewlineAt}

-- bytes that were read and not yet handed out, how many were read in all, and whether a read has met the end
pub record Reading : Type 0 where
  pub pending : List ℕ
  pub read : ℕ
  pub ended : Bool

-- what of a source's bytes is still to be read: none of them once a read has met the end
abbrev pub still_left : Bool → Option (List ℕ) → Option (List ℕ)
still_left ended left = if ended then option_map (λ _. []) left else left

-- the bytes that are not yet handed out, where the source tells what it has left
abbrev pub input_left : Reading → Option (List ℕ) → Option (List ℕ)
input_left reading left = preceded reading.pending (still_left reading.ended left)

-- the lines in them
abbrev pub lines_left : Reading → Option (List ℕ) → Option (List (List ℕ))
lines_left reading left = option_map (λ input. lines_in (slice_split is_newline input)) (input_left reading left)

-- the first of the lines that were left was this one; the others still are
pub record TakesLine (line : List ℕ) (old new : Option (List (List ℕ))) : Type 0 where
  pub first : old ≡ preceded (line ∷ []) new
  pub fits : is_long line ≡ false
  pub goes_on : is_quit line ≡ false

-- the first of the lines that were left was too long; the others still are
pub record TakesLong (old new : Option (List (List ℕ))) : Type 0 where
  pub line : List ℕ
  pub first : old ≡ preceded (line ∷ []) new
  pub long : is_long line ≡ true

-- the first of the lines that were left was a `quit`; the others still are
pub record TakesQuit (old new : Option (List (List ℕ))) : Type 0 where
  pub line : List ℕ
  pub first : old ≡ preceded (line ∷ []) new
  pub quit : is_quit line ≡ true

-- a read has met the end, nothing is pending, and nothing was left
pub record IsAtEnd (new : Reading) (input : Option (List ℕ)) (lines : Option (List (List ℕ))) : Type 0 where
  pub ended : new.ended ≡ true
  pub nothing_pending : new.pending ≡ []
  pub no_bytes : IfSome input (λ bytes. bytes ≡ [])
  pub no_lines : IfSome lines (λ lines. lines ≡ [])

-- all that may be read was read, no read has met the end, and no whole line is pending
pub record IsFull (reading : Reading) : Type 0 where
  pub read : reading.read ≡ 67108864
  pub goes_on : reading.ended ≡ false
  pub no_line : IsPiece reading.pending

-- a source is read: no whole line is pending, no read has met the end, and more may be read
abbrev pub wants_more : Reading → Bool
wants_more reading = not (list_any is_newline reading.pending) && (not reading.ended && not (reading.read == 67108864))

-- the bytes that are pending, n of them, are the last ones, and hold no newline
pub record IsLast (reading : Reading) (n : ℕ) : Type 0 where
  pub ended : reading.ended ≡ true
  pub count : length reading.pending ≡ n
  pub some : 0 < n
  pub no_line : IsPiece reading.pending

-- what an answer says of the reader, and of the source's bytes, before and after
abbrev pub Answers : Next → Reading → Reading → Option (List ℕ) → Option (List ℕ) → Type 0
Answers (Line line) old new left later = TakesLine line (lines_left old left) (lines_left new later)
Answers Long old new left later = TakesLong (lines_left old left) (lines_left new later)
Answers Quit old new left later = TakesQuit (lines_left old left) (lines_left new later)
Answers End old new left later = IsAtEnd new (input_left old left) (lines_left old left) × (input_left new later ≡ input_left old left)
Answers Full old new left later = IsFull new × (input_left new later ≡ input_left old left)

-- the bytes behind the first newline, none without one
abbrev pub behind_line : List ℕ → List ℕ
behind_line [] = []
behind_line (b ∷ bytes) = if is_newline b then bytes else behind_line bytes

-- behind so many
abbrev pub behind : ℕ → List ℕ → List ℕ
behind zero bytes = bytes
behind (suc n) bytes = behind_line (behind n bytes)

-- a line that is handed out leaves what is behind the first newline
abbrev pub LeavesBehind : Next → Option (List ℕ) → Option (List ℕ) → Type 0
LeavesBehind (Line line) old new = new ≡ option_map behind_line old
LeavesBehind Long old new = new ≡ option_map behind_line old
LeavesBehind _ old new = Unit {0}

-- all that may be read was read, no read has met the end, and what was left before a call has no newline in what was read of it
pub record IsOut (reading : Reading) (input left : Option (List ℕ)) : Type 0 where
  pub read : reading.read ≡ 67108864
  pub goes_on : reading.ended ≡ false
  pub piece : List ℕ
  pub rest : List ℕ
  pub input_is : input ≡ Some (piece ++ rest)
  pub left_is : left ≡ Some rest
  pub no_line : IsPiece piece

-- what is not answered then: a line, or that memory is wanting
abbrev pub IsNoLine : Result Next ReadFault → Type 0
IsNoLine (Ok (Line line)) = ⊥
IsNoLine (Ok Long) = ⊥
IsNoLine (Err OutOfMemory) = ⊥
IsNoLine _ = Unit {0}

-- a line is pending that is handed out: it is not too long, and no `quit`
pub record IsLineNext (reading : Reading) : Type 0 where
  pub n : ℕ
  pub found : IsNewlineAt reading.pending n ⊎ IsLast reading n
  pub fits : is_long (strip_carriage_return (take n reading.pending)) ≡ false
  pub goes_on : is_quit (strip_carriage_return (take n reading.pending)) ≡ false

-- memory is wanted: for bytes that are to be read, or for a line that is to be handed out
abbrev pub WantsMemory : Reading → Type 0
WantsMemory reading = (wants_more reading ≡ true) ⊎ IsLineNext reading

-- how many bytes may still be handed out or read
abbrev pub bytes_left : Reading → ℕ
bytes_left reading = (67108864 - reading.read) + length reading.pending

-- a line that is handed out leaves fewer
abbrev pub LeavesFewer : Next → Reading → Reading → Type 0
LeavesFewer (Line line) old new = bytes_left new < bytes_left old
LeavesFewer Long old new = bytes_left new < bytes_left old
LeavesFewer _ old new = Unit {0}

-- what a reader read are the first of a source's bytes, and where it has met the end, all of them
pub record HasRead (all : Option (List ℕ)) (reading : Reading) (left : Option (List ℕ)) : Type 0 where
  pub front : List ℕ
  pub count : length front ≡ reading.read
  pub next : all ≡ preceded front left
  pub at_end : reading.ended ≡ true → IfSome left (λ bytes. bytes ≡ [])
  pub below : reading.ended ≡ true → reading.read < 67108864

-- ---- within a call

-- how many reads may come at most
abbrev pub reads_left : Reading → ℕ
reads_left reading = (67108864 - reading.read) + (if reading.ended then 0 else 1)

-- what was found among the bytes that are pending
abbrev pub IsFound : Found → Reading → Type 0
IsFound (Newline n) reading = IsNewlineAt reading.pending n × (n < 2 ^ 63)
IsFound (Last n) reading = IsLast reading n
IsFound Over reading = (reading.ended ≡ true) × (reading.pending ≡ [])
IsFound AtLimit reading = IsFull reading

-- how a line is handed out
abbrev pub next_of : List ℕ → Next
next_of line = if is_long line then Long else if is_quit line then Quit else Line line

-- what is found where no newline and no more bytes are
abbrev pub last_of : ℕ → Found
last_of n = if n == 0 then Over else Last n
