-- The lines of an input, and the texts that are printed for them.
use Rattle.std.specs.Prelude.{ℕ, Bool, false, nat_lt, List, [], ◌∷◌, ◌++◌, ◌≡◌, ◌==◌, ◌&&◌, not, length, codes, if◌then◌else◌}
use Rattle.std.specs.List.{slice_split, concat, list_any}
use Rattle.std.specs.Str.{bytes_eq}
use Rattle.std.specs.Str.Lines.{strip_carriage_return}
use Rattle.app_console.specs.Console.{is_filled, words_of}

-- ---- lines

-- more than 1,024 bytes
abbrev pub is_long : List ℕ → Bool
is_long line = nat_lt 1024 (length line)

-- the one word `quit`
abbrev pub are_quit : List (List ℕ) → Bool
are_quit (word ∷ []) = bytes_eq word (codes "quit")
are_quit _ = false

-- the line ends reading: its only word is `quit`
abbrev pub is_quit : List ℕ → Bool
is_quit line = not (is_long line) && are_quit (words_of line)

-- the byte 10
abbrev pub is_newline : ℕ → Bool
is_newline b = b == 10

-- the lines in the pieces between newlines: a last empty piece is none, and a carriage return at the end is dropped
abbrev pub lines_in : List (List ℕ) → List (List ℕ)
lines_in [] = []
lines_in (piece ∷ []) = if is_filled piece then strip_carriage_return piece ∷ [] else []
lines_in (piece ∷ next ∷ pieces) = strip_carriage_return piece ∷ lines_in (next ∷ pieces)

-- no newline is among the bytes
abbrev pub IsPiece : List ℕ → Type 0
IsPiece bytes = list_any is_newline bytes ≡ false

-- the first line of an input, and what comes after its newline
pub record IsFirstLine (input line rest : List ℕ) : Type 0 where
  pub piece : List ℕ
  pub whole : IsPiece piece
  pub is : input ≡ piece ++ 10 ∷ rest
  pub line_is : line ≡ strip_carriage_return piece

-- the lines before the first `quit`
abbrev pub before_quit : List (List ℕ) → List (List ℕ)
before_quit [] = []
before_quit (line ∷ lines) = if is_quit line then [] else line ∷ before_quit lines

-- the lines of an input, up to its end or to `quit`
abbrev pub lines_of : List ℕ → List (List ℕ)
lines_of input = before_quit (lines_in (slice_split is_newline input))

-- whether one of the lines is `quit`
abbrev pub quits : List ℕ → Bool
quits input = list_any is_quit (lines_in (slice_split is_newline input))

-- the line by which the accumulator's console has it made: `open`, after the mark `o`
abbrev pub opening : List ℕ
opening = 111 ∷ codes "open"

-- ---- what is written

-- the first of the texts printed, and the others
abbrev pub first_of : List (List (List ℕ)) → List ℕ
first_of [] = []
first_of (text ∷ texts) = concat text

-- the texts behind the first
abbrev pub others_of : List (List (List ℕ)) → List (List (List ℕ))
others_of [] = []
others_of (text ∷ texts) = texts

-- the front of a text
pub record IsFront (front whole : List ℕ) : Type 0 where
  pub later : List ℕ
  pub is : front ++ later ≡ whole
