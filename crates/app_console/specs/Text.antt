-- What a console writes: for each line a prompt, and what it prints.
use Rattle.std.specs.Prelude.{ℕ, List, [], ◌∷◌, ◌++◌, ◌≡◌, codes, if◌then◌else◌}
use Rattle.app_console.specs.Console.{prompt}
use Rattle.app_console.specs.Lines.{is_long, first_of, others_of}
use Rattle.app_console.specs.Types.{Console, Space, AccumulatorConsole, Own}
use Rattle.app_console.specs.Plain.{Plain, line_end}

-- a line that is not fed is too long
abbrev pub too_long : List ℕ
too_long = codes "error: line too long\n"

-- what is left after a line, and what it prints
abbrev pub after_line : Console → ℕ → Plain → List ℕ → Plain
after_line c n v line = if is_long line then v else (line_end c n v line).plain

abbrev pub text_of_line : Console → ℕ → Plain → List ℕ → List ℕ
text_of_line c n v line = if is_long line then too_long else (line_end c n v line).text

abbrev pub lines_text : Console → ℕ → Plain → List (List ℕ) → List ℕ
lines_text c n v [] = []
lines_text c n v (line ∷ lines) = prompt ++ (text_of_line c n v line ++ lines_text c n (after_line c n v line) lines)

-- the lines that are fed, each after a mark
abbrev pub marked : ℕ → List (List ℕ) → List (List ℕ)
marked mark [] = []
marked mark (line ∷ lines) = if is_long line then marked mark lines else (mark ∷ line) ∷ marked mark lines

-- for each line a prompt, and then what was printed for it, where the texts belong to the lines that were fed
abbrev pub written : List (List ℕ) → List (List (List ℕ)) → List ℕ
written [] texts = []
written (line ∷ lines) texts =
    if is_long line then prompt ++ (too_long ++ written lines texts)
    else prompt ++ (first_of texts ++ written lines (others_of texts))

-- a console whose lines a user feeds, and its mark
abbrev pub IsUsers : Console → ℕ → Type 0
IsUsers Space mark = mark ≡ 115
IsUsers AccumulatorConsole mark = mark ≡ 97
IsUsers Own mark = ⊥
