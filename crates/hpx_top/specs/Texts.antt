-- What a console says at n localities, how its lines are handled, and which of them it is fed.
use Rattle.std.specs.Prelude.{ℕ, Bool, true, false, List, [], ◌∷◌, ◌++◌, if◌then◌else◌}
use Rattle.app_console.specs.declared.table.Console.{Console}
use Rattle.app_console.specs.declared.table.Console.TheVariants as Tables
use Rattle.app_console.specs.Commands.{help_of}
use Rattle.app_console.specs.Console.{prompt}
use Rattle.app_console.specs.Lines.{is_long, opening}
use Rattle.app_console.specs.Plain.{Plain, at_boot, line_end, opened}
use Rattle.app_console.specs.Text.{too_long}
use Rattle.hpx_own.specs.Lines.{handled_as}
use Rattle.hpx_own.specs.declared.lines.Handled.{Handled}
use Rattle.hpx_own.specs.declared.lines.Handled.TheVariants.{Fed, Hold, Drain}
use Rattle.hpx_top.specs.declared.consoles.UserConsole.{UserConsole}
use Rattle.hpx_top.specs.declared.consoles.UserConsole.TheVariants.{Accumulator, Space}

-- the commands of a console
abbrev pub table_of : UserConsole → Console
table_of Accumulator = Tables.Accumulator
table_of Space = Tables.Space

-- what stands before each of its lines where it is fed: `a` and `s`
abbrev pub mark_of : UserConsole → ℕ
mark_of Accumulator = 97
mark_of Space = 115

-- the lines of its own that are fed before those of the user
abbrev pub opens : UserConsole → List (List ℕ)
opens Accumulator = opening ∷ []
opens Space = []

-- the plain space behind them
abbrev pub start_of : UserConsole → ℕ → Plain
start_of Accumulator n = opened n
start_of Space n = at_boot n

-- the text before the first prompt
abbrev pub commands : UserConsole → List ℕ
commands console = help_of (table_of console)

-- ---- how a line is handled

-- whether a console has lines that are not fed: `hold`, `turn`, `drain`, `audit` and `counter`
abbrev pub owns : UserConsole → Bool
owns Accumulator = false
owns Space = true

-- a line is too long, or is handled as it is typed
pub data How : Type 0 where
  TooLong : How
  Typed : (line : Handled) → How

-- how a line is handled
abbrev pub how : UserConsole → List ℕ → How
how console line = if is_long line then TooLong else Typed (handled_as (owns console) line)

-- it is fed
abbrev pub is_fed : How → Bool
is_fed (Typed Fed) = true
is_fed _ = false

-- what it does or prints no plain space tells: it is a `hold`, a `turn`, an `audit` or a `counter`
abbrev pub is_own : How → Bool
is_own TooLong = false
is_own (Typed Fed) = false
is_own (Typed Drain) = false
is_own _ = true

-- ---- what one plain space says

-- for a line, by how it is handled: what it prints where it is fed; for a `drain` nothing, as nothing is held back
abbrev pub said_for : How → Console → ℕ → Plain → List ℕ → List ℕ
said_for TooLong table n space line = too_long
said_for (Typed Fed) table n space line = (line_end table n space line).text
said_for _ table n space line = []

-- what is left of it: only a line that is fed changes it
abbrev pub left_by : How → Console → ℕ → Plain → List ℕ → Plain
left_by (Typed Fed) table n space line = (line_end table n space line).plain
left_by _ table n space line = space

-- for lines: for each a prompt, and what is said for it
abbrev pub said : UserConsole → ℕ → Plain → List (List ℕ) → List ℕ
said console n space [] = []
said console n space (line ∷ lines) =
    prompt ++ (said_for (how console line) (table_of console) n space line ++ said console n (left_by (how console line) (table_of console) n space line) lines)

-- where it begins as the console's does
abbrev pub lines_text : UserConsole → ℕ → List (List ℕ) → List ℕ
lines_text console n lines = said console n (start_of console n) lines

-- ---- line after line

-- whether delivery is held back behind it, by whether it was before
abbrev pub held_by : Bool → How → Bool
held_by held (Typed Hold) = true
held_by held (Typed Drain) = false
held_by held _ = held

-- and behind lines
abbrev pub held_behind : UserConsole → Bool → List (List ℕ) → Bool
held_behind console held [] = held
held_behind console held (line ∷ lines) = held_behind console (held_by held (how console line)) lines

-- the lines of the user that are fed, each after the console's mark
abbrev pub fed_lines : UserConsole → List (List ℕ) → List (List ℕ)
fed_lines console [] = []
fed_lines console (line ∷ lines) = if is_fed (how console line) then (mark_of console ∷ line) ∷ fed_lines console lines else fed_lines console lines

-- all lines that are fed: the console's own, and those of the user
abbrev pub fed : UserConsole → List (List ℕ) → List (List ℕ)
fed console lines = opens console ++ fed_lines console lines
