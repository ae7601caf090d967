-- The lines of the top call, and what they ask for.
use Rattle.std.specs.Prelude.{ℕ, Bool, nat_le, List, [], ◌∷◌, ◌++◌, ◌+◌, ◌*◌, ◌-◌, ◌==◌, ◌&&◌, Option, Some, None, codes, if◌then◌else◌}
use Rattle.std.specs.List.{slice_split}
use Rattle.std.specs.Str.{bytes_eq}
use Rattle.std.specs.Fmt.{decimal}
use Rattle.app_compute.specs.declared.line.Question.{Question}

-- `fib N T`: the Fibonacci number of N, by the threshold T
abbrev pub fib_line : ℕ → ℕ → List ℕ
fib_line n t = codes "fib " ++ (decimal n ++ (codes " " ++ decimal t))

-- a space
abbrev pub is_space : ℕ → Bool
is_space b = b == 32

-- a byte that is a digit
abbrev pub is_digit : ℕ → Bool
is_digit b = nat_le 48 b && nat_le b 57

-- a number that goes on with these digits, as long as it is no greater than the bound
abbrev pub number_from : ℕ → ℕ → List ℕ → Option ℕ
number_from most value [] = Some value
number_from most value (b ∷ bs) =
    if is_digit b && nat_le (value * 10 + (b - 48)) most then number_from most (value * 10 + (b - 48)) bs else None

-- digits that are a number up to a bound
abbrev pub number_in : ℕ → List ℕ → Option ℕ
number_in most [] = None
number_in most (b ∷ bs) = number_from most 0 (b ∷ bs)

-- a number up to 92 by a threshold from 2 to 92
abbrev pub question_by : Option ℕ → Option ℕ → Option Question
question_by (Some n) (Some t) = if nat_le 2 t then Some (record { number = n; threshold = t }) else None
question_by _ _ = None

-- the word `fib` and two numbers
abbrev pub question_in : List (List ℕ) → Option Question
question_in (word ∷ n ∷ t ∷ []) = if bytes_eq word (codes "fib") then question_by (number_in 92 n) (number_in 92 t) else None
question_in _ = None

-- what a line asks for
abbrev pub question_of : List ℕ → Option Question
question_of line = question_in (slice_split is_space line)
