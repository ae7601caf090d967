-- The line of `fib`, and its text.
use Rattle.std.specs.Prelude.{ℕ, pos, List, ◌∷◌, ◌++◌, ◌≡◌, ◌≤◌}
use Rattle.app_compute.specs.Numbers.{fibonacci}
use Rattle.app_compute.specs.Texts.{fibonacci_text}
use Rattle.app_compute.specs.Lines.{fib_line}

-- a number up to 92, and a threshold from 2 to 92
pub record IsQuestion (n t : ℕ) : Type 0 where
  pub number : n ≤ 92
  pub large : 2 ≤ t
  pub few : t ≤ 92

-- the one line of `fib`, after its mark
abbrev pub fed_line : ℕ → ℕ → List ℕ
fed_line n t = 99 ∷ fib_line n t

-- the text of `fib`: `fibonacci(n) == F(n)`
abbrev pub fib_text : ℕ → List ℕ
fib_text n = fibonacci_text n (pos (fibonacci n))

-- the beginning of a text
pub record IsFront (front whole : List ℕ) : Type 0 where
  pub later : List ℕ
  pub is : front ++ later ≡ whole
