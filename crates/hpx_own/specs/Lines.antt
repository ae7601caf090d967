-- Which lines of a console the top call handles itself.
use Rattle.std.specs.Prelude.{ℕ, ℤ, pos, Bool, nat_le, List, [], ◌∷◌, Option, Some, None, codes, if◌then◌else◌}
use Rattle.std.specs.Str.{bytes_eq}
use Rattle.app_console.specs.Console.{words_of, number_of}
use Rattle.hpx_counters.specs.Counters.{counter_named}
use Rattle.hpx_counters.specs.declared.counter.Counter.{Counter}
use Rattle.hpx_own.specs.declared.lines.Handled.{Handled}
use Rattle.hpx_own.specs.declared.lines.Handled.TheVariants.{Fed, Hold, Turn, Drain, Audit, Count, Refused}
use Rattle.hpx_own.specs.declared.lines.Refusal.TheVariants.{BadNumber, BadCounter}

-- so many steps: a number from 0 to 1,000,000
abbrev pub turn_of : Option ℤ → Handled
turn_of (Some (pos n)) = if nat_le n 1000000 then Turn n else Refused BadNumber
turn_of _ = Refused BadNumber

-- the value of a counter
abbrev pub count_of : Option Counter → Handled
count_of (Some counter) = Count counter
count_of None = Refused BadCounter

-- one word alone
abbrev pub handled_alone : List ℕ → Handled
handled_alone word =
    if bytes_eq word (codes "hold") then Hold
    else if bytes_eq word (codes "drain") then Drain
    else if bytes_eq word (codes "audit") then Audit
    else Fed

-- a word with one behind it
abbrev pub handled_with : List ℕ → List ℕ → Handled
handled_with word argument =
    if bytes_eq word (codes "turn") then turn_of (number_of argument)
    else if bytes_eq word (codes "counter") then count_of (counter_named argument)
    else Fed

-- the words of a line: any others are fed
abbrev pub handled_words : List (List ℕ) → Handled
handled_words (word ∷ []) = handled_alone word
handled_words (word ∷ argument ∷ []) = handled_with word argument
handled_words _ = Fed

-- a line of a console that has lines of the top call's own, as `space` has, or has none
abbrev pub handled_as : Bool → List ℕ → Handled
handled_as owns line = if owns then handled_words (words_of line) else Fed
