-- What is printed.
use Rattle.std.specs.Prelude.{ℕ, ℤ, List, [], ◌∷◌, ◌++◌, ◌==◌, codes, if◌then◌else◌}
use Rattle.std.specs.Fmt.{decimal, signed_decimal}
use Rattle.app_compute.specs.Types.{Value, Int, Fault}

-- a number and its Fibonacci number
abbrev pub fibonacci_text : ℕ → ℤ → List ℕ
fibonacci_text n value = codes "fibonacci(" ++ (decimal n ++ (codes ") == " ++ (signed_decimal value ++ codes "\n")))

-- the faults from 1 to 11, and no other
abbrev pub fault_word : ℕ → List ℕ
fault_word code =
    if code == 1 then codes "overflow"
    else if code == 2 then codes "taken"
    else if code == 3 then codes "no such name"
    else if code == 4 then codes "no such kind"
    else if code == 5 then codes "credit limit"
    else if code == 6 then codes "already set"
    else if code == 7 then codes "no such slot"
    else if code == 8 then codes "closed"
    else if code == 9 then codes "spent"
    else if code == 10 then codes "full"
    else if code == 11 then codes "wrong kind"
    else []

-- a fault in place of an answer
abbrev pub fault_text : ℕ → List ℕ
fault_text code = codes "error: " ++ (fault_word code ++ codes "\n")

-- the answer to the question for a number
abbrev pub answer_texts : ℕ → Value → List (List ℕ)
answer_texts n (Int value) = fibonacci_text n value ∷ []
answer_texts n (Fault code) = fault_text code ∷ []
answer_texts n _ = []
