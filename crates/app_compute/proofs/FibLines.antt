-- The line that asks for a Fibonacci number asks for it.
use Rattle.std.specs.Prelude.{ℕ, [], ◌∷◌, ◌≡◌, ◌≤◌, Some, None, codes, if◌then◌else◌}
use Rattle.std.specs.List.{slice_split}
use Rattle.std.specs.Fmt.{decimal}
use Rattle.std.proofs.Common.{ap, ◌∙◌, arith}
use Rattle.std.proofs.lemmas.Bool.{le-leb}
use Rattle.app_compute.specs.Lines.{fib_line, is_space, number_in, question_by, question_in, question_of}
use Rattle.app_compute.proofs.Decimals.{decimal_word, number_read, split_at, split_none}

words_are : (n t : ℕ) → slice_split is_space (fib_line n t) ≡ codes "fib" ∷ decimal n ∷ decimal t ∷ []
words_are n t =
    ap (λ words. codes "fib" ∷ words) (split_at (decimal n) (decimal t) (decimal_word n) ∙ ap (λ words. decimal n ∷ words) (split_none (decimal t) (decimal_word t)))

pub line_asks : (n t : ℕ) → n ≤ 92 → 2 ≤ t → t ≤ 92 → question_of (fib_line n t) ≡ Some (record { number = n; threshold = t })
line_asks n t low large few =
    ap question_in (words_are n t)
    ∙ ap (λ x. question_by x (number_in 92 (decimal t))) (number_read 92 n low (omega arith))
    ∙ ap (question_by (Some n)) (number_read 92 t few (omega arith))
    ∙ ap (λ c. if c then Some (record { number = n; threshold = t }) else None) (le-leb 2 t large)
