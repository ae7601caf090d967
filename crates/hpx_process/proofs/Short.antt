-- A line that asks for something has no more bytes than one that may be fed.
use Rattle.std.specs.Prelude.{◌≤◌, ◌<◌, ◌++◌, ◌^◌, length, codes}
use Rattle.std.specs.Fmt.{decimal}
use Rattle.std.proofs.Common.{ℕ, List, ◌≡◌, Result, Ok, Err, IfOk, sym, subst, arith, lit≤, length-append}
use Rattle.std.proofs.lemmas.Fmt.{length-decimal-le_wide}
use Rattle.app_compute.specs.FibLaw.{fed_line}
use Rattle.app_compute.specs.Lines.{fib_line}
use Rattle.app_compute.specs.Stencil.{stencil_line}
use Rattle.app_compute.specs.StencilLaw.{ring_fed}

ten : (n : ℕ) → n < 2 ^ 32 → length (decimal n) ≤ 10
ten n h = length-decimal-le_wide 10 n (lit≤ tt) (omega (arith, h)) (omega (arith, h))

pub number_short : (number threshold : ℕ) → number < 2 ^ 32 → threshold < 2 ^ 32 → length (fed_line number threshold) ≤ 1025
number_short number threshold n t =
    omega (
      arith,
      ten number n,
      ten threshold t,
      length-append (codes "fib ") (decimal number ++ (codes " " ++ decimal threshold)),
      length-append (decimal number) (codes " " ++ decimal threshold),
      length-append (codes " ") (decimal threshold),
    )

pub ring_short : (p q s : ℕ) → p < 2 ^ 32 → q < 2 ^ 32 → s < 2 ^ 32 → length (ring_fed p q s) ≤ 1025
ring_short p q s points parts steps =
    omega (
      arith,
      ten p points,
      ten q parts,
      ten s steps,
      length-append (codes "stencil ") (decimal p ++ (codes " " ++ (decimal q ++ (codes " " ++ decimal s)))),
      length-append (decimal p) (codes " " ++ (decimal q ++ (codes " " ++ decimal s))),
      length-append (codes " ") (decimal q ++ (codes " " ++ decimal s)),
      length-append (decimal q) (codes " " ++ decimal s),
      length-append (codes " ") (decimal s),
    )

-- so is what is made for it
pub number_made : {E : Type 0} (r : Result (List ℕ) E) (number threshold : ℕ) → number < 2 ^ 32 → threshold < 2 ^ 32 → IfOk r (λ line. line ≡ fib_line number threshold)
    → IfOk r (λ line. length line ≤ 1024)
number_made (Ok line) number threshold n t is = let short = number_short number threshold n t in subst (λ l. length l ≤ 1024) (sym is) (omega (arith, short))
number_made (Err e) number threshold n t is = tt

pub ring_made : {E : Type 0} (r : Result (List ℕ) E) (p q s : ℕ) → p < 2 ^ 32 → q < 2 ^ 32 → s < 2 ^ 32 → IfOk r (λ line. line ≡ stencil_line p q s)
    → IfOk r (λ line. length line ≤ 1024)
ring_made (Ok line) p q s points parts steps is = let short = ring_short p q s points parts steps in subst (λ l. length l ≤ 1024) (sym is) (omega (arith, short))
ring_made (Err e) p q s points parts steps is = tt
