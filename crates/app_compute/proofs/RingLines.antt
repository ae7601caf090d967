-- The line that asks for a ring asks for it, and is short.
use Rattle.std.specs.Prelude.{ℕ, nat_le, [], ◌∷◌, ◌++◌, ◌≡◌, ◌%◌, ◌≤◌, ◌==◌, ◌&&◌, Some, None, length, codes, if◌then◌else◌}
use Rattle.std.specs.List.{slice_split}
use Rattle.std.specs.Fmt.{decimal}
use Rattle.std.proofs.Common.{ap, ◌∙◌, arith, lit≤, length-append}
use Rattle.std.proofs.lemmas.Bool.{eq-eqb, le-leb}
use Rattle.std.proofs.lemmas.Fmt.{length-decimal-le_wide}
use Rattle.app_compute.specs.Lines.{is_space, number_in}
use Rattle.app_compute.specs.Stencil.{shape_by, shape_in, shape_of, stencil_line}
use Rattle.app_compute.specs.StencilLaw.{IsAsked, ring_fed}
use Rattle.app_compute.proofs.Decimals.{decimal_word, number_read, split_at, split_none}

words_are : (p q s : ℕ) → slice_split is_space (stencil_line p q s) ≡ codes "stencil" ∷ decimal p ∷ decimal q ∷ decimal s ∷ []
words_are p q s =
    ap (λ words. codes "stencil" ∷ words)
    (split_at (decimal p) _ (decimal_word p)
    ∙ ap (λ words. decimal p ∷ words) (split_at (decimal q) (decimal s) (decimal_word q) ∙ ap (λ words. decimal q ∷ words) (split_none (decimal s) (decimal_word s))))

pub line_asks : (p q s : ℕ) → IsAsked p q s → shape_of (stencil_line p q s) ≡ Some (record { points = p; parts = q; steps = s })
line_asks p q s h =
    let points = h.few_points in
    let parts = h.few_parts in
    let steps = h.steps in
    ap shape_in (words_are p q s)
    ∙ ap (λ x. shape_by x (number_in 32 (decimal q)) (number_in 1000 (decimal s))) (number_read 1024 p points (omega arith))
    ∙ ap (λ x. shape_by (Some p) x (number_in 1000 (decimal s))) (number_read 32 q parts (omega arith))
    ∙ ap (shape_by (Some p) (Some q)) (number_read 1000 s steps (omega arith))
    ∙ ap (λ b. if b && (nat_le 1 q && (p % q == 0)) then Some (record { points = p; parts = q; steps = s }) else None) (le-leb 1 p h.points)
    ∙ ap (λ b. if b && (p % q == 0) then Some (record { points = p; parts = q; steps = s }) else None) (le-leb 1 q h.parts)
    ∙ ap (λ b. if b then Some (record { points = p; parts = q; steps = s }) else None) (eq-eqb (p % q) 0 h.whole)

-- a line with its mark has no more bytes than one of a console
pub line_short : (p q s : ℕ) → IsAsked p q s → length (ring_fed p q s) ≤ 1025
line_short p q s h =
    let points = h.few_points in
    let parts = h.few_parts in
    let steps = h.steps in
    omega (
      arith,
      length-decimal-le_wide 4 p (lit≤ tt) (omega arith) (omega arith),
      length-decimal-le_wide 2 q (lit≤ tt) (omega arith) (omega arith),
      length-decimal-le_wide 4 s (lit≤ tt) (omega arith) (omega arith),
      length-append (codes "stencil ") (decimal p ++ (codes " " ++ (decimal q ++ (codes " " ++ decimal s)))),
      length-append (decimal p) (codes " " ++ (decimal q ++ (codes " " ++ decimal s))),
      length-append (codes " ") (decimal q ++ (codes " " ++ decimal s)),
      length-append (decimal q) (codes " " ++ decimal s),
      length-append (codes " ") (decimal s),
    )
