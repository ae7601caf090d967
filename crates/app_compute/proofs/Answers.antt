-- Outcomes that keep the state as it was, and answer.
use Rattle.std.specs.Prelude.{ℕ, List, [], ◌∷◌, ◌≡◌, ◌+◌, Option, Some, None, length, refl}
use Rattle.std.proofs.Common.{ap, ◌∙◌}
use Rattle.hpx_value.specs.Kept
use Rattle.hpx_calls.specs.Values.{spelled}
use Rattle.hpx_calls.specs.Contents.{layout}
use Rattle.hpx_calls.specs.Outcomes
use Rattle.app_compute.specs.Types.{Value, Cont, State, Act, Unreadable, Answers}

same_numbers : {X : Type 0} (n : ℕ) (xs : List X) → Outcomes.numbers n (length xs) ≡ Kept.numbers n xs
same_numbers n [] = refl
same_numbers n (x ∷ xs) = ap (λ rest. n ∷ rest) (same_numbers (n + 1) xs)

same_reply : (s : State) (c : Option Cont) (v : Value) → Outcomes.own_reply s c v ≡ Kept.answers s c v
same_reply s None v = refl
same_reply s (Some c) v = refl

-- an answer over the same values
pub stays_as : (here : ℕ) (s : State) (a : Act) (v : Value) → Outcomes.comes_to here s a (layout spelled (Unreadable s.values)) (Answers v) ≡ Kept.stays s a v
stays_as here s a v =
    ap (λ conts. Outcomes.outcome s s.values conts [] [] (Outcomes.own_reply s a.cont v)) (same_numbers 0 s.conts)
    ∙ ap (Outcomes.outcome s s.values (Kept.numbers 0 s.conts) [] []) (same_reply s a.cont v)
