-- Acts for tests that keep the laws of actions: every state stays, and the place is answered.
use Rattle.std.specs.Prelude.{ℕ, pos, ◌≡◌, ◌≤◌, ◌<◌, refl}
use Rattle.hpx_value.specs.Values.{bare_act, bare_state, message_of, named}
use Rattle.hpx_value.specs.Shapes.{IsAct, IsState}
use Rattle.hpx_value.specs.Laws.{KeepsLaws}
use Rattle.hpx_value.specs.Kept.{stays}
use Rattle.hpx_value.proofs.Kept.{stays_keeps, stays_tells}
use Rattle.hpx_trial.specs.Data.{Int, State, Act, Outcome}

-- the state stays, and the locality is answered
abbrev pub still : ℕ → ℕ → ℕ → State → Act → Outcome
still n kind here s a = stays s a (Int (pos here))

-- it keeps the laws of actions
pub still_keeps : (n kind here : ℕ) (s : State) (a : Act) → 1 ≤ n → n ≤ 64 → here < n → IsState s → IsAct a
    → KeepsLaws n kind here s a (still n kind here s a)
still_keeps n kind here s a some few place state act =
    stays_keeps n kind here s a (Int (pos here)) state act tt refl (λ _ _ _. stays_tells here s a) (λ _ _ _. stays_tells here s a)

-- neither names nor credits matter
pub still_blind : (n kind here : ℕ) (s : State) (a : Act)
    → still n kind here s a ≡ still n kind here (bare_state s) (named 0 0 (message_of (bare_act a)))
still_blind n kind here s a = refl
