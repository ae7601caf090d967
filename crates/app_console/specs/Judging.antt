-- The rules by which the journals of both consoles are judged.
use Rattle.std.specs.Prelude.{ℕ, pos, Bool, true, false, is_some, List, [], ◌∷◌, ◌≡◌, ◌≢◌, ◌≤◌, ◌<◌, Option, Some}
use Rattle.hpx_value.specs.Shapes.{IsAct, IsState}
use Rattle.hpx_value.specs.Values.{bare_act, bare_state, message_of, named}
use Rattle.hpx_value.specs.Laws.{KeepsLaws}
use Rattle.hpx_journal.specs.Data.{Parcel}
use Rattle.hpx_journal.specs.Entries.{Rules}
use Rattle.hpx_calls.specs.Outcomes.{outcome_of}
use Rattle.app_console.specs.Session.{console_of, desk_at, session_outcome}
use Rattle.app_console.specs.Types.{Spelled, SpelledInt, SpelledText, Desk, State, Act, Outcome}

-- a line of one of the consoles, or an answer
abbrev pub is_own : List Spelled → Bool
is_own (SpelledText (mark ∷ line) ∷ []) = is_some (console_of mark)
is_own (SpelledInt (pos slot) ∷ v ∷ []) = true
is_own _ = false

-- What actions do, at up to 64 localities: a session whose state shows a
-- desk does what the consoles' session does, and objects of all other kinds but the plain one, 7, do what such objects do.
-- Of a session of other lines, and of plain objects, nothing is said but the laws.
pub record Acting : Type 0 where
  pub act_of : ℕ → ℕ → ℕ → State → Act → Outcome
  pub session : (n here : ℕ) (s : State) (a : Act) (d : Desk Spelled) → n ≤ 64 → here < n → desk_at s ≡ Some d → is_own a.args ≡ true
      → act_of n 1 here s a ≡ session_outcome n s a
  pub others : (n kind here : ℕ) (s : State) (a : Act) → n ≤ 64 → here < n → kind ≢ 1 → kind ≢ 7 → act_of n kind here s a ≡ outcome_of n kind here s a
  pub keeps : (n kind here : ℕ) (s : State) (a : Act) → 1 ≤ n → n ≤ 64 → here < n → IsState s → IsAct a → KeepsLaws n kind here s a (act_of n kind here s a)
  pub blind : (n kind here : ℕ) (s : State) (a : Act) → act_of n kind here s a ≡ act_of n kind here (bare_state s) (named 0 0 (message_of (bare_act a)))

abbrev pub judging : Acting → ℕ → ℕ → ℕ → (List ℕ → Option Parcel) → Rules
judging acts n credit_log credit_limit parcel_of = record {
  localities = n;
  credit_log = credit_log;
  credit_limit = credit_limit;
  parcel_of = parcel_of;
  outcome_of = acts.act_of n;
}
