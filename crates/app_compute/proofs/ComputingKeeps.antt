-- Actions on the session, where it computes, keep the laws.
use Rattle.std.specs.Prelude.{ℕ, ◌≡◌, ◌≤◌, if◌then◌else◌}
use Rattle.std.proofs.Common.{ap, ◌∙◌}
use Rattle.std.proofs.lemmas.Bool.{cond_both}
use Rattle.hpx_value.specs.Values.{bare_act, bare_state, message_of, named}
use Rattle.hpx_value.specs.Shapes.{IsAct, IsState}
use Rattle.hpx_value.specs.Laws.{KeepsLaws}
use Rattle.app_compute.specs.Types.{State, Act}
use Rattle.app_compute.specs.Computing.{computing_outcome, rings}
use Rattle.app_compute.specs.Session.{session_outcome}
use Rattle.app_compute.specs.StencilSession.{ring_outcome}
use Rattle.app_compute.proofs.RingKeeps.{ring_blind, ring_lawful}
use Rattle.app_compute.proofs.SessionKeeps.{session_blind, session_keeps}

pub computing_keeps : (n here : ℕ) (s : State) (a : Act) → 1 ≤ n → IsState s → IsAct a → KeepsLaws n 1 here s a (computing_outcome n s a)
computing_keeps n here s a some h act =
    cond_both (rings s a) _ _ (KeepsLaws n 1 here s a) (λ e. ring_lawful n here s a some h act) (λ e. session_keeps n here s a some h act)

abbrev blind : Act → Act
blind a = named 0 0 (message_of (bare_act a))

pub computing_blind : (n : ℕ) (s : State) (a : Act) → computing_outcome n s a ≡ computing_outcome n (bare_state s) (blind a)
computing_blind n s a =
    ap (λ o. if rings s a then o else session_outcome s a) (ring_blind n s a)
    ∙ ap (λ o. if rings s a then ring_outcome n (bare_state s) (blind a) else o) (session_blind s a)
