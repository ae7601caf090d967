-- What all actions do keeps the laws of actions, and looks neither at names nor at credits.
use Rattle.std.specs.Prelude.{ℕ, Bool, true, ◌≡◌, ◌≤◌, ◌<◌, ◌==◌, ◌&&◌, if◌then◌else◌}
use Rattle.std.proofs.Common.{refl, sym, ap, ◌∙◌, subst}
use Rattle.std.proofs.lemmas.Bool.{and_parts, cond_both, eqb-false, eqb-true, le-leb, lt-ltb}
use Rattle.hpx_value.specs.Shapes.{IsAct, IsState}
use Rattle.hpx_value.specs.Values.{bare_state, bare_act, named, message_of}
use Rattle.hpx_value.specs.Laws.{KeepsLaws}
use Rattle.hpx_value.specs.declared.value.State.{State}
use Rattle.hpx_value.specs.declared.value.Act.{Act}
use Rattle.hpx_value.specs.declared.outcome.Outcome.{Outcome}
use Rattle.app_console.specs.Session as Console
use Rattle.app_console.proofs.SessionLaws as console
use Rattle.app_compute.specs.Acts as Compute
use Rattle.app_compute.specs.Computing.{computing_outcome}
use Rattle.app_compute.specs.Session as Computing
use Rattle.app_compute.proofs.ComputingKeeps.{computing_keeps, computing_blind}
use Rattle.app_compute.proofs.PlainKeeps as plain
use Rattle.app_compute.proofs.SessionKeeps.{computes_blind}
use Rattle.hpx_top.specs.Acts.{act_of, is_place, outcome_at}

pub place : (n here : ℕ) → n ≤ 64 → here < n → is_place n here ≡ true
place n here few h = rw (lt-ltb here n h, le-leb n 64 few) refl

pub keeps_laws : (n kind here : ℕ) (s : State) (a : Act) → 1 ≤ n → n ≤ 64 → here < n → IsState s → IsAct a → KeepsLaws n kind here s a (act_of n kind here s a)
unfolding act_of
keeps_laws n kind here s a some few low state act =
    subst (λ b. KeepsLaws n kind here s a (if b then outcome_at n kind here s a else Compute.refused s a)) (sym (place n here few low))
    (cond_both ((kind == 1) && Computing.computes s a) _ _ (KeepsLaws n kind here s a)
    (λ e. subst (λ k. KeepsLaws n k here s a (computing_outcome n s a)) (sym (eqb-true kind 1 (and_parts (kind == 1) (Computing.computes s a) e).0)) (computing_keeps n here s a some state act))
    (λ e. cond_both (kind == 7) _ _ (KeepsLaws n kind here s a)
    (λ f. plain.keeps_laws n kind here s a some low state act)
    (λ f. console.keeps_laws n kind here s a some few low (eqb-false kind 7 f) state act)))

abbrev blind : Act → Act
blind a = named 0 0 (message_of (bare_act a))

abbrev joined : ℕ → ℕ → ℕ → State → Act → Bool → Outcome → Outcome → Outcome → Outcome
joined n kind here s a b x y z =
    if is_place n here then (if (kind == 1) && b then x else if kind == 7 then y else z) else Compute.refused s a

pub is_blind : (n kind here : ℕ) (s : State) (a : Act) → act_of n kind here s a ≡ act_of n kind here (bare_state s) (blind a)
unfolding act_of
is_blind n kind here s a =
    let t : State = bare_state s in
    let e : Act = blind a in
    ap (λ b. joined n kind here s a b (computing_outcome n s a) (Compute.compute_outcome n kind here s a) (Console.act_of n kind here s a)) (computes_blind s a)
    ∙ (ap (λ x. joined n kind here s a (Computing.computes t e) x (Compute.compute_outcome n kind here s a) (Console.act_of n kind here s a)) (computing_blind n s a)
    ∙ (ap (λ y. joined n kind here s a (Computing.computes t e) (computing_outcome n t e) y (Console.act_of n kind here s a)) (plain.is_blind n kind here s a)
    ∙ ap (λ z. joined n kind here s a (Computing.computes t e) (computing_outcome n t e) (Compute.compute_outcome n kind here t e) z) (console.is_blind n kind here s a)))
