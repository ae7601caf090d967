-- Acts with no other session than the one that computes are such as the law speaks of.
use Rattle.std.specs.Prelude.{ℕ, List, ◌≡◌, ◌<◌, ◌≤◌, ◌==◌, false, Option, refl, if◌then◌else◌}
use Rattle.std.proofs.Common.{sym, ap, ◌∙◌, subst, arith, lit≤}
use Rattle.std.proofs.lemmas.Bool.{cond_both, eqb-true}
use Rattle.hpx_value.specs.Values.{bare_act, bare_state, message_of, named}
use Rattle.hpx_value.specs.Shapes.{IsAct, IsState}
use Rattle.hpx_value.specs.Laws.{KeepsLaws}
use Rattle.hpx_value.proofs.Kept.{stays_keeps}
use Rattle.hpx_journal.specs.Data.{Parcel}
use Rattle.hpx_journal.specs.Laws.{HasGrammar}
use Rattle.hpx_calls.specs.Outcomes.{outcome_of}
use Rattle.app_compute.specs.Types.{State, Act, Fault}
use Rattle.app_compute.specs.Acts.{compute_outcome, plain_outcome, refused}
use Rattle.app_compute.specs.Session.{computes}
use Rattle.app_compute.specs.Computing.{computing_outcome}
use Rattle.app_compute.specs.Judging.{IsJudged, acts_alone, judging_alone}
use Rattle.app_compute.proofs.PlainKeeps.{is_blind, keeps_laws}
use Rattle.app_compute.proofs.ComputingKeeps.{computing_blind, computing_keeps}

abbrev blind : Act → Act
blind a = named 0 0 (message_of (bare_act a))

session_alone : (n here : ℕ) (s : State) (a : Act) → 1 ≤ n → IsState s → IsAct a → KeepsLaws n 1 here s a (if computes s a then computing_outcome n s a else refused s a)
session_alone n here s a some h act =
    cond_both (computes s a) _ _ (KeepsLaws n 1 here s a) (λ e. computing_keeps n here s a some h act)
    (λ e. stays_keeps n 1 here s a (Fault 11) h act (lit≤ tt, lit≤ tt) refl
    (λ c m args. absurd (let low = m.0 in omega arith)) (λ c m args. absurd (let low = m.0 in omega arith)))

alone_keeps : (n kind here : ℕ) (s : State) (a : Act) → 1 ≤ n → here < n → IsState s → IsAct a → KeepsLaws n kind here s a (acts_alone n kind here s a)
alone_keeps n kind here s a some place h act =
    cond_both (kind == 1) _ _ (KeepsLaws n kind here s a)
    (λ e. subst (λ k. KeepsLaws n k here s a (if computes s a then computing_outcome n s a else refused s a)) (sym (eqb-true kind 1 e)) (session_alone n here s a some h act))
    (λ e. keeps_laws n kind here s a some place h act)

alone_blind : (n kind here : ℕ) (s : State) (a : Act) → acts_alone n kind here s a ≡ acts_alone n kind here (bare_state s) (blind a)
alone_blind n kind here s a =
    ap (λ o. if kind == 1 then (if computes s a then o else refused s a) else compute_outcome n kind here s a) (computing_blind n s a)
    ∙ ap (λ o. if kind == 1 then (if computes s a then computing_outcome n (bare_state s) (blind a) else refused s a) else o) (is_blind n kind here s a)

plain_alone : (n here : ℕ) (s : State) (a : Act) → compute_outcome n 7 here s a ≡ plain_outcome n here s a
unfolding compute_outcome
plain_alone n here s a = refl

other_alone : (n kind here : ℕ) (s : State) (a : Act) → (kind == 7) ≡ false → compute_outcome n kind here s a ≡ outcome_of n kind here s a
unfolding compute_outcome
other_alone n kind here s a e = ap (λ b. if b then plain_outcome n here s a else outcome_of n kind here s a) e

pub alone_judged : (n log limit : ℕ) (parcel_of : List ℕ → Option Parcel) → 1 ≤ n → HasGrammar (judging_alone n log limit parcel_of) → IsJudged (judging_alone n log limit parcel_of)
alone_judged n log limit parcel_of some grammar = record {
  computes = record {
    plain = λ here s a low. plain_alone n here s a;
    flow = λ here s a low. other_alone n 33 here s a refl;
    maker = λ here s a low. other_alone n 3 here s a refl;
    part = λ here s a low. other_alone n 17 here s a refl;
    session = λ here s a low e. ap (λ b. if b then computing_outcome n s a else refused s a) e;
  };
  some = some;
  grammar = grammar;
  laws = record { laws = λ kind here s a low h act. alone_keeps n kind here s a some low h act };
  blind = record { blind = λ kind here s a. alone_blind n kind here s a };
}
