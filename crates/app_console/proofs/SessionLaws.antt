-- All actions keep the laws, and look neither at names nor at credits.
use Rattle.std.specs.Prelude.{ℕ, zero, suc, pos, List, [], ◌∷◌, ◌≡◌, ◌≢◌, ◌<◌, ◌≤◌, ◌==◌, Option, Some, None, length, map, refl, if◌then◌else◌}
use Rattle.std.proofs.Common.{sym, ap, ◌∙◌, subst}
use Rattle.std.proofs.lemmas.Bool.{cond_both, eqb-true}
use Rattle.std.proofs.lemmas.List.{length-map}
use Rattle.hpx_value.specs.Ids.{Id, bare}
use Rattle.hpx_value.specs.Values.{named, message_of, bare_act, bare_state}
use Rattle.hpx_value.specs.declared.value.State.{State}
use Rattle.hpx_value.specs.declared.value.Act.{Act}
use Rattle.hpx_value.specs.Shapes.{IsAct, IsState}
use Rattle.hpx_value.specs.Hands.{id_at}
use Rattle.hpx_value.specs.Laws.{KeepsLaws}
use Rattle.hpx_value.specs.Kept.{stays}
use Rattle.hpx_calls.specs.Outcomes.{outcome_of}
use Rattle.hpx_calls.proofs.Lawful.{every_keeps}
use Rattle.hpx_calls.proofs.Blind.{outcome_blind}
use Rattle.app_console.specs.Types.{Spelled, SpelledInt, SpelledText, SpelledFault, Cont, Naming, What, Desk, Console}
use Rattle.app_console.specs.Commands.{Sight, plan_of}
use Rattle.app_console.specs.Desks.{status_in, status_by, held_at}
use Rattle.app_console.specs.Session
use Rattle.app_console.proofs.SessionKeeps.{session_keeps}

-- ---- all

pub keeps_laws : (n kind here : ℕ) (s : State) (a : Act) → 1 ≤ n → n ≤ 64 → here < n → kind ≢ 7 → IsState s → IsAct a → KeepsLaws n kind here s a (Session.act_of n kind here s a)
unfolding Session.act_of
keeps_laws n kind here s a some few low plain h act =
    cond_both (kind == 1) _ _ (KeepsLaws n kind here s a)
    (λ e. subst (λ k. KeepsLaws n k here s a (Session.session_outcome n s a)) (sym (eqb-true kind 1 e)) (session_keeps n here s a some few low h act))
    (λ e. every_keeps n kind here s a low plain h act)

-- ---- blindness

abbrev blind : Act → Act
blind a = named 0 0 (message_of (bare_act a))

kind_bare : (ids : List Id) (p : ℕ) → (id_at (map bare ids) p).kind ≡ (id_at ids p).kind
kind_bare [] p = refl
kind_bare (x ∷ ids) zero = refl
kind_bare (x ∷ ids) (suc p) = kind_bare ids p

by_same : (kind kind' : Spelled → ℕ) → ((v : Spelled) → kind v ≡ kind' v) → (o : Option Spelled) → status_by kind o ≡ status_by kind' o
by_same kind kind' h None = refl
by_same kind kind' h (Some v) = ap (λ k. status_by (λ u. k) (Some v)) (h v)

pub status_same : (kind kind' : Spelled → ℕ) → ((v : Spelled) → kind v ≡ kind' v) → (xs : List (Naming Spelled)) (name : List ℕ) → status_in kind xs name ≡ status_in kind' xs name
status_same kind kind' h [] name = refl
status_same kind kind' h (x ∷ xs) name = rw (by_same kind kind' h x.to, status_same kind kind' h xs name) refl

funext : {X Y : Type 0} {f g : X → Y} → ((x : X) → f x ≡ g x) → f ≡ g
funext h = λ i x. h x i

kinds_same : (s : State) (v : Spelled) → Session.kind_of s v ≡ Session.kind_of (bare_state s) v
kinds_same s v = sym (kind_bare s.ids (Session.place_of v))

sight_same : (n : ℕ) (s : State) (d : Desk Spelled) → Session.sight n (Session.kind_of s) d ≡ Session.sight n (Session.kind_of (bare_state s)) d
sight_same n s d =
    let same : status_in (Session.kind_of s) d.names ≡ status_in (Session.kind_of (bare_state s)) d.names =
    funext (λ name. status_same (Session.kind_of s) (Session.kind_of (bare_state s)) (kinds_same s) d.names name) in
    ap (λ f. let x : Sight = record { localities = n; status = f; names = length d.names; awaited = length d.awaits } in x) same

line_blind : (n : ℕ) (s : State) (a : Act) (d : Desk Spelled) (line : List ℕ) (c : Option Console)
    → Session.line_of n s a d line c ≡ Session.line_of n (bare_state s) (blind a) d line c
line_blind n s a d line None = refl
line_blind n s a d line (Some c) = ap (λ x. Session.planned c s.drawn d (plan_of c x line)) (sight_same n s d)

taken_blind : (s : State) (a : Act) (d : Desk Spelled) (slot : ℕ) (v : Spelled) (w : Option What)
    → Session.taken s a d slot v w ≡ Session.taken (bare_state s) (blind a) d slot v w
taken_blind s a d slot v None = refl
taken_blind s a d slot v (Some w) = ap (λ m. Session.taken_by s.drawn d slot v w m) (sym (length-map s.ids bare))

args_blind : (n : ℕ) (s : State) (a : Act) (d : Desk Spelled) (code : ℕ) (args : List Spelled)
    → Session.session_args n s a d code args ≡ Session.session_args n (bare_state s) (blind a) d code args
args_blind n s a d code (SpelledText (mark ∷ line) ∷ []) =
    ap (λ o. if code == 4 then o else stays s a (SpelledFault 11)) (line_blind n s a d line (Session.console_of mark))
args_blind n s a d code (SpelledInt (pos slot) ∷ v ∷ []) =
    ap (λ o. if code == 3 then o else stays s a (SpelledFault 11)) (taken_blind s a d slot v (held_at slot d.awaits))
args_blind n s a d code _ = refl

cont_blind : (n : ℕ) (s : State) (a : Act) (d : Desk Spelled) (c : Option Cont) → Session.session_cont n s a d c ≡ Session.session_cont n (bare_state s) (blind a) d c
cont_blind n s a d None = args_blind n s a d a.code a.args
cont_blind n s a d (Some c) = refl

by_blind : (n : ℕ) (s : State) (a : Act) (d : Option (Desk Spelled)) → Session.session_by n s a d ≡ Session.session_by n (bare_state s) (blind a) d
by_blind n s a None = refl
by_blind n s a (Some d) = cont_blind n s a d a.cont

pub is_blind : (n kind here : ℕ) (s : State) (a : Act) → Session.act_of n kind here s a ≡ Session.act_of n kind here (bare_state s) (blind a)
unfolding Session.act_of Session.session_outcome
is_blind n kind here s a =
    ap (λ o. if kind == 1 then o else outcome_of n kind here s a) (by_blind n s a (Session.desk_at s))
    ∙ ap (λ o. if kind == 1 then Session.session_outcome n (bare_state s) (blind a) else o) (outcome_blind n kind here s a)
