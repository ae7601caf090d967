-- A console's session is read, and numbers and rings are computed.
use Rattle.std.specs.Prelude.{ℕ, Bool, true, false, is_some, nat_le, List, [], ◌∷◌, ◌≡◌, ◌≢◌, ◌<◌, ◌≤◌, ◌==◌, ◌&&◌, Option, Some, None, length, refl, if◌then◌else◌}
use Rattle.std.proofs.Common.{inl, inr, sym, ap, ◌∙◌, subst, arith}
use Rattle.std.proofs.lemmas.Bool.{eqb-true, ne_eqb, cases_Bool}
use Rattle.hpx_value.specs.declared.profile.Profile.{Profile}
use Rattle.hpx_journal.specs.Laws.{KeepsActLaws}
use Rattle.hpx_journal.specs.Pool.{IsBlind}
use Rattle.hpx_calls.specs.Outcomes.{outcome_of}
use Rattle.hpx_calls.specs.Values as Values
use Rattle.hpx_steps.specs.Rest.{rules_of}
use Rattle.hpx_world.proofs.Sound.{spells_well}
use Rattle.app_console.specs.Types.{Spelled, SpelledUnit, SpelledFlag, SpelledInt, SpelledText, SpelledRef, SpelledFault, SpelledInts, State, Act}
use Rattle.app_console.specs.declared.desk.Desk.{Desk}
use Rattle.app_console.specs.Desks.{desk_shown}
use Rattle.app_console.specs.Judging.{Acting, is_own}
use Rattle.app_console.specs.Session as Console
use Rattle.app_compute.specs.Acts as Compute
use Rattle.app_compute.specs.Computing.{computing_outcome}
use Rattle.app_compute.specs.Session as Computing
use Rattle.app_compute.specs.Judging.{IsJudged}
use Rattle.hpx_top.specs.Acts.{act_of, is_place}
use Rattle.hpx_top.specs.ActLaws.{place, keeps_laws, is_blind}

-- ---- a session of a console is read

no_desk : {X : Type 0} (b : Bool) (d : Option X) (x : X) → d ≡ None → (if b then d else None) ≡ Some x → ⊥
no_desk true d x e h = let no : None ≡ Some x = sym e ∙ h in cc
no_desk false d x e h = cc

is_no_flag : (vs : List Spelled) (b : Bool) (d : Desk Spelled) → (if b then desk_shown Values.spelled vs else None) ≡ Some d → Computing.is_awaiting vs ≡ false
is_no_flag [] b d h = refl
is_no_flag (SpelledUnit ∷ vs) b d h = refl
is_no_flag (SpelledInt z ∷ vs) b d h = refl
is_no_flag (SpelledText t ∷ vs) b d h = refl
is_no_flag (SpelledRef p ∷ vs) b d h = refl
is_no_flag (SpelledFault c ∷ vs) b d h = refl
is_no_flag (SpelledInts zs ∷ vs) b d h = refl
is_no_flag (SpelledFlag f ∷ []) b d h = absurd (no_desk b (desk_shown Values.spelled (SpelledFlag f ∷ [])) d refl h)
is_no_flag (SpelledFlag f ∷ w ∷ vs) b d h = absurd (no_desk b (desk_shown Values.spelled (SpelledFlag f ∷ w ∷ vs)) d refl h)

not_c : (mark : ℕ) → is_some (Console.console_of mark) ≡ true → (mark == 99) ≡ false
not_c mark h = elim (cases_Bool (mark == 99)) [
  | inl e ↦ absurd (let no : false ≡ true = subst (λ m. is_some (Console.console_of m) ≡ true) (eqb-true mark 99 e) h in cc)
  | inr e ↦ e
]

is_no_question : (args : List Spelled) → is_own args ≡ true → Computing.is_marked args ≡ false
is_no_question [] h = refl
is_no_question (SpelledText [] ∷ []) h = refl
is_no_question (SpelledText (mark ∷ line) ∷ []) h = not_c mark h
is_no_question (SpelledText [] ∷ v ∷ vs) h = refl
is_no_question (SpelledText (b ∷ t) ∷ v ∷ vs) h = refl
is_no_question (SpelledInt z ∷ vs) h = refl
is_no_question (SpelledUnit ∷ vs) h = refl
is_no_question (SpelledFlag b ∷ vs) h = refl
is_no_question (SpelledRef p ∷ vs) h = refl
is_no_question (SpelledFault code ∷ vs) h = refl
is_no_question (SpelledInts zs ∷ vs) h = refl

pub reads_console : (n here : ℕ) (s : State) (a : Act) (d : Desk Spelled) → n ≤ 64 → here < n → Console.desk_at s ≡ Some d → is_own a.args ≡ true
    → act_of n 1 here s a ≡ Console.session_outcome n s a
unfolding act_of Console.act_of
reads_console n here s a d few low desk own =
    ap (λ b. if is_place n here then (if b then computing_outcome n s a else Console.act_of n 1 here s a) else Compute.refused s a)
    (ap (λ b. if b then true else Computing.is_awaiting s.values) (is_no_question a.args own)
    ∙ is_no_flag s.values ((length s.conts == 0) && nat_le s.drawn 4000000000) d desk)
    ∙ rw (place n here few low) refl

pub other_kinds : (n kind here : ℕ) (s : State) (a : Act) → n ≤ 64 → here < n → kind ≢ 1 → kind ≢ 7 → act_of n kind here s a ≡ outcome_of n kind here s a
unfolding act_of Console.act_of
other_kinds n kind here s a few low one seven = rw (place n here few low, ne_eqb kind 1 one, ne_eqb kind 7 seven) refl

-- the acts of which a console's session prints what the plain space says
abbrev pub acting : Acting
acting = record {
  act_of = act_of;
  session = reads_console;
  others = other_kinds;
  keeps = keeps_laws;
  blind = is_blind;
}

-- ---- numbers and rings are computed

computing : (n here : ℕ) (s : State) (a : Act) → n ≤ 64 → here < n → Computing.computes s a ≡ true → act_of n 1 here s a ≡ computing_outcome n s a
unfolding act_of
computing n here s a few low e =
    ap (λ b. if is_place n here then (if b then computing_outcome n s a else Console.act_of n 1 here s a) else Compute.refused s a) e
    ∙ rw (place n here few low) refl

plain_acts : (n here : ℕ) (s : State) (a : Act) → n ≤ 64 → here < n → act_of n 7 here s a ≡ Compute.plain_outcome n here s a
unfolding act_of Compute.compute_outcome
plain_acts n here s a few low = rw (place n here few low) refl

pub acts_lawful : (n : ℕ) (p : Profile) → 1 ≤ n → n ≤ 64 → KeepsActLaws (rules_of act_of n p)
acts_lawful n p some few = record { laws = λ kind here s a low state act. keeps_laws n kind here s a some few low state act }

pub acts_blind : (n : ℕ) (p : Profile) → IsBlind (rules_of act_of n p)
acts_blind n p = record { blind = λ kind here s a. is_blind n kind here s a }

pub judged : (n : ℕ) (p : Profile) → 1 ≤ n → n ≤ 64 → IsJudged (rules_of act_of n p)
judged n p some few = record {
  computes = record {
    plain = λ here s a low. plain_acts n here s a few low;
    flow = λ here s a low. other_kinds n 33 here s a few low (λ e. absurd (omega (arith, e))) (λ e. absurd (omega (arith, e)));
    maker = λ here s a low. other_kinds n 3 here s a few low (λ e. absurd (omega (arith, e))) (λ e. absurd (omega (arith, e)));
    part = λ here s a low. other_kinds n 17 here s a few low (λ e. absurd (omega (arith, e))) (λ e. absurd (omega (arith, e)));
    session = λ here s a low e. computing n here s a few low e;
  };
  some = some;
  grammar = spells_well act_of n p;
  laws = acts_lawful n p some few;
  blind = acts_blind n p;
}
