-- What is promised after a turn, and what is so where nothing is to be done then.
use Rattle.std.specs.Prelude.{Result, Ok, Err, OnOk, Option}
use Rattle.std.proofs.Common.{ℕ, List, [], ◌≡◌, ◌<◌, ◌≤◌, length, subst}
use Rattle.hpx_value.specs.declared.profile.Profile.{Profile}
use Rattle.hpx_value.specs.Laws.{KeepsLaws}
use Rattle.hpx_value.specs.Shapes.{IsAct, IsState}
use Rattle.hpx_journal.specs.Data.{State, Act}
use Rattle.hpx_journal.specs.Entries.{Frame}
use Rattle.hpx_journal.specs.Whole.{IsCarried, replayed}
use Rattle.hpx_part.specs.Data.{Entry}
use Rattle.hpx_steps.specs.Rest.{rules_of}
use Rattle.hpx_tables.specs.Tables.{Tables}
use Rattle.hpx_world.specs.Promises.{KeepsPromises}
use Rattle.hpx_world.specs.Quiet.{IsQuiet, IsAtRest}
use Rattle.hpx_world.specs.Sound.{Meaning, IsSound}
use Rattle.hpx_world.proofs.Promised.{promised}
use Rattle.hpx_world.proofs.Rested.{quiet_rests}
use Rattle.hpx_world.proofs.Sound.{spells_well}

-- the outcomes keep the laws of actions, at 1 to 64 localities
abbrev pub AreLawful : Meaning → Type 0
AreLawful act_of = (n kind here : ℕ) (s : State) (a : Act) → 1 ≤ n → n ≤ 64 → here < n → IsState s → IsAct a
    → KeepsLaws n kind here s a (act_of n kind here s a)

promised_now : (act_of : Meaning) (profile : Profile) (nodes : List Tables) (es : List Entry) → AreLawful act_of → IsSound act_of profile nodes es
    → IsCarried (rules_of act_of (length nodes) profile) [] es → KeepsPromises (rules_of act_of (length nodes) profile) es
promised_now act_of profile nodes es laws sound carried =
    promised act_of profile nodes es sound (spells_well act_of (length nodes) profile)
    (record { laws = λ kind here s a h state act. laws (length nodes) kind here s a sound.some sound.few h state act }) carried

pub promised_then : (act_of : Meaning) (profile profile' : Profile) (nodes nodes' : List Tables) (es : List Entry) → AreLawful act_of
    → IsSound act_of profile' nodes' es → length nodes' ≡ length nodes → profile' ≡ profile
    → IsCarried (rules_of act_of (length nodes) profile) [] es → KeepsPromises (rules_of act_of (length nodes) profile) es
promised_then act_of profile profile' nodes nodes' es laws sound count same =
    subst (λ p. IsCarried (rules_of act_of (length nodes) p) [] es → KeepsPromises (rules_of act_of (length nodes) p) es) same
    (subst (λ n. IsCarried (rules_of act_of n profile') [] es → KeepsPromises (rules_of act_of n profile') es) count
    (promised_now act_of profile' nodes' es laws sound))

rests_now : (act_of : Meaning) (profile : Profile) (nodes : List Tables) (es : List Entry) (hand : Option Frame) → IsSound act_of profile nodes es
    → IsCarried (rules_of act_of (length nodes) profile) [] es → IsQuiet nodes hand
    → IsAtRest (rules_of act_of (length nodes) profile) (replayed (rules_of act_of (length nodes) profile) es)
rests_now act_of profile nodes es hand sound carried quiet =
    quiet_rests act_of profile nodes es sound (spells_well act_of (length nodes) profile) carried hand quiet

rests_ok : {T E : Type 0} (result : Result T E) (Q P R : Type 0) → (P → R) → OnOk result (Q → P) → OnOk result (Q → R)
rests_ok (Ok x) Q P R f h = λ q. f (h q)
rests_ok (Err e) Q P R f h = tt

pub rests_then : {T E : Type 0} (act_of : Meaning) (profile profile' : Profile) (nodes nodes' : List Tables) (es : List Entry) (hand : Option Frame)
    (result : Result T E) (Q : Type 0) → IsSound act_of profile' nodes' es → length nodes' ≡ length nodes → profile' ≡ profile
    → IsCarried (rules_of act_of (length nodes) profile) [] es → OnOk result (Q → IsQuiet nodes' hand)
    → OnOk result (Q → IsAtRest (rules_of act_of (length nodes) profile) (replayed (rules_of act_of (length nodes) profile) es))
rests_then act_of profile profile' nodes nodes' es hand result Q sound count same carried =
    rests_ok result Q (IsQuiet nodes' hand) (IsAtRest (rules_of act_of (length nodes) profile) (replayed (rules_of act_of (length nodes) profile) es))
    ((subst (λ p. IsCarried (rules_of act_of (length nodes) p) [] es → IsQuiet nodes' hand
    → IsAtRest (rules_of act_of (length nodes) p) (replayed (rules_of act_of (length nodes) p) es)) same
    (subst (λ n. IsCarried (rules_of act_of n profile') [] es → IsQuiet nodes' hand
    → IsAtRest (rules_of act_of n profile') (replayed (rules_of act_of n profile') es)) count
    (rests_now act_of profile' nodes' es hand sound))) carried)
