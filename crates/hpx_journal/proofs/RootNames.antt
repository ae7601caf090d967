-- Each id of a root's kind is that of a root.
use Rattle.std.proofs.Common.{ℕ, List, refl, arith, inl}
use Rattle.hpx_value.specs.Hands.{session}
use Rattle.hpx_value.specs.declared.outcome.Target.{Target}
use Rattle.hpx_value.specs.declared.outcome.Target.TheVariants.{Place, Root}
use Rattle.hpx_value.specs.Laws.{IsTarget}
use Rattle.hpx_journal.specs.Entries.{Entry, Rules}
use Rattle.hpx_journal.specs.Whole.{IsLegal, replayed}
use Rattle.hpx_journal.specs.Laws.{HasGrammar, KeepsActLaws}
use Rattle.hpx_journal.specs.Natives.{EachName, IsRootId, IsRootIfSmall}
use Rattle.hpx_journal.proofs.Alls.{all-map}
use Rattle.hpx_journal.proofs.Handed.{TargetIs, SendIs}
use Rattle.hpx_journal.proofs.Native.{IsGiven, legal_named}

abbrev AnyCode : ℕ → Type 0
AnyCode code = Unit {0}

pub session_root : (n : ℕ) → IsRootId n session
session_root n = record { root = inl (inl refl, refl); number = refl }

root_target : (n : ℕ) (t : Target) → IsTarget n t → TargetIs (IsRootIfSmall n) t
root_target n (Place place) h = tt
root_target n (Root kind at) h = λ small. record { root = h; number = refl }

module _ (r : Rules) (grammar : HasGrammar r) (laws : KeepsActLaws r) where
  given_roots : IsGiven r (IsRootIfSmall r.localities) AnyCode
  given_roots = record {
    session = λ small. session_root r.localities;
    managed = λ o managed small. absurd (omega arith);
    line = tt;
    set = tt;
    sends = λ kind here s a h state act.
        all-map (λ x. IsTarget r.localities x.target) (SendIs (IsRootIfSmall r.localities) AnyCode)
        (λ x i. (root_target r.localities x.target i, tt)) (r.outcome_of kind here s a).sends (laws.laws kind here s a h state act).roots;
  }

  pub root_names : (es : List Entry) → IsLegal r es → EachName r (IsRootIfSmall r.localities) (replayed r es)
  root_names es legal = legal_named r grammar laws (IsRootIfSmall r.localities) AnyCode given_roots es legal
