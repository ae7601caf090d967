-- The rules under which a journal of an application that computes is judged.
use Rattle.std.specs.Prelude.{ℕ, true, List, Option, ◌==◌, if◌then◌else◌, ◌≡◌, ◌<◌, ◌≤◌}
use Rattle.hpx_journal.specs.Data.{Parcel}
use Rattle.hpx_journal.specs.Entries.{Rules}
use Rattle.hpx_journal.specs.Laws.{HasGrammar, KeepsActLaws}
use Rattle.hpx_journal.specs.Pool.{IsBlind}
use Rattle.hpx_calls.specs.Outcomes.{outcome_of}
use Rattle.app_compute.specs.Types.{State, Act, Outcome}
use Rattle.app_compute.specs.Acts.{compute_outcome, plain_outcome, refused}
use Rattle.app_compute.specs.Computing.{computing_outcome}
use Rattle.app_compute.specs.Session.{computes}

-- plain objects, kind 7, components, kind 3, parts of a ring, kind 17, and dataflows, kind 33, do what they do here, and so does
-- the session, kind 1, where it computes
pub record Computes (r : Rules) : Type 0 where
  pub plain : (here : ℕ) (s : State) (a : Act) → here < r.localities → r.outcome_of 7 here s a ≡ plain_outcome r.localities here s a
  pub flow : (here : ℕ) (s : State) (a : Act) → here < r.localities → r.outcome_of 33 here s a ≡ outcome_of r.localities 33 here s a
  pub maker : (here : ℕ) (s : State) (a : Act) → here < r.localities → r.outcome_of 3 here s a ≡ outcome_of r.localities 3 here s a
  pub part : (here : ℕ) (s : State) (a : Act) → here < r.localities → r.outcome_of 17 here s a ≡ outcome_of r.localities 17 here s a
  pub session : (here : ℕ) (s : State) (a : Act) → here < r.localities → computes s a ≡ true → r.outcome_of 1 here s a ≡ computing_outcome r.localities s a

-- a law of journals can speak of it: it has a locality, bytes spell parcels, and all actions keep the laws
pub record IsJudged (r : Rules) : Type 0 where
  pub computes : Computes r
  pub some : 1 ≤ r.localities
  pub grammar : HasGrammar r
  pub laws : KeepsActLaws r
  pub blind : IsBlind r

-- acts with no other session than the one that computes
abbrev pub acts_alone : ℕ → ℕ → ℕ → State → Act → Outcome
acts_alone n kind here s a =
    if kind == 1 then (if computes s a then computing_outcome n s a else refused s a) else compute_outcome n kind here s a

-- the rules of their journals, at n localities, whatever bytes spell
abbrev pub judging_alone : ℕ → ℕ → ℕ → (List ℕ → Option Parcel) → Rules
judging_alone n credit_log credit_limit parcel_of = record {
  localities = n;
  credit_log = credit_log;
  credit_limit = credit_limit;
  parcel_of = parcel_of;
  outcome_of = acts_alone n;
}
