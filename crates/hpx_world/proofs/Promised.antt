-- What all localities write keeps what is promised: by the laws of journals, for the join of their parts.
use Rattle.std.proofs.Common.{◌≡◌, ◌∙◌, ◌<◌, ℕ, List, [], ◌∷◌, ◌++◌, length, sym, subst, arith, append_assoc, true, false}
use Rattle.hpx_value.specs.declared.profile.Profile.{Profile}
use Rattle.hpx_journal.specs.Entries.{Rules}
use Rattle.hpx_journal.specs.Laws.{HasGrammar, KeepsActLaws, RefusesForCause, entry_at}
use Rattle.hpx_journal.specs.Whole.{IsLegal, IsJoin, IsCarried, part}
use Rattle.hpx_journal.proofs.Failures.{legal_refusals}
use Rattle.hpx_journal.proofs.Fronts.{legal_front, legal_rest}
use Rattle.hpx_journal.proofs.Grow.{join_front}
use Rattle.hpx_journal.proofs.Quiet.{legal_freed_once, legal_gone, legal_away, freed_managed}
use Rattle.hpx_journal.proofs.SlotsWhole.{legal_slots}
use Rattle.hpx_journal.proofs.Start.{first, joined_legal, joined_named, joined_asked, joined_backed, joined_dead, legal_sums, legal_dies, legal_freed_dead, legal_begun, legal_fires_begun, legal_dones, legal_dones_where, legal_running, legal_stands, legal_commits, legal_fails}
use Rattle.hpx_part.specs.Data.{Entry, Done, Freed, Count, Granted, Refused}
use Rattle.hpx_steps.specs.Rest.{rules_of}
use Rattle.hpx_tables.specs.Tables.{Tables}
use Rattle.hpx_node.proofs.RowLaws.{refuses_for_cause}
use Rattle.hpx_world.specs.Sound.{Meaning, IsSound}
use Rattle.hpx_world.proofs.Sound.{get_some, told_all, sound_joins}
use Rattle.hpx_world.specs.Promises.{KeepsLedger, KeepsLife, RunsOnce, AnswersOnce, KeepsLimit, KeepsPromises}

-- ---- a join

module _ (r : Rules) (es : List Entry) (grammar : HasGrammar r) (join : IsJoin r es) where
  legal : IsLegal r es
  legal = joined_legal r grammar es join

  -- of a front
  legal_at : (front later : List Entry) → es ≡ front ++ later → IsLegal r (front ++ later)
  legal_at front later e = subst (IsLegal r) e legal

  join_at : (front later : List Entry) → es ≡ front ++ later → IsJoin r (front ++ later)
  join_at front later e = subst (IsJoin r) e join

  pub join_ledger : KeepsLedger r es
  join_ledger = record {
    legal = legal;
    sums = λ front later e o. legal_sums r front later (legal_at front later e) o;
    dies = λ front later e o. legal_dies r front later (legal_at front later e) o;
  }

  pub join_life : KeepsLife r es
  join_life = record {
    named = λ front later e o managed. joined_named r grammar front later (join_at front later e) o managed;
    asked = λ front later e o managed. joined_asked r grammar front later (join_at front later e) o managed;
    backed = λ front later e k i. joined_backed r grammar front later (join_at front later e) k i;
    unnamed = λ front more later e o managed dead.
        joined_dead r grammar front more (join_front r (first r) (front ++ more) later (join_at (front ++ more) later (e ∙ sym (append_assoc front more later)))) o managed dead;
    freed = λ front later k o e. legal_freed_dead r front later k o (legal_at front (entry_at k (Freed o) ∷ later) e);
    once = λ o. legal_freed_once r es legal o;
    gone = λ o k i freed. legal_gone r es legal o k (freed_managed r es legal o freed) i freed;
    away = λ o freed. legal_away r es legal o (freed_managed r es legal o freed) freed;
  }

  pub join_once : RunsOnce r es
  join_once = record {
    begun_once = λ a. legal_begun r es legal a;
    fired_once = λ a. legal_fires_begun r es legal a;
    done_once = λ a. legal_dones r es legal a;
    done_where = λ a k. legal_dones_where r es legal k a;
    runs = λ front later e k a. legal_running r front (legal_front r (first r) front later (legal_at front later e)) k a;
    stands = λ front later e k. legal_stands r front (legal_front r (first r) front later (legal_at front later e)) k;
    committed = λ front later k a e. legal_commits r front later k a (legal_at front (entry_at k (Done a false) ∷ later) e);
    failed = λ front later k a e. legal_fails r front later k a (legal_at front (entry_at k (Done a true) ∷ later) e);
  }

  pub join_answers : KeepsActLaws r → AnswersOnce r es
  join_answers laws = record {
    claimed = λ front later e x. legal_slots r grammar laws front (legal_front r (first r) front later (legal_at front later e)) x;
  }

  pub join_limit : ((k : ℕ) → k < r.localities → RefusesForCause r (part k es)) → KeepsLimit r es
  join_limit cause = record {
    failures = legal_refusals r es legal cause;
    granted = λ front later k o count e. let row = (legal_rest r (first r) front (entry_at k (Count o count Granted) ∷ later) (legal_at front (entry_at k (Count o count Granted) ∷ later) e)).0.allowed.row in (row.2, row.3);
    refused = λ front later k o count e. let row = (legal_rest r (first r) front (entry_at k (Count o count Refused) ∷ later) (legal_at front (entry_at k (Count o count Refused) ∷ later) e)).0.allowed.row in
        (row.2, omega (arith, row.2, row.3));
  }

-- ---- all localities

module _ (act_of : Meaning) (profile : Profile) (nodes : List Tables) (es : List Entry) (sound : IsSound act_of profile nodes es) where
  abbrev pub rules : Rules
  rules = rules_of act_of (length nodes) profile

  -- an id with no more credit goes or is handed over only for a cause
  causes : (k : ℕ) → k < length nodes → RefusesForCause rules (part k es)
  causes k lt = let x = get_some nodes k lt in
      subst (λ j. RefusesForCause rules (part j es)) (sound.stand k x.0 x.1).here
      (refuses_for_cause rules x.0 es (told_all act_of profile nodes es sound k x.0 x.1).stands)

  pub promised : HasGrammar rules → KeepsActLaws rules → IsCarried rules [] es → KeepsPromises rules es
  promised grammar laws carried = let join = sound_joins act_of profile nodes es sound carried in record {
    ledger = join_ledger rules es grammar join;
    life = join_life rules es grammar join;
    actions = join_once rules es grammar join;
    continuations = join_answers rules es grammar join laws;
    limit = join_limit rules es grammar join causes;
  }
