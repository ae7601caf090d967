-- Where nothing can be done and no job is out, the world is quiet: it does not end early.
use Rattle.std.proofs.Common.{ℕ, List, [], ◌≡◌, ◌<◌, Option, Some, None, length, refl, sym, ◌∙◌, subst}
use Rattle.std.specs.List.{slice_get, count_by}
use Rattle.hpx_value.specs.declared.profile.Profile.{Profile}
use Rattle.hpx_journal.specs.Data.{Id}
use Rattle.hpx_journal.specs.Entries.{Rules, Frame}
use Rattle.hpx_journal.specs.Laws.{road_run}
use Rattle.hpx_journal.specs.Tokens.{is_owed}
use Rattle.hpx_journal.specs.Whole.{replayed}
use Rattle.hpx_journal.proofs.Grow.{run_road}
use Rattle.hpx_journal.proofs.Start.{first}
use Rattle.hpx_part.specs.Data.{Entry}
use Rattle.hpx_ports.specs.declared.fabric.Wire.{Wire}
use Rattle.hpx_steps.specs.Rest.{rules_of}
use Rattle.hpx_tables.specs.Tables.{Tables, IsPassive}
use Rattle.hpx_tables.proofs.Alls.{all_at}
use Rattle.hpx_node.proofs.Targets.{none_stuck}
use Rattle.hpx_world.specs.Away.{IsCarrying}
use Rattle.hpx_world.specs.Quiet.{IsQuiet, IsStuck, SendsNothing, NothingApplies, NoneRuns}
use Rattle.hpx_node.specs.Handled.{HasNothingToTend}
use Rattle.hpx_world.specs.Sound.{Meaning, IsSound}
use Rattle.hpx_world.specs.Steps.{IsHeld}
use Rattle.hpx_world.proofs.Audited.{all_each}
use Rattle.hpx_world.proofs.Cleared.{IsCleared, none_came, none_leaving}
use Rattle.hpx_world.proofs.Counted.{AreNodes}
use Rattle.hpx_world.proofs.Counts.{all_taken, road_empty}
use Rattle.hpx_world.proofs.Idle.{none_runs_at}
use Rattle.hpx_world.proofs.Known.{AreShown, IsJoined}
use Rattle.hpx_world.proofs.Lacking.{none_owed, none_pending}
use Rattle.hpx_world.proofs.Queued.{none_queued}
use Rattle.hpx_world.proofs.Sound.{told_all}
use Rattle.hpx_world.proofs.Strange.{are_nodes, are_shown, carrying_now, joined, lawful_now}
use Rattle.hpx_world.proofs.Strays.{none_stray}
use Rattle.hpx_world.proofs.Turned.{AreLawful}

module _ (act_of : Meaning) (profile : Profile) (nodes : List Tables) (es : List Entry) (sound : IsSound act_of profile nodes es) (laws : AreLawful act_of)
    (fl : Option (List Frame)) (tr : Option (List Wire))
    (c : IsCarrying (rules_of act_of (length nodes) profile) None fl tr es) (idle : NothingApplies nodes None fl) (none : NoneRuns nodes) where
  abbrev r : Rules
  r = rules_of act_of (length nodes) profile

  bare_road : road_run [] es ≡ []
  bare_road = road_empty r fl tr es c idle.flight

  empty : (replayed r es).road ≡ []
  empty = run_road r (first r) es ∙ bare_road

  known : IsJoined r es
  known = joined act_of profile nodes es sound (lawful_now act_of profile nodes es sound laws) c.carried

  each : AreNodes r profile.credit_log nodes es
  each = are_nodes act_of profile nodes es sound (lawful_now act_of profile nodes es sound laws) c.carried

  all_shown : AreShown r profile.credit_log es
  all_shown = are_shown act_of profile nodes es sound (lawful_now act_of profile nodes es sound laws) c.carried

  -- ---- no message goes, no action is accepted, and no commit waits

  no_desk : (k : ℕ) (t : Tables) → slice_get nodes k ≡ Some t → t.desk ≡ []
  no_desk k t at = (all_at HasNothingToTend nodes k t idle.desk at).1

  no_outgoing : (k : ℕ) (t : Tables) → slice_get nodes k ≡ Some t → t.outgoing ≡ []
  no_outgoing k t at = all_at SendsNothing nodes k t idle.pump at

  silent : (o : Id) (k : ℕ) → k < length nodes → count_by (is_owed o) ((replayed r es).places k).tokens ≡ 0
  silent o k lt =
      let x = each.node k lt in
      none_owed r profile.credit_log es known all_shown k x.0 (each.shown k x.0 x.1) (no_desk k x.0 x.1) (no_outgoing k x.0 x.1) o

  no_running : (k : ℕ) (t : Tables) → slice_get nodes k ≡ Some t → t.running ≡ []
  no_running k t at = none_runs_at nodes k t none at

  no_pending : (k : ℕ) (t : Tables) → slice_get nodes k ≡ Some t → t.pending ≡ []
  no_pending k t at = none_pending r profile.credit_log es known all_shown empty silent k t (each.shown k t at) (told_all act_of profile nodes es sound k t at).lacks

  no_accepted : (k : ℕ) (t : Tables) → slice_get nodes k ≡ Some t → t.accepted ≡ []
  no_accepted k t at = none_stuck t t.accepted (no_running k t at) (no_pending k t at) (each.shown k t at).tidy.targets (all_at IsStuck nodes k t idle.fire at)

  -- ---- so no object moves, and no action waits for one

  cleared : (k : ℕ) (t : Tables) → slice_get nodes k ≡ Some t → IsCleared t
  cleared k t at = record {
    desk = no_desk k t at;
    outgoing = no_outgoing k t at;
    leaving = none_leaving t (no_accepted k t at) (no_running k t at) (no_pending k t at) t.leaving (each.shown k t at).tidy.leaving
        (all_at HasNothingToTend nodes k t idle.desk at).0;
    came = none_came t (no_accepted k t at) (no_running k t at) (no_pending k t at) t.came refl (each.shown k t at).bare (each.shown k t at).arrived;
  }

  passive : (k : ℕ) (t : Tables) → slice_get nodes k ≡ Some t → IsPassive t
  passive k t at =
      let done = cleared k t at in
      record {
        accepted = no_accepted k t at;
        running = no_running k t at;
        pending = no_pending k t at;
        desk = done.desk;
        outgoing = done.outgoing;
        queued = none_queued r profile.credit_log nodes es known each bare_road cleared k t at;
        leaving = done.leaving;
        stray = none_stray r profile.credit_log nodes es known each bare_road cleared k t at;
        came = done.came;
      }

  pub held_quiet : IsQuiet nodes None
  held_quiet = record {
    passive = all_each IsPassive nodes passive;
    empty = refl;
    taken = all_taken act_of profile nodes es sound c.carried bare_road;
  }

-- so it is not held, after turns under the same rules
pub never_held : (act_of : Meaning) (profile : Profile) (nodes : List Tables) (es : List Entry) → IsSound act_of profile nodes es
    → (n : ℕ) (p : Profile) (h : Option Frame) (fl : Option (List Frame)) (tr : Option (List Wire)) → length nodes ≡ n → profile ≡ p
    → AreLawful act_of → IsCarrying (rules_of act_of n p) h fl tr es → IsHeld nodes h fl → ⊥
never_held act_of profile nodes es sound n p h fl tr count same laws c held =
    let none = held.idle.hand in
    let c' = subst (λ x. IsCarrying (rules_of act_of (length nodes) profile) x fl tr es) none (carrying_now act_of profile nodes es sound n p count same laws h fl tr c) in
    let idle = subst (λ x. NothingApplies nodes x fl) none held.idle in
    held.waits (subst (IsQuiet nodes) (sym none) (held_quiet act_of profile nodes es sound laws fl tr c' idle held.jobs))
