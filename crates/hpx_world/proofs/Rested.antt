-- Where nothing is to be done, nothing is under way, and as many credits are held as there are names.
use Rattle.std.proofs.Common.{ℕ, zero, suc, List, [], ◌∷◌, ◌≡◌, ◌<◌, length, Some, Option, sym, ◌∙◌, subst}
use Rattle.std.specs.List.{slice_get, AllByRecursion}
use Rattle.hpx_value.specs.declared.profile.Profile.{Profile}
use Rattle.hpx_journal.specs.Entries.{Rules, Frame}
use Rattle.hpx_journal.specs.Laws.{HasGrammar, FreesTheDead, outs, ins}
use Rattle.hpx_journal.specs.Tokens.{held}
use Rattle.hpx_journal.specs.Whole.{IsLegal, IsCarried, IsQuietAt, IsClean, replayed, part, run_local}
use Rattle.hpx_journal.proofs.Grow.{run_part}
use Rattle.hpx_journal.proofs.Deaths.{legal_all_freed}
use Rattle.hpx_journal.proofs.Quiet.{legal_quiet, legal_road_empty}
use Rattle.hpx_journal.proofs.Start.{first, legal_part_clean}
use Rattle.hpx_part.specs.Data.{Entry}
use Rattle.hpx_part.specs.Parts.{at_boot}
use Rattle.hpx_part.specs.Shows.{Shows}
use Rattle.hpx_steps.specs.Rest.{view, rules_of}
use Rattle.hpx_tables.specs.Tables.{Tables, IsPassive}
use Rattle.hpx_node.proofs.Numbers.{rest_shown}
use Rattle.hpx_node.proofs.RowLaws.{frees_the_dead}
use Rattle.hpx_node.proofs.Passive.{passive_quiet}
use Rattle.hpx_world.specs.Sound.{Meaning, IsSound}
use Rattle.hpx_world.specs.Quiet.{IsQuiet, IsAtRest}
use Rattle.hpx_world.proofs.Counts.{sent_all, taken_all}
use Rattle.hpx_world.proofs.Sound.{get_some, told_all, sound_legal}

-- ---- all of them

passive_at : (nodes : List Tables) (k : ℕ) (t : Tables) → AllByRecursion IsPassive nodes → slice_get nodes k ≡ Some t → IsPassive t
passive_at [] k t h at = absurd (cc)
passive_at (x ∷ xs) zero t h at = let e : x ≡ t = cc in subst IsPassive e h.0
passive_at (x ∷ xs) (suc k) t h at = passive_at xs k t h.1 at

module _ (act_of : Meaning) (profile : Profile) (nodes : List Tables) (es : List Entry) (sound : IsSound act_of profile nodes es)
    (grammar : HasGrammar (rules_of act_of (length nodes) profile)) (carried : IsCarried (rules_of act_of (length nodes) profile) [] es) where
  abbrev r : Rules
  r = rules_of act_of (length nodes) profile

  legal : IsLegal r es
  legal = sound_legal act_of profile nodes es sound carried

  -- a node shows what the journal leaves at its locality
  pub shown_at : (k : ℕ) (t : Tables) → k < length nodes → slice_get nodes k ≡ Some t → Shows (view t [] []) ((replayed r es).places k)
  shown_at k t lt at =
      subst (Shows (view t [] [])) (sym (run_part r (first r) es k))
      (subst (λ j. IsClean r (at_boot r j) (part j es) → Shows (view t [] []) (run_local r (at_boot r j) (part j es))) (sound.stand k t at).here
      (told_all act_of profile nodes es sound k t at).stands.keeps.shows (legal_part_clean r es legal grammar k lt))

  pub quiet_rests : (hand : Option Frame) → IsQuiet nodes hand → IsAtRest r (replayed r es)
  quiet_rests hand quiet = record {
    quiet = legal_quiet r es legal places_quiet same (λ o dead. legal_all_freed r es legal (legal_road_empty r es legal same) frees_at o dead);
    held = λ o k managed lt. let x = get_some nodes k lt in
        rest_shown x.0 ((replayed r es).places k) o managed (passive_at nodes k x.0 quiet.passive x.1) (told_all act_of profile nodes es sound k x.0 x.1).stands.tidy (shown_at k x.0 lt x.1);
  }
    where
      same : length (ins es) ≡ length (outs es)
      same = sym (taken_all act_of profile nodes es sound carried) ∙ (quiet.taken ∙ sent_all act_of profile nodes es sound carried)

      places_quiet : (k : ℕ) → k < length nodes → IsQuietAt ((replayed r es).places k)
      places_quiet k lt = let x = get_some nodes k lt in
          passive_quiet x.0 ((replayed r es).places k) (passive_at nodes k x.0 quiet.passive x.1) (shown_at k x.0 lt x.1)

      frees_at : (k : ℕ) → k < length nodes → FreesTheDead r k (part k es)
      frees_at k lt = let x = get_some nodes k lt in
          subst (λ j. FreesTheDead r j (part j es)) (sound.stand k x.0 x.1).here
          (frees_the_dead r x.0 es (told_all act_of profile nodes es sound k x.0 x.1).stands (passive_at nodes k x.0 quiet.passive x.1))
