-- Where nothing is to be done, what an audit tells of stands where it says.
use Rattle.std.proofs.Common.{ℕ, List, [], ◌≡◌, ◌<◌, ◌≤◌, Option, Some, length, sym, ap, ◌∙◌, subst, arith, inl, inr}
use Rattle.std.specs.Option.{option_map_or}
use Rattle.std.specs.List.{slice_get, count_by, AllByRecursion}
use Rattle.hpx_value.specs.declared.profile.Profile.{Profile}
use Rattle.hpx_journal.specs.Data.{Id}
use Rattle.hpx_journal.specs.Entries.{Rules, Frame}
use Rattle.hpx_journal.specs.Laws.{KeepsActLaws, road_run}
use Rattle.hpx_journal.specs.Local.{is_standing, recorded}
use Rattle.hpx_journal.specs.Whole.{IsCarried, IsLegal, recorded_in, replayed}
use Rattle.hpx_journal.proofs.Grow.{run_road}
use Rattle.hpx_journal.proofs.Quiet.{legal_road_empty}
use Rattle.hpx_journal.proofs.Start.{first}
use Rattle.hpx_part.specs.Data.{Entry, Standing}
use Rattle.hpx_part.proofs.Keyed.{any_counted}
use Rattle.hpx_agas.specs.Records.{find_record}
use Rattle.hpx_agas.specs.declared.record.Record.{Record}
use Rattle.hpx_steps.specs.Rest.{rules_of}
use Rattle.hpx_steps.specs.Rows.{one_if}
use Rattle.hpx_steps.specs.Turn.{bare_standing}
use Rattle.hpx_steps.proofs.Sums.{map_sum}
use Rattle.hpx_tables.specs.Kept.{HasRecords, record_here}
use Rattle.hpx_tables.specs.Tables.{Tables, IsPassive}
use Rattle.hpx_tables.proofs.Alls.{all_at}
use Rattle.hpx_world.specs.Audit.{HaveRecords, StandsIn, StandWhereTold, audit_line, audit_lines, lines_at}
use Rattle.hpx_world.specs.Quiet.{IsQuiet}
use Rattle.hpx_world.specs.Sound.{Meaning, IsSound}
use Rattle.hpx_world.specs.declared.audit.AuditLine.{AuditLine}
use Rattle.hpx_world.proofs.AtPlace.{stands_told}
use Rattle.hpx_world.proofs.Audited.{all_each, all_flat, all_map, count_in_records}
use Rattle.hpx_world.proofs.Begun.{managed_here}
use Rattle.hpx_world.proofs.Cleared.{IsCleared, passive_cleared}
use Rattle.hpx_world.proofs.Counted.{at_is}
use Rattle.hpx_world.proofs.Counts.{sent_all, taken_all}
use Rattle.hpx_world.proofs.Found.{rises_found}
use Rattle.hpx_world.proofs.Known.{IsShown}
use Rattle.hpx_world.proofs.Sound.{get_some, sound_legal}
use Rattle.hpx_world.proofs.Strange.{are_nodes, is_shown, joined}
use Rattle.hpx_world.proofs.Whereabouts.{its_home, its_record}

module _ (act_of : Meaning) (profile : Profile) (nodes : List Tables) (es : List Entry) (sound : IsSound act_of profile nodes es)
    (laws : KeepsActLaws (rules_of act_of (length nodes) profile)) (carried : IsCarried (rules_of act_of (length nodes) profile) [] es)
    (hand : Option Frame) (quiet : IsQuiet nodes hand) (own : HaveRecords nodes) where
  abbrev r : Rules
  r = rules_of act_of (length nodes) profile

  legal : IsLegal r es
  legal = sound_legal act_of profile nodes es sound carried

  no_road : road_run [] es ≡ []
  no_road = sym (run_road r (first r) es)
      ∙ legal_road_empty r es legal (sym (taken_all act_of profile nodes es sound carried) ∙ (quiet.taken ∙ sent_all act_of profile nodes es sound carried))

  cleared : (k : ℕ) (t : Tables) → slice_get nodes k ≡ Some t → IsCleared t
  cleared k t at = passive_cleared t (all_at IsPassive nodes k t quiet.passive at)

  -- a live record
  module _ (k : ℕ) (t : Tables) (at : slice_get nodes k ≡ Some t) (i : ℕ) (x : Record) (there : slice_get t.records i ≡ Some x) where
    s : IsShown r profile.credit_log es k t
    s = is_shown act_of profile nodes es sound laws carried k t at

    records : HasRecords t
    records = all_at HasRecords nodes k t own at

    found : find_record x.gid t.records ≡ Some x
    found = rises_found 0 t.records i x records.rises there

    home : x.gid.home ≡ k
    home = ap (λ (o : Id). o.home) (records.good x.gid x found).id ∙ s.here

    some : 1 ≤ recorded_in x.gid (replayed r es)
    some = omega (
      arith,
      (records.good x.gid x found).least,
      ap (λ j. recorded x.gid ((replayed r es).places j)) home,
      s.shows.counts.live x.gid (home ∙ sym s.here),
      count_in_records x.gid t.records,
      ap (λ (y : Option Record). option_map_or (λ (z : Record). z.count) y 0) found,
    )

    managed : 16 ≤ x.gid.kind
    managed = managed_here r es legal x.gid some

    near : x.place < length nodes
    near = elim (s.flowing.near x.gid x found) [
      | inl here ↦ subst (λ j. j < length nodes) (sym (here ∙ s.here)) s.lt
      | inr lt ↦ subst (λ n. x.place < n) s.count lt
    ]

    -- its record is this one
    same : (its_record r profile.credit_log nodes es (joined act_of profile nodes es sound laws carried) (are_nodes act_of profile nodes es sound laws carried) x.gid managed some).0.place ≡ x.place
    same =
        let a = its_home r profile.credit_log nodes es (joined act_of profile nodes es sound laws carried) (are_nodes act_of profile nodes es sound laws carried) x.gid managed some in
        let b = its_record r profile.credit_log nodes es (joined act_of profile nodes es sound laws carried) (are_nodes act_of profile nodes es sound laws carried) x.gid managed some in
        let one : a.0 ≡ t = some_tables a.0 t (sym a.1 ∙ (ap (slice_get nodes) home ∙ at)) in
        ap (λ (y : Record). y.place) (some_record b.0 x (sym (subst (λ (u : Tables). record_here u x.gid ≡ Some b.0) one b.1) ∙ found))
      where
        some_tables : (a b : Tables) → ◌≡◌ (Some a) (Some b) → a ≡ b
        some_tables a b e = cc

        some_record : (a b : Record) → ◌≡◌ (Some a) (Some b) → a ≡ b
        some_record a b e = cc

    stands_one : StandsIn r.localities (replayed r es) x.gid x.place
    stands_one =
        let z = get_some nodes x.place near in
        let there = is_shown act_of profile nodes es sound laws carried x.place z.0 z.1 in
        let one = stands_told r profile.credit_log nodes es (joined act_of profile nodes es sound laws carried) (are_nodes act_of profile nodes es sound laws carried) no_road cleared
        x.gid managed some x.place near same in
        record {
          below = near;
          stands = any_counted (is_standing x.gid) ((replayed r es).places x.place).objects (omega (
            arith,
            one,
            at_is nodes (λ (y : Tables). count_by (is_standing x.gid) y.objects) x.place z.0 z.1,
            there.shows.objects.objects.counts x.gid,
            map_sum (λ (y : Standing). one_if (is_standing x.gid y)) bare_standing z.0.objects,
          ));
        }

  pub where_told : StandWhereTold r es (audit_lines nodes)
  where_told = all_flat (λ (x : AuditLine). StandsIn r.localities (replayed r es) x.gid x.at) (lines_at nodes) nodes (all_each (λ t. AllByRecursion (λ (x : AuditLine). StandsIn r.localities (replayed r es) x.gid x.at) (lines_at nodes t)) nodes
      (λ k t at. all_map (λ (x : AuditLine). StandsIn r.localities (replayed r es) x.gid x.at) (audit_line nodes) t.records
      (all_each (λ x. StandsIn r.localities (replayed r es) x.gid x.place) t.records (λ i x there. stands_one k t at i x there))))
