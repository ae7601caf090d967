-- Where nothing is under way no object moves, so no action waits for one.
use Rattle.std.proofs.Common.{ℕ, true, false, List, [], ◌≡◌, ◌≤◌, Some, sym, ap, ◌∙◌, subst, inl, inr}
use Rattle.std.specs.Prelude.{is_some}
use Rattle.std.specs.List.{slice_get}
use Rattle.hpx_journal.specs.Data.{Id, Parcel}
use Rattle.hpx_journal.specs.Entries.{Rules, target_of}
use Rattle.hpx_journal.specs.Laws.{road_run}
use Rattle.hpx_journal.specs.Whole.{part, recorded_in, replayed}
use Rattle.hpx_part.specs.Data.{Entry}
use Rattle.hpx_agas.specs.declared.record.Waiting.{Waiting}
use Rattle.hpx_steps.specs.Calls.{act_in}
use Rattle.hpx_steps.specs.Homes.{WaitsWell}
use Rattle.hpx_steps.specs.Turn.{at_rest}
use Rattle.hpx_steps.proofs.Changes.{among_all}
use Rattle.hpx_tables.specs.Kept.{record_here}
use Rattle.hpx_tables.specs.Tables.{Tables}
use Rattle.hpx_world.proofs.AtPlace.{still}
use Rattle.hpx_world.proofs.Cleared.{IsCleared, nothing_among}
use Rattle.hpx_world.proofs.Counted.{AreNodes}
use Rattle.hpx_world.proofs.Known.{IsJoined, IsShown}
use Rattle.hpx_world.proofs.Named.{QueuedWell, queued_home, queued_there, queued_well}
use Rattle.hpx_world.proofs.Sound.{some_is}
use Rattle.hpx_world.proofs.Whereabouts.{its_home, its_record}

module _ (r : Rules) (log : ℕ) (nodes : List Tables) (es : List Entry) (joined : IsJoined r es) (each : AreNodes r log nodes es)
    (road : road_run [] es ≡ []) (cleared : (k : ℕ) (t : Tables) → slice_get nodes k ≡ Some t → IsCleared t)
    (k : ℕ) (t : Tables) (at : slice_get nodes k ≡ Some t) where
  s : IsShown r log es k t
  s = each.shown k t at

  -- the record of an object of here, of which credit is out
  module _ (o : Id) (home : o.home ≡ k) (managed : 16 ≤ o.kind) (some : 1 ≤ recorded_in o (replayed r es)) where
    found : record_here t o ≡ Some (its_record r log nodes es joined each o managed some).0
    found =
        let a = its_home r log nodes es joined each o managed some in
        let b = its_record r log nodes es joined each o managed some in
        let same : a.0 ≡ t = some_is a.0 t (sym a.1 ∙ (ap (slice_get nodes) home ∙ at)) in
        subst (λ (y : Tables). record_here y o ≡ Some b.0) same b.1

    rests : is_some (its_record r log nodes es joined each o managed some).0.moving ≡ false
    rests = still r log nodes es joined each road cleared o managed some

  waits_not : (w : Waiting Parcel) → QueuedWell r es joined log k t s w → WaitsWell (at_rest t) w → ⊥
  waits_not w h well =
      let o = target_of (act_in w.item) in
      let there = queued_there r es joined log k t s w h in
      let home = queued_home r es joined log k t s w h in
      let no = rests o home there.0 there.1 in
      elim (well.moves (its_record r log nodes es joined each o there.0 there.1).0 (found o home there.0 there.1)) [
        | inl moves ↦ let both : true ≡ false = sym moves ∙ no in cc
        | inr landed ↦ cc
      ]

  pub none_queued : t.queued ≡ []
  none_queued = nothing_among t.queued (λ w m.
      waits_not w (among_all (QueuedWell r es joined log k t s) w t.queued m (queued_well r es joined log k t s)) (s.homes.waits w m))
