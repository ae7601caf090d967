-- Each frame on the road is another locality's own, and brings a root's action home.
use Rattle.std.proofs.Common.{ℕ, zero, suc, List, [], ◌∷◌, ◌≡◌, ◌<◌, ◌≤◌, ◌+◌, refl, sym, ap, ◌∙◌, subst, arith, inl, inr}
use Rattle.std.specs.Prelude.{◌⊎◌}
use Rattle.std.specs.List.{sum_by, AllByRecursion}
use Rattle.std.proofs.lemmas.List.Sums.{sum_by-cons}
use Rattle.hpx_journal.specs.Data.{Id}
use Rattle.hpx_journal.specs.Entries.{Rules, Frame}
use Rattle.hpx_journal.specs.Laws.{IsOnRoad, road_run}
use Rattle.hpx_journal.specs.Whole.{arrives, part, sends, replayed}
use Rattle.hpx_journal.proofs.Alls.{all-map}
use Rattle.hpx_journal.proofs.Failures.{below_all}
use Rattle.hpx_journal.proofs.Frames.{each_entry, each_frame}
use Rattle.hpx_journal.proofs.Grow.{run_road}
use Rattle.hpx_journal.proofs.PoolMoves.{arrived}
use Rattle.hpx_journal.proofs.Start.{first}
use Rattle.hpx_part.specs.Data.{Event, Entry, Out}
use Rattle.hpx_steps.specs.Rows.{weighed}
use Rattle.hpx_steps.specs.Sound.{IsOwnFrame, SendsOwn, all_count, gone, leads_on}
use Rattle.hpx_tables.specs.Tables.{Tables}
use Rattle.hpx_tables.specs.declared.kept.Outgoing.{Outgoing}
use Rattle.hpx_world.proofs.Counted.{AreNodes}
use Rattle.hpx_world.proofs.Known.{IsJoined, IsShown}
use Rattle.hpx_world.proofs.Named.{lawful}
use Rattle.hpx_world.proofs.Numbered.{root_grants}

-- a locality that there is sent it, as its own; and no action on a root from the root's home
pub record IsSentWell (r : Rules) (log : ℕ) (f : Frame) : Type 0 where
  pub from : ℕ
  pub below : from < r.localities
  pub own : IsOwnFrame r r.localities from log f.0 f.1
  pub roots : (o : Id) → o.kind < 16 → leads_on from o own.parcel ≡ 0

abbrev SendsWell : Rules → ℕ → ℕ → Event → Type 0
SendsWell r k log e = SendsOwn r r.localities k log e × ((o : Id) → o.kind < 16 → gone r (leads_on k o) e ≡ 0)

sent_well : (r : Rules) (log k : ℕ) (e : Event) → k < r.localities → SendsWell r k log e → AllByRecursion (IsSentWell r log) (sends e)
sent_well r log k (Out to bytes) lt h = (record { from = k; below = lt; own = h.0; roots = λ o small. sym (ap (weighed (leads_on k o)) h.0.spelled) ∙ h.1 o small }, tt)
sent_well r log k _ lt h = tt

-- what sums to nothing is nothing each time
no_event : (f : Event → ℕ) (es : List Entry) → all_count f es ≡ 0 → AllByRecursion (λ (e : Entry). f e.event ≡ 0) es
no_event f [] h = tt
no_event f (e ∷ es) h = let c = sum_by-cons (λ (x : Entry). f x.event) e es in (omega (arith, h, c), no_event f es (omega (arith, h, c)))

all_well : (r : Rules) (log k : ℕ) (es : List Entry) → AllByRecursion (λ (e : Entry). SendsOwn r r.localities k log e.event) es
    → ((o : Id) → o.kind < 16 → AllByRecursion (λ (e : Entry). gone r (leads_on k o) e.event ≡ 0) es) → AllByRecursion (λ (e : Entry). SendsWell r k log e.event) es
all_well r log k [] own stays = tt
all_well r log k (e ∷ es) own stays = ((own.0, λ o small. (stays o small).0), all_well r log k es own.1 (λ o small. (stays o small).1))

none_or_some : (n : ℕ) → (n ≡ 0) ⊎ (1 ≤ n)
none_or_some zero = inl refl
none_or_some (suc n) = inr (omega arith)

module _ (r : Rules) (log : ℕ) (nodes : List Tables) (es : List Entry) (joined : IsJoined r es) (each : AreNodes r log nodes es) where
  none_onward : (k : ℕ) (t : Tables) → IsShown r log es k t → (o : Id) → o.kind < 16 → all_count (gone r (leads_on k o)) (part k es) ≡ 0
  none_onward k t s o small = elim (none_or_some (all_count (gone r (leads_on k o)) (part k es))) [
    | inl none ↦ none
    | inr some ↦ absurd (omega (
      arith,
      root_grants r log es joined.grammar (lawful r es joined) k t s o small,
      s.begun.onward o (subst (λ (n : ℕ). 1 ≤ all_count (gone r (leads_on n o)) (part k es) + sum_by (λ (x : Outgoing). leads_on n o x.parcel) t.outgoing) (sym s.here)
          (omega (arith, some))),
    ))
  ]

  pub sends_own : AllByRecursion (λ (e : Entry). SendsOwn r r.localities e.at log e.event) es
  sends_own = each_entry r.localities (λ k e. SendsOwn r r.localities k log e) es (below_all r [] es joined.join.carried)
      (λ k lt. let x = each.node k lt in (each.shown k x.0 x.1).order.sent)

  sends_well : AllByRecursion (λ (e : Entry). AllByRecursion (IsSentWell r log) (sends e.event)) es
  sends_well = each_entry r.localities (λ k e. AllByRecursion (IsSentWell r log) (sends e)) es (below_all r [] es joined.join.carried) (λ k lt.
      let x = each.node k lt in
      let s = each.shown k x.0 x.1 in
      all-map (λ (e : Entry). SendsWell r k log e.event) (λ (e : Entry). AllByRecursion (IsSentWell r log) (sends e.event))
      (λ e h. sent_well r log k e.event lt h) (part k es)
      (all_well r log k (part k es) s.order.sent (λ o small. no_event (gone r (leads_on k o)) (part k es) (none_onward k x.0 s o small))))

  frames_well : AllByRecursion (IsSentWell r log) (road_run [] es) × AllByRecursion (λ e. AllByRecursion (IsSentWell r log) (arrives e)) es
  frames_well = each_frame r (IsSentWell r log) [] es joined.join.carried tt sends_well

  pub arrivals_well : AllByRecursion (λ e. AllByRecursion (IsSentWell r log) (arrives e)) es
  arrivals_well = frames_well.1

  pub road_well : (f : Frame) → IsOnRoad f (replayed r es) → IsSentWell r log f
  road_well f on = arrived (IsSentWell r log) (replayed r es).road f
      (subst (AllByRecursion (IsSentWell r log)) (sym (run_road r (first r) es)) frames_well.0) on
