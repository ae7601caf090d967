-- What frees an object breaks no rule where it comes: the object stands there, and no credit of it is left.
use Rattle.std.proofs.Common.{ℕ, Bool, true, false, cond, List, [], ◌∷◌, ◌++◌, ◌≡◌, ◌+◌, ◌<◌, ◌≤◌, ◌==◌, None, Some, refl, sym, ap, ◌∙◌, subst, arith, append-nil}
use Rattle.std.specs.Prelude.{flat_map}
use Rattle.std.specs.List.{slice_get, sum_by, AllByRecursion}
use Rattle.std.proofs.lemmas.Bool.{eq-eqb, lt-leb}
use Rattle.std.proofs.lemmas.List.Sums.{sum_by-cons}
use Rattle.hpx_parcel.specs.Parcels.{IsParcel}
use Rattle.hpx_journal.specs.Data.{Id, Parcel, Free}
use Rattle.hpx_journal.specs.Entries.{Rules, Frame}
use Rattle.hpx_journal.specs.Laws.{IsBornIn, IsOnRoad, road_run}
use Rattle.hpx_journal.specs.Rows.{IsDead}
use Rattle.hpx_journal.specs.Whole.{IsDeadIn, IsLegal, credit_sum, replayed}
use Rattle.hpx_journal.proofs.Credited.{among}
use Rattle.hpx_journal.proofs.Grow.{run_road}
use Rattle.hpx_journal.proofs.PoolMoves.{arrived}
use Rattle.hpx_journal.proofs.Same.{same_object-refl}
use Rattle.hpx_journal.proofs.Start.{first, joined_legal, legal_dies, legal_frees}
use Rattle.hpx_part.specs.Data.{Entry}
use Rattle.hpx_steps.specs.Frames.{IsForHere, MayGoTo}
use Rattle.hpx_steps.specs.Rest.{bound_for}
use Rattle.hpx_steps.specs.Rows.{frees_one, one_if}
use Rattle.hpx_steps.specs.Turn.{parcel_frees}
use Rattle.hpx_tables.specs.Kept.{held_here}
use Rattle.hpx_tables.specs.Rules.{broken}
use Rattle.hpx_tables.specs.Strange.{is_far}
use Rattle.hpx_tables.specs.Tables.{Tables}
use Rattle.hpx_node.proofs.Messages.{messages_first}
use Rattle.hpx_world.proofs.AtEach.{AreNodes}
use Rattle.hpx_world.proofs.Dying.{up, unheld, unwaited, way}
use Rattle.hpx_world.proofs.FromOthers.{IsSentWell, road_well}
use Rattle.hpx_world.proofs.Known.{IsJoined, IsShown}
use Rattle.hpx_world.proofs.Traffic.{bound}

one_free : (o : Id) → frees_one o (Free o) ≡ 1
one_free o = ap one_if (same_object-refl o)

module _ (r : Rules) (log : ℕ) (nodes : List Tables) (es : List Entry) (joined : IsJoined r es) (each : AreNodes r log nodes es) where
  legal : IsLegal r es
  legal = joined_legal r joined.grammar es joined.join

  module _ (k : ℕ) (t : Tables) (at : slice_get nodes k ≡ Some t) (o : Id) (managed : 16 ≤ o.kind) (home : o.home < r.localities) (dead : IsDeadIn o (replayed r es)) where
    s : IsShown r log es k t
    s = each.shown k t at

    gone : IsBornIn o (replayed r es) × (credit_sum r o (replayed r es) ≡ 0)
    gone = (legal_dies r es [] (subst (IsLegal r) (sym (append-nil es)) legal) o).0 dead

    abbrev under_way : ℕ
    under_way = way r log nodes es joined each o managed home dead gone.0 gone.1 k

    fine : 1 ≤ under_way → broken t (Free o) ≡ None
    fine some =
        let far : is_far t.localities (Free o) ≡ false = ap (λ n. is_far n (Free o)) s.count ∙ lt-leb r.localities o.home home in
        rw (
          far,
          up r log nodes es joined each o managed home dead gone.0 gone.1 k s.lt t at some,
          unwaited r log nodes es joined each o managed home dead gone.0 gone.1 k s.lt t at some,
          eq-eqb (held_here t o) 0 (unheld r log nodes es joined each o managed home dead gone.0 gone.1 k s.lt t at some),
        ) refl

  -- in a frame
  pub road_frees : (k : ℕ) (t : Tables) → slice_get nodes k ≡ Some t → (bytes : List ℕ) → IsOnRoad (k, bytes) (replayed r es) → (o : Id) → r.parcel_of bytes ≡ Some (Free o) → broken t (Free o) ≡ None
  road_frees k t at bytes on o spelled =
      let right : IsSentWell r log (k, bytes) = road_well r log nodes es joined each (k, bytes) on in
      let same : right.own.parcel ≡ Free o = some_parcel right.own.parcel (Free o) (sym right.own.spelled ∙ spelled) in
      let from : right.from ≡ o.home = subst (λ x. MayGoTo right.from k x) same right.own.way.may in
      let home : o.home < r.localities = subst (λ j. j < r.localities) from right.below in
      let form : IsParcel (Free o) = joined.grammar.grammar bytes (Free o) spelled in
      let dead : IsDeadIn o (replayed r es) = (legal_frees r es legal).road (k, bytes) o on spelled in
      let one : bound r k (frees_one o) (k, bytes) ≡ 1 = rw (eq-eqb k k refl, spelled) (one_free o) in
      fine k t at o form.1 home dead (omega (
        arith,
        one,
        arrived (λ x. (g : Frame → ℕ) → g x ≤ sum_by g (replayed r es).road) (replayed r es).road (k, bytes) (among (replayed r es).road) on (bound r k (frees_one o)),
        ap (sum_by (bound r k (frees_one o))) (run_road r (first r) es),
      ))
    where
      some_parcel : (x y : Parcel) → ◌≡◌ (Some x) (Some y) → x ≡ y
      some_parcel x y e = cc

  -- on the own desk
  pub desk_frees : (k : ℕ) (t : Tables) → slice_get nodes k ≡ Some t → (o : Id) (rest : List Parcel) → t.desk ≡ Free o ∷ rest → broken t (Free o) ≡ None
  desk_frees k t at o rest first_is =
      let s = each.shown k t at in
      let form : IsParcel (Free o) = (subst (AllByRecursion IsParcel) (messages_first t (Free o) rest first_is) s.tidy.messages).0 in
      let way_is : IsForHere t.localities t.here (Free o) = (subst (AllByRecursion (IsForHere t.localities t.here)) first_is s.tidy.ways.1).0 in
      let at_home : k ≡ o.home = sym s.here ∙ way_is.may in
      let home : o.home < r.localities = subst (λ j. j < r.localities) at_home s.lt in
      let dead : IsDeadIn o (replayed r es) = subst (λ j. IsDead o ((replayed r es).places j)) at_home
      (subst (λ ps. AllByRecursion (λ x. IsDead x ((replayed r es).places k)) (flat_map parcel_frees ps)) (messages_first t (Free o) rest first_is) s.shows.counts.dead).0 in
      let same : (each.node o.home home).0 ≡ t = some_table (each.node o.home home).0 t (sym (each.node o.home home).1 ∙ (ap (slice_get nodes) (sym at_home) ∙ at)) in
      let desk : sum_by (frees_one o) (each.node o.home home).0.desk ≡ 1 + sum_by (frees_one o) rest =
      ap (λ (u : Tables). sum_by (frees_one o) u.desk) same ∙ (ap (sum_by (frees_one o)) first_is ∙ omega (arith, sum_by-cons (frees_one o) (Free o) rest, one_free o)) in
      let here : cond (o.home == k) (sum_by (frees_one o) (each.node o.home home).0.desk) 0 ≡ sum_by (frees_one o) (each.node o.home home).0.desk =
      ap (λ (b : Bool). cond b (sum_by (frees_one o) (each.node o.home home).0.desk) 0) (eq-eqb o.home k (sym at_home)) in
      fine k t at o form.1 home dead (omega (arith, here, desk))
    where
      some_table : (a b : Tables) → ◌≡◌ (Some a) (Some b) → a ≡ b
      some_table a b e = cc
