-- What went for the moves of an object came, or is on the road.
use Rattle.std.proofs.Common.{ℕ, List, [], ◌≡◌, ◌≢◌, ◌+◌, ◌<◌, ◌≤◌, ◌==◌, refl, sym, ◌∙◌, arith}
use Rattle.std.specs.List.{sum_by, AllByRecursion}
use Rattle.std.proofs.lemmas.Bool.{ne_eqb}
use Rattle.hpx_journal.specs.Data.{Id, Parcel}
use Rattle.hpx_journal.specs.Entries.{Rules}
use Rattle.hpx_journal.specs.Moving.{IsOnTheRoad}
use Rattle.hpx_journal.specs.Whole.{IsCarried, part}
use Rattle.hpx_journal.proofs.Bags.{total-same}
use Rattle.hpx_part.specs.Data.{Entry}
use Rattle.hpx_steps.specs.Rows.{go_to, ship_to, tell_of, tells_at}
use Rattle.hpx_steps.specs.Sound.{SendsOwn, all_count, come, gone, gone_to, grants_of}
use Rattle.hpx_tables.specs.Tables.{Tables}
use Rattle.hpx_world.specs.Tracks.{moves_of}
use Rattle.hpx_world.proofs.Mails.{grants_home, go_few, nothing, ship_bound, tells_elsewhere, tell_bound}
use Rattle.hpx_world.proofs.Traffic.{road_count, own_goes, own_none, total_at}

module _ (r : Rules) (log : ℕ) (es : List Entry) (carried : IsCarried r [] es)
    (sent : (k : ℕ) → k < r.localities → AllByRecursion (λ (e : Entry). SendsOwn r r.localities k log e.event) (part k es)) (o : Id) (near : o.home < r.localities) where
  module _ (w : Parcel → ℕ) (few : (p : Parcel) → w p ≤ grants_of o p) (k : ℕ) where
    -- no other locality grants its moves
    other_goes : (j : ℕ) → j < r.localities → j ≢ o.home → all_count (gone_to r k w) (part j es) ≡ 0
    other_goes j lt d = own_none r r.localities j log k w (part j es) (sent j lt) (λ to p way.
        let z : w p ≡ 0 = omega (arith, few p, grants_home o j to p way.may (λ e. d (sym e))) in rw z (sym (nothing (to == k))))

    pub goes_out : sum_by (Rattle.hpx_world.proofs.Traffic.bound r k w) (Rattle.hpx_journal.specs.Laws.road_run [] es) + all_count (come r w) (part k es) ≡ all_count (gone_to r k w) (part o.home es)
    goes_out = road_count r w k es carried ∙ total_at r.localities (λ j. all_count (gone_to r k w) (part j es)) o.home near other_goes

  -- and none goes to its home
  pub goes_home : (w : Parcel → ℕ) → all_count (gone_to r o.home w) (part o.home es) ≡ 0
  goes_home w = own_none r r.localities o.home log o.home w (part o.home es) (sent o.home near) (λ to p way. rw (ne_eqb to o.home way.away) refl)

  pub none_comes : (w : Parcel → ℕ) → ((p : Parcel) → w p ≤ grants_of o p) → all_count (come r w) (part o.home es) ≡ 0
  none_comes w few = omega (arith, goes_out w few o.home, goes_home w)

  ships_out : (t j : ℕ) → j < r.localities → all_count (gone_to r t (ship_to o t)) (part j es) ≡ all_count (gone r (ship_to o t)) (part j es)
  ships_out t j lt = own_goes r r.localities j log t (ship_to o t) (ship_to o t) (part j es) (sent j lt) (λ to p way. ship_bound o j t to p way.may)

  tells_none : (t j : ℕ) → j < r.localities → j ≢ t → all_count (gone_to r o.home (tells_at o t)) (part j es) ≡ 0
  tells_none t j lt d = own_none r r.localities j log o.home (tells_at o t) (part j es) (sent j lt)
      (λ to p way. rw (tells_elsewhere o j t to p way.may d) (sym (nothing (to == o.home))))

  tells_out : (t : ℕ) → t < r.localities → all_count (gone_to r o.home (tells_at o t)) (part t es) ≡ all_count (gone r (tell_of o)) (part t es)
  tells_out t lt = own_goes r r.localities t log o.home (tells_at o t) (tell_of o) (part t es) (sent t lt) (λ to p way. tell_bound o t to p way.may)

  pub none_told : all_count (gone r (tell_of o)) (part o.home es) ≡ 0
  none_told = omega (arith, goes_home (tells_at o o.home), tells_out o.home near)

  tells_road : (t : ℕ) → t < r.localities → sum_by (Rattle.hpx_world.proofs.Traffic.bound r o.home (tells_at o t)) (Rattle.hpx_journal.specs.Laws.road_run [] es) + all_count (come r (tells_at o t)) (part o.home es) ≡ all_count (gone r (tell_of o)) (part t es)
  tells_road t lt = road_count r (tells_at o t) o.home es carried
      ∙ (total_at r.localities (λ j. all_count (gone_to r o.home (tells_at o t)) (part j es)) t lt (tells_none t) ∙ tells_out t lt)

  -- what its home is told from here does not come in a frame
  pub none_tells : all_count (come r (tells_at o o.home)) (part o.home es) ≡ 0
  none_tells = omega (arith, tells_road o.home near, none_told)

  pub on_the_road : (nodes : List Tables) → IsOnTheRoad r.localities o.home (moves_of r nodes es o)
  on_the_road nodes = record {
    gos = λ t k lt within. omega (arith, goes_out (go_to o t) (go_few o t) k);
    own_gos = λ t lt. omega (arith, goes_out (go_to o t) (go_few o t) o.home, goes_home (go_to o t));
    ships = λ t lt. omega (
      arith,
      road_count r (ship_to o t) t es carried,
      total-same r.localities (λ j. all_count (gone_to r t (ship_to o t)) (part j es)) (λ j. all_count (gone r (ship_to o t)) (part j es)) (ships_out t),
    );
    tells = λ t lt. omega (arith, tells_road t lt);
    own_tells = omega (arith, tells_road o.home near, none_told);
  }
