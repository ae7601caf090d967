-- An entry leaves a MOVE pending for each object that travels.
use Rattle.std.proofs.Common.{ℕ, Bool, true, false, List, [], ◌≡◌, ◌+◌, ◌<◌, ◌≤◌, Some, refl, sym, ap, ◌∙◌, subst, arith, inl, inr, map}
use Rattle.std.specs.Prelude.{◌&&◌}
use Rattle.std.specs.List.{list_any, find, sum_by, AllByRecursion}
use Rattle.std.proofs.lemmas.List.Sums.{sum_by-cons}
use Rattle.std.proofs.lemmas.Bool.{cases_Bool, cases_eq}
use Rattle.hpx_value.specs.Ids.{Id, same_object}
use Rattle.hpx_value.specs.Values.{message_of}
use Rattle.hpx_journal.specs.Bags.{Covers}
use Rattle.hpx_journal.specs.Data.{Message}
use Rattle.hpx_journal.specs.Entries.{Event, Done, Left, Landed, Out, In, Entry, Standing, Travel, Rules, Frame, same_frame, target_of, move_to}
use Rattle.hpx_journal.specs.Frames.{travels_in}
use Rattle.hpx_journal.specs.Local.{after, is_standing, is_travel, acts_on, leaving}
use Rattle.hpx_journal.specs.Rows.{Row, is_to, is_move_of}
use Rattle.hpx_journal.specs.Whole.{Space, arrives_at, at_place, step, MayStand}
use Rattle.hpx_value.specs.Riders.{plain}
use Rattle.hpx_value.proofs.Riders.{plain_target}
use Rattle.hpx_journal.proofs.Riders.{plain_moves}
use Rattle.hpx_journal.specs.Pool.{act_mass, mass_at, frame_mass, mass}
use Rattle.hpx_journal.proofs.Bags.{list_any-find, find-passes, total-term}
use Rattle.hpx_journal.proofs.Same.{same_frame-true}
use Rattle.hpx_journal.proofs.Wholes.{IsWhole, total_moves, road_moves, at_same, at_other}
use Rattle.hpx_journal.proofs.Mass.{DoesNotFail, brings, ends, mass_moves}
use Rattle.hpx_journal.proofs.PoolLists.{all-without, all-minus, all-append, all-both, all-each, any-all, same-left, same-sym}
use Rattle.hpx_journal.proofs.PoolSteps.{IsApart}
use Rattle.hpx_journal.proofs.PoolSound.{IsSound}
use Rattle.hpx_journal.proofs.PoolWhole.{RoadManaged, travels_apart, road_apart, moving, HasMove, AreTowards, sends_mass, arrives_mass, road_travels, any-sum}

-- what is on the road to k comes to k
pub arrived : (P : Frame → Type 0) (road : List Frame) (f : Frame) → AllByRecursion P road → list_any (same_frame f) road ≡ true → P f
arrived P road f all there =
    let x = any-all P (same_frame f) road all there in
    subst P (sym (same_frame-true f x.element x.passes)) x.fact

pub both_true : (a b : Bool) → (a && b) ≡ true → (a ≡ true) × (b ≡ true)
both_true true true h = (refl, refl)
both_true true false h = cc
both_true false b h = cc

module _ (r : Rules) (w : Space) (e : Entry) (ok : MayStand r w e) (well : DoesNotFail e.event) where
  pub mass_step : (f : Message → ℕ)
      → mass r f (step r w e) + sum_by f (ends (w.places e.at) e.event) ≡ mass r f w + sum_by f (brings r (w.places e.at) e.event)
  unfolding step
  mass_step f =
      omega (
        arith,
        mass_moves r (w.places e.at) e.event ok.allowed.row ok.allowed.turn well f,
        total_moves r.localities (mass_at f) w.places e.at (after r (w.places e.at) e.event) ok.place,
        road_moves (frame_mass r f) w.road e ok.road,
        sends_mass r f e.event,
        arrives_mass r f e.at e.event,
      )

  -- the MOVE of an object that travels is not what is done
  Spared : Travel → Type 0
  Spared x = sum_by (moving x) (ends (w.places e.at) e.event) ≡ 0

  stays : (x : Travel) → HasMove r w x → Spared x → HasMove r (step r w e) x
  unfolding Spared
  stays x has spared = omega (arith, has, spared, mass_step (moving x))

  module _ (whole : IsWhole r w) (sound : (j : ℕ) → IsSound j (w.places j)) (carried : RoadManaged r w.road) where
    spared_by : (v : Event) → Row r (w.places e.at) v → DoesNotFail v → (x : Travel)
        → ((o : Id) → list_any (is_standing o) (w.places e.at).objects ≡ true → IsApart o x) → sum_by (moving x) (ends (w.places e.at) v) ≡ 0
    spared_by (Done a true) row fine x apart = absurd fine
    spared_by (Done a false) row fine x apart =
        let d = row.0 in
        let other : same_object (target_of d.act) x.object ≡ false =
        apart (target_of d.act) (list_any-find (is_standing (target_of d.act)) (w.places e.at).objects d.target d.stands) in
        let turned : same_object x.object (target_of d.act) ≡ false =
        elim (cases_Bool (same_object x.object (target_of d.act))) [
          | inl same ↦ absurd (let t = same-sym x.object (target_of d.act) same in cc)
          | inr away ↦ away
        ] in
        let plainly : same_object x.object (target_of (plain d.act)) ≡ false = ap (same_object x.object) (plain_target d.act) ∙ turned in
        let none : moving x (message_of (plain d.act)) ≡ 0 = rw plainly refl in
        rw (d.fired) (omega (arith, none, sum_by-cons (moving x) (message_of (plain d.act)) []))
    spared_by _ row fine x apart = refl

    abbrev StandsHere : Id → Type 0
    StandsHere o = list_any (is_standing o) (w.places e.at).objects ≡ true

    spared : (x : Travel) → ((o : Id) → StandsHere o → IsApart o x) → Spared x
    unfolding Spared
    spared x apart = spared_by e.event ok.allowed.row well x apart

    spared_places : (k : ℕ) → k < r.localities → AllByRecursion Spared (w.places k).travels
    spared_places k h =
        all-each StandsHere IsApart Spared spared (w.places k).travels (λ o there. travels_apart r w whole sound o e.at ok.place there k h)

    spared_road : AllByRecursion (λ f. AllByRecursion Spared (travels_in (r.parcel_of f.1))) w.road
    spared_road =
        all-each StandsHere (λ o f. AllByRecursion (IsApart o) (travels_in (r.parcel_of f.1))) (λ f. AllByRecursion Spared (travels_in (r.parcel_of f.1)))
        (λ f apart. all-each StandsHere IsApart Spared spared (travels_in (r.parcel_of f.1)) apart)
        w.road (λ o there. road_apart r w whole carried o e.at ok.place there)

    -- the MOVE of an object that sets off waits here
    module _ (towards : AreTowards r w) where
      kept_places : (k : ℕ) → k < r.localities → AllByRecursion (HasMove r (step r w e)) (w.places k).travels
      kept_places k h = all-both (HasMove r w) Spared (HasMove r (step r w e)) stays (w.places k).travels (towards.places k h) (spared_places k h)

      kept_road : AllByRecursion (λ f. AllByRecursion (HasMove r (step r w e)) (travels_in (r.parcel_of f.1))) w.road
      kept_road =
          all-both (λ f. AllByRecursion (HasMove r w) (travels_in (r.parcel_of f.1))) (λ f. AllByRecursion Spared (travels_in (r.parcel_of f.1)))
          (λ f. AllByRecursion (HasMove r (step r w e)) (travels_in (r.parcel_of f.1)))
          (λ f has sp. all-both (HasMove r w) Spared (HasMove r (step r w e)) stays (travels_in (r.parcel_of f.1)) has sp)
          w.road towards.road spared_road

      move_waits : (o : Id) (to : ℕ) (x : Standing) → find (is_standing o) (w.places e.at).objects ≡ Some x
          → list_any (is_move_of o to) (w.places e.at).waiting ≡ true → HasMove r w (leaving to x)
      move_waits o to x f move =
          let one : 1 ≤ sum_by (act_mass (moving (leaving to x))) (w.places e.at).waiting =
          any-sum (is_move_of o to) (act_mass (moving (leaving to x))) (λ act passes.
          let b = both_true (acts_on o act) (is_to to (move_to act)) passes in
          let o_x : same_object o x.object ≡ true = find-passes (is_standing o) (w.places e.at).objects x f in
          let t : same_object x.object (target_of act) ≡ true = sym (same-left o x.object o_x (target_of act)) ∙ b.0 in
          let u : same_object x.object (target_of (plain act)) ≡ true = ap (same_object x.object) (plain_target act) ∙ t in
          let v : is_to to (move_to (plain act)) ≡ true = ap (is_to to) (plain_moves act) ∙ b.1 in
          let m : moving (leaving to x) (message_of (plain act)) ≡ 1 = rw u (rw v refl) in
          omega (arith, m)) (w.places e.at).waiting move in
          omega (arith, one, total-term r.localities (λ j. mass_at (moving (leaving to x)) (w.places j)) e.at ok.place)

      travels_here : (v : Event) → e.event ≡ v → Row r (w.places e.at) v → AllByRecursion (λ f. AllByRecursion (HasMove r (step r w e)) (travels_in (r.parcel_of f.1))) w.road
          → Covers same_frame w.road (arrives_at e.at v)
          → AllByRecursion (HasMove r (step r w e)) (after r (w.places e.at) v).travels
      unfolding after
      travels_here (Left o to) is row road covers =
          let x = row.1 in
          let has = move_waits o to x.0 x.1 row.3 in
          let now : HasMove r (step r w e) (leaving to x.0) =
          omega (arith, has, mass_step (moving (leaving to x.0)), ap (λ v. sum_by (moving (leaving to x.0)) (ends (w.places e.at) v)) is) in
          rw (x.1) (now, kept_places e.at ok.place)
      travels_here (Landed o) is row road covers =
          all-without (HasMove r (step r w e)) (is_travel o) (w.places e.at).travels (kept_places e.at ok.place)
      travels_here (Out to bytes) is row road covers =
          all-minus (HasMove r (step r w e)) is_travel (w.places e.at).travels (map (λ x. x.object) (travels_in (r.parcel_of bytes))) (kept_places e.at ok.place)
      travels_here (In bytes) is row road covers =
          all-append (HasMove r (step r w e)) (travels_in (r.parcel_of bytes)) (w.places e.at).travels
          (arrived (λ f. AllByRecursion (HasMove r (step r w e)) (travels_in (r.parcel_of f.1))) w.road ((e.at, bytes)) road covers.0)
          (kept_places e.at ok.place)
      travels_here _ is row road covers = kept_places e.at ok.place

      pub towards_step : AreTowards r (step r w e)
      unfolding step
      towards_step = record {
        places = λ k h. elim (cases_eq e.at k) [
          | inl same ↦
              let now = travels_here e.event refl ok.allowed.row kept_road ok.road in
              subst (λ j. AllByRecursion (HasMove r (step r w e)) (at_place w.places e.at (after r (w.places e.at) e.event) j).travels) same
              (subst (λ s. AllByRecursion (HasMove r (step r w e)) s.travels) (sym (at_same w.places e.at (after r (w.places e.at) e.event))) now)
          | inr other ↦
              subst (λ s. AllByRecursion (HasMove r (step r w e)) s.travels) (sym (at_other w.places e.at (after r (w.places e.at) e.event) k other))
              (kept_places k h)
        ];
        road = road_travels (HasMove r (step r w e)) r w e ok (kept_places e.at ok.place) kept_road;
      }
