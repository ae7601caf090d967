-- Node journals put together: no frame is foreign, so the whole is legal and each locality stays backed.
use Rattle.std.proofs.Common.{ℕ, true, cond, not, List, [], ◌∷◌, ◌++◌, ◌≡◌, ◌≢◌, ◌+◌, ◌<◌, ◌≤◌, Option, Some, None, refl, sym, ap, ◌∙◌, subst, arith, inl, inr}
use Rattle.std.specs.List.{list_any, sum_by, count_by, AllByRecursion}
use Rattle.std.specs.Prelude.{◌==◌}
use Rattle.std.proofs.lemmas.List.Sums.{sum_by-cons}
use Rattle.std.proofs.lemmas.Bool.Decides.{nat_tests}
use Rattle.std.proofs.lemmas.Bool.{eq-eqb, ne_eqb, cases_eq}
use Rattle.hpx_value.specs.Ids.{Id}
use Rattle.hpx_value.specs.Values.{bare_act, bare_state}
use Rattle.hpx_parcel.specs.Parcels.{IsParcel, IsMovable}
use Rattle.hpx_journal.specs.Bags.{Covers, AnyOf, total}
use Rattle.hpx_journal.specs.Data.{State, Act, Parcel, Shipped}
use Rattle.hpx_journal.specs.Entries.{Name, Event, In, Entry, Travel, Frame, Rules, same_frame, name_of, target_of, move_to}
use Rattle.hpx_journal.specs.Frames.{acts_in, travels_in, travel_of}
use Rattle.hpx_journal.specs.Local.{is_travel, after}
use Rattle.hpx_journal.specs.Rows.{Allowed}
use Rattle.hpx_journal.specs.Names.{IsBacked}
use Rattle.hpx_journal.specs.Foreign.{present, kept, IsUndrawn, IsForeign, IsForeignAct, IsForeignTravel, NodeKeeps}
use Rattle.hpx_journal.specs.Whole.{Space, arrives_at, at_place, step, run, MayStand, IsLegalFrom, IsCarried, IsJoinFrom, part}
use Rattle.hpx_journal.specs.Laws.{HasGrammar}
use Rattle.hpx_journal.proofs.Bags.{sum_by-without, total-term, total-single}
use Rattle.hpx_journal.proofs.Same.{same_frame-true, same_object-refl, same_name-refl}
use Rattle.hpx_journal.proofs.Moves.{act_counts}
use Rattle.hpx_journal.proofs.Present.{frame_acts, drawn, drawn_at}
use Rattle.hpx_journal.proofs.Objects.{born, frame_objects, strays, object_counts}
use Rattle.hpx_journal.proofs.Done.{born_at}
use Rattle.hpx_journal.proofs.Wholes.{IsWhole, whole_step, at_same, at_other}

drawn_le : (a : Name) (h n : ℕ) → drawn_at a h n ≤ 1
drawn_le a h n = grind (arith, nat_tests)

pub drawn_away : (a : Name) (h n : ℕ) → h ≢ a.origin → drawn_at a h n ≡ 0
drawn_away a h n d = grind (arith, nat_tests)

drawn_late : (a : Name) (h n : ℕ) → IsUndrawn n a.serial → drawn_at a h n ≡ 0
drawn_late a h n (inl e) = grind (arith, nat_tests)
drawn_late a h n (inr e) = grind (arith, nat_tests)

one_named : (act : Act) → 1 ≤ sum_by (act_counts (name_of act)) (act ∷ [])
one_named act = rw (same_name-refl (name_of act)) (omega arith)

pub born_le : (o : Id) (h n : ℕ) → born_at o h n ≤ 1
born_le o h n = grind (arith, nat_tests)

pub born_away : (o : Id) (h n : ℕ) → h ≢ o.home → born_at o h n ≡ 0
born_away o h n d = grind (arith, nat_tests)

pub born_late : (o : Id) (h n : ℕ) → IsUndrawn n o.number → born_at o h n ≡ 0
born_late o h n (inl e) = grind (arith, nat_tests)
born_late o h n (inr e) = grind (arith, nat_tests)

one_object_named : (x : Travel) → 1 ≤ object_counts x.object x.object
one_object_named x = rw (same_object-refl x.object) (omega arith)

abbrev stray_at : ℕ → Travel → ℕ
stray_at k x = cond (not (x.to == k)) 1 0

no_stray : (k : ℕ) (x : Travel) → stray_at k x ≡ 0 → x.to ≡ k
no_stray k x h = grind (arith, nat_tests)

-- ---- a shipped object is managed

movable_first : (act : Act) (ids : List Id) → act.ids ≡ ids → IsMovable ids → 16 ≤ (target_of (bare_act act)).kind
movable_first act [] e h = absurd h
movable_first act (id ∷ ids) e h = rw e h.0

travel_managed : (act : Act) (state : State) (moves : Option ℕ) → 16 ≤ (target_of act).kind
    → AllByRecursion (λ x. 16 ≤ x.object.kind) (travel_of act state moves)
travel_managed act state None h = tt
travel_managed act state (Some to) h = (h, tt)

parcel_ships : (p : Parcel) → IsParcel p → AllByRecursion (λ x. 16 ≤ x.object.kind) (travels_in (Some p))
parcel_ships (Shipped act state) h =
    travel_managed (bare_act act) (bare_state state) (move_to (bare_act act)) (movable_first act act.ids refl h.0.target)
parcel_ships _ h = tt

ships_at : (p : Option Parcel) → ((q : Parcel) → p ≡ Some q → IsParcel q) → AllByRecursion (λ x. 16 ≤ x.object.kind) (travels_in p)
ships_at None h = tt
ships_at (Some p) h = parcel_ships p (h p refl)

pub ships : (r : Rules) → HasGrammar r → (bytes : List ℕ) → AllByRecursion (λ x. 16 ≤ x.object.kind) (travels_in (r.parcel_of bytes))
ships r grammar bytes = ships_at (r.parcel_of bytes) (grammar.grammar bytes)

-- ----

module _ (r : Rules) (w : Space) (whole : IsWhole r w) where
  -- an action is drawn at its origin alone
  pub drawn_at_origin : (a : Name) → total r.localities (λ k. drawn a (w.places k)) ≤ drawn a (w.places a.origin)
  drawn_at_origin a = total-single r.localities (λ k. drawn a (w.places k)) a.origin
      (λ k d. drawn_away a (w.places k).here (w.places k).serial (λ e. d (sym (whole.here k) ∙ e)))

  -- so it is in one place
  pub one_place : (a : Name) → total r.localities (λ k. present a (w.places k)) + sum_by (frame_acts r a) w.road ≤ 1
  one_place a = omega (arith, whole.single a, drawn_at_origin a, drawn_le a (w.places a.origin).here (w.places a.origin).serial)

  on_road : (k : ℕ) (bytes : List ℕ) (a : Name) → list_any (same_frame ((k, bytes))) w.road ≡ true
      → sum_by (act_counts a) (acts_in (r.parcel_of bytes)) ≤ sum_by (frame_acts r a) w.road
  on_road k bytes a h =
      let f : Frame = (k, bytes) in
      omega (
        arith,
        sum_by-without (frame_acts r a) (same_frame f) (frame_acts r a f)
            (λ x t. ap (frame_acts r a) (sym (same_frame-true f x t))) w.road h,
      )

  not_foreign_act : (k : ℕ) → k < r.localities → (act : Act) → 1 ≤ sum_by (frame_acts r (name_of act)) w.road
      → IsForeignAct (w.places k) act → ⊥
  not_foreign_act k h act here (inl i) =
      absurd (omega (arith, one_place (name_of act), total-term r.localities (λ j. present (name_of act) (w.places j)) k h))
  not_foreign_act k h act here (inr i) =
      let e : act.origin ≡ k = i.0 ∙ whole.here k in
      let late : drawn (name_of act) (w.places act.origin) ≡ 0 =
      ap (λ j. drawn (name_of act) (w.places j)) e ∙ drawn_late (name_of act) (w.places k).here (w.places k).serial i.1 in
      absurd (omega (arith, whole.single (name_of act), drawn_at_origin (name_of act)))

  not_foreign_acts : (k : ℕ) → k < r.localities → (acts : List Act)
      → ((a : Name) → sum_by (act_counts a) acts ≤ sum_by (frame_acts r a) w.road)
      → AnyOf (IsForeignAct (w.places k)) acts → ⊥
  not_foreign_acts k h [] road f = f
  not_foreign_acts k h (act ∷ acts) road (inl f) =
      not_foreign_act k h act
      (omega (arith, road (name_of act), one_named act, sum_by-cons (act_counts (name_of act)) act acts)) f
  not_foreign_acts k h (act ∷ acts) road (inr f) =
      not_foreign_acts k h acts (λ a. omega (arith, road a, sum_by-cons (act_counts a) act acts)) f

  -- an object is born at its home alone
  pub born_at_home : (o : Id) → total r.localities (λ k. born o (w.places k)) ≤ born o (w.places o.home)
  born_at_home o = total-single r.localities (λ k. born o (w.places k)) o.home
      (λ k d. born_away o (w.places k).here (w.places k).number (λ e. d (sym (whole.here k) ∙ e)))

  pub born_once : (o : Id) → total r.localities (λ k. born o (w.places k)) ≤ 1
  born_once o = omega (arith, born_at_home o, born_le o (w.places o.home).here (w.places o.home).number)

  pub one_object : (o : Id) → 16 ≤ o.kind → total r.localities (λ k. kept o (w.places k)) + sum_by (frame_objects r o) w.road ≤ 1
  one_object o managed =
      omega (arith, whole.objects o managed, born_at_home o, born_le o (w.places o.home).here (w.places o.home).number)

  not_foreign_object : (k : ℕ) → k < r.localities → (x : Travel) → 16 ≤ x.object.kind
      → 1 ≤ sum_by (frame_objects r x.object) w.road → x.to ≡ k → IsForeignTravel (w.places k) x → ⊥
  not_foreign_object k h x managed road to (inl f) = f (to ∙ sym (whole.here k))
  not_foreign_object k h x managed road to (inr (inl f)) =
      absurd (omega (arith, one_object x.object managed, total-term r.localities (λ j. kept x.object (w.places j)) k h))
  not_foreign_object k h x managed road to (inr (inr f)) =
      let e : x.object.home ≡ k = f.0 ∙ whole.here k in
      let late : born x.object (w.places x.object.home) ≡ 0 =
      ap (λ j. born x.object (w.places j)) e ∙ born_late x.object (w.places k).here (w.places k).number f.1 in
      absurd (omega (arith, whole.objects x.object managed, born_at_home x.object))

  not_foreign_objects : (k : ℕ) → k < r.localities → (xs : List Travel) → AllByRecursion (λ x. 16 ≤ x.object.kind) xs
      → ((o : Id) → count_by (is_travel o) xs ≤ sum_by (frame_objects r o) w.road)
      → count_by (λ x. not (x.to == k)) xs ≡ 0
      → AnyOf (IsForeignTravel (w.places k)) xs → ⊥
  not_foreign_objects k h [] managed road straight f = f
  not_foreign_objects k h (x ∷ xs) managed road straight (inl f) =
      not_foreign_object k h x managed.0
      (omega (arith, road x.object, one_object_named x, sum_by-cons (λ y. object_counts x.object y.object) x xs))
      (no_stray k x (omega (arith, sum_by-cons (stray_at k) x xs))) f
  not_foreign_objects k h (x ∷ xs) managed road straight (inr f) =
      not_foreign_objects k h xs managed.1 (λ o. omega (arith, road o, sum_by-cons (λ y. object_counts o y.object) x xs))
      (omega (arith, sum_by-cons (stray_at k) x xs)) f

  on_road_by : (g : Frame → ℕ) (k : ℕ) (bytes : List ℕ) → list_any (same_frame ((k, bytes))) w.road ≡ true
      → g ((k, bytes)) ≤ sum_by g w.road
  on_road_by g k bytes h =
      let f : Frame = (k, bytes) in
      omega (arith, sum_by-without g (same_frame f) (g f) (λ x t. ap g (sym (same_frame-true f x t))) w.road h)

  pub not_foreign : HasGrammar r → (k : ℕ) → k < r.localities → (e : Event) → Covers same_frame w.road (arrives_at k e)
      → IsForeign r (w.places k) e → ⊥
  not_foreign grammar k h (In bytes) road (inl f) =
      not_foreign_acts k h (acts_in (r.parcel_of bytes)) (λ a. on_road k bytes a road.0) f
  not_foreign grammar k h (In bytes) road (inr f) =
      not_foreign_objects k h (travels_in (r.parcel_of bytes)) (ships r grammar bytes)
      (λ o. on_road_by (frame_objects r o) k bytes road.0)
      (omega (arith, on_road_by (strays r) k bytes road.0, whole.straight)) f
  not_foreign grammar k h _ road f = f

-- ---- parts

pub part_same : (e : Entry) (es : List Entry) → part e.at (e ∷ es) ≡ e ∷ part e.at es
part_same e es = rw (eq-eqb e.at e.at refl) refl

pub part_other : (k : ℕ) (e : Entry) (es : List Entry) → e.at ≢ k → part k (e ∷ es) ≡ part k es
part_other k e es d = rw (ne_eqb e.at k d) refl

-- each locality has each name backed
abbrev pub AreBacked : Rules → Space → Type 0
AreBacked r w = (k : ℕ) → k < r.localities → IsBacked (w.places k)

pub record JoinStep (r : Rules) (w : Space) (e : Entry) (es : List Entry) : Type 0 where
  pub stands : MayStand r w e
  pub backed : IsBacked (after r (w.places e.at) e.event)
  pub rest : IsJoinFrom r (step r w e) es

module _ (r : Rules) (grammar : HasGrammar r) (w : Space) (whole : IsWhole r w) (e : Entry) (es : List Entry) (join : IsJoinFrom r w (e ∷ es)) where
  place_ok : e.at < r.localities
  place_ok = join.carried.0

  own : Allowed r (w.places e.at) e × IsBacked (after r (w.places e.at) e.event)
      × NodeKeeps r (after r (w.places e.at) e.event) (part e.at es)
  own =
      let h : NodeKeeps r (w.places e.at) (e ∷ part e.at es) =
      subst (NodeKeeps r (w.places e.at)) (part_same e es) (join.parts e.at place_ok) in
      h (not_foreign r w whole grammar e.at place_ok e.event join.carried.1)

  rest_parts : (k : ℕ) → k < r.localities → NodeKeeps r ((step r w e).places k) (part k es)
  unfolding step
  rest_parts k i = elim (cases_eq e.at k) [
    | inl same ↦
        subst (λ j. NodeKeeps r (at_place w.places e.at (after r (w.places e.at) e.event) j) (part j es)) same
        (subst (λ s. NodeKeeps r s (part e.at es)) (sym (at_same w.places e.at (after r (w.places e.at) e.event))) own.2)
    | inr other ↦
        subst (λ s. NodeKeeps r s (part k es)) (sym (at_other w.places e.at (after r (w.places e.at) e.event) k other))
        (subst (NodeKeeps r (w.places k)) (part_other k e es other) (join.parts k i))
  ]

  rest_carried : IsCarried r (step r w e).road es
  unfolding step
  rest_carried = join.carried.2

  pub join_step : JoinStep r w e es
  join_step = record {
    stands = record { place = place_ok; allowed = own.0; road = join.carried.1 };
    backed = own.1;
    rest = record { parts = rest_parts; carried = rest_carried };
  }

  pub backed_step : AreBacked r w → AreBacked r (step r w e)
  unfolding step
  backed_step before k i = elim (cases_eq e.at k) [
    | inl same ↦
        subst (λ j. IsBacked (at_place w.places e.at (after r (w.places e.at) e.event) j)) same
        (subst IsBacked (sym (at_same w.places e.at (after r (w.places e.at) e.event))) own.1)
    | inr other ↦
        subst IsBacked (sym (at_other w.places e.at (after r (w.places e.at) e.event) k other)) (before k i)
  ]

pub join_legal : (r : Rules) (grammar : HasGrammar r) (w : Space) (es : List Entry) → IsWhole r w → IsJoinFrom r w es → IsLegalFrom r w es
join_legal r grammar w [] whole join = tt
join_legal r grammar w (e ∷ es) whole join =
    let h = join_step r grammar w whole e es join in
    (h.stands, join_legal r grammar (step r w e) es (whole_step r w e whole h.stands) h.rest)

pub join_backed : (r : Rules) (grammar : HasGrammar r) (w : Space) (es later : List Entry) → IsWhole r w → AreBacked r w → IsJoinFrom r w (es ++ later)
    → AreBacked r (run r w es)
join_backed r grammar w [] later whole backed join = backed
join_backed r grammar w (e ∷ es) later whole backed join =
    let h = join_step r grammar w whole e (es ++ later) join in
    join_backed r grammar (step r w e) es later (whole_step r w e whole h.stands) (backed_step r grammar w whole e (es ++ later) join backed) h.rest
