-- Where a managed object is: here or on the road, and no more often than it was born, each Freed taking one away.
use Rattle.std.proofs.Common.{ℕ, true, false, cond, List, ◌∷◌, ◌≡◌, ◌+◌, ◌≤◌, Option, Some, refl, ap, arith}
use Rattle.std.specs.List.{find, sum_by, count_by}
use Rattle.std.specs.Prelude.{◌==◌, not}
use Rattle.std.proofs.lemmas.List.Sums.{sum_by-cons, sum_by-append}
use Rattle.std.proofs.lemmas.Bool.{eq-eqb}
use Rattle.hpx_value.specs.Ids.{Id, same_object}
use Rattle.hpx_value.specs.Values.{bare_act, bare_state}
use Rattle.hpx_journal.specs.Bags.{without}
use Rattle.hpx_journal.specs.Data.{State, Act, Parcel, Shipped}
use Rattle.hpx_journal.specs.Entries.{Name, Event, Born, Done, Freed, Left, Landed, Out, In, Standing, Rules, Frame, target_of, move_to}
use Rattle.hpx_journal.specs.Frames.{travels_in, travel_of}
use Rattle.hpx_journal.specs.Local.{Local, after, is_standing, is_travel, stood, leaving}
use Rattle.hpx_journal.specs.Rows.{Row, MayGo}
use Rattle.hpx_journal.specs.Foreign.{kept}
use Rattle.hpx_journal.specs.Whole.{sends, arrives_at}
use Rattle.hpx_journal.specs.Laws.{is_freed}
use Rattle.hpx_journal.proofs.Bags.{sum_by-without-find}
use Rattle.hpx_journal.proofs.Same.{same_object-through}
use Rattle.hpx_journal.proofs.Moves.{travels_out}
use Rattle.hpx_journal.proofs.Done.{born_at, born_next, found_same, found_again, new_standing, done_settles}

abbrev pub object_counts : Id → Id → ℕ
object_counts o x = cond (same_object o x) 1 0

abbrev pub frame_objects : Rules → Id → Frame → ℕ
frame_objects r o f = count_by (is_travel o) (travels_in (r.parcel_of f.1))

abbrev pub born : Id → Local → ℕ
born o s = born_at o s.here s.number

abbrev pub freed_count : Id → Event → ℕ
freed_count o e = cond (is_freed o e) 1 0

abbrev objects_moved : Rules → Local → Event → ℕ → Id → Type 0
objects_moved r s e k o =
    kept o (after r s e) + freed_count o e + sum_by (frame_objects r o) (sends e) + born o s
    ≤ kept o s + sum_by (frame_objects r o) (arrives_at k e) + born o (after r s e)

pub same_counts : (o a b : Id) → same_object a b ≡ true → object_counts o a ≡ object_counts o b
same_counts o a b h = ap {B = ℕ} (λ t. cond t 1 0) (same_object-through o a b h)

-- the element that is taken counts as what it was looked for
pub counted : (o x : Id) (objects : List Standing) (y : Standing) → find (is_standing x) objects ≡ Some y
    → count_by (is_standing o) (without (is_standing x) objects) + object_counts o x ≡ count_by (is_standing o) objects
counted o x objects y h =
    omega (
      arith,
      sum_by-without-find (λ z. object_counts o z.object) (is_standing x) objects y h,
      same_counts o x y.object (found_same x objects y h),
    )

pub settled_objects : (o : Id) (objects : List Standing) (y : Standing) (new : State) → find (is_standing y.object) objects ≡ Some y
    → count_by (is_standing o) (record { object = y.object; state = new } ∷ without (is_standing y.object) objects) ≡ count_by (is_standing o) objects
settled_objects o objects y new h =
    rw (sum_by-cons (λ z. object_counts o z.object) (record { object = y.object; state = new }) (without (is_standing y.object) objects))
    (omega (arith, sum_by-without-find (λ z. object_counts o z.object) (is_standing y.object) objects y h))

done_objects : (r : Rules) (s : Local) (a : Name) → Row r s (Done a false) → (k : ℕ) (o : Id) → objects_moved r s (Done a false) k o
unfolding after
done_objects r s a h k o =
    let x = h.0 in
    let y = x.target in
    let j = found_again (target_of x.act) s.objects y x.stands in
    rw (done_settles r s a x.act y x.fired x.stands, settled_objects o s.objects y (new_standing r s x.act y).state j) (omega arith)

left_objects : (r : Rules) (s : Local) (x : Id) (to : ℕ) → Row r s (Left x to) → (k : ℕ) (o : Id) → objects_moved r s (Left x to) k o
unfolding after
left_objects r s x to h k o =
    let y = h.1.0 in
    let e = sum_by-without-find (λ z. object_counts o z.object) (is_standing x) s.objects y h.1.1 in
    rw (h.1.1, sum_by-cons (λ z. object_counts o z.object) (leaving to y) s.travels) (omega arith)

landed_objects : (r : Rules) (s : Local) (x : Id) → Row r s (Landed x) → (k : ℕ) (o : Id) → objects_moved r s (Landed x) k o
unfolding after
landed_objects r s x h k o =
    let y = h.1.0 in
    let e = sum_by-without-find (λ z. object_counts o z.object) (is_travel x) s.travels y h.1.1 in
    rw (h.1.1, sum_by-cons (λ z. object_counts o z.object) (stood y) s.objects) (omega arith)

freed_objects : (r : Rules) (s : Local) (x : Id) → Row r s (Freed x) → (k : ℕ) (o : Id) → objects_moved r s (Freed x) k o
unfolding after
freed_objects r s x h k o = omega (arith, counted o x s.objects h.1.0 h.1.1)

born_objects : (r : Rules) (s : Local) (x : Id) (state : State) → Row r s (Born x state) → (k : ℕ) (o : Id) → 16 ≤ o.kind
    → objects_moved r s (Born x state) k o
unfolding after
born_objects r s x state h k o managed =
    rw (sum_by-cons (λ z. object_counts o z.object) (record { object = x; state = state }) s.objects)
    (omega (arith, born_next x o s.here s.number h.0 h.2))

pub objects_move : (r : Rules) (s : Local) (e : Event) → Row r s e → (k : ℕ) (o : Id) → 16 ≤ o.kind → objects_moved r s e k o
unfolding after
objects_move r s (Born x state) h k o managed = born_objects r s x state h k o managed
objects_move r s (Done a false) h k o managed = done_objects r s a h k o
objects_move r s (Left x to) h k o managed = left_objects r s x to h k o
objects_move r s (Landed x) h k o managed = landed_objects r s x h k o
objects_move r s (Freed x) h k o managed = freed_objects r s x h k o
objects_move r s (Out to bytes) h k o managed =
    rw h.2.1 (omega (arith, travels_out (λ x. object_counts o x.object) s to h.2.0 h.2.3))
objects_move r s (In bytes) h k o managed =
    rw (sum_by-append (λ x. object_counts o x.object) (travels_in (r.parcel_of bytes)) s.travels) (omega arith)
objects_move r s _ h k o managed = omega arith

-- ---- a shipped object goes where its MOVE says

abbrev pub strays : Rules → Frame → ℕ
strays r f = count_by (λ x. not (x.to == f.0)) (travels_in (r.parcel_of f.1))

shipped_strays : (act : Act) (state : State) (to : ℕ) (moves : Option ℕ) → moves ≡ Some to
    → 0 + count_by (λ x. not (x.to == to)) (travel_of act state moves) ≡ 0
shipped_strays act state to moves e = rw (e, eq-eqb to to refl) refl

parcel_strays : (s : Local) (to : ℕ) (p : Parcel) → MayGo s to p → 0 + count_by (λ x. not (x.to == to)) (travels_in (Some p)) ≡ 0
parcel_strays s to (Shipped act state) h = shipped_strays (bare_act act) (bare_state state) to (move_to (bare_act act)) h.0
parcel_strays s to _ h = refl

pub sends_no_strays : (r : Rules) (s : Local) (e : Event) → Row r s e → sum_by (strays r) (sends e) ≡ 0
sends_no_strays r s (Out to bytes) h = rw h.2.1 (parcel_strays s to h.2.0 h.2.3)
sends_no_strays r s _ h = refl
