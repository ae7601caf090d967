-- An object stands where it was born or landed, until it leaves or is freed.
use Rattle.std.proofs.Common.{ℕ, Bool, true, false, cond, List, [], ◌∷◌, ◌≡◌, ◌+◌, arith}
use Rattle.std.specs.List.{count_by}
use Rattle.std.proofs.lemmas.List.Sums.{sum_by-cons}
use Rattle.hpx_value.specs.Ids.{Id}
use Rattle.hpx_journal.specs.Entries.{Name, Event, Born, Done, Freed, Left, Landed, Entry, Rules, target_of}
use Rattle.hpx_journal.specs.Local.{Local, after, is_standing, is_travel, stood}
use Rattle.hpx_journal.specs.Rows.{Row}
use Rattle.hpx_journal.specs.Whole.{run_local}
use Rattle.hpx_journal.specs.Laws.{IsLegalLocal, count_events, is_freed}
use Rattle.hpx_journal.specs.Moving.{is_born_of, is_left_of, is_landed_of}
use Rattle.hpx_journal.proofs.Bags.{find-passes}
use Rattle.hpx_journal.proofs.Done.{found_again, new_standing, done_settles}
use Rattle.hpx_journal.proofs.Keys.{one_if}
use Rattle.hpx_journal.proofs.Objects.{object_counts, same_counts, counted, settled_objects}

abbrev standing_after : Rules → Local → Event → Id → Type 0
standing_after r s e o = count_by (is_standing o) (after r s e).objects + one_if (is_freed o e) + one_if (is_left_of o e)
    ≡ count_by (is_standing o) s.objects + one_if (is_born_of o e) + one_if (is_landed_of o e)

done_standing : (r : Rules) (s : Local) (a : Name) → Row r s (Done a false) → (o : Id) → standing_after r s (Done a false) o
unfolding after
done_standing r s a h o =
    let x = h.0 in
    let y = x.target in
    let j = found_again (target_of x.act) s.objects y x.stands in
    rw (done_settles r s a x.act y x.fired x.stands, settled_objects o s.objects y (new_standing r s x.act y).state j) (omega arith)

landed_standing : (r : Rules) (s : Local) (x : Id) → Row r s (Landed x) → (o : Id) → standing_after r s (Landed x) o
unfolding after
landed_standing r s x h o =
    let y = h.1.0 in
    rw h.1.1 (omega (
      arith,
      sum_by-cons (λ z. object_counts o z.object) (stood y) s.objects,
      same_counts o x y.object (find-passes (is_travel x) s.travels y h.1.1),
    ))

standing_then : (r : Rules) (s : Local) (e : Event) → Row r s e → (o : Id) → standing_after r s e o
unfolding after
standing_then r s (Born x state) h o =
    omega (arith, sum_by-cons (λ z. object_counts o z.object) (record { object = x; state = state }) s.objects)
standing_then r s (Done a false) h o = done_standing r s a h o
standing_then r s (Freed x) h o = omega (arith, counted o x s.objects h.1.0 h.1.1)
standing_then r s (Left x to) h o = omega (arith, counted o x s.objects h.1.0 h.1.1)
standing_then r s (Landed x) h o = landed_standing r s x h o
standing_then r s _ h o = omega arith

pub standing_run : (r : Rules) (s : Local) (es : List Entry) → IsLegalLocal r s es → (o : Id)
    → count_by (is_standing o) (run_local r s es).objects + count_events (is_freed o) es + count_events (is_left_of o) es
    ≡ count_by (is_standing o) s.objects + count_events (is_born_of o) es + count_events (is_landed_of o) es
standing_run r s [] legal o = omega arith
standing_run r s (e ∷ es) legal o =
    let more = λ (p : Event → Bool). sum_by-cons (λ (x : Entry). one_if (p x.event)) e es in
    omega (
      arith,
      standing_run r (after r s e.event) es legal.1 o,
      standing_then r s e.event legal.0.row o,
      more (is_freed o),
      more (is_left_of o),
      more (is_born_of o),
      more (is_landed_of o),
    )
