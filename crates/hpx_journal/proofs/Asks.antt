-- What came and went in an Ask or a Give.
use Rattle.std.proofs.Common.{ℕ, ◌≡◌, ◌+◌, refl, arith}
use Rattle.std.specs.List.{sum_by, count_by}
use Rattle.std.proofs.lemmas.List.Sums.{sum_by-append}
use Rattle.hpx_value.specs.Ids.{Id, same_object}
use Rattle.hpx_journal.specs.Entries.{Event, Out, In, Frame, Rules}
use Rattle.hpx_journal.specs.Frames.{asks_in}
use Rattle.hpx_journal.specs.Local.{Local, after, asks_come_by, asks_gone_by}
use Rattle.hpx_journal.specs.Whole.{sends, arrives_at}
use Rattle.hpx_journal.proofs.Objects.{object_counts}

abbrev pub frame_asks : Rules → Id → Frame → ℕ
frame_asks r o f = count_by (same_object o) (asks_in (r.parcel_of f.1))

out_split : (r : Rules) (e : Event) (o : Id) → count_by (same_object o) (asks_gone_by r e) ≡ sum_by (frame_asks r o) (sends e)
out_split r (Out to bytes) o = omega arith
out_split r _ o = refl

in_split : (r : Rules) (e : Event) (k : ℕ) (o : Id) → count_by (same_object o) (asks_come_by r e) ≡ sum_by (frame_asks r o) (arrives_at k e)
in_split r (In bytes) k o = omega arith
in_split r _ k o = refl

pub asks_go : (r : Rules) (s : Local) (e : Event) (o : Id)
    → count_by (same_object o) (after r s e).asks_gone ≡ count_by (same_object o) s.asks_gone + sum_by (frame_asks r o) (sends e)
unfolding after
asks_go r s e o = rw (sum_by-append (object_counts o) (asks_gone_by r e) s.asks_gone) (omega (arith, out_split r e o))

pub asks_come : (r : Rules) (s : Local) (e : Event) (k : ℕ) (o : Id)
    → count_by (same_object o) (after r s e).asks_come ≡ count_by (same_object o) s.asks_come + sum_by (frame_asks r o) (arrives_at k e)
unfolding after
asks_come r s e k o = rw (sum_by-append (object_counts o) (asks_come_by r e) s.asks_come) (omega (arith, in_split r e k o))
