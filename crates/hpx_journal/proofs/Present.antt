-- Where an action is: each entry keeps how often it is here and on the road, less how often it was sent.
use Rattle.std.proofs.Common.{ℕ, true, false, cond, List, [], ◌∷◌, ◌++◌, ◌≡◌, ◌+◌, Some, refl, sym, ap, arith, map}
use Rattle.std.specs.List.{find, sum_by, count_by}
use Rattle.std.specs.Prelude.{◌&&◌, ◌==◌, nat_lt, nat_le}
use Rattle.std.proofs.lemmas.List.Sums.{sum_by-cons}
use Rattle.std.proofs.lemmas.Bool.Decides.{nat_tests}
use Rattle.hpx_journal.specs.Bags.{without}
use Rattle.hpx_journal.specs.Data.{Act, Message, Due, MessageDue}
use Rattle.hpx_journal.specs.Entries.{Name, Event, Line, Fire, Done, Sent, Out, In, Rules, Frame, name_of, line_act}
use Rattle.hpx_journal.specs.Frames.{acts_in}
use Rattle.std.specs.Option.{option_to_list}
use Rattle.hpx_journal.specs.Local.{Local, after, leaves, comes, is_act, due_act}
use Rattle.hpx_journal.specs.Rows.{Row}
use Rattle.hpx_journal.specs.Foreign.{present}
use Rattle.hpx_journal.specs.Whole.{sends, arrives_at}
use Rattle.hpx_journal.proofs.Bags.{sum_by-without, list_any-find, find-passes}
use Rattle.hpx_journal.proofs.Same.{same_name-true}
use Rattle.hpx_journal.proofs.Moves.{waiting_moves, act_counts, name_counts}

-- the actions of a frame that are called b
abbrev pub frame_acts : Rules → Name → Frame → ℕ
frame_acts r b f = sum_by (act_counts b) (acts_in (r.parcel_of f.1))

-- whether h has drawn b, n being its last serial
abbrev pub drawn_at : Name → ℕ → ℕ → ℕ
drawn_at b h n = cond ((b.origin == h) && (nat_lt 0 b.serial && nat_le b.serial n)) 1 0

abbrev pub drawn : Name → Local → ℕ
drawn b s = drawn_at b s.here s.serial

abbrev pub next : ℕ → ℕ → Name
next h n = record { origin = h; serial = n + 1 }

pub drawn_next : (b : Name) (h n : ℕ) → name_counts b (next h n) + drawn_at b h n ≡ drawn_at b h (n + 1)
drawn_next b h n = grind (arith, nat_tests)

abbrev pub fire_names : Event → List Name
fire_names (Fire a) = a ∷ []
fire_names _ = []

abbrev pub done_names : Event → List Name
done_names (Done a failed) = a ∷ []
done_names _ = []

fired_fire : (b a : Name) (waiting fired : List Act) (act : Act) → find (is_act a) waiting ≡ Some act
    → count_by (is_act b) (option_to_list (find (is_act a) waiting) ++ fired) + 0 ≡ count_by (is_act b) fired + (0 + name_counts b a)
fired_fire b a waiting fired act h =
    let e : a ≡ name_of act = same_name-true a (name_of act) (find-passes (is_act a) waiting act h) in
    rw (h, sum_by-cons (act_counts b) act fired, e) (omega arith)

fired_done : (b a : Name) (fired : List Act) (act : Act) → find (is_act a) fired ≡ Some act
    → count_by (is_act b) (without (is_act a) fired) + (0 + name_counts b a) ≡ count_by (is_act b) fired + 0
fired_done b a fired act h =
    omega (
      arith,
      sum_by-without (act_counts b) (is_act a) (name_counts b a)
          (λ x t. ap (name_counts b) (sym (same_name-true a (name_of x) t))) fired (list_any-find (is_act a) fired act h),
    )

pub fired_moves : (r : Rules) (s : Local) (e : Event) → Row r s e → (b : Name)
    → count_by (is_act b) (after r s e).fired + sum_by (name_counts b) (done_names e)
    ≡ count_by (is_act b) s.fired + sum_by (name_counts b) (fire_names e)
unfolding after
fired_moves r s (Fire a) h b = fired_fire b a s.waiting s.fired h.0 h.2
fired_moves r s (Done a true) h b = fired_done b a s.fired h.0.act h.0.fired
fired_moves r s (Done a false) h b = fired_done b a s.fired h.0.act h.0.fired
fired_moves r s _ h b = refl

pub done_moves : (r : Rules) (s : Local) (e : Event) → Row r s e → (b : Name)
    → count_by (is_act b) (after r s e).done + 0 ≡ count_by (is_act b) s.done + sum_by (name_counts b) (done_names e)
unfolding after
done_moves r s (Done a true) h b = fired_fire b a s.fired s.done h.0.act h.0.fired
done_moves r s (Done a false) h b = fired_fire b a s.fired s.done h.0.act h.0.fired
done_moves r s _ h b = refl

acts_leave : (b : Name) (acts : List Act)
    → sum_by (name_counts b) (map name_of acts) ≡ 0 + sum_by (act_counts b) acts
acts_leave b [] = refl
acts_leave b (act ∷ acts) =
    rw (sum_by-cons (name_counts b) (name_of act) (map name_of acts), sum_by-cons (act_counts b) act acts)
    (omega (arith, acts_leave b acts))

leaves_split : (r : Rules) (e : Event) (b : Name)
    → sum_by (name_counts b) (leaves r e) ≡ sum_by (name_counts b) (fire_names e) + sum_by (frame_acts r b) (sends e)
leaves_split r (Fire a) b = omega arith
leaves_split r (Out to bytes) b = rw (acts_leave b (acts_in (r.parcel_of bytes))) (omega arith)
leaves_split r _ b = refl

line_comes : (b a : Name) (bytes : List ℕ) (h n : ℕ) → a ≡ next h n
    → (0 + act_counts b (line_act a bytes)) + drawn_at b h n ≡ 0 + drawn_at b h (n + 1)
line_comes b a bytes h n e = rw e (omega (arith, drawn_next b h n))

sent_comes : (b a : Name) (due rest : List Due) (m : Message) (h n : ℕ) → due ≡ MessageDue m ∷ rest → a ≡ next h n
    → sum_by (act_counts b) (due_act a due) + drawn_at b h n ≡ 0 + drawn_at b h (n + 1)
sent_comes b a due rest m h n d e = rw (d, e) (omega (arith, drawn_next b h n))

comes_split : (r : Rules) (s : Local) (e : Event) → Row r s e → (k : ℕ) (b : Name)
    → sum_by (act_counts b) (comes r s e) + drawn b s ≡ sum_by (frame_acts r b) (arrives_at k e) + drawn b (after r s e)
unfolding after
comes_split r s (Line a bytes) h k b = line_comes b a bytes s.here s.serial h.1
comes_split r s (Sent a) h k b = sent_comes b a s.due h.1 h.0 s.here s.serial h.2 h.3
comes_split r s (In bytes) h k b = omega arith
comes_split r s _ h k b = refl

pub present_moves : (r : Rules) (s : Local) (e : Event) → Row r s e → (k : ℕ) (b : Name)
    → present b (after r s e) + sum_by (frame_acts r b) (sends e) + drawn b s
    ≡ present b s + sum_by (frame_acts r b) (arrives_at k e) + drawn b (after r s e)
present_moves r s e h k b =
    omega (arith, waiting_moves r s e h b, fired_moves r s e h b, done_moves r s e h b, leaves_split r e b, comes_split r s e h k b)
