-- Credits and records: each entry keeps what is here and on the road, less what is recorded.
use Rattle.std.proofs.Common.{ℕ, zero, suc, Bool, true, false, cond, List, [], ◌∷◌, ◌≡◌, ◌≢◌, ◌+◌, ◌-◌, ◌^◌, ◌<◌, ◌≤◌, Option, Some, refl, ap, ◌∙◌, arith, inl, inr}
use Rattle.std.specs.List.{list_any, find, sum_by}
use Rattle.std.specs.Prelude.{◌&&◌, ◌||◌, ◌==◌}
use Rattle.std.proofs.lemmas.Bool.{eqb-true, eq-eqb, cases_lt}
use Rattle.std.proofs.Math.Nat.{pow-suc}
use Rattle.hpx_value.specs.Ids.{Id, same_object}
use Rattle.hpx_journal.specs.Entries.{Reason, Returned, Granted, Refused, Event, Split, Born, Merge, Up, Count, Out, In, Frame, Rules}
use Rattle.hpx_journal.specs.Tokens.{worth}
use Rattle.hpx_journal.specs.Frames.{tokens_in}
use Rattle.hpx_journal.specs.Local.{Local, Recorded, after, takes, gives, recorded, count_in, is_recorded}
use Rattle.hpx_journal.specs.Rows.{Row, is_dead_record, IsDead}
use Rattle.hpx_journal.specs.Laws.{TargetsStand}
use Rattle.hpx_journal.specs.Whole.{sends, arrives_at}
use Rattle.hpx_journal.proofs.Bags.{find-none, find-same}
use Rattle.hpx_journal.proofs.Bools.{or_left, or_right, or_false, or_cases, false_from}
use Rattle.hpx_journal.proofs.Stands.{stand_after}
use Rattle.hpx_journal.proofs.Same.{same_object-true, same_object-from, and_true}

-- the credits of o in a frame
abbrev pub frame_worth : Rules → Id → Frame → ℕ
frame_worth r o f = sum_by (worth o) (tokens_in (r.parcel_of f.1))

-- no record has a number that is not drawn, and the record of what is dead is 0
pub record IsSane (s : Local) : Type 0 where
  pub numbered : (o : Id) → s.number < o.number → list_any (is_recorded o) s.counts ≡ false
  pub dead : (o : Id) → IsDead o s → recorded o s ≡ 0
  pub stand : TargetsStand s

-- what is recorded of an object does not look at the credit that its id shows
pub recorded-same : (s : Local) (o x : Id) → same_object o x ≡ true → recorded o s ≡ recorded x s
recorded-same s o x h = ap count_in (find-same (is_recorded o) (is_recorded x) (λ y. same_object-from o x y.object h) s.counts)

pub same_numbers : (o x : Id) → same_object o x ≡ true → o.number ≡ x.number
same_numbers o x h = ap (λ y. y.number) (same_object-true o x h)

pub same_homes : (o x : Id) → same_object o x ≡ true → o.home ≡ x.home
same_homes o x h = ap (λ y. y.home) (same_object-true o x h)

-- what is recorded is recorded under a number that is drawn
some_recorded : (s : Local) → IsSane s → (o : Id) → 1 ≤ recorded o s → o.number ≤ s.number
some_recorded s sane o h =
    elim (cases_lt s.number o.number) [
      | inl i ↦ let e = find-none (is_recorded o) s.counts (sane.numbered o i) in
          let f : recorded o s ≡ 0 = ap count_in e in omega arith
      | inr i ↦ i
    ]

not_recorded : (s : Local) → IsSane s → (o : Id) → s.number < o.number → recorded o s ≡ 0
not_recorded s sane o h = ap count_in (find-none (is_recorded o) s.counts (sane.numbered o h))

born_ledger : (b : Bool) (new : ℕ) (o x : Id) (old : Option Recorded) → (b ≡ true → count_in old ≡ 0)
    → 0 + 0 + count_in (cond b (Some (record { object = x; count = new })) old) ≡ (0 + cond b new 0) + 0 + count_in old
born_ledger true new o x old h = omega (arith, h refl)
born_ledger false new o x old h = omega arith

count_ledger : (b : Bool) (new worth : ℕ) (x : Id) (old : Option Recorded) → (b ≡ true → new + worth ≡ count_in old)
    → (0 + cond b worth 0) + 0 + count_in (cond b (Some (record { object = x; count = new })) old) ≡ 0 + 0 + count_in old
count_ledger true new worth x old h = omega (arith, h refl)
count_ledger false new worth x old h = omega arith

granted_ledger : (b : Bool) (new born : ℕ) (x : Id) (old : Option Recorded) → (b ≡ true → new + 1 ≡ count_in old + born)
    → (0 + cond b (2 ^ 0) 0) + 0 + count_in (cond b (Some (record { object = x; count = new })) old) ≡ (0 + cond b born 0) + 0 + count_in old
granted_ledger true new born x old h = omega (arith, h refl)
granted_ledger false new born x old h = omega arith

refused_ledger : (b : Bool) (new c : ℕ) (x : Id) (old : Option Recorded) → (b ≡ true → new ≡ count_in old)
    → (0 + c) + 0 + count_in (cond b (Some (record { object = x; count = new })) old) ≡ (0 + c) + 0 + count_in old
refused_ledger true new c x old h = omega (arith, h refl)
refused_ledger false new c x old h = omega arith

half : (log : ℕ) → 1 ≤ log → 2 ^ (log - 1) + 2 ^ (log - 1) ≡ 2 ^ log
half zero h = omega arith
half (suc m) h = rw (let e : suc m - 1 ≡ m = omega arith in e) (omega (arith, pow-suc 2 m))

split_ledger : (b : Bool) (log : ℕ) (c : ℕ) → 1 ≤ log
    → (0 + cond b (2 ^ log) 0) + 0 + c ≡ (0 + cond b (2 ^ (log - 1)) 0 + cond b (2 ^ (log - 1)) 0) + 0 + c
split_ledger true log c h = omega (arith, half log h)
split_ledger false log c h = refl

merge_ledger : (b : Bool) (log : ℕ) (c : ℕ)
    → (0 + cond b (2 ^ log) 0 + cond b (2 ^ log) 0) + 0 + c ≡ (0 + cond b (2 ^ (log + 1)) 0) + 0 + c
merge_ledger true log c = let e : log + 1 ≡ suc log = omega arith in rw e (omega (arith, pow-suc 2 log))
merge_ledger false log c = refl

pub ledger_moves : (r : Rules) (s : Local) (e : Event) → IsSane s → Row r s e → (k : ℕ) (o : Id)
    → sum_by (worth o) (takes r e) + sum_by (frame_worth r o) (arrives_at k e) + recorded o (after r s e)
    ≡ sum_by (worth o) (gives r e) + sum_by (frame_worth r o) (sends e) + recorded o s
unfolding after
ledger_moves r s (Split x log) sane h k o = split_ledger (same_object o x) log (recorded o s) h
ledger_moves r s (Born x state) sane h k o =
    born_ledger (same_object o x) (2 ^ r.credit_log) o x (find (is_recorded o) s.counts)
    (λ t. let n : o.number ≡ x.number = same_numbers o x t in
    not_recorded s sane o (omega (arith, h.2)))
ledger_moves r s (Count x count (Returned log)) sane h k o =
    count_ledger (same_object o x) count (2 ^ log) x (find (is_recorded o) s.counts)
    (λ t. rw (recorded-same s o x t) h.2)
ledger_moves r s (Count x count Granted) sane h k o =
    granted_ledger (same_object o x) count (2 ^ r.credit_log) x (find (is_recorded o) s.counts)
    (λ t. rw (recorded-same s o x t) h.2)
ledger_moves r s (Count x count Refused) sane h k o =
    refused_ledger (same_object o x) count (cond (same_object o x) (2 ^ 0) 0) x (find (is_recorded o) s.counts)
    (λ t. rw (recorded-same s o x t) h.2)
ledger_moves r s (Merge x log) sane h k o = merge_ledger (same_object o x) log (recorded o s)
ledger_moves r s (Up x log) sane h k o = refl
ledger_moves r s (Out to bytes) sane h k o = omega arith
ledger_moves r s (In bytes) sane h k o = omega arith
ledger_moves r s _ sane h k o = refl

-- each reason for a count says that o is at home here, was born and is not dead
pub count_row : (r : Rules) (s : Local) (o : Id) (count : ℕ) (why : Reason) → Row r s (Count o count why)
    → (o.home ≡ s.here) × (1 ≤ recorded o s)
count_row r s o count (Returned log) h = (h.0, h.1)
count_row r s o count Granted h = (h.0, h.1)
count_row r s o count Refused h = (h.0, h.1)

-- only the home records
elsewhere : (b : Bool) (x : Recorded) (old : Option Recorded) → (b ≡ true → ⊥) → count_in (cond b (Some x) old) ≡ count_in old
elsewhere true x old h = absurd (h refl)
elsewhere false x old h = refl

pub recorded_elsewhere : (r : Rules) (s : Local) (e : Event) → Row r s e → (o : Id) → o.home ≢ s.here
    → recorded o (after r s e) ≡ recorded o s
unfolding after
recorded_elsewhere r s (Born x state) h o away =
    elsewhere (same_object o x) (record { object = x; count = 2 ^ r.credit_log }) (find (is_recorded o) s.counts)
    (λ t. away (same_homes o x t ∙ h.0))
recorded_elsewhere r s (Count x count why) h o away =
    elsewhere (same_object o x) (record { object = x; count = count }) (find (is_recorded o) s.counts)
    (λ t. away (same_homes o x t ∙ (count_row r s x count why h).0))
recorded_elsewhere r s _ h o away = refl

pub dead_stays : (r : Rules) (s : Local) (e : Event) (o : Id) → IsDead o s → IsDead o (after r s e)
unfolding after
dead_stays r s (Born x state) o h = or_right _ _ h
dead_stays r s (Count x count why) o h = or_right _ _ h
dead_stays r s _ o h = h

-- ---- the records stay sane

pub dead_is_recorded : (o : Id) (xs : List Recorded) → list_any (is_dead_record o) xs ≡ true → list_any (is_recorded o) xs ≡ true
dead_is_recorded o [] h = h
dead_is_recorded o (x ∷ xs) h =
    elim (or_cases (is_dead_record o x) (list_any (is_dead_record o) xs) h) [
      | inl i ↦ or_left _ _ (and_true (same_object o x.object) (x.count == 0) i).0
      | inr i ↦ or_right _ _ (dead_is_recorded o xs i)
    ]

sane_numbered : (r : Rules) (s : Local) (e : Event) → IsSane s → Row r s e
    → (o : Id) → (after r s e).number < o.number → list_any (is_recorded o) (after r s e).counts ≡ false
unfolding after
sane_numbered r s (Born x state) sane h o i =
    or_false _ _ (false_from (same_object o x) (λ t. let n : o.number ≡ x.number = same_numbers o x t in
    let m : x.number ≡ s.number + 1 = h.2 in absurd (omega arith))) (sane.numbered o (omega arith))
sane_numbered r s (Count x count why) sane h o i =
    or_false _ _ (false_from (same_object o x) (λ t. let m : o.number ≡ x.number = same_numbers o x t in
    let n : x.number ≤ s.number = some_recorded s sane x (count_row r s x count why h).1 in absurd (omega arith))) (sane.numbered o i)
sane_numbered r s _ sane h o i = sane.numbered o i

born_zero_at : (b : Bool) (o : Id) (x : Recorded) (xs : List Recorded)
    → (list_any (is_recorded o) xs ≡ true → count_in (find (is_recorded o) xs) ≡ 0 → list_any (is_dead_record o) xs ≡ true)
    → (b || list_any (is_recorded o) xs) ≡ true → count_in (cond b (Some x) (find (is_recorded o) xs)) ≡ 0
    → ((b && (x.count == 0)) || list_any (is_dead_record o) xs) ≡ true
born_zero_at true o x xs ih h z = or_left _ _ (eq-eqb x.count 0 z)
born_zero_at false o x xs ih h z = ih h z

-- what has a record whose last number is 0 is dead
pub born_zero : (o : Id) (xs : List Recorded) → list_any (is_recorded o) xs ≡ true → count_in (find (is_recorded o) xs) ≡ 0
    → list_any (is_dead_record o) xs ≡ true
born_zero o [] h z = h
born_zero o (x ∷ xs) h z = born_zero_at (is_recorded o x) o x xs (born_zero o xs) h z

-- a new record on top of old ones
dead_on_top : (b : Bool) (n : ℕ) (x : Id) (old : List Recorded) (o : Id)
    → (b ≡ true → list_any (is_dead_record o) old ≡ true → ⊥)
    → (list_any (is_dead_record o) old ≡ true → count_in (find (is_recorded o) old) ≡ 0)
    → ((b && (n == 0)) || list_any (is_dead_record o) old) ≡ true
    → count_in (cond b (Some (record { object = x; count = n })) (find (is_recorded o) old)) ≡ 0
dead_on_top true n x old o fresh ih h =
    elim (or_cases (n == 0) (list_any (is_dead_record o) old) h) [
      | inl i ↦ eqb-true n 0 i
      | inr i ↦ absurd (fresh refl i)
    ]
dead_on_top false n x old o fresh ih h = ih h

sane_dead : (r : Rules) (s : Local) (e : Event) → IsSane s → Row r s e
    → (o : Id) → IsDead o (after r s e) → recorded o (after r s e) ≡ 0
unfolding after
sane_dead r s (Born x state) sane h o d =
    dead_on_top (same_object o x) (2 ^ r.credit_log) x s.counts o
    (λ t dead. let m : o.number ≡ x.number = same_numbers o x t in
    let n : x.number ≡ s.number + 1 = h.2 in
    let a : list_any (is_recorded o) s.counts ≡ false = sane.numbered o (omega arith) in
    let b : list_any (is_recorded o) s.counts ≡ true = dead_is_recorded o s.counts dead in cc)
    (sane.dead o) d
sane_dead r s (Count x count why) sane h o d =
    dead_on_top (same_object o x) count x s.counts o
    (λ t dead. let zero : recorded o s ≡ 0 = sane.dead o dead in
    absurd (omega (arith, recorded-same s o x t, (count_row r s x count why h).1)))
    (sane.dead o) d
sane_dead r s _ sane h o d = sane.dead o d

pub sane_after : (r : Rules) (s : Local) (e : Event) → IsSane s → Row r s e → IsSane (after r s e)
sane_after r s e sane h = record { numbered = sane_numbered r s e sane h; dead = sane_dead r s e sane h; stand = stand_after r s e h sane.stand }
