-- Where the greatest count is ample, no more credit is ever refused.
use Rattle.std.proofs.Common.{ℕ, Bool, true, false, cond, List, [], ◌∷◌, ◌≡◌, ◌+◌, ◌*◌, ◌^◌, ◌≤◌, length, refl, ap, subst, arith, inl, inr}
use Rattle.std.specs.List.{find}
use Rattle.std.proofs.Math.Pow.{pow_mono}
use Rattle.std.proofs.lemmas.List.Sums.{sum_by-cons}
use Rattle.std.proofs.lemmas.Bool.{cases_Bool, cases_eq}
use Rattle.hpx_value.specs.Ids.{Id, same_object}
use Rattle.hpx_journal.specs.Entries.{Returned, Granted, Refused, Event, Born, Count, Entry, Rules}
use Rattle.hpx_journal.specs.Local.{Local, recorded, is_recorded, count_in, after}
use Rattle.hpx_journal.specs.Rows.{Row}
use Rattle.hpx_journal.specs.Roots.{roots}
use Rattle.hpx_journal.specs.Whole.{Space, at_place, step, start, MayStand, IsLegalFrom, IsLegal}
use Rattle.hpx_journal.specs.Laws.{is_refused_count, count_events}
use Rattle.hpx_journal.proofs.Ledger.{recorded-same}
use Rattle.hpx_journal.proofs.Wholes.{at_same, at_other}

-- one record more: of this object, or of another
record_at : (b : Bool) (count old most : ℕ) → (b ≡ true → count ≤ most) → old ≤ most → cond b count old ≤ most
record_at true count old most h i = h refl
record_at false count old most h i = i

written : (o x : Id) (count most : ℕ) (s : Local) → (same_object o x ≡ true → count ≤ most) → recorded o s ≤ most
    → count_in (find (is_recorded o) (record { object = x; count = count } ∷ s.counts)) ≤ most
written o x count most s new old = elim (cases_Bool (same_object o x)) [ inl same ↦ rw same (new same) | inr other ↦ rw other old ]

-- an entry records no more than a new credit more
grows : (r : Rules) (s : Local) (e : Event) → Row r s e → (o : Id) → recorded o (after r s e) ≤ recorded o s + 2 ^ r.credit_log
unfolding after
grows r s (Born x state) row o = written o x (2 ^ r.credit_log) (recorded o s + 2 ^ r.credit_log) s (λ same. omega arith) (omega arith)
grows r s (Count x count (Returned log)) row o =
    written o x count (recorded o s + 2 ^ r.credit_log) s (λ same. omega (arith, row.2, recorded-same s o x same)) (omega arith)
grows r s (Count x count Granted) row o =
    written o x count (recorded o s + 2 ^ r.credit_log) s (λ same. omega (arith, row.2, recorded-same s o x same)) (omega arith)
grows r s (Count x count Refused) row o =
    written o x count (recorded o s + 2 ^ r.credit_log) s (λ same. omega (arith, row.2, recorded-same s o x same)) (omega arith)
grows r s _ row o = omega arith

grows_step : (r : Rules) (w : Space) (e : Entry) → MayStand r w e → (o : Id) (k : ℕ)
    → recorded o ((step r w e).places k) ≤ recorded o (w.places k) + 2 ^ r.credit_log
unfolding step
grows_step r w e ok o k = elim (cases_eq e.at k) [
  | inl same ↦
      let g = grows r (w.places e.at) e.event ok.allowed.row o in
      let a : recorded o (at_place w.places e.at (after r (w.places e.at) e.event) k) ≡ recorded o (after r (w.places e.at) e.event) =
      subst (λ j. recorded o (at_place w.places e.at (after r (w.places e.at) e.event) j) ≡ recorded o (after r (w.places e.at) e.event)) same
      (ap (recorded o) (at_same w.places e.at (after r (w.places e.at) e.event))) in
      let b : recorded o (w.places e.at) ≡ recorded o (w.places k) = ap (λ j. recorded o (w.places j)) same in
      omega (arith, g, a, b)
  | inr other ↦ omega (arith, ap (recorded o) (at_other w.places e.at (after r (w.places e.at) e.event) k other))
]

-- so it records no refusal
not_refused : (r : Rules) (s : Local) (e : Event) (n : ℕ) → Row r s e → ((o : Id) → recorded o s ≤ n * 2 ^ 31) → 2 ^ r.credit_log ≤ 2 ^ 31
    → (n + 1) * 2 ^ 31 ≤ r.credit_limit → cond {A = ℕ} (is_refused_count e) 1 0 ≡ 0
not_refused r s (Count x count Refused) n row bound small ample =
    let h = bound x in let f = row.3 in absurd (omega (arith, h, f, small, ample))
not_refused r s (Count x count Granted) n row bound small ample = refl
not_refused r s (Count x count (Returned log)) n row bound small ample = refl
not_refused r s _ n row bound small ample = refl

ample_from : (r : Rules) (w : Space) (es : List Entry) (n : ℕ) → IsLegalFrom r w es → ((o : Id) (k : ℕ) → recorded o (w.places k) ≤ n * 2 ^ 31)
    → 2 ^ r.credit_log ≤ 2 ^ 31 → n + length es ≤ 2097152 → 2 ^ 53 ≤ r.credit_limit → count_events is_refused_count es ≡ 0
ample_from r w [] n legal bound small few ample = refl
ample_from r w (e ∷ es) n legal bound small few ample =
    let one = not_refused r (w.places e.at) e.event n legal.0.allowed.row (λ o. bound o e.at) small (omega (arith, few, ample)) in
    let rest = ample_from r (step r w e) es (n + 1) legal.1 (λ o k. omega (arith, grows_step r w e legal.0 o k, bound o k, small)) small (omega (arith, few)) ample in
    omega (arith, one, rest, sum_by-cons (λ x. cond {A = ℕ} (is_refused_count x.event) 1 0) e es)

pub legal_ample : (r : Rules) (es : List Entry) → IsLegal r es → r.credit_log ≤ 31 → length es ≤ 2097152 → 2 ^ 53 ≤ r.credit_limit
    → count_events is_refused_count es ≡ 0
legal_ample r es legal log few ample =
    ample_from r (start (roots r.localities)) es 0 legal (λ o k. omega arith) (pow_mono log) (omega (arith, few)) ample
