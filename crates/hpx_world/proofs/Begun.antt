-- An object of which credit is out was born, once, and has not died.
use Rattle.std.proofs.Math.Pow.{pow_pos}
use Rattle.std.proofs.Common.{ℕ, Bool, true, false, cond, List, [], ◌∷◌, ◌≡◌, ◌≢◌, ◌+◌, ◌<◌, ◌≤◌, ◌==◌, Some, map, refl, sym, ap, ◌∙◌, subst, arith, inl, inr}
use Rattle.std.specs.Prelude.{◌&&◌, ◌⊎◌, ◌^◌}
use Rattle.std.specs.List.{list_any, find}
use Rattle.std.proofs.lemmas.Bool.{cases_Bool, cases_eq, cases_lt, eq-eqb, eqb-true, ne_eqb}
use Rattle.std.proofs.lemmas.List.Sums.{sum_by-cons}
use Rattle.hpx_value.specs.Ids.{same_object}
use Rattle.hpx_journal.specs.Data.{Id}
use Rattle.hpx_journal.specs.Entries.{Rules}
use Rattle.hpx_journal.specs.Laws.{IsLegalLocal, IsBorn, count_events}
use Rattle.hpx_journal.specs.Local.{after, is_recorded, count_in}
use Rattle.hpx_journal.specs.Moving.{is_born_of, at_home}
use Rattle.hpx_journal.specs.Rows.{Row, IsDead, is_dead_record}
use Rattle.hpx_journal.specs.Whole.{IsLegal, part, replayed, recorded_in, run_local}
use Rattle.hpx_journal.proofs.Bools.{or_left, or_cases}
use Rattle.hpx_journal.proofs.Credited.{credit_alive, credit_home, is_found}
use Rattle.hpx_journal.proofs.Done.{born_at, born_next}
use Rattle.hpx_journal.proofs.Grow.{run_part, legal_part}
use Rattle.hpx_journal.proofs.Joined.{born_le}
use Rattle.hpx_journal.proofs.Ledger.{count_row, recorded-same, dead_stays}
use Rattle.hpx_journal.proofs.Same.{and_true, same_object-true}
use Rattle.hpx_journal.proofs.Single.{here_stays}
use Rattle.hpx_journal.proofs.Start.{first, legal_whole}
use Rattle.hpx_part.specs.Data.{Event, Entry, Local, Born, Count}
use Rattle.hpx_agas.specs.Records.{find_record}
use Rattle.hpx_agas.specs.declared.record.Record.{Record}
use Rattle.hpx_steps.specs.Flows.{dies}
use Rattle.hpx_steps.specs.Rows.{one_if}
use Rattle.hpx_steps.specs.Sound.{all_count}
use Rattle.hpx_steps.specs.Turn.{counted}

-- ---- births

born_one : (r : Rules) (s : Local) (e : Event) → Row r s e → (o : Id) → one_if (is_born_of o e) + born_at o s.here s.number ≤ born_at o s.here (after r s e).number
unfolding after
born_one r s (Born x state) row o = born_next x o s.here s.number row.0 row.2
born_one r s _ row o = omega arith

born_most : (r : Rules) (s : Local) (es : List Entry) → IsLegalLocal r s es → (o : Id) → count_events (is_born_of o) es + born_at o s.here s.number ≤ born_at o s.here (run_local r s es).number
born_most r s [] legal o = omega arith
born_most r s (e ∷ es) legal o = omega (
  arith,
  born_one r s e.event legal.0.row o,
  subst (λ k. count_events (is_born_of o) es + born_at o k (after r s e.event).number ≤ born_at o k (run_local r (after r s e.event) es).number)
      (here_stays r s (e ∷ [])) (born_most r (after r s e.event) es legal.1 o),
  sum_by-cons (λ (x : Entry). one_if (is_born_of o x.event)) e es,
)

born_away : (r : Rules) (s : Local) (es : List Entry) → IsLegalLocal r s es → (o : Id) → o.home ≢ s.here → count_events (is_born_of o) es ≡ 0
born_away r s [] legal o d = refl
born_away r s (e ∷ es) legal o d = omega (
  arith,
  one e.event legal.0.row,
  born_away r (after r s e.event) es legal.1 o (λ k. d (k ∙ here_stays r s (e ∷ []))),
  sum_by-cons (λ (x : Entry). one_if (is_born_of o x.event)) e es,
)
  where
    one : (e : Event) → Row r s e → one_if (is_born_of o e) ≡ 0
    one (Born x state) row = elim (cases_Bool (same_object o x)) [
      | inl t ↦ absurd (d (ap (λ (y : Id). y.home) (same_object-true o x t) ∙ row.0))
      | inr f ↦ rw f refl
    ]
    one _ row = refl

-- what is recorded was born
born_step : (r : Rules) (s : Local) (e : Event) → Row r s e → (o : Id) → IsBorn o (after r s e) → IsBorn o s ⊎ (is_born_of o e ≡ true)
unfolding after
born_step r s (Born x state) row o h = elim (or_cases (same_object o x) (list_any (is_recorded o) s.counts) h) [
  | inl t ↦ inr t
  | inr t ↦ inl t
]
born_step r s (Count x count why) row o h = elim (or_cases (same_object o x) (list_any (is_recorded o) s.counts) h) [
  | inl t ↦ inl (is_found o s.counts (find (is_recorded o) s.counts) refl (omega (arith, recorded-same s o x t, (count_row r s x count why row).1)))
  | inr t ↦ inl t
]
born_step r s _ row o h = inl h

born_least : (r : Rules) (s : Local) (es : List Entry) → IsLegalLocal r s es → (o : Id) → IsBorn o (run_local r s es) → IsBorn o s ⊎ (1 ≤ count_events (is_born_of o) es)
born_least r s [] legal o h = inl h
born_least r s (e ∷ es) legal o h =
    let more = sum_by-cons (λ (x : Entry). one_if (is_born_of o x.event)) e es in
    elim (born_least r (after r s e.event) es legal.1 o h) [
      | inl was ↦ elim (born_step r s e.event legal.0.row o was) [
        | inl before ↦ inl before
        | inr now ↦ inr (let one : one_if (is_born_of o e.event) ≡ 1 = rw now refl in omega (arith, more, one))
      ]
      | inr later ↦ inr (omega (arith, more, later))
    ]

-- and what was born is managed
born_managed : (r : Rules) (s : Local) (es : List Entry) → IsLegalLocal r s es → (o : Id) → 1 ≤ count_events (is_born_of o) es → 16 ≤ o.kind
born_managed r s [] legal o h = absurd (omega (arith, h))
born_managed r s (e ∷ es) legal o h = elim (cases_Bool (is_born_of o e.event)) [
  | inl t ↦ kind e.event legal.0.row t
  | inr f ↦ born_managed r (after r s e.event) es legal.1 o (omega (arith, h, ap one_if f, sum_by-cons (λ (x : Entry). one_if (is_born_of o x.event)) e es))
]
  where
    kind : (e : Event) → Row r s e → is_born_of o e ≡ true → 16 ≤ o.kind
    kind (Born x state) row t = omega (arith, ap (λ (y : Id). y.kind) (same_object-true o x t), row.1.0)
    kind _ row t = absurd (cc)

-- ---- deaths

dead_run : (r : Rules) (s : Local) (es : List Entry) (o : Id) → IsDead o s → IsDead o (run_local r s es)
dead_run r s [] o h = h
dead_run r s (e ∷ es) o h = dead_run r (after r s e.event) es o (dead_stays r s e.event o h)

dead_now : (r : Rules) (s : Local) (e : Event) (o : Id) → 1 ≤ dies o e → IsDead o (after r s e)
unfolding after
dead_now r s (Count x count why) o h = or_left (same_object o x && (count == 0)) (list_any (is_dead_record o) s.counts) (turned (count == 0) (same_object o x) h)
  where
    turned : (a b : Bool) → 1 ≤ one_if (a && b) → (b && a) ≡ true
    turned true true h = refl
    turned true false h = absurd (omega (arith, h))
    turned false b h = absurd (omega (arith, h))
dead_now r s _ o h = absurd (omega (arith, h))

dies_dead : (r : Rules) (s : Local) (es : List Entry) (o : Id) → 1 ≤ all_count (dies o) es → IsDead o (run_local r s es)
dies_dead r s [] o h = absurd (omega (arith, h))
dies_dead r s (e ∷ es) o h = elim (cases_lt 0 (dies o e.event)) [
  | inl one ↦ dead_run r (after r s e.event) es o (dead_now r s e.event o (omega (arith, one)))
  | inr none ↦ dies_dead r (after r s e.event) es o (omega (arith, h, none, sum_by-cons (λ (x : Entry). dies o x.event) e es))
]

-- and what is dead died so
dead_before : (r : Rules) (s : Local) (e : Event) → Row r s e → (o : Id) → IsDead o (after r s e) → IsDead o s ⊎ (1 ≤ dies o e)
unfolding after
dead_before r s (Count x count why) row o h = elim (or_cases (same_object o x && (count == 0)) (list_any (is_dead_record o) s.counts) h) [
  | inl t ↦ inr (turned (count == 0) (same_object o x) t)
  | inr t ↦ inl t
]
  where
    turned : (a b : Bool) → (b && a) ≡ true → 1 ≤ one_if (a && b)
    turned true true h = omega arith
    turned true false h = absurd (cc)
    turned false true h = absurd (cc)
    turned false false h = absurd (cc)
dead_before r s (Born x state) row o h = elim (or_cases (same_object o x && (2 ^ r.credit_log == 0)) (list_any (is_dead_record o) s.counts) h) [
  | inl t ↦ absurd (omega (arith, eqb-true (2 ^ r.credit_log) 0 (and_true (same_object o x) (2 ^ r.credit_log == 0) t).1, pow_pos r.credit_log))
  | inr t ↦ inl t
]
dead_before r s _ row o h = inl h

dead_dies : (r : Rules) (s : Local) (es : List Entry) → IsLegalLocal r s es → (o : Id) → IsDead o (run_local r s es) → IsDead o s ⊎ (1 ≤ all_count (dies o) es)
dead_dies r s [] legal o h = inl h
dead_dies r s (e ∷ es) legal o h =
    let more = sum_by-cons (λ (x : Entry). dies o x.event) e es in
    elim (dead_dies r (after r s e.event) es legal.1 o h) [
      | inl was ↦ elim (dead_before r s e.event legal.0.row o was) [
        | inl before ↦ inl before
        | inr now ↦ inr (omega (arith, more, now))
      ]
      | inr later ↦ inr (omega (arith, more, later))
    ]

-- ---- the record

pub live_record : (o : Id) (rs : List Record) → 1 ≤ count_in (find (is_recorded o) (map counted rs)) → (x : Record) × (find_record o rs ≡ Some x)
live_record o [] h = absurd (omega (arith, h))
live_record o (x ∷ rs) h = elim (cases_Bool (same_object o x.gid)) [
  | inl t ↦ (x, rw t refl)
  | inr f ↦ let k = live_record o rs (subst (λ b. 1 ≤ count_in (cond b (Some (counted x)) (find (is_recorded o) (map counted rs)))) f h) in (k.0, rw f k.1)
]

-- ---- a legal journal

module _ (r : Rules) (es : List Entry) (legal : IsLegal r es) (o : Id) where
  pub born_at_home : (k : ℕ) → k ≢ o.home → count_events (is_born_of o) (part k es) ≡ 0
  born_at_home k d = born_away r ((first r).places k) (part k es) (legal_part r (first r) es legal k) o (λ e. d (sym e))

  -- and where its last credit came home it is dead
  pub dies_there : 1 ≤ all_count (dies o) (part o.home es) → IsDead o ((replayed r es).places o.home)
  dies_there h = subst (IsDead o) (sym (run_part r (first r) es o.home)) (dies_dead r ((first r).places o.home) (part o.home es) o h)

  pub dies_needed : IsDead o ((replayed r es).places o.home) → 1 ≤ all_count (dies o) (part o.home es)
  dies_needed h = elim (dead_dies r ((first r).places o.home) (part o.home es) (legal_part r (first r) es legal o.home) o (subst (IsDead o) (run_part r (first r) es o.home) h)) [
    | inl none ↦ absurd (cc)
    | inr some ↦ some
  ]

  -- what was born was born once, at its home
  module _ (born : IsBorn o ((replayed r es).places o.home)) where
    born_once : count_events (is_born_of o) (part o.home es) ≡ 1
    born_once =
        let s = (first r).places o.home in
        let there = legal_part r (first r) es legal o.home in
        elim (born_least r s (part o.home es) there o (subst (IsBorn o) (run_part r (first r) es o.home) born)) [
          | inl none ↦ absurd (cc)
          | inr one ↦ omega (
            arith,
            one,
            born_most r s (part o.home es) there o,
            born_le o s.here (run_local r s (part o.home es)).number,
          )
        ]

    pub born_there : (k : ℕ) → count_events (is_born_of o) (part k es) ≡ at_home o.home k
    born_there k = elim (cases_eq k o.home) [
      | inl e ↦ rw (eq-eqb k o.home e) (subst (λ j. count_events (is_born_of o) (part j es) ≡ 1) (sym e) born_once)
      | inr d ↦ rw (ne_eqb k o.home d) (born_at_home k d)
    ]

  module _ (some : 1 ≤ recorded_in o (replayed r es)) where
    pub near : o.home < r.localities
    near = credit_home r es legal o (omega (arith, some, (legal_whole r es legal).ledger o))

    pub born_is : (k : ℕ) → count_events (is_born_of o) (part k es) ≡ at_home o.home k
    born_is = born_there (credit_alive r es legal o (omega (arith, some, (legal_whole r es legal).ledger o))).born

    pub born_here : count_events (is_born_of o) (part o.home es) ≡ 1
    born_here = born_once (credit_alive r es legal o (omega (arith, some, (legal_whole r es legal).ledger o))).born

    pub managed_here : 16 ≤ o.kind
    managed_here = born_managed r ((first r).places o.home) (part o.home es) (legal_part r (first r) es legal o.home) o (omega (arith, born_here))

    pub none_dies : 1 ≤ all_count (dies o) (part o.home es) → ⊥
    none_dies h =
        let alive = credit_alive r es legal o (omega (arith, some, (legal_whole r es legal).ledger o)) in
        alive.alive (dies_there h)
