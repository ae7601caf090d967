-- What the rows count, in the words of the laws of journals.
use Rattle.hpx_node.proofs.Common.{Bool, Born, Count, Entry, Event, Freed, FreesOf, FreesTheDead, Give, Given, Granted, Id, In, IsPassive, List, Local, None, Option, Out, Parcel, Refusals, Refused, RefusesForCause, Returned, Rules, Some, StandsWith, Tables, [], and_true, arith, boot, causes, cond, count_events, eqb-true, frees_one, goes, hands_refusal, inl, inr, is_credit_least, is_free_of, is_freed, is_least, is_refusal, is_refused_count, is_refusing, list_any, one_if, part, refl, run_local, same_object, sends_such, sum_by, sum_by-cons, takes_such, weighed, ℕ, ◌+◌, ◌==◌, ◌^◌, ◌∷◌, ◌≡◌, ◌≤◌, ◌⊎◌}
use Rattle.hpx_journal.specs.Local.{after}
use Rattle.std.proofs.Math.Pow.{pow_pos}
use Rattle.hpx_journal.specs.Roots.{roots}
use Rattle.hpx_journal.specs.Rows.{is_dead_record, IsDead}
use Rattle.hpx_journal.proofs.Bools.{or_cases}
use Rattle.hpx_node.proofs.IdleSince.{passive_unpaid}

-- a sum over entries, where each counts what two tests count
count_two : (g : Event → ℕ) (p q : Event → Bool) → ((e : Event) → g e ≡ cond (p e) 1 0 + cond (q e) 1 0) → (es : List Entry)
    → sum_by (λ (e : Entry). g e.event) es ≡ count_events p es + count_events q es
count_two g p q h [] = refl
count_two g p q h (e ∷ es) = omega (
  arith,
  h e.event,
  sum_by-cons (λ (x : Entry). g x.event) e es,
  sum_by-cons (λ (x : Entry). cond (p x.event) 1 0) e es,
  sum_by-cons (λ (x : Entry). cond (q x.event) 1 0) e es,
  count_two g p q h es,
)

-- ---- refusals

least : (log : Option ℕ) → one_if (is_least log) ≡ cond (is_credit_least log) 1 0
least None = refl
least (Some log) = refl

refusal_is : (p : Option Parcel) → weighed is_refusal p ≡ cond (is_refusing p) 1 0
refusal_is None = refl
refusal_is (Some (Give id entry)) = least id.log
refusal_is (Some _) = refl

refusal_goes : (r : Rules) (e : Event) → goes r Refusals e ≡ cond (sends_such is_refusing r e) 1 0 + cond (hands_refusal e) 1 0
refusal_goes r (Out to bytes) = omega (arith, refusal_is (r.parcel_of bytes))
refusal_goes r (Given o log) = omega arith
refusal_goes r _ = refl

refusal_comes : (r : Rules) (e : Event) → causes r Refusals e ≡ cond (takes_such is_refusing r e) 1 0 + cond (is_refused_count e) 1 0
refusal_comes r (In bytes) = omega (arith, refusal_is (r.parcel_of bytes))
refusal_comes r (Count o count (Returned log)) = refl
refusal_comes r (Count o count Granted) = refl
refusal_comes r (Count o count Refused) = refl
refusal_comes r _ = refl

pub refuses_for_cause : (r : Rules) (t : Tables) (entries : List Entry) → StandsWith r t [] [] entries → RefusesForCause r (part t.here entries)
refuses_for_cause r t entries h = record {
  few = omega (
    arith,
    h.paid.rows Refusals tt,
    count_two (goes r Refusals) (sends_such is_refusing r) hands_refusal (refusal_goes r) (part t.here entries),
    count_two (causes r Refusals) (takes_such is_refusing r) is_refused_count (refusal_comes r) (part t.here entries),
  );
}

-- ---- what is freed

free_is : (o : Id) (p : Option Parcel) → weighed (frees_one o) p ≡ cond (is_free_of o p) 1 0
free_is o None = refl
free_is o (Some p) = refl

free_goes : (r : Rules) (o : Id) (e : Event) → goes r (FreesOf o) e ≡ cond (sends_such (is_free_of o) r e) 1 0 + cond (is_freed o e) 1 0
free_goes r o (Out to bytes) = omega (arith, free_is o (r.parcel_of bytes))
free_goes r o (Freed x) = omega arith
free_goes r o _ = refl

-- who is dead after an entry was dead before, or the entry says so
dead_then : (r : Rules) (o : Id) (s : Local) (e : Event) → IsDead o (after r s e) → IsDead o s ⊎ (1 ≤ causes r (FreesOf o) e)
unfolding after
dead_then r o s (Born x state) h =
    elim (or_cases (is_dead_record o (record { object = x; count = 2 ^ r.credit_log })) (list_any (is_dead_record o) s.counts) h) [
      | inl t ↦
          let parts = and_true (same_object o x) (2 ^ r.credit_log == 0) t in
          let zero : 2 ^ r.credit_log ≡ 0 = eqb-true (2 ^ r.credit_log) 0 parts.1 in
          absurd (omega (arith, zero, pow_pos r.credit_log))
      | inr t ↦ inl t
    ]
dead_then r o s (Count x count why) h =
    elim (or_cases (is_dead_record o (record { object = x; count = count })) (list_any (is_dead_record o) s.counts) h) [
      | inl t ↦ let parts = and_true (same_object o x) (count == 0) t in inr (rw (parts.1, parts.0) (omega arith))
      | inr t ↦ inl t
    ]
dead_then r o s _ h = inl h

dead_counted : (r : Rules) (o : Id) (s : Local) (es : List Entry) → IsDead o (run_local r s es)
    → IsDead o s ⊎ (1 ≤ sum_by (λ (e : Entry). causes r (FreesOf o) e.event) es)
dead_counted r o s [] h = inl h
dead_counted r o s (e ∷ es) h =
    let more = sum_by-cons (λ (x : Entry). causes r (FreesOf o) x.event) e es in
    elim (dead_counted r o (after r s e.event) es h) [
      | inl i ↦ elim (dead_then r o s e.event i) [
        | inl j ↦ inl j
        | inr j ↦ inr (omega (arith, j, more))
      ]
      | inr i ↦ inr (omega (arith, i, more))
    ]

pub frees_the_dead : (r : Rules) (t : Tables) (entries : List Entry) → StandsWith r t [] [] entries → IsPassive t
    → FreesTheDead r t.here (part t.here entries)
frees_the_dead r t entries h passive = record {
  sent = λ o home dead. elim (dead_counted r o (boot (roots r.localities t.here) t.here) (part t.here entries) dead) [
    | inl none ↦ absurd (cc)
    | inr some ↦ omega (
      arith,
      some,
      h.paid.rows (FreesOf o) tt,
      passive_unpaid t passive (FreesOf o),
      count_two (goes r (FreesOf o)) (sends_such (is_free_of o) r) (is_freed o) (free_goes r o) (part t.here entries),
    )
  ];
  freed = h.paid.frees;
}
