-- An object dies once: one count at most is 0.
use Rattle.std.proofs.Common.{Bool, true, false, List, [], ◌∷◌, ◌≡◌, ◌≤◌, refl, sym, ◌∙◌, arith, inl, inr, subst}
use Rattle.std.specs.Prelude.{◌&&◌, ◌==◌}
use Rattle.std.proofs.lemmas.Bool.{cases_Bool}
use Rattle.std.proofs.lemmas.List.Sums.{sum_by-cons}
use Rattle.hpx_value.specs.Ids.{Id, same_object}
use Rattle.hpx_journal.specs.Entries.{Event, Count, Entry, Rules}
use Rattle.hpx_journal.specs.Local.{Local, after, recorded}
use Rattle.hpx_journal.specs.Rows.{Row, IsDead}
use Rattle.hpx_journal.specs.Whole.{Space, IsLegal, IsLegalFrom, step}
use Rattle.hpx_journal.specs.Laws.{count_events}
use Rattle.hpx_journal.proofs.Bools.{or_left}
use Rattle.hpx_journal.proofs.Keys.{one_if}
use Rattle.hpx_journal.proofs.Same.{and_true}
use Rattle.hpx_journal.proofs.Ledger.{count_row, recorded-same, same_homes}
use Rattle.hpx_journal.proofs.Life.{dead_step}
use Rattle.hpx_journal.proofs.Wholes.{IsWhole, whole_step, at_same}
use Rattle.hpx_journal.proofs.Start.{first, start_whole}

-- an entry says that o is dead
abbrev pub is_death : Id → Event → Bool
is_death o (Count x count why) = (count == 0) && same_object o x
is_death o _ = false

-- it is an entry of its home, where it was not dead before
pub record Dies (r : Rules) (s : Local) (e : Event) (o : Id) : Type 0 where
  pub home : o.home ≡ s.here
  pub before : 1 ≤ recorded o s
  pub then : IsDead o (after r s e)

dies : (r : Rules) (s : Local) (e : Event) (o : Id) → Row r s e → is_death o e ≡ true → Dies r s e o
unfolding after
dies r s (Count x count why) o row t =
    let both = and_true (count == 0) (same_object o x) t in
    let was = count_row r s x count why row in
    record {
      home = same_homes o x both.1 ∙ was.0;
      before = omega (arith, was.1, recorded-same s o x both.1);
      then = or_left (same_object o x && (count == 0)) _ (rw (both.0, both.1) refl);
    }
dies r s _ o row t = absurd (cc)

module _ (r : Rules) (o : Id) where
  dead_there : (w : Space) (e : Entry) → IsWhole r w → Dies r (w.places e.at) e.event o → IsDead o ((step r w e).places o.home)
  unfolding step
  dead_there w e whole d =
      let home : o.home ≡ e.at = d.home ∙ whole.here e.at in
      subst (λ k. IsDead o ((step r w e).places k)) (sym home)
      (subst (IsDead o) (sym (at_same w.places e.at (after r (w.places e.at) e.event))) d.then)

  -- none once it is dead
  no_more : (w : Space) (es : List Entry) → IsWhole r w → IsLegalFrom r w es → IsDead o (w.places o.home) → count_events (is_death o) es ≡ 0
  no_more w [] whole legal dead = refl
  no_more w (e ∷ es) whole legal dead = elim (cases_Bool (is_death o e.event)) [
    | inl t ↦
        let d = dies r (w.places e.at) e.event o legal.0.allowed.row t in
        let home : o.home ≡ e.at = d.home ∙ whole.here e.at in
        let zero : recorded o (w.places o.home) ≡ 0 = (whole.sane o.home).dead o dead in
        absurd (omega (arith, d.before, subst (λ k. recorded o (w.places k) ≡ 0) home zero))
    | inr f ↦
        let none : one_if (is_death o e.event) ≡ 0 = rw f refl in
        omega (
          arith,
          none,
          sum_by-cons (λ (x : Entry). one_if (is_death o x.event)) e es,
          no_more (step r w e) es (whole_step r w e whole legal.0) legal.1 (dead_step r w e o o.home dead),
        )
  ]

  once : (w : Space) (es : List Entry) → IsWhole r w → IsLegalFrom r w es → count_events (is_death o) es ≤ 1
  once w [] whole legal = omega arith
  once w (e ∷ es) whole legal =
      let next = whole_step r w e whole legal.0 in
      let more = sum_by-cons (λ (x : Entry). one_if (is_death o x.event)) e es in
      elim (cases_Bool (is_death o e.event)) [
        | inl t ↦
            let one : one_if (is_death o e.event) ≡ 1 = rw t refl in
            let dead = dead_there w e whole (dies r (w.places e.at) e.event o legal.0.allowed.row t) in
            omega (arith, one, more, no_more (step r w e) es next legal.1 dead)
        | inr f ↦
            let none : one_if (is_death o e.event) ≡ 0 = rw f refl in
            omega (arith, none, more, once (step r w e) es next legal.1)
      ]

  pub dies_once : (es : List Entry) → IsLegal r es → count_events (is_death o) es ≤ 1
  dies_once es legal = once (first r) es (start_whole r) legal
