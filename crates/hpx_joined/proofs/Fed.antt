-- A journal that feeds one line, wherever it stands, and is quiet at its end, is a block of the plain pool.
use Rattle.std.specs.List.{sum_by}
use Rattle.std.proofs.Common.{ℕ, true, false, suc, List, [], ◌∷◌, ◌++◌, ◌≡◌, ◌≢◌, ◌≤◌, refl, sym, ap, ◌∙◌, subst, arith, inl, inr, append-nil}
use Rattle.std.proofs.lemmas.List.Sums.{sum_by-cons}
use Rattle.std.proofs.lemmas.Bool.{cases_eq, eq-eqb, ne_eqb}
use Rattle.hpx_journal.specs.Data.{Message}
use Rattle.hpx_journal.specs.Entries.{Rules}
use Rattle.hpx_journal.specs.declared.entry.Entry.{Entry}
use Rattle.hpx_journal.specs.declared.entry.Event.{Event}
use Rattle.hpx_journal.specs.declared.entry.Event.TheVariants.{Line, Done, Landed}
use Rattle.hpx_journal.specs.Rows.{Allowed, Row}
use Rattle.hpx_journal.specs.Whole.{Space, step, replayed, IsLegal, IsLegalFrom, IsQuiet, part}
use Rattle.hpx_journal.specs.declared.local.Local.{Local}
use Rattle.hpx_journal.specs.Laws.{HasGrammar, KeepsActLaws}
use Rattle.hpx_journal.specs.Pool.{Pool, fed, Goes, Runs, act_mass, due_mass, frame_mass, mass_at, mass, prints_due, prints_of, IsBlind, NoneFails, boot_pool}
use Rattle.hpx_journal.specs.Sessions.{IsSettled, FeedsNothing, Steps, at_rest, IsPlainBlock}
use Rattle.hpx_journal.proofs.Bags.{total-zero}
use Rattle.hpx_journal.proofs.Reduced.{boot_shows, legal_reduced}
use Rattle.hpx_journal.proofs.Sessions.{quiet_settled}
use Rattle.hpx_joined.specs.Ends.{line_by, lines_in}

-- ---- what is settled has nothing pending

settled_mass : (r : Rules) (w : Space) → IsSettled r w → (f : Message → ℕ) → mass r f w ≡ 0
settled_mass r w settled f =
    omega (
      arith,
      ap (sum_by (frame_mass r f)) settled.road,
      total-zero r.localities (λ k. mass_at f (w.places k)) (λ k h. omega (
        arith,
        ap (sum_by (act_mass f)) (settled.waiting k h),
        ap (sum_by (act_mass f)) (settled.fired k h),
        ap (sum_by (due_mass f)) (settled.due k h),
      )),
    )

none_pending : (xs : List Message) → sum_by (λ x. 1) xs ≡ 0 → xs ≡ []
none_pending [] h = refl
none_pending (x ∷ xs) h = absurd (omega (arith, sum_by-cons (λ y. 1) x xs))

-- ---- steps of the pool

pub record AreSteps (r : Rules) (p q : Pool) : Type 0 where
  pub number : ℕ
  pub steps : Steps r number p q

one_more : (r : Rules) (p mid q : Pool) (e : Event) → FeedsNothing e → Goes r p e mid → AreSteps r mid q → AreSteps r p q
one_more r p mid q (Line a bytes) none goes rest = absurd none
one_more r p mid q (Done a true) none goes rest = absurd goes
one_more r p mid q (Done a false) none goes rest = record { number = suc rest.number; steps = (mid, inl goes, rest.steps) }
one_more r p mid q (Landed o) none goes rest = record { number = suc rest.number; steps = (mid, inr (o, goes), rest.steps) }
one_more r p mid q _ none goes rest = subst (λ v. AreSteps r v q) goes rest

steps_of : (r : Rules) (p q : Pool) (es : List Entry) → lines_in es ≡ [] → Runs r p es q → AreSteps r p q
steps_of r p q [] none runs = record { number = 0; steps = runs }
steps_of r p q (e ∷ es) none runs = one_more r p runs.0 q e.event (no_line e.event (lines_in es) none) runs.1 (steps_of r runs.0 q es (no_more e.event (lines_in es) none) runs.2)
  where
    no_line : (e : Event) (later : List (List ℕ)) → line_by e ++ later ≡ [] → FeedsNothing e
    no_line (Line a bytes) later h = let no : bytes ∷ later ≡ [] = h in cc
    no_line _ later h = tt

    no_more : (e : Event) (later : List (List ℕ)) → line_by e ++ later ≡ [] → later ≡ []
    no_more (Line a bytes) later h = absurd (let no : bytes ∷ later ≡ [] = h in cc)
    no_more _ later h = h

no_split : (before : List Message) (m : Message) (behind : List Message) → [] ≡ before ++ m ∷ behind → ⊥
no_split [] m behind h = cc
no_split (y ∷ before) m behind h = cc

-- ---- the one line: before it the pool stands still, and behind it are steps

from_line : (r : Rules) (p q : Pool) (line : List ℕ) (es : List Entry) → p.pending ≡ [] → lines_in es ≡ line ∷ [] → Runs r p es q → AreSteps r (fed p line) q
from_line r p q line [] idle one runs = absurd (let no : [] ≡ line ∷ [] = one in cc)
from_line r p q line (e ∷ es) idle one runs = by e.event one runs.1 (λ idle one rest. from_line r runs.0 q line es idle one rest)
  where
    by : (x : Event) → line_by x ++ lines_in es ≡ line ∷ [] → Goes r p x runs.0
        → (runs.0.pending ≡ [] → lines_in es ≡ line ∷ [] → Runs r runs.0 es q → AreSteps r (fed runs.0 line) q) → AreSteps r (fed p line) q
    by (Line a bytes) one goes next =
        let same : bytes ≡ line = cc in
        let none : lines_in es ≡ [] = cc in
        subst (λ v. AreSteps r v q) (goes ∙ ap (fed p) same) (steps_of r runs.0 q es none runs.2)
    by (Done a true) one goes next = absurd goes
    by (Done a false) one goes next = absurd (no_split goes.before goes.message goes.behind (sym idle ∙ goes.pending))
    by (Landed o) one goes next = absurd (no_split goes.before goes.message goes.behind (sym idle ∙ goes.pending))
    by _ one goes next = subst (λ v. AreSteps r (fed v line) q) goes (next (ap (λ v. v.pending) goes ∙ idle) one runs.2)

-- ---- lines are fed at locality 0 alone

only_home : (r : Rules) (s : Local) (e : Entry) → Allowed r s e → e.at ≢ 0 → line_by e.event ≡ []
only_home r s e allowed away = at e.event allowed.row
  where
    at : (x : Event) → Row r s x → line_by x ≡ []
    at (Line a bytes) row = absurd (away (allowed.here ∙ row.0))
    at _ row = refl

pub lines_home : (r : Rules) (w : Space) (es : List Entry) → IsLegalFrom r w es → lines_in es ≡ lines_in (part 0 es)
lines_home r w [] legal = refl
lines_home r w (e ∷ es) legal = elim (cases_eq e.at 0) [
  | inl home ↦ rw (eq-eqb e.at 0 home) (ap (λ l. line_by e.event ++ l) (lines_home r (step r w e) es legal.1))
  | inr away ↦ rw (ne_eqb e.at 0 away) (ap (λ l. l ++ lines_in es) (only_home r (w.places e.at) e legal.0.allowed away) ∙ lines_home r (step r w e) es legal.1)
]

-- ---- the whole journal

pub whole_block : (r : Rules) (line : List ℕ) (es : List Entry) → 1 ≤ r.localities → HasGrammar r → KeepsActLaws r → IsBlind r → IsLegal r es → NoneFails es
    → lines_in es ≡ line ∷ [] → IsQuiet r (replayed r es) → (p' : Pool) × IsPlainBlock r (boot_pool r) line (prints_of es) p'
whole_block r line es some grammar laws blind legal calm one quiet =
    let x = legal_reduced r [] es (at_rest (boot_pool r)) [] grammar laws blind legal calm (boot_shows r) in
    let settled = quiet_settled r (replayed r es) quiet in
    let acts = from_line r (at_rest (boot_pool r)) x.pool line es refl one x.runs in (
      at_rest x.pool,
      record {
        ready = refl;
        steps = acts.number;
        end = x.pool;
        acts = acts.steps;
        idle = none_pending x.pool.pending (sym (x.shows.pending (λ y. 1)) ∙ settled_mass r (replayed r es) settled (λ y. 1));
        printed = sym (append-nil (prints_of es)) ∙ (ap (λ due. prints_of es ++ prints_due due) (sym (settled.due 0 some)) ∙ x.shows.printed);
        keeps = refl;
      },
    )
