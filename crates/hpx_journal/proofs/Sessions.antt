-- Whole sessions, block after block: each is a run of the plain pool until nothing is pending.
use Rattle.std.proofs.Common.{ℕ, true, false, suc, List, [], ◌∷◌, ◌++◌, ◌≡◌, ◌<◌, refl, sym, ap, ◌∙◌, subst, arith, inl, inr, append_assoc, append-nil}
use Rattle.std.specs.List.{sum_by, AllByRecursion}
use Rattle.std.proofs.lemmas.List.Sums.{sum_by-cons}
use Rattle.hpx_journal.specs.Data.{Message}
use Rattle.hpx_journal.specs.Entries.{Name, Event, Line, Done, Landed, Entry, Rules}
use Rattle.hpx_journal.specs.Roots.{roots}
use Rattle.hpx_journal.specs.Whole.{Space, start, replayed, IsLegal, IsQuiet}
use Rattle.hpx_journal.specs.Laws.{HasGrammar, KeepsActLaws}
use Rattle.hpx_journal.specs.Pool.{Pool, fed, Goes, Runs, act_mass, due_mass, frame_mass, mass_at, mass, prints_due, prints_of, Shows, IsBlind, NoneFails}
use Rattle.hpx_journal.specs.Sessions.{IsSettled, FeedsNothing, BeginsWith, IsBlock, IsSession, entries_of, shown, Steps, at_rest, IsPlainBlock, IsPlainSession, IsPlainFront, IsPlainBrokenOff}
use Rattle.hpx_journal.proofs.Bags.{total-zero}
use Rattle.hpx_journal.proofs.Fronts.{legal_rest, run_append}
use Rattle.hpx_journal.proofs.Reduced.{none_front, legal_reduced}

-- ---- what is settled weighs nothing

pub quiet_settled : (r : Rules) (w : Space) → IsQuiet r w → IsSettled r w
quiet_settled r w quiet = record {
  waiting = λ k h. (quiet.places k h).waiting;
  fired = λ k h. (quiet.places k h).fired;
  due = λ k h. (quiet.places k h).due;
  road = quiet.road;
}

settled_mass : (r : Rules) (w : Space) → IsSettled r w → (f : Message → ℕ) → mass r f w ≡ 0
settled_mass r w settled f =
    omega (
      arith,
      ap (sum_by (frame_mass r f)) settled.road,
      total-zero r.localities (λ k. mass_at f (w.places k)) (λ k h. omega (
        arith,
        ap (sum_by (act_mass f)) (settled.waiting k h),
        ap (sum_by (act_mass f)) (settled.fired k h),
        ap (sum_by (due_mass f)) (settled.due k h),
      )),
    )

-- a bag of no size is empty
none_pending : (xs : List Message) → sum_by (λ x. 1) xs ≡ 0 → xs ≡ []
none_pending [] h = refl
none_pending (x ∷ xs) h = absurd (omega (arith, sum_by-cons (λ y. 1) x xs))

settled_pending : (r : Rules) (w : Space) (p : Pool) (out : List (List ℕ)) → IsSettled r w → Shows r w p out → p.pending ≡ []
settled_pending r w p out settled shows = none_pending p.pending (sym (shows.pending (λ x. 1)) ∙ settled_mass r w settled (λ x. 1))

settled_printed : (r : Rules) (w : Space) (p : Pool) (out : List (List ℕ)) → 0 < r.localities → IsSettled r w → Shows r w p out
    → out ≡ p.printed
settled_printed r w p out some settled shows =
    sym (append-nil out) ∙ (ap (λ due. out ++ prints_due due) (sym (settled.due 0 some)) ∙ shows.printed)

-- what was printed may be taken away
settled_rest : (r : Rules) (w : Space) (p : Pool) (out : List (List ℕ)) → 0 < r.localities → IsSettled r w → Shows r w p out
    → Shows r w (at_rest p) []
settled_rest r w p out some settled shows = record {
  pending = shows.pending;
  places = λ k h.
      let x = shows.places k h in
      record { stands = x.stands; travels = x.travels; fired = x.fired; fresh = x.fresh; unknown = x.unknown };
  road = shows.road;
  alike = record { alike = shows.alike.alike };
  printed = ap prints_due (settled.due 0 some);
}

-- ---- a run without lines is a number of steps

record AreSteps (r : Rules) (p q : Pool) : Type 0 where
  number : ℕ
  steps : Steps r number p q

still : (r : Rules) (p mid q : Pool) → mid ≡ p → AreSteps r mid q → AreSteps r p q
still r p mid q same rest = subst (λ v. AreSteps r v q) same rest

more : (r : Rules) (p mid q : Pool) (e : Event) → FeedsNothing e → Goes r p e mid → AreSteps r mid q → AreSteps r p q
more r p mid q (Line a bytes) none goes rest = absurd none
more r p mid q (Done a true) none goes rest = absurd goes
more r p mid q (Done a false) none goes rest = record { number = suc rest.number; steps = (mid, inl goes, rest.steps) }
more r p mid q (Landed o) none goes rest = record { number = suc rest.number; steps = (mid, inr (o, goes), rest.steps) }
more r p mid q _ none goes rest = still r p mid q goes rest

steps_of : (r : Rules) (p q : Pool) (es : List Entry) → AllByRecursion (λ e. FeedsNothing e.event) es → Runs r p es q → AreSteps r p q
steps_of r p q [] none runs = record { number = 0; steps = runs }
steps_of r p q (e ∷ es) none runs = more r p runs.0 q e.event none.0 runs.1 (steps_of r runs.0 q es none.1 runs.2)

-- ---- blocks

-- a line was fed behind these entries, and the pool that its steps lead to shows the whole
record IsFed (r : Rules) (before : List Entry) (p : Pool) (line : List ℕ) (es : List Entry) : Type 0 where
  some : 0 < r.localities
  end : Pool
  acts : AreSteps r (fed p line) end
  shows : Shows r (replayed r (before ++ es)) end (prints_of es)

-- a block that ends, and the pool at rest that shows the whole then
record EndsBlock (r : Rules) (before : List Entry) (p : Pool) (line : List ℕ) (es : List Entry) : Type 0 where
  next : Pool
  plain : IsPlainBlock r p line (prints_of es) next
  idle : next.pending ≡ []
  shows : Shows r (replayed r (before ++ es)) (at_rest next) []

module _ (r : Rules) (grammar : HasGrammar r) (laws : KeepsActLaws r) (blind : IsBlind r) where
  fed_at : (before : List Entry) (p : Pool) (line : List ℕ) (e : Entry) (es : List Entry) (a : Name) → Shows r (replayed r before) p []
      → e.event ≡ Line a line → AllByRecursion (λ x. FeedsNothing x.event) es → IsLegal r (before ++ e ∷ es) → NoneFails (before ++ e ∷ es)
      → IsFed r before p line (e ∷ es)
  fed_at before p line e es a shows begins none legal fine =
      let x = legal_reduced r before (e ∷ es) p [] grammar laws blind legal fine shows in
      let mid : Pool = (x.runs).0 in
      let first : mid ≡ fed p line = subst (λ v. Goes r p v mid) begins (x.runs).1 in
      record {
        some = omega (arith, (legal_rest r (start (roots r.localities)) before (e ∷ es) legal).0.place);
        end = x.pool;
        acts = subst (λ v. AreSteps r v x.pool) first (steps_of r mid x.pool es none (x.runs).2);
        shows = subst (λ w. Shows r w x.pool (prints_of (e ∷ es))) (sym (run_append r (start (roots r.localities)) before (e ∷ es))) x.shows;
      }

  fed_on : (before : List Entry) (p : Pool) (line : List ℕ) (es : List Entry) → Shows r (replayed r before) p [] → BeginsWith line es
      → IsLegal r (before ++ es) → NoneFails (before ++ es) → IsFed r before p line es
  fed_on before p line [] shows begins legal fine = absurd begins
  fed_on before p line (e ∷ es) shows begins legal fine =
      fed_at before p line e es (begins.0).0 shows (begins.0).1 begins.1 legal fine

  block : (before : List Entry) (p : Pool) (line : List ℕ) (es : List Entry) → p.pending ≡ [] → Shows r (replayed r before) (at_rest p) []
      → NoneFails (before ++ es) → IsBlock r before line es → EndsBlock r before p line es
  block before p line es ready shows fine b =
      let x = fed_on before (at_rest p) line es shows b.begins b.legal fine in
      let idle : x.end.pending ≡ [] = settled_pending r (replayed r (before ++ es)) x.end (prints_of es) b.settled x.shows in
      record {
        next = at_rest x.end;
        plain = record {
          ready = ready;
          steps = x.acts.number;
          end = x.end;
          acts = x.acts.steps;
          idle = idle;
          printed = settled_printed r (replayed r (before ++ es)) x.end (prints_of es) x.some b.settled x.shows;
          keeps = refl;
        };
        idle = idle;
        shows = settled_rest r (replayed r (before ++ es)) x.end (prints_of es) x.some b.settled x.shows;
      }

  pub session_plain : (before : List Entry) (p : Pool) (lines : List (List ℕ)) (blocks : List (List Entry)) → p.pending ≡ []
      → Shows r (replayed r before) (at_rest p) [] → NoneFails (before ++ entries_of blocks) → IsSession r before lines blocks
      → IsPlainSession r p lines (shown blocks)
  session_plain before p [] [] ready shows fine h = tt
  session_plain before p (line ∷ lines) (es ∷ blocks) ready shows fine h =
      let later : NoneFails ((before ++ es) ++ entries_of blocks) = subst NoneFails (sym (append_assoc before es (entries_of blocks))) fine in
      let one = block before p line es ready shows (none_front (before ++ es) (entries_of blocks) later).0 h.0 in
      (one.next, one.plain, session_plain (before ++ es) one.next lines blocks one.idle one.shows later h.1)
  session_plain before p [] (x ∷ xs) ready shows fine h = absurd h
  session_plain before p (x ∷ xs) [] ready shows fine h = absurd h

  -- ---- a line that is broken off

  front : (before : List Entry) (p : Pool) (line : List ℕ) (es : List Entry) → p.pending ≡ [] → Shows r (replayed r before) (at_rest p) []
      → BeginsWith line es → IsLegal r (before ++ es) → NoneFails (before ++ es) → IsPlainFront r p line (prints_of es)
  front before p line es ready shows begins legal fine =
      let x = fed_on before (at_rest p) line es shows begins legal fine in
      record {
        ready = ready;
        steps = x.acts.number;
        end = x.end;
        acts = x.acts.steps;
        later = prints_due ((replayed r (before ++ es)).places 0).due;
        printed = x.shows.printed;
      }

  pub session_front : (before : List Entry) (p : Pool) (lines : List (List ℕ)) (blocks : List (List Entry)) (line : List ℕ) (es : List Entry)
      → p.pending ≡ [] → Shows r (replayed r before) (at_rest p) [] → IsSession r before lines blocks → BeginsWith line es
      → IsLegal r ((before ++ entries_of blocks) ++ es) → NoneFails ((before ++ entries_of blocks) ++ es)
      → IsPlainBrokenOff r p lines (shown blocks) line (prints_of es)
  session_front before p [] [] line es ready shows h begins legal fine =
      front before p line es ready shows begins (subst (λ xs. IsLegal r (xs ++ es)) (append-nil before) legal)
      (subst (λ xs. NoneFails (xs ++ es)) (append-nil before) fine)
  session_front before p (l ∷ lines) (x ∷ blocks) line es ready shows h begins legal fine =
      let same = sym (append_assoc before x (entries_of blocks)) in
      let later : NoneFails (((before ++ x) ++ entries_of blocks) ++ es) = subst (λ xs. NoneFails (xs ++ es)) same fine in
      let none = none_front ((before ++ x) ++ entries_of blocks) es later in
      let one = block before p l x ready shows (none_front (before ++ x) (entries_of blocks) none.0).0 h.0 in (
        one.next,
        one.plain,
        session_front (before ++ x) one.next lines blocks line es one.idle one.shows h.1 begins
            (subst (λ xs. IsLegal r (xs ++ es)) same legal) later,
      )
  session_front before p [] (x ∷ xs) line es ready shows h begins legal fine = absurd h
  session_front before p (x ∷ xs) [] line es ready shows h begins legal fine = absurd h

-- ---- how a session grows

pub session_legal : (r : Rules) (before : List Entry) (lines : List (List ℕ)) (blocks : List (List Entry)) → IsLegal r before
    → IsSession r before lines blocks → IsLegal r (before ++ entries_of blocks)
session_legal r before [] [] legal h = subst (IsLegal r) (sym (append-nil before)) legal
session_legal r before (line ∷ lines) (es ∷ blocks) legal h =
    subst (IsLegal r) (append_assoc before es (entries_of blocks)) (session_legal r (before ++ es) lines blocks h.0.legal h.1)
session_legal r before [] (x ∷ xs) legal h = absurd h
session_legal r before (x ∷ xs) [] legal h = absurd h

-- by a block behind its entries
pub session_grows : (r : Rules) (before : List Entry) (lines : List (List ℕ)) (blocks : List (List Entry)) (line : List ℕ) (es : List Entry)
    → IsSession r before lines blocks → IsBlock r (before ++ entries_of blocks) line es → IsSession r before (lines ++ line ∷ []) (blocks ++ es ∷ [])
session_grows r before [] [] line es h b = (subst (λ xs. IsBlock r xs line es) (append-nil before) b, tt)
session_grows r before (l ∷ lines) (x ∷ blocks) line es h b = (
  h.0,
  session_grows r (before ++ x) lines blocks line es h.1 (subst (λ xs. IsBlock r xs line es) (sym (append_assoc before x (entries_of blocks))) b),
)
session_grows r before [] (x ∷ xs) line es h b = absurd h
session_grows r before (x ∷ xs) [] line es h b = absurd h

pub entries_append : (blocks : List (List Entry)) (es : List Entry) → entries_of (blocks ++ es ∷ []) ≡ entries_of blocks ++ es
entries_append [] es = append-nil es
entries_append (x ∷ xs) es = ap (λ ys. x ++ ys) (entries_append xs es) ∙ sym (append_assoc x (entries_of xs) es)

pub shown_append : (blocks : List (List Entry)) (es : List Entry) → shown (blocks ++ es ∷ []) ≡ shown blocks ++ prints_of es ∷ []
shown_append [] es = refl
shown_append (x ∷ xs) es = ap (λ ys. prints_of x ∷ ys) (shown_append xs es)
