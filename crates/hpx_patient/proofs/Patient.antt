-- Sessions of a patient console, block after block: each is a run of the plain pool until nothing is pending for the session.
use Rattle.std.proofs.Common.{ℕ, zero, suc, Bool, true, false, cond, List, [], ◌∷◌, ◌++◌, ◌≡◌, refl, sym, ap, ◌∙◌, subst, arith, inl, inr, append_assoc, append-nil}
use Rattle.std.specs.List.{sum_by, AllByRecursion}
use Rattle.std.proofs.lemmas.List.Sums.{sum_by-cons}
use Rattle.hpx_journal.specs.Data.{Message}
use Rattle.hpx_journal.specs.Entries.{Rules}
use Rattle.hpx_journal.specs.Roots.{roots}
use Rattle.hpx_journal.specs.Whole.{Space, start, part, replayed, IsLegal}
use Rattle.hpx_journal.specs.Laws.{HasGrammar, KeepsActLaws}
use Rattle.hpx_journal.specs.Pool.{Pool, fed, Goes, Runs, act_mass, due_mass, mass_at, prints_due, prints_of, Shows, IsBlind, NoneFails, boot_pool}
use Rattle.hpx_journal.specs.Sessions.{FeedsNothing, BeginsWith, IsStep, Steps, at_rest, entries_of, shown}
use Rattle.hpx_journal.proofs.Alls.{all-zip}
use Rattle.hpx_journal.proofs.Fronts.{run_append}
use Rattle.hpx_journal.proofs.Grow.{part_append}
use Rattle.hpx_journal.proofs.Reduced.{boot_shows, none_front, legal_reduced}
use Rattle.hpx_patient.specs.Data.{Name, Event, Line, Done, Landed, Entry, Local}
use Rattle.hpx_patient.specs.Claims.{session_claims}
use Rattle.hpx_patient.specs.Lines.{is_line, line_count, SendsNoLine, LinesStay}
use Rattle.hpx_patient.specs.Patient.{IsReady, IsPatientBlock, IsPatientSession, IsAside, AreAside, IsPatientPlainBlock, IsPatientPlainSession, IsPatientPlainFront, IsPatientPlainBrokenOff}
use Rattle.hpx_patient.proofs.Awaited.{legal_pending}
use Rattle.hpx_patient.proofs.Lines.{legal_lines}

-- ---- where the console is ready

all-front : {X : Type 0} (P : X → Type 0) (xs ys : List X) → AllByRecursion P (xs ++ ys) → AllByRecursion P xs
all-front P [] ys h = tt
all-front P (x ∷ xs) ys h = (h.0, all-front P xs ys h.1)

pub stay_front : (r : Rules) (es later : List Entry) → LinesStay r (es ++ later) → LinesStay r es
stay_front r es later h =
    all-front (λ (e : Entry). SendsNoLine r e.event) (part 0 es) (part 0 later)
    (subst (AllByRecursion (λ e. SendsNoLine r e.event)) (part_append 0 es later) h)

no_one : (b : Bool) → cond {A = ℕ} b 1 0 ≡ 0 → b ≡ false
no_one true e = absurd (omega (arith, e))
no_one false e = refl

none_lines : (ms : List Message) → sum_by line_count ms ≡ 0 → AllByRecursion (λ m. is_line m ≡ false) ms
none_lines [] h = tt
none_lines (m ∷ ms) h =
    let s = sum_by-cons line_count m ms in (no_one (is_line m) (omega (arith, h, s)), none_lines ms (omega (arith, h, s)))

ready_mass : (f : Message → ℕ) (s : Local) → IsReady s → mass_at f s ≡ 0
ready_mass f s ready =
    omega (
      arith,
      ap (sum_by (act_mass f)) ready.waiting,
      ap (sum_by (act_mass f)) ready.fired,
      ap (sum_by (due_mass f)) ready.due,
    )

ready_printed : (r : Rules) (w : Space) (p : Pool) (out : List (List ℕ)) → IsReady (w.places 0) → Shows r w p out → out ≡ p.printed
ready_printed r w p out ready shows =
    sym (append-nil out) ∙ (ap (λ due. out ++ prints_due due) (sym ready.due) ∙ shows.printed)

-- what was printed may be taken away
ready_rest : (r : Rules) (w : Space) (p : Pool) (out : List (List ℕ)) → IsReady (w.places 0) → Shows r w p out → Shows r w (at_rest p) []
ready_rest r w p out ready shows = record {
  pending = shows.pending;
  places = λ k h.
      let x = shows.places k h in
      record { stands = x.stands; travels = x.travels; fired = x.fired; fresh = x.fresh; unknown = x.unknown };
  road = shows.road;
  alike = record { alike = shows.alike.alike };
  printed = ap prints_due ready.due;
}

pub ready_aside : (r : Rules) → HasGrammar r → KeepsActLaws r → (es : List Entry) (p : Pool) (out : List (List ℕ)) → IsLegal r es → LinesStay r es
    → Shows r (replayed r es) p out → IsReady ((replayed r es).places 0) → AreAside p.pending
ready_aside r grammar laws es p out legal stay shows ready =
    let none : sum_by line_count p.pending ≡ 0 =
    omega (
      arith,
      shows.pending line_count,
      legal_lines r grammar laws es legal stay,
      ready_mass line_count ((replayed r es).places 0) ready,
    ) in
    all-zip (λ (m : Message). is_line m ≡ false) (λ (m : Message). session_claims m ≡ 0) IsAside (λ m line claims. record { line = line; claims = claims }) p.pending
    (none_lines p.pending none) (legal_pending r grammar laws es p out legal shows ready.answered)

-- ---- a run without lines is a number of steps

record AreSteps (r : Rules) (p q : Pool) : Type 0 where
  number : ℕ
  steps : Steps r number p q

still : (r : Rules) (p mid q : Pool) → mid ≡ p → AreSteps r mid q → AreSteps r p q
still r p mid q same rest = subst (λ v. AreSteps r v q) same rest

more : (r : Rules) (p mid q : Pool) (e : Event) → FeedsNothing e → Goes r p e mid → AreSteps r mid q → AreSteps r p q
more r p mid q (Line a bytes) none goes rest = absurd none
more r p mid q (Done a true) none goes rest = absurd goes
more r p mid q (Done a false) none goes rest = record { number = suc rest.number; steps = (mid, inl goes, rest.steps) }
more r p mid q (Landed o) none goes rest = record { number = suc rest.number; steps = (mid, inr (o, goes), rest.steps) }
more r p mid q _ none goes rest = still r p mid q goes rest

steps_of : (r : Rules) (p q : Pool) (es : List Entry) → AllByRecursion (λ e. FeedsNothing e.event) es → Runs r p es q → AreSteps r p q
steps_of r p q [] none runs = record { number = 0; steps = runs }
steps_of r p q (e ∷ es) none runs = more r p runs.0 q e.event none.0 runs.1 (steps_of r runs.0 q es none.1 runs.2)

-- where nothing is pending no step is made
no_first : (xs : List Message) (m : Message) (ys : List Message) → [] ≡ xs ++ m ∷ ys → ⊥
no_first [] m ys h = cc
no_first (x ∷ xs) m ys h = cc

no_step : (r : Rules) (p q : Pool) → p.pending ≡ [] → IsStep r p q → ⊥
no_step r p q none (inl a) = no_first a.before a.message a.behind (sym none ∙ a.pending)
no_step r p q none (inr a) = no_first a.1.before a.1.message a.1.behind (sym none ∙ a.1.pending)

no_steps : (r : Rules) (n : ℕ) (p q : Pool) → p.pending ≡ [] → Steps r n p q → q ≡ p
no_steps r zero p q none steps = steps
no_steps r (suc n) p q none steps = absurd (no_step r p steps.0 none steps.1)

append_none : {X : Type 0} (xs ys : List X) → xs ++ ys ≡ [] → xs ≡ []
append_none [] ys h = refl
append_none (x ∷ xs) ys h = cc

-- ---- blocks

-- a line was fed behind these entries, and the pool that its steps lead to shows the whole
record IsFed (r : Rules) (before : List Entry) (p : Pool) (line : List ℕ) (es : List Entry) : Type 0 where
  end : Pool
  acts : AreSteps r (fed p line) end
  shows : Shows r (replayed r (before ++ es)) end (prints_of es)

-- a block that ends, and the pool at rest that shows the whole then
record EndsBlock (r : Rules) (before : List Entry) (p : Pool) (line : List ℕ) (es : List Entry) : Type 0 where
  next : Pool
  plain : IsPatientPlainBlock r p line (prints_of es) next
  idle : AreAside next.pending
  shows : Shows r (replayed r (before ++ es)) (at_rest next) []

module _ (r : Rules) (grammar : HasGrammar r) (laws : KeepsActLaws r) (blind : IsBlind r) where
  fed_at : (before : List Entry) (p : Pool) (line : List ℕ) (e : Entry) (es : List Entry) (a : Name) → Shows r (replayed r before) p []
      → e.event ≡ Line a line → AllByRecursion (λ x. FeedsNothing x.event) es → IsLegal r (before ++ e ∷ es) → NoneFails (before ++ e ∷ es)
      → IsFed r before p line (e ∷ es)
  fed_at before p line e es a shows begins none legal fine =
      let x = legal_reduced r before (e ∷ es) p [] grammar laws blind legal fine shows in
      let mid : Pool = (x.runs).0 in
      let first : mid ≡ fed p line = subst (λ v. Goes r p v mid) begins (x.runs).1 in
      record {
        end = x.pool;
        acts = subst (λ v. AreSteps r v x.pool) first (steps_of r mid x.pool es none (x.runs).2);
        shows = subst (λ w. Shows r w x.pool (prints_of (e ∷ es))) (sym (run_append r (start (roots r.localities)) before (e ∷ es))) x.shows;
      }

  fed_on : (before : List Entry) (p : Pool) (line : List ℕ) (es : List Entry) → Shows r (replayed r before) p [] → BeginsWith line es
      → IsLegal r (before ++ es) → NoneFails (before ++ es) → IsFed r before p line es
  fed_on before p line [] shows begins legal fine = absurd begins
  fed_on before p line (e ∷ es) shows begins legal fine =
      fed_at before p line e es (begins.0).0 shows (begins.0).1 begins.1 legal fine

  block : (before : List Entry) (p : Pool) (line : List ℕ) (es : List Entry) → AreAside p.pending → Shows r (replayed r before) (at_rest p) []
      → NoneFails (before ++ es) → LinesStay r (before ++ es) → IsPatientBlock r before line es → EndsBlock r before p line es
  block before p line es ready shows fine stay b =
      let x = fed_on before (at_rest p) line es shows b.begins b.legal fine in
      let idle : AreAside x.end.pending = ready_aside r grammar laws (before ++ es) x.end (prints_of es) b.legal stay x.shows b.ready in
      record {
        next = at_rest x.end;
        plain = record {
          ready = ready;
          steps = x.acts.number;
          end = x.end;
          acts = x.acts.steps;
          idle = idle;
          printed = ready_printed r (replayed r (before ++ es)) x.end (prints_of es) b.ready x.shows;
          keeps = refl;
        };
        idle = idle;
        shows = ready_rest r (replayed r (before ++ es)) x.end (prints_of es) b.ready x.shows;
      }

  session_plain : (before : List Entry) (p : Pool) (lines : List (List ℕ)) (blocks : List (List Entry)) → AreAside p.pending
      → Shows r (replayed r before) (at_rest p) [] → NoneFails (before ++ entries_of blocks) → LinesStay r (before ++ entries_of blocks)
      → IsPatientSession r before lines blocks → IsPatientPlainSession r p lines (shown blocks)
  session_plain before p [] [] ready shows fine stay h = tt
  session_plain before p (line ∷ lines) (es ∷ blocks) ready shows fine stay h =
      let same = sym (append_assoc before es (entries_of blocks)) in
      let later : NoneFails ((before ++ es) ++ entries_of blocks) = subst NoneFails same fine in
      let rest : LinesStay r ((before ++ es) ++ entries_of blocks) = subst (LinesStay r) same stay in
      let one = block before p line es ready shows (none_front (before ++ es) (entries_of blocks) later).0 (stay_front r (before ++ es) (entries_of blocks) rest) h.0 in
      (one.next, one.plain, session_plain (before ++ es) one.next lines blocks one.idle one.shows later rest h.1)
  session_plain before p [] (x ∷ xs) ready shows fine stay h = absurd h
  session_plain before p (x ∷ xs) [] ready shows fine stay h = absurd h

  -- ---- a line that is broken off

  front : (before : List Entry) (p : Pool) (line : List ℕ) (es : List Entry) → AreAside p.pending → Shows r (replayed r before) (at_rest p) []
      → BeginsWith line es → IsLegal r (before ++ es) → NoneFails (before ++ es) → IsPatientPlainFront r p line (prints_of es)
  front before p line es ready shows begins legal fine =
      let x = fed_on before (at_rest p) line es shows begins legal fine in
      record {
        ready = ready;
        steps = x.acts.number;
        end = x.end;
        acts = x.acts.steps;
        later = prints_due ((replayed r (before ++ es)).places 0).due;
        printed = x.shows.printed;
      }

  session_front : (before : List Entry) (p : Pool) (lines : List (List ℕ)) (blocks : List (List Entry)) (line : List ℕ) (es : List Entry)
      → AreAside p.pending → Shows r (replayed r before) (at_rest p) [] → IsPatientSession r before lines blocks → BeginsWith line es
      → IsLegal r ((before ++ entries_of blocks) ++ es) → NoneFails ((before ++ entries_of blocks) ++ es)
      → LinesStay r (before ++ entries_of blocks) → IsPatientPlainBrokenOff r p lines (shown blocks) line (prints_of es)
  session_front before p [] [] line es ready shows h begins legal fine stay =
      front before p line es ready shows begins (subst (λ xs. IsLegal r (xs ++ es)) (append-nil before) legal)
      (subst (λ xs. NoneFails (xs ++ es)) (append-nil before) fine)
  session_front before p (l ∷ lines) (x ∷ blocks) line es ready shows h begins legal fine stay =
      let same = sym (append_assoc before x (entries_of blocks)) in
      let later : NoneFails (((before ++ x) ++ entries_of blocks) ++ es) = subst (λ xs. NoneFails (xs ++ es)) same fine in
      let rest : LinesStay r ((before ++ x) ++ entries_of blocks) = subst (LinesStay r) same stay in
      let none = none_front ((before ++ x) ++ entries_of blocks) es later in
      let one = block before p l x ready shows (none_front (before ++ x) (entries_of blocks) none.0).0 (stay_front r (before ++ x) (entries_of blocks) rest) h.0 in (
        one.next,
        one.plain,
        session_front (before ++ x) one.next lines blocks line es one.idle one.shows h.1 begins
            (subst (λ xs. IsLegal r (xs ++ es)) same legal) later rest,
      )
  session_front before p [] (x ∷ xs) line es ready shows h begins legal fine stay = absurd h
  session_front before p (x ∷ xs) [] line es ready shows h begins legal fine stay = absurd h

  -- ---- before the first line

  -- entries that feed nothing leave the pool as it is at boot
  shows_before : (before : List Entry) → IsLegal r before → NoneFails before → AllByRecursion (λ e. FeedsNothing e.event) before
      → Shows r (replayed r before) (boot_pool r) []
  shows_before before legal fine unfed =
      let x = legal_reduced r [] before (boot_pool r) [] grammar laws blind legal fine (boot_shows r) in
      let steps = steps_of r (boot_pool r) x.pool before unfed x.runs in
      let same : x.pool ≡ boot_pool r = no_steps r steps.number (boot_pool r) x.pool refl steps.steps in
      let shows : Shows r (replayed r before) (boot_pool r) (prints_of before) =
      subst (λ q. Shows r (replayed r before) q (prints_of before)) same x.shows in
      subst (Shows r (replayed r before) (boot_pool r))
      (append_none (prints_of before) (prints_due ((replayed r before).places 0).due) shows.printed) shows

  pub patient_plain : (before : List Entry) (lines : List (List ℕ)) (blocks : List (List Entry)) → IsLegal r before
      → AllByRecursion (λ e. FeedsNothing e.event) before → NoneFails (before ++ entries_of blocks) → LinesStay r (before ++ entries_of blocks)
      → IsPatientSession r before lines blocks → IsPatientPlainSession r (boot_pool r) lines (shown blocks)
  patient_plain before lines blocks legal unfed fine stay h =
      session_plain before (boot_pool r) lines blocks tt
      (shows_before before legal (none_front before (entries_of blocks) fine).0 unfed) fine stay h

  pub patient_front : (before : List Entry) (lines : List (List ℕ)) (blocks : List (List Entry)) (line : List ℕ) (es : List Entry) → IsLegal r before
      → AllByRecursion (λ e. FeedsNothing e.event) before → IsPatientSession r before lines blocks → BeginsWith line es
      → IsLegal r ((before ++ entries_of blocks) ++ es) → NoneFails ((before ++ entries_of blocks) ++ es)
      → LinesStay r (before ++ entries_of blocks) → IsPatientPlainBrokenOff r (boot_pool r) lines (shown blocks) line (prints_of es)
  patient_front before lines blocks line es legal unfed h begins all fine stay =
      let none = none_front (before ++ entries_of blocks) es fine in
      session_front before (boot_pool r) lines blocks line es tt
      (shows_before before legal (none_front before (entries_of blocks) none.0).0 unfed) h begins all fine stay
