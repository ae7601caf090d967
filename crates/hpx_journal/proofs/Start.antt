-- At boot, and from there on.
use Rattle.std.proofs.Common.{ℕ, Bool, true, false, cond, List, [], ◌∷◌, ◌++◌, ◌≡◌, ◌+◌, ◌≤◌, ◌<◌, refl, sym, ap, ◌∙◌, subst, arith, append-nil}
use Rattle.std.specs.Prelude.{◌==◌, ◌↔◌, pos}
use Rattle.std.specs.List.{sum_by, count_by, AllByRecursion}
use Rattle.std.proofs.lemmas.Bool.Decides.{nat_tests}
use Rattle.std.proofs.lemmas.Bool.{ne_eqb}
use Rattle.std.proofs.lemmas.List.Sums.{sum_by-cons}
use Rattle.hpx_value.specs.Ids.{Id, same_object}
use Rattle.hpx_journal.specs.Data.{Value, Int}
use Rattle.hpx_journal.specs.Bags.{total}
use Rattle.hpx_journal.specs.Entries.{Name, Event, Done, Freed, In, Entry, Standing, Rules}
use Rattle.hpx_journal.specs.Tokens.{worth}
use Rattle.hpx_journal.specs.Local.{boot, is_standing, after}
use Rattle.hpx_journal.specs.Rows.{Row, IsDead}
use Rattle.hpx_journal.specs.Names.{IsBacked}
use Rattle.hpx_journal.specs.Foreign.{present, kept, IsForeign}
use Rattle.hpx_journal.specs.Roots.{root, roots, roots_of_first}
use Rattle.hpx_journal.specs.Whole.{IsQuiet, Space, IsLegal, IsJoin, IsClean, step, part, start, replayed, credit_sum, recorded_in, IsDeadIn, names_in}
use Rattle.hpx_journal.specs.Laws.{fired_here, HasGrammar, IsBornIn, Commits, Fails, entry_at, held_in, owed_in, asked_in, given_in, asking_in, TargetsStand, IsOnRoad, begun, fires, dones, fires_at, dones_at, freeds}
use Rattle.hpx_journal.proofs.Bags.{total-zero}
use Rattle.hpx_journal.proofs.Alls.{all-append}
use Rattle.hpx_journal.proofs.Bools.{and_false}
use Rattle.hpx_journal.proofs.Done.{born_at}
use Rattle.hpx_journal.proofs.Fronts.{legal_front, legal_rest, run_append}
use Rattle.hpx_journal.proofs.Present.{drawn, drawn_at}
use Rattle.hpx_journal.proofs.Objects.{born, frame_objects}
use Rattle.hpx_journal.proofs.Ledger.{IsSane, dead_is_recorded, born_zero}
use Rattle.hpx_journal.proofs.Wholes.{IsWhole, whole_run, objects_run, at_same}
use Rattle.hpx_journal.proofs.Commits.{commits, fails}
use Rattle.hpx_journal.proofs.Joined.{AreBacked, join_legal, join_backed, not_foreign, born_once}
use Rattle.hpx_journal.proofs.Grow.{legal_clean}
use Rattle.hpx_journal.proofs.Once.{dones_or_runs, fires_once, dones_once, dones_where}
use Rattle.hpx_journal.proofs.Begun.{begun_once, fires_begun, fires_all, dones_begun}
use Rattle.hpx_journal.proofs.Life.{names_named, asks_pending, dead_unnamed, dead_run}
use Rattle.hpx_journal.proofs.Frees.{FreesDead, freed_dead, frees_run}

-- ---- the roots

first_all : (P : Standing → Type 0) → ((k kind : ℕ) (values : List Value) → kind < 16 → P (root k kind values)) → (n : ℕ) (b : Bool)
    → AllByRecursion P (cond b (roots_of_first n) [])
first_all P f n true = (f 0 1 [] (omega arith), (f 0 2 [] (omega arith), (f 0 4 (Int (pos n) ∷ []) (omega arith), tt)))
first_all P f n false = tt

-- what holds of a root of any kind below 16 holds of the roots
pub roots_all : (P : Standing → Type 0) → ((k kind : ℕ) (values : List Value) → kind < 16 → P (root k kind values)) → (n k : ℕ)
    → AllByRecursion P (roots n k)
roots_all P f n k =
    all-append P (cond (k == 0) (roots_of_first n) []) (root k 3 [] ∷ root k 5 [] ∷ root k 7 [] ∷ [])
    (first_all P f n (k == 0)) (f k 3 [] (omega arith), (f k 5 [] (omega arith), (f k 7 [] (omega arith), tt)))

pub zero_all : {X : Type 0} (f : X → ℕ) (xs : List X) → AllByRecursion (λ x. f x ≡ 0) xs → sum_by f xs ≡ 0
zero_all f [] h = refl
zero_all f (x ∷ xs) h = omega (arith, sum_by-cons f x xs, h.0, zero_all f xs h.1)

abbrev stand_counts : Id → Standing → ℕ
stand_counts o x = cond (is_standing o x) 1 0

no_object : (o : Id) (k kind : ℕ) (values : List Value) → kind < 16 → 16 ≤ o.kind → stand_counts o (root k kind values) ≡ 0
no_object o k kind values small managed = rw (ne_eqb o.kind kind (λ e. omega arith), and_false (o.home == k)) refl

-- a root is no managed object
pub roots_unmanaged : (n k : ℕ) (o : Id) → 16 ≤ o.kind → count_by (is_standing o) (roots n k) ≡ 0
roots_unmanaged n k o managed =
    zero_all (stand_counts o) (roots n k)
    (roots_all (λ x. stand_counts o x ≡ 0) (λ j kind values small. no_object o j kind values small managed) n k)

-- the roots name nothing
pub roots_nameless : (n k : ℕ) (o : Id) → sum_by (λ x. count_by (same_object o) x.state.ids) (roots n k) ≡ 0
roots_nameless n k o =
    zero_all (λ x. count_by (same_object o) x.state.ids) (roots n k)
    (roots_all (λ x. count_by (same_object o) x.state.ids ≡ 0) (λ j kind values small. refl) n k)

pub boot_backed : (n k : ℕ) → IsBacked (boot (roots n k) k)
boot_backed n k o managed = record { named = omega (arith, roots_nameless n k o); pending = omega arith }

none_drawn : (a : Name) (h : ℕ) → drawn_at a h 0 ≡ 0
none_drawn a h = grind (arith, nat_tests)

none_born : (o : Id) (h : ℕ) → born_at o h 0 ≡ 0
none_born o h = grind (arith, nat_tests)

pub boot_sane : (xs : List Standing) (k : ℕ) → IsSane (boot xs k)
boot_sane xs k = record { numbered = λ o h. refl; dead = λ o h. refl; stand = tt }

module _ (r : Rules) where
  abbrev pub first : Space
  first = start (roots r.localities)

  start_kept : (o : Id) → 16 ≤ o.kind → total r.localities (λ k. kept o (first.places k)) ≡ 0
  start_kept o managed =
      total-zero r.localities (λ k. kept o (first.places k)) (λ k h. omega (arith, roots_unmanaged r.localities k o managed))

  start_born : (o : Id) → total r.localities (λ k. born o (first.places k)) ≡ 0
  start_born o = total-zero r.localities (λ k. born o (first.places k)) (λ k h. none_born o k)

  start_drawn : (a : Name) → total r.localities (λ k. drawn a (first.places k)) ≡ 0
  start_drawn a = total-zero r.localities (λ k. drawn_at a k 0) (λ k h. none_drawn a k)

  pub start_whole : IsWhole r first
  start_whole = record {
    here = λ k. refl;
    sane = λ k. boot_sane (roots r.localities k) k;
    ledger = λ o. omega (arith, total-zero r.localities (λ k. sum_by (worth o) (first.places k).tokens) (λ k h. refl));
    single = λ a. omega (arith, total-zero r.localities (λ k. present a (first.places k)) (λ k h. refl), start_drawn a);
    objects = λ o managed. omega (arith, start_kept o managed);
    straight = refl;
    asks = λ o. omega (
      arith,
      total-zero r.localities (λ k. count_by (same_object o) (first.places k).asks_gone) (λ k h. refl),
      total-zero r.localities (λ k. count_by (same_object o) (first.places k).asks_come) (λ k h. refl),
    );
  }

  start_backed : AreBacked r first
  start_backed k h = boot_backed r.localities k

  pub start_frees : FreesDead r first
  start_frees = record { road = λ f o h t. absurd (cc); last = λ k bytes o h t. absurd (cc) }

  -- ---- legal journals

  module _ (es : List Entry) (legal : IsLegal r es) where
    pub legal_whole : IsWhole r (replayed r es)
    legal_whole = whole_run r first es start_whole legal

    pub legal_frees : FreesDead r (replayed r es)
    legal_frees = frees_run r first es start_whole start_frees legal

    pub legal_part_clean : HasGrammar r → (k : ℕ) → k < r.localities → IsClean r (boot (roots r.localities k) k) (part k es)
    legal_part_clean grammar k h = legal_clean r grammar first es start_whole legal k h

    pub legal_stands : (k : ℕ) → TargetsStand ((replayed r es).places k)
    legal_stands k = (legal_whole.sane k).stand

    pub legal_begun : (a : Name) → begun a es ≤ 1
    legal_begun a = begun_once r first es start_whole legal a (start_drawn a)

    pub legal_fires : (a : Name) → fires a es ≤ 1
    legal_fires a = fires_once r first es start_whole legal a

    pub legal_dones : (a : Name) → dones a es ≤ 1
    legal_dones a = dones_once r first es start_whole legal a

    pub quiet_fires : IsQuiet r (replayed r es) → (a : Name) → fires a es ≡ begun a es
    quiet_fires quiet a = fires_all r first es start_whole legal a (start_drawn a) quiet

    pub quiet_dones : IsQuiet r (replayed r es) → (a : Name) → dones a es ≡ begun a es
    quiet_dones quiet a = dones_begun r first es start_whole legal a (start_drawn a) quiet

    pub legal_dones_where : (k : ℕ) (a : Name) → dones_at k a es ≤ fires_at k a es
    legal_dones_where k a = dones_where r first es legal k a refl

    pub legal_running : (k : ℕ) (a : Name) → fired_here a ((replayed r es).places k) + dones_at k a es ≡ fires_at k a es
    legal_running k a = dones_or_runs r first es legal k a refl

    pub legal_fires_begun : (a : Name) → fires a es ≤ begun a es
    legal_fires_begun a = fires_begun r first es start_whole legal a (start_drawn a)

    -- what was freed is nowhere, and was freed once
    pub legal_freed : (o : Id) → 16 ≤ o.kind
        → total r.localities (λ k. kept o ((replayed r es).places k)) + sum_by (frame_objects r o) (replayed r es).road + freeds o es ≤ 1
    legal_freed o managed =
        omega (
          arith,
          objects_run r first es start_whole legal o managed,
          start_kept o managed,
          born_once r (replayed r es) legal_whole o,
        )

    -- a frame on the road is no foreign arrival where it goes
    pub road_native : HasGrammar r → (k : ℕ) (bytes : List ℕ) → k < r.localities → IsOnRoad (k, bytes) (replayed r es)
        → IsForeign r ((replayed r es).places k) (In bytes) → ⊥
    road_native grammar k bytes h on = not_foreign r (replayed r es) legal_whole grammar k h (In bytes) (on, tt)

  module _ (es later : List Entry) (legal : IsLegal r (es ++ later)) where
    pub front_whole : IsWhole r (replayed r es)
    front_whole = legal_whole es (legal_front r first es later legal)

    pub legal_sums : (o : Id) → credit_sum r o (replayed r es) ≡ recorded_in o (replayed r es)
    legal_sums o = front_whole.ledger o

    pub legal_dies : (o : Id) → IsDeadIn o (replayed r es) ↔ (IsBornIn o (replayed r es) × (credit_sum r o (replayed r es) ≡ 0))
    legal_dies o =
        let s = (replayed r es).places o.home in (
          λ dead. (dead_is_recorded o s.counts dead, legal_sums o ∙ (front_whole.sane o.home).dead o dead),
          λ h. born_zero o s.counts h.0 (sym (legal_sums o) ∙ h.1),
        )

    pub stays_dead : (o : Id) → IsDeadIn o (replayed r es) → IsDeadIn o (replayed r (es ++ later))
    stays_dead o dead =
        subst (λ w. IsDead o (w.places o.home)) (sym (run_append r first es later)) (dead_run r (replayed r es) later o o.home dead)

  -- what is freed is dead
  pub legal_freed_dead : (es later : List Entry) (k : ℕ) (o : Id) → IsLegal r (es ++ entry_at k (Freed o) ∷ later)
      → IsDeadIn o (replayed r es)
  legal_freed_dead es later k o legal =
      let e : Entry = entry_at k (Freed o) in
      let front = legal_front r first es (e ∷ later) legal in
      freed_dead r (replayed r es) e (legal_whole es front) (legal_frees es front) (legal_rest r first es (e ∷ later) legal).0 o refl

  -- ---- what a Done leaves

  module _ (es later : List Entry) (k : ℕ) (e : Event) (legal : IsLegal r (es ++ entry_at k e ∷ later)) where
    row_of : Row r ((replayed r es).places k) e
    row_of = (legal_rest r first es (entry_at k e ∷ later) legal).0.allowed.row

    pub place_after : (replayed r (es ++ entry_at k e ∷ [])).places k ≡ after r ((replayed r es).places k) e
    unfolding step
    place_after =
        ap (λ w. w.places k) (run_append r first es (entry_at k e ∷ []))
        ∙ at_same (replayed r es).places k (after r ((replayed r es).places k) e)

  pub legal_commits : (es later : List Entry) (k : ℕ) (a : Name) → IsLegal r (es ++ entry_at k (Done a false) ∷ later)
      → Commits r a ((replayed r es).places k) ((replayed r (es ++ entry_at k (Done a false) ∷ [])).places k)
  legal_commits es later k a legal =
      subst (Commits r a ((replayed r es).places k)) (sym (place_after es later k (Done a false) legal))
      (commits r ((replayed r es).places k) a (row_of es later k (Done a false) legal))

  pub legal_fails : (es later : List Entry) (k : ℕ) (a : Name) → IsLegal r (es ++ entry_at k (Done a true) ∷ later)
      → Fails a ((replayed r es).places k) ((replayed r (es ++ entry_at k (Done a true) ∷ [])).places k)
  legal_fails es later k a legal =
      subst (Fails a ((replayed r es).places k)) (sym (place_after es later k (Done a true) legal))
      (fails r ((replayed r es).places k) a (row_of es later k (Done a true) legal))

  -- ---- joined journals

  module _ (grammar : HasGrammar r) (es : List Entry) (join : IsJoin r es) where
    pub joined_legal : IsLegal r es
    joined_legal = join_legal r grammar first es start_whole join

  module _ (grammar : HasGrammar r) (es later : List Entry) (join : IsJoin r (es ++ later)) where
    pub joined_whole : IsWhole r (replayed r es)
    joined_whole = front_whole es later (joined_legal grammar (es ++ later) join)

    pub joined_backed : AreBacked r (replayed r es)
    joined_backed = join_backed r grammar first es later start_whole start_backed join

    pub joined_named : (o : Id) → 16 ≤ o.kind → names_in r o (replayed r es) + given_in r o (replayed r es)
        ≤ held_in r o (replayed r es) + asked_in r o (replayed r es)
    joined_named o managed = names_named r grammar (replayed r es) joined_whole joined_backed o managed

    pub joined_asked : (o : Id) → 16 ≤ o.kind → asked_in r o (replayed r es)
        ≤ owed_in r o (replayed r es) + asking_in r o (replayed r es) + given_in r o (replayed r es)
    joined_asked o managed = asks_pending r grammar (replayed r es) joined_whole joined_backed o managed

  pub joined_dead : (grammar : HasGrammar r) (es later : List Entry) → IsJoin r (es ++ later) → (o : Id) → 16 ≤ o.kind
      → IsDeadIn o (replayed r es) → names_in r o (replayed r (es ++ later)) ≡ 0
  joined_dead grammar es later join o managed dead =
      let all = es ++ later in
      let join_all : IsJoin r (all ++ []) = subst (IsJoin r) (sym (append-nil all)) join in
      dead_unnamed r grammar (replayed r all) (joined_whole grammar all [] join_all) (joined_backed grammar all [] join_all) o managed
      (stays_dead es later (joined_legal grammar all join) o dead)
