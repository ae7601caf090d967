-- What has credit is at home at a locality that there is, and lives; and what is named has credit.
use Rattle.std.proofs.Common.{ℕ, true, List, [], ◌∷◌, ◌++◌, ◌≡◌, ◌<◌, ◌≤◌, Option, Some, None, refl, sym, ap, ◌∙◌, subst, arith, inl, inr, append-nil}
use Rattle.std.specs.List.{list_any, find, sum_by, count_by, AllByRecursion}
use Rattle.std.proofs.lemmas.Bool.{cases_Bool, cases_lt}
use Rattle.std.proofs.lemmas.List.Sums.{sum_by-cons}
use Rattle.hpx_value.specs.Ids.{Id, same_object}
use Rattle.hpx_journal.specs.Entries.{Event, Freed, Entry, Frame, Travel, Rules}
use Rattle.hpx_journal.specs.Data.{Act}
use Rattle.hpx_journal.specs.Tokens.{worth}
use Rattle.hpx_journal.specs.Frames.{acts_in, travels_in, tokens_in}
use Rattle.hpx_journal.specs.Local.{Local, Recorded, boot, is_recorded, recorded, count_in}
use Rattle.hpx_journal.specs.Rows.{IsDead}
use Rattle.hpx_journal.specs.Names.{names, due_ids}
use Rattle.hpx_journal.specs.Roots.{roots}
use Rattle.hpx_journal.specs.Whole.{Space, IsLegal, IsLegalFrom, IsJoin, IsDeadIn, run, step, part, run_local, replayed, credit_sum, names_in, frame_names}
use Rattle.hpx_journal.specs.Laws.{IsOnRoad, HasGrammar, IsBornIn, is_freed, freeds}
use Rattle.hpx_journal.specs.Natives.{EachName, IsAlive}
use Rattle.hpx_journal.proofs.Alls.{all-map}
use Rattle.hpx_journal.proofs.Bags.{total-term, list_any-find}
use Rattle.hpx_journal.proofs.Keys.{one_if}
use Rattle.hpx_journal.proofs.Same.{same_object-true, same_object-refl}
use Rattle.hpx_journal.proofs.Objects.{freed_count}
use Rattle.hpx_journal.proofs.Wholes.{IsWhole, whole_step}
use Rattle.hpx_journal.proofs.Grow.{run_part, legal_carried}
use Rattle.hpx_journal.proofs.Failures.{below_all}
use Rattle.hpx_journal.proofs.Deaths.{part_beyond}
use Rattle.hpx_journal.proofs.Life.{names_le, dead_run}
use Rattle.hpx_journal.proofs.Frees.{FreesDead, freed_dead, frees_step}
use Rattle.hpx_journal.proofs.Ledger.{frame_worth}
use Rattle.hpx_journal.proofs.PoolMoves.{arrived}
use Rattle.hpx_journal.proofs.Start.{first, start_whole, start_frees, legal_whole, joined_legal, joined_whole, joined_backed}

-- ---- what has credit

-- beyond the last locality all is as at boot
pub places_beyond : (r : Rules) (es : List Entry) → IsLegal r es → (k : ℕ) → r.localities ≤ k → (replayed r es).places k ≡ boot (roots r.localities k) k
places_beyond r es legal k h =
    let none : part k es ≡ [] = part_beyond r.localities k es (below_all r [] es (legal_carried r (first r) es legal)) h in
    run_part r (first r) es k ∙ ap (run_local r (boot (roots r.localities k) k)) none

-- what is recorded is found
pub is_found : (o : Id) (xs : List Recorded) (x : Option Recorded) → find (is_recorded o) xs ≡ x → 1 ≤ count_in x → list_any (is_recorded o) xs ≡ true
is_found o xs None e h = absurd (omega arith)
is_found o xs (Some x) e h = list_any-find (is_recorded o) xs x e

freed_event : (o : Id) (e : Event) → is_freed o e ≡ true → (x : Id) × (e ≡ Freed x) × (same_object o x ≡ true)
freed_event o (Freed x) t = (x, refl, t)
freed_event o _ t = absurd (cc)

-- what was freed is dead
pub freeds_dead : (r : Rules) (w : Space) (es : List Entry) → IsWhole r w → FreesDead r w → IsLegalFrom r w es → (o : Id) → 1 ≤ freeds o es
    → IsDead o ((run r w es).places o.home)
freeds_dead r w [] whole frees h o some = absurd (omega arith)
freeds_dead r w (e ∷ es) whole frees h o some = elim (cases_Bool (is_freed o e.event)) [
  | inl t ↦
      let x = freed_event o e.event t in
      let dead : IsDead o (w.places o.home) =
      subst (λ z. IsDead z (w.places z.home)) (sym (same_object-true o x.0 x.2)) (freed_dead r w e whole frees h.0 x.0 x.1) in
      dead_run r w (e ∷ es) o o.home dead
  | inr t ↦
      let none : freed_count o e.event ≡ 0 = rw t refl in
      freeds_dead r (step r w e) es (whole_step r w e whole h.0) (frees_step r w e whole frees h.0) h.1 o
      (omega (arith, sum_by-cons (λ x. freed_count o x.event) e es))
]

module _ (r : Rules) (es : List Entry) (legal : IsLegal r es) (o : Id) where
  pub born_below : IsBornIn o (replayed r es) → o.home < r.localities
  born_below born = elim (cases_lt o.home r.localities) [
    | inl h ↦ h
    | inr h ↦
        let none : list_any (is_recorded o) (boot (roots r.localities o.home) o.home).counts ≡ true =
        subst (λ s. list_any (is_recorded o) s.counts ≡ true) (places_beyond r es legal o.home h) born in
        absurd (cc)
  ]

  module _ (some : 1 ≤ credit_sum r o (replayed r es)) where
    some_recorded : 1 ≤ recorded o ((replayed r es).places o.home)
    some_recorded = omega (arith, (legal_whole r es legal).ledger o)

    pub credit_alive : IsAlive r es o
    credit_alive =
        let s : Local = (replayed r es).places o.home in
        let alive : IsDeadIn o (replayed r es) → ⊥ =
        λ dead. let z : recorded o s ≡ 0 = ((legal_whole r es legal).sane o.home).dead o dead in absurd (omega (arith, some_recorded)) in
        record {
          born = is_found o s.counts (find (is_recorded o) s.counts) refl some_recorded;
          alive = alive;
          kept = omega (arith, λ (h : 1 ≤ freeds o es). alive (freeds_dead r (first r) es (start_whole r) (start_frees r) legal o h));
        }

    pub credit_home : o.home < r.localities
    credit_home = born_below credit_alive.born

-- ---- what is named

-- no element has more than all have together
pub among : {X : Type 0} (xs : List X) → AllByRecursion (λ x. (g : X → ℕ) → g x ≤ sum_by g xs) xs
among [] = tt
among {X} (x ∷ xs) = (
  λ g. omega (arith, sum_by-cons g x xs),
  all-map (λ y. (g : X → ℕ) → g y ≤ sum_by g xs) (λ y. (g : X → ℕ) → g y ≤ sum_by g (x ∷ xs)) (λ y h g. omega (arith, h g, sum_by-cons g x xs)) xs
      (among xs),
)

-- each id counts among its list
ids_count : (ids : List Id) → AllByRecursion (λ o. 1 ≤ count_by (same_object o) ids) ids
ids_count ids =
    all-map (λ o. (g : Id → ℕ) → g o ≤ sum_by g ids) (λ o. 1 ≤ count_by (same_object o) ids)
    (λ o h. let one : one_if (same_object o o) ≡ 1 = ap one_if (same_object-refl o) in omega (arith, h (λ x. one_if (same_object o x)))) ids (among ids)

module _ (r : Rules) (w : Space) (Q : Id → Type 0) (wanted : (o : Id) → 1 ≤ names_in r o w → Q o) where
  each_id : (ids : List Id) → ((o : Id) → count_by (same_object o) ids ≤ names_in r o w) → AllByRecursion Q ids
  each_id ids few = all-map (λ o. 1 ≤ count_by (same_object o) ids) Q (λ o h. wanted o (omega (arith, few o))) ids (ids_count ids)

  each_of : {X : Type 0} (ids_of : X → List Id) (xs : List X) → ((o : Id) → sum_by (λ x. count_by (same_object o) (ids_of x)) xs ≤ names_in r o w)
      → AllByRecursion (λ x. AllByRecursion Q (ids_of x)) xs
  each_of {X} ids_of xs few =
      all-map (λ x. (g : X → ℕ) → g x ≤ sum_by g xs) (λ x. AllByRecursion Q (ids_of x))
      (λ x h. each_id (ids_of x) (λ o. omega (arith, h (λ y. count_by (same_object o) (ids_of y)), few o))) xs (among xs)

  here_names : (k : ℕ) → k < r.localities → (o : Id) → names o (w.places k) ≤ names_in r o w
  here_names k h o = omega (arith, total-term r.localities (λ j. names o (w.places j)) k h)

  road_names : {P : Frame → Type 0} → ((f : Frame) → ((o : Id) → frame_names r o f ≤ names_in r o w) → P f) → AllByRecursion P w.road
  road_names {P} h =
      all-map (λ f. (g : Frame → ℕ) → g f ≤ sum_by g w.road) P (λ f few. h f (λ o. omega (arith, few (frame_names r o)))) w.road (among w.road)

  pub each_name : EachName r Q w
  each_name = record {
    acts = record {
      waiting = λ k h. each_of (λ (act : Act). act.ids) (w.places k).waiting (λ o. omega (arith, here_names k h o));
      fired = λ k h. each_of (λ (act : Act). act.ids) (w.places k).fired (λ o. omega (arith, here_names k h o));
      road = road_names (λ f few. each_of (λ (act : Act). act.ids) (acts_in (r.parcel_of f.1)) (λ o. omega (arith, few o)));
    };
    due = λ k h. each_of due_ids (w.places k).due (λ o. omega (arith, here_names k h o));
    objects = λ k h. each_of (λ x. x.state.ids) (w.places k).objects (λ o. omega (arith, here_names k h o));
    travels = λ k h. each_of (λ x. x.state.ids) (w.places k).travels (λ o. omega (arith, here_names k h o));
    road = road_names (λ f few. each_of (λ (x : Travel). x.state.ids) (travels_in (r.parcel_of f.1)) (λ o. omega (arith, few o)));
  }

-- what a frame on the road carries is part of the sum
pub road_covered : (r : Rules) (w : Space) (f : Frame) (o : Id) → IsOnRoad f w → sum_by (worth o) (tokens_in (r.parcel_of f.1)) ≤ credit_sum r o w
road_covered r w f o on =
    omega (arith, arrived (λ x. (g : Frame → ℕ) → g x ≤ sum_by g w.road) w.road f (among w.road) on (frame_worth r o))

-- and so is what a locality has
pub place_covered : (r : Rules) (w : Space) (k : ℕ) (o : Id) → k < r.localities → sum_by (worth o) (w.places k).tokens ≤ credit_sum r o w
place_covered r w k o h = omega (arith, total-term r.localities (λ j. sum_by (worth o) (w.places j).tokens) k h)

module _ (r : Rules) (grammar : HasGrammar r) (es : List Entry) (join : IsJoin r es) where
  join_all : IsJoin r (es ++ [])
  join_all = subst (IsJoin r) (sym (append-nil es)) join

  pub names_credited : (o : Id) → 16 ≤ o.kind → 1 ≤ names_in r o (replayed r es) → 1 ≤ credit_sum r o (replayed r es)
  names_credited o managed some =
      omega (
        arith,
        names_le r grammar (replayed r es) (joined_whole r grammar es [] join_all) (joined_backed r grammar es [] join_all) o managed,
      )

  pub named_credited : EachName r (λ o. 16 ≤ o.kind → 1 ≤ credit_sum r o (replayed r es)) (replayed r es)
  named_credited = each_name r (replayed r es) (λ o. 16 ≤ o.kind → 1 ≤ credit_sum r o (replayed r es)) (λ o some managed. names_credited o managed some)

  pub named_near : EachName r (λ o. 16 ≤ o.kind → o.home < r.localities) (replayed r es)
  named_near =
      each_name r (replayed r es) (λ o. 16 ≤ o.kind → o.home < r.localities)
      (λ o some managed. credit_home r es (joined_legal r grammar es join) o (names_credited o managed some))

  pub named_alive : EachName r (λ o. 16 ≤ o.kind → IsAlive r es o) (replayed r es)
  named_alive =
      each_name r (replayed r es) (λ o. 16 ≤ o.kind → IsAlive r es o)
      (λ o some managed. credit_alive r es (joined_legal r grammar es join) o (names_credited o managed some))
