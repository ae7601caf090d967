-- Where an object stands, moves and leaves, of which credit is out.
use Rattle.std.proofs.Common.{ℕ, Bool, true, false, cond, List, [], ◌∷◌, ◌≡◌, ◌+◌, ◌<◌, ◌≤◌, ◌==◌, Option, Some, None, refl, sym, ap, ◌∙◌, subst, arith, inl, inr}
use Rattle.std.specs.Prelude.{◌&&◌, not, is_some}
use Rattle.std.specs.List.{find, list_any, slice_get, sum_by, count_by, AllByRecursion}
use Rattle.std.proofs.lemmas.Bool.{cases_Bool, cases_lt, eq-eqb, eqb-true}
use Rattle.std.proofs.lemmas.List.Sums.{sum_by-cons}
use Rattle.hpx_journal.specs.Data.{Id, Parcel, Apply, Return, Ask, Give, Cached, Move, Go, Shipped, Arrived, Free}
use Rattle.hpx_journal.specs.Entries.{Rules}
use Rattle.hpx_journal.specs.Laws.{is_freed}
use Rattle.hpx_journal.specs.Local.{is_standing}
use Rattle.hpx_journal.specs.Moving.{IsTracked, MoveCounts, going, untold}
use Rattle.hpx_journal.specs.Rows.{is_to}
use Rattle.hpx_journal.specs.Whole.{part, recorded_in, replayed}
use Rattle.hpx_journal.proofs.Alls.{all-any}
use Rattle.hpx_journal.proofs.Bags.{total-term, total-zero, find-nothing}
use Rattle.hpx_journal.proofs.Credited.{credit_alive}
use Rattle.hpx_journal.proofs.Frames.{part_sum, sum_le}
use Rattle.hpx_journal.proofs.Start.{legal_whole}
use Rattle.hpx_part.specs.Data.{Event, Entry, Standing}
use Rattle.hpx_agas.specs.declared.record.Record.{Record}
use Rattle.hpx_steps.specs.Flows.{MovesTo, PlacedAt, record_moves, record_rests}
use Rattle.hpx_steps.specs.Rows.{go_to, one_if}
use Rattle.hpx_steps.specs.Sound.{all_count}
use Rattle.hpx_tables.specs.Kept.{grants, leaves_here, record_here, stands_here, stays_here}
use Rattle.hpx_tables.specs.Rules.{rests_at}
use Rattle.hpx_tables.specs.Tables.{Tables}
use Rattle.hpx_world.proofs.Counted.{AreNodes, at_is, home, its, legal, m, moving_is, settled_is, tracked_moves}
use Rattle.hpx_world.proofs.Known.{IsJoined}
use Rattle.hpx_world.proofs.Mails.{move_is}
use Rattle.hpx_world.proofs.Nearby.{GrantsNear, tables_near}

if_less : (b : Bool) (n : ℕ) → cond b n 0 ≤ n
if_less true n = omega arith
if_less false n = omega arith

-- what is not written at all is not written at k
pub part_none : (f : Event → ℕ) (k : ℕ) (es : List Entry) → all_count f es ≡ 0 → all_count f (part k es) ≡ 0
part_none f k es none = omega (
  arith,
  none,
  part_sum k f es,
  sum_le (λ (e : Entry). cond (e.at == k) (f e.event) 0) (λ (e : Entry). f e.event) es
      (all-any (λ (e : Entry). cond (e.at == k) (f e.event) 0 ≤ f e.event) (λ e. if_less (e.at == k) (f e.event)) es),
)

pub found_by : (o : Id) (xs : List Standing) → 1 ≤ count_by (is_standing o) xs → is_some (find (is_standing o) xs) ≡ true
found_by o [] h = absurd (omega (arith, h))
found_by o (x ∷ xs) h = elim (cases_Bool (is_standing o x)) [
  | inl t ↦ rw t refl
  | inr f ↦ let z : one_if (is_standing o x) ≡ 0 = rw f refl in rw f (found_by o xs (omega (arith, h, z, sum_by-cons (λ (y : Standing). one_if (is_standing o y)) x xs)))
]

both_true : (a b : Bool) → one_if (a && b) ≡ 1 → (a ≡ true) × (b ≡ true)
both_true true true h = (refl, refl)
both_true true false h = absurd (omega (arith, h))
both_true false b h = absurd (omega (arith, h))

one_most : (b : Bool) → one_if b ≤ 1
one_most true = omega arith
one_most false = omega arith

one_true : (b : Bool) → 1 ≤ one_if b → b ≡ true
one_true true h = refl
one_true false h = absurd (omega (arith, h))

is_at : (t : ℕ) (mo : Option ℕ) → is_to t mo ≡ true → mo ≡ Some t
is_at t None h = absurd (cc)
is_at t (Some j) h = ap (λ n. Some n) (eqb-true j t h)

-- an object that is to leave is counted
granted_one : (n : ℕ) (o : Id) (ps : List Parcel) → AllByRecursion (GrantsNear n) ps → list_any (grants o) ps ≡ true → (j : ℕ) × (j < n) × (1 ≤ sum_by (go_to o j) ps)
granted_one n o [] near h = absurd (cc)
granted_one n o (p ∷ ps) near h = elim (cases_Bool (grants o p)) [
  | inl t ↦ first p near.0 t
  | inr f ↦ let k = granted_one n o ps near.1 (rw f at h) in (k.0, k.1, omega (arith, k.2, sum_by-cons (go_to o k.0) p ps))
]
  where
    first : (p : Parcel) → GrantsNear n p → grants o p ≡ true → (j : ℕ) × (j < n) × (1 ≤ sum_by (go_to o j) (p ∷ ps))
    first (Go act) h t =
        let x = move_is n act h.0 h.1.0 in
        let one : go_to o x.0 (Go act) ≡ 1 = rw (t, x.2) (ap one_if (eq-eqb x.0 x.0 refl)) in
        (x.0, x.1, omega (arith, one, sum_by-cons (go_to o x.0) (Go act) ps))
    first (Apply act) h t = absurd (cc)
    first (Move act) h t = absurd (cc)
    first (Shipped act state) h t = absurd (cc)
    first (Return id) h t = absurd (cc)
    first (Ask id asker entry) h t = absurd (cc)
    first (Give id entry) h t = absurd (cc)
    first (Cached id place) h t = absurd (cc)
    first (Arrived id place) h t = absurd (cc)
    first (Free id) h t = absurd (cc)

module _ (r : Rules) (log : ℕ) (nodes : List Tables) (es : List Entry) (joined : IsJoined r es) (each : AreNodes r log nodes es)
    (o : Id) (managed : 16 ≤ o.kind) (some : 1 ≤ recorded_in o (replayed r es)) where
  abbrev pub c : MoveCounts
  c = m r log nodes es joined each o managed some

  pub tracked : IsTracked r.localities c
  tracked = tracked_moves r log nodes es joined each o managed some

  pub never_freed : (k : ℕ) → c.freed k ≡ 0
  never_freed k =
      let lawful = legal r log nodes es joined each o managed some in
      part_none (λ e. one_if (is_freed o e)) k es (credit_alive r es lawful o (omega (arith, some, (legal_whole r es lawful).ledger o))).kept

  -- ---- what its record says

  pub its_home : (t : Tables) × (slice_get nodes o.home ≡ Some t)
  its_home = each.node o.home (home r log nodes es joined each o managed some)

  pub its_record : (y : Record) × (record_here its_home.0 o ≡ Some y)
  its_record = its r log nodes es joined each o managed some its_home.0 its_home.1

  pub moves_is : (j : ℕ) → c.moving j ≡ one_if (is_to j its_record.0.moving)
  moves_is j = moving_is r log nodes es joined each o managed some its_home.0 its_home.1 j
      ∙ ap (record_moves its_home.0.here (MovesTo o j)) its_record.1

  pub rests_is : (k : ℕ) → c.settled k ≡ one_if (not (is_some its_record.0.moving) && (its_record.0.place == k))
  rests_is k = settled_is r log nodes es joined each o managed some its_home.0 its_home.1 k ∙ ap (record_rests (PlacedAt o k)) its_record.1

  moving_most : (j : ℕ) → c.moving j ≤ 1
  moving_most j = omega (arith, moves_is j, one_most (is_to j its_record.0.moving))

  moving_says : (j : ℕ) → 1 ≤ c.moving j → its_record.0.moving ≡ Some j
  moving_says j h = is_at j its_record.0.moving (one_true (is_to j its_record.0.moving) (omega (arith, h, moves_is j)))

  moving_same : (i j : ℕ) → 1 ≤ c.moving i → 1 ≤ c.moving j → i ≡ j
  moving_same i j h k = let e : ◌≡◌ {A = Option ℕ} (Some i) (Some j) = sym (moving_says i h) ∙ moving_says j k in cc

  rests_not : (j k : ℕ) → 1 ≤ c.moving j → c.settled k ≡ 0
  rests_not j k h = rests_is k ∙ ap (λ (mo : Option ℕ). one_if (not (is_some mo) && (its_record.0.place == k))) (moving_says j h)

  -- ---- one thing is under way

  going_most : (j k : ℕ) → j < r.localities → k < r.localities → going c j k ≤ c.moving j
  going_most j k lt within = omega (arith, tracked.moving j lt, total-term r.localities (λ i. going c j i) k within)

  going_there : (j k : ℕ) → j < r.localities → k < r.localities → going c j k ≤ c.stands k
  going_there j k lt within = omega (arith, tracked.stands k within, never_freed k, total-term r.localities (λ i. going c i k) j lt)

  pub told_moves : (j : ℕ) → j < r.localities → 1 ≤ untold c j → its_record.0.moving ≡ Some j
  told_moves j lt h = moving_says j (omega (arith, h, tracked.moving j lt))

  module _ (k : ℕ) (within : k < r.localities) (t : Tables) (at : slice_get nodes k ≡ Some t) where
    pub stands_is : c.stands k ≡ count_by (is_standing o) t.objects
    stands_is = at_is nodes (λ (x : Tables). count_by (is_standing o) x.objects) k t at

    stands_there : 1 ≤ c.stands k → stands_here t o ≡ true
    stands_there h = found_by o t.objects (omega (arith, h, stands_is))

    not_there : c.stands k ≡ 0 → stands_here t o ≡ false
    not_there h = ap is_some (find-nothing (is_standing o) t.objects (omega (arith, h, stands_is)))

    leaving_one : leaves_here t o ≡ true → (j : ℕ) × (j < r.localities) × (1 ≤ c.leaving j k)
    leaving_one h =
        let near = (tables_near r joined.grammar joined.laws es (legal r log nodes es joined each o managed some) o log k t (each.shown k t at)).leaving in
        let x = granted_one r.localities o t.leaving near h in
        (x.0, x.1, omega (arith, x.2, at_is nodes (λ (y : Tables). sum_by (go_to o x.0) y.leaving) k t at))

    stays : stands_here t o ≡ true → (leaves_here t o ≡ true → ⊥) → stays_here t o ≡ true
    stays up none = elim (cases_Bool (leaves_here t o)) [
      | inl h ↦ absurd (none h)
      | inr h ↦ rw (up, h) refl
    ]

    -- where a Go comes that is under way, its object stands, and is not to leave
    pub go_stays : (j : ℕ) → j < r.localities → 1 ≤ c.go_kept j k + c.go_road j k → stays_here t o ≡ true
    go_stays j lt h = stays (stands_there (omega (arith, h, going_there j k lt within))) (λ l.
        let x = leaving_one l in
        let same : x.0 ≡ j = moving_same x.0 j (omega (arith, x.2, going_most x.0 k x.1 within)) (omega (arith, h, going_most j k lt within)) in
        absurd (omega (
          arith,
          h,
          subst (λ i. 1 ≤ c.leaving i k) same x.2,
          going_most j k lt within,
          moving_most j,
        )))

    -- where it comes it does not stand
    pub ship_absent : 1 ≤ c.ship_road k → stands_here t o ≡ false
    ship_absent h =
        let moves : 1 ≤ c.moving k = omega (arith, h, tracked.moving k within) in
        not_there (omega (
          arith,
          tracked.stands k within,
          never_freed k,
          rests_not k k moves,
          tracked.moving k within,
          moving_most k,
          total-zero r.localities (λ i. going c i k) (λ i lt. elim (cases_lt 0 (going c i k)) [
            | inl one ↦
                let same : i ≡ k = moving_same i k (omega (arith, one, going_most i k lt within)) moves in
                absurd (omega (
                  arith,
                  h,
                  subst (λ n. 0 < going c n k) same one,
                  tracked.moving k within,
                  moving_most k,
                  total-term r.localities (λ n. going c k n) k within,
                ))
            | inr none ↦ omega (arith, none)
          ]),
          h,
        ))

    -- where its record says that it is and does not move, it is and is not to leave
    pub rest_stays : rests_at k (Some its_record.0) ≡ true → stays_here t o ≡ true
    rest_stays h =
        let one : c.settled k ≡ 1 = rests_is k ∙ ap one_if h in
        stays (stands_there (omega (arith, one, tracked.stands k within, never_freed k))) (λ l.
        let x = leaving_one l in
        absurd (omega (arith, one, rests_not x.0 k (omega (arith, x.2, going_most x.0 k x.1 within)))))
