-- What frames count as they are sent and accepted, and what holds of each of them.
use Rattle.std.proofs.Common.{ℕ, zero, suc, cond, List, [], ◌∷◌, ◌≡◌, ◌+◌, ◌==◌, ◌<◌, ◌≤◌, refl, sym, ap, arith, inl, inr, subst}
use Rattle.std.specs.List.{sum_by, AllByRecursion}
use Rattle.std.proofs.lemmas.Bool.{cases_eq, eq-eqb, ne_eqb}
use Rattle.std.proofs.lemmas.List.Sums.{sum_by-cons}
use Rattle.hpx_journal.specs.Bags.{Covers, total}
use Rattle.hpx_journal.specs.Entries.{Event, In, Entry, Frame, Rules, same_frame}
use Rattle.hpx_journal.specs.Whole.{IsCarried, part, arrives, arrives_at, sends, road_after}
use Rattle.hpx_journal.specs.Laws.{road_run}
use Rattle.hpx_journal.proofs.Alls.{all-append, all-minus}
use Rattle.hpx_journal.proofs.Bags.{total-le}
use Rattle.hpx_journal.proofs.Failures.{AreBelow}
use Rattle.hpx_journal.proofs.Joined.{part_same, part_other}
use Rattle.hpx_journal.proofs.PoolMoves.{arrived}
use Rattle.hpx_journal.proofs.Wholes.{road_moves}

-- ---- sums

-- what is on the road, and what was accepted, is what was sent
pub frames_carried : (r : Rules) (v : Frame → ℕ) (road : List Frame) (es : List Entry) → IsCarried r road es
    → sum_by v (road_run road es) + sum_by (λ e. sum_by v (arrives e)) es ≡ sum_by v road + sum_by (λ (e : Entry). sum_by v (sends e.event)) es
frames_carried r v road [] h = refl
frames_carried r v road (e ∷ es) h =
    omega (
      arith,
      frames_carried r v (road_after road e) es h.2,
      road_moves v road e h.1,
      sum_by-cons (λ x. sum_by v (arrives x)) e es,
      sum_by-cons (λ (x : Entry). sum_by v (sends x.event)) e es,
    )

-- the entries at k
pub part_sum : (k : ℕ) (f : Event → ℕ) (es : List Entry)
    → sum_by (λ (e : Entry). f e.event) (part k es) ≡ sum_by (λ (e : Entry). cond (e.at == k) (f e.event) 0) es
part_sum k f [] = refl
part_sum k f (e ∷ es) = elim (cases_eq e.at k) [
  | inl same ↦
      let own : ◌≡◌ {A = ℕ} (cond (e.at == e.at) (f e.event) 0) (f e.event) = ap (λ b. cond b (f e.event) 0) (eq-eqb e.at e.at refl) in
      subst (λ j. sum_by (λ (x : Entry). f x.event) (part j (e ∷ es)) ≡ sum_by (λ (x : Entry). cond (x.at == j) (f x.event) 0) (e ∷ es)) same
      (omega (
        arith,
        own,
        ap (sum_by (λ (x : Entry). f x.event)) (part_same e es),
        sum_by-cons (λ (x : Entry). f x.event) e (part e.at es),
        sum_by-cons (λ (x : Entry). cond (x.at == e.at) (f x.event) 0) e es,
        part_sum e.at f es,
      ))
  | inr other ↦
      let none : ◌≡◌ {A = ℕ} (cond (e.at == k) (f e.event) 0) 0 = ap (λ b. cond b (f e.event) 0) (ne_eqb e.at k other) in
      omega (
        arith,
        none,
        ap (sum_by (λ (x : Entry). f x.event)) (part_other k e es other),
        sum_by-cons (λ (x : Entry). cond (x.at == k) (f x.event) 0) e es,
        part_sum k f es,
      )
]

-- no more, where each is no more
pub sum_le : {X : Type 0} (f g : X → ℕ) (xs : List X) → AllByRecursion (λ x. f x ≤ g x) xs → sum_by f xs ≤ sum_by g xs
sum_le f g [] h = omega arith
sum_le f g (x ∷ xs) h = omega (arith, h.0, sum_le f g xs h.1, sum_by-cons f x xs, sum_by-cons g x xs)

-- each is no more, and one is less
pub total_less : (n : ℕ) (f g : ℕ → ℕ) (k : ℕ) → k < n → ((j : ℕ) → j < n → f j ≤ g j) → f k + 1 ≤ g k → total n f + 1 ≤ total n g
total_less zero f g k lt h one = absurd (omega arith)
total_less (suc n) f g k lt h one = elim (cases_eq k n) [
  | inl same ↦
      let last : f n + 1 ≤ g n = subst (λ j. f j + 1 ≤ g j) same one in
      omega (arith, last, total-le n f g (λ j i. h j (omega arith)))
  | inr other ↦ omega (arith, h n (omega arith), total_less n f g k (omega arith) (λ j i. h j (omega arith)) one)
]

-- ---- each of them

-- what holds of each entry of each part
pub each_entry : (n : ℕ) (S : ℕ → Event → Type 0) (es : List Entry) → AreBelow n es
    → ((k : ℕ) → k < n → AllByRecursion (λ (e : Entry). S k e.event) (part k es)) → AllByRecursion (λ (e : Entry). S e.at e.event) es
each_entry n S [] below h = tt
each_entry n S (e ∷ es) below h =
    let own : AllByRecursion (λ (x : Entry). S e.at x.event) (e ∷ part e.at es) =
    subst (AllByRecursion (λ (x : Entry). S e.at x.event)) (part_same e es) (h e.at below.0) in (
      own.0,
      each_entry n S es below.1 (λ k lt. elim (cases_eq e.at k) [
        | inl same ↦ subst (λ j. AllByRecursion (λ (x : Entry). S j x.event) (part j es)) same own.1
        | inr other ↦ subst (AllByRecursion (λ (x : Entry). S k x.event)) (part_other k e es other) (h k lt)
      ]),
    )

-- and the other way round
pub part_each : (P : Entry → Type 0) (k : ℕ) (es : List Entry) → AllByRecursion P es → AllByRecursion P (part k es)
part_each P k [] h = tt
part_each P k (e ∷ es) h = elim (cases_eq e.at k) [
  | inl same ↦
      subst (λ j. AllByRecursion P (part j (e ∷ es))) same (subst (AllByRecursion P) (sym (part_same e es)) (h.0, part_each P e.at es h.1))
  | inr other ↦ subst (AllByRecursion P) (sym (part_other k e es other)) (part_each P k es h.1)
]

come_from : (P : Frame → Type 0) (road : List Frame) (k : ℕ) (e : Event) → Covers same_frame road (arrives_at k e) → AllByRecursion P road
    → AllByRecursion P (arrives_at k e)
come_from P road k (In bytes) h all = (arrived P road (k, bytes) all h.0, tt)
come_from P road k _ h all = tt

-- what holds of each frame that is sent holds of each that is on the road, and of each that is accepted
pub each_frame : (r : Rules) (P : Frame → Type 0) (road : List Frame) (es : List Entry) → IsCarried r road es → AllByRecursion P road
    → AllByRecursion (λ (e : Entry). AllByRecursion P (sends e.event)) es
    → AllByRecursion P (road_run road es) × AllByRecursion (λ e. AllByRecursion P (arrives e)) es
each_frame r P road [] h all sent = (all, tt)
each_frame r P road (e ∷ es) h all sent =
    let next = all-append P (sends e.event) _ sent.0 (all-minus P same_frame road (arrives e) all) in
    let rest = each_frame r P (road_after road e) es h.2 next sent.1 in
    (rest.0, (come_from P road e.at e.event h.1 all, rest.1))
