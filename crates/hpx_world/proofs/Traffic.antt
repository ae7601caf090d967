-- What goes to a locality came there, or is on the road.
use Rattle.std.proofs.Common.{ℕ, zero, suc, Bool, true, false, cond, List, [], ◌∷◌, ◌≡◌, ◌≢◌, ◌+◌, ◌<◌, ◌==◌, refl, sym, ap, ◌∙◌, subst, arith, inl, inr}
use Rattle.std.specs.List.{sum_by, AllByRecursion}
use Rattle.std.proofs.lemmas.Bool.{cases_eq, ne_eqb, eq-eqb}
use Rattle.std.proofs.lemmas.List.Sums.{sum_by-cons}
use Rattle.hpx_journal.specs.Bags.{total}
use Rattle.hpx_journal.specs.Data.{Parcel}
use Rattle.hpx_journal.specs.Entries.{Rules, Frame}
use Rattle.hpx_journal.specs.Laws.{road_run}
use Rattle.hpx_journal.specs.Whole.{IsCarried, arrives, arrives_at, sends, part}
use Rattle.hpx_journal.proofs.Alls.{all-any}
use Rattle.hpx_journal.proofs.Bags.{total-zero, total-same, total-change, total-add, total-single, total-term}
use Rattle.hpx_journal.proofs.Failures.{AreBelow, below_all}
use Rattle.hpx_journal.proofs.Frames.{frames_carried, part_sum}
use Rattle.hpx_journal.proofs.Joined.{part_same, part_other}
use Rattle.hpx_part.specs.Data.{Event, Entry, In, Out}
use Rattle.hpx_steps.specs.Rows.{weighed}
use Rattle.hpx_steps.specs.Sound.{SendsOwn, all_count, come, gone, gone_to}
use Rattle.hpx_steps.specs.Frames.{IsOnItsWay}

-- ---- sums

pub sum_same : {X : Type 0} (f g : X → ℕ) (xs : List X) → AllByRecursion (λ x. f x ≡ g x) xs → sum_by f xs ≡ sum_by g xs
sum_same f g [] h = refl
sum_same f g (x ∷ xs) h = omega (arith, h.0, sum_same f g xs h.1, sum_by-cons f x xs, sum_by-cons g x xs)

own : (j c : ℕ) → cond (j == j) c 0 ≡ c
own j c = ap (λ b. cond b c 0) (eq-eqb j j refl)

pub total_one : (n j c : ℕ) → j < n → total n (λ k. cond (j == k) c 0) ≡ c
total_one n j c lt = omega (
  arith,
  total-single n (λ k. cond (j == k) c 0) j (λ k d. ap (λ b. cond b c 0) (ne_eqb j k (λ e. d (sym e)))),
  total-term n (λ k. cond (j == k) c 0) j lt,
  own j c,
)

-- only one place has anything
pub total_at : (n : ℕ) (f : ℕ → ℕ) (j : ℕ) → j < n → ((k : ℕ) → k < n → k ≢ j → f k ≡ 0) → total n f ≡ f j
total_at n f j lt h = total-same n f (λ k. cond (j == k) (f j) 0) (λ k within. elim (cases_eq j k) [
  | inl e ↦ subst (λ i. f i ≡ cond (j == i) (f j) 0) e (sym (own j (f j)))
  | inr d ↦ h k within (λ e. d (sym e)) ∙ sym (ap (λ b. cond b (f j) 0) (ne_eqb j k d))
]) ∙ total_one n j (f j) lt

-- sums of sums
pub total_sum : {X : Type 0} (n : ℕ) (f : ℕ → X → ℕ) (xs : List X) → total n (λ k. sum_by (f k) xs) ≡ sum_by (λ x. total n (λ k. f k x)) xs
total_sum n f [] = total-zero n (λ k. 0) (λ k h. refl)
total_sum n f (x ∷ xs) = omega (
  arith,
  total_cons n,
  total-add n (λ k. f k x) (λ k. sum_by (f k) xs),
  total_sum n f xs,
  sum_by-cons (λ y. total n (λ k. f k y)) x xs,
)
  where
    total_cons : (n : ℕ) → total n (λ k. sum_by (f k) (x ∷ xs)) ≡ total n (λ k. f k x + sum_by (f k) xs)
    total_cons zero = refl
    total_cons (suc m) = omega (arith, total_cons m, sum_by-cons (f m) x xs)

-- ---- parts

no_parts : (f : Event → ℕ) (n : ℕ) → total n (λ k. all_count f (part k [])) ≡ 0
no_parts f n = total-zero n (λ k. all_count f (part k [])) (λ k h. refl)

-- what stands in the whole stands in its parts
pub sum_parts : (f : Event → ℕ) (n : ℕ) (es : List Entry) → AreBelow n es → total n (λ k. all_count f (part k es)) ≡ all_count f es
sum_parts f n [] h = no_parts f n
sum_parts f n (e ∷ es) h =
    let own : all_count f (part e.at (e ∷ es)) ≡ all_count f (e ∷ part e.at es) = ap (all_count f) (part_same e es) in
    omega (
      arith,
      own,
      sum_parts f n es h.1,
      sum_by-cons (λ (x : Entry). f x.event) e es,
      sum_by-cons (λ (x : Entry). f x.event) e (part e.at es),
      total-change n (λ k. all_count f (part k es)) (λ k. all_count f (part k (e ∷ es))) e.at h.0 (λ j d. ap (all_count f) (part_other j e es d)),
    )

-- ---- the road

-- what a frame counts that goes to k
abbrev pub bound : Rules → ℕ → (Parcel → ℕ) → Frame → ℕ
bound r k w f = cond (f.0 == k) (weighed w (r.parcel_of f.1)) 0

nothing : (b : Bool) → ◌≡◌ {A = ℕ} (cond b 0 0) 0
nothing true = refl
nothing false = refl

arrives_count : (r : Rules) (w : Parcel → ℕ) (k at : ℕ) (e : Event) → sum_by (bound r k w) (arrives_at at e) ≡ cond (at == k) (come r w e) 0
arrives_count r w k at (In bytes) = omega arith
arrives_count r w k at _ = sym (nothing (at == k))

sends_count : (r : Rules) (w : Parcel → ℕ) (k : ℕ) (e : Event) → sum_by (bound r k w) (sends e) ≡ gone_to r k w e
sends_count r w k (Out to bytes) = omega arith
sends_count r w k _ = refl

pub road_count : (r : Rules) (w : Parcel → ℕ) (k : ℕ) (es : List Entry) → IsCarried r [] es
    → sum_by (bound r k w) (road_run [] es) + all_count (come r w) (part k es) ≡ total r.localities (λ j. all_count (gone_to r k w) (part j es))
road_count r w k es carried = omega (
  arith,
  frames_carried r (bound r k w) [] es carried,
  sum_same (λ (e : Entry). sum_by (bound r k w) (arrives e)) (λ (e : Entry). cond (e.at == k) (come r w e.event) 0) es
      (all-any (λ (e : Entry). sum_by (bound r k w) (arrives e) ≡ cond (e.at == k) (come r w e.event) 0) (λ e. arrives_count r w k e.at e.event) es),
  part_sum k (come r w) es,
  sum_same (λ (e : Entry). sum_by (bound r k w) (sends e.event)) (λ (e : Entry). gone_to r k w e.event) es
      (all-any (λ (e : Entry). sum_by (bound r k w) (sends e.event) ≡ gone_to r k w e.event) (λ e. sends_count r w k e.event) es),
  sum_parts (gone_to r k w) r.localities es (below_all r [] es carried),
)

-- ---- own frames

module _ (r : Rules) (n k log : ℕ) where
  module _ (j : ℕ) (w : Parcel → ℕ) where
    -- what goes to j goes, where a message that has a weight may go to nowhere else
    one_goes : (v : Parcel → ℕ) → ((to : ℕ) (p : Parcel) → IsOnItsWay n k (record { to = to; parcel = p }) → cond (to == j) (w p) 0 ≡ v p)
        → (e : Event) → SendsOwn r n k log e → gone_to r j w e ≡ gone r v e
    one_goes v h (Out to bytes) own = rw own.spelled (h to own.parcel own.way)
    one_goes v h _ own = refl

    none_goes : ((to : ℕ) (p : Parcel) → IsOnItsWay n k (record { to = to; parcel = p }) → cond (to == j) (w p) 0 ≡ 0)
        → (e : Event) → SendsOwn r n k log e → gone_to r j w e ≡ 0
    none_goes h (Out to bytes) own = rw own.spelled (h to own.parcel own.way)
    none_goes h _ own = refl

    pub own_goes : (v : Parcel → ℕ) (es : List Entry) → AllByRecursion (λ (e : Entry). SendsOwn r n k log e.event) es
        → ((to : ℕ) (p : Parcel) → IsOnItsWay n k (record { to = to; parcel = p }) → cond (to == j) (w p) 0 ≡ v p) → all_count (gone_to r j w) es ≡ all_count (gone r v) es
    own_goes v [] all h = refl
    own_goes v (e ∷ es) all h = omega (
      arith,
      own_goes v es all.1 h,
      one_goes v h e.event all.0,
      sum_by-cons (λ (x : Entry). gone_to r j w x.event) e es,
      sum_by-cons (λ (x : Entry). gone r v x.event) e es,
    )

    pub own_none : (es : List Entry) → AllByRecursion (λ (e : Entry). SendsOwn r n k log e.event) es
        → ((to : ℕ) (p : Parcel) → IsOnItsWay n k (record { to = to; parcel = p }) → cond (to == j) (w p) 0 ≡ 0) → all_count (gone_to r j w) es ≡ 0
    own_none [] all h = refl
    own_none (e ∷ es) all h = omega (arith, own_none es all.1 h, none_goes h e.event all.0, sum_by-cons (λ (x : Entry). gone_to r j w x.event) e es)

  -- what goes goes somewhere
  pub own_somewhere : (w : Parcel → ℕ) (es : List Entry) → AllByRecursion (λ (e : Entry). SendsOwn r n k log e.event) es
      → total n (λ j. all_count (gone_to r j w) es) ≡ all_count (gone r w) es
  own_somewhere w es all = total_sum n (λ j (e : Entry). gone_to r j w e.event) es
      ∙ sum_same (λ (e : Entry). total n (λ j. gone_to r j w e.event)) (λ (e : Entry). gone r w e.event) es
      (Rattle.hpx_journal.proofs.Alls.all-map (λ (e : Entry). SendsOwn r n k log e.event) (λ (e : Entry). total n (λ j. gone_to r j w e.event) ≡ gone r w e.event) (λ e own. each e.event own) es all)
    where
      each : (e : Event) → SendsOwn r n k log e → total n (λ j. gone_to r j w e) ≡ gone r w e
      each (Out to bytes) own = total_one n to (weighed w (r.parcel_of bytes)) own.way.somewhere
      each _ own = total-zero n (λ j. 0) (λ j lt. refl)
