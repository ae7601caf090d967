-- What the steps of a turn add to a journal.
use Rattle.hpx_node.proofs.Common.{AddsATurn, AllByRecursion, Arrived, Ask, Bool, Count, Done, Entry, Free, Give, Granted, Id, IsFailure, IsPrepared, IsTidy, Job, Landed, List, None, Option, Outcome, Parcel, Plan, Prepared, Refused, Return, Shipped, Some, Standing, Tables, Waits, Writes, [], action_ids, all_append, ap, arith, asked_events, at_all, bare, bytes_in, cond, committed, committed_from, count_here, cuts, due_left, effects, failed_events, failed_light, false, find, first_cuts, freed, half, halvings, if◌then◌else◌, is_standing, length, length-append, may_land, more_here, name_of, nat_lt, own_stock, plain, refl, returned, seen, subst, suc, sum_by-append, sum_by-cons, target_of, total_weight, true, up_of, ups, ups_left, weight_of, written_due, zero, ℕ, ◌++◌, ◌+◌, ◌∷◌, ◌≡◌, ◌≤◌}
use Rattle.hpx_commit.specs.Deals.{named}
use Rattle.hpx_node.proofs.FewEntries.{at_all_length, effects_few}
use Rattle.hpx_node.proofs.PlanWeights.{weighs, weighs_append, weighs_cons, weighs_due, ups_light}
use Rattle.hpx_node.proofs.Turns.{adds_grown, grown_weighs, HasNoBytes, bare_weighs}

-- ---- a commit, or one that begins to wait

pub adds_commit : (t : Tables) (job : Job) (out : Outcome) (p : Prepared) (is : IsPrepared t job out p) (own : p.stock ≡ own_stock t (seen job) out)
    (t' : Tables) (old new : List Entry) → Writes (committed t job out) t t' old new → AddsATurn old new
adds_commit t job out p is own t' old new wrote =
    adds_grown t.here (committed t job out) old new wrote.grows
    (subst (λ s. length (committed_from t job out s) ≤ 1024) own (omega (arith, is.limits.entries)))
    (subst (λ s. weighs t.here (committed_from t job out s) ≤ 16777216) own (omega (arith, is.limits.light)))

cuts_bare : (id : Id) (n : ℕ) → AllByRecursion HasNoBytes (cuts id n)
cuts_bare id zero = tt
cuts_bare id (suc zero) = tt
cuts_bare id (suc (suc n)) = (refl, cuts_bare (half id) (suc n))

first_bare : (n p : ℕ) (ids : List Id) (places : List ℕ) → AllByRecursion HasNoBytes (first_cuts n p ids places)
first_bare zero p ids places = tt
first_bare (suc n) p [] places = tt
first_bare (suc n) p (id ∷ ids) places =
    all_append HasNoBytes (cuts id (suc (halvings id (named places p)))) (first_cuts n (p + 1) ids places)
    (cuts_bare id (suc (halvings id (named places p)))) (first_bare n (p + 1) ids places)

asked_bare : (ids : List Id) → AllByRecursion HasNoBytes (asked_events ids)
asked_bare [] = tt
asked_bare (id ∷ ids) = (refl, asked_bare ids)

asked_long : (ids : List Id) → length (asked_events ids) ≡ length ids
asked_long [] = refl
asked_long (id ∷ ids) = ap suc (asked_long ids)

pub adds_asks : (k own : ℕ) (hand : List Id) (places : List ℕ) (ids : List Id) (e0 e1 e2 : List Entry)
    → e1 ≡ e0 ++ at_all k (first_cuts own 0 hand places) → e2 ≡ e1 ++ at_all k (asked_events ids)
    → length (first_cuts own 0 hand places) ≤ 193 → length ids ≤ 162 → AddsATurn e0 e2
adds_asks k own hand places ids e0 e1 e2 cut asked few lacks =
    let splits = first_cuts own 0 hand places in record {
      entries = omega (
        arith,
        few,
        lacks,
        ap (λ (es : List Entry). length es) cut,
        ap (λ (es : List Entry). length es) asked,
        length-append e0 (at_all k splits),
        length-append e1 (at_all k (asked_events ids)),
        at_all_length k splits,
        at_all_length k (asked_events ids),
        asked_long ids,
      );
      weight = omega (
        arith,
        few,
        lacks,
        grown_weighs k splits e0 e1 cut,
        grown_weighs k (asked_events ids) e1 e2 asked,
        bare_weighs k splits (first_bare own 0 hand places),
        bare_weighs k (asked_events ids) (asked_bare ids),
        asked_long ids,
      );
    }

-- ---- a message that is dealt with

up_bare : (id : Id) (log : Option ℕ) → AllByRecursion HasNoBytes (up_of id log)
up_bare id None = tt
up_bare id (Some log) = (refl, tt)

ups_bare : (ids : List Id) → AllByRecursion HasNoBytes (ups ids)
ups_bare [] = tt
ups_bare (id ∷ ids) = all_append HasNoBytes (up_of id id.log) (ups ids) (up_bare id id.log) (ups_bare ids)

returned_bare : (t : Tables) (id : Id) (log : Option ℕ) → AllByRecursion HasNoBytes (returned t id log)
returned_bare t id None = tt
returned_bare t id (Some log) = (refl, tt)

answered_bare : (t : Tables) (id : Id) (b : Bool)
    → AllByRecursion HasNoBytes ((if b then Count (bare id) (count_here t id) Refused else Count (bare id) (more_here t id) Granted) ∷ [])
answered_bare t id true = (refl, tt)
answered_bare t id false = (refl, tt)

freed_bare : (o : Id) (x : Option Standing) → AllByRecursion HasNoBytes (freed o x)
freed_bare o None = tt
freed_bare o (Some x) = (refl, ups_bare x.state.ids)

landed_bare : (b : Bool) (o : Id) → AllByRecursion HasNoBytes (cond b (Landed o ∷ []) [])
landed_bare true o = (refl, tt)
landed_bare false o = tt

effects_bare : (t : Tables) (p : Parcel) → AllByRecursion HasNoBytes (effects t p)
effects_bare t (Return id) = returned_bare t id id.log
effects_bare t (Arrived id place) = returned_bare t id id.log
effects_bare t (Shipped act state) = landed_bare (may_land t act) (bare (target_of act))
effects_bare t (Ask id asker entry) = answered_bare t id (nat_lt t.profile.credit_limit (more_here t id))
effects_bare t (Give id entry) = (refl, tt)
effects_bare t (Free o) = freed_bare o (find (is_standing o) t.objects)
effects_bare t _ = tt

-- an entry with the bytes of a frame, or with none, and what the message does
pub grows_light : (k : ℕ) (e : Entry) (t : Tables) (p : Parcel) (before now after : List Entry) → IsTidy t [] → bytes_in e.event ≤ 65536
    → now ≡ before ++ e ∷ [] → after ≡ now ++ at_all k (effects t p) → total_weight after ≤ total_weight before + 73856
grows_light k e t p before now after tidy short one grows = omega (
  arith,
  short,
  ap total_weight one,
  sum_by-append weight_of before (e ∷ []),
  sum_by-cons weight_of e [],
  grown_weighs k (effects t p) now after grows,
  bare_weighs k (effects t p) (effects_bare t p),
  effects_few t p tidy,
)

-- ---- an action that fails

pub fails_light : (t t' : Tables) (w : Waits) (p : Plan) (old new : List Entry) → IsFailure w p → length p.ups.items ≤ 256
    → Writes (failed_events t w) t t' old new → total_weight new ≤ total_weight old + 16640
fails_light t t' w p old new is few wrote =
    let due = written_due t.here t.serial (due_left w) in
    let left = ups (ups_left w) in
    omega (
      arith,
      few,
      ap (λ (ids : List Id). length ids) is.ups,
      grown_weighs t.here (failed_events t w) old new wrote.grows,
      weighs_cons t.here (Done (name_of w.job.action) true) (due ++ left),
      weighs_append t.here due left,
      weighs_due t.here t.here t.serial (due_left w),
      failed_light (action_ids w.job.state (plain w.job.action) w.hand) (plain w.job.action).cont,
      ups_light t.here (ups_left w),
    )

-- ---- a message, and what follows it

pub adds_steps : (e0 e1 e2 e3 : List Entry) → e1 ≡ e0 → length e2 ≤ length e1 + 130 → total_weight e2 ≤ total_weight e1 + 73856
    → length e3 ≤ length e2 + 598 → total_weight e3 ≤ total_weight e2 + 2380416 → AddsATurn e0 e3
adds_steps e0 e1 e2 e3 same few light few_then light_then = record {
  entries = omega (arith, ap (λ (es : List Entry). length es) same, few, few_then);
  weight = omega (arith, ap total_weight same, light, light_then);
}
