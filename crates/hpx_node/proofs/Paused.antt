-- A commit that waits, by what its tables say.
use Rattle.hpx_node.proofs.Common.{AllByRecursion, Apart, Asked, Bool, HasRightCredit, Id, IsCommit, IsFit, IsFitJob, IsKept, IsKeptFor, IsPaused, IsState, IsTidy, Job, List, Some, Standing, State, Tables, Waits, [], action_of, acts_on, all_at, all_imp, any_over, ap, append_assoc, arith, cond, drop, false, find, find_passes, hand_long, is_busy, is_standing, length, map, refl, slice_get, split_get, subst, suc, sym, take, target_of, true, waits_here, ℕ, ◌++◌, ◌<◌, ◌==◌, ◌∙◌, ◌∷◌, ◌≡◌}
use Rattle.hpx_steps.proofs.Busy.{apart_alone, busy_parts, busy_same}

pub paused_at : (t : Tables) (i : ℕ) (w : Waits) → IsTidy t [] → slice_get t.pending i ≡ Some w
    → IsPaused t.here t.localities t.profile.credit_log t.objects w
paused_at t i w tidy there = all_at (IsPaused t.here t.localities t.profile.credit_log t.objects) t.pending i w tidy.paused.each there

pub commit_of : (k n log : ℕ) (objects : List Standing) (w : Waits) → IsPaused k n log objects w → IsCommit k n w
commit_of k n log objects w h = record {
  job = h.job;
  here = h.here;
  localities = h.localities;
  few = h.few;
  hand = h.hand;
  within = h.within;
  refused = h.refused;
  once = h.once;
}

pub asked_within : (k n log : ℕ) (objects : List Standing) (w : Waits) → IsPaused k n log objects w → AllByRecursion (λ (x : Asked). x.place < length w.hand) w.asked
asked_within k n log objects w h =
    let long = hand_long k n w (commit_of k n log objects w h) in all_imp _ (λ (x : Asked). x.place < length w.hand) (λ x lt. omega (arith, lt, long)) w.asked h.within

-- where its object is found at j
pub in_place : (k n log : ℕ) (objects : List Standing) (w : Waits) (j : ℕ) (paused : IsPaused k n log objects w) → AllByRecursion IsKept objects
    → slice_get objects j ≡ Some paused.standing → IsKeptFor k n objects w.job w.localities j
in_place k n log objects w j paused kept stands = record {
  job = paused.job;
  here = paused.here;
  localities = paused.localities;
  few = paused.few.0;
  standing = paused.standing;
  stands = stands;
  found = paused.found;
  kept = all_at IsKept objects j paused.standing kept stands;
  kind = paused.kind;
  state = paused.state;
}

-- an object on which no commit waits has the credits of its ids
pub freed_whole : (t : Tables) (o : Id) (x : Standing) (i : ℕ) → slice_get t.objects i ≡ Some x → find (is_standing o) t.objects ≡ Some x
    → waits_here t o ≡ false → IsTidy t [] → AllByRecursion HasRightCredit x.state.ids
freed_whole t o x i there found idle tidy =
    all_at (λ (y : Standing). is_busy y.object (map action_of t.pending) ≡ false → AllByRecursion HasRightCredit y.state.ids) t.objects i x tidy.paused.whole there
    (sym (busy_same o x.object (map action_of t.pending) (find_passes (is_standing o) t.objects x found))
    ∙ (ap (λ b. cond (o.kind == 7) false b) (any_over (acts_on o) action_of [] t.pending ∙ idle) ∙ either (o.kind == 7)))
  where
    either : (b : Bool) → cond b false false ≡ false
    either true = refl
    either false = refl

-- an action that runs and its object are a job
pub fit_job : (t : Tables) (job : Job) (i j : ℕ) (x : Standing) → IsTidy t [] → slice_get t.running i ≡ Some job.action
    → find (is_standing (target_of job.action)) t.objects ≡ Some x → slice_get t.objects j ≡ Some x → IsKept x → x.state ≡ job.state → IsFitJob job
fit_job t job i j x tidy runs found stands kept state =
    let apart : Apart (take i t.running ++ job.action ∷ (drop (suc i) t.running ++ map action_of t.pending)) =
    subst Apart (ap (λ acts. acts ++ map action_of t.pending) (split_get t.running i job.action runs)
    ∙ append_assoc (take i t.running) (job.action ∷ drop (suc i) t.running) (map action_of t.pending)) tidy.paused.apart in
    let alone = apart_alone (take i t.running) job.action (drop (suc i) t.running ++ map action_of t.pending) apart in
    let idle = (busy_parts (target_of job.action) (drop (suc i) t.running) (map action_of t.pending)
    (busy_parts (target_of job.action) (take i t.running) (drop (suc i) t.running ++ map action_of t.pending) alone).1).1 in record {
      action = all_at IsFit t.running i job.action tidy.running runs;
      state = subst IsState state kept.state;
      credit = subst (λ (s : State). AllByRecursion HasRightCredit s.ids) state
          (all_at (λ (y : Standing). is_busy y.object (map action_of t.pending) ≡ false → AllByRecursion HasRightCredit y.state.ids) t.objects j x tidy.paused.whole stands
          (sym (busy_same (target_of job.action) x.object (map action_of t.pending) (find_passes (is_standing (target_of job.action)) t.objects x found)) ∙ idle));
    }
