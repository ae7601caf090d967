-- An action whose failure was planned before its commit's last answer came fails with it.
use Rattle.hpx_node.proofs.Common.{Bool, Failing, Give, Gives, HasCredit, Id, IsFailing, IsFailingFor, IsFailure, IsLeftFailed, IsTidy, List, MustFail, None, Option, Parcel, Some, Tables, Waits, [], and_true, ap, bare, bare_state, cond, failed_remains, false, find, is_some, is_standing, length, log_of, refl, slice_get, some_same, subst, sym, target_of, true, ℕ, ◌==◌, ◌||◌, ◌∙◌, ◌≡◌, ◌⊎◌}
use Rattle.hpx_node.proofs.LeftFailed.{left_failed}
use Rattle.hpx_node.proofs.Paused.{paused_at}
use Rattle.hpx_node.proofs.Given.{IsGivenTo, IsStill, given_to, none_asked, still}
use Rattle.hpx_node.proofs.FailedPlan.{failure_then}

some_of : (b : Bool) (new : Id) (old : Option Id) → (b || is_some old) ≡ true → (o : Id) × (cond b (Some new) old ≡ Some o)
some_of true new old h = (new, refl)
some_of false new (Some o) h = (o, refl)
some_of false new None h = absurd (cc)

module _ (t : Tables) (n : ℕ) (d : List Parcel) (mid : Tables) (id : Id) (entry : ℕ) (y : Failing) (fails : IsFailing t id entry y)
    (g : Gives id entry (record t { taken = n; desk = d }) mid) where
  pub at : IsGivenTo t mid id entry g.i y.i fails.commit g.after
  at = given_to t n d mid id entry g y.i fails.commit fails.there fails.for fails.first

  last : ((length fails.commit.asked == 1) ≡ true) × (((log_of id.log == 0) || is_some fails.commit.refused) ≡ true)
  last = and_true (length fails.commit.asked == 1) ((log_of id.log == 0) || is_some fails.commit.refused) fails.last

  pub given : g.after.asked ≡ []
  given = none_asked fails.commit g.after id entry at.refills last.0

  refused_by : (o : Id) × (cond (log_of id.log == 0) (Some (bare id)) fails.commit.refused ≡ Some o)
  refused_by = some_of (log_of id.log == 0) (bare id) fails.commit.refused last.1

  pub refused : (o : Id) × (g.after.refused ≡ Some o)
  refused = (refused_by.0, ap (λ (v : Waits). v.refused) at.refills.now ∙ refused_by.1)

  pub found_then : find (is_standing (target_of g.after.job.action)) t.objects ≡ Some fails.place.standing
  found_then = ap (λ (v : Waits). find (is_standing (target_of v.job.action)) t.objects) at.refills.now ∙ fails.place.found

  -- what it leaves is right
  module _ (tidy : IsTidy t []) (credit : HasCredit id) (brings : (log_of id.log ≡ 0) ⊎ (log_of id.log ≡ t.profile.credit_log)) where
    k : IsStill t g.after
    k = still t fails.commit g.after id entry (paused_at t y.i fails.commit tidy fails.there) at.refills credit brings

    pub left : IsLeftFailed g.after fails.place.standing (failed_remains g.after)
    left = left_failed t.here t.localities t.profile.credit_log g.after k.its k.split given fails.place.standing fails.place.kept
        (fails.place.state ∙ ap (λ (v : Waits). bare_state v.job.state) (sym at.refills.now))

    pub must_then : MustFail y.i y.j mid
    must_then = record {
      commit = g.after;
      there = at.now;
      job = k.its.job;
      standing = fails.place.standing;
      stands = ap (λ (x : Tables). slice_get x.objects y.j) g.rest ∙ fails.place.stands;
      found = ap (λ (x : Tables). find (is_standing (target_of g.after.job.action)) x.objects) g.rest ∙ found_then;
      left = left;
    }

  pub plan_then : (w : Waits) → slice_get mid.pending y.i ≡ Some w → IsFailure w y.plan
  plan_then w h = subst (λ v. IsFailure v y.plan) (some_same g.after w (sym at.now ∙ h))
      (failure_then fails.commit g.after id entry y.plan at.refills fails.plan)

-- only a Give makes one fail
pub only_fails : (t : Tables) (p : Parcel) (y : Failing) → IsFailingFor t p y → (P : Type 0)
    → ((id : Id) (entry : ℕ) → p ≡ Give id entry → IsFailing t id entry y → P) → P
only_fails t (Give id entry) y fails P h = h id entry refl fails
only_fails t _ y fails P h = absurd fails
