-- A commit that is given an id: it is the first that waits for it.
use Rattle.std.proofs.Common.{◌≢◌}
use Rattle.hpx_node.proofs.Common.{Bool, Gives, HasCredit, HasSplit, Id, IsCommit, IsPaused, List, None, Option, Parcel, Refills, Some, Tables, Waits, [], and_true, any_at, ap, arith, awaits, eqb-true, false, find, first_same, get_set, is_asked_for, is_last, is_some, length, length-set, less_long, log_of, none_long, not, refl, remove, set, slice_get, slice_get_less, some_same, subst, sym, take, true, waits_for_one, ℕ, ◌<◌, ◌==◌, ◌∙◌, ◌≡◌, ◌⊎◌}
use Rattle.hpx_steps.proofs.Refilled.{still_commit, still_split}
use Rattle.hpx_node.proofs.Paused.{commit_of}

-- ---- the commit

-- it was at i, and is there now
pub record IsGivenTo (t mid : Tables) (id : Id) (entry k i : ℕ) (w w' : Waits) : Type 0 where
  pub place : k ≡ i
  pub refills : Refills id entry w w'
  pub now : slice_get mid.pending i ≡ Some w'
  pub inside : i < length mid.pending

pub given_to : (t : Tables) (n : ℕ) (d : List Parcel) (mid : Tables) (id : Id) (entry : ℕ) (g : Gives id entry (record t { taken = n; desk = d }) mid) (i : ℕ) (w : Waits)
    → slice_get t.pending i ≡ Some w → awaits id entry w ≡ true → find (awaits id entry) (take i t.pending) ≡ None → IsGivenTo t mid id entry g.i i w g.after
given_to t n d mid id entry g i w there for first =
    let its : awaits id entry g.before ≡ true = any_at (is_asked_for g.before id entry) g.before.asked g.refills.k g.refills.ask g.refills.there g.refills.for in
    let same : g.i ≡ i = first_same (awaits id entry) t.pending g.i i g.before w g.there there its for g.first first in
    let inside : i < length t.pending = slice_get_less t.pending i w there in record {
      place = same;
      refills = subst (λ v. Refills id entry v g.after) (some_same g.before w (sym g.there ∙ (ap (slice_get t.pending) same ∙ there))) g.refills;
      now = ap (λ (x : Tables). slice_get x.pending i) g.rest ∙ (ap (λ k. slice_get (set t.pending k g.after) i) same ∙ get_set t.pending i g.after inside);
      inside = omega (arith, inside, ap (λ (x : Tables). length x.pending) g.rest, length-set t.pending g.i g.after);
    }

-- it stands as it did
pub record IsStill (t : Tables) (w : Waits) : Type 0 where
  pub its : IsCommit t.here t.localities w
  pub split : HasSplit t.profile.credit_log w
  pub other : w.job.action.code ≢ 1

pub still : (t : Tables) (w w' : Waits) (id : Id) (entry : ℕ) → IsPaused t.here t.localities t.profile.credit_log t.objects w → Refills id entry w w' → HasCredit id
    → (log_of id.log ≡ 0) ⊎ (log_of id.log ≡ t.profile.credit_log) → IsStill t w'
still t w w' id entry was refills credit brings =
    let commit = commit_of t.here t.localities t.profile.credit_log t.objects w was in record {
      its = subst (IsCommit t.here t.localities) (sym refills.now)
          (still_commit t.here t.localities t.profile.credit_log w refills.k refills.ask id entry commit was.split refills.there refills.for credit brings);
      split = subst (HasSplit t.profile.credit_log) (sym refills.now)
          (still_split t.here t.localities t.profile.credit_log w refills.k refills.ask id entry commit was.split refills.there refills.for credit brings);
      other = subst (λ (v : Waits). v.job.action.code ≢ 1) (sym refills.now) was.stays;
    }

-- where it waited for one alone, it waits for none
pub none_asked : (w w' : Waits) (id : Id) (entry : ℕ) → Refills id entry w w' → (length w.asked == 1) ≡ true → w'.asked ≡ []
none_asked w w' id entry refills one =
    ap (λ (v : Waits). v.asked) refills.now
    ∙ none_long (remove w.asked refills.k) (omega (arith, less_long w.asked refills.k refills.ask refills.there, eqb-true (length w.asked) 1 one))

-- what makes an id the last
pub last_parts : (id : Id) (w : Waits) → is_last id (Some w) ≡ true → ((log_of id.log == 0) ≡ false) × ((length w.asked == 1) ≡ true) × (w.refused ≡ None)
last_parts id w last =
    let parts = and_true (not (log_of id.log == 0)) (waits_for_one w) last in
    let one = and_true (length w.asked == 1) (not (is_some w.refused)) parts.1 in
    (off (log_of id.log == 0) parts.0, one.0, none w.refused one.1)
  where
    off : (b : Bool) → not b ≡ true → b ≡ false
    off true h = absurd (cc)
    off false h = refl

    none : (o : Option Id) → not (is_some o) ≡ true → o ≡ None
    none None h = refl
    none (Some x) h = absurd (cc)
