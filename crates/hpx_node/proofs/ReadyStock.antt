-- With the last credit in its place, what a commit deals may be dealt.
use Rattle.hpx_node.proofs.Common.{Bool, Found, HasCredit, HasRightCredit, Id, IsFitJob, IsPaused, IsShort, IsStock, KeepsLaws, List, None, Option, Refills, Some, Tables, Waits, [], any_place, ap, awaits, bare, brings_right, cases_Bool, come_long, come_short, come_stock, cond, eqb-true, false, hand_with, id_at, ids_named, inl, inr, is_asked, is_asked_for, is_last, is_managed, is_some, length, log_of, made_of, ne_eqb, not, plain, put_for, refilled, refl, remove, seen, set, stock_with, subst, sym, true, waits_for_one, waits_managed, ℕ, ◌&&◌, ◌+◌, ◌==◌, ◌∙◌, ◌≡◌, ◌≤◌, ◌⊎◌}
use Rattle.hpx_node.proofs.Given.{IsStill, last_parts, none_asked, still}
use Rattle.hpx_node.proofs.Planned.{AreMade, made_of_job, rights}
use Rattle.hpx_node.proofs.Seen.{fit_seen}
use Rattle.hpx_node.proofs.LeftFailed.{given}

-- with these ids in its hand, what a commit deals may be dealt
pub record IsStockReady (t : Tables) (w : Waits) (hand : List Id) : Type 0 where
  pub stock : IsStock t (seen w.job) w.outcome (stock_with t w hand)
  pub long : length (ids_named w) + length (made_of t w.outcome) ≤ length hand
  pub short : length hand ≤ 1024

-- an id that did not last came with the credit of a new object
has_come : (log : ℕ) (refused : Option Id) (id : Id) → is_asked id ≡ false → is_managed id ≡ true → IsShort log refused id → refused ≡ None → id.log ≡ Some log
has_come log refused id none managed (inl bare) given =
    let yes : is_asked id ≡ true = ap (λ (l : Option ℕ). is_managed id && not (is_some l)) bare ∙ ap (λ b. b && true) managed in
    absurd (let e : true ≡ false = sym yes ∙ none in cc)
has_come log refused id none managed (inr (inl more)) given = more
has_come log refused id none managed (inr (inr least)) given = absurd (least.1 given)

module _ (t : Tables) (w : Waits) (id : Id) (entry : ℕ) (paused : IsPaused t.here t.localities t.profile.credit_log t.objects w) (few : t.localities ≤ 64)
    (laws : KeepsLaws t.localities w.job.kind w.job.at w.job.state (plain w.job.action) w.outcome) (log : 8 ≤ t.profile.credit_log) (credit : HasCredit id)
    (brings : (log_of id.log ≡ 0) ⊎ (log_of id.log ≡ t.profile.credit_log)) (waits : awaits id entry w ≡ true) (last : is_last id (Some w) ≡ true) where
  f : Found (is_asked_for w id entry) w.asked
  f = any_place (is_asked_for w id entry) w.asked waits

  abbrev now : Waits
  now = refilled f.k f.x.place id w

  refills : Refills id entry w (refilled f.k f.x.place id w)
  refills = record { k = f.k; ask = f.x; first = f.found; there = f.there; for = f.passes; now = refl }

  k : IsStill t (refilled f.k f.x.place id w)
  k = still t w now id entry paused refills credit brings

  parts : ((log_of id.log == 0) ≡ false) × ((length w.asked == 1) ≡ true) × (w.refused ≡ None)
  parts = last_parts id w last

  none_left : remove w.asked f.k ≡ []
  none_left = none_asked w now id entry refills parts.1

  none_refused : cond (log_of id.log == 0) (Some (bare id)) w.refused ≡ None
  none_refused = ap (λ b. cond b (Some (bare id)) w.refused) parts.0 ∙ parts.2

  fit : IsFitJob (seen w.job)
  fit = fit_seen w.job k.its.job

  are : AreMade t.profile.credit_log w.outcome.makes (made_of t w.outcome)
  are = made_of_job t.localities t (seen w.job) w.outcome laws fit

  stock : IsStock t (seen w.job) w.outcome (stock_with t w (set w.hand f.x.place id))
  stock =
      come_stock HasRightCredit HasCredit rights t.localities w.job.kind w.job.at w.job.state (plain w.job.action) w.outcome laws few fit.state fit.action.sent.shape fit.credit
      fit.action.sent.credit (made_of t w.outcome) are.kinds are.credit k.split.made now.hand w.places t.profile.credit_log k.split.kinds k.split.places k.split.rest k.its.hand log are.logs
      k.split.own (λ p lt h. has_come t.profile.credit_log now.refused (id_at now.hand p) (given t.here t.localities t.profile.credit_log now k.its k.split none_left p lt)
      (waits_managed HasRightCredit HasCredit rights t.localities w.job.kind w.job.at w.job.state (plain w.job.action) w.outcome laws few fit.state fit.action.sent.shape fit.credit
      fit.action.sent.credit (made_of t w.outcome) are.kinds are.credit k.split.made now.hand w.places t.profile.credit_log k.split.kinds k.split.places k.split.rest k.its.hand p lt h)
      (k.split.short p lt h) none_refused)

  hand_is : set w.hand f.x.place id ≡ hand_with id entry w
  hand_is = sym (ap (put_for w.hand id) f.found)

  ready_stock : IsStock t (seen w.job) w.outcome (stock_with t w (hand_with id entry w))
  ready_stock = subst (λ xs. IsStock t (seen w.job) w.outcome (stock_with t w xs)) hand_is stock

  ready_long : length (ids_named w) + length (made_of t w.outcome) ≤ length (hand_with id entry w)
  ready_long = subst (λ (xs : List Id). length (ids_named w) + length (made_of t w.outcome) ≤ length xs) hand_is
      (come_long HasRightCredit HasCredit rights t.localities w.job.kind w.job.at w.job.state (plain w.job.action) w.outcome laws few fit.state fit.action.sent.shape fit.credit
      fit.action.sent.credit (made_of t w.outcome) are.kinds are.credit k.split.made now.hand w.places t.profile.credit_log k.split.kinds k.split.places k.split.rest k.its.hand)

  ready_short : length (hand_with id entry w) ≤ 1024
  ready_short = subst (λ (xs : List Id). length xs ≤ 1024) hand_is
      (come_short HasRightCredit HasCredit rights t.localities w.job.kind w.job.at w.job.state (plain w.job.action) w.outcome laws few fit.state fit.action.sent.shape fit.credit
      fit.action.sent.credit (made_of t w.outcome) are.kinds are.credit k.split.made now.hand w.places t.profile.credit_log k.split.kinds k.split.places k.split.rest k.its.hand)

  pub is_ready : IsStockReady t w (hand_with id entry w)
  is_ready = record { stock = ready_stock; long = ready_long; short = ready_short }

-- ---- as the call finds it

pub last_is : (id : Id) (w : Waits) (log : ℕ) (one : Bool) → log ≡ log_of id.log → one ≡ waits_for_one w → (log ≡ 0 → ⊥) → one ≡ true → is_last id (Some w) ≡ true
last_is id w log one l e other is = ap (λ b. not b && waits_for_one w) (ne_eqb (log_of id.log) 0 (λ z. other (l ∙ z))) ∙ (sym e ∙ is)

pub brings_by : (t : Tables) (id : Id) → brings_right t id ≡ true → (log_of id.log ≡ 0) ⊎ (log_of id.log ≡ t.profile.credit_log)
brings_by t id h = elim (cases_Bool (log_of id.log == 0)) [
  | inl a ↦ inl (eqb-true (log_of id.log) 0 a)
  | inr b ↦ inr (eqb-true (log_of id.log) t.profile.credit_log (rw b at h))
]
