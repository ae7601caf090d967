-- A failure is planned before the last id is in the hand.
use Rattle.hpx_node.proofs.Common.{Asked, Id, IsFailure, IsPaused, IsTidy, Job, KeepsLaws, List, None, Option, Outcome, Plan, Refills, Some, Tables, Waits, [], action_ids, all_found, ap, arith, drop, drop-set-lt, due_failed, find, hand_long, hand_with, ids_named, is_asked_for, length, length-append, length-set, loose_left, plain, put_for, refl, rider_few, rider_of, set, slice_get, some_same, state_failed, subst, sym, ups_failed, ups_left, with_credit, ℕ, ◌++◌, ◌+◌, ◌<◌, ◌∙◌, ◌≡◌, ◌≤◌}
use Rattle.hpx_node.proofs.HandLeft.{HasLeft, has_left}
use Rattle.hpx_node.proofs.Paused.{commit_of, paused_at}

module _ (t : Tables) (i : ℕ) (w : Waits) (id : Id) (entry : ℕ) (tidy : IsTidy t []) (there : slice_get t.pending i ≡ Some w) where
  paused : IsPaused t.here t.localities t.profile.credit_log t.objects w
  paused = paused_at t i w tidy there

  -- the id stands among those that are named
  put_long : (o : Option Asked) → length (put_for w.hand id o) ≡ length w.hand
  put_long None = refl
  put_long (Some ask) = length-set w.hand ask.place id

  put_rest : (o : Option Asked) → find (is_asked_for w id entry) w.asked ≡ o → drop (length (ids_named w)) (put_for w.hand id o) ≡ drop (length (ids_named w)) w.hand
  put_rest None e = refl
  put_rest (Some ask) e = drop-set-lt (length (ids_named w)) w.hand ask.place id
      (all_found (λ (x : Asked). x.place < length (ids_named w)) (is_asked_for w id entry) w.asked ask paused.within e)

  left : HasLeft w (hand_with id entry w)
  left = has_left t.profile.credit_log w (hand_with id entry w) paused.job paused.split (put_rest (find (is_asked_for w id entry) w.asked) refl)

  pub plan_long : length w.job.state.ids + length (plain w.job.action).ids + length w.outcome.makes ≤ length (hand_with id entry w)
  plan_long = left.long
      (omega (arith, put_long (find (is_asked_for w id entry) w.asked), hand_long t.here t.localities w (commit_of t.here t.localities t.profile.credit_log t.objects w paused)))

  pub plan_limit : (n : ℕ) → KeepsLaws n w.job.kind w.job.at w.job.state (plain w.job.action) w.outcome → length (ups_left (record w { hand = hand_with id entry w })) ≤ 228
  plan_limit n laws = omega (arith, left.limit n laws, rider_few w.job.action, length-append (with_credit (rider_of w.job.action)) (loose_left (record w { hand = hand_with id entry w })))

-- it is that of the commit once the id is in its hand
pub failure_then : (w w' : Waits) (id : Id) (entry : ℕ) (p : Plan) → Refills id entry w w' → IsFailure (record w { hand = hand_with id entry w }) p → IsFailure w' p
failure_then w w' id entry p refills is =
    let hand : hand_with id entry w ≡ set w.hand refills.ask.place id = ap (put_for w.hand id) refills.first in
    subst (λ v. IsFailure v p) (sym refills.now) (record {
      state = is.state ∙ ap (λ ids. state_failed w.job.state ids) hand;
      due = is.due ∙ ap (λ ids. due_failed (action_ids w.job.state (plain w.job.action) ids) (plain w.job.action).cont) hand;
      ups = is.ups ∙ ap (λ ids. with_credit (rider_of w.job.action) ++ ups_failed w.job.state (plain w.job.action) (length w.outcome.makes) ids) hand;
    })

-- ---- as the call does it

module _ (pending : List Waits) (i : ℕ) (v : Waits) (id : Id) (entry : ℕ) (job : Job) (out : Outcome) (hand : List Id) (p : Plan)
    (there : slice_get pending i ≡ Some v) (is_job : job ≡ v.job) (is_out : out ≡ v.outcome) (is_hand : hand ≡ hand_with id entry v)
    (ups : p.ups.items ≡ with_credit (rider_of job.action) ++ ups_failed job.state (plain job.action) (length out.makes) hand) where
  ups_are : p.ups.items ≡ ups_left (record v { hand = hand_with id entry v })
  ups_are =
      ups
      ∙ (ap (λ (j : Job). with_credit (rider_of j.action) ++ ups_failed j.state (plain j.action) (length out.makes) hand) is_job
      ∙ (ap (λ (o : Outcome). with_credit (rider_of v.job.action) ++ ups_failed v.job.state (plain v.job.action) (length o.makes) hand) is_out
      ∙ ap (λ ids. with_credit (rider_of v.job.action) ++ ups_failed v.job.state (plain v.job.action) (length v.outcome.makes) ids) is_hand))

  pub failure_is : p.state ≡ state_failed job.state hand → p.due.items ≡ due_failed (action_ids job.state (plain job.action) hand) (plain job.action).cont
      → (w : Waits) → slice_get pending i ≡ Some w → IsFailure (record w { hand = hand_with id entry w }) p
  failure_is state due w at =
      subst (λ (u : Waits). IsFailure (record u { hand = hand_with id entry u }) p) (some_same v w (sym there ∙ at)) (record {
        state = state ∙ (ap (λ (j : Job). state_failed j.state hand) is_job ∙ ap (λ ids. state_failed v.job.state ids) is_hand);
        due = due
            ∙ (ap (λ (j : Job). due_failed (action_ids j.state (plain j.action) hand) (plain j.action).cont) is_job
            ∙ ap (λ ids. due_failed (action_ids v.job.state (plain v.job.action) ids) (plain v.job.action).cont) is_hand);
        ups = ups_are;
      })

  pub failure_few : length (ups_left (record v { hand = hand_with id entry v })) ≤ 228 → length p.ups.items ≤ 256
  failure_few few = omega (arith, few, ap (λ (ids : List Id). length ids) ups_are)
