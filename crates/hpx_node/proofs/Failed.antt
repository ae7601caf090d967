-- An action fails, as the call writes it.
use Rattle.hpx_node.proofs.Common.{AllByRecursion, Done, Due, Entry, Fails, HasCredit, Id, IsFailure, IsFitDue, IsKept, List, MustFail, OnlyLeaves, Plan, Some, Standing, Tables, Waits, Writes, [], action_ids, action_of, all_append, answered_by, ap, append_assoc, arith, at_all, due_left, failed_events, failed_few, get_set, length, length-append, loose_left, name_of, option_map, plain, remove, rider_has, rider_of, set, slice_get, slice_get_less, some_same, state_left, subst, sym, true, ups, ups_left, with_credit, with_left, written_due, ℕ, ◌++◌, ◌+◌, ◌∙◌, ◌∷◌, ◌≡◌, ◌≤◌}
use Rattle.hpx_node.proofs.FewEntries.{at_all_length}
use Rattle.hpx_node.proofs.PlanWeights.{ups_few, written_few}

module _ (t : Tables) (i j : ℕ) (must : MustFail i j t) (p : Plan) (plan : (w : Waits) → slice_get t.pending i ≡ Some w → IsFailure w p) where
  is : IsFailure must.commit p
  is = plan must.commit must.there

  pub plan_due : AllByRecursion IsFitDue p.due.items
  plan_due = subst (AllByRecursion IsFitDue) (sym is.due) must.left.fits

  pub plan_ups : AllByRecursion HasCredit p.ups.items
  plan_ups = subst (AllByRecursion HasCredit) (sym is.ups) (all_append HasCredit (with_credit (rider_of must.commit.job.action)) (loose_left must.commit)
      (rider_has must.commit.job.action must.job.action.sent.shape must.job.action.sent.credit) must.left.given_up)

  pub plan_few : length p.due.items ≤ 2
  plan_few = subst (λ (xs : List Due). length xs ≤ 2) (sym is.due) (failed_few (action_ids must.commit.job.state (plain must.commit.job.action) must.commit.hand) (plain must.commit.job.action).cont)

  pub plan_kept : (x : Standing) → slice_get t.objects j ≡ Some x → IsKept (record { object = x.object; state = p.state })
  plan_kept x there =
      subst (λ (y : Standing). IsKept (record { object = y.object; state = p.state })) (some_same must.standing x (sym must.stands ∙ there))
      (subst (λ s. IsKept (record { object = must.standing.object; state = s })) (sym is.state) must.left.kept)

  module _ (t1 : Tables) (pending : t1.pending ≡ remove t.pending i)
      (objects : (x : Standing) → slice_get t.objects j ≡ Some x → t1.objects ≡ set t.objects j (record { object = x.object; state = p.state }))
      (rest : t1 ≡ record t { pending = t1.pending; objects = t1.objects; answered = t.answered + answered_by (option_map action_of (slice_get t.pending i)) }) where
    abbrev more : ℕ
    more = t.answered + answered_by (Some must.commit.job.action)

    now_is : t1 ≡ record t { pending = remove t.pending i; objects = set t.objects j (record { object = must.standing.object; state = state_left must.commit }); answered = more }
    now_is = rest ∙ rw (must.there, pending, objects must.standing must.stands, is.state)

    -- its object has its state again
    pub failed_there : slice_get t1.objects j ≡ Some (record { object = must.standing.object; state = p.state })
    failed_there = ap (λ os. slice_get os j) (objects must.standing must.stands)
        ∙ get_set t.objects j (record { object = must.standing.object; state = p.state }) (slice_get_less t.objects j must.standing must.stands)

    module _ (t2 : Tables) (goes : (y : Standing) → slice_get t1.objects j ≡ Some y → t2 ≡ with_left p.due.items p.ups.items t1) (sends : OnlyLeaves t1 t2) where
      pub then_fails : Fails i j t t2
      then_fails = record {
        commit = must.commit;
        there = must.there;
        standing = must.standing;
        stands = must.stands;
        found = must.found;
        rest = goes _ failed_there ∙ rw (is.due, is.ups) (ap (with_left (due_left must.commit) (ups_left must.commit)) now_is);
      }

      module _ (e0 e1 e2 : List Entry) (done : (v : Waits) → slice_get t.pending i ≡ Some v → e1 ≡ e0 ++ at_all t.here (Done (name_of v.job.action) true ∷ []))
          (paid : (y : Standing) → slice_get t1.objects j ≡ Some y → e2 ≡ e1 ++ at_all t1.here (written_due t1.here t1.serial p.due.items ++ ups p.ups.items)) where
        all : e2 ≡ e0 ++ at_all t.here (failed_events t must.commit)
        all =
            paid _ failed_there ∙ (ap (λ (x : Tables). e1 ++ at_all x.here (written_due x.here x.serial p.due.items ++ ups p.ups.items)) now_is
            ∙ (ap (λ ds. e1 ++ at_all t.here (written_due t.here t.serial ds ++ ups p.ups.items)) is.due
            ∙ (ap (λ us. e1 ++ at_all t.here (written_due t.here t.serial (due_left must.commit) ++ ups us)) is.ups
            ∙ (ap (λ es. es ++ at_all t.here (written_due t.here t.serial (due_left must.commit) ++ ups (ups_left must.commit))) (done must.commit must.there)
            ∙ append_assoc e0 (at_all t.here (Done (name_of must.commit.job.action) true ∷ []))
            (at_all t.here (written_due t.here t.serial (due_left must.commit) ++ ups (ups_left must.commit)))))))

        pub then_writes : (v : Waits) → slice_get t.pending i ≡ Some v → Writes (failed_events t v) t t2 e0 e2
        then_writes v at = record {
          here = ap (λ (x : Tables). x.here) sends ∙ ap (λ (x : Tables). x.here) rest;
          localities = ap (λ (x : Tables). x.localities) sends ∙ ap (λ (x : Tables). x.localities) rest;
          profile = ap (λ (x : Tables). x.profile) sends ∙ ap (λ (x : Tables). x.profile) rest;
          grows = all ∙ ap (λ (u : Waits). e0 ++ at_all t.here (failed_events t u)) (some_same must.commit v (sym must.there ∙ at));
        }

        pub then_few : length p.ups.items ≤ 256 → length e2 ≤ length e0 + 259
        then_few few = omega (
          arith,
          few,
          ap (λ es. length es) all,
          length-append e0 (at_all t.here (failed_events t must.commit)),
          at_all_length t.here (failed_events t must.commit),
          length-append (written_due t.here t.serial (due_left must.commit)) (ups (ups_left must.commit)),
          written_few t.here t.serial (due_left must.commit),
          ups_few (ups_left must.commit),
          failed_few (action_ids must.commit.job.state (plain must.commit.job.action) must.commit.hand) (plain must.commit.job.action).cont,
          ap (λ (us : List Id). length us) is.ups,
        )
