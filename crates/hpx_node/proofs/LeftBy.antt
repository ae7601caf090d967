-- What a commit leaves that is planned.
use Rattle.hpx_node.proofs.Common.{Act, HasCredit, HasRightCredit, IsFitDue, IsFitJob, IsKept, IsLeftBy, IsPlanned, IsStock, Job, KeepsLaws, Outcome, Standing, State, Stock, Tables, [], ap, bare, bare_act, bare_alone, bare_due, bare_state, due_with, halved_from, length, made_of, map, message_of, named, no_ids, plain, plain_bare, plan_deals, remains, rules_of, seen, state_after, state_dealt, sym, ℕ, ◌∙◌, ◌≡◌, ◌≤◌}
use Rattle.hpx_commit.proofs.BareHands.{blind_of}
use Rattle.hpx_node.proofs.Planned.{due_credit, planned_of}

module _ (t : Tables) (job : Job) (out : Outcome) (fit : IsFitJob job) (few : t.localities ≤ 64)
    (laws : KeepsLaws t.localities job.kind job.at job.state job.action out) (s : Stock) (is : IsStock t job out s)
    (x : Standing) (kept : IsKept x) (kind : x.object.kind ≡ job.kind) (state : x.state ≡ bare_state job.state) where
  plan : IsPlanned HasRightCredit HasCredit IsFitDue bare_due job.kind job.state job.action (made_of t out) out s
  plan = planned_of t job out fit few laws s is

  -- a plain object keeps nothing
  keeps_none : x.object.kind ≡ 7 → (job.state.values ≡ []) × (job.state.conts ≡ [])
  keeps_none e = (ap (λ (s : State). s.values) (sym state) ∙ (kept.plain e).0, ap (λ (s : State). s.conts) (sym state) ∙ (kept.plain e).1)

  pub kept_then : IsKept (record { object = x.object; state = state_dealt t job out s })
  kept_then = record {
    kind = kept.kind;
    state = plan.state_fit;
    plain = λ e. let none = keeps_none e in
        let now = plan.plain (sym kind ∙ e) none.0 none.1 in (now.values, now.conts);
  }

-- what a commit leaves, whose action is seen without its rider
module _ (t : Tables) (job : Job) (out : Outcome) (fit : IsFitJob (seen job)) (few : t.localities ≤ 64)
    (laws : KeepsLaws t.localities job.kind job.at job.state (plain job.action) out) (s : Stock) (is : IsStock t (seen job) out s)
    (x : Standing) (kept : IsKept x) (kind : x.object.kind ≡ job.kind) (state : x.state ≡ bare_state job.state) where
  its : IsPlanned HasRightCredit HasCredit IsFitDue bare_due job.kind job.state (plain job.action) (made_of t out) out s
  its = plan t (seen job) out fit few laws s is x kept kind state

  pub left_by : (act_of : ℕ → ℕ → ℕ → State → Act → Outcome)
      → ((n kind here : ℕ) (s : State) (a : Act) → act_of n kind here s a ≡ act_of n kind here (bare_state s) (named 0 0 (message_of (bare_act a))))
      → out ≡ act_of t.localities job.kind job.at job.state (plain job.action) → job.at ≡ t.here
      → IsLeftBy (rules_of act_of t.localities t.profile) t.here job out x (halved_from (length s.hand) 0 s).hand (map bare (made_of t out)) (remains t (seen job) out s)
  left_by act_of blind right at = record {
    right = right
        ∙ (sym (blind_of (act_of t.localities job.kind job.at) (blind t.localities job.kind job.at) job.state (plain job.action))
        ∙ (ap (λ k. act_of t.localities k job.at (bare_state job.state) (bare_act (plain job.action))) (sym kind)
        ∙ (ap (λ k. act_of t.localities x.object.kind k (bare_state job.state) (bare_act (plain job.action))) at
        ∙ (ap (λ u. act_of t.localities x.object.kind t.here u (bare_act (plain job.action))) (sym state)
        ∙ ap (act_of t.localities x.object.kind t.here x.state) (sym (plain_bare job.action))))));
    says = its.state_left ∙ (ap (λ u. state_after u (bare_act (plain job.action)) (map bare (made_of t out)) out) (sym state)
        ∙ ap (λ a. state_after x.state a (map bare (made_of t out)) out) (sym (plain_bare job.action)));
    leaves = its.due_left ∙ (ap (λ u. due_with u (bare_act (plain job.action)) (map bare (made_of t out)) out) (sym state)
        ∙ ap (λ a. due_with x.state a (map bare (made_of t out)) out) (sym (plain_bare job.action)));
    kept = kept_then t (seen job) out fit few laws s is x kept kind state;
    plain = λ e. let none = keeps_none t (seen job) out fit few laws s is x kept kind state e in
        (its.plain (sym kind ∙ e) none.0 none.1).same ∙ (sym (bare_alone job.state (no_ids job.state fit.state none.0 none.1)) ∙ sym state);
    credit = its.state_has;
    fits = its.due_may;
    given_up = its.ups_has;
    deals = plan_deals s.hand s.places (state_after job.state (plain job.action) (made_of t out) out) (due_with job.state (plain job.action) (made_of t out) out) is.names.within
        is.credit its.state_had (due_credit (due_with job.state (plain job.action) (made_of t out) out) its.due_had) its.deals its.names;
  }
