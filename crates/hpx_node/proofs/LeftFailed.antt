-- What an action leaves that fails: its object keeps its state and has its credits again, and the rest is due or given up.
use Rattle.hpx_node.proofs.Common.{AllByRecursion, Asked, Bool, HasCredit, HasRightCredit, HasSplit, Id, IsCommit, IsFitDue, IsFitJob, IsKept, IsLeftFailed, IsMovable, IsPlace, List, Standing, State, Waits, [], action_ids, ap, arith, bare, bare_alone, bare_due, bare_state, both_right, both_same, cond, count_by, due_failed, due_left, fail_deals, failed_fit, failed_remains, false, had_right, halves_ahead, id_at, ids_named, is_asked, is_managed, is_some, length, length-map, map, no_ids, not, plain, refl, seen, state_filled, state_left, sym, take, true, ups_have, ℕ, ◌&&◌, ◌<◌, ◌==◌, ◌∙◌, ◌≡◌}
use Rattle.hpx_commit.proofs.Failed.{due_bare}
use Rattle.hpx_node.proofs.HandLeft.{HasLeft, has_left}
use Rattle.hpx_node.proofs.Planned.{due_credit, may_be_due, none_of, rights}
use Rattle.hpx_node.proofs.Seen.{failure_plain, fit_seen}

-- what was asked for was given
none_left : (p : ℕ) (asked : List Asked) (b : Bool) → asked ≡ [] → count_by (λ (x : Asked). x.place == p) asked ≡ cond b 1 0 → b ≡ false
none_left p asked true none h = absurd (omega (arith, h, ap (count_by (λ (x : Asked). x.place == p)) none))
none_left p asked false none h = refl

module _ (k n log : ℕ) (w : Waits) (its : IsCommit k n w) (split : HasSplit log w) (none : w.asked ≡ []) where
  pub given : (p : ℕ) → p < length (ids_named w) → is_asked (id_at w.hand p) ≡ false
  given p lt = none_left p w.asked (is_asked (id_at w.hand p)) none (its.once p lt)

  fit : IsFitJob (seen w.job)
  fit = fit_seen w.job its.job

  left : HasLeft w w.hand
  left = has_left log w w.hand its.job split refl

  credits : AllByRecursion HasRightCredit (state_left w).ids × AllByRecursion HasRightCredit (action_ids w.job.state (plain w.job.action) w.hand)
  credits = both_right HasRightCredit HasCredit rights w.job.state (plain w.job.action) w.outcome fit.credit fit.action.sent.credit w.hand split.made split.kinds
      (none_of split.made split.bare) split.within split.rest its.hand split.own (λ p lt. has_some (is_managed (id_at w.hand p)) (is_some (id_at w.hand p).log) (given p lt))
    where
      has_some : (b c : Bool) → (b && not c) ≡ false → b ≡ true → c ≡ true
      has_some true true e t = refl
      has_some true false e t = absurd (cc)
      has_some false c e t = absurd (cc)

  names : (map bare (state_left w).ids ≡ map bare w.job.state.ids) × (map bare (action_ids w.job.state (plain w.job.action) w.hand) ≡ map bare (plain w.job.action).ids)
  names = both_same HasRightCredit HasCredit rights w.job.state (plain w.job.action) w.outcome fit.credit fit.action.sent.credit w.hand split.made split.kinds
      (none_of split.made split.bare) split.within split.rest its.hand

  fits : AllByRecursion IsFitDue (due_left w)
  fits = failed_fit HasRightCredit HasCredit rights (λ ids args. IsMovable ids × IsPlace args) IsFitDue may_be_due (λ bytes. tt)
      (action_ids w.job.state (plain w.job.action) w.hand) (plain w.job.action).cont credits.1

  module _ (x : Standing) (kept : IsKept x) (state : x.state ≡ bare_state w.job.state) where
    keeps_none : x.object.kind ≡ 7 → (w.job.state.values ≡ []) × (w.job.state.conts ≡ [])
    keeps_none e = (ap (λ (s : State). s.values) (sym state) ∙ (kept.plain e).0, ap (λ (s : State). s.conts) (sym state) ∙ (kept.plain e).1)

    pub left_failed : IsLeftFailed w x (failed_remains w)
    left_failed = record {
      says = ap (λ ids. record { drawn = w.job.state.drawn; values = w.job.state.values; conts = w.job.state.conts; ids = ids }) names.0;
      leaves = due_bare bare_due (λ m. refl) (λ bytes. refl) (action_ids w.job.state (plain w.job.action) w.hand) (plain w.job.action).cont
          ∙ (ap (λ xs. due_failed xs (plain w.job.action).cont) names.1 ∙ failure_plain w.job.action its.job.action.sent.shape);
      kept = record {
        kind = kept.kind;
        state = state_filled w.job.state (state_left w).ids
            (omega (arith, ap (λ (ids : List Id). length ids) names.0, length-map (state_left w).ids bare, length-map w.job.state.ids bare)) its.job.state;
        plain = keeps_none;
      };
      plain = λ e.
          let no : w.job.state.ids ≡ [] = no_ids w.job.state its.job.state (keeps_none e).0 (keeps_none e).1 in
          let ids : (state_left w).ids ≡ w.job.state.ids = ap (λ (ids : List Id). take (length ids) w.hand) no ∙ sym no in
          ap (λ ids. record { drawn = w.job.state.drawn; values = w.job.state.values; conts = w.job.state.conts; ids = ids }) ids
          ∙ (sym (bare_alone w.job.state no) ∙ sym state);
      credit = credits.0;
      fits = fits;
      given_up = ups_have HasRightCredit HasCredit rights w.job.state (plain w.job.action) (length w.outcome.makes) w.hand credits.1 left.halves;
      deals = fail_deals w.job.state (plain w.job.action) (length w.outcome.makes) w.hand credits.0 credits.1
          (had_right HasRightCredit HasCredit rights (halves_ahead w.job.state (plain w.job.action) (length w.outcome.makes) w.hand) left.halves)
          (due_credit (due_left w) fits)
          left.later;
    }
