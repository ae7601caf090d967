-- Over all localities and the road: the answers that the session has had and the claims on it are no more than the slots that
-- it drew.
use Rattle.std.proofs.Common.{ℕ, false, List, [], ◌∷◌, ◌≡◌, ◌≢◌, ◌+◌, ◌-◌, ◌<◌, ◌≤◌, None, refl, sym, ap, ◌∙◌, arith}
use Rattle.std.specs.Prelude.{◌==◌}
use Rattle.std.specs.List.{find, sum_by, AllByRecursion}
use Rattle.std.proofs.lemmas.List.Sums.{sum_by-cons}
use Rattle.std.proofs.lemmas.Bool.{eq-eqb}
use Rattle.hpx_value.specs.Ids.{same_object}
use Rattle.hpx_value.specs.Hands.{session}
use Rattle.hpx_journal.specs.Bags.{total}
use Rattle.hpx_journal.specs.Data.{Message}
use Rattle.hpx_journal.specs.Entries.{Rules}
use Rattle.hpx_journal.specs.Local.{after, boot, is_standing}
use Rattle.hpx_journal.specs.Roots.{roots}
use Rattle.hpx_journal.specs.Whole.{Space, step, run, IsLegal, IsLegalFrom, MayStand, replayed}
use Rattle.hpx_journal.specs.Laws.{HasGrammar, KeepsActLaws}
use Rattle.hpx_journal.specs.Pool.{Pool, Shows, mass_at, frame_mass, mass}
use Rattle.hpx_journal.proofs.Bags.{total-single, total-term, total-zero}
use Rattle.hpx_journal.proofs.Bools.{false_from}
use Rattle.hpx_journal.proofs.Formed.{IsConsole, keeps, act_formed, target_console}
use Rattle.hpx_journal.proofs.Mass.{brings, ends}
use Rattle.hpx_journal.proofs.PoolWhole.{sends_mass, arrives_mass}
use Rattle.hpx_journal.proofs.Same.{same_object-true}
use Rattle.hpx_journal.proofs.SlotsWhole.{IsSlotted, place_of, slotted_run, start_slotted}
use Rattle.hpx_journal.proofs.Start.{first, start_whole, roots_all, zero_all, legal_whole}
use Rattle.hpx_journal.proofs.Wholes.{IsWhole, whole_step, total_moves, road_moves}
use Rattle.hpx_patient.specs.Data.{Entry, Standing, Local}
use Rattle.hpx_patient.specs.Claims.{session_claims, drawn_by, drawn_at, answered_at, awaited_at}
use Rattle.hpx_patient.proofs.Hand.{kept_claims}
use Rattle.hpx_patient.proofs.Claims.{AreLawful, state_keeps, kept_at, frame_keeps, claims_move, mass_goes, is_drawn}

-- ---- one step

-- what the laws of actions say of a commit at the locality of an entry
pub lawful_at : (r : Rules) → HasGrammar r → KeepsActLaws r → (w : Space) (e : Entry) → IsWhole r w → IsSlotted r w → MayStand r w e
    → AreLawful r (w.places e.at)
lawful_at r grammar laws w e whole slotted ok a x =
    let here = place_of r w whole e.at ok.place in
    let known = slotted.settled e.at in (
      keeps r grammar laws (w.places e.at) here known a x,
      target_console r grammar laws (w.places e.at) here known a x,
      act_formed r grammar laws (w.places e.at) here known a x,
    )

-- the messages that are not done, where an action fails too
pub mass_step : (r : Rules) (w : Space) (e : Entry) → MayStand r w e → (f : Message → ℕ)
    → mass r f (step r w e) + sum_by f (ends (w.places e.at) e.event) ≡ mass r f w + sum_by f (brings r (w.places e.at) e.event)
unfolding step
mass_step r w e ok f =
    omega (
      arith,
      mass_goes r (w.places e.at) e.event ok.allowed.row ok.allowed.turn f,
      total_moves r.localities (mass_at f) w.places e.at (after r (w.places e.at) e.event) ok.place,
      road_moves (frame_mass r f) w.road e ok.road,
      sends_mass r f e.event,
      arrives_mass r f e.at e.event,
    )

pub record IsPaid (r : Rules) (w : Space) : Type 0 where
  pub paid : total r.localities (λ k. kept_at (w.places k)) + sum_by (frame_keeps r) w.road + mass r session_claims w
      ≤ total r.localities (λ k. drawn_at (w.places k))

paid_step : (r : Rules) (w : Space) (e : Entry) → AreLawful r (w.places e.at) → MayStand r w e → IsPaid r w → IsPaid r (step r w e)
unfolding step
paid_step r w e lawful ok old = record {
  paid =
      let s : Local = w.places e.at in
      omega (
        arith,
        old.paid,
        mass_step r w e ok session_claims,
        claims_move r s lawful e.event ok.allowed.row e.at,
        total_moves r.localities kept_at w.places e.at (after r s e.event) ok.place,
        total_moves r.localities drawn_at w.places e.at (after r s e.event) ok.place,
        road_moves (frame_keeps r) w.road e ok.road,
      );
}

-- ---- from boot on

paid_run : (r : Rules) → HasGrammar r → KeepsActLaws r → (w : Space) (es : List Entry) → IsWhole r w → IsSlotted r w → IsLegalFrom r w es
    → IsPaid r w → IsPaid r (run r w es)
paid_run r grammar laws w [] whole slotted legal paid = paid
paid_run r grammar laws w (e ∷ es) whole slotted legal paid =
    paid_run r grammar laws (step r w e) es (whole_step r w e whole legal.0)
    (slotted_run r grammar laws w (e ∷ []) whole slotted (legal.0, tt)) legal.1
    (paid_step r w e (lawful_at r grammar laws w e whole slotted legal.0) legal.0 paid)

roots_keep : (n k : ℕ) → state_keeps (roots n k) ≡ 0
roots_keep n k =
    zero_all (λ x. kept_claims x.state) (roots n k) (roots_all (λ x. kept_claims x.state ≡ 0) (λ j kind values small. refl) n k)

pub start_mass : (r : Rules) (f : Message → ℕ) → mass r f (first r) ≡ 0
start_mass r f = omega (arith, total-zero r.localities (λ k. mass_at f (boot (roots r.localities k) k)) (λ k h. refl))

start_paid : (r : Rules) → IsPaid r (first r)
start_paid r = record {
  paid = omega (
    arith,
    start_mass r session_claims,
    total-zero r.localities (λ k. kept_at ((first r).places k)) (λ k h. omega (arith, roots_keep r.localities k)),
  );
}

-- ---- elsewhere than at 0 no session stands

no_session : (here : ℕ) (xs : List Standing) → here ≢ 0 → AllByRecursion (IsConsole here) xs → find (is_standing session) xs ≡ None
no_session here [] d h = refl
no_session here (x ∷ xs) d h =
    let other : same_object session x.object ≡ false =
    false_from (same_object session x.object) (λ t.
    let e : session.kind ≡ x.object.kind = ap (λ y. y.kind) (same_object-true session x.object t) in
    d (h.0 (sym e)).1) in
    rw other (no_session here xs d h.1)

drawn_away : (r : Rules) (w : Space) → IsWhole r w → IsSlotted r w → (k : ℕ) → k ≢ 0 → drawn_at (w.places k) ≡ 0
drawn_away r w whole slotted k away =
    ap drawn_by (no_session (w.places k).here (w.places k).objects (λ e. away (sym (whole.here k) ∙ e)) (slotted.settled k).console)

module _ (r : Rules) (grammar : HasGrammar r) (laws : KeepsActLaws r) where
  paid_here : (w : Space) → 0 < r.localities → IsWhole r w → IsSlotted r w → IsPaid r w
      → answered_at (w.places 0) + mass r session_claims w ≤ drawn_at (w.places 0)
  paid_here w some whole slotted paid =
      omega (
        arith,
        paid.paid,
        total-single r.localities (λ k. drawn_at (w.places k)) 0 (drawn_away r w whole slotted),
        total-term r.localities (λ k. kept_at (w.places k)) 0 some,
      )

  pub legal_slotted : (es : List Entry) → IsLegal r es → IsSlotted r (replayed r es)
  legal_slotted es legal = slotted_run r grammar laws (first r) es (start_whole r) (start_slotted r) legal

  pub legal_claims : (es : List Entry) → IsLegal r es
      → answered_at ((replayed r es).places 0) + mass r session_claims (replayed r es) ≤ drawn_at ((replayed r es).places 0)
  legal_claims [] legal = omega (arith, start_mass r session_claims)
  legal_claims (e ∷ es) legal =
      paid_here (replayed r (e ∷ es)) (omega (arith, legal.0.place)) (legal_whole r (e ∷ es) legal) (legal_slotted (e ∷ es) legal)
      (paid_run r grammar laws (first r) (e ∷ es) (start_whole r) (start_slotted r) legal (start_paid r))

  -- ---- where no answer is awaited

  awaits_none : (s : Local) → s.here ≡ 0 → awaited_at s ≡ 0 → drawn_at s ≤ answered_at s
  awaits_none s here h = omega (arith, h, is_drawn (s.here == 0) (drawn_at s - answered_at s) (eq-eqb s.here 0 here))

  pub legal_unclaimed : (es : List Entry) → IsLegal r es → awaited_at ((replayed r es).places 0) ≡ 0 → mass r session_claims (replayed r es) ≡ 0
  legal_unclaimed es legal none =
      omega (arith, legal_claims es legal, awaits_none ((replayed r es).places 0) ((legal_whole r es legal).here 0) none)

  none-sum : {X : Type 0} (f : X → ℕ) (xs : List X) → sum_by f xs ≡ 0 → AllByRecursion (λ x. f x ≡ 0) xs
  none-sum f [] h = tt
  none-sum f (x ∷ xs) h = let s = sum_by-cons f x xs in (omega arith, none-sum f xs (omega arith))

  pub legal_pending : (es : List Entry) (p : Pool) (out : List (List ℕ)) → IsLegal r es → Shows r (replayed r es) p out
      → awaited_at ((replayed r es).places 0) ≡ 0 → AllByRecursion (λ m. session_claims m ≡ 0) p.pending
  legal_pending es p out legal shows none =
      none-sum session_claims p.pending (sym (shows.pending session_claims) ∙ legal_unclaimed es legal none)
