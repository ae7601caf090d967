-- Over all localities and the road each slot is claimed once.
use Rattle.std.proofs.Common.{ℕ, Bool, true, false, cond, List, [], ◌∷◌, ◌≡◌, ◌≢◌, ◌+◌, ◌<◌, ◌≤◌, Option, Some, None, refl, sym, ap, ◌∙◌, subst, arith, inl, inr, lit≤}
use Rattle.std.specs.Prelude.{◌==◌, ◌&&◌, nat_le, pos}
use Rattle.std.specs.List.{find, sum_by, AllByRecursion}
use Rattle.std.proofs.lemmas.Bool.{cases_eq, eqb-true}
use Rattle.hpx_value.specs.Ids.{same_object}
use Rattle.hpx_value.specs.Hands.{Slot, session}
use Rattle.hpx_value.specs.Shapes.{IsState}
use Rattle.hpx_journal.specs.Data.{Int}
use Rattle.hpx_journal.specs.Bags.{total}
use Rattle.hpx_journal.specs.Entries.{Entry, Standing, Rules}
use Rattle.hpx_journal.specs.Local.{Local, boot, is_standing, after}
use Rattle.hpx_journal.specs.Foreign.{kept}
use Rattle.hpx_journal.specs.Slots.{state_claims, claims, frame_claims, claims_in}
use Rattle.hpx_journal.specs.Whole.{Space, step, run, IsLegal, IsLegalFrom, MayStand, at_place, replayed}
use Rattle.hpx_journal.specs.Laws.{HasGrammar, KeepsActLaws, IsFormed, IsFormedOrFresh}
use Rattle.hpx_journal.specs.Roots.{root, roots, roots_of_first}
use Rattle.hpx_journal.proofs.Alls.{all-append}
use Rattle.hpx_journal.proofs.Bags.{total-single, total-le, total-term, total-zero}
use Rattle.hpx_journal.proofs.Same.{same_object-true}
use Rattle.hpx_journal.proofs.Bools.{false_from}
use Rattle.hpx_journal.proofs.Objects.{born}
use Rattle.hpx_journal.proofs.Wholes.{IsWhole, whole_step, total_moves, road_moves, at_same, at_other}
use Rattle.hpx_journal.proofs.Joined.{born_le, born_away, born_late, born_at_home, one_object}
use Rattle.hpx_journal.proofs.Formed.{IsConsole, IsSettled, IsPlace, keeps, act_formed, target_console, settled_after}
use Rattle.hpx_journal.proofs.Claims.{claimed, budget, opened_here, claims_move}
use Rattle.hpx_journal.proofs.Start.{first, start_whole, legal_whole, roots_all, zero_all}

-- what the whole knows of each locality
pub place_of : (r : Rules) (w : Space) → IsWhole r w → (k : ℕ) → k < r.localities → IsPlace r (w.places k)
place_of r w whole k h = record {
  here = subst (λ j. j < r.localities) (sym (whole.here k)) h;
  once = λ o managed. omega (arith, one_object r w whole o managed, total-term r.localities (λ j. kept o (w.places j)) k h);
  unborn = λ o managed home late.
      let at : o.home ≡ k = home ∙ whole.here k in
      let none : born o (w.places o.home) ≡ 0 =
      ap (λ j. born o (w.places j)) at ∙ born_late o (w.places k).here (w.places k).number (inr late) in
      omega (arith, whole.objects o managed, born_at_home r w whole o, total-term r.localities (λ j. kept o (w.places j)) k h);
  stand = (whole.sane k).stand;
}

pub record IsSlotted (r : Rules) (w : Space) : Type 0 where
  pub settled : (k : ℕ) → IsSettled (w.places k)
  pub paid : (x : Slot) → total r.localities (λ k. claimed x (w.places k)) + sum_by (frame_claims r x) w.road
      ≤ total r.localities (λ k. budget x (w.places k))

module _ (r : Rules) (grammar : HasGrammar r) (laws : KeepsActLaws r) (w : Space) (e : Entry) (whole : IsWhole r w)
    (slotted : IsSlotted r w) (ok : MayStand r w e) where
  here : IsPlace r (w.places e.at)
  here = place_of r w whole e.at ok.place

  paid_step : (x : Slot) → total r.localities (λ k. claimed x ((step r w e).places k)) + sum_by (frame_claims r x) (step r w e).road
      ≤ total r.localities (λ k. budget x ((step r w e).places k))
  unfolding step
  paid_step x =
      let s : Local = w.places e.at in
      let known = slotted.settled e.at in
      omega (
        arith,
        slotted.paid x,
        claims_move r s (λ a run. (keeps r grammar laws s here known a run, target_console r grammar laws s here known a run, act_formed r grammar laws s here known a run))
            e.event ok.allowed.turn ok.allowed.row e.at x,
        total_moves r.localities (claimed x) w.places e.at (after r s e.event) ok.place,
        total_moves r.localities (budget x) w.places e.at (after r s e.event) ok.place,
        road_moves (frame_claims r x) w.road e ok.road,
      )

  settled_step : (k : ℕ) → IsSettled ((step r w e).places k)
  unfolding step
  settled_step k = elim (cases_eq e.at k) [
    | inl same ↦
        subst (λ j. IsSettled (at_place w.places e.at (after r (w.places e.at) e.event) j)) same
        (subst IsSettled (sym (at_same w.places e.at (after r (w.places e.at) e.event)))
        (settled_after r grammar laws (w.places e.at) here (slotted.settled e.at) e.event ok.allowed.turn ok.allowed.row))
    | inr other ↦ subst IsSettled (sym (at_other w.places e.at (after r (w.places e.at) e.event) k other)) (slotted.settled k)
  ]

  slotted_step : IsSlotted r (step r w e)
  slotted_step = record { settled = settled_step; paid = paid_step }

pub slotted_run : (r : Rules) → HasGrammar r → KeepsActLaws r → (w : Space) (es : List Entry) → IsWhole r w → IsSlotted r w → IsLegalFrom r w es
    → IsSlotted r (run r w es)
slotted_run r grammar laws w [] whole slotted h = slotted
slotted_run r grammar laws w (e ∷ es) whole slotted h =
    slotted_run r grammar laws (step r w e) es (whole_step r w e whole h.0) (slotted_step r grammar laws w e whole slotted h.0) h.1

-- ---- what is claimed was opened, once

opened_le_at : (a b : Bool) → cond a (cond b 1 0) 0 ≤ 1
opened_le_at true true = omega arith
opened_le_at true false = omega arith
opened_le_at false b = omega arith

opened_le : (x : Slot) (y : Option Standing) → opened_here x y ≤ 1
opened_le x None = omega arith
opened_le x (Some y) = opened_le_at (same_object x.object session && same_object session y.object) _

budget_le_at : (b : Bool) (m n : ℕ) → m ≤ 1 → n ≤ 1 → cond b m n ≤ 1
budget_le_at true m n h i = h
budget_le_at false m n h i = i

home_of : Bool → Slot → ℕ
home_of true x = x.object.home
home_of false x = 0

-- elsewhere than at 0 no session stands
no_session : (here : ℕ) (xs : List Standing) → here ≢ 0 → AllByRecursion (IsConsole here) xs → find (is_standing session) xs ≡ None
no_session here [] d h = refl
no_session here (x ∷ xs) d h =
    let other : same_object session x.object ≡ false =
    false_from (same_object session x.object) (λ t.
    let e : session.kind ≡ x.object.kind = ap (λ y. y.kind) (same_object-true session x.object t) in
    d (h.0 (sym e)).1) in
    rw other (no_session here xs d h.1)

module _ (r : Rules) (w : Space) (whole : IsWhole r w) (slotted : IsSlotted r w) (x : Slot) where
  budget_away : (b : Bool) → nat_le 16 x.object.kind ≡ b → (k : ℕ) → k ≢ home_of b x → budget x (w.places k) ≡ 0
  unfolding home_of
  budget_away true t k d = rw t (born_away x.object (w.places k).here (w.places k).number (λ e. d (sym (whole.here k) ∙ e)))
  budget_away false t k d =
      rw t (ap (opened_here x) (no_session (w.places k).here (w.places k).objects (λ e. d (sym (whole.here k) ∙ e)) (slotted.settled k).console))

  pub once_slotted : claims_in r x w ≤ 1
  once_slotted =
      let h : ℕ = home_of (nat_le 16 x.object.kind) x in
      let s : Local = w.places h in
      omega (
        arith,
        slotted.paid x,
        total-single r.localities (λ k. budget x (w.places k)) h (budget_away (nat_le 16 x.object.kind) refl),
        budget_le_at (nat_le 16 x.object.kind) _ _ (born_le x.object s.here s.number) (opened_le x (find (is_standing session) s.objects)),
        total-le r.localities (λ k. claims x (w.places k)) (λ k. claimed x (w.places k)) (λ k h. omega arith),
      )

-- ---- at boot

empty_root : (k kind : ℕ) → IsState (root k kind []).state
empty_root k kind = record {
  values = record { few = lit≤ tt; each = tt };
  refs = tt;
  conts = tt;
  ids = refl;
  few = lit≤ tt;
  short = lit≤ tt;
}

number_root : (n k kind : ℕ) → IsState (root k kind (Int (pos n) ∷ [])).state
number_root n k kind = record {
  values = record { few = lit≤ tt; each = (tt, tt) };
  refs = tt;
  conts = tt;
  ids = refl;
  few = lit≤ tt;
  short = lit≤ tt;
}

first_formed : (n : ℕ) (b : Bool) → AllByRecursion (IsFormedOrFresh []) (cond b (roots_of_first n) [])
first_formed n true = (inr (empty_root 0 1), (inr (empty_root 0 2), (inr (number_root n 0 4), tt)))
first_formed n false = tt

roots_formed : (n k : ℕ) → AllByRecursion (IsFormedOrFresh []) (roots n k)
roots_formed n k =
    all-append (IsFormedOrFresh []) (cond (k == 0) (roots_of_first n) []) (root k 3 [] ∷ root k 5 [] ∷ root k 7 [] ∷ [])
    (first_formed n (k == 0)) (inr (empty_root k 3), (inr (empty_root k 5), (inr (empty_root k 7), tt)))

first_console : (n k : ℕ) (b : Bool) → (k == 0) ≡ b → AllByRecursion (IsConsole k) (cond b (roots_of_first n) [])
first_console n k true e = (
  λ one. (refl, eqb-true k 0 e),
  ((λ one. absurd (omega arith)), ((λ one. absurd (omega arith)), tt)),
)
first_console n k false e = tt

roots_console : (n k : ℕ) → AllByRecursion (IsConsole k) (roots n k)
roots_console n k =
    all-append (IsConsole k) (cond (k == 0) (roots_of_first n) []) (root k 3 [] ∷ root k 5 [] ∷ root k 7 [] ∷ [])
    (first_console n k (k == 0) refl) (
      (λ one. absurd (omega arith)),
      ((λ one. absurd (omega arith)), ((λ one. absurd (omega arith)), tt)),
    )

boot_settled : (n k : ℕ) → IsSettled (boot (roots n k) k)
boot_settled n k = record {
  formed = record { objects = roots_formed n k; travels = tt; waiting = tt; fired = tt; done = tt; due = tt };
  old = tt;
  console = roots_console n k;
}

roots_unclaimed : (n k : ℕ) (x : Slot) → sum_by (λ y. state_claims x y.state) (roots n k) ≡ 0
roots_unclaimed n k x =
    zero_all (λ y. state_claims x y.state) (roots n k) (roots_all (λ y. state_claims x y.state ≡ 0) (λ j kind values small. refl) n k)

module _ (r : Rules) where
  pub start_slotted : IsSlotted r (first r)
  start_slotted = record {
    settled = λ k. boot_settled r.localities k;
    paid = λ x. omega (
      arith,
      total-zero r.localities (λ k. claimed x ((first r).places k)) (λ k h. omega (arith, roots_unclaimed r.localities k x)),
    );
  }

  module _ (grammar : HasGrammar r) (laws : KeepsActLaws r) (es : List Entry) (legal : IsLegal r es) where
    legal_slotted : IsSlotted r (replayed r es)
    legal_slotted = slotted_run r grammar laws (first r) es (start_whole r) start_slotted legal

    pub legal_formed : (k : ℕ) → IsFormed ((replayed r es).places k)
    legal_formed k = (legal_slotted.settled k).formed

    pub legal_slots : (x : Slot) → claims_in r x (replayed r es) ≤ 1
    legal_slots x = once_slotted r (replayed r es) (legal_whole r es legal) legal_slotted x
