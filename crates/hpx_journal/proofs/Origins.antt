-- Each action comes from a locality that there is.
use Rattle.std.proofs.Common.{ℕ, List, ◌≡◌, ◌+◌, ◌<◌, ◌≤◌, sym, ap, ◌∙◌, arith, inl, inr}
use Rattle.std.specs.List.{sum_by, count_by, AllByRecursion}
use Rattle.std.proofs.lemmas.Bool.{cases_lt}
use Rattle.hpx_journal.specs.Bags.{total}
use Rattle.hpx_journal.specs.Data.{Act}
use Rattle.hpx_journal.specs.Entries.{Name, Frame, Rules, name_of}
use Rattle.hpx_journal.specs.Frames.{acts_in}
use Rattle.hpx_journal.specs.Local.{is_act}
use Rattle.hpx_journal.specs.Foreign.{present}
use Rattle.hpx_journal.specs.Whole.{Space}
use Rattle.hpx_journal.specs.Natives.{EachAct}
use Rattle.hpx_journal.proofs.Alls.{all-map}
use Rattle.hpx_journal.proofs.Bags.{total-term, total-zero}
use Rattle.hpx_journal.proofs.Keys.{one_if}
use Rattle.hpx_journal.proofs.Same.{same_name-refl}
use Rattle.hpx_journal.proofs.Moves.{act_counts}
use Rattle.hpx_journal.proofs.Present.{frame_acts, drawn}
use Rattle.hpx_journal.proofs.Wholes.{IsWhole}
use Rattle.hpx_journal.proofs.Joined.{drawn_away}
use Rattle.hpx_journal.proofs.Credited.{among}

module _ (r : Rules) (w : Space) (whole : IsWhole r w) where
  abbrev everywhere : Name → ℕ
  everywhere a = total r.localities (λ k. present a (w.places k)) + sum_by (frame_acts r a) w.road

  -- what is anywhere was drawn at its origin
  drawn_below : (a : Name) → 1 ≤ everywhere a → a.origin < r.localities
  drawn_below a some = elim (cases_lt a.origin r.localities) [
    | inl h ↦ h
    | inr h ↦
        let none : total r.localities (λ k. drawn a (w.places k)) ≡ 0 =
        total-zero r.localities (λ k. drawn a (w.places k))
        (λ k i. drawn_away a (w.places k).here (w.places k).serial (λ e. let t : k ≡ a.origin = sym (whole.here k) ∙ e in absurd (omega arith))) in
        absurd (omega (arith, whole.single a))
  ]

  each_below : (acts : List Act) → ((a : Name) → count_by (is_act a) acts ≤ everywhere a) → AllByRecursion (λ act. act.origin < r.localities) acts
  each_below acts few =
      all-map (λ act. (g : Act → ℕ) → g act ≤ sum_by g acts) (λ act. act.origin < r.localities)
      (λ act h. let one : act_counts (name_of act) act ≡ 1 = ap one_if (same_name-refl (name_of act)) in
      drawn_below (name_of act) (omega (arith, h (act_counts (name_of act)), few (name_of act)))) acts (among acts)

  here_acts : (k : ℕ) → k < r.localities → (a : Name) → present a (w.places k) ≤ everywhere a
  here_acts k h a = omega (arith, total-term r.localities (λ j. present a (w.places j)) k h)

  pub each_origin : EachAct r (λ act. act.origin < r.localities) w
  each_origin = record {
    waiting = λ k h. each_below (w.places k).waiting (λ a. omega (arith, here_acts k h a));
    fired = λ k h. each_below (w.places k).fired (λ a. omega (arith, here_acts k h a));
    road = all-map (λ f. (g : Frame → ℕ) → g f ≤ sum_by g w.road) (λ f. AllByRecursion (λ act. act.origin < r.localities) (acts_in (r.parcel_of f.1)))
        (λ f h. each_below (acts_in (r.parcel_of f.1)) (λ a. omega (arith, h (frame_acts r a)))) w.road (among w.road);
  }
