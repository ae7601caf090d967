-- Only the session prints, and it stands at 0.
use Rattle.std.proofs.Common.{ℕ, true, false, cond, List, [], ◌∷◌, ◌++◌, ◌≡◌, ◌≢◌, refl, sym, ap, ◌∙◌, subst, inl, inr, map}
use Rattle.std.specs.Prelude.{◌==◌, codes}
use Rattle.std.proofs.lemmas.Bool.{eq-eqb, ne_eqb, cases_eq}
use Rattle.hpx_value.specs.Hands.{Slot, answer, own_slot}
use Rattle.hpx_journal.specs.Data.{Act, Fault, Due, MessageDue, PrintDue}
use Rattle.hpx_journal.specs.Entries.{Rules, target_of}
use Rattle.hpx_patient.specs.Data.{Name, Event, Done, Entry, Local}
use Rattle.hpx_journal.specs.Local.{after, is_standing, failure}
use Rattle.hpx_journal.specs.Rows.{Row, Runs}
use Rattle.hpx_journal.specs.Whole.{Space, step, run, at_place, MayStand, IsLegalFrom, IsLegal, part, replayed}
use Rattle.hpx_journal.specs.Laws.{HasGrammar, KeepsActLaws}
use Rattle.hpx_journal.specs.Pool.{prints_due, prints_by, prints_of}
use Rattle.hpx_journal.proofs.Bags.{find-passes}
use Rattle.hpx_journal.proofs.Formed.{keeps, target_console}
use Rattle.hpx_journal.proofs.Fronts.{legal_front, legal_rest}
use Rattle.hpx_journal.proofs.PoolSound.{IsQuietly, prints_stay, done_prints}
use Rattle.hpx_journal.proofs.Same.{same_object-true}
use Rattle.hpx_journal.proofs.SlotsWhole.{IsSlotted, place_of, slotted_run, start_slotted}
use Rattle.hpx_journal.proofs.Start.{first, start_whole, legal_whole}
use Rattle.hpx_journal.proofs.Wholes.{IsWhole, whole_step, at_same, at_other}

append_empty : {X : Type 0} (xs ys : List X) → xs ++ ys ≡ [] → (xs ≡ []) × (ys ≡ [])
append_empty [] ys h = (refl, h)
append_empty (x ∷ xs) ys h = cc

-- ---- a failure prints for the session alone

answers_print : (slots : List Slot) (rest : List Due)
    → prints_due (map (λ x. MessageDue (answer [] x (Fault 5))) slots ++ rest) ≡ prints_due rest
answers_print [] rest = refl
answers_print (x ∷ slots) rest = answers_print slots rest

failure_silent : (act : Act) → (target_of act).kind ≢ 1 → prints_due (failure act) ≡ []
failure_silent act other =
    answers_print (own_slot act.ids act.cont) (cond ((target_of act).kind == 1) (PrintDue (codes "error: credit limit\n") ∷ []) [])
    ∙ ap (λ b. prints_due (cond b (PrintDue (codes "error: credit limit\n") ∷ []) [])) (ne_eqb (target_of act).kind 1 other)

-- ---- elsewhere than at 0 nothing is printed

abbrev IsMute : Local → Event → Rules → Type 0
IsMute s e r = (prints_by e ≡ []) × (prints_due (after r s e).due ≡ [])

mute_by : (r : Rules) (s : Local) (e : Event) → Row r s e → IsQuietly e → prints_due s.due ≡ [] → IsMute s e r
mute_by r s e row still none = append_empty (prints_by e) (prints_due (after r s e).due) (prints_stay r s e row still ∙ none)

module _ (r : Rules) (grammar : HasGrammar r) (laws : KeepsActLaws r) (w : Space) (whole : IsWhole r w) (slotted : IsSlotted r w) (e : Entry)
    (ok : MayStand r w e) (away : e.at ≢ 0) where
  abbrev here : Local
  here = w.places e.at

  -- no session is acted on here
  other_target : (a : Name) (x : Runs here a) → x.target.object.kind ≢ 1
  other_target a x one =
      away (sym (whole.here e.at) ∙ (target_console r grammar laws here (place_of r w whole e.at ok.place) (slotted.settled e.at) a x one).1)

  failed_mute : (a : Name) (x : Runs here a) → prints_due (after r here (Done a true)).due ≡ []
  unfolding after
  failed_mute a x =
      rw x.fired (failure_silent x.act (λ one.
      other_target a x (sym (ap (λ y. y.kind) (same_object-true (target_of x.act) x.target.object
      (find-passes (is_standing (target_of x.act)) here.objects x.target x.stands))) ∙ one)))

  mute_after : (v : Event) → Row r here v → prints_due here.due ≡ [] → IsMute here v r
  mute_after (Done a false) row none = (
    refl,
    done_prints r here a row.0.act row.0.target row.0.fired row.0.stands
        ∙ (keeps r grammar laws here (place_of r w whole e.at ok.place) (slotted.settled e.at) a row.0).few.session (other_target a row.0),
  )
  mute_after (Done a true) row none = (refl, failed_mute a row.0)
  mute_after v row none = mute_by r here v row tt none

-- ---- over a whole journal

abbrev AreMute : Space → Type 0
AreMute w = (k : ℕ) → k ≢ 0 → prints_due (w.places k).due ≡ []

pub part_first : (e : Entry) (es : List Entry) → e.at ≡ 0 → part 0 (e ∷ es) ≡ e ∷ part 0 es
part_first e es h = rw (eq-eqb e.at 0 h) refl

pub part_skips : (e : Entry) (es : List Entry) → e.at ≢ 0 → part 0 (e ∷ es) ≡ part 0 es
part_skips e es h = rw (ne_eqb e.at 0 h) refl

module _ (r : Rules) (grammar : HasGrammar r) (laws : KeepsActLaws r) where
  mute_step : (w : Space) (e : Entry) → IsWhole r w → IsSlotted r w → MayStand r w e → AreMute w → AreMute (step r w e)
  unfolding step
  mute_step w e whole slotted ok mute k away = elim (cases_eq e.at k) [
    | inl same ↦
        let d : e.at ≢ 0 = λ z. away (sym same ∙ z) in
        let now = (mute_after r grammar laws w whole slotted e ok d e.event ok.allowed.row (mute e.at d)).1 in
        subst (λ j. prints_due (at_place w.places e.at (after r (w.places e.at) e.event) j).due ≡ []) same
        (ap (λ s. prints_due s.due) (at_same w.places e.at (after r (w.places e.at) e.event)) ∙ now)
    | inr other ↦ ap (λ s. prints_due s.due) (at_other w.places e.at (after r (w.places e.at) e.event) k other) ∙ mute k away
  ]

  prints_from : (w : Space) (es : List Entry) → IsWhole r w → IsSlotted r w → AreMute w → IsLegalFrom r w es → prints_of es ≡ prints_of (part 0 es)
  prints_from w [] whole slotted mute legal = refl
  prints_from w (e ∷ es) whole slotted mute legal =
      let rest : prints_of es ≡ prints_of (part 0 es) =
      prints_from (step r w e) es (whole_step r w e whole legal.0) (slotted_run r grammar laws w (e ∷ []) whole slotted (legal.0, tt))
      (mute_step w e whole slotted legal.0 mute) legal.1 in
      elim (cases_eq e.at 0) [
        | inl same ↦ ap (λ ps. prints_by e.event ++ ps) rest ∙ ap prints_of (sym (part_first e es same))
        | inr other ↦
            ap (λ ps. ps ++ prints_of es) (mute_after r grammar laws w whole slotted e legal.0 other e.event legal.0.allowed.row (mute e.at other)).0
            ∙ (rest ∙ ap prints_of (sym (part_skips e es other)))
      ]

  mute_run : (w : Space) (es : List Entry) → IsWhole r w → IsSlotted r w → AreMute w → IsLegalFrom r w es → AreMute (run r w es)
  mute_run w [] whole slotted mute legal = mute
  mute_run w (e ∷ es) whole slotted mute legal =
      mute_run (step r w e) es (whole_step r w e whole legal.0) (slotted_run r grammar laws w (e ∷ []) whole slotted (legal.0, tt))
      (mute_step w e whole slotted legal.0 mute) legal.1

  -- of what is written behind other entries too
  pub prints_behind : (before es : List Entry) → IsLegal r (before ++ es) → prints_of es ≡ prints_of (part 0 es)
  prints_behind before es legal =
      let front : IsLegal r before = legal_front r (first r) before es legal in
      prints_from (replayed r before) es (legal_whole r before front) (slotted_run r grammar laws (first r) before (start_whole r) (start_slotted r) front)
      (mute_run (first r) before (start_whole r) (start_slotted r) (λ k away. refl) front) (legal_rest r (first r) before es legal)

  pub legal_prints : (es : List Entry) → IsLegal r es → prints_of es ≡ prints_of (part 0 es)
  legal_prints es legal = prints_from (first r) es (start_whole r) (start_slotted r) (λ k away. refl) legal
