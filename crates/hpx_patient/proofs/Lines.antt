-- Lines that are not done are at locality 0, where they stay.
use Rattle.std.proofs.Common.{ℕ, Bool, true, false, cond, List, [], ◌∷◌, ◌≡◌, ◌≢◌, ◌≤◌, refl, sym, ap, ◌∙◌, subst, arith, inl, inr, map}
use Rattle.std.specs.Prelude.{◌==◌, ◌&&◌, codes}
use Rattle.std.specs.List.{find, sum_by, AllByRecursion}
use Rattle.std.proofs.lemmas.List.Sums.{sum_by-cons, sum_by-append}
use Rattle.std.proofs.lemmas.Bool.{ne_eqb, cases_eq}
use Rattle.hpx_value.specs.Ids.{same_object}
use Rattle.hpx_value.specs.Values.{message_of}
use Rattle.hpx_value.specs.declared.outcome.Sending.{Sending}
use Rattle.hpx_value.specs.declared.outcome.Reply.{Reply}
use Rattle.hpx_value.specs.Hands.{Slot, session, id_at, own_slot, answer, sent, replied}
use Rattle.hpx_value.specs.Riders.{plain, plain_message}
use Rattle.hpx_value.proofs.Riders.{plain_code, plain_target}
use Rattle.hpx_journal.specs.Data.{Id, State, Act, Fault, MessageDue, PrintDue}
use Rattle.hpx_journal.specs.Entries.{Rules, target_of}
use Rattle.hpx_journal.specs.Frames.{acts_in}
use Rattle.hpx_journal.specs.Local.{after, is_act, due_left, failure, outcome}
use Rattle.hpx_journal.specs.Rows.{Row}
use Rattle.hpx_journal.specs.Whole.{Space, step, run, at_place, IsLegal, IsLegalFrom, MayStand, replayed}
use Rattle.hpx_journal.specs.Laws.{HasGrammar, KeepsActLaws}
use Rattle.hpx_journal.specs.Pool.{act_mass, due_mass, mass_at, mass, sent_by}
use Rattle.hpx_journal.proofs.Mass.{messages, brings, departs, due_messages, messages-due}
use Rattle.hpx_journal.proofs.SlotsWhole.{IsSlotted, slotted_run, start_slotted}
use Rattle.hpx_journal.proofs.Start.{first, start_whole}
use Rattle.hpx_journal.proofs.Wholes.{IsWhole, whole_step, at_same, at_other}
use Rattle.hpx_patient.specs.Data.{Event, Line, Done, Out, Entry, Local}
use Rattle.hpx_patient.specs.Lines.{is_line, line_count, SendsNoLine, LinesStay}
use Rattle.hpx_patient.proofs.Claims.{AreLawful, mass_goes, done_due}
use Rattle.hpx_patient.proofs.Awaited.{lawful_at, mass_step, start_mass}
use Rattle.hpx_patient.proofs.Prints.{part_first, part_skips}

-- ---- a line as its target sees it is one

plain_line : (act : Act) → is_line (plain_message (message_of act)) ≡ is_line (message_of act)
plain_line act =
    ap (λ (c : ℕ). (c == 4) && same_object session (id_at (plain act).ids 0)) (plain_code act)
    ∙ ap (λ (o : Id). (act.code == 4) && same_object session o) (plain_target act)

no_line : (act : Act) → is_line (message_of act) ≡ false → act_mass line_count act ≡ 0
no_line act h = ap (λ (b : Bool). cond {A = ℕ} b 1 0) (plain_line act ∙ h)

no_lines : (acts : List Act) → AllByRecursion (λ act. is_line (message_of act) ≡ false) acts → sum_by (act_mass line_count) acts ≡ 0
no_lines [] h = refl
no_lines (act ∷ acts) h = omega (arith, no_line act h.0, no_lines acts h.1, sum_by-cons (act_mass line_count) act acts)

stays_here : (r : Rules) (e : Event) → SendsNoLine r e → sum_by (act_mass line_count) (departs r e) ≡ 0
stays_here r (Out to bytes) h = no_lines (acts_in (r.parcel_of bytes)) h
stays_here r _ h = refl

-- ---- no outcome and no failure sends one

module _ (s : State) (a : Act) (made : List Id) where
  sends_lines : (sends : List Sending) → AllByRecursion (λ x. (x.code ≢ 3) × (x.code ≢ 4)) sends
      → sum_by line_count (map (sent s a made) sends) ≡ 0
  sends_lines [] h = refl
  sends_lines (x ∷ sends) h =
      let none : line_count (sent s a made x) ≡ 0 = rw (ne_eqb x.code 4 h.0.1) refl in
      omega (arith, none, sends_lines sends h.1, sum_by-cons line_count (sent s a made x) (map (sent s a made) sends))

  replies_lines : (replies : List Reply) → sum_by line_count (map (replied s a made) replies) ≡ 0
  replies_lines [] = refl
  replies_lines (x ∷ replies) =
      omega (arith, replies_lines replies, sum_by-cons line_count (replied s a made x) (map (replied s a made) replies))

failed_lines : (slots : List Slot) → sum_by (due_mass line_count) (map (λ y. MessageDue (answer [] y (Fault 5))) slots) ≡ 0
failed_lines [] = refl
failed_lines (y ∷ slots) =
    omega (
      arith,
      failed_lines slots,
      sum_by-cons (due_mass line_count) (MessageDue (answer [] y (Fault 5))) (map (λ z. MessageDue (answer [] z (Fault 5))) slots),
    )

failed_print : (b : Bool) → sum_by (due_mass line_count) (cond b (PrintDue (codes "error: credit limit\n") ∷ []) []) ≡ 0
failed_print true = refl
failed_print false = refl

failure_lines : (act : Act) → sum_by line_count (messages (failure act)) ≡ 0
failure_lines act =
    omega (
      arith,
      due_messages line_count (failure act),
      sum_by-append (due_mass line_count) (map (λ y. MessageDue (answer [] y (Fault 5))) (own_slot act.ids act.cont))
          (cond ((target_of act).kind == 1) (PrintDue (codes "error: credit limit\n") ∷ []) []),
      failed_lines (own_slot act.ids act.cont),
      failed_print ((target_of act).kind == 1),
    )

-- elsewhere than at 0 no entry brings one
brings_lines : (r : Rules) (s : Local) → AreLawful r s → s.here ≢ 0 → (e : Event) → Row r s e → sum_by line_count (brings r s e) ≡ 0
brings_lines r s lawful away (Line a bytes) row = absurd (away row.0)
brings_lines r s lawful away (Done a true) row =
    ap (λ o. sum_by line_count (messages (due_left r s true o))) row.0.fired ∙ failure_lines row.0.act
brings_lines r s lawful away (Done a false) row =
    let run = row.0 in
    let act = run.act in
    let y = run.target in
    let out = outcome r s act y in
    let law = (lawful a run).0 in
    let due : sum_by line_count (messages (due_left r s false (find (is_act a) s.fired)))
    ≡ sum_by line_count (sent_by (message_of (plain act)) y.state s.fresh out) =
    ap (λ d. sum_by line_count (messages d)) (done_due r s a act y run.fired run.stands)
    ∙ ap (sum_by line_count) (messages-due y.state (plain act) s.fresh out law.moves.codes) in
    omega (
      arith,
      due,
      sends_lines y.state (plain act) s.fresh out.sends law.moves.codes,
      replies_lines y.state (plain act) s.fresh out.replies,
      sum_by-append line_count (map (sent y.state (plain act) s.fresh) out.sends) (map (replied y.state (plain act) s.fresh) out.replies),
    )
brings_lines r s lawful away _ row = refl

-- ---- all lines that are not done are at 0

abbrev AreHere : Rules → Space → Type 0
AreHere r w = mass r line_count w ≤ mass_at line_count (w.places 0)

stay_rest : (r : Rules) (e : Entry) (es : List Entry) → LinesStay r (e ∷ es) → LinesStay r es
stay_rest r e es h = elim (cases_eq e.at 0) [
  | inl same ↦ (subst (AllByRecursion (λ x. SendsNoLine r x.event)) (part_first e es same) h).1
  | inr other ↦ subst (AllByRecursion (λ x. SendsNoLine r x.event)) (part_skips e es other) h
]

stay_first : (r : Rules) (e : Entry) (es : List Entry) → e.at ≡ 0 → LinesStay r (e ∷ es) → SendsNoLine r e.event
stay_first r e es same h = (subst (AllByRecursion (λ x. SendsNoLine r x.event)) (part_first e es same) h).0

here_step : (r : Rules) (w : Space) (e : Entry) (es : List Entry) → IsWhole r w → AreLawful r (w.places e.at) → MayStand r w e → LinesStay r (e ∷ es)
    → AreHere r w → AreHere r (step r w e)
unfolding step
here_step r w e es whole lawful ok stay here =
    let s : Local = w.places e.at in
    let m = mass_step r w e ok line_count in
    elim (cases_eq e.at 0) [
      | inl same ↦
          let now : at_place w.places e.at (after r s e.event) 0 ≡ after r s e.event =
          subst (λ j. at_place w.places e.at (after r s e.event) j ≡ after r s e.event) same (at_same w.places e.at (after r s e.event)) in
          let before : mass_at line_count (w.places 0) ≡ mass_at line_count s = ap (λ j. mass_at line_count (w.places j)) (sym same) in
          omega (
            arith,
            here,
            m,
            before,
            ap (mass_at line_count) now,
            mass_goes r s e.event ok.allowed.row ok.allowed.turn line_count,
            stays_here r e.event (stay_first r e es same stay),
          )
      | inr other ↦
          omega (
            arith,
            here,
            m,
            ap (mass_at line_count) (at_other w.places e.at (after r s e.event) 0 other),
            brings_lines r s lawful (λ z. other (sym (whole.here e.at) ∙ z)) e.event ok.allowed.row,
          )
    ]

module _ (r : Rules) (grammar : HasGrammar r) (laws : KeepsActLaws r) where
  here_run : (w : Space) (es : List Entry) → IsWhole r w → IsSlotted r w → IsLegalFrom r w es → LinesStay r es → AreHere r w → AreHere r (run r w es)
  here_run w [] whole slotted legal stay here = here
  here_run w (e ∷ es) whole slotted legal stay here =
      here_run (step r w e) es (whole_step r w e whole legal.0) (slotted_run r grammar laws w (e ∷ []) whole slotted (legal.0, tt)) legal.1
      (stay_rest r e es stay)
      (here_step r w e es whole (lawful_at r grammar laws w e whole slotted legal.0) legal.0 stay here)

  pub legal_lines : (es : List Entry) → IsLegal r es → LinesStay r es
      → mass r line_count (replayed r es) ≤ mass_at line_count ((replayed r es).places 0)
  legal_lines es legal stay =
      here_run (first r) es (start_whole r) (start_slotted r) legal stay (omega (arith, start_mass r line_count))
