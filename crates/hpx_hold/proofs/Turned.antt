-- Steps, counted: what the journal has of them, and what is so where no more can be made.
use Rattle.std.specs.Prelude.{Result, Ok, Err, Some, None}
use Rattle.std.proofs.Common.{ℕ, List, [], ◌∷◌, ◌++◌, ◌≡◌, ◌≤◌, ◌⊎◌, Option, length, refl, sym, ap, subst, ◌∙◌, inl, inr, append-nil}
use Rattle.std.specs.List.{count_by, sum_by}
use Rattle.std.specs.Result.{IsErrAnd}
use Rattle.hpx_value.specs.declared.acts.Acts.{Ghosts}
use Rattle.hpx_value.specs.declared.profile.Profile.{Profile}
use Rattle.hpx_journal.specs.Entries.{Frame, Rules, same_frame}
use Rattle.hpx_journal.specs.Laws.{outs, ins}
use Rattle.hpx_journal.specs.Weights.{HasRoom}
use Rattle.hpx_journal.specs.Whole.{IsCarried, replayed}
use Rattle.hpx_journal.proofs.Grow.{run_road}
use Rattle.hpx_journal.proofs.Quiet.{legal_road_empty}
use Rattle.hpx_journal.proofs.Start.{first}
use Rattle.hpx_part.specs.Data.{Entry}
use Rattle.hpx_ports.specs.declared.fabric.Wire.{Wire}
use Rattle.hpx_ports.specs.declared.fabric.Wire.TheVariants.{Sent, Delivered}
use Rattle.hpx_tables.specs.Tables.{Tables}
use Rattle.hpx_steps.specs.Rest.{rules_of}
use Rattle.hpx_world.specs.declared.turns.WorldFault.{WorldFault}
use Rattle.hpx_world.specs.declared.turns.WorldFault.TheVariants as faults
use Rattle.hpx_world.specs.Away.{IsCarrying, arrived_in, road_of, sent_in}
use Rattle.hpx_world.specs.Quiet.{IsQuiet, IsAtRest, NothingApplies, NoneRuns}
use Rattle.hpx_world.specs.Refusals.{RefusedStep}
use Rattle.hpx_world.specs.Sound.{Meaning, IsSound}
use Rattle.hpx_world.specs.Stages.{Stage}
use Rattle.hpx_world.specs.Steps.{AreSteps}
use Rattle.hpx_world.proofs.Counts.{sent_all, taken_all}
use Rattle.hpx_world.proofs.Next.{under}
use Rattle.hpx_world.proofs.Rested.{quiet_rests}
use Rattle.hpx_world.proofs.Settled.{held_quiet}
use Rattle.hpx_world.proofs.Sound.{sound_legal, spells_well}
use Rattle.hpx_world.proofs.Turned.{AreLawful}
use Rattle.hpx_hold.specs.Room.{TellsRoom}
use Rattle.hpx_hold.specs.Turns.{MakesTurns, RefusedTurns}
use Rattle.hpx_hold.proofs.Stepped.{steps_add}

-- so many steps lead from one stage to another
pub record StepsTo (act_of : Meaning) (made : ℕ) (x z : Stage) : Type 0 where
  pub between : List Stage
  pub steps : AreSteps act_of x between z
  pub count : length between ≡ made

-- ---- where no more can be made

-- a trace of frames that were sent, and of frames that arrived
abbrev told : List (ℕ × Frame) → List Frame → List Wire
told [] [] = []
told [] (frame ∷ frames) = Delivered frame.0 frame.1 ∷ told [] frames
told (frame ∷ frames) came = Sent frame.0 frame.1.0 frame.1.1 ∷ told frames came

sent_told : (sent : List (ℕ × Frame)) (came : List Frame) → sent_in (told sent came) ≡ sent
sent_told [] [] = refl
sent_told [] (frame ∷ frames) = sent_told [] frames
sent_told (frame ∷ frames) came = ap (λ fs. frame ∷ fs) (sent_told frames came)

arrived_told : (sent : List (ℕ × Frame)) (came : List Frame) → arrived_in (told sent came) ≡ came
arrived_told [] [] = refl
arrived_told [] (frame ∷ frames) = ap (λ fs. frame ∷ fs) (arrived_told [] frames)
arrived_told (frame ∷ frames) came = arrived_told frames came

none_in : (xs : List Frame) → ◌≡◌ {A = Option (List Frame)} (Some []) (Some xs) → xs ≡ []
none_in xs e = cc

-- where each frame that was accepted had been sent, and as many were accepted as sent, it is as if a fabric had told
module _ (act_of : Meaning) (profile : Profile) (nodes : List Tables) (es : List Entry) (sound : IsSound act_of profile nodes es)
    (carried : IsCarried (rules_of act_of (length nodes) profile) [] es) (taken : sum_by (λ t. t.taken) nodes ≡ sum_by (λ t. t.sent) nodes) where
  abbrev r : Rules
  r = rules_of act_of (length nodes) profile

  bare : road_of es ≡ []
  bare = sym (run_road r (first r) es)
      ∙ legal_road_empty r es (sound_legal act_of profile nodes es sound carried)
      (sym (taken_all act_of profile nodes es sound carried) ∙ (taken ∙ sent_all act_of profile nodes es sound carried))

  as_told : IsCarrying r None (Some []) (Some (told (outs es) (ins es))) es
  as_told = record {
    frames = [];
    wires = told (outs es) (ins es);
    flight_is = refl;
    trace_is = refl;
    carried = carried;
    bag = λ f. ap (λ xs. count_by (same_frame f) xs) bare;
    sent = sent_told (outs es) (ins es);
    arrived = arrived_told (outs es) (ins es) ∙ sym (append-nil (ins es));
  }

module _ (act_of : Meaning) (profile : Profile) (nodes : List Tables) (es : List Entry) (sound : IsSound act_of profile nodes es)
    (n : ℕ) (p : Profile) (count : length nodes ≡ n) (same : profile ≡ p) (h : Option Frame) where
  -- nothing is to be done
  pub idle_quiet : (fl : Option (List Frame)) → AreLawful act_of → IsCarried (rules_of act_of n p) [] es → sum_by (λ t. t.taken) nodes ≡ sum_by (λ t. t.sent) nodes
      → NothingApplies nodes h fl → NoneRuns nodes → IsQuiet nodes h
  idle_quiet fl laws carried taken idle none =
      let carried' = subst (λ m. IsCarried (rules_of act_of m profile) [] es) (sym count) (subst (λ q. IsCarried (rules_of act_of n q) [] es) (sym same) carried) in
      let c = as_told act_of profile nodes es sound carried' taken in
      let idle' : NothingApplies nodes None (Some []) = record { fire = idle.fire; desk = idle.desk; pump = idle.pump; hand = refl; flight = λ xs e. none_in xs e } in
      subst (IsQuiet nodes) (sym idle.hand) (held_quiet act_of profile nodes es sound laws (Some []) (Some (told (outs es) (ins es))) c idle' none)

  -- and the journal is at rest
  pub quiet_rest : IsCarried (rules_of act_of n p) [] es → IsQuiet nodes h → IsAtRest (rules_of act_of n p) (replayed (rules_of act_of n p) es)
  quiet_rest = under act_of n (length nodes) p profile (λ r. IsCarried r [] es → IsQuiet nodes h → IsAtRest r (replayed r es)) count same
      (λ carried quiet. quiet_rests act_of profile nodes es sound (spells_well act_of (length nodes) profile) carried h quiet)

-- ---- what the journal has of steps

pub makes_turns : (act_of : Meaning) (r : Rules) (most made : ℕ) (x z : Stage) (es : List Entry) → StepsTo act_of made x z → es ≡ z.entries → made ≤ most
    → (made ≡ most) ⊎ (IsCarried r [] es → IsAtRest r (replayed r es)) → MakesTurns r most made x.entries es
makes_turns act_of r most made x z es s same few rest =
    let all = steps_add act_of x s.between z s.steps in
    record { more = all.more; is = same ∙ all.is; count = all.count ∙ s.count; few = few; rest = rest }

-- ---- what is left of the room

module _ {A : Type 0} {g : Ghosts A} (x z : Stage) where
  step_room : (T : Type 0) (fault : WorldFault A g) → RefusedStep fault x z → TellsRoom {T = T} (Err fault) z.entries
  step_room T (faults.JournalFull e w None) h = λ room. h.1.full (subst HasRoom h.0.0.journal room)
  step_room T (faults.JournalFull e w (Some done)) h = h.2.full
  step_room T (faults.OutOfMemory None) h = subst HasRoom (sym h.1.0.journal) h.0
  step_room T (faults.OutOfMemory (Some done)) h = h.1
  step_room T (faults.NotRun job) h = tt
  step_room T faults.Fabric h = subst HasRoom (sym h.2.0.journal) h.0
  step_room T (faults.BadFrame to at why) h = subst HasRoom (sym h.2.0.0.journal) h.0
  step_room T (faults.Strange to rule object kept) (room, inl h) = subst HasRoom (sym h.1.0.0.journal) room
  step_room T (faults.Strange to rule object kept) (room, inr h) = subst HasRoom (sym h.1.did.0.0.journal) room
  step_room T (faults.EarlyEnd sent taken) h = subst HasRoom (sym h.2.0.journal) h.0

  pub room_after : {T : Type 0} (r : Result T (WorldFault A g)) (e : WorldFault A g) → IsErrAnd r (λ y. y ≡ e) → RefusedStep e x z → TellsRoom r z.entries
  room_after {T} (Ok v) e is h = absurd is
  room_after {T} (Err y) e is h = subst (λ f. TellsRoom {T = T} (Err f) z.entries) (sym is) (step_room T e h)

-- steps, and then one that is refused
pub turns_refused : {A : Type 0} {g : Ghosts A} (act_of : Meaning) (most made : ℕ) (x y z : Stage) (fault : WorldFault A g) → StepsTo act_of made x y → made ≤ most
    → RefusedStep fault y z → RefusedTurns act_of most fault x z
turns_refused act_of most made x y z fault s few h =
    record { made = made; few = few; goes = record { last = y; between = s.between; steps = s.steps; count = s.count; thus = h } }
