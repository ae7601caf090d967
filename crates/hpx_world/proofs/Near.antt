-- A MOVE goes to a locality that there is.
use Rattle.std.proofs.Common.{ℕ, Bool, true, false, cond, List, [], ◌∷◌, ◌≡◌, ◌<◌, Option, Some, None, map, refl, subst, arith, ◌≢◌, inl, inr}
use Rattle.std.specs.Prelude.{codes, nat_lt, ◌==◌, IfSome}
use Rattle.std.specs.List.{list_any, AllByRecursion}
use Rattle.std.proofs.lemmas.Bool.{cases_Bool, eqb-true}
use Rattle.hpx_value.specs.Ids.{Id}
use Rattle.hpx_value.specs.declared.value.Value.{Value}
use Rattle.hpx_value.specs.declared.outcome.Sending.{Sending}
use Rattle.hpx_value.specs.declared.outcome.Reply.{Reply}
use Rattle.hpx_value.specs.Hands.{sent, answer, own_slot, Slot}
use Rattle.hpx_value.specs.Laws.{KeepsLaws, MovesBelow, IsMovable, target_kind}
use Rattle.hpx_value.specs.Riders.{plain, due_with, rode}
use Rattle.hpx_value.proofs.Riders.{plain_formed}
use Rattle.hpx_value.specs.Shapes.{IsAct}
use Rattle.hpx_journal.specs.Bags.{minus, Covers}
use Rattle.hpx_journal.specs.Data.{State, Act, Outcome, Fault, Due, MessageDue, PrintDue}
use Rattle.hpx_journal.specs.declared.entry.Name.{Name}
use Rattle.hpx_journal.specs.declared.entry.Event.{Event}
use Rattle.hpx_journal.specs.declared.entry.Event.TheVariants.{Line, Done, Sent, Print, Left, Out, In}
use Rattle.hpx_journal.specs.declared.entry.Entry.{Entry}
use Rattle.hpx_journal.specs.declared.local.Local.{Local}
use Rattle.hpx_journal.specs.Entries.{Rules, Frame, same_frame, name_of, target_of, move_to, is_movable}
use Rattle.hpx_journal.specs.Frames.{acts_in}
use Rattle.hpx_journal.specs.Local.{after, is_act, acts_on, comes, leaves, due_act, failure}
use Rattle.hpx_journal.specs.Rows.{Row, AreWaiting, Runs, is_to, is_move_of}
use Rattle.hpx_journal.specs.Whole.{Space, IsLegal, IsLegalFrom, MayStand, run, step, replayed, sends, arrives, arrives_at}
use Rattle.hpx_journal.specs.Laws.{HasGrammar, KeepsActLaws}
use Rattle.hpx_journal.proofs.Alls.{all-append, all-minus, all-map, all-any, all-find}
use Rattle.hpx_journal.proofs.Formed.{IsPlace, IsSettled, target_formed, all-image, all-tail}
use Rattle.hpx_journal.proofs.Homes.{kept_step}
use Rattle.hpx_journal.proofs.PoolMoves.{arrived}
use Rattle.hpx_journal.proofs.Same.{and_true}
use Rattle.hpx_journal.proofs.SlotsWhole.{IsSlotted, place_of, slotted_run, start_slotted}
use Rattle.hpx_journal.proofs.Start.{first, start_whole}
use Rattle.hpx_journal.proofs.Wholes.{IsWhole, whole_step}

-- what has this code and these arguments is no MOVE, or one to a locality of n
abbrev pub GoesNear : ℕ → ℕ → List Value → Type 0
GoesNear n code args = code ≡ 1 → MovesBelow n args

abbrev pub IsNear : ℕ → Act → Type 0
IsNear n act = GoesNear n act.code act.args

abbrev pub IsNearDue : ℕ → Due → Type 0
IsNearDue n (MessageDue m) = GoesNear n m.code m.args
IsNearDue n (PrintDue bytes) = Unit {0}

abbrev pub IsNearFrame : Rules → Frame → Type 0
IsNearFrame r f = AllByRecursion (IsNear r.localities) (acts_in (r.parcel_of f.1))

-- what an entry sends goes near, and so does an object that leaves
abbrev pub IsNearEvent : Rules → Event → Type 0
IsNearEvent r (Left o to) = to < r.localities
IsNearEvent r (Out to bytes) = AllByRecursion (IsNear r.localities) (acts_in (r.parcel_of bytes))
IsNearEvent r _ = Unit {0}

pub record IsNearAt (n : ℕ) (s : Local) : Type 0 where
  pub waiting : AllByRecursion (IsNear n) s.waiting
  pub due : AllByRecursion (IsNearDue n) s.due

-- so it is everywhere
pub record AllNear (r : Rules) (w : Space) : Type 0 where
  pub places : (k : ℕ) → k < r.localities → IsNearAt r.localities (w.places k)
  pub road : AllByRecursion (IsNearFrame r) w.road

-- where a near MOVE goes
small : (n t : ℕ) (b : Bool) → t < n → IfSome (cond b (Some t) None) (λ k. k < n)
small n t true lt = lt
small n t false lt = tt

moves : (n : ℕ) (act : Act) (a b : Bool) → (act.code == 1) ≡ a → is_movable (target_of act).kind ≡ b → IsNear n act → IfSome (move_to act) (λ t. t < n)
moves n act true true e f h =
    let x = h (eqb-true act.code 1 e) in
    rw (e, f, x.2) (small n x.0 (nat_lt x.0 64) x.1)
moves n act true false e f h = rw (e, f) tt
moves n act false b e f h = rw e tt

pub near_move : (n : ℕ) (act : Act) → IsNear n act → IfSome (move_to act) (λ t. t < n)
near_move n act h = moves n act (act.code == 1) (is_movable (target_of act).kind) refl refl h

due_act_near : (n : ℕ) (a : Name) (due : List Due) → AllByRecursion (IsNearDue n) due → AllByRecursion (IsNear n) (due_act a due)
due_act_near n a [] h = tt
due_act_near n a (PrintDue bytes ∷ rest) h = tt
due_act_near n a (MessageDue m ∷ rest) h = (h.0, tt)

no_move : (n code : ℕ) (args : List Value) → code ≢ 1 → GoesNear n code args
no_move n code args d e = absurd (d e)

print_near : (n : ℕ) (b : Bool) → AllByRecursion (IsNearDue n) (cond b (PrintDue (codes "error: credit limit\n") ∷ []) [])
print_near n true = (tt, tt)
print_near n false = tt

failure_near : (n : ℕ) (act : Act) → AllByRecursion (IsNearDue n) (failure act)
failure_near n act =
    all-append (IsNearDue n) (map (λ x. MessageDue (answer [] x (Fault 5))) (own_slot act.ids act.cont)) _
    (all-image (IsNearDue n) (λ x. MessageDue (answer [] x (Fault 5))) (own_slot act.ids act.cont)
    (all-any (λ (x : Slot). IsNearDue n (MessageDue (answer [] x (Fault 5)))) (λ x e. absurd (omega (arith, e))) (own_slot act.ids act.cont)))
    (print_near n ((target_of act).kind == 1))

-- no value of the place of a MOVE is renumbered
sent_near : (n : ℕ) (s : State) (a : Act) (made : List Id) (x : Sending) → GoesNear n x.code x.args → IsNearDue n (MessageDue (sent s a made x))
sent_near n s a made x h e = let k = h e in (k.0, k.1, rw k.2 refl)

due_near : (n kind here : ℕ) (s : State) (a : Act) (made : List Id) (out : Outcome) → KeepsLaws n kind here s a out → AllByRecursion (IsNearDue n) (due_with s a made out)
due_near n kind here s a made out keeps =
    all-append (IsNearDue n) (map (λ x. MessageDue (sent s a made x)) out.sends) _
    (all-image (IsNearDue n) (λ x. MessageDue (sent s a made x)) out.sends
    (all-map (λ (x : Sending). x.code ≡ 1 → IsMovable (target_kind s a out x.target) × MovesBelow n x.args) (λ (x : Sending). IsNearDue n (MessageDue (sent s a made x)))
    (λ x h. sent_near n s a made x (λ e. (h e).1)) out.sends keeps.moves.moves))
    (all-append (IsNearDue n) (map (λ x. MessageDue (rode s a made out x)) out.replies) _
    (all-image (IsNearDue n) (λ x. MessageDue (rode s a made out x)) out.replies
    (all-any (λ (x : Reply). IsNearDue n (MessageDue (rode s a made out x))) (λ x e. absurd (omega (arith, e))) out.replies))
    (all-image (IsNearDue n) PrintDue out.prints (all-any (λ (x : List ℕ). Unit {0}) (λ x. tt) out.prints)))

module _ (r : Rules) (grammar : HasGrammar r) (laws : KeepsActLaws r) where
  -- ---- one entry

  module _ (s : Local) (so : IsNearAt r.localities s) where
    come : (k : ℕ) (e : Event) → AllByRecursion (IsNearFrame r) (arrives_at k e) → AllByRecursion (IsNear r.localities) (comes r s e)
    come k (Line a bytes) h = ((λ e. absurd (omega (arith, e))), tt)
    come k (Sent a) h = due_act_near r.localities a s.due so.due
    come k (In bytes) h = h.0
    come k _ h = tt

    waiting_near : (k : ℕ) (e : Event) → AllByRecursion (IsNearFrame r) (arrives_at k e) → AllByRecursion (IsNear r.localities) (after r s e).waiting
    unfolding after
    waiting_near k e h = all-append (IsNear r.localities) (comes r s e) _ (come k e h) (all-minus (IsNear r.localities) is_act s.waiting (leaves r e) so.waiting)

    acts_go : (acts : List Act) → AreWaiting s acts → AllByRecursion (IsNear r.localities) acts
    acts_go [] h = tt
    acts_go (act ∷ acts) h = (all-find (IsNear r.localities) (is_act (name_of act)) s.waiting act so.waiting h.0, acts_go acts h.1)

    frames_go : (e : Event) → Row r s e → AllByRecursion (IsNearFrame r) (sends e)
    frames_go (Out to bytes) row = (rw row.2.1 (acts_go (acts_in (Some row.2.0)) row.2.2), tt)
    frames_go _ row = tt

    -- an object that leaves has a MOVE that waits
    leaves_near : (o : Id) (to : ℕ) (acts : List Act) → AllByRecursion (IsNear r.localities) acts → list_any (is_move_of o to) acts ≡ true → to < r.localities
    leaves_near o to [] h t = absurd (cc)
    leaves_near o to (act ∷ acts) h t = elim (cases_Bool (is_move_of o to act)) [
      | inl one ↦ there (move_to act) (near_move r.localities act h.0) (and_true (acts_on o act) (is_to to (move_to act)) one).1
      | inr not ↦ leaves_near o to acts h.1 (rw not at t)
    ]
      where
        there : (m : Option ℕ) → IfSome m (λ t. t < r.localities) → is_to to m ≡ true → to < r.localities
        there None k e = absurd (cc)
        there (Some t) k e = subst (λ j. j < r.localities) (eqb-true t to e) k

    pub event_near : (e : Event) → Row r s e → IsNearEvent r e
    event_near (Left o to) row = leaves_near o to s.waiting so.waiting row.3
    event_near (Out to bytes) row = rw row.2.1 (acts_go (acts_in (Some row.2.0)) row.2.2)
    event_near _ row = tt

    module _ (place : IsPlace r s) (settled : IsSettled s) where
      laws_at : (a : Name) (x : Runs s a) → KeepsLaws r.localities x.target.object.kind s.here x.target.state (plain x.act) (r.outcome_of x.target.object.kind s.here x.target.state (plain x.act))
      laws_at a x =
          laws.laws x.target.object.kind s.here x.target.state (plain x.act) place.here (target_formed r grammar laws s place settled a x)
          (plain_formed x.act (all-find IsAct (is_act a) s.fired x.act settled.formed.fired x.fired))

      dues_near : (e : Event) → Row r s e → AllByRecursion (IsNearDue r.localities) (after r s e).due
      unfolding after
      dues_near (Done a false) row =
          let x = row.0 in
          rw (x.fired, x.stands) (due_near r.localities x.target.object.kind s.here x.target.state (plain x.act) s.fresh _ (laws_at a x))
      dues_near (Done a true) row = rw row.0.fired (failure_near r.localities row.0.act)
      dues_near (Sent a) row = all-tail (IsNearDue r.localities) s.due so.due
      dues_near (Print bytes) row = all-tail (IsNearDue r.localities) s.due so.due
      dues_near _ row = so.due

      near_after : (k : ℕ) (e : Event) → Row r s e → AllByRecursion (IsNearFrame r) (arrives_at k e) → IsNearAt r.localities (after r s e)
      near_after k e row h = record { waiting = waiting_near k e h; due = dues_near e row }

  -- ---- the whole

  arrive : (road : List Frame) (k : ℕ) (e : Event) → AllByRecursion (IsNearFrame r) road → Covers same_frame road (arrives_at k e) → AllByRecursion (IsNearFrame r) (arrives_at k e)
  arrive road k (In bytes) h covers = (arrived (IsNearFrame r) road (k, bytes) h covers.0, tt)
  arrive road k _ h covers = tt

  module _ (w : Space) (e : Entry) (whole : IsWhole r w) (slotted : IsSlotted r w) (ok : MayStand r w e) (so : AllNear r w) where
    near_step : AllNear r (step r w e)
    unfolding step
    near_step =
        let s = w.places e.at in
        record {
          places = λ k h. kept_step r (IsNearAt r.localities) k w e
              (λ before. near_after s before (place_of r w whole e.at ok.place) (slotted.settled e.at) e.at e.event ok.allowed.row
              (arrive w.road e.at e.event so.road ok.road)) (so.places k h);
          road = all-append (IsNearFrame r) (sends e.event) (minus same_frame w.road (arrives e))
              (frames_go s (so.places e.at ok.place) e.event ok.allowed.row) (all-minus (IsNearFrame r) same_frame w.road (arrives e) so.road);
        }

    slotted_next : IsSlotted r (step r w e)
    slotted_next = slotted_run r grammar laws w (e ∷ []) whole slotted (ok, tt)

  near_run : (w : Space) (es : List Entry) → IsWhole r w → IsSlotted r w → IsLegalFrom r w es → AllNear r w
      → AllNear r (run r w es) × AllByRecursion (λ (e : Entry). IsNearEvent r e.event) es
  near_run w [] whole slotted legal so = (so, tt)
  near_run w (e ∷ es) whole slotted legal so =
      let rest = near_run (step r w e) es (whole_step r w e whole legal.0) (slotted_next w e whole slotted legal.0 so) legal.1 (near_step w e whole slotted legal.0 so) in
      (rest.0, (event_near (w.places e.at) (so.places e.at legal.0.place) e.event legal.0.allowed.row, rest.1))

  start_near : AllNear r (first r)
  start_near = record { places = λ k h. record { waiting = tt; due = tt }; road = tt }

  module _ (es : List Entry) (legal : IsLegal r es) where
    both : AllNear r (replayed r es) × AllByRecursion (λ (e : Entry). IsNearEvent r e.event) es
    both = near_run (first r) es (start_whole r) (start_slotted r) legal start_near

    pub legal_near : AllNear r (replayed r es)
    legal_near = both.0

    pub events_near : AllByRecursion (λ (e : Entry). IsNearEvent r e.event) es
    events_near = both.1
