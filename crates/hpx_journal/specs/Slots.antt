-- Slots: where an answer is awaited, and the answers that are due or were sent.
use Rattle.std.specs.Prelude.{ℕ, pos, Bool, false, cond, List, ◌∷◌, ◌+◌, ◌==◌, ◌&&◌, map}
use Rattle.std.specs.List.{sum_by, count_by}
use Rattle.hpx_value.specs.Ids.{same_object}
use Rattle.hpx_value.specs.Values.{named}
use Rattle.hpx_value.specs.Hands.{Slot, slot_at, own_slot}
use Rattle.hpx_journal.specs.Data.{Value, Int, State, Act, Due, MessageDue, PrintDue}
use Rattle.hpx_journal.specs.Bags.{total}
use Rattle.hpx_journal.specs.Entries.{Rules, Frame, target_of}
use Rattle.hpx_journal.specs.Frames.{acts_in, travels_in}
use Rattle.hpx_journal.specs.Local.{Local}
use Rattle.hpx_journal.specs.Whole.{Space}

-- two slots are the same
abbrev pub same_slot : Slot → Slot → Bool
same_slot a b = same_object a.object b.object && (a.number == b.number)

-- the first argument is this number
abbrev pub is_pos : ℕ → List Value → Bool
is_pos n (Int (pos m) ∷ rest) = n == m
is_pos n _ = false

-- a SET, code 3, answers the slot of its target that its first argument names
abbrev pub answers_slot : Slot → Act → Bool
answers_slot x act = (act.code == 3) && (same_object x.object (target_of act) && is_pos x.number act.args)

-- the answers to a slot: one for a SET of it
abbrev pub answers_of : Slot → Act → ℕ
answers_of x act = cond (answers_slot x act) 1 0

-- how often an action claims a slot: by its continuation, or as an answer
abbrev pub act_claims : Slot → Act → ℕ
act_claims x act = count_by (same_slot x) (own_slot act.ids act.cont) + answers_of x act

-- how often a state keeps a slot
abbrev pub state_claims : Slot → State → ℕ
state_claims x s = count_by (same_slot x) (map (slot_at s.ids) s.conts)

-- how often what is due claims a slot
abbrev pub due_claims : Slot → Due → ℕ
due_claims x (MessageDue m) = act_claims x (named 0 0 m)
due_claims x (PrintDue bytes) = 0

-- how often a slot is claimed at a locality; an answer counts for ever
abbrev pub claims : Slot → Local → ℕ
claims x s =
    sum_by (λ y. state_claims x y.state) s.objects
    + sum_by (λ y. state_claims x y.state) s.travels
    + sum_by (act_claims x) s.waiting
    + sum_by (act_claims x) s.fired
    + sum_by (answers_of x) s.done
    + sum_by (due_claims x) s.due

-- how often what a frame carries claims it
abbrev pub frame_claims : Rules → Slot → Frame → ℕ
frame_claims r x f = sum_by (act_claims x) (acts_in (r.parcel_of f.1)) + sum_by (λ y. state_claims x y.state) (travels_in (r.parcel_of f.1))

-- how often a slot is claimed, at all localities and on the road
abbrev pub claims_in : Rules → Slot → Space → ℕ
claims_in r x w = total r.localities (λ k. claims x (w.places k)) + sum_by (frame_claims r x) w.road
