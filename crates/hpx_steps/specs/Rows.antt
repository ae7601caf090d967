-- What each message and each entry counts, row by row: nothing that was caused is lost.
use Rattle.std.specs.Prelude.{ℕ, Bool, true, false, cond, List, [], ◌∷◌, ◌≤◌, ◌+◌, ◌==◌, ◌&&◌, ◌||◌, Option, Some, None, ◌≢◌, ◌<◌, ◌≡◌}
use Rattle.std.specs.List.{sum_by, count_by}
use Rattle.hpx_value.specs.Ids.{same_object}
use Rattle.hpx_journal.specs.Data.{Id, Act, Parcel, Apply, Return, Ask, Give, Cached, Move, Go, Shipped, Arrived, Free}
use Rattle.hpx_journal.specs.Entries.{Rules, target_of, move_to}
use Rattle.hpx_journal.specs.Rows.{is_to}
use Rattle.hpx_journal.specs.Laws.{is_free_of}
use Rattle.hpx_journal.specs.Local.{after}
use Rattle.hpx_journal.specs.Whole.{run_local}
use Rattle.hpx_part.specs.Data.{Entry, Event, Local, Line, Fire, Sent, Up, Asked, Given, Count, Refused, Reason, Freed, Left, Landed, Mail, Out, In}
use Rattle.hpx_steps.specs.Items.{Item, Came, Mailed, OnDesk, Going, Queued, Leaving, Stray, Brought, Untold, Accepted}

-- what is counted: messages of a kind, counts of objects, refusals of credit, actions, objects that leave, what tells that one landed,
-- moves that are granted, objects that come, and what frees one object; and of the moves of one object to one place, at other localities
-- than its home, the moves that came, the objects that left, the objects that came, and what tells home
pub data Row : Type 0 where
  Returns : Row
  Asks : Row
  Gives : Row
  Frees : Row
  Counts : Row
  Refusals : Row
  Actions : Row
  Objects : Row
  Landeds : Row
  Leavings : Row
  Landings : Row
  FreesOf : Id → Row
  GosOf : Id → ℕ → Row
  ShipsOf : Id → ℕ → Row
  LandsOf : Id → ℕ → Row
  TellsOf : Id → Row

-- 1 where it is so
abbrev pub one_if : Bool → ℕ
one_if b = cond b 1 0

-- ---- messages

-- the kind of a message, as in its frame
abbrev pub kind_of : Parcel → ℕ
kind_of (Apply act) = 1
kind_of (Return id) = 2
kind_of (Ask id asker entry) = 3
kind_of (Give id entry) = 4
kind_of (Cached id place) = 5
kind_of (Move act) = 6
kind_of (Go act) = 7
kind_of (Shipped act state) = 8
kind_of (Arrived id place) = 9
kind_of (Free o) = 10

-- it is of this kind
abbrev pub is_kind : ℕ → Parcel → ℕ
is_kind kind p = one_if (kind_of p == kind)

-- the credit is the least
abbrev pub is_least : Option ℕ → Bool
is_least None = false
is_least (Some log) = log == 0

-- it gives no more credit than was sent with the ask
abbrev pub is_refusal : Parcel → ℕ
is_refusal (Give id entry) = one_if (is_least id.log)
is_refusal _ = 0

-- it brings an action to its object
abbrev pub brings : Parcel → ℕ
brings p = one_if ((kind_of p == 1) || (kind_of p == 6))

-- it carries one: to its object, to grant its move, or with its object
abbrev pub carries : Parcel → ℕ
carries p = brings p + (is_kind 7 p + is_kind 8 p)

-- it goes to where its object is
abbrev pub follows : Parcel → ℕ
follows p = brings p + is_kind 7 p

-- it says that this object is to be freed
abbrev pub frees_one : Id → Parcel → ℕ
frees_one o p = one_if (is_free_of o (Some p))

-- 1 for an action that moves o to a place
abbrev pub moves_to : Id → ℕ → Act → ℕ
moves_to o to act = one_if (same_object o (target_of act) && is_to to (move_to act))

-- 1 for a move of o to a place that was granted
abbrev pub go_to : Id → ℕ → Parcel → ℕ
go_to o to (Go act) = moves_to o to act
go_to o to _ = 0

-- 1 where o goes to a place
abbrev pub ship_to : Id → ℕ → Parcel → ℕ
ship_to o to (Shipped act state) = moves_to o to act
ship_to o to _ = 0

-- 1 for what tells that o has landed
abbrev pub tell_of : Id → Parcel → ℕ
tell_of o (Arrived id place) = one_if (same_object o id)
tell_of o _ = 0

-- 1 for what tells that o has landed at j
abbrev pub tells_at : Id → ℕ → Parcel → ℕ
tells_at o j (Arrived id place) = one_if (same_object o id && (place == j))
tells_at o j _ = 0

-- the rows that are kept at k, of n localities: of moves, those that do not begin here, of objects that go to others and that come
abbrev pub IsRowAt : ℕ → ℕ → Row → Type 0
IsRowAt n k (GosOf o to) = o.home ≢ k
IsRowAt n k (ShipsOf o to) = (to < n) × (to ≢ k)
IsRowAt n k (LandsOf o to) = (to < n) × (to ≡ k)
IsRowAt n k (TellsOf o) = (o.home < n) × (o.home ≢ k)
IsRowAt n k _ = Unit {0}

-- what a message counts that goes
abbrev pub weight : Row → Parcel → ℕ
weight Returns p = is_kind 2 p + is_kind 9 p
weight Asks p = is_kind 3 p
weight Gives p = is_kind 4 p
weight Frees p = is_kind 10 p
weight Counts p = 0
weight Refusals p = is_refusal p
weight Actions p = carries p
weight Objects p = is_kind 8 p
weight Landeds p = is_kind 9 p
weight (FreesOf o) p = frees_one o p
weight (ShipsOf o to) p = ship_to o to p
weight (TellsOf o) p = tell_of o p
weight _ p = 0

-- what a message counts that comes, as a cause: an Ask is answered, a Return, an Ask and a Landed change a count, a refusal is
-- handed on, an action is run or goes on, its object leaves or lands, and an object is freed
abbrev pub owes : Row → Parcel → ℕ
owes Gives p = is_kind 3 p
owes Counts p = is_kind 2 p + is_kind 3 p + is_kind 9 p
owes Refusals p = is_refusal p
owes Actions p = carries p
owes (FreesOf o) p = frees_one o p
owes Leavings p = is_kind 7 p
owes Landings p = is_kind 8 p
owes (GosOf o to) p = go_to o to p
owes (LandsOf o to) p = ship_to o to p
owes _ p = 0

-- so it is with the message that bytes spell
abbrev pub weighed : (Parcel → ℕ) → Option Parcel → ℕ
weighed w None = 0
weighed w (Some p) = w p

-- ---- entries

-- more credit was refused
abbrev pub is_refused : Reason → Bool
is_refused Refused = true
is_refused _ = false

-- what goes in a row, entry by entry
abbrev pub goes : Rules → Row → Event → ℕ
goes r row (Out to bytes) = weighed (weight row) (r.parcel_of bytes)
goes r Returns (Mail kind) = one_if (kind == 2) + one_if (kind == 9)
goes r Asks (Mail kind) = one_if (kind == 3)
goes r Gives (Mail kind) = one_if (kind == 4)
goes r Frees (Mail kind) = one_if (kind == 10)
goes r Counts (Count o count why) = 1
goes r Refusals (Given o log) = one_if (log == 0)
goes r Actions (Fire action) = 1
goes r Objects (Mail kind) = one_if (kind == 8)
goes r Landeds (Mail kind) = one_if (kind == 9)
goes r (FreesOf o) (Freed x) = one_if (same_object o x)
goes r Leavings (Left o to) = 1
goes r Landings (Landed o) = 1
goes r (GosOf o to) (Left x place) = one_if (same_object o x && (place == to))
goes r (LandsOf o to) (Landed x) = one_if (same_object o x)
goes r _ _ = 0

-- what causes it, entry by entry
abbrev pub causes : Rules → Row → Event → ℕ
causes r row (In bytes) = weighed (owes row) (r.parcel_of bytes)
causes r Returns (Up o log) = 1
causes r Asks (Asked o) = 1
causes r Gives (Mail kind) = one_if (kind == 3)
causes r Frees (Count o count why) = one_if (count == 0)
causes r Counts (Mail kind) = one_if (kind == 2) + one_if (kind == 3) + one_if (kind == 9)
causes r Refusals (Count o count why) = one_if (is_refused why)
causes r Actions (Line action bytes) = 1
causes r Actions (Sent action) = 1
causes r Objects (Left o to) = 1
causes r Landeds (Landed o) = 1
causes r Leavings (Mail kind) = one_if (kind == 7)
causes r Landings (Mail kind) = one_if (kind == 8)
causes r (ShipsOf o to) (Left x place) = one_if (same_object o x && (place == to))
causes r (TellsOf o) (Landed x) = one_if (same_object o x)
causes r (FreesOf o) (Count x count why) = one_if ((count == 0) && same_object o x)
causes r _ _ = 0

-- how often an action goes through a message after its object: out of here, or from the desk
abbrev pub hops : Rules → Event → ℕ
hops r (Out to bytes) = weighed follows (r.parcel_of bytes)
hops r (Mail kind) = one_if ((kind == 1) || (kind == 6)) + one_if (kind == 7)
hops r _ = 0

-- an action is sent, or comes to its object
abbrev pub sets_out : Rules → Event → ℕ
sets_out r (In bytes) = weighed brings (r.parcel_of bytes)
sets_out r (Sent action) = 1
sets_out r _ = 0

-- the same, or that of a line
abbrev pub starts : Rules → Event → ℕ
starts r (Line action bytes) = 1
starts r e = sets_out r e

-- an action is accepted for good: that of a line, one with which its object came, or one from the desk
abbrev pub joins : Event → ℕ
joins (Line action bytes) = 1
joins (Landed o) = 1
joins (Mail kind) = one_if ((kind == 1) || (kind == 6))
joins _ = 0

-- an action is fired
abbrev pub fires_one : Event → ℕ
fires_one (Fire action) = 1
fires_one _ = 0

-- from each of these entries on, all actions but n at most that join are fired
abbrev pub AreFired : ℕ → List Event → Type 0
AreFired n [] = Unit {0}
AreFired n (e ∷ es) = (sum_by joins (e ∷ es) ≤ sum_by fires_one (e ∷ es) + n) × AreFired n es

-- it is a MOVE
abbrev pub is_move : Act → Bool
is_move act = act.code == 1

-- an object lands
abbrev pub lands_one : Event → ℕ
lands_one (Landed o) = 1
lands_one _ = 0

-- how many MOVEs were done
abbrev pub moves_done : Local → ℕ
moves_done l = count_by is_move l.done

-- from each of these entries on, which follow l, no more objects land than MOVEs are done, but n
abbrev pub AreMoved : Rules → ℕ → Local → List Entry → Type 0
AreMoved r n l [] = Unit {0}
AreMoved r n l (e ∷ es) =
    (sum_by (λ (x : Entry). lands_one x.event) (e ∷ es) + moves_done l ≤ moves_done (run_local r l (e ∷ es)) + n) × AreMoved r n (after r l e.event) es

-- what a cause of an action pays for: a line that it is accepted at once, and all else that it goes through one message
abbrev pub spends : Rules → Event → ℕ
spends r (Line action bytes) = 1
spends r e = hops r e

-- ---- what is here

-- what an action counts that waits or goes
abbrev pub of_act : Row → ℕ
of_act Actions = 1
of_act _ = 0

-- what was caused and is still here: in hand, in a message, or accepted
abbrev pub unpaid : Row → Item → ℕ
unpaid row (Came p) = owes row p
unpaid row (Mailed p) = owes row p
unpaid row (OnDesk p) = weight row p
unpaid row (Going x) = weight row x.parcel
unpaid row (Queued w) = weight row w.item
unpaid row (Leaving p) = owes row p
unpaid row (Stray p) = owes row p
unpaid Landeds (Brought a) = 1
unpaid Landeds (Untold o) = 1
unpaid (TellsOf o) (Brought a) = one_if (same_object o a.object)
unpaid (TellsOf o) (Untold x) = one_if (same_object o x)
unpaid row (Accepted act) = of_act row
unpaid row _ = 0

-- an action that is still to go through a message, or out of one
abbrev pub hopping : Item → ℕ
hopping (Came p) = brings p
hopping (OnDesk p) = follows p
hopping (Going x) = follows x.parcel
hopping (Queued w) = brings w.item
hopping _ = 0

-- an action that was accepted for good
abbrev pub joined : Item → ℕ
joined (Mailed p) = brings p
joined (Stray p) = brings p
joined (Accepted act) = 1
joined _ = 0

-- a Free of o that came and is in hand
abbrev pub freeing : Id → Item → ℕ
freeing o (Came p) = frees_one o p
freeing o _ = 0
