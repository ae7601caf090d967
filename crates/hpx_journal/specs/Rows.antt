-- Which entries a locality may write. Each condition looks only at what is at the locality.
use Rattle.std.specs.Prelude.{ℕ, Bool, true, false, List, [], ◌∷◌, ◌++◌, ◌≡◌, ◌≢◌, ◌+◌, ◌^◌, ◌<◌, ◌≤◌, ◌==◌, ◌&&◌, ◌⊎◌, Option, Some, None, IfSome, length}
use Rattle.std.specs.List.{list_any, find, count_by, AllByRecursion}
use Rattle.hpx_value.specs.Ids.{same_object}
use Rattle.hpx_value.specs.Values.{bare_act, bare_state}
use Rattle.hpx_value.specs.Laws.{birth_state}
use Rattle.hpx_journal.specs.Data.{Id, Act, State, Message, Make, Due, MessageDue, PrintDue, Parcel, Return, Ask, Give, Shipped, Arrived, Free}
use Rattle.hpx_journal.specs.Bags.{Covers}
use Rattle.hpx_journal.specs.Entries.{Name, Returned, Granted, Refused, Event, Line, Fire, Split, Born, Done, Sent, Print, Merge, Up, Asked, Given, Count, Freed, Left, Landed, Looked, Mail, Out, In, Entry, Standing, Travel, Rules, same_name, name_of, target_of, move_to}
use Rattle.hpx_journal.specs.Tokens.{same_token}
use Rattle.hpx_journal.specs.Frames.{acts_in}
use Rattle.hpx_journal.specs.Local.{Local, Recorded, Refusal, is_act, is_standing, is_travel, is_given, is_given_none, acts_on, is_busy, next_name, takes, recorded, outcome}

-- while anything is due only what is due is written, and while anything is fresh only what belongs to its making
abbrev pub TurnAllows : Local → Event → Type 0
TurnAllows s (Sent a) = s.fresh ≡ []
TurnAllows s (Print bytes) = s.fresh ≡ []
TurnAllows s (Looked o hit) = s.fresh ≡ []
TurnAllows s (Born o state) = s.due ≡ []
TurnAllows s (Split o log) = s.due ≡ []
TurnAllows s (Done a failed) = s.due ≡ []
TurnAllows s _ = (s.due ≡ []) × (s.fresh ≡ [])

-- the object that an entry is of
abbrev pub objects_in : Event → List Id
objects_in (Split o log) = o ∷ []
objects_in (Born o state) = o ∷ []
objects_in (Merge o log) = o ∷ []
objects_in (Up o log) = o ∷ []
objects_in (Asked o) = o ∷ []
objects_in (Given o log) = o ∷ []
objects_in (Count o count why) = o ∷ []
objects_in (Freed o) = o ∷ []
objects_in (Left o to) = o ∷ []
objects_in (Landed o) = o ∷ []
objects_in (Looked o hit) = o ∷ []
objects_in _ = []

-- a number 0 was written for o
abbrev pub is_dead_record : Id → Recorded → Bool
is_dead_record o x = same_object o x.object && (x.count == 0)

-- o is dead: a number 0 was written for it
abbrev pub IsDead : Id → Local → Type 0
IsDead o s = list_any (is_dead_record o) s.counts ≡ true

-- kinds from 16 to 63
abbrev pub IsManaged : Id → Type 0
IsManaged o = (16 ≤ o.kind) × (o.kind ≤ 63)

-- a fired action, and its target, which stands here
pub record Runs (s : Local) (a : Name) : Type 0 where
  pub act : Act
  pub target : Standing
  pub fired : find (is_act a) s.fired ≡ Some act
  pub stands : find (is_standing (target_of act)) s.objects ≡ Some target

-- the fresh objects are those that an action makes, in order, with their kinds and states
abbrev pub AreMade : List Make → List Id → List Standing → Type 0
AreMade [] [] objects = Unit {0}
AreMade (make ∷ makes) (o ∷ fresh) objects =
    (o.kind ≡ make.kind) × (find (is_standing o) objects ≡ Some (record { object = o; state = birth_state make })) × AreMade makes fresh objects
AreMade _ _ objects = ⊥

-- an id of o came back with no more credit since this action was fired, for an o that it or its target's state names
abbrev pub is_refused : Act → State → Refusal → Bool
is_refused act state x = same_name (name_of act) x.action && list_any (same_object x.object) (act.ids ++ state.ids)

-- ---- frames

-- where a parcel may go, its actions aside: an Apply, a Move, a Go and a Cached anywhere
abbrev pub MayGo : Local → ℕ → Parcel → Type 0
MayGo s to (Shipped act state) =
    (move_to (bare_act act) ≡ Some to)
    × (find (is_travel (target_of (bare_act act))) s.travels ≡ Some (record { object = target_of (bare_act act); state = bare_state state; to = to }))
MayGo s to (Return id) = to ≡ id.home
MayGo s to (Ask id asker entry) = to ≡ id.home
MayGo s to (Arrived id place) = to ≡ id.home
MayGo s to (Give id entry) = s.here ≡ id.home
MayGo s to (Free o) = (s.here ≡ o.home) × IsDead o s
MayGo s to _ = Unit {0}

-- each of these actions, with its bare ids, waits here
abbrev pub AreWaiting : Local → List Act → Type 0
AreWaiting s acts = AllByRecursion (λ act. find (is_act (name_of act)) s.waiting ≡ Some act) acts

-- ---- freeing

-- the entry before says that o is to be freed
abbrev pub LetsGo : Rules → Local → Id → Option Event → Type 0
LetsGo r s o (Some (In bytes)) = r.parcel_of bytes ≡ Some (Free o)
LetsGo r s o (Some (Mail kind)) = (kind ≡ 10) × (o.home ≡ s.here) × IsDead o s
LetsGo r s o _ = ⊥

-- the entry before sent an action on o
abbrev pub SentTo : Local → Id → Option Event → Type 0
SentTo s o (Some (Sent a)) = (act : Act) × (find (is_act a) s.waiting ≡ Some act) × (same_object o (target_of act) ≡ true)
SentTo s o _ = ⊥

-- a place is this one
abbrev pub is_to : ℕ → Option ℕ → Bool
is_to to None = false
is_to to (Some t) = t == to

-- a MOVE of o to this locality
abbrev pub is_move_of : Id → ℕ → Act → Bool
is_move_of o to act = acts_on o act && is_to to (move_to act)

-- ---- rows

-- the row of an entry: where it is allowed
abbrev pub Row : Rules → Local → Event → Type 0
Row r s (Line a bytes) = (s.here ≡ 0) × (a ≡ next_name s) × (length bytes ≤ 1025)
Row r s (Fire a) =
    (act : Act) × (x : Standing) × (find (is_act a) s.waiting ≡ Some act)
    × (find (is_standing (target_of act)) s.objects ≡ Some x)
    × (is_busy (target_of act) s.fired ≡ false) × IfSome (move_to act) (λ t. t ≡ s.here)
Row r s (Split o log) = 1 ≤ log
Row r s (Born o state) =
    (o.home ≡ s.here) × IsManaged o × (o.number ≡ s.number + 1) × (state.drawn ≡ 0) × (state.conts ≡ []) × (state.ids ≡ [])
Row r s (Done a false) = (x : Runs s a) × AreMade (outcome r s x.act x.target).makes s.fresh s.objects
Row r s (Done a true) =
    (x : Runs s a) × (s.fresh ≡ []) × (list_any (is_refused x.act x.target.state) s.refusals ≡ true)
    × (s.failures + 1 ≤ count_by is_given_none s.given)
Row r s (Sent a) = (m : Message) × (rest : List Due) × (s.due ≡ MessageDue m ∷ rest) × (a ≡ next_name s)
Row r s (Print bytes) = (rest : List Due) × (s.due ≡ PrintDue bytes ∷ rest)
Row r s (Merge o log) = log < r.credit_log
Row r s (Up o log) = Unit {0}
Row r s (Asked o) = Unit {0}
Row r s (Given o log) = ((log ≡ 0) ⊎ (log ≡ r.credit_log)) × (count_by (is_given o) s.given < count_by (same_object o) s.asked)
Row r s (Count o count (Returned log)) = (o.home ≡ s.here) × (1 ≤ recorded o s) × (count + 2 ^ log ≡ recorded o s)
Row r s (Count o count Granted) =
    (o.home ≡ s.here) × (1 ≤ recorded o s) × (count + 1 ≡ recorded o s + 2 ^ r.credit_log) × (count ≤ r.credit_limit)
Row r s (Count o count Refused) =
    (o.home ≡ s.here) × (1 ≤ recorded o s) × (count ≡ recorded o s) × (r.credit_limit + 1 < recorded o s + 2 ^ r.credit_log)
Row r s (Freed o) =
    IsManaged o × ((x : Standing) × (find (is_standing o) s.objects ≡ Some x))
    × (list_any (acts_on o) s.waiting ≡ false) × (list_any (acts_on o) s.fired ≡ false) × LetsGo r s o s.last
Row r s (Left o to) =
    IsManaged o × ((x : Standing) × (find (is_standing o) s.objects ≡ Some x))
    × (is_busy o s.fired ≡ false) × (list_any (is_move_of o to) s.waiting ≡ true) × (to ≢ s.here)
Row r s (Landed o) = IsManaged o × ((x : Travel) × (find (is_travel o) s.travels ≡ Some x) × (x.to ≡ s.here))
Row r s (Looked o hit) = (o.home ≢ s.here) × SentTo s o s.last
Row r s (Mail kind) = (1 ≤ kind) × (kind ≤ 10)
Row r s (Out to bytes) =
    (to < r.localities) × (to ≢ s.here)
    × ((p : Parcel) × (r.parcel_of bytes ≡ Some p) × AreWaiting s (acts_in (Some p)) × MayGo s to p)
Row r s (In bytes) = (p : Parcel) × (r.parcel_of bytes ≡ Some p)

-- an entry is of this locality, in its turn, finds the tokens that it takes, names bare objects, and keeps its row
pub record Allowed (r : Rules) (s : Local) (e : Entry) : Type 0 where
  pub here : e.at ≡ s.here
  pub turn : TurnAllows s e.event
  pub tokens : Covers same_token s.tokens (takes r e.event)
  pub bare : AllByRecursion (λ o. o.log ≡ None) (objects_in e.event)
  pub row : Row r s e.event
