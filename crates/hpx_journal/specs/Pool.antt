-- The plain pool: objects with their states and places, and a bag of messages of which any may be acted on next. It has no
-- road, no names, no credits and no death, and an action is one step.
use Rattle.std.specs.Prelude.{ℕ, true, false, cond, List, [], ◌∷◌, ◌++◌, ◌≡◌, ◌<◌, ◌≤◌, ◌+◌, Option, Some, None, IfSome, is_some, map}
use Rattle.std.specs.List.{list_any, find, sum_by, flat_map, AllByRecursion}
use Rattle.std.specs.Option.{option_map}
use Rattle.hpx_value.specs.Ids.{same_object}
use Rattle.hpx_value.specs.Values.{bare_state, bare_act, message_of, named}
use Rattle.hpx_value.specs.Laws.{birth_state}
use Rattle.hpx_value.specs.Riders.{plain_message}
use Rattle.hpx_value.specs.Hands.{id_at, sent, replied, state_after}
use Rattle.hpx_journal.specs.Bags.{total}
use Rattle.hpx_journal.specs.Data.{Id, State, Act, Message, Make, Outcome, Due, MessageDue, PrintDue}
use Rattle.hpx_journal.specs.Entries.{Event, Line, Done, Print, Landed, Entry, Travel, Rules, Frame, target_of, line_message, move_to}
use Rattle.hpx_journal.specs.Frames.{acts_in, travels_in}
use Rattle.hpx_journal.specs.Local.{Local, is_standing}
use Rattle.hpx_journal.specs.Whole.{Space, run, replayed}
use Rattle.hpx_journal.specs.Laws.{count_events, is_failed}

-- what the objects keep, where they are, what is still to be acted on, and what was printed
pub record Pool : Type 0 where
  pub states : Id → Option State
  pub places : Id → ℕ
  pub pending : List Message
  pub printed : List (List ℕ)

-- the object that a message is for
abbrev pub target_in : Message → Id
target_in m = id_at m.ids 0

-- where a message moves its target, if it is a MOVE
abbrev pub moves_to : Message → Option ℕ
moves_to m = move_to (named 0 0 m)

-- what acting on a message does at a place, in a state of its target
abbrev pub outcome_in : Rules → ℕ → Message → State → Outcome
outcome_in r here m s = r.outcome_of (target_in m).kind here s (named 0 0 m)

-- the messages that it sends and answers
abbrev pub sent_by : Message → State → List Id → Outcome → List Message
sent_by m s made out = map (sent s (named 0 0 m) made) out.sends ++ map (replied s (named 0 0 m) made) out.replies

-- a line was fed
abbrev pub fed : Pool → List ℕ → Pool
fed p bytes = record p { pending = line_message bytes ∷ p.pending }

-- the objects made are there, with the states that they are made with
abbrev pub with_made : (Id → Option State) → List Make → List Id → Id → Option State
with_made states (make ∷ makes) (m ∷ made) o = cond (same_object o m) (Some (birth_state make)) (with_made states makes made o)
with_made states _ _ o = states o

-- objects for each make: of its kind, at home here, and new
abbrev pub AreNew : (Id → Option State) → ℕ → List Make → List Id → Type 0
AreNew states here [] [] = Unit {0}
AreNew states here (make ∷ makes) (o ∷ made) =
    (o.kind ≡ make.kind) × (o.home ≡ here) × (states o ≡ None) × (list_any (same_object o) made ≡ false) × AreNew states here makes made
AreNew states here _ _ = ⊥

-- a message was acted on here, and others are pending still
abbrev pub acted : Pool → ℕ → Message → State → List Id → List Message → Outcome → Pool
acted p here m s made others out = record {
  states = λ o. cond (same_object o (target_in m)) (Some (state_after s (named 0 0 m) made out)) (with_made p.states out.makes made o);
  places = λ o. cond (list_any (same_object o) made) here (p.places o);
  pending = sent_by m s made out ++ others;
  printed = p.printed ++ out.prints;
}

-- some pending message is acted on, where its target is; a MOVE, where it moves it
pub record IsActed (r : Rules) (p q : Pool) : Type 0 where
  pub message : Message
  pub before : List Message
  pub behind : List Message
  pub state : State
  pub made : List Id
  pub pending : p.pending ≡ before ++ message ∷ behind
  pub stands : p.states (target_in message) ≡ Some state
  pub there : IfSome (moves_to message) (λ to. to ≡ p.places (target_in message))
  pub new : AreNew p.states (p.places (target_in message)) (outcome_in r (p.places (target_in message)) message state).makes made
  pub next : q ≡ acted p (p.places (target_in message)) message state made (before ++ behind) (outcome_in r (p.places (target_in message)) message state)

-- the object is at another place
abbrev pub carried : Pool → Id → ℕ → Pool
carried p o to = record p { places = λ x. cond (same_object x o) to (p.places x) }

-- a pending MOVE of an object carries it to where it moves it
pub record IsMoved (o : Id) (p q : Pool) : Type 0 where
  pub message : Message
  pub before : List Message
  pub behind : List Message
  pub to : ℕ
  pub pending : p.pending ≡ before ++ message ∷ behind
  pub target : same_object o (target_in message) ≡ true
  pub move : moves_to message ≡ Some to
  pub next : q ≡ carried p (target_in message) to

-- what an entry does to the pool: only Line, Done and Landed do anything; no action fails
abbrev pub Goes : Rules → Pool → Event → Pool → Type 0
Goes r p (Line a bytes) q = q ≡ fed p bytes
Goes r p (Done a false) q = IsActed r p q
Goes r p (Done a true) q = ⊥
Goes r p (Landed o) q = IsMoved o p q
Goes r p _ q = q ≡ p

-- entries lead from one pool to another
abbrev pub Runs : Rules → Pool → List Entry → Pool → Type 0
Runs r p [] q = q ≡ p
Runs r p (e ∷ es) q = (mid : Pool) × Goes r p e.event mid × Runs r mid es q

-- ---- what the pool shows of the whole

-- the weight of what is due; riders are not seen
abbrev pub due_mass : (Message → ℕ) → Due → ℕ
due_mass f (MessageDue m) = f (plain_message m)
due_mass f (PrintDue bytes) = 0

-- the weight of an action
abbrev pub act_mass : (Message → ℕ) → Act → ℕ
act_mass f act = f (plain_message (message_of act))

-- the weight of the actions in a frame
abbrev pub frame_mass : Rules → (Message → ℕ) → Frame → ℕ
frame_mass r f x = sum_by (act_mass f) (acts_in (r.parcel_of x.1))

-- the weight of the actions at a locality that are not done
abbrev pub mass_at : (Message → ℕ) → Local → ℕ
mass_at f s = sum_by (act_mass f) s.waiting + sum_by (act_mass f) s.fired + sum_by (due_mass f) s.due

-- the sum of f over all messages that are not done, wherever they are
abbrev pub mass : Rules → (Message → ℕ) → Space → ℕ
mass r f w = total r.localities (λ k. mass_at f (w.places k)) + sum_by (frame_mass r f) w.road

-- the prints among what is due
abbrev pub prints_due : List Due → List (List ℕ)
prints_due [] = []
prints_due (MessageDue m ∷ rest) = prints_due rest
prints_due (PrintDue bytes ∷ rest) = bytes ∷ prints_due rest

-- the state of an object that stands here
abbrev pub state_at : Local → Id → Option State
state_at s o = option_map (λ x. x.state) (find (is_standing o) s.objects)

-- the pool has a travelling object with its state
abbrev pub HasTravel : Pool → Travel → Type 0
HasTravel p x = (o : Id) → same_object o x.object ≡ true → p.states o ≡ Some x.state

-- what the pool shows of one locality: each object that stands there is there in its state, unless it is still being made;
-- each that travels is known by its state, as are the targets of fired actions; what is not yet made is unknown
pub record ShowsAt (p : Pool) (k : ℕ) (s : Local) : Type 0 where
  pub stands : (o : Id) → list_any (is_standing o) s.objects ≡ true → list_any (same_object o) s.fresh ≡ false
      → (p.states o ≡ state_at s o) × (p.places o ≡ k)
  pub travels : AllByRecursion (HasTravel p) s.travels
  pub fired : AllByRecursion (λ act. is_some (p.states (target_of act)) ≡ true) s.fired
  pub fresh : AllByRecursion (λ o. p.states o ≡ None) s.fresh
  pub unknown : (o : Id) → 16 ≤ o.kind → o.home ≡ k → s.number < o.number → p.states o ≡ None

-- the pool looks at objects alone, and at no credits
pub record IsAlike (p : Pool) : Type 0 where
  pub alike : (a b : Id) → same_object a b ≡ true → (p.states a ≡ p.states b) × (p.places a ≡ p.places b)

-- `out` is what was printed so far: the same messages are not done, the same is known at each locality and on the road, and
-- the same was printed
pub record Shows (r : Rules) (w : Space) (p : Pool) (out : List (List ℕ)) : Type 0 where
  pub pending : (f : Message → ℕ) → mass r f w ≡ sum_by f p.pending
  pub places : (k : ℕ) → k < r.localities → ShowsAt p k (w.places k)
  pub road : AllByRecursion (λ f. AllByRecursion (HasTravel p) (travels_in (r.parcel_of f.1))) w.road
  pub alike : IsAlike p
  pub printed : out ++ prints_due (w.places 0).due ≡ p.printed

-- what an event prints
abbrev pub prints_by : Event → List (List ℕ)
prints_by (Print bytes) = bytes ∷ []
prints_by _ = []

-- what a journal prints, in order
abbrev pub prints_of : List Entry → List (List ℕ)
prints_of es = flat_map (λ e. prints_by e.event) es

-- ---- premises

-- neither the name of an action nor the credits of ids matter
pub record IsBlind (r : Rules) : Type 0 where
  pub blind : (kind here : ℕ) (s : State) (a : Act)
      → r.outcome_of kind here s a ≡ r.outcome_of kind here (bare_state s) (named 0 0 (message_of (bare_act a)))

-- no action fails
abbrev pub NoneFails : List Entry → Type 0
NoneFails es = count_events is_failed es ≡ 0

-- ---- the law

-- what stands at boot, each root at its home
abbrev pub boot_pool : Rules → Pool
boot_pool r = record {
  states = λ o. state_at ((replayed r []).places o.home) o;
  places = λ o. o.home;
  pending = [];
  printed = [];
}

-- the journal is a run of the pool, and what it leaves is shown by what the run leaves
pub record IsPlainRun (r : Rules) (w : Space) (p : Pool) (out : List (List ℕ)) (es : List Entry) : Type 0 where
  pub pool : Pool
  pub runs : Runs r p es pool
  pub shows : Shows r (run r w es) pool (out ++ prints_of es)
