-- Words of the laws of journals.
use Rattle.std.specs.Prelude.{◌⊎◌, ◌<◌, ℕ, Bool, true, false, List, [], ◌∷◌, ◌≡◌, ◌+◌, ◌==◌, ◌&&◌, ◌≤◌, Option, Some}
use Rattle.std.specs.List.{list_any, count_by, sum_by, flat_map, AllByRecursion}
use Rattle.hpx_value.specs.Ids.{same_object}
use Rattle.hpx_value.specs.Hands.{state_after}
use Rattle.hpx_value.specs.Riders.{plain, due_with}
use Rattle.hpx_value.specs.Shapes.{IsAct, IsMessage, IsState}
use Rattle.hpx_value.specs.Laws.{KeepsLaws}
use Rattle.hpx_parcel.specs.Parcels.{IsParcel}
use Rattle.hpx_parcel.specs.Reading.{is_least}
use Rattle.hpx_journal.specs.Data.{Id, State, Act, Due, MessageDue, PrintDue, Parcel, Ask, Give, Free}
use Rattle.hpx_journal.specs.Bags.{without, total}
use Rattle.hpx_journal.specs.Entries.{Standing, Name, Event, Line, Fire, Done, Sent, Given, Count, Refused, Freed, Out, In, Entry, Rules, Frame, same_frame, same_name, target_of}
use Rattle.hpx_journal.specs.Tokens.{Token, is_held, is_owed}
use Rattle.hpx_journal.specs.Frames.{travels_in, tokens_in}
use Rattle.hpx_journal.specs.Local.{Local, is_act, is_standing, is_travel, is_recorded, is_given, outcome, failure, after, boot}
use Rattle.hpx_journal.specs.Rows.{Allowed, Runs, AreMade, IsDead, is_refused}
use Rattle.hpx_journal.specs.Whole.{Space, arrives, road_after, run_local}
use Rattle.hpx_journal.specs.Roots.{roots}

-- bytes spell nothing but well formed parcels
pub record HasGrammar (r : Rules) : Type 0 where
  pub grammar : (bytes : List ℕ) (p : Parcel) → r.parcel_of bytes ≡ Some p → IsParcel p

-- an entry at k
abbrev pub entry_at : ℕ → Event → Entry
entry_at k e = record { at = k; event = e }

-- ---- counts of entries

-- the events that give an action its name
abbrev pub is_begun : Name → Event → Bool
is_begun a (Line b bytes) = same_name a b
is_begun a (Sent b) = same_name a b
is_begun a _ = false

-- the event that fires an action
abbrev pub is_fire : Name → Event → Bool
is_fire a (Fire b) = same_name a b
is_fire a _ = false

-- the event that ends it
abbrev pub is_done : Name → Event → Bool
is_done a (Done b failed) = same_name a b
is_done a _ = false

-- the event that frees an object
abbrev pub is_freed : Id → Event → Bool
is_freed o (Freed x) = same_object o x
is_freed o _ = false

-- how often an action was fed or sent
abbrev pub begun : Name → List Entry → ℕ
begun a es = count_by (λ e. is_begun a e.event) es

-- how often an action is fired, at any locality, and at k
abbrev pub fires : Name → List Entry → ℕ
fires a es = count_by (λ e. is_fire a e.event) es

-- how often it is fired at k
abbrev pub fires_at : ℕ → Name → List Entry → ℕ
fires_at k a es = count_by (λ e. (e.at == k) && is_fire a e.event) es

-- how often it is done
abbrev pub dones : Name → List Entry → ℕ
dones a es = count_by (λ e. is_done a e.event) es

-- how often it is done at k
abbrev pub dones_at : ℕ → Name → List Entry → ℕ
dones_at k a es = count_by (λ e. (e.at == k) && is_done a e.event) es

-- how often an object is freed
abbrev pub freeds : Id → List Entry → ℕ
freeds o es = count_by (λ e. is_freed o e.event) es

-- the frames sent, from where, and the frames accepted, in order
abbrev pub outs_by : ℕ → Event → List (ℕ × Frame)
outs_by k (Out to bytes) = (k, (to, bytes)) ∷ []
outs_by k _ = []

-- all frames sent, each with where from
abbrev pub outs : List Entry → List (ℕ × Frame)
outs es = flat_map (λ e. outs_by e.at e.event) es

-- all frames accepted
abbrev pub ins : List Entry → List Frame
ins es = flat_map arrives es

-- an event that sends a parcel that passes a test
abbrev pub sends_such : (Option Parcel → Bool) → Rules → Event → Bool
sends_such test r (Out to bytes) = test (r.parcel_of bytes)
sends_such test r _ = false

-- an event that takes one in
abbrev pub takes_such : (Option Parcel → Bool) → Rules → Event → Bool
takes_such test r (In bytes) = test (r.parcel_of bytes)
takes_such test r _ = false

-- ---- refusals

-- a Give of log 0: the id comes back with no more credit
abbrev pub is_refusing : Option Parcel → Bool
is_refusing (Some (Give id entry)) = is_least id.log
is_refusing _ = false

-- an event that hands such an id over
abbrev pub hands_refusal : Event → Bool
hands_refusal (Given o log) = log == 0
hands_refusal _ = false

-- the events that write a refusal, and those that fail for one
abbrev pub is_refused_count : Event → Bool
is_refused_count (Count o count Refused) = true
is_refused_count _ = false

-- a Done that failed
abbrev pub is_failed : Event → Bool
is_failed (Done a true) = true
is_failed _ = false

-- how many entries have such an event
abbrev pub count_events : (Event → Bool) → List Entry → ℕ
count_events p es = count_by (λ e. p e.event) es

-- at a locality, what is sent or handed over with log 0 came so, or was refused there
pub record RefusesForCause (r : Rules) (es : List Entry) : Type 0 where
  pub few : count_events (sends_such is_refusing r) es + count_events hands_refusal es
      ≤ count_events (takes_such is_refusing r) es + count_events is_refused_count es

-- ---- what is freed

-- a Free of o
abbrev pub is_free_of : Id → Option Parcel → Bool
is_free_of o (Some (Free x)) = same_object o x
is_free_of o _ = false

-- a part of k that frees the dead: each dead object of k was freed here, or a Free of it was sent; and each Free that came
-- was followed by a Freed
pub record FreesTheDead (r : Rules) (k : ℕ) (es : List Entry) : Type 0 where
  pub sent : (o : Id) → o.home ≡ k → IsDead o (run_local r (boot (roots r.localities k) k) es)
      → 1 ≤ count_events (sends_such (is_free_of o) r) es + freeds o es
  pub freed : (o : Id) → count_events (takes_such (is_free_of o) r) es ≤ freeds o es

-- ---- parts and the road

-- the frames that entries leave on the road
abbrev pub road_run : List Frame → List Entry → List Frame
road_run road [] = road
road_run road (e ∷ es) = road_run (road_after road e) es

-- each entry is allowed at its locality
abbrev pub IsLegalLocal : Rules → Local → List Entry → Type 0
IsLegalLocal r s [] = Unit {0}
IsLegalLocal r s (e ∷ es) = Allowed r s e × IsLegalLocal r (after r s e.event) es

-- all entries are at k
abbrev pub AreAt : ℕ → List Entry → Type 0
AreAt k es = AllByRecursion (λ e. e.at ≡ k) es

-- the same frames, each as often
abbrev pub SameBag : List Frame → List Frame → Type 0
SameBag xs ys = (f : Frame) → count_by (same_frame f) xs ≡ count_by (same_frame f) ys

-- ---- what laws say

-- a record of o stands at its home
abbrev pub IsBorn : Id → Local → Type 0
IsBorn o s = list_any (is_recorded o) s.counts ≡ true

-- a record of o stands in the whole
abbrev pub IsBornIn : Id → Space → Type 0
IsBornIn o w = IsBorn o (w.places o.home)

-- whether an action of this name is fired there, as a number
abbrev pub fired_here : Name → Local → ℕ
fired_here a s = count_by (is_act a) s.fired

-- how many travels of o are on the road
abbrev pub travelling_in : Rules → Id → Space → ℕ
travelling_in r o w = sum_by (λ f. count_by (is_travel o) (travels_in (r.parcel_of f.1))) w.road

-- the targets of all fired actions stand there
abbrev pub TargetsStand : Local → Type 0
TargetsStand s = AllByRecursion (λ act. list_any (is_standing (target_of act)) s.objects ≡ true) s.fired

-- ---- tokens of the whole

-- how many tokens of o are held, at all localities and on the road
abbrev pub held_in : Rules → Id → Space → ℕ
held_in r o w = total r.localities (λ k. count_by (is_held o) (w.places k).tokens)
    + sum_by (λ f. count_by (is_held o) (tokens_in (r.parcel_of f.1))) w.road

-- how many are owed at the localities
abbrev pub owed_in : Rules → Id → Space → ℕ
owed_in r o w = total r.localities (λ k. count_by (is_owed o) (w.places k).tokens)

-- the tokens of an Ask or a Give
abbrev pub ask_tokens : Option Parcel → List Token
ask_tokens (Some (Ask id asker entry)) = tokens_in (Some (Ask id asker entry))
ask_tokens (Some (Give id entry)) = tokens_in (Some (Give id entry))
ask_tokens _ = []

-- how many are on the road in an Ask or a Give
abbrev pub asking_in : Rules → Id → Space → ℕ
asking_in r o w = sum_by (λ f. count_by (is_owed o) (ask_tokens (r.parcel_of f.1))) w.road

-- how often o was asked for, and was given, at all localities
abbrev pub asked_in : Rules → Id → Space → ℕ
asked_in r o w = total r.localities (λ k. count_by (same_object o) (w.places k).asked)

-- how often o was given, at all localities
abbrev pub given_in : Rules → Id → Space → ℕ
given_in r o w = total r.localities (λ k. count_by (is_given o) (w.places k).given)

-- ----

-- a frame is on the road
abbrev pub IsOnRoad : Frame → Space → Type 0
IsOnRoad f w = list_any (same_frame f) w.road ≡ true

-- what a Done does: the action was fired here, its target stood, and the makes of the outcome are fresh; the target has the
-- outcome's state, what is due is the outcome's, and the action is done
pub record Commits (r : Rules) (a : Name) (s t : Local) : Type 0 where
  pub runs : Runs s a
  pub made : AreMade (outcome r s runs.act runs.target).makes s.fresh s.objects
  pub objects : t.objects ≡ record {
    object = runs.target.object;
    state = state_after runs.target.state (plain runs.act) s.fresh (outcome r s runs.act runs.target);
  } ∷ without (is_standing runs.target.object) s.objects
  pub due : t.due ≡ due_with runs.target.state (plain runs.act) s.fresh (outcome r s runs.act runs.target)
  pub fired : t.fired ≡ without (is_act a) s.fired
  pub done : t.done ≡ runs.act ∷ s.done
  pub waiting : t.waiting ≡ s.waiting
  pub fresh : t.fresh ≡ []

-- what a failed Done does: the action was fired here, every state stays, and the failure is due
pub record Fails (a : Name) (s t : Local) : Type 0 where
  pub runs : Runs s a
  pub nothing_fresh : s.fresh ≡ []
  pub refused : list_any (is_refused runs.act runs.target.state) s.refusals ≡ true
  pub objects : t.objects ≡ s.objects
  pub due : t.due ≡ failure runs.act
  pub fired : t.fired ≡ without (is_act a) s.fired
  pub done : t.done ≡ runs.act ∷ s.done
  pub waiting : t.waiting ≡ s.waiting
  pub fresh : t.fresh ≡ []

-- ---- meanings that keep the laws of actions

-- each outcome keeps the laws of actions, in well formed states
pub record KeepsActLaws (r : Rules) : Type 0 where
  pub laws : (kind here : ℕ) (s : State) (a : Act) → here < r.localities → IsState s → IsAct a
      → KeepsLaws r.localities kind here s a (r.outcome_of kind here s a)

-- of a fresh object it is known at the Done that takes it that its state is that of a make
abbrev pub IsFormedOrFresh : List Id → Standing → Type 0
IsFormedOrFresh fresh x = (list_any (same_object x.object) fresh ≡ true) ⊎ IsState x.state

-- a message that is due is well formed
abbrev pub IsFormedDue : Due → Type 0
IsFormedDue (MessageDue m) = IsMessage m
IsFormedDue (PrintDue bytes) = Unit {0}

-- the states and actions at a locality are well formed
pub record IsFormed (s : Local) : Type 0 where
  pub objects : AllByRecursion (IsFormedOrFresh s.fresh) s.objects
  pub travels : AllByRecursion (λ x. IsState x.state) s.travels
  pub waiting : AllByRecursion IsAct s.waiting
  pub fired : AllByRecursion IsAct s.fired
  pub done : AllByRecursion IsAct s.done
  pub due : AllByRecursion IsFormedDue s.due
