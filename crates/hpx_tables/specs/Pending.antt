-- Commits that wait for credit: what is in their hands meanwhile, and what was asked for.
use Rattle.std.specs.Prelude.{ℕ, Bool, true, List, [], ◌∷◌, ◌++◌, ◌+◌, ◌≡◌, ◌==◌, ◌&&◌, ◌||◌, not, cond, is_some, Option, Some, None, map, flat_map, length, take, set}
use Rattle.std.specs.List.{filter, find, list_any, slice_get, remove}
use Rattle.hpx_value.specs.Ids.{bare, same_object}
use Rattle.hpx_value.specs.Hands.{id_at}
use Rattle.hpx_value.specs.Riders.{plain, rider_of}
use Rattle.hpx_value.specs.declared.acts.Job.{Job}
use Rattle.hpx_journal.specs.Data.{Id, Act, Outcome}
use Rattle.hpx_journal.specs.Entries.{name_of}
use Rattle.hpx_part.specs.Data.{Refusal}
use Rattle.hpx_commit.specs.Deals.{is_managed, log_of}
use Rattle.hpx_commit.specs.Stocks.{Stock}
pub use Rattle.hpx_tables.specs.declared.pending.Asked.{Asked}

-- a commit that waits: its job and outcome, the ids in its hand, the places that are named there, what was asked for, and an
-- object of which there was no more
pub record Waits : Type 0 where
  pub job : Job
  pub outcome : Outcome
  pub localities : ℕ
  pub hand : List Id
  pub places : List ℕ
  pub asked : List Asked
  pub refused : Option Id

-- what is asked for at these places: each under the next number behind n
abbrev pub asked_at : ℕ → List ℕ → List Asked
asked_at n [] = []
asked_at n (p ∷ ps) = record { entry = n + 1; place = p } ∷ asked_at (n + 1) ps

-- a commit that begins to wait, with this stock, for what was asked for
abbrev pub waits_with : Job → Outcome → ℕ → List Asked → Stock → Waits
waits_with job out localities asked s = record {
  job = job;
  outcome = out;
  localities = localities;
  hand = s.hand;
  places = s.places;
  asked = asked;
  refused = None;
}

-- its action, which is still fired
abbrev pub action_of : Waits → Act
action_of w = w.job.action

-- the fired actions: those that run, and those whose commits wait
abbrev pub fired_of : List Act → List Waits → List Act
fired_of running pending = running ++ map action_of pending

-- the ids that its object names, and its action without a rider
abbrev pub ids_named : Waits → List Id
ids_named w = w.job.state.ids ++ (plain w.job.action).ids

-- all ids that it has: those in its hand, and the rider of its action
abbrev pub ids_kept : Waits → List Id
ids_kept w = w.hand ++ rider_of w.job.action

-- those of its hand: behind them come what it makes, and what was split off
abbrev pub own_ids : Waits → List Id
own_ids w = take (length (ids_named w)) w.hand

-- an id of a managed object without credit, which was asked for
abbrev pub is_asked : Id → Bool
is_asked id = is_managed id && not (is_some id.log)

-- the ids that were asked for
abbrev pub asking_of : List Waits → List Id
asking_of pending = flat_map (λ w. filter is_asked (own_ids w)) pending

-- an action of which an id was refused
abbrev pub refusal_of : Act → Option Id → List Refusal
refusal_of act None = []
refusal_of act (Some o) = record { action = name_of act; object = o } ∷ []

-- the refused ids
abbrev pub refusals_of : List Waits → List Refusal
refusals_of pending = flat_map (λ w. refusal_of w.job.action w.refused) pending

-- ---- what was asked for is given

-- what was asked for under this number, of the object of an id
abbrev pub is_asked_for : Waits → Id → ℕ → Asked → Bool
is_asked_for w o entry x = (x.entry == entry) && same_object o (id_at w.hand x.place)

-- a commit waits for it
abbrev pub awaits : Id → ℕ → Waits → Bool
awaits o entry w = list_any (is_asked_for w o entry) w.asked

-- the id stands at its place in the hand, and was asked for no more; one without more credit is refused
abbrev pub refilled : ℕ → ℕ → Id → Waits → Waits
refilled k place id w = record w {
  hand = set w.hand place id;
  asked = remove w.asked k;
  refused = cond (log_of id.log == 0) (Some (bare id)) w.refused;
}

-- it is given to a commit that waits for it, at the first place that was asked for so
pub record Refills (id : Id) (entry : ℕ) (w w' : Waits) : Type 0 where
  pub k : ℕ
  pub ask : Asked
  pub first : find (is_asked_for w id entry) w.asked ≡ Some ask
  pub there : slice_get w.asked k ≡ Some ask
  pub for : is_asked_for w id entry ask ≡ true
  pub now : w' ≡ refilled k ask.place id w

-- it waits for one id alone, and none was refused
abbrev pub waits_for_one : Waits → Bool
waits_for_one w = (length w.asked == 1) && not (is_some w.refused)

-- a commit fails with this id: it waits for nothing else, and this or another has no more credit
abbrev pub fails_with : Id → Waits → Bool
fails_with id w = (length w.asked == 1) && ((log_of id.log == 0) || is_some w.refused)

-- ids, with one at the place for which it was asked
abbrev pub put_for : List Id → Id → Option Asked → List Id
put_for hand id None = hand
put_for hand id (Some ask) = set hand ask.place id

-- its hand with an id that was asked for under this number
abbrev pub hand_with : Id → ℕ → Waits → List Id
hand_with id entry w = put_for w.hand id (find (is_asked_for w id entry) w.asked)
