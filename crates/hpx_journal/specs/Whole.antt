-- All localities, and the road between them.
use Rattle.std.specs.Prelude.{ℕ, false, cond, List, [], ◌∷◌, ◌++◌, ◌≡◌, ◌<◌, ◌==◌, ◌+◌, None}
use Rattle.std.specs.List.{filter, sum_by, count_by, find, AllByRecursion}
use Rattle.hpx_value.specs.Ids.{same_object}
use Rattle.hpx_journal.specs.Data.{Id}
use Rattle.hpx_journal.specs.Bags.{minus, Covers, total}
use Rattle.hpx_journal.specs.Entries.{Event, Out, In, Entry, Standing, Rules, Frame, same_frame}
use Rattle.hpx_journal.specs.Tokens.{worth}
use Rattle.hpx_journal.specs.Frames.{acts_in, travels_in, tokens_in}
use Rattle.hpx_journal.specs.Local.{Local, is_standing, recorded, after, boot}
use Rattle.hpx_journal.specs.Rows.{Allowed, IsDead}
use Rattle.hpx_journal.specs.Names.{names}
use Rattle.hpx_journal.specs.Foreign.{NodeKeeps, IsForeign}
use Rattle.hpx_journal.specs.Roots.{roots}

-- what each locality has, and the frames that were sent and not yet accepted
pub record Space : Type 0 where
  pub places : ℕ → Local
  pub road : List Frame

-- the frame that an event puts on the road
abbrev pub sends : Event → List Frame
sends (Out to bytes) = (to, bytes) ∷ []
sends _ = []

-- the frame that an event at k takes from the road
abbrev pub arrives_at : ℕ → Event → List Frame
arrives_at k (In bytes) = (k, bytes) ∷ []
arrives_at k _ = []

-- the frame that an entry takes from the road
abbrev pub arrives : Entry → List Frame
arrives e = arrives_at e.at e.event

-- the road after an entry
abbrev pub road_after : List Frame → Entry → List Frame
road_after road e = sends e.event ++ minus same_frame road (arrives e)

-- another locality in the place of k
abbrev pub at_place : (ℕ → Local) → ℕ → Local → ℕ → Local
at_place places k s j = cond (k == j) s (places j)

-- the space after an entry
unfoldable pub step : Rules → Space → Entry → Space
step r w e = record {
  places = at_place w.places e.at (after r (w.places e.at) e.event);
  road = road_after w.road e;
}

-- the space after entries
abbrev pub run : Rules → Space → List Entry → Space
run r w [] = w
run r w (e ∷ es) = run r (step r w e) es

-- the roots, and nothing else
abbrev pub start : (ℕ → List Standing) → Space
start roots = record { places = λ k. boot (roots k) k; road = [] }

-- the space that a journal leads to
abbrev pub replayed : Rules → List Entry → Space
replayed r es = run r (start (roots r.localities)) es

-- an entry of the whole journal: its locality may write it, and the frame that it takes in is on the road
pub record MayStand (r : Rules) (w : Space) (e : Entry) : Type 0 where
  pub place : e.at < r.localities
  pub allowed : Allowed r (w.places e.at) e
  pub road : Covers same_frame w.road (arrives e)

-- entries that may stand one after another, from a space on
abbrev pub IsLegalFrom : Rules → Space → List Entry → Type 0
IsLegalFrom r w [] = Unit {0}
IsLegalFrom r w (e ∷ es) = MayStand r w e × IsLegalFrom r (step r w e) es

-- a legal journal
abbrev pub IsLegal : Rules → List Entry → Type 0
IsLegal r es = IsLegalFrom r (start (roots r.localities)) es

-- ---- parts

-- the entries at k
abbrev pub part : ℕ → List Entry → List Entry
part k es = filter (λ e. e.at == k) es

-- what a locality's own entries lead to
abbrev pub run_local : Rules → Local → List Entry → Local
run_local r s [] = s
run_local r s (e ∷ es) = run_local r (after r s e.event) es

-- no entry is a foreign arrival
abbrev pub IsClean : Rules → Local → List Entry → Type 0
IsClean r s [] = Unit {0}
IsClean r s (e ∷ es) = (IsForeign r s e.event → ⊥) × IsClean r (after r s e.event) es

-- each frame taken in is on the road
abbrev pub IsCarried : Rules → List Frame → List Entry → Type 0
IsCarried r road [] = Unit {0}
IsCarried r road (e ∷ es) = (e.at < r.localities) × Covers same_frame road (arrives e) × IsCarried r (road_after road e) es

-- node journals put together in an order in which nothing comes that was not sent
pub record IsJoinFrom (r : Rules) (w : Space) (es : List Entry) : Type 0 where
  pub parts : (k : ℕ) → k < r.localities → NodeKeeps r (w.places k) (part k es)
  pub carried : IsCarried r w.road es

-- a join from boot on
abbrev pub IsJoin : Rules → List Entry → Type 0
IsJoin r es = IsJoinFrom r (start (roots r.localities)) es

-- ---- counts and names of the whole

-- the credits of o: at all localities, and on the road
abbrev pub credit_sum : Rules → Id → Space → ℕ
credit_sum r o w = total r.localities (λ k. sum_by (worth o) (w.places k).tokens)
    + sum_by (λ f. sum_by (worth o) (tokens_in (r.parcel_of f.1))) w.road

-- the count of o in the record of its home
abbrev pub recorded_in : Id → Space → ℕ
recorded_in o w = recorded o (w.places o.home)

-- o is dead
abbrev pub IsDeadIn : Id → Space → Type 0
IsDeadIn o w = IsDead o (w.places o.home)

-- how often a frame names o
abbrev pub frame_names : Rules → Id → Frame → ℕ
frame_names r o f = sum_by (λ act. count_by (same_object o) act.ids) (acts_in (r.parcel_of f.1))
    + sum_by (λ x. count_by (same_object o) x.state.ids) (travels_in (r.parcel_of f.1))

-- how often o is named, at all localities and on the road
abbrev pub names_in : Rules → Id → Space → ℕ
names_in r o w = total r.localities (λ k. names o (w.places k)) + sum_by (frame_names r o) w.road

-- ---- quiet

-- nothing is under way at a locality, and no credit is owed there
pub record IsQuietAt (s : Local) : Type 0 where
  pub waiting : s.waiting ≡ []
  pub fired : s.fired ≡ []
  pub travels : s.travels ≡ []
  pub fresh : s.fresh ≡ []
  pub due : s.due ≡ []
  pub owed : AllByRecursion (λ t. t.owed ≡ false) s.tokens

-- nothing is under way anywhere, and each dead object is gone
pub record IsQuiet (r : Rules) (w : Space) : Type 0 where
  pub road : w.road ≡ []
  pub places : (k : ℕ) → k < r.localities → IsQuietAt (w.places k)
  pub gone : (o : Id) (k : ℕ) → k < r.localities → IsDeadIn o w → find (is_standing o) (w.places k).objects ≡ None
