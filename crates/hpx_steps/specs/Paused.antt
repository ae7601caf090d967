-- Commits: what is in their hands, and how they stand against what else a locality keeps.
use Rattle.std.specs.Prelude.{ℕ, true, false, List, [], ◌∷◌, ◌≡◌, ◌≢◌, ◌⊎◌, ◌≤◌, ◌<◌, ◌&&◌, ◌==◌, cond, not, is_some, map, length, drop, Option, Some, None}
use Rattle.std.specs.List.{find, list_any, sum_by, count_by, AllByRecursion}
use Rattle.hpx_value.specs.Ids.{bare, same_object}
use Rattle.hpx_value.specs.Values.{bare_state}
use Rattle.hpx_value.specs.Hands.{id_at, hand_ids}
use Rattle.hpx_value.specs.Riders.{plain}
use Rattle.hpx_parcel.specs.Parcels.{HasRightCredit, IsBare}
use Rattle.hpx_journal.specs.Data.{Id, Act}
use Rattle.hpx_journal.specs.Entries.{target_of}
use Rattle.hpx_journal.specs.Local.{is_standing, is_busy}
use Rattle.hpx_part.specs.Data.{Standing}
use Rattle.hpx_commit.specs.Deals.{AreWithin, places_named}
use Rattle.hpx_commit.specs.Stocks.{Stock, ahead, Lasting}
use Rattle.hpx_tables.specs.Pending.{Waits, action_of, fired_of, ids_named, own_ids, is_asked}
use Rattle.hpx_tables.specs.Jobs.{IsFitJob}

-- how often ids name o
abbrev pub names_of : Id → List Id → ℕ
names_of o ids = count_by (same_object o) ids

-- how many of these ids name o and have no credit
abbrev pub bare_names : Id → List Id → ℕ
bare_names o ids = count_by (λ id. same_object o id && not (is_some id.log)) ids

-- no two of these actions keep one object busy
abbrev pub Apart : List Act → Type 0
Apart [] = Unit {0}
Apart (act ∷ acts) = (is_busy (target_of act) acts ≡ false) × Apart acts

-- no object stands here twice
abbrev pub Single : List Standing → Type 0
Single [] = Unit {0}
Single (x ∷ xs) = (find (is_standing x.object) xs ≡ None) × Single xs

-- ---- a commit

-- a commit at k, of n localities: its hand names what its object and its plain action name; of these each managed id without credit is
-- asked for once, and one that was refused is among them
pub record IsCommit (k n : ℕ) (w : Waits) : Type 0 where
  pub job : IsFitJob w.job
  pub here : w.job.at ≡ k
  pub localities : w.localities ≡ n
  pub few : (n ≤ 64) × (w.job.at < n)
  pub hand : map bare (own_ids w) ≡ map bare (ids_named w)
  pub within : AllByRecursion (λ x. x.place < length (ids_named w)) w.asked
  pub refused : (o : Id) → w.refused ≡ Some o → list_any (same_object o) (ids_named w) ≡ true
  pub once : (p : ℕ) → p < length (ids_named w) → count_by (λ x. x.place == p) w.asked ≡ cond (is_asked (id_at w.hand p)) 1 0

-- ---- a commit that waits

-- the stock of its job as it was before, if the objects that it makes had these ids
abbrev pub whole_stock : Waits → List Id → Stock
whole_stock w made = record {
  hand = hand_ids w.job.state (plain w.job.action) made;
  places = places_named w.job.state (plain w.job.action) made w.outcome;
}

-- the same as it was split ahead
abbrev pub first_stock : Waits → List Id → Stock
first_stock w made = ahead (length (ids_named w)) (whole_stock w made)

-- an id that does not last was asked for: it has no credit, it came with the credit of a new object, or it was refused
abbrev pub IsShort : ℕ → Option Id → Id → Type 0
IsShort log refused id = (id.log ≡ None) ⊎ ((id.log ≡ Some log) ⊎ ((id.log ≡ Some 0) × (refused ≢ None)))

-- what is in the hand of a commit that waits: what its job had, split ahead; each id that does not last was asked for
pub record HasSplit (log : ℕ) (w : Waits) : Type 0 where
  pub made : List Id
  pub kinds : map (λ id. id.kind) made ≡ map (λ make. make.kind) w.outcome.makes
  pub bare : AllByRecursion IsBare made
  pub within : AreWithin (whole_stock w made).hand (whole_stock w made).places
  pub places : w.places ≡ (first_stock w made).places
  pub rest : drop (length (ids_named w)) w.hand ≡ drop (length (ids_named w)) (first_stock w made).hand
  pub own : (p : ℕ) → p < length (ids_named w) → Lasting (first_stock w made) p → id_at w.hand p ≡ id_at (first_stock w made).hand p
  pub short : (p : ℕ) → p < length (ids_named w) → (Lasting (first_stock w made) p → ⊥) → IsShort log w.refused (id_at w.hand p)

-- ---- commits beside what else is kept

-- the object of a commit stands here as its job found it, but without credits
pub record HasObject (objects : List Standing) (w : Waits) : Type 0 where
  pub standing : Standing
  pub found : find (is_standing (target_of w.job.action)) objects ≡ Some standing
  pub kind : standing.object.kind ≡ w.job.kind
  pub state : standing.state ≡ bare_state w.job.state

-- the ids of an object that no commit keeps busy have their credits
abbrev pub IsWhole : List Waits → Standing → Type 0
IsWhole commits x = is_busy x.object (map action_of commits) ≡ false → AllByRecursion HasRightCredit x.state.ids

-- no more ids of states are without credit than commits have in hand
abbrev pub AreLent : List Standing → List Waits → Type 0
AreLent objects commits = (o : Id) → 16 ≤ o.kind
    → sum_by (λ x. bare_names o x.state.ids) objects ≤ sum_by (λ w. names_of o w.job.state.ids) commits

-- commits beside these objects and actions that run: their objects stand here, and no two fired actions keep one busy
pub record HasCommits (objects : List Standing) (running : List Act) (commits : List Waits) : Type 0 where
  pub each : AllByRecursion (HasObject objects) commits
  pub apart : Apart (fired_of running commits)
  pub whole : AllByRecursion (IsWhole commits) objects
  pub lent : AreLent objects commits
