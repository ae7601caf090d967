-- A view stands for a locality's part of a journal.
use Rattle.std.specs.Prelude.{ℕ, true, List, [], ◌∷◌, ◌≡◌, ◌+◌, map, None, Some}
use Rattle.std.specs.List.{sum_by, count_by, list_any, AllByRecursion}
use Rattle.hpx_value.specs.Ids.{same_object}
use Rattle.hpx_journal.specs.Data.{Id, Parcel, Apply, Return, Ask, Give, Cached, Move, Go, Shipped, Arrived, Free}
use Rattle.hpx_value.specs.Values.{bare_act}
use Rattle.hpx_journal.specs.Entries.{Rules, move_to}
use Rattle.hpx_journal.specs.Local.{boot}
use Rattle.hpx_journal.specs.Foreign.{NodeKeeps}
use Rattle.hpx_journal.specs.Roots.{roots}
use Rattle.hpx_journal.specs.Whole.{part, run_local, IsClean}
use Rattle.hpx_journal.specs.Laws.{entry_at}
use Rattle.hpx_part.specs.View.{View, IsCovered}
use Rattle.hpx_part.specs.Shows.{IsWeight, Shows, HasForm}
use Rattle.hpx_part.specs.Data.{Name, Event, Entry, Token, Local}

-- these events at k
abbrev pub at_all : ℕ → List Event → List Entry
at_all k events = map (entry_at k) events

-- the locality at boot
abbrev pub at_boot : Rules → ℕ → Local
at_boot r k = boot (roots r.localities k) k

-- the locality keeps its part, and up to a foreign arrival the view shows where that leads
pub record StandsFor (r : Rules) (v : View) (entries : List Entry) : Type 0 where
  pub covered : IsCovered v
  pub keeps : NodeKeeps r (at_boot r v.here) (part v.here entries)
  pub shows : IsClean r (at_boot r v.here) (part v.here entries) → Shows v (run_local r (at_boot r v.here) (part v.here entries))
  pub forms : AllByRecursion (λ e. HasForm r e.event) (part v.here entries)

-- what is seen at boot
abbrev pub view_at_boot : ℕ → ℕ → View
view_at_boot n k = record {
  here = k;
  serial = 0;
  number = 0;
  waiting = [];
  fired = [];
  objects = roots n k;
  travels = [];
  fresh = [];
  due = [];
  tokens = [];
  asking = [];
  asks = [];
  live = [];
  dead = [];
  refusals = [];
  failing = 0;
  last = None;
}

-- some tokens go, and others come
pub record Trades (before out into after : List Token) : Type 0 where
  pub sums : (f : Token → ℕ) → IsWeight f → sum_by f after + sum_by f out ≡ sum_by f before + sum_by f into

-- one more id of o
abbrev pub Adds : Id → List Id → List Id → Type 0
Adds o before after = (x : Id) → count_by (same_object x) after ≡ count_by (same_object x) before + count_by (same_object x) (o ∷ [])

-- the next name
abbrev pub next_in : View → Name
next_in v = record { origin = v.here; serial = v.serial + 1 }

-- where a parcel may go from here, its actions and its object aside
abbrev pub MayLeave : View → ℕ → Parcel → Type 0
MayLeave v to (Apply act) = Unit {0}
MayLeave v to (Move act) = Unit {0}
MayLeave v to (Go act) = Unit {0}
MayLeave v to (Shipped act state) = move_to (bare_act act) ≡ Some to
MayLeave v to (Return id) = to ≡ id.home
MayLeave v to (Ask id asker entry) = to ≡ id.home
MayLeave v to (Arrived id place) = to ≡ id.home
MayLeave v to (Give id entry) = v.here ≡ id.home
MayLeave v to (Free o) = (v.here ≡ o.home) × (list_any (same_object o) v.dead ≡ true)
MayLeave v to (Cached o place) = Unit {0}
