-- What the home of an object counts of its moves: what it began is under way, or was told.
use Rattle.std.specs.Prelude.{ℕ, not, cond, List, ◌≡◌, ◌≤◌, ◌<◌, ◌+◌, ◌==◌, ◌&&◌, ◌⊎◌, is_some, Option, Some}
use Rattle.std.specs.List.{sum_by}
use Rattle.std.specs.Option.{option_map_or}
use Rattle.hpx_value.specs.Ids.{same_object}
use Rattle.hpx_journal.specs.Data.{Id, Parcel, Go, Free}
use Rattle.hpx_journal.specs.Entries.{Rules, target_of}
use Rattle.hpx_journal.specs.Rows.{is_to}
use Rattle.hpx_part.specs.Data.{Entry, Event, Count, Freed, Left, Landed, Out, In}
use Rattle.hpx_agas.specs.Records.{find_record}
use Rattle.hpx_agas.specs.declared.record.Record.{Record}
use Rattle.hpx_tables.specs.Kept.{record_here}
use Rattle.hpx_steps.specs.Items.{Item, Came, Mailed, OnDesk, Going, Leaving, Stray, Brought, Untold, weigh}
use Rattle.hpx_steps.specs.Rows.{go_to, one_if, tells_at, weighed}
use Rattle.hpx_steps.specs.Turn.{Turn}

-- what is counted of an object: moves of it to a place, and what takes it from a place or brings it there; and the same with what frees it
pub data Flow : Type 0 where
  MovesTo : Id → ℕ → Flow
  PlacedAt : Id → ℕ → Flow
  EndsAt : Id → ℕ → Flow

-- of which object
abbrev pub flow_of : Flow → Id
flow_of (MovesTo o t) = o
flow_of (PlacedAt o j) = o
flow_of (EndsAt o j) = o

-- 1 for a grant of a move of o, for j
abbrev pub go_for : Id → ℕ → ℕ → Parcel → ℕ
go_for o j k (Go act) = one_if (same_object o (target_of act) && (j == k))
go_for o j k _ = 0

-- 1 for what frees o, for j
abbrev pub free_for : Id → ℕ → ℕ → Parcel → ℕ
free_for o j k (Free x) = one_if (same_object o x && (j == k))
free_for o j k _ = 0

-- what a message counts that is to be dealt with at k
abbrev pub flow_in : ℕ → Flow → Parcel → ℕ
flow_in k (MovesTo o t) p = go_to o t p + tells_at o t p
flow_in k (PlacedAt o j) p = go_for o j k p + tells_at o j p
flow_in k (EndsAt o j) p = go_for o j k p + tells_at o j p + free_for o j k p

-- and one that was granted there, or goes to a locality
abbrev pub flow_go : ℕ → Flow → Parcel → ℕ
flow_go k (MovesTo o t) p = go_to o t p
flow_go k (PlacedAt o j) p = go_for o j k p
flow_go k (EndsAt o j) p = go_for o j k p + free_for o j k p

-- and an object that landed there
abbrev pub flow_at : ℕ → Flow → Id → ℕ
flow_at k (MovesTo o t) x = one_if (same_object o x && (t == k))
flow_at k (PlacedAt o j) x = one_if (same_object o x && (j == k))
flow_at k (EndsAt o j) x = one_if (same_object o x && (j == k))

-- and one that leaves from there
abbrev pub flow_left : ℕ → Flow → Id → ℕ → ℕ
flow_left k (MovesTo o t) x to = one_if (same_object o x && (to == t))
flow_left k (PlacedAt o j) x to = one_if (same_object o x && (j == k))
flow_left k (EndsAt o j) x to = one_if (same_object o x && (j == k))

-- and one that is freed there
abbrev pub flow_freed : ℕ → Flow → Id → ℕ
flow_freed k (MovesTo o t) x = 0
flow_freed k (PlacedAt o j) x = 0
flow_freed k (EndsAt o j) x = one_if (same_object o x && (j == k))

-- what is under way at k
abbrev pub flow : ℕ → Flow → Item → ℕ
flow k f (Came p) = flow_in k f p
flow k f (Mailed p) = flow_in k f p
flow k f (OnDesk p) = flow_in k f p
flow k f (Going x) = flow_go x.to f x.parcel
flow k f (Leaving p) = flow_go k f p
flow k f (Stray p) = flow_go k f p
flow k f (Brought a) = flow_at k f a.object
flow k f (Untold x) = flow_at k f x
flow k f _ = 0

-- what comes with an entry, and what goes
abbrev pub flow_comes : Rules → ℕ → Flow → Event → ℕ
flow_comes r k f (In bytes) = weighed (flow_in k f) (r.parcel_of bytes)
flow_comes r k f (Landed x) = flow_at k f x
flow_comes r k f _ = 0

abbrev pub flow_goes : Rules → ℕ → Flow → Event → ℕ
flow_goes r k f (Out to bytes) = weighed (flow_go to f) (r.parcel_of bytes)
flow_goes r k f (Left x to) = flow_left k f x to
flow_goes r k f (Freed x) = flow_freed k f x
flow_goes r k f _ = 0

-- the last credit of o came home
abbrev pub dies : Id → Event → ℕ
dies o (Count x count why) = one_if ((count == 0) && same_object o x)
dies o _ = 0

-- what a record says: that its object moves there; that it has a home; that it is there, and does not move
abbrev pub record_moves : ℕ → Flow → Option Record → ℕ
record_moves k (MovesTo o t) x = option_map_or (λ (y : Record). one_if (is_to t y.moving)) x 0
record_moves k (PlacedAt o j) x = option_map_or (λ (y : Record). one_if (j == k)) x 0
record_moves k (EndsAt o j) x = option_map_or (λ (y : Record). one_if (j == k)) x 0

abbrev pub record_rests : Flow → Option Record → ℕ
record_rests (MovesTo o t) x = 0
record_rests (PlacedAt o j) x = option_map_or (λ (y : Record). one_if (not (is_some y.moving) && (y.place == j))) x 0
record_rests (EndsAt o j) x = option_map_or (λ (y : Record). one_if (not (is_some y.moving) && (y.place == j))) x 0

-- of each object of this home, as long as it has credit: what it moves, and what came, is what is under way, went, or rests; also when it
-- has none any more, no place is freed but one that it was at
pub record IsFlowing (r : Rules) (s : Turn) (entries : List Entry) : Type 0 where
  pub flows : (f : Flow) → (flow_of f).home ≡ s.tables.here → (1 ≤ sum_by (λ (e : Entry). dies (flow_of f) e.event) entries)
      ⊎ (record_moves s.tables.here f (record_here s.tables (flow_of f)) + sum_by (λ (e : Entry). flow_comes r s.tables.here f e.event) entries
      ≡ weigh (flow s.tables.here f) s + sum_by (λ (e : Entry). flow_goes r s.tables.here f e.event) entries + record_rests f (record_here s.tables (flow_of f)))
  pub ends : (o : Id) (j : ℕ) → o.home ≡ s.tables.here → record_moves s.tables.here (EndsAt o j) (record_here s.tables o)
      + cond (j == s.tables.here) (sum_by (λ (e : Entry). dies o e.event) entries) 0 + sum_by (λ (e : Entry). flow_comes r s.tables.here (EndsAt o j) e.event) entries
      ≤ weigh (flow s.tables.here (EndsAt o j)) s + sum_by (λ (e : Entry). flow_goes r s.tables.here (EndsAt o j) e.event) entries + record_rests (EndsAt o j) (record_here s.tables o)
  pub near : (o : Id) (x : Record) → find_record o s.tables.records ≡ Some x → (x.place ≡ s.tables.here) ⊎ (x.place < s.tables.localities)
