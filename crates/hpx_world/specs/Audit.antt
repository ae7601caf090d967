-- The audit of all localities.
use Rattle.std.specs.Prelude.{ℕ, true, List, [], ◌∷◌, ◌≡◌, ◌≤◌, ◌<◌, ◌⊎◌, ◌+◌, ◌-◌, ◌^◌, min, map, flat_map}
use Rattle.std.specs.List.{sum_by, count_by, list_any, AllByRecursion}
use Rattle.hpx_value.specs.Ids.{same_object}
use Rattle.hpx_agas.specs.declared.record.Record.{Record}
use Rattle.hpx_journal.specs.Bags.{total}
use Rattle.hpx_journal.specs.Data.{Id}
use Rattle.hpx_journal.specs.Entries.{Rules}
use Rattle.hpx_journal.specs.Frames.{tokens_in}
use Rattle.hpx_journal.specs.Local.{is_standing}
use Rattle.hpx_journal.specs.Tokens.{worth}
use Rattle.hpx_journal.specs.Whole.{Space, recorded_in, part, replayed}
use Rattle.hpx_tables.specs.Kept.{HasRecords, held_here, held_worth, owed_worth}
use Rattle.hpx_tables.specs.Tables.{Tables}
use Rattle.hpx_world.specs.declared.audit.AuditLine.{AuditLine}
use Rattle.hpx_journal.specs.Laws.{count_events}
use Rattle.hpx_journal.specs.Moving.{is_landed_of}
use Rattle.hpx_part.specs.Data.{Entry}

-- the credit of o that is held, at all nodes; no more than 2^128 - 1 is told
abbrev pub held_in_all : Id → List Tables → ℕ
held_in_all o nodes = min (2 ^ 128 - 1) (sum_by (λ t. held_here t o) nodes)

-- the line of a live record
abbrev pub audit_line : List Tables → Record → AuditLine
audit_line nodes x = record {
  gid = x.gid;
  recorded = x.count;
  held = held_in_all x.gid nodes;
  flight = x.count - held_in_all x.gid nodes;
  at = x.place;
}

-- those of one node, by rising number
abbrev pub lines_at : List Tables → Tables → List AuditLine
lines_at nodes t = map (audit_line nodes) t.records

-- those of all nodes, by home
abbrev pub audit_lines : List Tables → List AuditLine
audit_lines nodes = flat_map (lines_at nodes) nodes

-- each node's records are its own
abbrev pub HaveRecords : List Tables → Type 0
HaveRecords nodes = AllByRecursion HasRecords nodes

-- a line goes before another: its home is lesser, or it is the same and its number is lesser
abbrev pub IsBefore : AuditLine → AuditLine → Type 0
IsBefore x y = (x.gid.home < y.gid.home) ⊎ ((x.gid.home ≡ y.gid.home) × (x.gid.number < y.gid.number))

-- each line goes before all that come later
abbrev pub AreOrdered : List AuditLine → Type 0
AreOrdered [] = Unit {0}
AreOrdered (x ∷ xs) = AllByRecursion (IsBefore x) xs × AreOrdered xs

-- ---- what they say of the space

-- the credits of o that are held at the localities
abbrev pub held_at_all : Rules → Id → Space → ℕ
held_at_all r o w = total r.localities (λ k. sum_by (held_worth o) (w.places k).tokens)

-- the credits of o that are owed there, or on the road
abbrev pub away_of : Rules → Id → Space → ℕ
away_of r o w = total r.localities (λ k. sum_by (owed_worth o) (w.places k).tokens)
    + sum_by (λ f. sum_by (worth o) (tokens_in (r.parcel_of f.1))) w.road

-- an object has landed at k
abbrev pub HasLanded : Id → ℕ → List Entry → Type 0
HasLanded o k es = 1 ≤ count_events (is_landed_of o) (part k es)

-- a line tells what is recorded of its object, what is held, and what is away; and where it is: at its home, or where it has landed
pub record Tells (r : Rules) (es : List Entry) (x : AuditLine) : Type 0 where
  pub some : 1 ≤ x.recorded
  pub recorded_is : x.recorded ≡ recorded_in x.gid (replayed r es)
  pub held_is : x.held ≡ held_at_all r x.gid (replayed r es)
  pub flight_is : x.flight ≡ away_of r x.gid (replayed r es)
  pub at_is : (x.at ≡ x.gid.home) ⊎ HasLanded x.gid x.at es

-- each line tells so, and each object of which credit is out has exactly one
pub record IsAudit (r : Rules) (es : List Entry) (lines : List AuditLine) : Type 0 where
  pub tell : AllByRecursion (Tells r es) lines
  pub each : (o : Id) → 1 ≤ recorded_in o (replayed r es) → count_by (λ x. same_object o x.gid) lines ≡ 1

-- an object stands at k, one of n localities
pub record StandsIn (n : ℕ) (w : Space) (o : Id) (k : ℕ) : Type 0 where
  pub below : k < n
  pub stands : list_any (is_standing o) (w.places k).objects ≡ true

-- each object that they tell of stands where they say
abbrev pub StandWhereTold : Rules → List Entry → List AuditLine → Type 0
StandWhereTold r es lines = AllByRecursion (λ (x : AuditLine). StandsIn r.localities (replayed r es) x.gid x.at) lines
