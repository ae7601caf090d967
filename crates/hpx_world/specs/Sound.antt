-- What holds of all localities together, after each turn.
use Rattle.std.specs.Prelude.{ℕ, List, ◌≡◌, ◌≤◌, Some, length, set}
use Rattle.std.specs.List.{slice_get}
use Rattle.hpx_value.specs.declared.profile.Profile.{Profile}
use Rattle.hpx_journal.specs.Data.{State, Act, Outcome}
use Rattle.hpx_part.specs.Data.{Entry}
use Rattle.hpx_steps.specs.Rest.{Stands}
use Rattle.hpx_steps.specs.Limits.{IsWithin}
use Rattle.hpx_tables.specs.Tables.{Tables}

-- the meaning of actions, by the number of localities
abbrev pub Meaning : Type 0
Meaning = ℕ → ℕ → ℕ → State → Act → Outcome

-- all that holds of a locality between turns holds of the node at k of n, with its part of the one journal
pub record StandsAt (act_of : Meaning) (n : ℕ) (profile : Profile) (k : ℕ) (t : Tables) (entries : List Entry) : Type 0 where
  pub here : t.here ≡ k
  pub localities : t.localities ≡ n
  pub tuned : t.profile ≡ profile
  pub stands : Stands act_of t entries

-- there are 1 to 64 nodes, each stands for its part of the one journal, and the journal is within its limits
pub record IsSound (act_of : Meaning) (profile : Profile) (nodes : List Tables) (entries : List Entry) : Type 0 where
  pub few : length nodes ≤ 64
  pub some : 1 ≤ length nodes
  pub stand : (k : ℕ) (t : Tables) → slice_get nodes k ≡ Some t → StandsAt act_of (length nodes) profile k t entries
  pub within : IsWithin entries

-- at k this was done, and nothing elsewhere
pub record DoneAt (k : ℕ) (Does : Tables → Tables → Type 0) (nodes nodes' : List Tables) : Type 0 where
  pub before : Tables
  pub after : Tables
  pub there : slice_get nodes k ≡ Some before
  pub does : Does before after
  pub others : nodes' ≡ set nodes k after

-- nothing changed but the memory that nodes have
pub record IsSame (nodes nodes' : List Tables) (entries entries' : List Entry) : Type 0 where
  pub tables : nodes' ≡ nodes
  pub journal : entries' ≡ entries
