-- The ids that are held, by key.
use Rattle.std.specs.Prelude.{ℕ, Bool, true, false, ◌+◌, ◌-◌, ◌<◌, ◌≤◌, ◌≡◌, List, sum_by, Option, Some, None, IsSomeAnd, slice_index_or, if◌then◌else◌}
use Rattle.std.specs.Option.{option_map, option_map_or}
use Rattle.hpx_value.specs.Ids.{Id, bare, same_object, credit}
use Rattle.hpx_ids.specs.declared.held.Held.{Held}
use Rattle.hpx_ids.specs.declared.held.Owner.{Owner}

-- what is at each key from 0 on, and for how many more ids there is memory
pub record Table : Type 0 where
  pub slots : List (Option Held)
  pub spare : ℕ

-- what is at a key
abbrev pub entry : Table → ℕ → Option Held
entry t e = slice_index_or t.slots e None

-- an entry that is not asked for
abbrev pub adopted : Id → Owner → Held
adopted id owner = record { gid = id; owner = owner; asking = false }

-- the sum of a weight over the entries
abbrev pub held_sum : (Held → ℕ) → Table → ℕ
held_sum f t = sum_by (λ slot. option_map_or f slot 0) t.slots

-- what an id is worth to an object
abbrev pub credit_for : Id → Id → ℕ
credit_for object id = (if same_object object id then credit id else 0)

-- what an entry holds of an object: nothing while it is asked for
abbrev pub credit_at : Id → Option Held → ℕ
credit_at object None = 0
credit_at object (Some h) = (if h.asking then 0 else credit_for object h.gid)

-- what the entries hold of an object
abbrev pub credit_sum : Id → Table → ℕ
credit_sum object t = sum_by (credit_at object) t.slots

-- the log of a half
abbrev pub less_one : Option ℕ → Option ℕ
less_one log = option_map (λ l. l - 1) log

-- half of an id
abbrev pub half : Id → Id
half id = record id { log = less_one id.log }

-- an id with twice its credit
abbrev pub double : Id → Id
double id = record id { log = option_map (λ l. l + 1) id.log }

-- its credit can be doubled
abbrev pub CanDouble : Id → Type 0
CanDouble id = IsSomeAnd id.log (λ log. log < 31)

-- its credit can be halved
abbrev pub CanSplit : Id → Type 0
CanSplit id = IsSomeAnd id.log (λ log. 1 ≤ log)

-- an entry that is not asked for
abbrev pub IsIdle : Held → Type 0
IsIdle h = h.asking ≡ false

-- one whose credit can be halved
abbrev pub IsSplittable : Held → Type 0
IsSplittable h = IsIdle h × CanSplit h.gid

-- one whose credit has run out
abbrev pub IsSpent : Held → Type 0
IsSpent h = IsIdle h × (h.gid.log ≡ Some 0)

-- an entry that is asked for: its credit has left
abbrev pub asked : Held → Held
asked h = record h { gid = bare h.gid; asking = true }

-- there is an entry that waits for an id of this object
abbrev pub AsksFor : Option Held → Id → Type 0
AsksFor slot id = IsSomeAnd slot (λ h. (h.asking ≡ true) × (bare h.gid ≡ bare id))

-- what is told of an entry
abbrev pub shown : Held → Id × Owner × Bool
shown h = (h.gid, h.owner, h.asking)

-- there is an entry of this owner
abbrev pub IsKeptBy : Option Held → Owner → Type 0
IsKeptBy slot owner = IsSomeAnd slot (λ h. h.owner ≡ owner)

-- two entries hold one object with one credit, which can be doubled, and neither is asked for
abbrev pub AreAlike : Option Held → Option Held → Type 0
AreAlike slot other =
    IsSomeAnd slot (λ h. IsSomeAnd other (λ g. IsIdle h × IsIdle g × (bare h.gid ≡ bare g.gid) × (h.gid.log ≡ g.gid.log) × CanDouble h.gid))
