-- The records that a home keeps, and what waits for them.
use Rattle.std.specs.Prelude.{ℕ, ◌≤◌, ◌<◌, ◌≡◌, ◌≢◌, ◌+◌, ◌-◌, ◌^◌, ◌==◌, List, [], length, Option, Some, None, is_some, nat_lt, IsSomeAnd, if◌then◌else◌, refl}
use Rattle.std.specs.Option.{option_map_or, option_and_then}
use Rattle.hpx_value.specs.Ids.{Id, bare_id, credit}
use Rattle.hpx_value.specs.Profiles.{IsValid}
use Rattle.hpx_value.specs.declared.profile.Profile.{Profile}
use Rattle.hpx_agas.specs.declared.record.Record.{Record}
use Rattle.hpx_agas.specs.declared.record.Waiting.{Waiting}
use Rattle.hpx_agas.specs.declared.records.Left.{Left}
use Rattle.hpx_agas.specs.declared.records.Left.TheVariants.{Alive, Dead}
use Rattle.hpx_agas.specs.declared.records.Granted.{Granted}
use Rattle.hpx_agas.specs.declared.records.Granted.TheVariants.{Limit, Yes}
use Rattle.hpx_agas.specs.Codes.{profile_code, record_code}
use Rattle.hpx_agas.specs.Records.{find_record, Rises}
use Rattle.hpx_agas.specs.Queues.{items_of, waiting_code}
use Rattle.std.specs.Coded.{Coded, code_by, coded×, coded_ℕ, coded_list}

-- the records by rising number, what waits for the numbers, how many births there were, and for how many more births and items there is memory
pub record Registry (Q : Type 0) : Type 0 where
  pub here : ℕ
  pub profile : Profile
  pub births : ℕ
  pub records : List Record
  pub waiting : List (Waiting Q)
  pub spare : ℕ

module _ {Q : Type 0} where
  -- the live record of an object
  abbrev pub record_of : Registry Q → Id → Option Record
  record_of t id = find_record id t.records

  -- what waits for an object, the oldest first
  abbrev pub queue_of : Registry Q → Id → List Q
  queue_of t id = (if is_some (record_of t id) then items_of id.number t.waiting else [])

  -- the credit of an object that is out
  abbrev pub count_of : Registry Q → Id → ℕ
  count_of t id = option_map_or (λ (r : Record). r.count) (record_of t id) 0

  -- where an object moves to
  abbrev pub move_of : Registry Q → Id → Option ℕ
  move_of t id = option_and_then (λ (r : Record). r.moving) (record_of t id)

  -- the record of the next object of this kind
  abbrev pub newborn : Registry Q → ℕ → Record
  newborn t kind = record { gid = bare_id t.here kind (t.births + 1); count = 2 ^ t.profile.credit_log; place = t.here; moving = None }

-- there is a record whose count covers the credit of this id
abbrev pub Covers : Option Record → Id → Type 0
Covers slot id = IsSomeAnd slot (λ r. credit id ≤ r.count)

-- what is known of each record: born here, with a count within the limit
pub record IsGood (here : ℕ) (p : Profile) (births : ℕ) (r : Record) : Type 0 where
  pub id : r.gid ≡ bare_id here r.gid.kind r.gid.number
  pub number : r.gid.number ≤ births
  pub least : 1 ≤ r.count
  pub most : r.count ≤ p.credit_limit

-- what holds of the parts of a registry
pub record IsKept {Q : Type 0} (place : ℕ) (p : Profile) (births : ℕ) (records : List Record) (waiting : List (Waiting Q)) : Type 0 where
  pub here : place < 64
  pub profile : IsValid p
  pub few : births < 2 ^ 32
  pub rises : Rises 0 records
  pub good : (id : Id) (r : Record) → find_record id records ≡ Some r → IsGood place p births r
  pub unborn : (n : ℕ) → births < n → items_of n waiting ≡ []

-- what holds of every registry
pub record IsSound {Q : Type 0} (t : Registry Q) : Type 0 where
  pub rises : Rises 0 t.records
  pub good : (id : Id) (r : Record) → record_of t id ≡ Some r → IsGood t.here t.profile t.births r
  pub few : length t.records ≤ t.births

-- what is left of a record after this credit came back
abbrev pub left_of : Record → Id → Left
left_of r id = (if r.count == credit id then Dead r.place else Alive)

-- its record then
abbrev pub lowered : Record → Id → Option Record
lowered r id = (if r.count == credit id then None else Some (record r { count = r.count - credit id }))

-- the count once an id of log 0 is replaced by one of a new object's credit
abbrev pub grown : Profile → Record → ℕ
grown p r = r.count + 2 ^ p.credit_log - 1

-- the answer to an ask for an object
abbrev pub granted_of : Profile → Record → Id → Granted
granted_of p r id = (if nat_lt p.credit_limit (grown p r) then Limit else Yes (record id { log = Some p.credit_log }))

-- its record then
abbrev pub asked : Profile → Record → Record
asked p r = (if nat_lt p.credit_limit (grown p r) then r else record r { count = grown p r })

-- there is a record of an object that stands elsewhere than at this place, and does not move
abbrev pub IsFree : Option Record → ℕ → Type 0
IsFree slot to = IsSomeAnd slot (λ r. (r.moving ≡ None) × (r.place ≢ to))

-- there is a record of an object that moves to this place
abbrev pub IsMovingTo : Option Record → ℕ → Type 0
IsMovingTo slot to = IsSomeAnd slot (λ r. r.moving ≡ Some to)

-- a registry is stored as the tuple of its fields
abbrev pub registry_code : {Q : Type 0} → Coded Q → Coded (Registry Q)
registry_code {Q} code =
    code_by
    (ℕ × (Profile × (ℕ × (List Record × (List (Waiting Q) × ℕ)))))
    (coded× coded_ℕ (coded× profile_code (coded× coded_ℕ (coded× (coded_list record_code) (coded× (coded_list (waiting_code code)) coded_ℕ)))))
    (λ t. (t.here, (t.profile, (t.births, (t.records, (t.waiting, t.spare))))))
    (λ p. record { here = p.0; profile = p.1.0; births = p.1.1.0; records = p.1.1.1.0; waiting = p.1.1.1.1.0; spare = p.1.1.1.1.1 })
    (λ _. refl)
