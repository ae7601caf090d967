-- What stands at a node, and the credit that is held and owed there.
use Rattle.std.specs.Prelude.{ℕ, Bool, false, not, ◌&&◌, List, [], ◌∷◌, ◌++◌, ◌≡◌, ◌+◌, ◌^◌, cond, if◌then◌else◌, is_some, option_map, Option, Some}
use Rattle.std.specs.Option.{option_map_or, option_and_then}
use Rattle.std.specs.List.{find, sum_by, list_any}
use Rattle.hpx_value.specs.Ids.{credit, same_object}
use Rattle.hpx_agas.specs.Queues.{is_for}
use Rattle.hpx_agas.specs.Records.{find_record, Rises}
use Rattle.hpx_agas.specs.Registries.{IsGood}
use Rattle.hpx_agas.specs.declared.record.Record.{Record}
use Rattle.hpx_journal.specs.Data.{Id, Parcel, Apply, Return, Ask, Give, Move, Go, Shipped, Arrived}
use Rattle.hpx_journal.specs.Local.{is_standing, acts_on}
use Rattle.hpx_journal.specs.Tokens.{is_held, is_owed}
use Rattle.hpx_part.specs.Data.{Token}
use Rattle.hpx_tables.specs.Pending.{ids_kept}
use Rattle.hpx_tables.specs.Tables.{Tables, messages}

-- whether an object stands here
abbrev pub stands_here : Tables → Id → Bool
stands_here t o = is_some (find (is_standing o) t.objects)

-- a message grants a move of an object
abbrev pub grants : Id → Parcel → Bool
grants o (Go act) = acts_on o act
grants o _ = false

-- whether an object is to leave
abbrev pub leaves_here : Tables → Id → Bool
leaves_here t o = list_any (grants o) t.leaving

-- whether an object stands here and is not to leave
abbrev pub stays_here : Tables → Id → Bool
stays_here t o = stands_here t o && not (leaves_here t o)

-- whether an action waits here until the object of a number has moved
abbrev pub is_queued : Tables → ℕ → Bool
is_queued t number = list_any (is_for number) t.queued

-- where a record says that its object moves to
abbrev pub moving_here : Tables → Id → Option ℕ
moving_here t o = option_and_then (λ (r : Record). r.moving) (find_record o t.records)

-- whether a commit of an action on an object waits here
abbrev pub waits_here : Tables → Id → Bool
waits_here t o = list_any (λ w. acts_on o w.job.action) t.pending

-- the credit of an object in ids
abbrev pub credit_in : Id → List Id → ℕ
credit_in o ids = sum_by (λ id. if same_object o id then credit id else 0) ids

-- the ids of a message that holds its credits: one of an action, or of an object
abbrev pub ids_held : Parcel → List Id
ids_held (Apply act) = act.ids
ids_held (Move act) = act.ids
ids_held (Go act) = act.ids
ids_held (Shipped act state) = act.ids ++ state.ids
ids_held _ = []

-- the id of a message that owes its credit
abbrev pub credit_owed : Id → Parcel → ℕ
credit_owed o (Return id) = credit_in o (id ∷ [])
credit_owed o (Ask id asker entry) = credit_in o (id ∷ [])
credit_owed o (Give id entry) = credit_in o (id ∷ [])
credit_owed o (Arrived id place) = credit_in o (id ∷ [])
credit_owed o _ = 0

-- the credit of an object in states, in actions, in commits that wait, and in messages of these
abbrev pub held_here : Tables → Id → ℕ
held_here t o =
    sum_by (λ x. credit_in o x.state.ids) t.objects
    + sum_by (λ act. credit_in o act.ids) t.accepted
    + sum_by (λ act. credit_in o act.ids) t.running
    + sum_by (λ w. credit_in o (ids_kept w)) t.pending
    + sum_by (λ p. credit_in o (ids_held p)) (messages t)

-- the credit of an object in messages that bring it home, or ask for more
abbrev pub owed_here : Tables → Id → ℕ
owed_here t o = sum_by (credit_owed o) (messages t)

-- the live record of an object
abbrev pub record_here : Tables → Id → Option Record
record_here t o = find_record o t.records

-- the credit that is out, 0 without a live record
abbrev pub count_here : Tables → Id → ℕ
count_here t o = option_map_or (λ (r : Record). r.count) (record_here t o) 0

-- the live records, by rising number: each is of an object that was born here, with a count within the limit
pub record HasRecords (t : Tables) : Type 0 where
  pub rises : Rises 0 t.records
  pub good : (o : Id) (r : Record) → record_here t o ≡ Some r → IsGood t.here t.profile t.births r

-- where it was last said to be
abbrev pub place_here : Tables → Id → Option ℕ
place_here t o = option_map (λ (r : Record). r.place) (record_here t o)

-- ---- the same by the tokens of a locality

-- what a token that is held is worth to o
abbrev pub held_worth : Id → Token → ℕ
held_worth o k = cond (is_held o k) (2 ^ k.log) 0

-- what one that is owed is worth
abbrev pub owed_worth : Id → Token → ℕ
owed_worth o k = cond (is_owed o k) (2 ^ k.log) 0
