-- How the ids of a hand are dealt to those who name them.
use Rattle.std.specs.Prelude.{ℕ, zero, suc, Bool, cond, nat_le, List, [], ◌∷◌, ◌++◌, ◌≤◌, ◌<◌, ◌+◌, ◌-◌, ◌==◌, ◌&&◌, Option, Some, None, set, length, flat_map}
use Rattle.std.specs.List.{filter, count_by, AllByRecursion}
use Rattle.std.specs.Option.{option_map}
use Rattle.hpx_value.specs.Ids.{Id}
use Rattle.hpx_value.specs.Hands.{id_at, hand_ids, state_after}
use Rattle.hpx_value.specs.Riders.{mentions_with, due_with}
use Rattle.hpx_value.specs.declared.outcome.Outcome.{Outcome}
use Rattle.hpx_value.specs.declared.value.State.{State}
use Rattle.hpx_value.specs.declared.value.Act.{Act}
use Rattle.hpx_value.specs.declared.outcome.Due.{Due}
use Rattle.hpx_value.specs.declared.outcome.Due.TheVariants.{Message as MessageDue, Print as PrintDue}

-- an object whose ids carry credit
abbrev pub is_managed : Id → Bool
is_managed id = nat_le 16 id.kind

-- the log of an id's credit, or 0
abbrev pub log_of : Option ℕ → ℕ
log_of None = 0
log_of (Some log) = log

-- half of an id: its log is one less
abbrev pub half : Id → Id
half id = record id { log = option_map (λ log. log - 1) id.log }

-- how often a place is named
abbrev pub named : List ℕ → ℕ → ℕ
named places p = count_by (λ q. q == p) places

-- the named places of managed objects
abbrev pub managed_places : List Id → List ℕ → List ℕ
managed_places hand places = filter (λ p. is_managed (id_at hand p)) places

-- what one who names an id gets while so many others are still to get of it: half of it, or all of it
abbrev pub share : Id → ℕ → Id
share id zero = id
share id (suc n) = half id

-- what each of those who name places gets, in order; of an id that is halved the other half stays at its place
abbrev pub dealt : List Id → List ℕ → List Id
dealt hand [] = []
dealt hand (p ∷ ps) =
    share (id_at hand p) (named ps p) ∷ dealt (set hand p (share (id_at hand p) (named ps p))) ps

-- the parts of an id that so many share: halves, the largest first, and the rest
abbrev pub shares : Id → ℕ → List Id
shares id zero = []
shares id (suc zero) = id ∷ []
shares id (suc (suc n)) = half id ∷ shares (half id) (suc n)

-- the parts of all ids, from place p on, that those who name the places share
abbrev pub shared_from : ℕ → List Id → List ℕ → List Id
shared_from p [] places = []
shared_from p (id ∷ ids) places = shares id (named places p) ++ shared_from (p + 1) ids places

-- so many halvings of an id can be had where so many name it
abbrev pub Lasts : Id → ℕ → Type 0
Lasts id n = n ≤ log_of id.log + 1

-- each id of the hand lasts for those who name its place
abbrev pub AllLast : List Id → List ℕ → Type 0
AllLast hand places = (p : ℕ) → Lasts (id_at hand p) (named places p)

-- places of the hand
abbrev pub AreWithin : List Id → List ℕ → Type 0
AreWithin hand places = AllByRecursion (λ p. p < length hand) places

-- the ids of managed objects that nobody names, from place p on
abbrev pub unnamed_from : ℕ → List Id → List ℕ → List Id
unnamed_from p [] places = []
unnamed_from p (id ∷ ids) places =
    cond (is_managed id && (named places p == 0)) (id ∷ unnamed_from (p + 1) ids places) (unnamed_from (p + 1) ids places)

-- those of the whole hand
abbrev pub unnamed : List Id → List ℕ → List Id
unnamed hand places = unnamed_from 0 hand places

-- ids with the managed ones among them replaced by what was dealt, in order
abbrev pub filled : List Id → List Id → List Id
filled [] ds = []
filled (id ∷ ids) [] = id ∷ filled ids []
filled (id ∷ ids) (d ∷ ds) = cond (is_managed id) (d ∷ filled ids ds) (id ∷ filled ids (d ∷ ds))

-- what is left of what was dealt
abbrev pub unused : List Id → List Id → List Id
unused [] ds = ds
unused (id ∷ ids) [] = []
unused (id ∷ ids) (d ∷ ds) = cond (is_managed id) (unused ids ds) (unused ids (d ∷ ds))

-- messages with what was dealt, in order
abbrev pub filled_due : List Due → List Id → List Due
filled_due [] ds = []
filled_due (PrintDue bytes ∷ rest) ds = PrintDue bytes ∷ filled_due rest ds
filled_due (MessageDue m ∷ rest) ds = MessageDue (record m { ids = filled m.ids ds }) ∷ filled_due rest (unused m.ids ds)

-- what is left of it after one message or print
abbrev pub unused_due : Due → List Id → List Id
unused_due (PrintDue bytes) ds = ds
unused_due (MessageDue m) ds = unused m.ids ds

-- the places of managed objects that an outcome names, with its riders
abbrev pub places_named : State → Act → List Id → Outcome → List ℕ
places_named s a made out = managed_places (hand_ids s a made) (mentions_with s a out)

-- the ids of what is due
abbrev pub ids_due : Due → List Id
ids_due (MessageDue m) = m.ids
ids_due (PrintDue bytes) = []

-- the ids of a new state and of what is due, in order
abbrev pub ids_named : State → Act → List Id → Outcome → List Id
ids_named s a made out = (state_after s a made out).ids ++ flat_map ids_due (due_with s a made out)
