-- Foreign arrivals, and the journal that a node writes up to one.
use Rattle.std.specs.Prelude.{ℕ, List, [], ◌∷◌, ◌≡◌, ◌≢◌, ◌<◌, ◌≤◌, ◌+◌, ◌⊎◌, Option}
use Rattle.std.specs.List.{count_by}
use Rattle.hpx_journal.specs.Data.{Id, Act, Parcel}
use Rattle.hpx_journal.specs.Bags.{AnyOf}
use Rattle.hpx_journal.specs.Entries.{Name, Event, In, Entry, Travel, Rules, name_of}
use Rattle.hpx_journal.specs.Frames.{acts_in, travels_in}
use Rattle.hpx_journal.specs.Local.{Local, is_act, is_standing, is_travel, after}
use Rattle.hpx_journal.specs.Rows.{Allowed}
use Rattle.hpx_journal.specs.Names.{IsBacked}

-- how often an action of this name is Waiting, Fired or Done here
abbrev pub present : Name → Local → ℕ
present a s = count_by (is_act a) s.waiting + count_by (is_act a) s.fired + count_by (is_act a) s.done

-- how often an object stands or travels here
abbrev pub kept : Id → Local → ℕ
kept o s = count_by (is_standing o) s.objects + count_by (is_travel o) s.travels

-- a number that was not drawn, where n is the last that was: they begin with 1
abbrev pub IsUndrawn : ℕ → ℕ → Type 0
IsUndrawn n number = (number ≡ 0) ⊎ (n < number)

-- the action is here already, or bears a name of here that was not drawn
abbrev pub IsForeignAct : Local → Act → Type 0
IsForeignAct s act = (1 ≤ present (name_of act) s) ⊎ ((act.origin ≡ s.here) × IsUndrawn s.serial act.serial)

-- the object is to stand elsewhere, is here already, or bears a number of here that was not drawn
abbrev pub IsForeignTravel : Local → Travel → Type 0
IsForeignTravel s x = (x.to ≢ s.here) ⊎ ((1 ≤ kept x.object s) ⊎ ((x.object.home ≡ s.here) × IsUndrawn s.number x.object.number))

-- what a parcel carries is foreign
abbrev pub IsForeignIn : Local → Option Parcel → Type 0
IsForeignIn s p = AnyOf (IsForeignAct s) (acts_in p) ⊎ AnyOf (IsForeignTravel s) (travels_in p)

-- a frame that no other locality can have sent
abbrev pub IsForeign : Rules → Local → Event → Type 0
IsForeign r s (In bytes) = IsForeignIn s (r.parcel_of bytes)
IsForeign r s _ = ⊥

-- a node's journal: each entry is allowed and leaves each name backed, up to a foreign arrival
abbrev pub NodeKeeps : Rules → Local → List Entry → Type 0
NodeKeeps r s [] = Unit {0}
NodeKeeps r s (e ∷ es) =
    (IsForeign r s e.event → ⊥) → Allowed r s e × IsBacked (after r s e.event) × NodeKeeps r (after r s e.event) es
