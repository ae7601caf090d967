-- What a node keeps is well formed.
use Rattle.std.specs.Prelude.{[], ◌≡◌, ◌≤◌, cond, ◌==◌}
use Rattle.hpx_value.specs.Shapes.{IsState}
use Rattle.hpx_value.specs.Values.{named}
use Rattle.hpx_value.specs.declared.outcome.Due.{Due}
use Rattle.hpx_value.specs.declared.outcome.Due.TheVariants.{Message as MessageDue, Print as PrintDue}
use Rattle.hpx_parcel.specs.Parcels.{IsSent, IsMovable, IsPlace}
use Rattle.hpx_journal.specs.Data.{Act, Parcel, Apply, Move}
use Rattle.hpx_part.specs.Data.{Standing}

-- an action that has a spelling: a MOVE moves something somewhere
pub record IsFit (act : Act) : Type 0 where
  pub sent : IsSent act
  pub moves : act.code ≡ 1 → IsMovable act.ids × IsPlace act.args

-- the parcel that carries an action to its object
abbrev pub parcel_for : Act → Parcel
parcel_for act = cond (act.code == 1) (Move act) (Apply act)

-- an object of a kind that there is, with a well-formed state; one of kind Plain keeps nothing
pub record IsKept (x : Standing) : Type 0 where
  pub kind : x.object.kind ≤ 63
  pub state : IsState x.state
  pub plain : x.object.kind ≡ 7 → (x.state.values ≡ []) × (x.state.conts ≡ [])

-- what is due may be sent
abbrev pub IsFitDue : Due → Type 0
IsFitDue (MessageDue m) = IsFit (named 0 0 m)
IsFitDue (PrintDue bytes) = Unit {0}
