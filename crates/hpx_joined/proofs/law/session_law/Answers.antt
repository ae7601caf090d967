use Rattle.hpx_joined.proofs.Spoken.{session_said, silent_behind}
use Rattle.hpx_joined.proofs.law.session_law.Goals as goal

pub returns-clause-said : goal.returns-clause-said
returns-clause-said c = λ acts n log limit parcel_of es lines blocks last some few short grammar join calm stay own.
    session_said acts n log limit parcel_of some few es grammar join calm stay lines short blocks last own

pub returns-clause-silent : goal.returns-clause-silent
returns-clause-silent c = λ acts n log limit parcel_of es lines blocks last some few short grammar join calm stay own unfed ready.
    silent_behind acts n log limit parcel_of some few es grammar join calm stay lines short blocks last own unfed ready
