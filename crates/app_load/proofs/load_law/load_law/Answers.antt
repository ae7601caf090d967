use Rattle.std.proofs.Common.{ap}
use Rattle.app_load.specs.Load.{errors_in, sum_in}
use Rattle.app_load.proofs.Texts.{made_are, asked_are}
use Rattle.app_load.proofs.load_law.load_law.Goals as goal

pub returns-clause-errors : goal.returns-clause-errors
returns-clause-errors c = λ acts start count n log limit parcel_of blocks some few short grammar calm session.
    ap errors_in (made_are start count n acts log limit parcel_of some few short blocks grammar calm session)

pub returns-clause-sum : goal.returns-clause-sum
returns-clause-sum c = λ acts start count n log limit parcel_of blocks some few short grammar calm session.
    ap sum_in (asked_are start count n acts log limit parcel_of some few short blocks grammar calm session)
