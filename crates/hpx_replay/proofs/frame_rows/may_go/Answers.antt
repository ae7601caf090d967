use Rattle.hpx_replay.proofs.RowLemmas.{leaving_object}
use Rattle.hpx_replay.proofs.frame_rows.may_go.Goals as goal

pub returns-in-Object : goal.returns-in-Object
returns-in-Object c =
    leaving_object c.args.local.now c.args.to c.args.parcel.now c.in-Object.action c.in-Object.state c.args.travels.now c.is_leaving.result
    c.in-Object.is c.requires c.is_leaving.ensures
