use Rattle.hpx_parcel.proofs.Outlined.{fields_apply, fields_move, fields_go}
use Rattle.hpx_parcel.proofs.outline.fields_in.Goals as goal

pub returns-in-Ok : goal.returns-in-Ok
returns-in-Ok c = rw (c.in-1.is, c.applied.ensures) (fields_apply c.args.bytes.now c.args.rest.now c.in-Ok.act c.in-Ok.rest.now c.in-Ok.ensures)

pub returns-in-Ok-act_in : goal.returns-in-Ok-act_in
returns-in-Ok-act_in c = rw (c.in-6.is, c.moving.ensures) (fields_move c.args.bytes.now c.args.rest.now c.in-Ok-act_in.act c.in-Ok-act_in.rest.now c.in-Ok-act_in.ensures)

pub returns-in-Ok-act_in-2 : goal.returns-in-Ok-act_in-2
returns-in-Ok-act_in-2 c =
    rw (c.in-7.is, c.moving-in-Ok-act_in-2.ensures) (fields_go c.args.bytes.now c.args.rest.now c.in-Ok-act_in-2.act c.in-Ok-act_in-2.rest.now c.in-Ok-act_in-2.ensures)
