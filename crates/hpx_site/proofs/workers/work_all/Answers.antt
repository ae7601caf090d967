use denote.Exit.{yes}
use denote.Param.{copied, param}
use denote.Param.Send.{arg_sync, param_sync}
use Rattle.hpx_site.proofs.Crossing.{shared_sync}
use Rattle.hpx_site.proofs.workers.work_all.Goals as goal

pub work_each-requires-sync-S : goal.work_each-requires-sync-S
work_each-requires-sync-S g c = λ κs within.
    param_sync 0 _ (arg_sync _ yes _ (shared_sync (record { mir = _; lft = _ }) (record { mir = _; lft = _ }) (record { mir = _; lft = _ }) (record { mir = _; lft = _ }) (copied 0 g.row.A) (param 1 g.row.F) (param 2 g.row.E) (param 3 g.row.G) g.A.Acts g.F.Fabric g.E.Past c.type_bounds.send-A c.type_bounds.sync-A c.type_bounds.send-F c.type_bounds.send-E c.type_bounds.sync-G c.records_cross.ensures))
