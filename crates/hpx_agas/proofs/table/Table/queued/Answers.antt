use Rattle.std.proofs.Common.{◌≡◌, Some, None, refl}
use Rattle.hpx_agas.specs.Lines.{line_of}
use Rattle.hpx_agas.proofs.TablesLemmas.{items_kept}
use Rattle.hpx_agas.proofs.table.Table.queued.Goals as goal

pub returns-in-Some : goal.returns-in-Some
returns-in-Some g c =
    let found : Some c.in-Some.line.now ≡ line_of c.args.number c.self.inside.lines = rw c.in-Some.is at c.find.ensures in
    rw (← c.self.view_is, items_kept c.args.number 0 c.self.inside.births c.self.inside.lines c.self.invariant.lines, ← found) c.len.ensures

pub returns-in-None : goal.returns-in-None
returns-in-None g c =
    let found : None ≡ line_of c.args.number c.self.inside.lines = rw c.in-None.is at c.find.ensures in
    rw (← c.self.view_is, items_kept c.args.number 0 c.self.inside.births c.self.inside.lines c.self.invariant.lines, ← found) refl
