use Rattle.std.proofs.Common.{◌≡◌, ◌∙◌, Some, None, sym, ap}
use Rattle.hpx_agas.specs.Lines.{line_of}
use Rattle.hpx_agas.proofs.TablesLemmas.{kept_rises, find_kept, matched, own, own_hit, own_miss}
use Rattle.hpx_agas.proofs.table.Table.find.Goals as goal

pub returns-in_err-find-clause-value : goal.returns-in_err-find-clause-value
returns-in_err-find-clause-value g c =
    let found : None ≡ line_of c.args.gid.number c.self.inside.lines = rw (c.in_err-find.was, c.number.ensures) at c.find.ensures in
    rw (← c.self.view_is)
    (c.from_residual.ensures ∙ sym (find_kept c.args.gid 0 c.self.inside.births c.self.inside.lines c.self.invariant.lines ∙ ap (matched c.args.gid) (sym found)))

pub returns-in_err-find-clause-rising : goal.returns-in_err-find-clause-rising
returns-in_err-find-clause-rising g c = rw (← c.self.view_is) (kept_rises 0 c.self.inside.births c.self.inside.lines c.self.invariant.lines)

pub returns-in_err-record-clause-value : goal.returns-in_err-record-clause-value
returns-in_err-record-clause-value g c =
    let found : Some c.in_ok-find.field-0.now ≡ line_of c.args.gid.number c.self.inside.lines = rw (c.in_ok-find.was, c.number.ensures) at c.find.ensures in
    rw (← c.self.view_is)
    (c.from_residual-in_err-record.ensures
    ∙ sym (find_kept c.args.gid 0 c.self.inside.births c.self.inside.lines c.self.invariant.lines ∙ ap (matched c.args.gid) (sym found) ∙ ap (own c.args.gid) c.in_err-record.was))

pub returns-in_err-record-clause-rising : goal.returns-in_err-record-clause-rising
returns-in_err-record-clause-rising g c = rw (← c.self.view_is) (kept_rises 0 c.self.inside.births c.self.inside.lines c.self.invariant.lines)

pub returns-then-names_same-clause-value : goal.returns-then-names_same-clause-value
returns-then-names_same-clause-value g c =
    let found : Some c.in_ok-find.field-0.now ≡ line_of c.args.gid.number c.self.inside.lines = rw (c.in_ok-find.was, c.number.ensures) at c.find.ensures in
    rw (← c.self.view_is)
    (sym
    (find_kept c.args.gid 0 c.self.inside.births c.self.inside.lines c.self.invariant.lines
    ∙ ap (matched c.args.gid) (sym found) ∙ ap (own c.args.gid) c.in_ok-record.was ∙ own_hit c.args.gid c.in_ok-record.record (sym c.if-names_same.ensures.test)))

pub returns-then-names_same-clause-rising : goal.returns-then-names_same-clause-rising
returns-then-names_same-clause-rising g c = rw (← c.self.view_is) (kept_rises 0 c.self.inside.births c.self.inside.lines c.self.invariant.lines)

pub returns-else-names_same-clause-value : goal.returns-else-names_same-clause-value
returns-else-names_same-clause-value g c =
    let found : Some c.in_ok-find.field-0.now ≡ line_of c.args.gid.number c.self.inside.lines = rw (c.in_ok-find.was, c.number.ensures) at c.find.ensures in
    rw (← c.self.view_is)
    (sym
    (find_kept c.args.gid 0 c.self.inside.births c.self.inside.lines c.self.invariant.lines
    ∙ ap (matched c.args.gid) (sym found) ∙ ap (own c.args.gid) c.in_ok-record.was ∙ own_miss c.args.gid c.in_ok-record.record (sym c.if-names_same.ensures.test)))

pub returns-else-names_same-clause-rising : goal.returns-else-names_same-clause-rising
returns-else-names_same-clause-rising g c = rw (← c.self.view_is) (kept_rises 0 c.self.inside.births c.self.inside.lines c.self.invariant.lines)
