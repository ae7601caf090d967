use Rattle.std.proofs.Common.{◌<◌, ◌≤◌, ◌-◌, ◌∙◌, length, sym, ap, subst, arith, option_map, slice_get}
use Rattle.hpx_agas.specs.declared.record.Record.{Record}
use Rattle.hpx_agas.specs.Lines.{records_of}
use Rattle.hpx_agas.specs.Trees.{lines_of, IsCut}
use Rattle.hpx_agas.proofs.LinesLemmas.{records-append}
use Rattle.hpx_agas.proofs.TreesLemmas.{at_fork, get_left, get_right}
use Rattle.hpx_agas.proofs.tree.Tree.+nth.Goals as goal

pub returns-then-i-cut : goal.returns-then-i-cut
returns-then-i-cut g t c =
    let f = at_fork c.args.self.now c.in-Fork.low.value c.in-Fork.high.value c.in-Fork.cut.split c.in-Fork.cut.before (sym (ap lines_of c.in-Fork.is) ∙ c.self.view_is) (subst IsCut c.in-Fork.is c.self.invariant) in
    let within : c.args.i < length (records_of c.in-Fork.low.value) = omega (arith, f.before, c.if-i-cut.true) in
    rw (f.is, records-append c.in-Fork.low.value c.in-Fork.high.value, get_left (records_of c.in-Fork.low.value) (records_of c.in-Fork.high.value) c.args.i within)
    (c.nth.ensures ∙ ap (λ ls. option_map (λ (r : Record). r.gid) (slice_get (records_of ls) c.args.i)) c.deref.ensures)

pub returns-else-i-cut : goal.returns-else-i-cut
returns-else-i-cut g t c =
    let f = at_fork c.args.self.now c.in-Fork.low.value c.in-Fork.high.value c.in-Fork.cut.split c.in-Fork.cut.before (sym (ap lines_of c.in-Fork.is) ∙ c.self.view_is) (subst IsCut c.in-Fork.is c.self.invariant) in
    let past : length (records_of c.in-Fork.low.value) ≤ c.args.i = omega (arith, f.before, c.if-i-cut.false) in
    rw (f.is, records-append c.in-Fork.low.value c.in-Fork.high.value, get_right (records_of c.in-Fork.low.value) (records_of c.in-Fork.high.value) c.args.i past, ← f.before)
    (c.nth-else-i-cut.ensures ∙ ap (λ ls. option_map (λ (r : Record). r.gid) (slice_get (records_of ls) (c.args.i - c.in-Fork.cut.before))) c.deref-else-i-cut.ensures)
