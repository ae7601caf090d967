use Rattle.hpx_node.specs.Locality.{tables_of}
use Rattle.hpx_world.proofs.Found.{told_line, told_place}
use Rattle.std.proofs.Common.{sym, ◌∙◌}
use Rattle.hpx_world.proofs.audit.line_of.Goals as goal

pub returns-in_err-place : goal.returns-in_err-place
returns-in_err-place g c =
    absurd (told_place c.args.node.now.tables c.args.i c.in_ok-gid.gid c.requires.records (sym c.live.ensures ∙ c.in_ok-gid.was) (sym c.place.ensures ∙ c.in_err-place.was))

pub returns : goal.returns
returns g c =
    rw (c.saturating_sub.ensures, c.count-recorded.ensures, c.held_in_all-held.ensures)
    (told_line (tables_of c.args.nodes.now) c.args.node.now.tables c.args.i c.in_ok-gid.gid c.in_ok-place.field-0 c.requires.records
    (sym c.live.ensures ∙ c.in_ok-gid.was) (sym c.place.ensures ∙ c.in_ok-place.was))
