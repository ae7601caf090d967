use Rattle.std.proofs.Common.{sym, ◌∙◌}
use Rattle.hpx_replay.proofs.object_rows.freed_row.Goals as goal

pub returns : goal.returns
returns c = λ n p f.
    let k = c.in_ok-free.ensures n p f in
    let managed = c.is_managed.ensures.0 c.if-not-is_managed.false in
    let stands = c.stands.ensures.0 c.if-not-stands.false in (
      λ t. (managed, stands, sym c.any.ensures ∙ c.if-any.false, sym c.any-else-any.ensures ∙ c.if-any-2.false, k.0 t),
      λ w. k.1 w.4,
    )
