use Rattle.hpx_bundle.proofs.Loads.{with_some, with_none}
use Rattle.hpx_bundle.proofs.bundle.Load.with.Goals as goal

pub returns-then-size-gt-LONGEST_FRAME : goal.returns-then-size-gt-LONGEST_FRAME
returns-then-size-gt-LONGEST_FRAME c = λ parts next self len all fits.
    with_none c.args.self c.args.len c.saturating_add.result c.size.result parts next
    (record { self_is = self; len_is = len; sum_is = c.saturating_add.ensures; size_is = c.size.ensures }) all c.if-self-ge-MOST_PARTS.false c.if-size-gt-LONGEST_FRAME.true fits

pub returns : goal.returns
returns c = λ parts next self len all.
    with_some c.args.self c.args.len c.saturating_add.result c.size.result parts next
    (record { self_is = self; len_is = len; sum_is = c.saturating_add.ensures; size_is = c.size.ensures }) all c.if-self-ge-MOST_PARTS.false c.if-size-gt-LONGEST_FRAME.false
