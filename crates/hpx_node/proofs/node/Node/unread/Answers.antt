use Rattle.std.proofs.Common.{◌∙◌}
use Rattle.hpx_node.proofs.Unread.{told}
use Rattle.hpx_node.proofs.node.Node.unread.Goals as goal

pub returns-in-Some : goal.returns-in-Some
returns-in-Some g c =
    let is = rw (c.as_slice.ensures) at c.in-Ok.ensures.ok in
    let k = told c.args.self.now.tables c.args.frame.now c.in-Ok.message c.rule_of.result is c.rule_of.ensures in
    (k.0, k.1, k.2 ∙ c.in-Some.is)

pub returns-in-None : goal.returns-in-None
returns-in-None g c =
    let is = rw (c.as_slice.ensures) at c.in-Ok.ensures.ok in
    let k = told c.args.self.now.tables c.args.frame.now c.in-Ok.message c.rule_of.result is c.rule_of.ensures in
    (k.0, k.1, k.2 ∙ c.in-None.is)
