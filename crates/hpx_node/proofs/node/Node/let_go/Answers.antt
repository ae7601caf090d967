use Rattle.hpx_node.proofs.Common.{ap, sym, with_return, ◌∙◌}
use Rattle.hpx_node.proofs.node.Node.let_go.Goals as goal

pub returns-in-Some-clause-goes : goal.returns-in-Some-clause-goes
returns-in-Some-clause-goes g c =
    let goes = rw (c.new.ensures, c.home.ensures) at c.mail.ensures.goes in
    goes ∙ ap (λ l. with_return c.args.id l c.args.self.now.tables) (sym (sym c.log.ensures ∙ c.in-Some.is))

pub returns-in_default-clause-goes : goal.returns-in_default-clause-goes
returns-in_default-clause-goes g c = ap (λ l. with_return c.args.id l c.args.self.now.tables) (sym (sym c.log.ensures ∙ c.in_default.is))
