use Rattle.hpx_node.proofs.Common.{MessageDue, PrintDue, ap, refl, with_due, ◌∷◌, ◌≡◌}
use Rattle.hpx_node.proofs.node.Node.pay.Goals as goal

pub returns-in-Some-Message-clause-goes : goal.returns-in-Some-Message-clause-goes
returns-in-Some-Message-clause-goes g c =
    let is : c.args.due.now.items ≡ MessageDue c.in-Some-Message.message ∷ c.pop_front.new.self.items =
    rw c.in-Some-Message.field-0-is at c.in-Some-Message.ensures.items in
    let goes = rw (c.named.ensures) at c.post.ensures.goes in
    rw (is, ← c.self.view_is) (ap (with_due c.pop_front.new.self.items) goes)

pub returns-in-Some-Print-clause-goes : goal.returns-in-Some-Print-clause-goes
returns-in-Some-Print-clause-goes g c =
    let is : c.args.due.now.items ≡ PrintDue c.in-Some-Print.bytes ∷ c.pop_front.new.self.items =
    rw c.in-Some-Print.field-0-is at c.in-Some-Print.ensures.items in
    rw (is, ← c.self.view_is) refl
