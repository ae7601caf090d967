use Rattle.hpx_node.proofs.Common.{Tables, ap, sym, with_return, with_returns, ◌∙◌, ◌∷◌, ◌≡◌}
use Rattle.hpx_node.proofs.Credits.{credit_log_is, one_up}
use Rattle.hpx_node.proofs.node.Node.give_up.Goals as goal

pub returns-in-Some-clause-goes : goal.returns-in-Some-clause-goes
returns-in-Some-clause-goes g c =
    let is : c.args.loose.now.items ≡ c.in-Some.id ∷ c.pop_front.new.self.items = c.in-Some.ensures.items in
    let credit = credit_log_is c.in-Some.id (rw is at c.requires.credit).0 in
    let goes = rw (c.new.ensures, c.home.ensures) at c.mail.ensures.goes in
    rw is (ap (with_returns c.pop_front.new.self.items) (goes ∙ ap (λ l. with_return c.in-Some.id l c.args.self.now.tables) (sym credit.1)))

pub returns-in-Some-clause-writes : goal.returns-in-Some-clause-writes
returns-in-Some-clause-writes g c =
    let is : c.args.loose.now.items ≡ c.in-Some.id ∷ c.pop_front.new.self.items = c.in-Some.ensures.items in
    let here = ap (λ (x : Tables). x.here) c.mail.ensures.goes in
    rw (is, here, c.push.ensures.entries, c.log_of-log.ensures.log, c.bare.ensures, ← c.self.view_is)
    (one_up c.in-Some.id (rw is at c.requires.credit).0 c.pop_front.new.self.items c.self.inside.here c.args.book.now.entries)
