use Rattle.hpx_node.proofs.Common.{Arrived, Locality, Tables, ap, refl, with_mail, with_returns, ◌∙◌, ◌∷◌, ◌≡◌}
use Rattle.hpx_node.proofs.Credits.{one_up}
use Rattle.hpx_node.proofs.node.Node.tell.Goals as goal

pub mail-requires-clause-may : goal.mail-requires-clause-may
mail-requires-clause-may g c = rw (c.home.ensures, c.new.ensures) (refl, ap (λ (x : Locality). x.tables.here) c.self.view_is)

pub returns-in-Some-clause-goes : goal.returns-in-Some-clause-goes
returns-in-Some-clause-goes g c = λ o.
    let is : c.args.loose.now.items ≡ c.in-Some.id ∷ c.pop_front.new.self.items = c.in-Some.ensures.items in
    let goes = rw (c.new.ensures, c.home.ensures) at c.mail.ensures.goes in
    let here = ap (λ (x : Locality). x.tables.here) c.self.view_is in
    rw is (ap (with_returns c.pop_front.new.self.items) (goes ∙ ap (λ k. with_mail c.in-Some.id.home (Arrived c.in-Some.id k) c.args.self.now.tables) here))

pub returns-in-Some-clause-writes : goal.returns-in-Some-clause-writes
returns-in-Some-clause-writes g c =
    let is : c.args.loose.now.items ≡ c.in-Some.id ∷ c.pop_front.new.self.items = c.in-Some.ensures.items in
    let here = ap (λ (x : Tables). x.here) c.mail.ensures.goes in
    rw (is, here, c.push.ensures.entries, c.log_of-log.ensures.log, c.bare.ensures, ← c.self.view_is)
    (one_up c.in-Some.id (rw is at c.requires.credit).0 c.pop_front.new.self.items c.self.inside.here c.args.book.now.entries)
