use Rattle.std.specs.Option.{option_to_list}
use Rattle.hpx_node.proofs.Common.{AreOf, Id, Option, Tables, ap, arith, length, subst, sym, with_told, ◌<◌, ◌∙◌, ◌≡◌}
use Rattle.hpx_node.proofs.Told.{some_of}
use Rattle.hpx_node.proofs.node.Node.give_up_told.Goals as goal

pub tell-requires-clause-some : goal.tell-requires-clause-some
tell-requires-clause-some g c = some_of c.in-Some._object c.args.loose.items (subst (λ (o : Option Id). AreOf (option_to_list o) c.args.loose.items) c.in-Some.is c.requires.of)

pub returns-in-Some-clause-goes : goal.returns-in-Some-clause-goes
returns-in-Some-clause-goes g c =
    subst (λ (o : Option Id). c.give_up_all.new.self.tables ≡ with_told (option_to_list o) c.args.loose.items c.args.self.now.tables) (sym c.in-Some.is)
    (c.give_up_all.ensures.goes ∙ c.tell.ensures.goes c.in-Some._object)

pub returns-in-Some-clause-rest : goal.returns-in-Some-clause-rest
returns-in-Some-clause-rest g c =
    let u = c.give_up_all.new.self.tables in
    c.give_up_all.ensures.rest
    ∙ ap (λ (y : Tables). record y { serial = u.serial; accepted = u.accepted; desk = u.desk; outgoing = u.outgoing; queued = u.queued; records = u.records }) c.tell.ensures.rest

pub returns-in-None-clause-goes : goal.returns-in-None-clause-goes
returns-in-None-clause-goes g c =
    subst (λ (o : Option Id). c.give_up_all-in-None.new.self.tables ≡ with_told (option_to_list o) c.args.loose.items c.args.self.now.tables) (sym c.in-None.is) c.give_up_all-in-None.ensures.goes
