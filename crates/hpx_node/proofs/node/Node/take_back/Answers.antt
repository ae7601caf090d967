use Rattle.hpx_node.proofs.Common.{Parcel, Registry, Tables, ap, refl}
use Rattle.hpx_node.proofs.Records.{alive_deals, dead_deals, leaves_returned, live_covers}
use Rattle.hpx_node.proofs.node.Node.take_back.Goals as goal

pub returns-in_default-back-clause-deals : goal.returns-in_default-back-clause-deals
returns-in_default-back-clause-deals g c =
    let live = rw (← c.self.view_is) at c.requires.live in
    let enough = rw (← c.self.view_is) at c.requires.enough in
    absurd (c.in_default-back.ensures.strange.0 refl (live_covers c.self.inside.here c.self.inside.records.records c.args.id live enough))

pub returns-in-Dead-clause-deals : goal.returns-in-Dead-clause-deals
returns-in-Dead-clause-deals g c =
    let live = rw (← c.self.view_is) at c.requires.live in
    let goes = rw (c.new.ensures, c.bare-object.ensures) at c.mail.ensures.goes in
    rw (← c.self.view_is)
    (dead_deals _ _ c.args.id live c.back.new.self.births c.back.new.self.records c.back.new.self.waiting (ap (λ (x : Registry Parcel). x.births) c.in-Ok.ensures.rest)
    (ap (λ (x : Registry Parcel). x.waiting) c.in-Ok.ensures.rest) c.in-Dead.place
    (rw c.in-Dead.is at c.in-Ok.ensures.left) goes)

pub returns-in_default-left-clause-deals : goal.returns-in_default-left-clause-deals
returns-in_default-left-clause-deals g c =
    let live = rw (← c.self.view_is) at c.requires.live in
    rw (← c.self.view_is)
    (alive_deals _ c.args.self.now.tables c.args.id live c.back.new.self.births c.back.new.self.records c.back.new.self.waiting (ap (λ (x : Registry Parcel). x.births) c.in-Ok.ensures.rest)
    (ap (λ (x : Registry Parcel). x.waiting) c.in-Ok.ensures.rest)
    (rw c.in_default-left.is at c.in-Ok.ensures.left))

pub returns-in_default-back-clause-leaves : goal.returns-in_default-back-clause-leaves
returns-in_default-back-clause-leaves g c =
    let live = rw (← c.self.view_is) at c.requires.live in
    let enough = rw (← c.self.view_is) at c.requires.enough in
    absurd (c.in_default-back.ensures.strange.0 refl (live_covers c.self.inside.here c.self.inside.records.records c.args.id live enough))

pub returns-in-Dead-clause-leaves : goal.returns-in-Dead-clause-leaves
returns-in-Dead-clause-leaves g c =
    let live = rw (← c.self.view_is) at c.requires.live in
    rw (← c.self.view_is)
    (leaves_returned _ _ c.args.id _ live (ap (λ (t : Tables). t.records) c.mail.ensures.goes) c.in-Ok.ensures.others c.in-Ok.ensures.record)

pub returns-in_default-left-clause-leaves : goal.returns-in_default-left-clause-leaves
returns-in_default-left-clause-leaves g c =
    let live = rw (← c.self.view_is) at c.requires.live in
    rw (← c.self.view_is) (leaves_returned _ _ c.args.id _ live refl c.in-Ok.ensures.others c.in-Ok.ensures.record)
