use Rattle.hpx_node.proofs.Common.{Tables, ap, arith}
use Rattle.hpx_node.proofs.Arrived.{accepts_rest, entries_join}
use Rattle.hpx_node.proofs.FewEntries.{grows_few}
use Rattle.hpx_node.proofs.TurnSteps.{grows_light}
use Rattle.hpx_node.proofs.node.Node.enter_mail.Goals as goal

pub returns-clause-writes : goal.returns-clause-writes
returns-clause-writes g c =
    let rest = accepts_rest c.args.parcel _ _ c.handle_own.ensures.accepts in
    let grows = rw (← c.self.view_is) at c.handle_own.ensures.grows in
    rw (← c.self.view_is) (record {
      here = rw (← c.self.view_is) at (ap (λ (t : Tables). t.here) rest);
      localities = rw (← c.self.view_is) at (ap (λ (t : Tables). t.localities) rest);
      profile = rw (← c.self.view_is) at (ap (λ (t : Tables). t.profile) rest);
      grows = entries_join c.self.inside.here _ _ _ _ _ (rw c.kind_of-kind.ensures at c.push.ensures.entries) grows;
    })

pub returns-clause-few : goal.returns-clause-few
returns-clause-few g c = grows_few _ _ _ c.args.parcel _ _ _ c.requires.tidy c.push.ensures.entries c.handle_own.ensures.grows

pub returns-clause-light : goal.returns-clause-light
returns-clause-light g c =
    grows_light _ _ _ c.args.parcel _ _ _ c.requires.tidy (omega arith) c.push.ensures.entries c.handle_own.ensures.grows

pub returns-clause-running : goal.returns-clause-running
returns-clause-running g c = ap (λ (t : Tables). t.running) (accepts_rest c.args.parcel _ _ c.handle_own.ensures.accepts)

pub returns-clause-taken : goal.returns-clause-taken
returns-clause-taken g c = ap (λ (t : Tables). t.taken) (accepts_rest c.args.parcel _ _ c.handle_own.ensures.accepts)

pub returns-clause-sent : goal.returns-clause-sent
returns-clause-sent g c = ap (λ (t : Tables). t.sent) (accepts_rest c.args.parcel _ _ c.handle_own.ensures.accepts)
