use Rattle.hpx_node.proofs.Common.{Locality, Tables, ap, refl, ◌+◌, ◌∙◌}
use Rattle.hpx_node.proofs.Arrived.{deals_rest, leaves_from, taken_writes}
use Rattle.hpx_node.proofs.FewEntries.{grows_few, taken_tidy}
use Rattle.hpx_node.proofs.Turns.{frame_short}
use Rattle.hpx_node.proofs.TurnSteps.{grows_light}
use Rattle.hpx_node.proofs.node.Node.enter_frame.Goals as goal

pub handle-requires-clause-tidy : goal.handle-requires-clause-tidy
handle-requires-clause-tidy g c = let tidy = rw (← c.self.view_is) at c.requires.tidy in taken_tidy _ _ tidy

pub returns-clause-few : goal.returns-clause-few
returns-clause-few g c =
    let tidy = rw (← c.self.view_is) at c.requires.tidy in
    grows_few c.self.inside.here _ _ c.args.parcel _ _ _ (taken_tidy _ (c.self.inside.taken + 1) tidy) c.push.ensures.entries c.handle.ensures.grows

pub returns-clause-writes : goal.returns-clause-writes
returns-clause-writes g c =
    let rest = deals_rest c.args.parcel _ _ c.handle.ensures.deals in
    record {
      here = ap (λ (t : Tables). t.here) rest ∙ ap (λ (t : Locality). t.tables.here) c.self.view_is;
      localities = ap (λ (t : Tables). t.localities) rest ∙ ap (λ (t : Locality). t.tables.localities) c.self.view_is;
      profile = ap (λ (t : Tables). t.profile) rest ∙ ap (λ (t : Locality). t.tables.profile) c.self.view_is;
      grows = taken_writes _ c.args.self.now.tables (c.self.inside.taken + 1) c.args.parcel c.args.bytes _ _ _ (ap (λ (x : Locality). x.tables) c.self.view_is) c.push.ensures.entries c.handle.ensures.grows;
    }

pub returns-clause-light : goal.returns-clause-light
returns-clause-light g c =
    let tidy = rw (← c.self.view_is) at c.requires.tidy in
    grows_light c.self.inside.here _ _ c.args.parcel _ _ _ (taken_tidy _ (c.self.inside.taken + 1) tidy)
    (frame_short c.args.bytes c.args.parcel c.requires.spelled) c.push.ensures.entries c.handle.ensures.grows

pub returns-clause-leaves : goal.returns-clause-leaves
returns-clause-leaves g c = rw (← c.self.view_is) (leaves_from c.args.parcel _ _ _ refl refl refl c.handle.ensures.leaves)

pub returns-clause-running : goal.returns-clause-running
returns-clause-running g c = rw (← c.self.view_is) (ap (λ (t : Tables). t.running) (deals_rest c.args.parcel _ _ c.handle.ensures.deals))

pub returns-clause-taken : goal.returns-clause-taken
returns-clause-taken g c = rw (← c.self.view_is) (ap (λ (t : Tables). t.taken) (deals_rest c.args.parcel _ _ c.handle.ensures.deals))

pub returns-clause-sent : goal.returns-clause-sent
returns-clause-sent g c = rw (← c.self.view_is) (ap (λ (t : Tables). t.sent) (deals_rest c.args.parcel _ _ c.handle.ensures.deals))

pub returns-clause-log : goal.returns-clause-log
returns-clause-log g c = rw (← c.self.view_is) c.self.invariant.3.log_least
