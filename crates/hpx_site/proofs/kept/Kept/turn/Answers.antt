use Rattle.std.proofs.Common.{rules}
use Rattle.hpx_site.proofs.Helds.{goes_on, turn_stops}
use Rattle.hpx_site.proofs.kept.Kept.turn.Goals as goal

pub invariant_of-self-in-Err : goal.invariant_of-self-in-Err
invariant_of-self-in-Err g c = (
  c.self.invariant.0,
  c.self.invariant.1,
  c.self.invariant.2,
  turn_stops _ _ _ _ _ (search rules) c.self.invariant.3
      (record { localities = c.turn.ensures.count; profile = c.turn.ensures.profile; unfed = c.turn.ensures.unfed c.requires; carrying = c.turn.ensures.carrying; hears = c.turn.ensures.hears })
      c.args.choice c.requires c.in-Err.fault c.in-Err.ensures.stops c.in-Err.ensures.faults c.in-Err.ensures.finds c.in-Err.ensures.never,
)

pub invariant_of-self : goal.invariant_of-self
invariant_of-self g c = (
  c.self.invariant.0,
  c.self.invariant.1,
  c.self.invariant.2,
  goes_on _ _ _ _ _ (search rules) c.self.invariant.3
      (record { localities = c.turn.ensures.count; profile = c.turn.ensures.profile; unfed = c.turn.ensures.unfed c.requires; carrying = c.turn.ensures.carrying; hears = c.turn.ensures.hears })
      c.in-Ok.ensures.faults,
)
