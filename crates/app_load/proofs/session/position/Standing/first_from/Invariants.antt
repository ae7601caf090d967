use Rattle.std.specs.Prelude.{◌≡◌, drop}
use Rattle.app_load.specs.Session.{queries_from}
use Rattle.app_load.proofs.session.position.Standing.first_from.Given as goal

-- none of those before stands
abbrev pub invariant-loop-next : goal.invariant-loop-next
invariant-loop-next l = queries_from l.object (drop l.object l.self.names) ≡ queries_from l.next (drop l.next l.self.names)
