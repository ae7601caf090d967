use Rattle.std.proofs.Common.{◌≡◌, ◌≤◌, max}
use Rattle.hpx_agas.proofs.queue.Room.reserve.Given as goal

abbrev pub invariant-loop : goal.invariant-loop
invariant-loop g l = (l.self ≡ l.counter) × (l.fn.self ≤ l.self) × (l.self ≤ max l.fn.self l.n)
