use Rattle.std.proofs.Common.{◌≡◌, ◌≤◌, ◌*◌, take, sum_by}
use Rattle.hpx_world.proofs.locals.Locals.frames.Given as goal

-- what was counted so far, each count within 64 bits
abbrev pub invariant-loop-node : goal.invariant-loop-node
invariant-loop-node g l =
    (l.sent ≡ sum_by (λ n. n.tables.sent) (take l.node-index l.self.nodes.items))
    × (l.taken ≡ sum_by (λ n. n.tables.taken) (take l.node-index l.self.nodes.items))
    × (l.sent ≤ l.node-index * 18446744073709551616)
    × (l.taken ≤ l.node-index * 18446744073709551616)
