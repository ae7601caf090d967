use Rattle.std.proofs.Common.{◌≡◌, ◌≤◌, ◌+◌, ◌-◌, ◌^◌, ℕ, min}
use Rattle.std.specs.List.{sum_by}
use Rattle.hpx_agas.specs.Places.{filled}
use Rattle.hpx_agas.specs.Queues.{Weighs}
use Rattle.hpx_agas.proofs.queue.Queue.weight.Given as goal

abbrev pub invariant-loop-place : goal.invariant-loop-place
invariant-loop-place g l =
    (l.sum ≤ 2 ^ 128 - 1)
    × ((w : _ → ℕ) → Weighs g.F.Fn l.weigh w → min (2 ^ 128 - 1) (l.sum + sum_by w (filled l.place-iterator)) ≡ min (2 ^ 128 - 1) (sum_by w l.self))
