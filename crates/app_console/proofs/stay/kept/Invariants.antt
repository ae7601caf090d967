use Rattle.std.proofs.Common.{◌≡◌, take}
use Rattle.hpx_value.specs.Kept.{numbers}
use Rattle.app_console.proofs.stay.kept.Given as goal

abbrev pub invariant-loop-number : goal.invariant-loop-number
invariant-loop-number l = l.conts ≡ numbers 0 (take l.number l.state.conts)
