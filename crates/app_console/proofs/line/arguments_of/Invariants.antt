use Rattle.std.proofs.Common.{◌≡◌, take, map}
use Rattle.app_console.specs.Commands.{argument_of}
use Rattle.app_console.proofs.line.arguments_of.Given as goal

abbrev pub invariant-loop-arg : goal.invariant-loop-arg
invariant-loop-arg l = l.arguments ≡ map (argument_of (map (λ w. w.now) l.words)) (take l.arg-index l.args)
