-- Which calls of a port in memory are to fail.
use Rattle.std.specs.Prelude.{Bool, ◌==◌}
use Rattle.std.specs.List.{list_any}
use Rattle.hpx_ports.specs.declared.plan.Plan.{Plan}
use Rattle.hpx_ports.specs.Faults.{raised}

-- the next call is one of those that are to fail
abbrev pub fails_next : Plan → Bool
fails_next plan = list_any (λ n. n == raised plan.calls) plan.numbers

-- one more call has come
abbrev pub after_call : Plan → Plan
after_call plan = record plan { calls = raised plan.calls }
