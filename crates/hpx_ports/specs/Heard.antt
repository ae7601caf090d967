-- What a fabric answered last.
use Rattle.std.specs.Prelude.{ℕ, Bool, true, false, Option, Some, None, List, [], ◌∷◌, Result, Ok, Err}
use Rattle.hpx_ports.specs.declared.fault.FabricFault.{FabricFault}
use Rattle.hpx_ports.specs.declared.fault.FabricFault.TheVariants.{Failed}
use Rattle.hpx_ports.specs.declared.link.Latest.{Latest}
use Rattle.hpx_ports.specs.declared.link.Latest.TheVariants.{Never, Got, Nothing, Fault}
use Rattle.hpx_ports.specs.Faults.{raised}

-- what a deliver answered: a frame and where it goes, that there is none, or a fault
abbrev pub heard_of : Result (Option (ℕ × List ℕ)) FabricFault → Latest
heard_of (Ok (Some frame)) = Got frame.0 frame.1
heard_of (Ok None) = Nothing
heard_of (Err fault) = Fault

-- the first answer of these, if there is one
abbrev pub heard_in : List (Bool × Option (ℕ × List ℕ)) → Latest
heard_in [] = Never
heard_in ((true, got) ∷ rest) = Fault
heard_in ((false, Some frame) ∷ rest) = Got frame.0 frame.1
heard_in ((false, None) ∷ rest) = Nothing

-- the answers of deliver that are to come; behind them there is none
abbrev pub answer_in : List (Result (Option (ℕ × List ℕ)) FabricFault) → Result (Option (ℕ × List ℕ)) FabricFault
answer_in [] = Ok None
answer_in (answer ∷ answers) = answer

-- how often a call failed, after this answer
abbrev pub failed_by : Result (Option (ℕ × List ℕ)) FabricFault → ℕ → ℕ
failed_by (Err Failed) faults = raised faults
failed_by answer faults = faults
