-- What a fabric in memory has.
use Rattle.std.specs.Prelude.{ℕ, List, Option, Result}
use Rattle.hpx_ports.specs.declared.fabric.Wire.{Wire}
use Rattle.hpx_ports.specs.declared.fault.FabricFault.{FabricFault}
use Rattle.hpx_ports.specs.declared.link.Latest.{Latest}
use Rattle.hpx_ports.specs.declared.order.Order.{Order}
use Rattle.hpx_ports.specs.declared.plan.Plan.{Plan}

-- the frames in flight, oldest first, the trace, and the order of deliveries
pub record Carried : Type 0 where
  pub flight : List (ℕ × List ℕ)
  pub trace : List Wire
  pub order : Order

-- and what was answered last
pub record Delivery : Type 0 where
  pub flight : List (ℕ × List ℕ)
  pub trace : List Wire
  pub order : Order
  pub latest : Latest

-- and the calls that are to fail, and how many did
pub record Carriage : Type 0 where
  pub flight : List (ℕ × List ℕ)
  pub trace : List Wire
  pub order : Order
  pub latest : Latest
  pub sends : Plan
  pub delivers : Plan
  pub faults : ℕ

-- what a fabric has that is given its answers: those that are still to come, the latest, and how many failed
pub record LooseState : Type 0 where
  pub answers : List (Result (Option (ℕ × List ℕ)) FabricFault)
  pub latest : Latest
  pub faults : ℕ
