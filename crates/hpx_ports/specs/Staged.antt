-- What happened to a frame, and its bytes, as an entry of the trace.
use Rattle.std.specs.Prelude.{ℕ, List}
use Rattle.hpx_ports.specs.declared.fabric.Wire.{Wire}
use Rattle.hpx_ports.specs.declared.fabric.Wire.TheVariants as wire
use Rattle.hpx_ports.specs.declared.flight.Stage.{Stage}
use Rattle.hpx_ports.specs.declared.flight.Stage.TheVariants.{Sent, Delivered}

-- a frame at a stage of its way
abbrev pub wire_of : Stage × List ℕ → Wire
wire_of (Sent from to, bytes) = wire.Sent from to bytes
wire_of (Delivered to, bytes) = wire.Delivered to bytes
