-- What carrying frames does to those in flight, and to the trace.
use Rattle.std.specs.Prelude.{ℕ, Option, Some, None, List, [], ◌∷◌, ◌++◌, ◌≡◌}
use Rattle.hpx_ports.specs.declared.fabric.Wire.{Wire}
use Rattle.hpx_ports.specs.declared.fabric.Wire.TheVariants.{Delivered}

-- a frame in flight: where it goes, and its bytes
abbrev pub Frame : Type 0
Frame = ℕ × List ℕ

-- one frame was taken out of those in flight, from any place
pub record TakesOut (old : List Frame) (new : Option (List Frame)) (frame : Frame) : Type 0 where
  pub front : List Frame
  pub back : List Frame
  pub before : old ≡ front ++ frame ∷ back
  pub after : new ≡ Some (front ++ back)

-- What was delivered was in flight, and is no more. Nothing is delivered only where nothing was in flight.
abbrev pub Delivers : Option (List Frame) → Option (List Frame) → Option Frame → Type 0
Delivers None new got = new ≡ None
Delivers (Some old) new None = (old ≡ []) × (new ≡ Some [])
Delivers (Some old) new (Some frame) = TakesOut old new frame

-- what a delivery adds to the trace
abbrev pub events_of : Option Frame → List Wire
events_of None = []
events_of (Some frame) = Delivered frame.0 frame.1 ∷ []
