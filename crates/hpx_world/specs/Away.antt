-- Frames that are away: in flight, or in hand.
use Rattle.std.specs.Prelude.{ℕ, List, [], ◌∷◌, ◌++◌, ◌≡◌, ◌⊎◌, Option, Some, None}
use Rattle.hpx_journal.specs.Entries.{Frame, Rules}
use Rattle.hpx_journal.specs.Laws.{road_run, outs, ins, SameBag}
use Rattle.hpx_journal.specs.Whole.{IsCarried}
use Rattle.hpx_part.specs.Data.{Entry}
use Rattle.hpx_ports.specs.Told.{followed}
use Rattle.hpx_ports.specs.Frames.{Delivers, events_of}
use Rattle.hpx_ports.specs.declared.fabric.Wire.{Wire}
use Rattle.hpx_ports.specs.declared.fabric.Wire.TheVariants.{Sent as SentWire, Delivered as DeliveredWire}

-- what was sent and was not accepted
abbrev pub road_of : List Entry → List Frame
road_of entries = road_run [] entries

-- the frame in hand, if there is one
abbrev pub listed : Option Frame → List Frame
listed None = []
listed (Some frame) = frame ∷ []

-- the frames that a trace says were sent, from where
abbrev pub sent_in : List Wire → List (ℕ × Frame)
sent_in [] = []
sent_in (SentWire from to bytes ∷ wires) = (from, (to, bytes)) ∷ sent_in wires
sent_in (DeliveredWire to bytes ∷ wires) = sent_in wires

-- those that it says arrived
abbrev pub arrived_in : List Wire → List Frame
arrived_in [] = []
arrived_in (SentWire from to bytes ∷ wires) = arrived_in wires
arrived_in (DeliveredWire to bytes ∷ wires) = (to, bytes) ∷ arrived_in wires

-- a fabric that tells carries for this journal: each frame that was accepted had been sent; what was sent and not accepted is in
-- hand or in flight; its trace has the frames that went out, and those that came in and then the one in hand
pub record IsCarrying (r : Rules) (hand : Option Frame) (flight : Option (List Frame)) (trace : Option (List Wire)) (entries : List Entry) : Type 0 where
  pub frames : List Frame
  pub wires : List Wire
  pub flight_is : flight ≡ Some frames
  pub trace_is : trace ≡ Some wires
  pub carried : IsCarried r [] entries
  pub bag : SameBag (road_of entries) (listed hand ++ frames)
  pub sent : sent_in wires ≡ outs entries
  pub arrived : arrived_in wires ≡ ins entries ++ listed hand

-- a frame that is fetched: the one in hand, or what the fabric delivers
abbrev pub Fetches : Option Frame → Option (List Frame) → Option (List Frame) → Option (List Wire) → Option (List Wire) → Option Frame → Type 0
Fetches None flight flight' trace trace' got = Delivers flight flight' got × (trace' ≡ followed trace (events_of got))
Fetches (Some frame) flight flight' trace trace' got = (got ≡ Some frame) × (flight' ≡ flight) × (trace' ≡ trace)

-- a frame that k sends is taken by the fabric; without one nothing is sent
abbrev pub Puts : ℕ → Option (List Frame) → Option (List Frame) → Option (List Wire) → Option (List Wire) → Option Frame → Type 0
Puts k flight flight' trace trace' None = (flight' ≡ flight) × (trace' ≡ trace)
Puts k flight flight' trace trace' (Some frame) =
    (flight' ≡ followed flight (frame ∷ [])) × (trace' ≡ followed trace (SentWire k frame.0 frame.1 ∷ []))

-- no frame was sent or accepted
pub record IsInside (r : Rules) (entries entries' : List Entry) : Type 0 where
  pub carried : IsCarried r [] entries → IsCarried r [] entries'
  pub road : road_of entries' ≡ road_of entries
  pub outs : outs entries' ≡ outs entries
  pub ins : ins entries' ≡ ins entries

-- at a refusal nothing was fetched, or what was fetched is in hand
abbrev pub Keeps : Option Frame → Option (List Frame) → Option (List Frame) → Option (List Wire) → Option (List Wire) → Option Frame → Type 0
Keeps hand flight flight' trace trace' hand' =
    ((hand' ≡ hand) × (flight' ≡ flight) × (trace' ≡ trace)) ⊎ Fetches hand flight flight' trace trace' hand'
