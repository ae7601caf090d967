-- What links pass on.
use Rattle.std.specs.Prelude.{ℕ, List, [], ◌∷◌, Option, Some, None, Result, Ok, Err}
use Rattle.hpx_ports.specs.Faults.{raised}
use Rattle.hpx_ports.specs.declared.link.Post.{Post}
use Rattle.hpx_ports.specs.declared.link.Post.TheVariants.{Received}
use Rattle.hpx_ports.specs.declared.link.Asking.{Asking}
use Rattle.hpx_ports.specs.declared.link.Latest.{Latest}
use Rattle.hpx_ports.specs.declared.link.Latest.TheVariants.{Never, Got, Fault}
use Rattle.hpx_ports.specs.declared.link.LinkFault.{LinkFault}
use Rattle.hpx_ports.specs.declared.link.Seat.{Seat}
use Rattle.hpx_ports.specs.declared.plan.Plan.{Plan}

-- a body, and the locality where it comes from
abbrev pub Body : Type 0
Body = ℕ × List ℕ

-- what a receive answered
abbrev pub latest_of : Result Body LinkFault → Latest
latest_of (Ok body) = Got body.0 body.1
latest_of (Err fault) = Fault

-- what it adds to the trace
abbrev pub posts_of : Body → List Post
posts_of body = Received body.0 body.1 ∷ []

-- nothing was asked
abbrev pub unasked : Asking
unasked = record { times = 0; seat = None }

-- a seat was asked for, once more
abbrev pub asked_for : Seat → Asking → Asking
asked_for seat asked = record { times = raised asked.times; seat = Some seat }

-- what a link in memory has: the bodies that are still to come, the trace, the latest, the calls that are to fail, and how many did
pub record LinkState : Type 0 where
  pub coming : List Body
  pub trace : List Post
  pub latest : Latest
  pub sends : Plan
  pub receives : Plan
  pub faults : ℕ

-- what an opener in memory has: what is to come on its next link, the sends and the receives that fail there, its own calls that are to fail, the seat that it
-- was asked for last, and how many calls failed
pub record OpenerState : Type 0 where
  pub coming : List Body
  pub sends : List ℕ
  pub receives : List ℕ
  pub connects : Plan
  pub seat : Option Seat
  pub faults : ℕ

-- the link that it opens next
abbrev pub link_of : OpenerState → LinkState
link_of o = record {
  coming = o.coming;
  trace = [];
  latest = Never;
  sends = record { numbers = o.sends; calls = 0 };
  receives = record { numbers = o.receives; calls = 0 };
  faults = 0;
}
