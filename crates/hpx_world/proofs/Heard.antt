-- What the fabric answered last.
use Rattle.std.specs.Prelude.{Option, Some, None, Ok}
use Rattle.std.proofs.Common.{◌≡◌, sym, ap, ◌∙◌}
use Rattle.hpx_journal.specs.Entries.{Frame}
use Rattle.hpx_ports.specs.Heard.{heard_of}
use Rattle.hpx_ports.specs.declared.fault.FabricFault.{FabricFault}
use Rattle.hpx_ports.specs.declared.link.Latest.{Latest}
use Rattle.hpx_ports.specs.declared.link.Latest.TheVariants.{Nothing}
use Rattle.hpx_world.specs.Heard.{IsLatest, KeepsLatest}

-- a frame that is delivered is the last answer
pub heard_latest : (got : Option Frame) → IsLatest got (heard_of (Ok got))
heard_latest got frame is = ap (λ o. heard_of (Ok o)) is

-- and so is that there is none
pub heard_nothing : (got : Option Frame) → got ≡ None → heard_of (Ok got) ≡ Nothing
heard_nothing got is = ap (λ o. heard_of (Ok o)) is

-- where nothing is delivered, and the hand stays
pub latest_same : (hand hand' : Option Frame) (latest latest' : Latest) → hand' ≡ hand → latest' ≡ latest → KeepsLatest hand latest hand' latest'
latest_same hand hand' latest latest' h l kept frame is = l ∙ kept frame (sym h ∙ is)

-- where none is in hand
pub latest_none : (hand : Option Frame) (latest : Latest) → hand ≡ None → IsLatest hand latest
latest_none hand latest none frame is = absurd (let e = sym none ∙ is in cc)
