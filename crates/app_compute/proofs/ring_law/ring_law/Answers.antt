use Rattle.app_compute.proofs.Rings.{ring_whole}
use Rattle.app_compute.proofs.ring_law.ring_law.Goals as goal

pub returns : goal.returns
returns c = λ rows h. ring_whole rows h
