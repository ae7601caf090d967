use Rattle.std.proofs.Common.{◌∙◌, ap}
use Rattle.hpx_agas.specs.Places.{filled}
use Rattle.hpx_agas.proofs.PlacesLemmas.{none_added}
use Rattle.hpx_agas.proofs.queue.Room.add.Goals as goal

pub invariant_of-self : goal.invariant_of-self
invariant_of-self g c = ap filled c.push_back.ensures.items ∙ none_added _ c.self.inside.places c.self.invariant
