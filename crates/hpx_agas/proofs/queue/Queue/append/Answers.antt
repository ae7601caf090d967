use Rattle.std.proofs.Common.{◌≡◌, ◌++◌, ◌∙◌, ap}
use Rattle.hpx_agas.specs.Places.{filled}
use Rattle.hpx_agas.proofs.PlacesLemmas.{filled-append, all_filled}
use Rattle.hpx_agas.proofs.queue.Queue.append.Goals as goal

pub invariant_of-self : goal.invariant_of-self
invariant_of-self g c =
    let is : c.append.new.self ≡ c.self.inside.places ++ c.other.inside.places = rw c.unwrap.ensures at c.append.ensures.items in
    rw is (all_filled c.self.inside.places c.other.inside.places c.self.invariant c.other.invariant)

pub returns : goal.returns
returns g c =
    let is : c.append.new.self ≡ c.self.inside.places ++ c.other.inside.places = rw c.unwrap.ensures at c.append.ensures.items in
    rw (← c.self.view_is, ← c.other.view_is)
    (ap filled is ∙ filled-append c.self.inside.places c.other.inside.places)
