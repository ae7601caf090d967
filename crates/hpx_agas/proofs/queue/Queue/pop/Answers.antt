use Rattle.std.proofs.Common.{◌≡◌, ◌∷◌}
use Rattle.hpx_agas.proofs.PlacesLemmas.{first_out}
use Rattle.hpx_agas.proofs.queue.Queue.pop.Goals as goal

pub invariant_of-self-2 : goal.invariant_of-self-2
invariant_of-self-2 g c =
    let is : c.self.inside.places ≡ c.in_ok-pop_front.field-0 ∷ c.pop_front.new.self = rw c.in_ok-pop_front.was at c.pop_front.ensures.items in
    (first_out c.self.inside.places c.in_ok-pop_front.field-0 c.pop_front.new.self c.self.invariant is).kept

pub returns-clause-item : goal.returns-clause-item
returns-clause-item g c =
    let is : c.self.inside.places ≡ c.in_ok-pop_front.field-0 ∷ c.pop_front.new.self = rw c.in_ok-pop_front.was at c.pop_front.ensures.items in
    rw (← c.self.view_is)
    (first_out c.self.inside.places c.in_ok-pop_front.field-0 c.pop_front.new.self c.self.invariant is).item
