use Rattle.std.proofs.Common.{◌≡◌, [], ◌∙◌, ap, refl}
use Rattle.hpx_agas.specs.Places.{filled}
use Rattle.hpx_agas.proofs.PlacesLemmas.{none_taken, none_dropped, none_first}
use Rattle.hpx_agas.proofs.queue.Room.fill.Goals as goal

pub unreachable-requires-in_default-old : goal.unreachable-requires-in_default-old
unreachable-requires-in_default-old g c =
    let tail = rw c.unwrap-places.ensures at c.split_off.ensures.tail in
    let none : filled c.unwrap-places.result ≡ [] = ap filled tail ∙ none_dropped _ c.self.inside.places c.self.invariant in
    c.in_default-old.not-None (c.replace-old.ensures.value ∙ none_first c.unwrap-places.result c.in-Some.place.now none (c.in-Some.ensures.variant.0 refl) c.in-Some.ensures.value)

pub invariant_of-self : goal.invariant_of-self
invariant_of-self g c =
    let kept = rw c.unwrap-places.ensures at c.split_off.ensures.items in
    ap filled kept ∙ none_taken _ c.self.inside.places c.self.invariant
