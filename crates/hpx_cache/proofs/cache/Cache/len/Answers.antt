use Rattle.std.proofs.lemmas.List.{length-map}
use Rattle.hpx_cache.proofs.Shown.{distinct-shown}
use Rattle.hpx_cache.proofs.cache.Cache.len.Goals as goal

pub returns-clause-sound : goal.returns-clause-sound
returns-clause-sound c =
    rw (← c.self.view_is) (record { distinct = distinct-shown c.self.inside.items.entries c.len.ensures.valid.0; most = rw length-map c.len.ensures.valid.1 })
