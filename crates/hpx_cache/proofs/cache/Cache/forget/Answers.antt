use Rattle.std.proofs.Common.{refl}
use Rattle.hpx_cache.proofs.Shown.{remove-shown}
use Rattle.hpx_cache.proofs.cache.Cache.forget.Goals as goal

pub returns : goal.returns
returns c = rw (← c.self.view_is, c.pop.ensures.entries, remove-shown c.key_of.result c.args.gid c.key_of.ensures) refl
