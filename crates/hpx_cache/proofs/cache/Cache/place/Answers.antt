use Rattle.std.proofs.Common.{◌∙◌, sym}
use Rattle.hpx_cache.proofs.Shown.{lookup-shown}
use Rattle.hpx_cache.proofs.cache.Cache.place.Goals as goal

pub returns : goal.returns
returns c =
    rw (← c.self.view_is)
    (c.copied.ensures ∙ c.peek.ensures ∙ sym (lookup-shown c.key_of.result c.args.gid c.key_of.ensures c.self.inside.items.entries))
