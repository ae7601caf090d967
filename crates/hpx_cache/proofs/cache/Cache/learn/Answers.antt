use Rattle.hpx_cache.proofs.Shown.{put-shown}
use Rattle.hpx_cache.proofs.cache.Cache.learn.Goals as goal

pub returns-clause-ok : goal.returns-clause-ok
returns-clause-ok c =
    rw (← c.self.view_is, c.in_ok-put.ensures.entries)
    (put-shown c.key_of.result c.args.gid c.key_of.ensures c.self.inside.items.entries c.self.inside.items.cap c.args.place)
