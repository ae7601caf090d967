use Rattle.hpx_cache.proofs.Shown.{lookup-shown, look_some, look_none}
use Rattle.hpx_cache.proofs.cache.Cache.move_to_front.Goals as goal

pub returns-clause-some : goal.returns-clause-some
returns-clause-some c =
    let es = c.self.inside.items.entries in
    rw (← c.self.view_is, c.promote.ensures.entries, lookup-shown c.key_of.result c.args.gid c.key_of.ensures es)
    (look_some c.key_of.result c.args.gid c.key_of.ensures es)

pub returns-clause-none : goal.returns-clause-none
returns-clause-none c =
    let es = c.self.inside.items.entries in
    rw (← c.self.view_is, c.promote.ensures.entries, lookup-shown c.key_of.result c.args.gid c.key_of.ensures es)
    (look_none c.key_of.result c.args.gid c.key_of.ensures es c.self.inside.items.cap)
