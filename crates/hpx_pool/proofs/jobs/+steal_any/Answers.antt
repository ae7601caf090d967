use Rattle.std.proofs.Common.{refl, ap}
use Rattle.hpx_pool.proofs.Loot.{bag_push, bag_deeper}
use Rattle.hpx_pool.proofs.jobs.+steal_any.Goals as goal

pub returns-in-Some-clause-some : goal.returns-in-Some-clause-some
returns-in-Some-clause-some g t c = rw c.in_ok-thieves.ensures.cases.0 (bag_push _ _ _ _ c.in-Some.ensures.some)

pub returns-clause-some : goal.returns-clause-some
returns-clause-some g t c = rw c.in_ok-thieves.ensures.cases.0 (bag_deeper _ _ _ _ _ _ (ap (λ v. v.got) c.in_default.ensures.none) refl c.steal_any.ensures.some)
