use Rattle.std.proofs.Common.{◌≡◌, ◌≤◌, ◌+◌, length, drop, Some, None, subst, arith}
use Rattle.hpx_bundle.specs.Roads.{Held, parts_left}
use Rattle.hpx_bundle.proofs.Hands.{opened_on, opened_last}
use Rattle.hpx_bundle.proofs.hand.Hand.accepted.Goals as goal

pub returns-then-len-accepted-clause-left : goal.returns-then-len-accepted-clause-left
returns-then-len-accepted-clause-left c =
    let few : length c.self.inside.places.items ≤ c.self.inside.accepted + 1 = let n = c.len.ensures.value in let t = c.if-len-accepted.true in omega (arith, n, t) in
    subst (λ (held : Held). parts_left None ≡ drop 1 (parts_left (Some held))) c.self.view_is (opened_last c.self.inside.to c.self.inside.frame c.self.inside.places.items c.self.inside.fault c.self.inside.accepted c.self.invariant few)

pub returns-clause-left : goal.returns-clause-left
returns-clause-left c =
    subst (λ (held : Held). parts_left (Some (record { frame = (c.self.inside.to, c.self.inside.frame); accepted = c.self.inside.accepted + 1 })) ≡ drop 1 (parts_left (Some held))) c.self.view_is (opened_on c.self.inside.to c.self.inside.frame c.self.inside.accepted)
