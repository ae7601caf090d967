use Rattle.std.proofs.Common.{◌≡◌, false, arith, length, sym, subst}
use Rattle.hpx_ended.specs.Tally.{waits}
use Rattle.hpx_member.proofs.Led.{again_done, leads_anew, waits_fresh}
use Rattle.hpx_member.proofs.console.ConsoleSeat.renew.Goals as goal

pub returns-then-begun-clause-leads : goal.returns-then-begun-clause-leads
returns-then-begun-clause-leads g c =
    let last : c.args.self.now.waves.begun ≡ 4294967295 = grind arith in
    leads_anew g.A.Acts.act_of _ _ _ _ _ _ _ _ c.requires.leads c.requires.again last c.restart.ensures

pub returns-then-begun-clause-done : goal.returns-then-begun-clause-done
returns-then-begun-clause-done g c = subst (λ t. waits t ≡ false) (sym c.restart.ensures) (waits_fresh (length c.args.self.now.waves.answers))

pub returns-else-begun-clause-done : goal.returns-else-begun-clause-done
returns-else-begun-clause-done g c = again_done c.args.self.now.waves c.requires.again
