use Rattle.hpx_member.proofs.Led.{leads_gone, left_whole}
use Rattle.hpx_member.proofs.console.ConsoleSeat.step.Goals as goal

pub returns-in-Ok-true-clause-leads : goal.returns-in-Ok-true-clause-leads
returns-in-Ok-true-clause-leads g c =
    leads_gone g.A.Acts.act_of _ _ _ _ _ _ _ _ _ _ c.requires.leads c.go.ensures.sits c.go.ensures.site c.go.ensures.grows c.go.ensures.sends

pub returns-in-Err-clause-left : goal.returns-in-Err-clause-left
returns-in-Err-clause-left g c =
    left_whole g.A.Acts.act_of _ _ _ c.in-Err.stop _ _ _ _
    (leads_gone g.A.Acts.act_of _ _ _ _ _ _ _ _ _ _ c.requires.leads c.go.ensures.sits c.go.ensures.site c.go.ensures.grows c.go.ensures.sends)
    c.in-Err.ensures.other

pub returns-then-awaited-eq0-clause-leads : goal.returns-then-awaited-eq0-clause-leads
returns-then-awaited-eq0-clause-leads g c =
    leads_gone g.A.Acts.act_of _ _ _ _ _ _ _ _ _ _ c.requires.leads c.go.ensures.sits c.go.ensures.site c.go.ensures.grows c.go.ensures.sends

pub hear-requires : goal.hear-requires
hear-requires g c = record {
  leads = leads_gone g.A.Acts.act_of _ _ _ _ _ _ _ _ _ _ c.requires.leads c.go.ensures.sits c.go.ensures.site c.go.ensures.grows c.go.ensures.sends;
}
