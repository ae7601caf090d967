use Rattle.std.proofs.Common.{ap, sym, subst}
use Rattle.hpx_journal.specs.Weights.{Book}
use Rattle.hpx_tables.specs.Tables.{IsPassive}
use Rattle.hpx_node.specs.Locality.{Locality}
use Rattle.hpx_member.proofs.Led.{due_same, leads_told, left_told}
use Rattle.hpx_member.proofs.console.ConsoleSeat.begin.Goals as goal

pub returns-in-Ok-tell_all-clause-leads : goal.returns-in-Ok-tell_all-clause-leads
returns-in-Ok-tell_all-clause-leads g c =
    leads_told g.A.Acts.act_of _ _ _ _ _ _ _ _ _ _ _ _ _ _ c.in-Ok.body _ c.renew.ensures.leads
    (subst (λ (n : Locality). IsPassive n.tables) (sym c.renew.ensures.node) c.requires.passive) c.renew.ensures.done
    (due_same _ _ _ _ c.renew.ensures.same.1 c.renew.ensures.same.2 c.requires.due) c.renew.ensures.more c.tell_all.ensures.sits
    (ap (λ (n : Locality). n.tables) c.tell_all.ensures.node) (ap (λ (b : Book). b.entries) c.tell_all.ensures.book) c.in-Ok-tell_all.ensures.told
    c.as_slice.ensures c.in-Ok.ensures c.begun.ensures c.sent.ensures c.taken.ensures c.begin.ensures.opened

pub returns-clause-left : goal.returns-clause-left
returns-clause-left g c =
    left_told g.A.Acts.act_of _ _ _ _ _ _ _ _ _ _ _ _ c.in-Ok.body _ c.renew.ensures.leads c.tell_all.ensures.sits
    (ap (λ (n : Locality). n.tables) c.tell_all.ensures.node) (ap (λ (b : Book). b.entries) c.tell_all.ensures.book) c.in-Err-tell_all.ensures.some
    c.as_slice.ensures c.in-Ok.ensures c.begun.ensures (due_same _ _ _ _ c.renew.ensures.same.1 c.renew.ensures.same.2 c.requires.due) c.renew.ensures.more
    c.in-Err-tell_all.ensures.link
