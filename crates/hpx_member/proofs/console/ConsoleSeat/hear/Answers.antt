use Rattle.std.proofs.Common.{◌≡◌, true, false, refl, ap, sym, ◌∙◌, subst}
use Rattle.hpx_journal.specs.Weights.{Book}
use Rattle.hpx_node.specs.Locality.{Locality}
use Rattle.hpx_member.specs.Bodies.{is_frame}
use Rattle.hpx_member.specs.Rounds.{IsUnasked, TakesCounts}
use Rattle.hpx_member.proofs.Led.{leads_accepted, leads_counted, leads_same, left_accepted, left_refused, left_spent}
use Rattle.hpx_member.proofs.Causes.{cause_spent}
use Rattle.hpx_member.proofs.console.ConsoleSeat.hear.Goals as goal

pub returns-in-Ok-clause-leads : goal.returns-in-Ok-clause-leads
returns-in-Ok-clause-leads g c =
    let framed : is_frame c.in_ok-from.body ≡ true = ap is_frame (sym c.as_slice.ensures) ∙ (sym c.is_frame.ensures ∙ c.if-is_frame.true) in
    let before = leads_same g.A.Acts.act_of c.args.self.now.others c.args.self.now.settles c.args.self.now.phase _ c.listen.new.self.node.tables _ c.listen.new.self.book.entries _ _ _
    c.requires.leads (ap (λ (n : Locality). n.tables) c.listen.ensures.node) (ap (λ (b : Book). b.entries) c.listen.ensures.book) refl in
    leads_accepted g.A.Acts.act_of _ _ _ _ _ _ _ _ _ _ c.in_ok-from.from c.in_ok-from.body before framed (ap g.L.Link.trace c.accept.ensures.link ∙ c.in_ok-from.ensures.told)
    c.in-Ok.ensures.sits c.accept.ensures.site c.accept.ensures.grows

pub returns-in-Err-clause-left : goal.returns-in-Err-clause-left
returns-in-Err-clause-left g c =
    let framed : is_frame c.in_ok-from.body ≡ true = ap is_frame (sym c.as_slice.ensures) ∙ (sym c.is_frame.ensures ∙ c.if-is_frame.true) in
    let before = leads_same g.A.Acts.act_of c.args.self.now.others c.args.self.now.settles c.args.self.now.phase _ c.listen.new.self.node.tables _ c.listen.new.self.book.entries _ _ _
    c.requires.leads (ap (λ (n : Locality). n.tables) c.listen.ensures.node) (ap (λ (b : Book). b.entries) c.listen.ensures.book) refl in
    left_accepted g.A.Acts.act_of _ _ _ c.in-Err.stop _ _ _ _ _ _ _ c.in_ok-from.from c.in_ok-from.body before framed
    (ap g.L.Link.trace c.accept.ensures.link ∙ c.in_ok-from.ensures.told) c.in-Err.ensures.left c.accept.ensures.site c.accept.ensures.grows
    c.in-Err.ensures.leaves c.in-Err.ensures.other

pub returns-then-not-count-clause-left : goal.returns-then-not-count-clause-left
returns-then-not-count-clause-left g c =
    let control : is_frame c.in_ok-from.body ≡ false = ap is_frame (sym c.as_slice.ensures) ∙ (sym c.is_frame.ensures ∙ c.if-is_frame.false) in
    let before = leads_same g.A.Acts.act_of c.args.self.now.others c.args.self.now.settles c.args.self.now.phase _ c.listen.new.self.node.tables _ c.listen.new.self.book.entries _ _ _
    c.requires.leads (ap (λ (n : Locality). n.tables) c.listen.ensures.node) (ap (λ (b : Book). b.entries) c.listen.ensures.book) refl in
    left_refused g.A.Acts.act_of _ _ _ _ _ _ _ c.args.self.now.waves c.in_ok-from.from c.in_ok-from.body before control c.in_ok-from.ensures.told
    c.in_ok-from.ensures.heard (subst (λ b. IsUnasked c.args.self.now.waves c.in_ok-from.from b) c.as_slice-2.ensures (c.count.ensures.refused c.if-not-count.true).1)

pub returns-then-is_spent-clause-left : goal.returns-then-is_spent-clause-left
returns-then-is_spent-clause-left g c =
    let control : is_frame c.in_ok-from.body ≡ false = ap is_frame (sym c.as_slice.ensures) ∙ (sym c.is_frame.ensures ∙ c.if-is_frame.false) in
    let before = leads_same g.A.Acts.act_of c.args.self.now.others c.args.self.now.settles c.args.self.now.phase _ c.listen.new.self.node.tables _ c.listen.new.self.book.entries _ _ _
    c.requires.leads (ap (λ (n : Locality). n.tables) c.listen.ensures.node) (ap (λ (b : Book). b.entries) c.listen.ensures.book) refl in
    let took = subst (λ b. TakesCounts c.in_ok-from.from b c.args.self.now.waves c.count.new.waves) c.as_slice-2.ensures (c.count.ensures.counts c.if-not-count.false) in
    left_spent g.A.Acts.act_of _ _ _ _ _ _ _ _ _ c.in_ok-from.from c.in_ok-from.body before control c.in_ok-from.ensures.told c.in_ok-from.ensures.heard
    took (c.is_spent.ensures.0 c.if-is_spent.true)

pub returns-then-is_spent-clause-stops : goal.returns-then-is_spent-clause-stops
returns-then-is_spent-clause-stops g c =
    let took = subst (λ b. TakesCounts c.in_ok-from.from b c.args.self.now.waves c.count.new.waves) c.as_slice-2.ensures (c.count.ensures.counts c.if-not-count.false) in
    cause_spent c.listen.new.self.node.tables c.listen.new.self.book.entries _ _ _ c.in_ok-from.from c.in_ok-from.body _ _ (ap (λ (n : Locality). n.tables.here) c.listen.ensures.node ∙ c.requires.leads.here)
    c.in_ok-from.ensures.latest took (c.is_spent.ensures.0 c.if-is_spent.true) c.in_ok-from.ensures.calm

pub returns-clause-leads : goal.returns-clause-leads
returns-clause-leads g c =
    let control : is_frame c.in_ok-from.body ≡ false = ap is_frame (sym c.as_slice.ensures) ∙ (sym c.is_frame.ensures ∙ c.if-is_frame.false) in
    let before = leads_same g.A.Acts.act_of c.args.self.now.others c.args.self.now.settles c.args.self.now.phase _ c.listen.new.self.node.tables _ c.listen.new.self.book.entries _ _ _
    c.requires.leads (ap (λ (n : Locality). n.tables) c.listen.ensures.node) (ap (λ (b : Book). b.entries) c.listen.ensures.book) refl in
    let took = subst (λ b. TakesCounts c.in_ok-from.from b c.args.self.now.waves c.count.new.waves) c.as_slice-2.ensures (c.count.ensures.counts c.if-not-count.false) in
    leads_counted g.A.Acts.act_of _ _ _ _ _ _ _ _ _ c.in_ok-from.from c.in_ok-from.body before control c.in_ok-from.ensures.told c.in_ok-from.ensures.heard
    took (λ spent. absurd (let odd : c.is_spent.result ≡ true = c.is_spent.ensures.1 spent in let no : c.is_spent.result ≡ false = c.if-is_spent.false in cc))
