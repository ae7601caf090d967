use Rattle.hpx_node.proofs.Common.{Count, Id, Locality, Parcel, Reason, Registry, Tables, [], answered, ap, at_all, bare, refl, sym, ◌++◌, ◌∙◌, ◌∷◌, ◌≡◌}
use Rattle.hpx_node.proofs.Records.{given_home, granted_by_entry, granted_deals, leaves_asked, live_covers, live_home, refused_by_entry, refused_deals}
use Rattle.hpx_node.proofs.node.Node.answer.Goals.{in-Limit, in-Yes}
use Rattle.hpx_node.proofs.node.Node.answer.Goals as goal

pub returns-in_default : goal.returns-in_default
returns-in_default g c =
    let live = rw (← c.self.view_is) at c.requires.live in
    let enough = rw (← c.self.view_is) at c.requires.enough in
    absurd (c.in_default.ensures.strange.0 refl (live_covers c.self.inside.here c.self.inside.records.records c.args.id live enough))

pub returns-clause-deals : goal.returns-clause-deals
returns-clause-deals g c =
    let live = rw (← c.self.view_is) at c.requires.live in
    let goes = rw (c.new.ensures) at c.mail.ensures.goes in
    let born = ap (λ (x : Registry Parcel). x.births) c.in-Ok.ensures.rest in
    let waiting = ap (λ (x : Registry Parcel). x.waiting) c.in-Ok.ensures.rest in
    rw (← c.self.view_is)
    (elim c.match-granted.branch [
      | in-Limit w ↦
          refused_deals _ _ c.args.id live c.ask.new.self.births c.ask.new.self.records c.ask.new.self.waiting born waiting c.self.inside.records.profile c.match-granted.why.1 c.args.asker c.args.entry c.self.invariant.5 goes
          (rw w.in-Limit.is at c.in-Ok.ensures.granted) (ap (λ (p : Reason × Id). p.1) w.why-is)
      | in-Yes w ↦
          granted_deals _ _ c.args.id live c.ask.new.self.births c.ask.new.self.records c.ask.new.self.waiting born waiting c.self.inside.records.profile c.match-granted.why.1 c.args.asker c.args.entry c.self.invariant.5 goes
          w.in-Yes.more (rw w.in-Yes.is at c.in-Ok.ensures.granted) (ap (λ (p : Reason × Id). p.1) w.why-is)
    ])

pub returns-clause-grows : goal.returns-clause-grows
returns-clause-grows g c =
    let before = c.args.book.now.entries in
    let records : c.args.self.now.tables.records ≡ c.self.inside.records.records = ap (λ (t : Locality). t.tables.records) (sym c.self.view_is) in
    let profile : c.args.self.now.tables.profile ≡ c.self.inside.records.profile =
    ap (λ (t : Locality). t.tables.profile) (sym c.self.view_is) ∙ sym c.self.invariant.5 in
    let entry : Count (bare c.args.id) c.count-count.result c.match-granted.why.0 ∷ [] ≡ answered c.args.self.now.tables c.args.id =
    elim c.match-granted.branch [
      | in-Limit w ↦
          ap (λ (p : Reason × Id). Count (bare c.args.id) c.count-count.result p.0 ∷ []) w.why-is
          ∙ refused_by_entry c.args.self.now.tables c.args.id c.self.inside.records.profile c.self.inside.records.records c.ask.new.self.records
          c.count-count.result records profile c.requires.live c.in-Ok.ensures.record c.count-count.ensures
          (rw w.in-Limit.is at c.in-Ok.ensures.granted)
      | in-Yes w ↦
          ap (λ (p : Reason × Id). Count (bare c.args.id) c.count-count.result p.0 ∷ []) w.why-is
          ∙ granted_by_entry c.args.self.now.tables c.args.id c.self.inside.records.profile c.self.inside.records.records c.ask.new.self.records
          c.count-count.result records profile c.requires.live c.in-Ok.ensures.record c.count-count.ensures w.in-Yes.more
          (rw w.in-Yes.is at c.in-Ok.ensures.granted)
    ] in
    c.push.ensures.entries
    ∙ (ap (λ o. before ++ record { at = c.self.inside.here; event = Count o c.count-count.result c.match-granted.why.0 } ∷ []) c.bare-object.ensures
    ∙ (ap (λ k. before ++ record { at = k; event = Count (bare c.args.id) c.count-count.result c.match-granted.why.0 } ∷ []) (ap (λ (t : Locality). t.tables.here) c.self.view_is)
    ∙ ap (λ es. before ++ at_all c.args.self.now.tables.here es) entry))

pub returns-clause-leaves : goal.returns-clause-leaves
returns-clause-leaves g c =
    let live = rw (← c.self.view_is) at c.requires.live in
    rw (← c.self.view_is)
    (leaves_asked _ _ c.args.id _ live (ap (λ (t : Tables). t.records) c.mail.ensures.goes) c.in-Ok.ensures.others
    c.self.inside.records.profile c.self.invariant.5 c.in-Ok.ensures.record c.args.asker c.args.entry)

pub mail-requires-clause-may : goal.mail-requires-clause-may
mail-requires-clause-may g c =
    let live = rw (← c.self.view_is) at c.requires.live in
    let home : c.args.id.home ≡ c.self.inside.here = live_home c.self.inside.here c.self.inside.records.records c.args.id live in
    let given : c.match-granted.why.1.home ≡ c.args.id.home = elim c.match-granted.branch [
      | in-Limit w ↦ ap (λ (p : Reason × Id). p.1.home) w.why-is
      | in-Yes w ↦
          ap (λ (p : Reason × Id). p.1.home) w.why-is
          ∙ given_home c.self.inside.here c.self.inside.records.records c.self.inside.records.profile c.args.id w.in-Yes.more live
          (rw w.in-Yes.is at c.in-Ok.ensures.granted)
    ] in
    rw (c.new.ensures) (sym (given ∙ home))
