use Rattle.std.proofs.Common.{◌∙◌, ◌≡◌, sym, refl, ap, find, subst}
use Rattle.std.specs.Map.{values_of}
use Rattle.hpx_journal.specs.Local.{is_standing}
use Rattle.indexmap.proofs.CallerLemmas.{insert_entry-new}
use Rattle.hpx_part.specs.Data.{Standing}
use Rattle.hpx_tables.proofs.Found.{eq, lookup-find, under_put, values_put, on_ok}
use Rattle.hpx_tables.proofs.Tallied.{counts_push}
use Rattle.hpx_tables.specs.Tallies.{Adds, Counts}
use Rattle.hpx_tables.proofs.objects.Objects.put.Goals as goal

pub invariant_of-self : goal.invariant_of-self
invariant_of-self c =
    let es = c.self.inside.items.entries in
    let k = c.key_of-key.result in
    let none = lookup-find k c.object.result c.key_of-key.ensures es c.self.invariant.0
    ∙ ap (λ o. find (is_standing o) (values_of es)) c.object.ensures
    ∙ ap (λ s. find (is_standing c.args.kept.object) s.items) c.self.view_is ∙ c.requires.absent in
    let is = on_ok c.insert.result _ c.unwrap.result c.unwrap.ensures c.insert.ensures.entries ∙ insert_entry-new eq c.self.inside.items k c.args.kept none in
    let ids : c.as_slice.result.now ≡ c.args.kept.state.ids = c.as_slice.ensures ∙ ap (λ s. s.ids) c.state.ensures.state in
    let adds = subst (λ is. Adds c.self.inside.tally is c.add.new.self) ids c.add.ensures in
    let counts = counts_push (λ (x : Standing). x.state.ids) c.self.inside.tally c.add.new.self (values_of es) c.args.kept c.self.invariant.1 adds in
    rw is (
      under_put es (k, c.args.kept) c.self.invariant.0 (c.key_of-key.ensures ∙ rw c.object.ensures refl),
      subst (Counts c.add.new.self (λ (x : Standing). x.state.ids)) (sym (values_put es (k, c.args.kept))) counts,
    )

pub returns-clause-items : goal.returns-clause-items
returns-clause-items c =
    let es = c.self.inside.items.entries in
    let k = c.key_of-key.result in
    let none = lookup-find k c.object.result c.key_of-key.ensures es c.self.invariant.0
    ∙ ap (λ o. find (is_standing o) (values_of es)) c.object.ensures
    ∙ ap (λ s. find (is_standing c.args.kept.object) s.items) c.self.view_is ∙ c.requires.absent in
    let is = on_ok c.insert.result _ c.unwrap.result c.unwrap.ensures c.insert.ensures.entries ∙ insert_entry-new eq c.self.inside.items k c.args.kept none in
    rw (is, ← c.self.view_is) (values_put es (k, c.args.kept))
