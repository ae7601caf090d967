use Rattle.std.proofs.Common.{◌∙◌, sym, refl, ap, subst}
use Rattle.std.proofs.lemmas.Option.{same_Some}
use Rattle.std.specs.Map.{values_of}
use Rattle.std.specs.Prelude.{slice_get}
use Rattle.hpx_part.specs.Data.{Standing}
use Rattle.hpx_tables.proofs.Found.{under_set, values_set}
use Rattle.hpx_tables.proofs.Tallied.{counts_set}
use Rattle.hpx_tables.specs.Tallies.{Adds, Counts, Takes}
use Rattle.hpx_tables.proofs.objects.Objects.put_state.Goals as goal

pub invariant_of-self : goal.invariant_of-self
invariant_of-self c =
    let es = c.self.inside.items.entries in
    let of = λ (x : Standing). x.state.ids in
    let there = ap (λ s. slice_get s.items c.args.j) c.self.view_is ∙ c.at.ensures in (
      under_set es c.args.j c.at.result.now c.new.result there (ap (λ x. x.object) c.new.ensures ∙ c.object-object.ensures) c.self.invariant.0,
      subst (Counts c.add.new.self of) (sym (values_set es c.args.j c.new.result))
          (counts_set of c.self.inside.tally c.take.new.self c.add.new.self (values_of es) c.args.j c.index.result.now c.new.result c.index.ensures c.self.invariant.1
          (subst (λ is. Takes c.self.inside.tally is c.take.new.self) (c.as_slice.ensures ∙ ap (λ s. s.ids) c.state.ensures.state) c.take.ensures)
          (subst (λ is. Adds c.take.new.self is c.add.new.self) (c.as_slice-2.ensures ∙ ap (λ (x : Standing). x.state.ids) (sym c.new.ensures)) c.add.ensures)),
    )

pub returns-clause-items : goal.returns-clause-items
returns-clause-items c x at =
    let same = same_Some c.at.result.now x (sym c.at.ensures ∙ at) in
    values_set c.self.inside.items.entries c.args.j c.new.result
    ∙ rw (← c.self.view_is, c.new.ensures, c.object-object.ensures, same) refl
