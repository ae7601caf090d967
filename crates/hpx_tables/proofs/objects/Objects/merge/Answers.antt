use Rattle.std.proofs.Common.{◌∙◌, refl, subst, sym, ap}
use Rattle.std.specs.Map.{values_of}
use Rattle.hpx_part.specs.Data.{Standing}
use Rattle.hpx_tables.proofs.Alls.{some_same}
use Rattle.hpx_tables.proofs.Found.{under_set, values_set}
use Rattle.hpx_tables.proofs.Tallied.{counts_like, merged_many}
use Rattle.hpx_tables.specs.Tallies.{Counts, many_in}
use Rattle.hpx_tables.proofs.objects.Objects.merge.Goals as goal

pub invariant_of-self : goal.invariant_of-self
invariant_of-self c =
    let es = c.self.inside.items.entries in
    let x = c.index_mut.result.now in
    let of = λ (x : Standing). x.state.ids in (
      under_set es c.args.j x c.merge.new.self c.index_mut.ensures.value (ap (λ x. x.object) c.merge.ensures) c.self.invariant.0,
      subst (Counts c.self.inside.tally of) (sym (values_set es c.args.j c.merge.new.self))
          (counts_like of c.self.inside.tally (values_of es) c.args.j x c.merge.new.self c.index_mut.ensures.value
          (λ o. ap (λ (y : Standing). many_in o y.state.ids) c.merge.ensures ∙ merged_many o c.args.rider c.args.log x.state.ids) c.self.invariant.1),
    )

pub returns-clause-items : goal.returns-clause-items
returns-clause-items c x at =
    let same = some_same c.index_mut.result.now x (sym c.index_mut.ensures.value ∙ (rw (← c.self.view_is) at at)) in
    values_set c.self.inside.items.entries c.args.j c.merge.new.self ∙ rw (← c.self.view_is, c.merge.ensures, same) refl
