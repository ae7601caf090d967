use Rattle.std.proofs.Common.{◌∙◌, ◌≡◌, ap, remove, subst, sym}
use Rattle.std.specs.Map.{values_of}
use Rattle.hpx_part.proofs.Keyed.{slice_get_less}
use Rattle.hpx_part.specs.Data.{Standing}
use Rattle.hpx_tables.proofs.Found.{on_some, under_swapped, value_at, values_swapped}
use Rattle.hpx_tables.proofs.Tallied.{counts_moved, counts_pop, counts_remove}
use Rattle.hpx_tables.specs.Tallies.{Takes}
use Rattle.hpx_tables.proofs.objects.Objects.take.Goals as goal

pub invariant_of-self : goal.invariant_of-self
invariant_of-self c =
    let es = c.self.inside.items.entries in
    let e = c.unwrap.result in
    let there = sym c.swap_remove_index.ensures.entry ∙ c.unwrap.ensures in
    let less = slice_get_less es c.args.j e there in
    let ids : c.as_slice.result.now ≡ e.1.state.ids = c.as_slice.ensures ∙ ap (λ s. s.ids) c.state.ensures.state in
    let takes = subst (λ is. Takes c.self.inside.tally is c.take.new.self) ids c.take.ensures in
    let of = λ (x : Standing). x.state.ids in
    let left = counts_pop of c.self.inside.tally c.take.new.self (remove (values_of es) c.args.j) e.1
    (counts_remove of c.self.inside.tally (values_of es) c.args.j e.1 (value_at es c.args.j e there) c.self.invariant.1) takes in
    rw (on_some c.swap_remove_index.result _ e c.unwrap.ensures c.swap_remove_index.ensures.entries) (
      under_swapped es c.args.j e less c.self.invariant.0,
      counts_moved of c.take.new.self (remove (values_of es) c.args.j) _ (values_swapped es c.args.j e less) left,
    )

pub returns-clause-kept : goal.returns-clause-kept
returns-clause-kept c =
    rw (← c.self.view_is) (value_at c.self.inside.items.entries c.args.j c.unwrap.result (sym c.swap_remove_index.ensures.entry ∙ c.unwrap.ensures))

pub returns-clause-items : goal.returns-clause-items
returns-clause-items c =
    let es = c.self.inside.items.entries in
    let there = sym c.swap_remove_index.ensures.entry ∙ c.unwrap.ensures in
    rw (← c.self.view_is, on_some c.swap_remove_index.result _ c.unwrap.result c.unwrap.ensures c.swap_remove_index.ensures.entries)
    (values_swapped es c.args.j c.unwrap.result (slice_get_less es c.args.j c.unwrap.result there))
