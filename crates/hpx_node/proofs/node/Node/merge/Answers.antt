use Rattle.hpx_node.proofs.Common.{Locality, Some, ap, arith, get_some, merged_in, refl, slice_get, sym, true, ◌∙◌, ◌≡◌}
use Rattle.hpx_node.proofs.Riding.{merged_then, merges_below}
use Rattle.hpx_node.proofs.node.Node.merge.Goals as goal

pub merge-requires : goal.merge-requires
merge-requires g c =
    let t = c.args.self.now.tables in
    let x = get_some c.args.self.now.tables.objects c.args.j c.requires.object in
    let yes : c.may_merge.result ≡ true = let no = c.if-not-may_merge.false in cc in
    let below = merges_below t.profile.credit_log c.args.rider c.in-Some.log x.0.state.ids (sym (c.may_merge.ensures x.0 x.1) ∙ yes) in
    let valid = c.self.invariant.3 in
    record {
      inside = rw (← c.self.view_is) at c.requires.object;
      below = omega (arith, below, valid.log_most, ap (λ (y : Locality). y.tables.profile.credit_log) c.self.view_is);
    }

pub returns-clause-goes : goal.returns-clause-goes
returns-clause-goes g c = λ x there.
    let yes : c.may_merge.result ≡ true = let no = c.if-not-may_merge.false in cc in
    let may = sym (c.may_merge.ensures x there) ∙ yes in
    let has = sym c.log.ensures ∙ c.in-Some.is in
    let was : slice_get c.self.inside.objects.items c.args.j ≡ Some x = rw (← c.self.view_is) at there in
    rw (← c.self.view_is, c.merge.ensures.items x was)
    (merged_then c.args.j x (merged_in c.args.rider c.in-Some.log x) c.args.rider c.in-Some.log _ has (rw (← c.self.view_is) at may) refl)
