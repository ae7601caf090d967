use Rattle.std.proofs.Common.{ℕ, ap, refl, sym, ◌∙◌}
use Rattle.std.specs.Prelude.{max}
use Rattle.hpx_parcel.proofs.Seen.{tells_ok, value_plain, value_ref}
use Rattle.hpx_parcel.proofs.glance.value_in.Goals as goal

pub returns-then-tag-ne4-clause-given : goal.returns-then-tag-ne4-clause-given
returns-then-tag-ne4-clause-given c =
    value_plain c.args.limit c.args.seen c.args.bytes.now c.in_ok-tag.tag c.in_ok-tag.rest.now c.in_ok-to.to c.in_ok-to.after.now c.in_ok-tag.ensures c.if-tag-ne4.true c.in_ok-to.ensures

pub returns-in-Ok-clause-given : goal.returns-in-Ok-clause-given
returns-in-Ok-clause-given c =
    let own = c.in-Ok.id-1-own.given in
    value_ref c.args.limit c.args.seen c.args.bytes.now c.in_ok-tag.tag c.in_ok-tag.rest.now own.0.0.0 own.0.0.1.now c.max.result own.0.0.1.now c.in_ok-tag.ensures c.if-tag-ne4.false
    c.if-seen-limit.false (tells_ok _ c.id_with.result _ own.0.0 c.id_with.ensures own.1) (sym (c.max.ensures ∙ ap (λ (k : ℕ). max c.args.seen.most k) c.home.ensures)) refl
