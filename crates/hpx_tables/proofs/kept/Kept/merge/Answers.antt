use Rattle.std.proofs.Common.{List, Some, ◌+◌, ◌≡◌, ◌∙◌, ap, set, sym, true}
use Rattle.hpx_journal.specs.Data.{Id}
use Rattle.hpx_part.proofs.Keyed.{slice_get_is}
use Rattle.hpx_tables.specs.Merged.{is_like, merged, merged_in}
use Rattle.hpx_tables.proofs.Merges.{merged_at, none_like, some_like}
use Rattle.hpx_tables.proofs.kept.Kept.merge.Goals as goal

pub returns-in-Some : goal.returns-in-Some
returns-in-Some c =
    let old = c.self.inside.standing in
    let x = c.index-ids-k.result in
    let there = slice_get_is c.as_slice-ids.result.now c.in-Some.k c.index-ids-k.result c.in-Some.ensures.inside c.index-ids-k.is in
    let like : is_like c.args.rider c.args.log c.index-ids-k.result ≡ true = (some_like c.args.rider c.args.log c.as_slice-ids.result.now c.index-ids-k.result (c.in-Some.ensures.found ∙ there)).0 in
    let ids : c.set.new.self ≡ merged c.args.rider c.args.log c.self.inside.standing.state.ids =
    c.set.ensures
    ∙ (ap (set c.self.inside.standing.state.ids c.in-Some.k) c.with_log.ensures
    ∙ (ap (λ (is : List Id). set is c.in-Some.k (record { home = x.home; kind = x.kind; number = x.number; log = Some (c.args.log + 1) })) (sym c.as_slice-ids.ensures)
    ∙ (sym (merged_at c.args.rider c.args.log c.as_slice-ids.result.now c.in-Some.k c.index-ids-k.result there c.in-Some.ensures.first like)
    ∙ ap (merged c.args.rider c.args.log) c.as_slice-ids.ensures))) in
    ap (λ (is : List Id). record { object = old.object; state = record { drawn = old.state.drawn; values = old.state.values; conts = old.state.conts; ids = is } }) ids
    ∙ ap (merged_in c.args.rider c.args.log) c.self.view_is

pub returns-in_default : goal.returns-in_default
returns-in_default c =
    let old = c.args.self.now in
    let none = (none_like c.args.rider c.args.log c.as_slice-ids.result.now c.in_default.ensures.none).0 in
    let ids = ap (merged c.args.rider c.args.log) (sym c.as_slice-ids.ensures) ∙ (none ∙ c.as_slice-ids.ensures) in
    sym c.self.view_is
    ∙ (ap (λ (is : List Id). record { object = c.self.inside.standing.object; state = record { drawn = c.self.inside.standing.state.drawn; values = c.self.inside.standing.state.values; conts = c.self.inside.standing.state.conts; ids = is } }) (sym ids)
    ∙ ap (merged_in c.args.rider c.args.log) c.self.view_is)
