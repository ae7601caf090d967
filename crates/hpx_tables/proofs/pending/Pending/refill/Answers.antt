use Rattle.std.proofs.Common.{Some, ◌≡◌, ◌<◌, ◌∙◌, length, refl, sym}
use Rattle.std.specs.List.{slice_get}
use Rattle.hpx_part.proofs.Keyed.{slice_get_is}
use Rattle.hpx_tables.specs.Pending.{is_asked_for}
use Rattle.hpx_tables.proofs.Refills.{any_found, refills_by, refused_is, refused_not}
use Rattle.hpx_tables.proofs.pending.Pending.refill.Goals as goal

pub returns-in_default : goal.returns-in_default
returns-in_default g c =
    absurd (any_found (is_asked_for c.args.self.now c.args.id c.args.entry) c.args.self.now.asked c.requires.waits c.in_default.ensures.none)

pub returns-then-log_of-eq0 : goal.returns-then-log_of-eq0
returns-then-log_of-eq0 g c =
    let inside : c.in-Some.k < length c.self.inside.asked.items = rw (← c.self.view_is) at c.in-Some.ensures.inside in
    let there : slice_get c.self.inside.asked.items c.in-Some.k ≡ Some c.remove-place.result =
    slice_get_is c.self.inside.asked.items c.in-Some.k c.remove-place.result inside c.remove-place.ensures.value in
    let found = (rw (← c.self.view_is) at c.in-Some.ensures.found) ∙ there in
    rw (← c.self.view_is, c.replace.ensures, c.remove-place.ensures.items, c.bare.ensures)
    (refills_by _ _ c.args.id c.args.entry c.in-Some.k c.remove-place.result there found refl
    (refused_is c.args.id c.self.inside.refused (sym c.log_of.ensures.log ∙ c.if-log_of-eq0.true)))

pub returns-else-log_of-eq0 : goal.returns-else-log_of-eq0
returns-else-log_of-eq0 g c =
    let inside : c.in-Some.k < length c.self.inside.asked.items = rw (← c.self.view_is) at c.in-Some.ensures.inside in
    let there : slice_get c.self.inside.asked.items c.in-Some.k ≡ Some c.remove-place.result =
    slice_get_is c.self.inside.asked.items c.in-Some.k c.remove-place.result inside c.remove-place.ensures.value in
    let found = (rw (← c.self.view_is) at c.in-Some.ensures.found) ∙ there in
    rw (← c.self.view_is, c.replace.ensures, c.remove-place.ensures.items)
    (refills_by _ _ c.args.id c.args.entry c.in-Some.k c.remove-place.result there found refl
    (refused_not c.args.id c.self.inside.refused (λ e. c.if-log_of-eq0.false (c.log_of.ensures.log ∙ e))))
