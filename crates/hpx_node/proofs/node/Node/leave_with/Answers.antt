use Rattle.hpx_node.proofs.Common.{Go, Id, List, None, Parcel, Shipped, Some, Standing, Stands, State, Tables, ap, arith, bare, find, is_some, is_standing, left_stands, move_to, refl, some_same, subst, sym, target_of, true, ◌++◌, ◌∙◌, ◌∷◌, ◌≡◌}
use Rattle.std.specs.Prelude.{◌≢◌, []}
use Rattle.std.specs.List.Sorted.{IsPermutation}
use Rattle.hpx_journal.specs.Bags.{without}
use Rattle.hpx_parcel.specs.Parcels.{IsParcel}
use Rattle.hpx_part.specs.Data.{Left}
use Rattle.hpx_part.specs.Parts.{at_all}
use Rattle.hpx_node.proofs.Departs.{goes_with, granted, done, is_go, not_found, now_left, spare_kept, standing}
use Rattle.hpx_node.proofs.Records.{leaves_freed}
use Rattle.hpx_steps.proofs.Puts.{move_to-bare}
use Rattle.hpx_steps.specs.Frames.{MayGoTo}
use Rattle.hpx_node.proofs.node.Node.leave_with.Goals as goal

pub returns-in_default-into_parcel : goal.returns-in_default-into_parcel
returns-in_default-into_parcel g c =
    let h = rw (← c.self.view_is) at c.requires.stands in
    let may = rw (← c.self.view_is) at c.requires.may in
    let go = is_go g.A.Acts.act_of _ _ h c.args.i may c.into_parcel.result (c.in-Some.ensures.some.0 ∙ ap (λ p. Some p) (sym c.into_parcel.ensures.parcel)) in
    absurd (c.in_default-into_parcel.not-Go go.0 go.1)

pub returns-in_default-place-clause-stands : goal.returns-in_default-place-clause-stands
returns-in_default-place-clause-stands g c =
    let h = rw (← c.self.view_is) at c.requires.stands in
    let may = rw (← c.self.view_is) at c.requires.may in
    let there = standing g.A.Acts.act_of _ _ h c.args.i may c.into_parcel.result (c.in-Some.ensures.some.0 ∙ ap (λ p. Some p) (sym c.into_parcel.ensures.parcel)) c.in-Go.action c.in-Go.is in
    absurd (not_found _ there (rw (c.target-2.ensures) at c.in_default-place.ensures.none))

pub returns-in_default-place-clause-departs : goal.returns-in_default-place-clause-departs
returns-in_default-place-clause-departs g c =
    let h = rw (← c.self.view_is) at c.requires.stands in
    let may = rw (← c.self.view_is) at c.requires.may in
    let there = standing g.A.Acts.act_of _ _ h c.args.i may c.into_parcel.result (c.in-Some.ensures.some.0 ∙ ap (λ p. Some p) (sym c.into_parcel.ensures.parcel)) c.in-Go.action c.in-Go.is in
    absurd (not_found _ there (rw (c.target-2.ensures) at c.in_default-place.ensures.none))

pub new-requires : goal.new-requires
new-requires g c =
    let h = rw (← c.self.view_is) at c.requires.stands in
    let may = rw (← c.self.view_is) at c.requires.may in
    let at : find (is_standing (target_of c.in-Go.action)) c.self.inside.objects.items ≡ Some c.take.result =
    (rw (c.target-2.ensures) at c.in-Some-place.ensures.found) ∙ c.take.ensures.kept in
    let its = goes_with g.A.Acts.act_of _ _ h c.args.i may c.into_parcel.result (c.in-Some.ensures.some.0 ∙ ap (λ p. Some p) (sym c.into_parcel.ensures.parcel)) c.in-Go.action c.in-Go.is
    c.in-Some-place.j c.take.result c.take.ensures.kept at in
    subst (λ s. IsParcel (Shipped c.in-Go.action s)) (sym c.into_state-state.ensures.state) its.fit

pub mail-requires-clause-may : goal.mail-requires-clause-may
mail-requires-clause-may g c =
    let h = rw (← c.self.view_is) at c.requires.stands in
    let may = rw (← c.self.view_is) at c.requires.may in
    let at : find (is_standing (target_of c.in-Go.action)) c.self.inside.objects.items ≡ Some c.take.result =
    (rw (c.target-2.ensures) at c.in-Some-place.ensures.found) ∙ c.take.ensures.kept in
    let its = goes_with g.A.Acts.act_of _ _ h c.args.i may c.into_parcel.result (c.in-Some.ensures.some.0 ∙ ap (λ p. Some p) (sym c.into_parcel.ensures.parcel)) c.in-Go.action c.in-Go.is
    c.in-Some-place.j c.take.result c.take.ensures.kept at in
    let moves : move_to c.in-Go.action ≡ Some c.in-Some-move_to.to = sym c.move_to.ensures ∙ c.in-Some-move_to.is in
    subst (λ p. MayGoTo c.self.inside.here c.in-Some-move_to.to p) (sym c.new.ensures)
    (move_to-bare c.in-Go.action ∙ moves, subst (λ k. k ≢ c.self.inside.here) (some_same _ _ (sym its.moves ∙ moves)) its.away)

pub mail-requires-clause-spare : goal.mail-requires-clause-spare
mail-requires-clause-spare g c = spare_kept _ _ _ _ _ _ _ _ _ _ _ _ (rw (← c.self.view_is) at c.requires.spare) c.take.ensures.spare (omega arith) c.leave.ensures.spare

pub returns-clause-stands : goal.returns-clause-stands
returns-clause-stands g c =
    let h = rw (← c.self.view_is) at c.requires.stands in
    let may = rw (← c.self.view_is) at c.requires.may in
    let got = c.in-Some.ensures.some.0 ∙ ap (λ p. Some p) (sym c.into_parcel.ensures.parcel) in
    let at : find (is_standing (target_of c.in-Go.action)) c.self.inside.objects.items ≡ Some c.take.result =
    (rw (c.target-2.ensures) at c.in-Some-place.ensures.found) ∙ c.take.ensures.kept in
    let its = goes_with g.A.Acts.act_of _ _ h c.args.i may c.into_parcel.result got c.in-Go.action c.in-Go.is c.in-Some-place.j c.take.result c.take.ensures.kept at in
    let moves : move_to c.in-Go.action ≡ Some c.in-Some-move_to.to = sym c.move_to.ensures ∙ c.in-Some-move_to.is in
    let now = now_left g.A.Acts.act_of _ c.mail.new.self.tables _ h c.in-Some-move_to.to c.in-Go.action c.take.result.state c.new.result _ _ _ c.take.new.self.items c.args.i c.mail.ensures.goes
    (c.new.ensures ∙ ap (λ s. Shipped c.in-Go.action s) c.into_state-state.ensures.state)
    (ap (λ m. m.leaving) c.in-Some.ensures.some.1) (ap (λ m. m.stray) c.in-Some.ensures.some.1) (ap (λ m. m.came) c.in-Some.ensures.some.1) in
    let wrote = c.push.ensures.entries ∙ ap (λ o. c.args.book.now.entries ++ at_all c.self.inside.here (Left o c.in-Some-move_to.to ∷ [])) (c.bare-object.ensures ∙ ap bare c.target.ensures) in
    subst (Stands g.A.Acts.act_of c.mail.new.self.tables) (sym wrote)
    (left_stands g.A.Acts.act_of _ c.mail.new.self.tables _ h (omega (arith, c.self.invariant.3.log_least)) c.args.i c.in-Go.action c.in-Some-move_to.to c.in-Some-place.j c.take.result
    (granted g.A.Acts.act_of _ _ h c.args.i may c.into_parcel.result got c.in-Go.action c.in-Go.is) moves c.take.ensures.kept at its.idle its.none
    (subst (IsPermutation _) (sym (ap (λ (v : Tables). v.objects) c.mail.ensures.goes)) c.take.ensures.items) now)

pub returns-clause-departs : goal.returns-clause-departs
returns-clause-departs g c =
    let h = rw (← c.self.view_is) at c.requires.stands in
    let may = rw (← c.self.view_is) at c.requires.may in
    let got = c.in-Some.ensures.some.0 ∙ ap (λ p. Some p) (sym c.into_parcel.ensures.parcel) in
    let at : find (is_standing (target_of c.in-Go.action)) c.self.inside.objects.items ≡ Some c.take.result =
    (rw (c.target-2.ensures) at c.in-Some-place.ensures.found) ∙ c.take.ensures.kept in
    let first = rw (c.target-2.ensures) at c.in-Some-place.ensures.first in
    let goes = c.mail.ensures.goes in
    rw (← c.self.view_is) (record {
      i = c.args.i;
      act = c.in-Go.action;
      there = granted g.A.Acts.act_of _ _ h c.args.i may c.into_parcel.result got c.in-Go.action c.in-Go.is;
      first = rw (← c.self.view_is) at c.requires.first;
      done = done g.A.Acts.act_of _ _ h c.args.i may c.into_parcel.result got c.in-Go.action c.in-Go.is;
      to = c.in-Some-move_to.to;
      moves = sym c.move_to.ensures ∙ c.in-Some-move_to.is;
      x = c.take.result;
      found = at;
      others = subst (IsPermutation (without (is_standing (target_of c.in-Go.action)) c.self.inside.objects.items)) (sym (ap (λ (v : Tables). v.objects) goes))
          (leaves_freed c.self.inside.objects.items _ (target_of c.in-Go.action) c.take.result c.in-Some-place.j first c.take.ensures.kept at c.take.ensures.items);
      rest = now_left g.A.Acts.act_of _ c.mail.new.self.tables _ h c.in-Some-move_to.to c.in-Go.action c.take.result.state c.new.result _ _ _ c.take.new.self.items c.args.i goes
          (c.new.ensures ∙ ap (λ s. Shipped c.in-Go.action s) c.into_state-state.ensures.state)
          (ap (λ m. m.leaving) c.in-Some.ensures.some.1) (ap (λ m. m.stray) c.in-Some.ensures.some.1) (ap (λ m. m.came) c.in-Some.ensures.some.1);
      writes = record {
        here = ap (λ (v : Tables). v.here) goes;
        localities = ap (λ (v : Tables). v.localities) goes;
        profile = ap (λ (v : Tables). v.profile) goes;
        grows = c.push.ensures.entries ∙ ap (λ o. c.args.book.now.entries ++ at_all c.self.inside.here (Left o c.in-Some-move_to.to ∷ [])) (c.bare-object.ensures ∙ ap bare c.target.ensures);
      };
    })
