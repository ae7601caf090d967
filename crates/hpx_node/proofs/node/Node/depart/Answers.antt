use Rattle.hpx_node.proofs.Common.{false, list_any, take, Parcel, Some, Stands, Tables, any_at, arith, refl, slice_get, subst, sym, true, ◌≡◌}
use Rattle.hpx_node.proofs.Departs.{departs_from}
use Rattle.hpx_node.proofs.Same.{same_too}
use Rattle.hpx_node.proofs.Targets.{at_error}
use Rattle.hpx_node.proofs.Turns.{adds_none, adds_one, turn_from}
use Rattle.hpx_node.specs.Behind.{may_leave}
use Rattle.hpx_node.proofs.node.Node.depart.Goals as goal

pub returns-in_err-reserve-clause-waits : goal.returns-in_err-reserve-clause-waits
returns-in_err-reserve-clause-waits g c =
    let s = c.in-Some.ensures.some in
    at_error _ _ (any_at (may_leave c.args.self.now.tables) c.args.self.now.tables.leaving c.in-Some.i s.0 s.1 s.2)

pub returns-in_err-reserve-2-clause-waits : goal.returns-in_err-reserve-2-clause-waits
returns-in_err-reserve-2-clause-waits g c =
    let s = c.in-Some.ensures.some in
    at_error _ _ (any_at (may_leave c.args.self.now.tables) c.args.self.now.tables.leaving c.in-Some.i s.0 s.1 s.2)

pub leave_with-requires-clause-may : goal.leave_with-requires-clause-may
leave_with-requires-clause-may g c =
    subst (λ (t : Tables). (p : Parcel) × (slice_get t.leaving c.in-Some.i ≡ Some p) × (may_leave t p ≡ true)) (sym c.in_ok-reserve.ensures.same) c.in-Some.ensures.some

pub leave_with-requires-clause-first : goal.leave_with-requires-clause-first
leave_with-requires-clause-first g c =
    subst (λ (t : Tables). list_any (may_leave t) (take c.in-Some.i t.leaving) ≡ false) (sym c.in_ok-reserve.ensures.same) c.in-Some.ensures.first

pub leave_with-requires-clause-stands : goal.leave_with-requires-clause-stands
leave_with-requires-clause-stands g c =
    same_too (Stands g.A.Acts.act_of) c.args.self.now.tables _ _ _ c.requires.stands c.in_ok-reserve.ensures.same c.in_ok-reserve-2.ensures.entries

pub returns-in_err-reserve-clause-stands : goal.returns-in_err-reserve-clause-stands
returns-in_err-reserve-clause-stands g c =
    same_too (Stands g.A.Acts.act_of) c.args.self.now.tables _ _ _ c.requires.stands c.in_err-reserve.ensures.same refl

pub returns-in_err-reserve-2-clause-stands : goal.returns-in_err-reserve-2-clause-stands
returns-in_err-reserve-2-clause-stands g c =
    same_too (Stands g.A.Acts.act_of) c.args.self.now.tables _ _ _ c.requires.stands c.in_ok-reserve.ensures.same c.in_err-reserve-2.ensures.entries

pub returns-clause-turn : goal.returns-clause-turn
returns-clause-turn g c = turn_from _ _ _ c.in_ok-reserve-2.ensures.entries (adds_one _ _ _ _ c.leave_with.ensures.departs.writes.grows (omega arith))

pub returns-clause-departs : goal.returns-clause-departs
returns-clause-departs g c = λ ok.
    departs_from c.args.self.now.tables _ _ _ _ _ c.in_ok-reserve.ensures.same c.in_ok-reserve-2.ensures.entries c.leave_with.ensures.departs
