use Rattle.std.proofs.Common.{◌≡◌, Ok, true, false, ap, ◌∙◌, subst}
use Rattle.hpx_world.specs.Places.{rules_in}
use Rattle.hpx_world.specs.Stages.{stage}
use Rattle.hpx_world.specs.Turns.{DidDesk}
use Rattle.hpx_world.proofs.Next.{not_both, cleared_none}
use Rattle.hpx_world.proofs.Refusing.{err_then, stage_is}
use Rattle.hpx_hold.proofs.Turning.{home_then, desk_home, desk_same, work_refused, work_can, desk_refused, home_works, home_tends, home_done}
use Rattle.hpx_hold.proofs.home.turn_at_home.Goals as goal

pub returns-in_err-work_at_home-clause-stops : goal.returns-in_err-work_at_home-clause-stops
returns-in_err-work_at_home-clause-stops g c =
    err_then c.from_residual.result c.in_err-work_at_home.field-0.0 _ c.from_residual.ensures.1
    (work_refused _ _ c.in_err-work_at_home.field-0.0 c.in_err-work_at_home.ensures.stops)

pub returns-in_err-work_at_home-clause-never : goal.returns-in_err-work_at_home-clause-never
returns-in_err-work_at_home-clause-never g c = λ carrying.
    err_then c.from_residual.result c.in_err-work_at_home.field-0.0 _ c.from_residual.ensures.1
    (work_can _ _ (rules_in g.A.Acts.act_of c.args.world.now) c.in_err-work_at_home.field-0.0 c.in_err-work_at_home.ensures.stops)

pub returns-then-branch-clause-did : goal.returns-then-branch-clause-did
returns-then-branch-clause-did g c = λ is.
    home_works g.A.Acts.act_of _ _ (c.in_ok-work_at_home.ensures.did (ap (λ b. Ok b) c.if-branch.true))

pub returns-in_err-turn-clause-stops : goal.returns-in_err-turn-clause-stops
returns-in_err-turn-clause-stops g c =
    let none = c.in_ok-work_at_home.ensures.none (ap (λ b. Ok b) c.if-branch.false) in
    err_then c.from_residual-in_err-turn.result c.in_err-turn.field-0.0 _ c.from_residual-in_err-turn.ensures.1
    (desk_refused _ _ _ none.0 none.1 c.in_err-turn.field-0.0 c.in_err-turn.ensures.stops)

pub returns-in_err-turn-clause-home : goal.returns-in_err-turn-clause-home
returns-in_err-turn-clause-home g c =
    home_then _ _ _ c.work_at_home.ensures.home (desk_same _ _ c.in_err-turn.field-0.0 c.in_err-turn.ensures.stops)

pub returns-clause-home : goal.returns-clause-home
returns-clause-home g c =
    home_then _ _ _ c.work_at_home.ensures.home
    (desk_home g.A.Acts.act_of c.work_at_home.new.world.profile _ _ _ _ c.standing.ensures c.in_ok-turn.field-0 c.in_ok-turn.ensures.did.1.0)

pub returns-clause-did : goal.returns-clause-did
returns-clause-did g c = λ is.
    let none = c.in_ok-work_at_home.ensures.none (ap (λ b. Ok b) c.if-branch.false) in
    let moved : c.moved.result ≡ true = cc in
    let d = subst (λ t. DidDesk 0 t c.work_at_home.new.world.nodes c.turn.new.self.nodes c.work_at_home.new.world.journal.entries c.turn.new.self.journal.entries)
    (c.moved.ensures.0 moved) c.in_ok-turn.ensures.did.1.0 in
    home_tends g.A.Acts.act_of _ (stage c.turn.new.self (g.F.Fabric.flight c.turn.new.fabric) (g.F.Fabric.trace c.turn.new.fabric))
    (stage c.work_at_home.new.world (g.F.Fabric.flight c.work_at_home.new.fabric) (g.F.Fabric.trace c.work_at_home.new.fabric))
    none.0 none.1 c.in_ok-turn.ensures.did.0 d c.in_ok-turn.ensures.did.1.1

pub returns-clause-none : goal.returns-clause-none
returns-clause-none g c = λ is.
    let none = c.in_ok-work_at_home.ensures.none (ap (λ b. Ok b) c.if-branch.false) in
    let still : c.moved.result ≡ false = cc in
    let d = cleared_none c.work_at_home.new.world.nodes c.turn.new.self.nodes c.work_at_home.new.world.journal.entries c.turn.new.self.journal.entries
    0 c.in_ok-turn.field-0 (λ e. not_both _ still (c.moved.ensures.1 e)) c.in_ok-turn.ensures.did.1.0 in (
      stage_is _ _ d.0.tables d.0.journal c.in_ok-turn.ensures.did.1.1 ∙ none.0,
      home_done _ (stage c.work_at_home.new.world (g.F.Fabric.flight c.work_at_home.new.fabric) (g.F.Fabric.trace c.work_at_home.new.fabric))
          none.0 none.1 c.in_ok-turn.ensures.did.0 d.1,
    )
