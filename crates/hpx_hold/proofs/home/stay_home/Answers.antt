use Rattle.std.proofs.Common.{◌∷◌, Ok, length, sym, ap, ◌∙◌, subst}
use Rattle.hpx_journal.specs.Weights.{HasRoom}
use Rattle.hpx_node.specs.Handled.{HasNothingToTend}
use Rattle.hpx_world.specs.Quiet.{IsStuck}
use Rattle.hpx_world.specs.Stages.{Stage, stage}
use Rattle.hpx_world.proofs.Next.{carrying_at}
use Rattle.hpx_world.proofs.Refusing.{err_then}
use Rattle.hpx_world.proofs.Unfed.{unfed_then}
use Rattle.hpx_hold.specs.Home.{AtHome}
use Rattle.hpx_hold.proofs.Turning.{home_then, home_fewer, home_stops, room_then}
use Rattle.hpx_hold.proofs.Waits.{waits_busy}
use Rattle.hpx_hold.proofs.home.stay_home.Goals as goal

pub loop-preserved : goal.loop-preserved
loop-preserved g c =
    let i = c.loop.invariant in
    record {
      count = c.turn_at_home.ensures.count ∙ i.count;
      profile = c.turn_at_home.ensures.profile ∙ i.profile;
      apart = c.turn_at_home.ensures.apart ∙ i.apart;
      hears = λ h. c.turn_at_home.ensures.hears (i.hears h);
      goes = record {
        between = stage c.loop.world (g.F.Fabric.flight c.loop.fabric) (g.F.Fabric.trace c.loop.fabric) ∷ i.goes.between;
        turns = (i.goes.turns, c.in_ok-turn_at_home.ensures.did (ap (λ b. Ok b) c.if-branch.true));
      };
      home = home_then _ _ _ i.home c.turn_at_home.ensures.home;
      unfed = unfed_then _ _ _ i.unfed c.turn_at_home.ensures.unfed;
      jobs = λ none. c.in_ok-turn_at_home.ensures.jobs tt (i.jobs none);
      carrying = λ h. carrying_at g.A.Acts.act_of (length c.args.world.now.nodes) (length c.loop.world.nodes) c.args.world.now.profile c.loop.world.profile
          _ _ _ _ _ _ _ _ i.count i.profile c.turn_at_home.ensures.carrying (i.carrying h);
    }

pub loop-smaller : goal.loop-smaller
loop-smaller g c = home_fewer g.A.Acts.act_of _ _ (c.in_ok-turn_at_home.ensures.did (ap (λ b. Ok b) c.if-branch.true))

pub returns-in_err-turn_at_home-clause-stops : goal.returns-in_err-turn_at_home-clause-stops
returns-in_err-turn_at_home-clause-stops g c =
    err_then c.from_residual.result c.in_err-turn_at_home.field-0.0 _ c.from_residual.ensures.1
    (home_stops g.A.Acts.act_of _ _ _ c.in_err-turn_at_home.field-0.0 c.loop.invariant.goes c.in_err-turn_at_home.ensures.stops)

pub returns-in_err-turn_at_home-clause-room : goal.returns-in_err-turn_at_home-clause-room
returns-in_err-turn_at_home-clause-room g c =
    room_then _ _ c.from_residual.result c.in_err-turn_at_home.field-0.0 c.from_residual.ensures.1 c.in_err-turn_at_home.ensures.stops

pub returns-clause-goes : goal.returns-clause-goes
returns-clause-goes g c =
    let none = c.in_ok-turn_at_home.ensures.none (ap (λ b. Ok b) c.if-branch.false) in
    record {
      last = stage c.loop.world (g.F.Fabric.flight c.loop.fabric) (g.F.Fabric.trace c.loop.fabric);
      between = c.loop.invariant.goes.between;
      turns = c.loop.invariant.goes.turns;
      thus = none;
    }

pub returns-clause-waits : goal.returns-clause-waits
returns-clause-waits g c = λ carried.
    let none = c.in_ok-turn_at_home.ensures.none (ap (λ b. Ok b) c.if-branch.false) in
    let n = c.turn_at_home.new.world in
    waits_busy g.A.Acts.act_of n.profile n.nodes n.journal.entries c.standing.ensures
    (λ m kind here s a some few h state act. g.met.A.Acts.keeps_laws m kind here s a some few h state act)
    (subst (AtHome IsStuck) (sym none.0) none.1.stuck) (subst (AtHome HasNothingToTend) (sym none.0) none.1.tends)
    (length c.args.world.now.nodes) c.args.world.now.profile (c.turn_at_home.ensures.count ∙ c.loop.invariant.count) (c.turn_at_home.ensures.profile ∙ c.loop.invariant.profile) carried

pub returns-clause-room : goal.returns-clause-room
returns-clause-room g c =
    let none = c.in_ok-turn_at_home.ensures.none (ap (λ b. Ok b) c.if-branch.false) in
    subst (λ (s : Stage). HasRoom s.entries) (sym none.0) none.1.room

pub returns-in_err-turn_at_home-clause-home : goal.returns-in_err-turn_at_home-clause-home
returns-in_err-turn_at_home-clause-home g c = home_then _ _ _ c.loop.invariant.home c.turn_at_home.ensures.home

pub returns-in_err-turn_at_home-clause-carrying : goal.returns-in_err-turn_at_home-clause-carrying
returns-in_err-turn_at_home-clause-carrying g c = λ h.
    let i = c.loop.invariant in
    carrying_at g.A.Acts.act_of (length c.args.world.now.nodes) (length c.loop.world.nodes) c.args.world.now.profile c.loop.world.profile
    _ _ _ _ _ _ _ _ i.count i.profile c.turn_at_home.ensures.carrying (i.carrying h)
