use Rattle.std.proofs.Common.{refl, ap, ◌∙◌}
use Rattle.std.specs.List.{slice_get}
use Rattle.hpx_world.specs.Away.{Puts}
use Rattle.hpx_world.specs.Quiet.{SendsNothing}
use Rattle.hpx_world.proofs.Idle.{passed}
use Rattle.hpx_world.proofs.FirstSteps.{pump_refuses}
use Rattle.hpx_world.proofs.Next.{not_both, pumped_none}
use Rattle.hpx_world.proofs.Refusing.{err_then, outside_is, stage_is}
use Rattle.hpx_world.proofs.world.World.pump_first.Goals as goal

pub loop-k-preserved : goal.loop-k-preserved
loop-k-preserved g c =
    let i = c.loop-k.invariant in
    let d = c.in_ok-turn.ensures.did.1 in
    let none = pumped_none c.loop-k.self.nodes c.turn.new.self.nodes c.loop-k.self.journal.entries c.turn.new.self.journal.entries
    (Puts c.loop-k.k (g.F.Fabric.flight c.loop-k.fabric) (g.F.Fabric.flight c.turn.new.fabric) (g.F.Fabric.trace c.loop-k.fabric) (g.F.Fabric.trace c.turn.new.fabric)) c.loop-k.k c.in_ok-turn.field-0 (λ e. not_both _ c.if-moved.false (c.moved.ensures.1 e)) d.0 in
    record {
      count = c.turn.ensures.count ∙ i.count;
      profile = c.turn.ensures.profile ∙ i.profile;
      same = stage_is _ _ none.1.tables none.1.journal (outside_is _ _ d.1 none.0.0 none.0.1) ∙ i.same;
      hears = λ h. c.turn.ensures.hears (i.hears h);
      faults = c.in_ok-turn.ensures.faults ∙ i.faults;
      none = passed SendsNothing c.loop-k.k _ _ refl (λ t at. none.2 t (ap (λ s. slice_get s.nodes c.loop-k.k) i.same ∙ at)) i.none;
    }

pub returns-in_err-turn-clause-stops : goal.returns-in_err-turn-clause-stops
returns-in_err-turn-clause-stops g c =
    err_then c.from_residual.result c.in_err-turn.field-0.0 _ c.from_residual.ensures.1
    (pump_refuses c.loop-k.k _ _ _ c.loop-k.invariant.same c.requires.none c.loop-k.invariant.none c.in_err-turn.field-0.0 c.in_err-turn.ensures.stops)
