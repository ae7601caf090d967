use Rattle.std.proofs.Common.{length, refl, inl, inr, subst}
use Rattle.hpx_journal.specs.Weights.{HasRoom, Book}
use Rattle.hpx_steps.specs.Rest.{rules_of}
use Rattle.hpx_node.specs.Locality.{tables_of}
use Rattle.hpx_world.specs.Turns.{DidFinish, DidDesk, DidTake}
use Rattle.hpx_world.specs.Away.{Fetches}
use Rattle.hpx_world.proofs.Carrying.{carrying_same}
use Rattle.hpx_world.proofs.Refused.{strange_frame_same}
use Rattle.hpx_world.proofs.Refusing.{outside_is, fire_refused, job_refused, desk_refused, pump_refused, take_refused, can_come}
use Rattle.hpx_world.proofs.Strange.{strange_hand, strange_own}
use Rattle.hpx_world.proofs.Unfed.{unfed_of, finished_unfed, cleared_unfed, took_unfed}
use Rattle.hpx_world.proofs.world.World.turn.Goals as goal

pub returns-in-Feed-clause-carrying : goal.returns-in-Feed-clause-carrying
returns-in-Feed-clause-carrying g c = rw (← c.self.view_is) (λ carrying.
    carrying_same (rules_of g.A.Acts.act_of (length (tables_of c.self.inside.locals.nodes.items)) c.self.inside.locals.profile) _ _ _ _ _ _ _ _ c.feed.ensures.hand refl refl c.feed.ensures.inside carrying)

pub returns-in-Fire-clause-carrying : goal.returns-in-Fire-clause-carrying
returns-in-Fire-clause-carrying g c = rw (← c.self.view_is) (λ carrying.
    carrying_same (rules_of g.A.Acts.act_of (length (tables_of c.self.inside.locals.nodes.items)) c.self.inside.locals.profile) _ _ _ _ _ _ _ _ c.fire.ensures.hand refl refl c.fire.ensures.inside carrying)

pub returns-in-Finish-clause-carrying : goal.returns-in-Finish-clause-carrying
returns-in-Finish-clause-carrying g c = rw (← c.self.view_is) (λ carrying.
    carrying_same (rules_of g.A.Acts.act_of (length (tables_of c.self.inside.locals.nodes.items)) c.self.inside.locals.profile) _ _ _ _ _ _ _ _ c.finish.ensures.hand refl refl c.finish.ensures.inside carrying)

pub returns-in-Desk-clause-carrying : goal.returns-in-Desk-clause-carrying
returns-in-Desk-clause-carrying g c = rw (← c.self.view_is) (λ carrying.
    carrying_same (rules_of g.A.Acts.act_of (length (tables_of c.self.inside.locals.nodes.items)) c.self.inside.locals.profile) _ _ _ _ _ _ _ _ c.desk.ensures.hand refl refl c.desk.ensures.inside carrying)

pub returns-in-Finish-clause-unfed : goal.returns-in-Finish-clause-unfed
returns-in-Finish-clause-unfed g c = rw (← c.self.view_is) (λ feeds.
    unfed_of (tables_of c.self.inside.locals.nodes.items) (tables_of c.finish.new.self.nodes.items) c.self.inside.locals.journal.entries c.finish.new.self.journal.entries c.finish.result
    (λ t. DidFinish c.in-Finish.done.localities c.in-Finish.done.job c.in-Finish.done.outcome t (tables_of c.self.inside.locals.nodes.items) (tables_of c.finish.new.self.nodes.items) c.self.inside.locals.journal.entries c.finish.new.self.journal.entries)
    (λ t h. finished_unfed _ _ _ _ c.in-Finish.done.localities c.in-Finish.done.job c.in-Finish.done.outcome t h) c.finish.ensures.did c.finish.ensures.err)

pub returns-in-Desk-clause-unfed : goal.returns-in-Desk-clause-unfed
returns-in-Desk-clause-unfed g c = rw (← c.self.view_is) (λ feeds.
    unfed_of (tables_of c.self.inside.locals.nodes.items) (tables_of c.desk.new.self.nodes.items) c.self.inside.locals.journal.entries c.desk.new.self.journal.entries c.desk.result
    (λ t. DidDesk c.in-Desk.k t (tables_of c.self.inside.locals.nodes.items) (tables_of c.desk.new.self.nodes.items) c.self.inside.locals.journal.entries c.desk.new.self.journal.entries)
    (λ t h. cleared_unfed _ _ _ _ c.in-Desk.k t h) c.desk.ensures.did c.desk.ensures.err)

pub returns-in-Take-clause-unfed : goal.returns-in-Take-clause-unfed
returns-in-Take-clause-unfed g c = rw (← c.self.view_is) (λ feeds.
    unfed_of (tables_of c.self.inside.locals.nodes.items) (tables_of c.take.new.self.nodes.items) c.self.inside.locals.journal.entries c.take.new.self.journal.entries c.take.result
    (λ t. DidTake (Fetches c.self.inside.locals.hand (g.F.Fabric.flight c.args.fabric.now) (g.F.Fabric.flight c.take.new.fabric) (g.F.Fabric.trace c.args.fabric.now) (g.F.Fabric.trace c.take.new.fabric)) t
    (tables_of c.self.inside.locals.nodes.items) (tables_of c.take.new.self.nodes.items) c.self.inside.locals.journal.entries c.take.new.self.journal.entries)
    (λ t h. took_unfed (tables_of c.self.inside.locals.nodes.items) (tables_of c.take.new.self.nodes.items) c.self.inside.locals.journal.entries c.take.new.self.journal.entries
    (Fetches c.self.inside.locals.hand (g.F.Fabric.flight c.args.fabric.now) (g.F.Fabric.flight c.take.new.fabric) (g.F.Fabric.trace c.args.fabric.now) (g.F.Fabric.trace c.take.new.fabric)) t h) c.take.ensures.did c.take.ensures.err)

pub returns-in-Take-clause-stops : goal.returns-in-Take-clause-stops
returns-in-Take-clause-stops g c =
    let room : HasRoom c.args.self.now.journal.entries = subst (λ (b : Book). HasRoom b.entries) c.journal.ensures.journal (c.room.ensures.0 c.if-not-room.false) in
    rw (c.in-Take.is) (take_refused c.take.result _ _ room (rw (← c.self.view_is) (record {
      err = c.take.ensures.err;
      kept = c.take.ensures.kept;
      bad = c.take.ensures.bad_frame;
      strange = c.take.ensures.strange;
      early = c.take.ensures.early;
      memory = c.take.ensures.memory;
      room = c.take.ensures.room;
      runs = c.take.ensures.runs_none;
      fabric = c.take.ensures.fabric_same;
    })))

pub returns-in-Fire-clause-stops : goal.returns-in-Fire-clause-stops
returns-in-Fire-clause-stops g c =
    let room : HasRoom c.args.self.now.journal.entries = subst (λ (b : Book). HasRoom b.entries) c.journal.ensures.journal (c.room.ensures.0 c.if-not-room.false) in
    rw (c.in-Fire.is) (fire_refused c.fire.result c.in-Fire.k _ _ room (rw (← c.self.view_is) c.fire.ensures.err)
    (outside_is _ _ (rw (← c.self.view_is) c.fire.ensures.hand) refl refl) (rw (← c.self.view_is) c.fire.ensures.waits) c.fire.ensures.memory)

pub returns-in-Finish-clause-stops : goal.returns-in-Finish-clause-stops
returns-in-Finish-clause-stops g c =
    let room : HasRoom c.args.self.now.journal.entries = subst (λ (b : Book). HasRoom b.entries) c.journal.ensures.journal (c.room.ensures.0 c.if-not-room.false) in
    rw (c.in-Finish.is) (job_refused c.finish.result c.in-Finish.done _ _ room (rw (← c.self.view_is) c.finish.ensures.err)
    (outside_is _ _ (rw (← c.self.view_is) c.finish.ensures.hand) refl refl) (rw (← c.self.view_is) c.finish.ensures.runs) c.finish.ensures.memory)

pub returns-in-Desk-clause-stops : goal.returns-in-Desk-clause-stops
returns-in-Desk-clause-stops g c =
    let room : HasRoom c.args.self.now.journal.entries = subst (λ (b : Book). HasRoom b.entries) c.journal.ensures.journal (c.room.ensures.0 c.if-not-room.false) in
    rw (c.in-Desk.is) (desk_refused c.desk.result c.in-Desk.k _ _ room (rw (← c.self.view_is) c.desk.ensures.err)
    (outside_is _ _ (rw (← c.self.view_is) c.desk.ensures.hand) refl refl) (rw (← c.self.view_is) c.desk.ensures.strange) (rw (← c.self.view_is) c.desk.ensures.right) c.desk.ensures.which)

pub returns-in-Pump-clause-stops : goal.returns-in-Pump-clause-stops
returns-in-Pump-clause-stops g c =
    let room : HasRoom c.args.self.now.journal.entries = subst (λ (b : Book). HasRoom b.entries) c.journal.ensures.journal (c.room.ensures.0 c.if-not-room.false) in
    rw (c.in-Pump.is) (pump_refused c.pump.result c.in-Pump.k _ _ room (rw (← c.self.view_is) c.pump.ensures.err)
    (rw (← c.self.view_is) c.pump.ensures.hand) c.pump.ensures.kept_out (rw (← c.self.view_is) c.pump.ensures.waits) c.pump.ensures.which)

pub returns-in-Desk-clause-never : goal.returns-in-Desk-clause-never
returns-in-Desk-clause-never g c = rw (← c.self.view_is) (λ carrying.
    can_come c.desk.result (rules_of g.A.Acts.act_of (length (tables_of c.self.inside.locals.nodes.items)) c.self.inside.locals.profile)
    (λ to at why is. let w = rw is at c.desk.ensures.which in elim w [ inl e ↦ (cc) | inr e ↦ (cc) ])
    (λ to rule object kept is.
    let mail = c.desk.ensures.strange to rule object kept is in
    strange_own g.A.Acts.act_of c.self.inside.locals.profile (tables_of c.self.inside.locals.nodes.items) c.self.inside.locals.journal.entries c.self.invariant.1
    (length (tables_of c.self.inside.locals.nodes.items)) c.self.inside.locals.profile refl refl
    (λ n kind here s a some few h state act. g.met.A.Acts.keeps_laws n kind here s a some few h state act) _ _ _ carrying _ rule object kept mail.1)
    (λ sent taken is. let w = rw is at c.desk.ensures.which in elim w [ inl e ↦ (cc) | inr e ↦ (cc) ]))

pub returns-in-Take-clause-never : goal.returns-in-Take-clause-never
returns-in-Take-clause-never g c = rw (← c.self.view_is) (λ carrying.
    can_come c.take.result (rules_of g.A.Acts.act_of (length (tables_of c.self.inside.locals.nodes.items)) c.self.inside.locals.profile)
    (λ to at why is. c.take.ensures.never_bad carrying to at why is)
    (λ to rule object kept is.
    let strange = c.take.ensures.strange to rule object kept is in
    let same = rw is at c.take.ensures.err in
    strange_hand g.A.Acts.act_of c.take.new.self.profile (tables_of c.take.new.self.nodes.items) c.take.new.self.journal.entries c.take.ensures.sound
    (length (tables_of c.self.inside.locals.nodes.items)) c.self.inside.locals.profile c.take.ensures.count c.take.ensures.profile
    (λ n kind here s a some few h state act. g.met.A.Acts.keeps_laws n kind here s a some few h state act) _ _ _ (c.take.ensures.carrying carrying) to strange.0 rule object kept strange.1
    (strange_frame_same _ _ to strange.0 rule object kept same.tables strange.2))
    (λ sent taken is. c.take.ensures.never_early carrying sent taken is))
