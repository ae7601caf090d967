use Rattle.std.proofs.Common.{◌≡◌, [], ◌∷◌, length, length-append, sym, ◌∙◌, arith}
use Rattle.hpx_node.specs.Locality.{tables_of}
use Rattle.hpx_world.proofs.Booted.{tables_push, booted_more, booted_sound, none_runs_more, idle_more}
use Rattle.hpx_world.proofs.locals.Locals.boot.Goals as goal

pub returns-clause-sound : goal.returns-clause-sound
returns-clause-sound g c =
    let count : length (tables_of c.loop-k.nodes.items) ≡ g.A.Acts.count c.args.acts = omega arith in
    rw c.new.ensures (booted_sound _ _ _ _ c.loop-k.invariant.booted count c.requires.some c.requires.few)

pub loop-k-preserved : goal.loop-k-preserved
loop-k-preserved g c =
    let i = c.loop-k.invariant in
    let b = c.in_ok-boot.ensures in
    record {
      count = rw (c.in_ok-push.ensures.items, tables_push) (omega (arith, length-append (tables_of c.loop-k.nodes.items) (c.in_ok-boot.field-0.tables ∷ []), c.loop-k.invariant.count));
      booted = rw (c.in_ok-push.ensures.items, tables_push) (booted_more _ _ _ (tables_of c.loop-k.nodes.items) c.in_ok-boot.field-0.tables i.booted (b.here ∙ sym i.count) b.localities b.profile b.stands);
      none = rw (c.in_ok-push.ensures.items, tables_push) (none_runs_more (tables_of c.loop-k.nodes.items) c.in_ok-boot.field-0.tables i.none b.passive);
      idle = rw (c.in_ok-push.ensures.items, tables_push) (idle_more (tables_of c.loop-k.nodes.items) c.in_ok-boot.field-0.tables i.idle b.passive b.frames);
    }
