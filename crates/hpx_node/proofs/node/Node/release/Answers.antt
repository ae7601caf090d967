use Rattle.hpx_node.proofs.Common.{Act, Apply, List, Locality, Move, Parcel, Some, Stands, Tables, [], ap, arith, length, subst, sym, ◌-◌, ◌∙◌, ◌≡◌, ◌⊎◌, inl, inr, false, true, refl}
use Rattle.std.specs.List.{find}
use Rattle.hpx_agas.specs.Queues.{is_for, waits}
use Rattle.hpx_agas.specs.declared.record.Waiting.{Waiting}
use Rattle.hpx_steps.specs.Calls.{act_in}
use Rattle.hpx_steps.specs.Ways.{with_act}
use Rattle.hpx_node.proofs.Departs.{spare_kept}
use Rattle.hpx_node.proofs.Released.{keeps_on, stops_empty, stops_moving, waits_act}
use Rattle.hpx_node.specs.Behind.{is_still, releases}
use Rattle.hpx_node.proofs.node.Node.release.Goals.{in-Apply, in-Move}
use Rattle.hpx_node.proofs.node.Node.release.Goals as goal

pub returns-then-not-is_still : goal.returns-then-not-is_still
returns-then-not-is_still g c =
    let i = c.loop.invariant in
    sym (stops_moving c.waiting-end.result c.loop.counter c.args.o c.loop.self.tables (omega (arith, c.loop-test.true)) (sym c.is_still.ensures ∙ c.if-not-is_still.true))
    ∙ (i.goes ∙ ap (λ n. releases n c.args.o c.args.self.now.tables) i.all)

pub returns-in_default : goal.returns-in_default
returns-in_default g c =
    let i = c.loop.invariant in
    let still = rw (← c.self-in-loop.view_is) at (sym c.is_still.ensures ∙ c.if-not-is_still.false) in
    let goes = rw (← c.self-in-loop.view_is) at i.goes in
    rw (c.in_default.ensures.none)
    (sym (stops_empty c.waiting-end.result c.loop.counter c.args.o _ (omega (arith, c.loop-test.true)) still c.in_default.ensures.item)
    ∙ (goes ∙ ap (λ n. releases n c.args.o c.args.self.now.tables) i.all))

pub returns-in_default-into_parcel : goal.returns-in_default-into_parcel
returns-in_default-into_parcel g c =
    let i = c.loop.invariant in
    let stands = rw (← c.self-in-loop.view_is) at i.stands in
    elim (waits_act g.A.Acts.act_of stands.0 c.args.o _ stands.1 (waits c.args.o.number c.in-Some.letter) c.in-Some.ensures.first stands.2) [
      | inl e ↦ absurd (c.in_default-into_parcel.not-Apply _ (c.into_parcel.ensures.parcel ∙ e))
      | inr e ↦ absurd (c.in_default-into_parcel.not-Move _ (c.into_parcel.ensures.parcel ∙ e))
    ]

pub loop-preserved : goal.loop-preserved
loop-preserved g c =
    let i = c.loop.invariant in
    let spare = rw (← c.self-in-loop.view_is) at i.spare in
    elim c.match-into_parcel.branch [
      | in-Apply w ↦
          let k = keeps_on g.A.Acts.act_of c.waiting-end.result c.loop.counter c.args.o _ _ c.self-in-loop.view_is c.match-into_parcel.self.tables _ c.in-Some.letter w.in-Apply.act
          c.release.new.self.waiting c.release.new.self.births c.release.new.self.records (omega (arith, c.loop-test.true)) (sym c.is_still.ensures ∙ c.if-not-is_still.false) i.stands i.goes
          c.in-Some.ensures.first (ap (λ (x : Locality). x.tables) w.self-is ∙ w.post.ensures.goes) c.in-Some.ensures.all
          (ap (λ r. r.births) c.in-Some.ensures.rest) (ap (λ r. r.records) c.in-Some.ensures.rest) (ap act_in (sym c.into_parcel.ensures.parcel ∙ w.in-Apply.is)) in
          let kept = spare_kept _ _ _ _ _ _ _ _ _ c.self-in-loop.inside.objects.spare c.release.new.self.spare c.self-in-loop.inside.moves.spare spare (omega arith) c.release.ensures.spare (omega arith) in record {
            stands = k.0;
            spare = omega (arith, kept, w.post.ensures.spare, ap (λ (x : Locality). x.spare) w.self-is, c.loop-test.true);
            goes = k.1;
            all = i.all;
          }
      | in-Move w ↦
          let k = keeps_on g.A.Acts.act_of c.waiting-end.result c.loop.counter c.args.o _ _ c.self-in-loop.view_is c.match-into_parcel.self.tables _ c.in-Some.letter w.in-Move.act
          c.release.new.self.waiting c.release.new.self.births c.release.new.self.records (omega (arith, c.loop-test.true)) (sym c.is_still.ensures ∙ c.if-not-is_still.false) i.stands i.goes
          c.in-Some.ensures.first (ap (λ (x : Locality). x.tables) w.self-is ∙ w.post-in-Move.ensures.goes) c.in-Some.ensures.all
          (ap (λ r. r.births) c.in-Some.ensures.rest) (ap (λ r. r.records) c.in-Some.ensures.rest) (ap act_in (sym c.into_parcel.ensures.parcel ∙ w.in-Move.is)) in
          let kept = spare_kept _ _ _ _ _ _ _ _ _ c.self-in-loop.inside.objects.spare c.release.new.self.spare c.self-in-loop.inside.moves.spare spare (omega arith) c.release.ensures.spare (omega arith) in record {
            stands = k.0;
            spare = omega (arith, kept, w.post-in-Move.ensures.spare, ap (λ (x : Locality). x.spare) w.self-is, c.loop-test.true);
            goes = k.1;
            all = i.all;
          }
    ]
