use Rattle.std.proofs.Common.{◌≡◌, ◌∙◌, ◌∷◌, [], ◌+◌, ◌++◌, suc, sym, ap, arith, append_assoc, map, take}
use Rattle.hpx_node.specs.Locality.{tables_of}
use Rattle.hpx_world.specs.Audit.{audit_line}
use Rattle.hpx_world.proofs.Found.{lines_grow}
use Rattle.hpx_world.proofs.audit.push_lines.Goals as goal

pub loop-i-preserved : goal.loop-i-preserved
loop-i-preserved g c =
    let next : suc c.loop-i.i ≡ c.loop-i.i + 1 = omega arith in
    let f = audit_line (tables_of c.args.nodes.now) in (
      c.loop-i.invariant.0,
      c.in_ok-push-in-Some.ensures.ok
          ∙ (ap (λ xs. xs ++ c.in-Some.line ∷ []) c.loop-i.invariant.1
          ∙ (append_assoc c.args.lines.now (map f (take c.loop-i.i c.args.node.now.tables.records)) (c.in-Some.line ∷ [])
          ∙ (ap (λ xs. c.args.lines.now ++ xs) (sym (lines_grow f c.args.node.now.tables.records c.loop-i.i c.in-Some.line (sym c.line_of.ensures ∙ c.in-Some.is)))
          ∙ ap (λ n. c.args.lines.now ++ map f (take n c.args.node.now.tables.records)) next))),
    )
