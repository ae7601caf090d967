use Rattle.std.proofs.Common.{◌≡◌, ◌<◌, ◌∙◌, length, get_or, refl, sym, subst, arith}
use Rattle.hpx_node.specs.Locality.{tables_of}
use Rattle.hpx_world.proofs.Idle.{passed, whole, none_runs_at}
use Rattle.hpx_world.proofs.Jobs.{HasNoJob, all_none, empty_of}
use Rattle.hpx_world.proofs.Calls.{there_at}
use Rattle.hpx_world.proofs.Tabled.{tables_long}
use Rattle.hpx_world.proofs.Sound.{some_is}
use Rattle.hpx_world.proofs.Next.{not_both}
use Rattle.hpx_world.proofs.locals.Locals.none_runs.Goals as goal

pub returns-then-runs : goal.returns-then-runs
returns-then-runs g c =
    let v = c.node-item.result in
    let lt : c.loop-node.node-index < length (tables_of c.args.self.now.nodes.items) =
    omega (arith, c.loop-node-test.true, c.loop-node.auto.node-index-end, c.deref-node-items.ensures.len, tables_long c.args.self.now.nodes.items) in
    let is : v ≡ get_or c.args.self.now.nodes.items c.loop-node.node-index v = rw c.deref-node-items.ensures.value at c.node-item.is in
    let there = there_at c.args.self.now.nodes.items c.loop-node.node-index v v lt is in
    (λ f. absurd (not_both _ refl f), λ none. absurd (c.runs.ensures.0 c.if-runs.true (none_runs_at _ c.loop-node.node-index v.tables none there)))

pub loop-node-preserved : goal.loop-node-preserved
loop-node-preserved g c =
    let v = c.node-item.result in
    let lt : c.loop-node.node-index < length (tables_of c.args.self.now.nodes.items) =
    omega (arith, c.loop-node-test.true, c.loop-node.auto.node-index-end, c.deref-node-items.ensures.len, tables_long c.args.self.now.nodes.items) in
    let is : v ≡ get_or c.args.self.now.nodes.items c.loop-node.node-index v = rw c.deref-node-items.ensures.value at c.node-item.is in
    let there = there_at c.args.self.now.nodes.items c.loop-node.node-index v v lt is in
    passed HasNoJob c.loop-node.node-index (tables_of c.args.self.now.nodes.items) (tables_of c.args.self.now.nodes.items) refl
    (λ t at. let same : v.tables ≡ t = some_is v.tables t (sym there ∙ at) in subst HasNoJob same (empty_of _ (λ some. not_both _ c.if-runs.false (c.runs.ensures.1 some)))) c.loop-node.invariant

pub returns : goal.returns
returns g c = (
  λ t. all_none _ (whole HasNoJob c.loop-node.node-index (tables_of c.args.self.now.nodes.items)
      (omega (arith, c.loop-node-test.false, c.loop-node.auto.node-index-end, c.deref-node-items.ensures.len, tables_long c.args.self.now.nodes.items)) c.loop-node.invariant),
  λ none. refl,
)
