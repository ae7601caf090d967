use Rattle.std.proofs.Common.{◌∷◌, [], ◌≤◌, ◌<◌, length, map, drop, ap, ◌∙◌, arith}
use Rattle.std.proofs.lemmas.List.{length-append}
use Rattle.std.proofs.lemmas.Result.{err_from_is_err_and}
use Rattle.hpx_bundle.specs.Bundles.{behind}
use Rattle.hpx_bundle.specs.Unbundling.{part_text, EndsAt}
use Rattle.hpx_bundle.proofs.Parts.{parts_stop, parts_end}
use Rattle.hpx_bundle.proofs.Taken.{all_pushed, part_pushed, several_fails, several_stops, several_trails, several_ends}
use Rattle.hpx_bundle.proofs.unbundle.several.Goals as goal

pub returns-in_err-count-clause-err : goal.returns-in_err-count-clause-err
returns-in_err-count-clause-err c =
    let p = err_from_is_err_and c.from_residual.result c.from_residual.ensures.1 in
    let e = rw c.as_slice.ensures at c.in_err-count.ensures.err in
    rw (p.1, p.2) (several_fails (behind c.args.frame.now) c.in_err-count.field-0.0 e)

pub returns-in_err-end-clause-err : goal.returns-in_err-end-clause-err
returns-in_err-end-clause-err c =
    let p = err_from_is_err_and c.from_residual-in_err-end.result c.from_residual-in_err-end.ensures.1 in
    let inv = c.loop-frame.invariant in
    let counted = rw c.as_slice.ensures at c.in_ok-count.ensures.ok in
    let e = rw inv.same at c.in_err-end.ensures.err in
    let less : length c.loop-frame.places.items < c.in_ok-count.count = let n = c.len.ensures.value in let t = c.loop-frame-test.true in omega (arith, n, t) in
    rw (p.1, p.2) (several_stops (behind c.args.frame.now) (drop 3 c.args.frame.now) c.in_ok-count.count c.in_err-end.field-0.0 counted
    (parts_stop (map (part_text c.args.frame.now) c.loop-frame.places.items) c.in_ok-count.count (length c.loop-frame.places.items) c.loop-frame.start (drop c.loop-frame.start c.args.frame.now) c.in_err-end.field-0.0 _ less e inv.read))

pub loop-frame-preserved : goal.loop-frame-preserved
loop-frame-preserved c =
    let inv = c.loop-frame.invariant in
    let ends : EndsAt c.args.frame.now c.loop-frame.start c.in_ok-end.end = rw inv.same at c.in_ok-end.ensures.ok in
    let order = ends.within.order in
    let some = inv.some in
    let less : length c.loop-frame.places.items < c.in_ok-count.count = let n = c.len.ensures.value in let t = c.loop-frame-test.true in omega (arith, n, t) in
    let pushed = c.push.ensures.items in
    let more = ap length pushed ∙ length-append c.loop-frame.places.items (record { start = c.loop-frame.start; end = c.in_ok-end.end } ∷ []) in
    record {
      same = c.part_end.ensures.same ∙ inv.same;
      some = omega (arith, some, order);
      inside = ends.within.inside;
      few = omega (arith, more, less);
      all = rw pushed (all_pushed c.args.frame.now c.loop-frame.places.items (record { start = c.loop-frame.start; end = c.in_ok-end.end }) inv.all ends.within);
      read = part_pushed c.args.frame.now c.in_ok-count.count c.loop-frame.start c.in_ok-end.end c.loop-frame.places.items c.push.new.self.items _ less some ends pushed inv.read;
    }

pub returns-then-start-len-clause-err : goal.returns-then-start-len-clause-err
returns-then-start-len-clause-err c =
    let inv = c.loop-frame.invariant in
    let counted = rw c.as_slice.ensures at c.in_ok-count.ensures.ok in
    let all : c.in_ok-count.count ≤ length c.loop-frame.places.items = let n = c.len.ensures.value in let t = c.loop-frame-test.false in omega (arith, n, t) in
    let left : c.loop-frame.start < length c.args.frame.now = let n = c.len-2.ensures in let t = c.if-start-len.true in let same = ap length inv.same in omega (arith, n, t, same) in
    several_trails c.args.frame.now (drop 3 c.args.frame.now) c.in_ok-count.count c.loop-frame.start (map (part_text c.args.frame.now) c.loop-frame.places.items) counted
    (parts_end (map (part_text c.args.frame.now) c.loop-frame.places.items) c.in_ok-count.count (length c.loop-frame.places.items) c.loop-frame.start (drop c.loop-frame.start c.args.frame.now) _ all inv.read) left

pub returns-clause-ok : goal.returns-clause-ok
returns-clause-ok c =
    let inv = c.loop-frame.invariant in
    let counted = rw c.as_slice.ensures at c.in_ok-count.ensures.ok in
    let all : c.in_ok-count.count ≤ length c.loop-frame.places.items = let n = c.len.ensures.value in let t = c.loop-frame-test.false in omega (arith, n, t) in
    let none : length c.args.frame.now ≤ c.loop-frame.start = let n = c.len-2.ensures in let t = c.if-start-len.false in let same = ap length inv.same in omega (arith, n, t, same) in
    several_ends c.args.frame.now (drop 3 c.args.frame.now) c.in_ok-count.count c.loop-frame.start (map (part_text c.args.frame.now) c.loop-frame.places.items) counted
    (parts_end (map (part_text c.args.frame.now) c.loop-frame.places.items) c.in_ok-count.count (length c.loop-frame.places.items) c.loop-frame.start (drop c.loop-frame.start c.args.frame.now) _ all inv.read) none
