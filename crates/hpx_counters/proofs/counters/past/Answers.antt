use Rattle.std.proofs.Common.{arith}
use Rattle.hpx_counters.proofs.CounterLemmas.{from_whole, from_part, stands_from, other_from}
use Rattle.hpx_counters.proofs.counters.past.Goals as goal

pub returns-then-there-piece-clause-goes_on : goal.returns-then-there-piece-clause-goes_on
returns-then-there-piece-clause-goes_on c =
    from_whole c.args.text.now _ c.args.piece.now c.args.from _ c.split_at.ensures.back c.shared-there.ensures.value c.if-there-piece.true

pub returns-then-there-piece-clause-stands : goal.returns-then-there-piece-clause-stands
returns-then-there-piece-clause-stands c =
    stands_from c.args.text.now _ c.args.piece.now c.args.from _ c.split_at.ensures.back c.shared-there.ensures.value c.if-there-piece.true

pub returns-else-there-piece-clause-differs : goal.returns-else-there-piece-clause-differs
returns-else-there-piece-clause-differs c =
    from_part c.args.text.now _ c.args.piece.now c.args.from _ c.split_at.ensures.back c.shared-there.ensures.value (omega arith)

pub returns-else-there-piece-clause-other : goal.returns-else-there-piece-clause-other
returns-else-there-piece-clause-other c =
    other_from c.args.text.now _ c.args.piece.now c.args.from _ c.split_at.ensures.back c.shared-there.ensures.value (omega arith)
