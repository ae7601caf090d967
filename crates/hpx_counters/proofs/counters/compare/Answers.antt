use Rattle.std.proofs.Common.{◌+◌, drop, false, sym, ◌∙◌, arith}
use Rattle.std.specs.Fmt.{decimal}
use Rattle.std.specs.Str.{bytes_eq}
use Rattle.hpx_counters.specs.Counters.{head_of, tail_of, shared}
use Rattle.hpx_counters.proofs.CounterLemmas.{same_by_pieces, shared_by_pieces, same_at_end, shared_empty}
use Rattle.hpx_counters.proofs.counters.compare.Goals as goal

pub returns-in-Ok-clause-named : goal.returns-in-Ok-clause-named
returns-in-Ok-clause-named c =
    let name = c.args.name.now in
    let counter = c.args.counter in
    let pieces = same_by_pieces name (head_of counter.what) (decimal counter.locality) (tail_of counter.what) _ _ _ c.in_ok-at.at c.in_ok-at-2.at
    (λ more. bytes_eq (drop c.in-Ok.end name) more) (c.as_bytes.ensures.value ∙ c.head.ensures.text) c.digits.ensures.decimal (c.as_bytes-2.ensures.value ∙ c.tail.ensures.text)
    c.in_ok-at.ensures.stands c.in_ok-at-2.ensures.stands c.in-Ok.ensures.stands in
    sym (pieces ∙ same_at_end name c.in-Ok.end c.if-end-name.true)

pub returns-in-Ok-2-clause-front : goal.returns-in-Ok-2-clause-front
returns-in-Ok-2-clause-front c =
    let name = c.args.name.now in
    let counter = c.args.counter in
    let pieces = shared_by_pieces name (head_of counter.what) (decimal counter.locality) (tail_of counter.what) _ _ _ c.in_ok-at.at c.in_ok-at-2.at
    (λ more. c.in-Ok.end + shared (drop c.in-Ok.end name) more) (c.as_bytes.ensures.value ∙ c.head.ensures.text) c.digits.ensures.decimal (c.as_bytes-2.ensures.value ∙ c.tail.ensures.text)
    c.in_ok-at.ensures.goes_on c.in_ok-at-2.ensures.goes_on c.in-Ok.ensures.goes_on in
    omega (arith, pieces, shared_empty (drop c.in-Ok.end name))

pub returns-in-Err-clause-named : goal.returns-in-Err-clause-named
returns-in-Err-clause-named c =
    let counter = c.args.counter in
    sym (same_by_pieces c.args.name.now (head_of counter.what) (decimal counter.locality) (tail_of counter.what) _ _ _ c.in_ok-at.at c.in_ok-at-2.at
    (λ more. false) (c.as_bytes.ensures.value ∙ c.head.ensures.text) c.digits.ensures.decimal (c.as_bytes-2.ensures.value ∙ c.tail.ensures.text)
    c.in_ok-at.ensures.stands c.in_ok-at-2.ensures.stands c.in-Err.ensures.other)

pub returns-in-Err-clause-front : goal.returns-in-Err-clause-front
returns-in-Err-clause-front c =
    let counter = c.args.counter in
    sym (shared_by_pieces c.args.name.now (head_of counter.what) (decimal counter.locality) (tail_of counter.what) _ _ _ c.in_ok-at.at c.in_ok-at-2.at
    (λ more. c.in-Err.front) (c.as_bytes.ensures.value ∙ c.head.ensures.text) c.digits.ensures.decimal (c.as_bytes-2.ensures.value ∙ c.tail.ensures.text)
    c.in_ok-at.ensures.goes_on c.in_ok-at-2.ensures.goes_on c.in-Err.ensures.differs)
