use Rattle.std.proofs.Common.{◌≡◌, arith, refl, sym, ap, ◌∙◌, subst, None}
use Rattle.hpx_counters.specs.Counters.{counters_below, counter_in, counter_named, longest_front}
use Rattle.hpx_counters.proofs.CounterLemmas.{counter_in-below, counter_in-none, longest_front-more}
use Rattle.hpx_counters.proofs.counters.read.Goals as goal

pub loop-locality-init : goal.loop-locality-init
unfolding counters_below
loop-locality-init c = record { none = refl; longest = refl }

pub returns-in-Ok-clause-named : goal.returns-in-Ok-clause-named
unfolding counter_named
returns-in-Ok-clause-named c =
    sym (counter_in-below c.args.name.now c.in-Ok.counter c.loop-locality.locality 64 (omega arith) c.loop-locality.invariant.none (sym c.in-Ok.ensures.named))

pub loop-locality-preserved : goal.loop-locality-preserved
loop-locality-preserved c = record {
  none = counter_in-none c.args.name.now c.loop-locality.locality c.loop-locality.invariant.none (sym c.in-Err.ensures.named);
  longest = omega (arith, longest_front-more c.args.name.now c.loop-locality.locality, c.in-Err.ensures.front, c.loop-locality.invariant.longest);
}

pub returns-clause-named : goal.returns-clause-named
unfolding counter_named
returns-clause-named c =
    let at_end : c.loop-locality.locality ≡ 64 = omega arith in
    sym (subst (λ n. counter_in c.args.name.now (counters_below n) ≡ None) at_end c.loop-locality.invariant.none)

pub returns-clause-front : goal.returns-clause-front
returns-clause-front c =
    let at_end : c.loop-locality.locality ≡ 64 = omega arith in
    c.loop-locality.invariant.longest ∙ ap (λ n. longest_front c.args.name.now (counters_below n)) at_end
