-- The calls of the iterator give the words of the line.
use Rattle.std.proofs.Common.{rules, tests, sym, ap, ◌∙◌}
use Rattle.std.proofs.lemmas.Iterator.Consumers.{YieldsList-from_filter}
use Rattle.std.proofs.lemmas.Iterator.Splits.{YieldsList-from_slice_split}
use Rattle.app_console.specs.Console.{words_of, is_blank, is_filled}
use Rattle.hpx_own.specs.Lines.{handled_words}
use Rattle.hpx_own.proofs.Words.{none-given, one-given, two-given, three-given}
use Rattle.hpx_own.proofs.lines.handled_words.Goals as goal

pub returns-in-Some-None-default : goal.returns-in-Some-None-default
returns-in-Some-None-default c =
    c.handled_alone.ensures ∙ sym (ap handled_words (one-given _ _ (words_of c.args.line.now) c.next.ensures.steps c.next-2.ensures.steps
    c.in-Some-None-default.is-0 c.in-Some-None-default.is-1
    (YieldsList-from_filter {s = c.filter-words.result} _ is_filled
    (YieldsList-from_slice_split _ is_blank c.args.line.now (cc) (cc) (cc) (λ x r q k. search (rules, tests)))
    c.filter-words.ensures.closure (λ x r q k. search (rules, tests)))))

pub returns-in-Some-Some-None : goal.returns-in-Some-Some-None
returns-in-Some-Some-None c =
    c.handled_with.ensures ∙ sym (ap handled_words (two-given _ _ _ (words_of c.args.line.now) c.next.ensures.steps c.next-2.ensures.steps c.next-3.ensures.steps
    c.in-Some-Some-None.is-0 c.in-Some-Some-None.is-1 c.in-Some-Some-None.is-2
    (YieldsList-from_filter {s = c.filter-words.result} _ is_filled
    (YieldsList-from_slice_split _ is_blank c.args.line.now (cc) (cc) (cc) (λ x r q k. search (rules, tests)))
    c.filter-words.ensures.closure (λ x r q k. search (rules, tests)))))

pub returns-in_default : goal.returns-in_default
returns-in_default c =
    sym (ap handled_words (three-given _ _ _ (words_of c.args.line.now) c.next.ensures.steps c.next-2.ensures.steps c.next-3.ensures.steps
    c.in_default.is-0 c.in_default.is-1 c.in_default.is-2
    (YieldsList-from_filter {s = c.filter-words.result} _ is_filled
    (YieldsList-from_slice_split _ is_blank c.args.line.now (cc) (cc) (cc) (λ x r q k. search (rules, tests)))
    c.filter-words.ensures.closure (λ x r q k. search (rules, tests)))).1)

pub returns-in_default-2 : goal.returns-in_default-2
returns-in_default-2 c =
    sym (ap handled_words (none-given _ (words_of c.args.line.now) c.next.ensures.steps c.in_default.is-0
    (YieldsList-from_filter {s = c.filter-words.result} _ is_filled
    (YieldsList-from_slice_split _ is_blank c.args.line.now (cc) (cc) (cc) (λ x r q k. search (rules, tests)))
    c.filter-words.ensures.closure (λ x r q k. search (rules, tests)))))
