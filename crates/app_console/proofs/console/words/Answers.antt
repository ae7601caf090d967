use Rattle.std.proofs.Common.{◌≡◌, map, rules, tests}
use Rattle.std.specs.Result.{IfOk}
use Rattle.std.proofs.lemmas.Iterator.Consumers.{map_from_collect, YieldsList-from_filter}
use Rattle.std.proofs.lemmas.Iterator.Splits.{YieldsList-from_slice_split}
use Rattle.app_console.specs.Console.{is_blank, is_filled, words_of}
use Rattle.app_console.proofs.console.words.Goals as goal

pub returns : goal.returns
returns c =
    let all : IfOk c.collect.result (λ w. map (λ x. x.now) w.items ≡ words_of c.args.line.now) =
    map_from_collect _ c.collect.ensures.ran
    (YieldsList-from_filter {s = c.filter.result} _ is_filled
    (YieldsList-from_slice_split _ is_blank c.args.line.now (cc) (cc) (cc) (λ x r q k. search (rules, tests)))
    c.filter.ensures.closure (λ x r q k. search (rules, tests))) in
    rw c.in_ok-collect.was at all
