use Rattle.std.proofs.Common.{rules, tests}
use Rattle.std.specs.Prelude.{codes}
use Rattle.std.specs.Str.{bytes_eq}
use Rattle.std.proofs.lemmas.Iterator.Consumers.{YieldsList-from_filter}
use Rattle.std.proofs.lemmas.Iterator.Search.{all_from_yields_List}
use Rattle.std.proofs.lemmas.Iterator.Splits.{YieldsList-from_slice_split}
use Rattle.app_console.specs.Console.{is_blank, is_filled}
use Rattle.app_console.proofs.lines.are_all_quit.Goals as goal

pub returns : goal.returns
returns c =
    all_from_yields_List (λ word. bytes_eq word (codes "quit")) _ _ _ c.all.ensures.ran
    (YieldsList-from_filter {s = c.filter.result} _ is_filled
    (YieldsList-from_slice_split _ is_blank c.args.line.now (cc) (cc) (cc) (λ x r q k. search (rules, tests)))
    c.filter.ensures.closure (λ x r q k. search (rules, tests)))
    (λ x b q k. search (rules, tests))
