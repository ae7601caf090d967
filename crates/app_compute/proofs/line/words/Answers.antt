use Rattle.std.proofs.Common.{◌≡◌, map, rules, tests}
use Rattle.std.specs.List.{slice_split}
use Rattle.std.specs.Result.{IfOk}
use Rattle.std.proofs.lemmas.Iterator.Consumers.{map_from_collect}
use Rattle.std.proofs.lemmas.Iterator.Splits.{YieldsList-from_slice_split}
use Rattle.app_compute.specs.Lines.{is_space}
use Rattle.app_compute.proofs.line.words.Goals as goal

pub returns : goal.returns
returns c =
    let all : IfOk c.collect.result (λ w. map (λ x. x.now) w.items ≡ slice_split is_space c.args.line.now) =
    map_from_collect _ c.collect.ensures.ran
    (YieldsList-from_slice_split _ is_space c.args.line.now (cc) (cc) (cc) (λ x r q k. search (rules, tests))) in
    rw c.in_ok-collect.was at all
