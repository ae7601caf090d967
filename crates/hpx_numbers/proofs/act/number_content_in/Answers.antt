use Rattle.std.proofs.Common.{ℕ, ◌≡◌, length}
use Rattle.hpx_calls.specs.Values.{spelled}
use Rattle.hpx_calls.specs.Contents.{content_of}
use Rattle.hpx_calls.proofs.Fronts.{ok_holds}
use Rattle.hpx_numbers.specs.Sort.{IsNumeral}
use Rattle.hpx_numbers.proofs.Numerals.{numeral_content, numeral_same}
use Rattle.hpx_numbers.proofs.act.number_content_in.Goals as goal

pub returns-clause-content : goal.returns-clause-content
returns-clause-content c =
    let kind = c.args.kind in
    let waiting = length c.args.state.now.conts in
    let values = c.args.state.now.values in
    ok_holds (λ x. (n : ℕ) → x ≡ content_of spelled n kind waiting values) c.content_in.result (content_of spelled 1 kind waiting values)
    (λ n. numeral_same spelled kind waiting values c.requires.low c.requires.high 1 n) c.content_in.ensures

pub returns-clause-numeral : goal.returns-clause-numeral
returns-clause-numeral c =
    let kind = c.args.kind in
    let waiting = length c.args.state.now.conts in
    let values = c.args.state.now.values in
    ok_holds (λ x. IsNumeral x) c.content_in.result (content_of spelled 1 kind waiting values)
    (numeral_content spelled kind waiting values c.requires.low c.requires.high 1) c.content_in.ensures
