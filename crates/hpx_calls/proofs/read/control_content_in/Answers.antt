use Rattle.std.proofs.Common.{ℕ, ◌≡◌, length}
use Rattle.hpx_calls.specs.Values.{spelled}
use Rattle.hpx_calls.specs.Contents.{content_of}
use Rattle.hpx_calls.specs.Sorts.{IsControl}
use Rattle.hpx_calls.proofs.Fronts.{ok_holds}
use Rattle.hpx_calls.proofs.SortsLemmas.{control_content, same_control}
use Rattle.hpx_calls.proofs.read.control_content_in.Goals as goal

pub returns-clause-content : goal.returns-clause-content
returns-clause-content c =
    let kind = c.args.kind in
    let waiting = length c.args.state.now.conts in
    let values = c.args.state.now.values in
    ok_holds (λ x. (n : ℕ) → x ≡ content_of spelled n kind waiting values) c.content_in.result (content_of spelled 1 kind waiting values)
    (λ n. same_control spelled 1 n kind waiting values c.requires) c.content_in.ensures

pub returns-clause-control : goal.returns-clause-control
returns-clause-control c =
    let kind = c.args.kind in
    let waiting = length c.args.state.now.conts in
    let values = c.args.state.now.values in
    ok_holds (λ x. IsControl x) c.content_in.result (content_of spelled 1 kind waiting values)
    (control_content spelled 1 kind waiting values c.requires) c.content_in.ensures
