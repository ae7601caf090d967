use Rattle.std.proofs.Common.{arith, length}
use Rattle.hpx_calls.specs.Values.{spelled}
use Rattle.hpx_calls.specs.Contents.{content_of}
use Rattle.hpx_calls.specs.Sorts.{IsNaming}
use Rattle.hpx_calls.proofs.Fronts.{ok_holds}
use Rattle.hpx_calls.proofs.SortsLemmas.{naming_content}
use Rattle.hpx_calls.proofs.read.naming_content_in.Goals as goal

pub returns-clause-naming : goal.returns-clause-naming
returns-clause-naming c =
    let kind = c.args.kind in
    let waiting = length c.args.state.now.conts in
    let values = c.args.state.now.values in
    ok_holds (λ x. IsNaming x) c.content_in.result (content_of spelled c.args.localities kind waiting values)
    (naming_content spelled c.args.localities kind waiting values (omega arith)) c.content_in.ensures
