use Rattle.std.specs.Prelude.{option_map}
use Rattle.hpx_value.specs.Ids.{bare}
use Rattle.hpx_node.proofs.Common.{subst}
use Rattle.hpx_node.proofs.Emptied.{all_gone}
use Rattle.hpx_steps.specs.Rest.{StandsBut}
use Rattle.hpx_node.proofs.node.Node.go_on.Goals as goal

pub returns-in-Some-clause-stands : goal.returns-in-Some-clause-stands
returns-in-Some-clause-stands g c = λ entries h.
    all_gone g.A.Acts.act_of c.in-Some.o c.args.self.now.tables c.release.new.self.tables entries c.release.ensures c.number-live.ensures.sound.rises
    (subst (λ l. StandsBut (option_map bare l) g.A.Acts.act_of c.args.self.now.tables entries) c.in-Some.is h)
