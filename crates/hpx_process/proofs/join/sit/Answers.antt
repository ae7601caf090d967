use Rattle.hpx_member.specs.Stops.{IsTurnDue}
use Rattle.hpx_process.proofs.Served.{due_as, served_as, served_fact}
use Rattle.hpx_process.proofs.Talking.{talked_none}
use Rattle.hpx_process.proofs.join.sit.Goals as goal
use Rattle.std.proofs.Common.{refl}

pub console-requires-clause-first : goal.console-requires-clause-first
console-requires-clause-first g c = (refl, refl, talked_none _ c.requires.blank)

pub returns-clause-source : goal.returns-clause-source
returns-clause-source g c = served_fact _ _ _ _ _ _ (λ talk h. h.0) (λ fault talk tried h. h.0) c.console.ensures.served

pub returns-clause-sink : goal.returns-clause-sink
returns-clause-sink g c = served_fact _ _ _ _ _ _ (λ talk h. h.1) (λ fault talk tried h. h.1) c.console.ensures.served

pub returns-clause-served : goal.returns-clause-served
returns-clause-served g c = served_as _ _ _ _ _ _ _ (λ talk h. h.2) (λ fault talk tried h. h.2) c.console.ensures.served

pub returns-clause-due : goal.returns-clause-due
returns-clause-due g c = λ full. due_as _ _ _ _ (λ n. n.tables) c.console.result.node (λ t. IsTurnDue t (g.L.Link.latest c.console.result.link)) (λ talk h. h.2) (c.console.ensures.due full)
