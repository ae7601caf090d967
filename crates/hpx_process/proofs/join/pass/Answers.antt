use Rattle.hpx_member.specs.Stops.{IsTurnDue}
use Rattle.hpx_process.proofs.Served.{due_as, served_as}
use Rattle.hpx_process.proofs.join.pass.Goals as goal

pub returns-clause-served : goal.returns-clause-served
returns-clause-served g c = served_as _ _ _ _ _ _ _ (λ talk h. h.2) (λ fault talk tried h. h.2) c.console.ensures.served

pub returns-clause-due : goal.returns-clause-due
returns-clause-due g c = λ full. due_as _ _ _ _ (λ n. n.tables) c.console.result.node (λ t. IsTurnDue t (g.L.Link.latest c.console.result.link)) (λ talk h. h.2) (c.console.ensures.due full)
