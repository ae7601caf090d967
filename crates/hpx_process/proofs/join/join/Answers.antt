use Rattle.std.specs.Prelude.{option_map}
use Rattle.std.proofs.Common.{ap, refl, sym, ◌≢◌, subst}
use Rattle.hpx_process.specs.Members.{left}
use Rattle.hpx_process.proofs.Led.{console_by, worker_by, worker_not_read}
use Rattle.hpx_process.proofs.join.join.Goals as goal
use Rattle.hpx_process.proofs.join.join.Goals.{in-Console, in-Worker}

pub returns-clause-joined : goal.returns-clause-joined
returns-clause-joined g c = elim c.match-membership.branch [
  | in-Console w ↦ console_by
      (λ m. left m.status (option_map (λ n. n.tables) m.node) m.journal.entries m.fault (g.P.Link.Link.trace m.link) (g.P.Link.Link.latest m.link) (g.P.Link.Link.faults m.link)) g.S.Source.left g.S.Source.taken
      g.S.Source.faults g.K.Sink.held g.K.Sink.faults _ _ _ _ _ _ _ _ _ _ _ _ w.in-Console.is (c.in-Ok.ensures.stands (λ h. cc)) w.status-is w.source-is w.sink-is w.lead.ensures.ends w.lead.ensures.console
      w.lead.ensures.led w.lead.ensures.cause
  | in-Worker w ↦ worker_by
      (λ m. left m.status (option_map (λ n. n.tables) m.node) m.journal.entries m.fault (g.P.Link.Link.trace m.link) (g.P.Link.Link.latest m.link) (g.P.Link.Link.faults m.link)) g.S.Source.left g.S.Source.taken
      g.S.Source.faults g.K.Sink.held g.K.Sink.faults _ _ _ _ _ _ _ _ _ _ w.in-Worker.is (c.in-Ok.ensures.stands (λ h. cc)) w.status-is w.source-is w.sink-is refl w.work-member.ensures.worker
]

pub returns-clause-no_read : goal.returns-clause-no_read
returns-clause-no_read g c = elim c.match-membership.branch [
  | in-Console w ↦ λ problem is. subst (λ e. (e.0 ≢ 2) × (e.0 ≢ 9)) (sym w.status-is) (w.lead.ensures.no_read problem is)
  | in-Worker w ↦ λ problem is. worker_not_read _ _ (ap (λ e. e.0) w.status-is) w.work-member.ensures.worker.ends
]
