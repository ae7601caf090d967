use Rattle.std.specs.Prelude.{option_map}
use Rattle.std.proofs.Common.{sym, ◌∙◌}
use Rattle.hpx_process.specs.Members.{left}
use Rattle.hpx_process.proofs.Led.{problem_cause, problem_led, problem_not_read, session_cause, session_led}
use Rattle.hpx_process.proofs.join.lead.Goals as goal
use Rattle.hpx_process.proofs.join.lead.Goals.{in-Session, in-Problem}

pub returns-clause-led : goal.returns-clause-led
returns-clause-led g c = elim c.match-membership.branch [
  | in-Session w ↦ session_led (λ m. left m.status (option_map (λ n. n.tables) m.node) m.journal.entries m.fault (g.L.Link.trace m.link) (g.L.Link.latest m.link) (g.L.Link.faults m.link))
      g.S.Source.left g.S.Source.taken g.S.Source.faults g.K.Sink.held g.K.Sink.faults _ _ _ _ _ _ _ _ _ _ _ w.in-Session.is c.as_slice.ensures.value w.member-is w.source-is w.sink-is
      w.serve-member.ensures.sat c.count-status.ensures.counted
  | in-Problem w ↦ problem_led (λ m. left m.status (option_map (λ n. n.tables) m.node) m.journal.entries m.fault (g.L.Link.trace m.link) (g.L.Link.latest m.link) (g.L.Link.faults m.link))
      g.S.Source.left g.S.Source.taken g.S.Source.faults g.K.Sink.held g.K.Sink.faults _ _ _ _ _ _ _ _ _ _ _ _ w.in-Problem.is c.as_slice.ensures.value w.member-is w.source-is w.sink-is
      w.reckon-member.ensures.reckoned c.count-status.ensures.counted
]

pub returns-clause-cause : goal.returns-clause-cause
returns-clause-cause g c = elim c.match-membership.branch [
  | in-Session w ↦ session_cause (λ m. left m.status (option_map (λ n. n.tables) m.node) m.journal.entries m.fault (g.L.Link.trace m.link) (g.L.Link.latest m.link) (g.L.Link.faults m.link))
      g.S.Source.left g.S.Source.taken g.S.Source.faults g.K.Sink.held g.K.Sink.faults _ _ _ _ _ _ _ _ _ w.member-is w.source-is w.sink-is w.serve-member.ensures.cause
      c.count-status.ensures.other c.count-status.ensures.well
  | in-Problem w ↦ problem_cause (λ m. left m.status (option_map (λ n. n.tables) m.node) m.journal.entries m.fault (g.L.Link.trace m.link) (g.L.Link.latest m.link) (g.L.Link.faults m.link))
      g.S.Source.left g.S.Source.taken g.S.Source.faults g.K.Sink.held g.K.Sink.faults _ _ _ _ _ _ _ _ _ w.member-is w.source-is w.sink-is w.reckon-member.ensures.cause w.reckon-member.ensures.no_read
      c.count-status.ensures.other c.count-status.ensures.well
]

pub returns-clause-no_read : goal.returns-clause-no_read
returns-clause-no_read g c = elim c.match-membership.branch [
  | in-Session w ↦ λ problem is. absurd (let no = sym w.in-Session.is ∙ is in cc)
  | in-Problem w ↦ λ problem is. problem_not_read (λ m. left m.status (option_map (λ n. n.tables) m.node) m.journal.entries m.fault (g.L.Link.trace m.link) (g.L.Link.latest m.link) (g.L.Link.faults m.link))
      g.K.Sink.faults _ _ _ _ _ w.member-is w.reckon-member.ensures.no_read c.count-status.ensures.other c.count-status.ensures.well
]
