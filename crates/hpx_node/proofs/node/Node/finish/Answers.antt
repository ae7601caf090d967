use Rattle.hpx_node.proofs.Common.{AllLast, Book, Stands, Stock, ap, ok_map, subst, ◌∙◌, ◌≡◌}
use Rattle.hpx_node.proofs.Same.{ends_from, prepared_same, same_too}
use Rattle.hpx_node.proofs.Turns.{turn_from, adds_none}
use Rattle.hpx_node.proofs.node.Node.finish.Goals.{then-is_err-via-then-is_err, then-is_err-via-else-is_err+then-is_err-2}
use Rattle.hpx_node.proofs.Targets.{at_error}
use Rattle.hpx_node.proofs.Turned.{are_few, at_rest_tidy}
use Rattle.hpx_tables.specs.Jobs.{IsRunning}
use Rattle.hpx_node.proofs.node.Node.finish.Goals as goal

pub returns-then-is_err-clause-stands : goal.returns-then-is_err-clause-stands
returns-then-is_err-clause-stands g c = elim c.then-is_err.branch [
  | then-is_err-via-then-is_err w ↦
      same_too (Stands g.A.Acts.act_of) c.args.self.now.tables _ _ _ c.requires.stands c.reserve.ensures.same (ap (λ (b : Book). b.entries) w.book-is)
  | then-is_err-via-else-is_err+then-is_err-2 w ↦
      same_too (Stands g.A.Acts.act_of) c.args.self.now.tables _ _ _ c.requires.stands c.reserve.ensures.same
      (ap (λ (b : Book). b.entries) w.book-is ∙ w.reserve-else-is_err.ensures.entries)
]

pub spot-requires : goal.spot-requires
spot-requires g c = record { tidy = at_rest_tidy g.A.Acts.act_of _ _ c.requires.stands }

pub prepare-requires-clause-few : goal.prepare-requires-clause-few
prepare-requires-clause-few g c = (are_few g.A.Acts.act_of _ _ c.requires.room c.requires.stands).births

pub commit-requires-clause-prepared : goal.commit-requires-clause-prepared
commit-requires-clause-prepared g c = prepared_same c.args.self.now.tables _ c.args.done.job c.args.done.outcome _ c.reserve.ensures.same
    (rw c.in-Ok-Some.field-0-is at c.in-Ok-Some.ensures.some)

pub commit-requires-clause-stands : goal.commit-requires-clause-stands
commit-requires-clause-stands g c =
    same_too (Stands g.A.Acts.act_of) c.args.self.now.tables _ _ _ c.requires.stands c.reserve.ensures.same c.reserve-else-is_err.ensures.entries

pub returns-clause-ends : goal.returns-clause-ends
returns-clause-ends g c = λ done. ends_from c.args.self.now.tables _ _ _ _ c.reserve.ensures.same c.commit.ensures.ends

pub wait-requires-clause-short : goal.wait-requires-clause-short
wait-requires-clause-short g c = rw c.in-Ok-None.field-0-is at c.in-Ok-None.ensures.none

pub returns-in-Ok-None-clause-asks : goal.returns-in-Ok-None-clause-asks
returns-in-Ok-None-clause-asks g c = ok_map c.wait.result _ _ c.wait.ensures.asks (λ f h. λ asks. (rw c.in-Ok-None.field-0-is at c.in-Ok-None.ensures.none, h.1))

pub returns-in-Ok-None-clause-running : goal.returns-in-Ok-None-clause-running
returns-in-Ok-None-clause-running g c =
    ok_map c.wait.result _ _ c.wait.ensures.asks (λ f h. λ other.
    (c.in-Some.ensures.found.0, record { i = c.in-Some.spot.0; j = c.in-Some.spot.1; is = c.in-Some.ensures.found.1 }))

pub returns-then-is_err-clause-turn : goal.returns-then-is_err-clause-turn
returns-then-is_err-clause-turn g c = elim c.then-is_err.branch [
  | then-is_err-via-then-is_err w ↦ adds_none _ _ (ap (λ (b : Book). b.entries) w.book-is)
  | then-is_err-via-else-is_err+then-is_err-2 w ↦ adds_none _ _ (ap (λ (b : Book). b.entries) w.book-is ∙ w.reserve-else-is_err.ensures.entries)
]

pub returns-clause-turn : goal.returns-clause-turn
returns-clause-turn g c = turn_from _ _ _ c.reserve-else-is_err.ensures.entries c.commit.ensures.turn

pub returns-in-None-clause-lasts : goal.returns-in-None-clause-lasts
returns-in-None-clause-lasts g c = λ done. absurd (cc)

pub returns-clause-lasts : goal.returns-clause-lasts
returns-clause-lasts g c = λ done.
    let some = rw c.in-Ok-Some.field-0-is at c.in-Ok-Some.ensures.some in
    let own = rw c.in-Ok-Some.field-0-is at c.in-Ok-Some.ensures.own in
    subst (λ (s : Stock). AllLast s.hand s.places) own some.stock.lasts

pub returns-in-Ok-None-clause-runs : goal.returns-in-Ok-None-clause-runs
returns-in-Ok-None-clause-runs g c =
    let runs : (c.args.done.localities ≡ c.args.self.now.tables.localities) × IsRunning c.args.self.now.tables c.args.done.job =
    (c.in-Some.ensures.found.0, record { i = c.in-Some.spot.0; j = c.in-Some.spot.1; is = c.in-Some.ensures.found.1 }) in
    at_error _ _ runs
