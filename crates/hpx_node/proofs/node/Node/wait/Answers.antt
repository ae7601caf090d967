use Rattle.hpx_node.proofs.Common.{Book, Stands, Tables, ap, arith, refl, seen, ◌∙◌}
use Rattle.hpx_node.proofs.Waited.{short_same, before_same, begins_from}
use Rattle.hpx_node.proofs.Same.{same_too}
use Rattle.hpx_node.proofs.Turns.{turn_from, adds_none}
use Rattle.hpx_node.proofs.node.Node.wait.Goals.{then-is_err-via-then-is_err, then-is_err-via-else-is_err+then-is_err-2}
use Rattle.hpx_node.proofs.Turned.{are_few, asked_few}
use Rattle.hpx_node.proofs.node.Node.wait.Goals as goal

pub returns-then-is_err-clause-stands : goal.returns-then-is_err-clause-stands
returns-then-is_err-clause-stands g c = elim c.then-is_err.branch [
  | then-is_err-via-then-is_err w ↦
      same_too (Stands g.A.Acts.act_of) c.args.self.now.tables _ _ _ c.requires.stands c.reserve.ensures.same (ap (λ (b : Book). b.entries) w.book-is)
  | then-is_err-via-else-is_err+then-is_err-2 w ↦
      same_too (Stands g.A.Acts.act_of) c.args.self.now.tables _ _ _ c.requires.stands c.reserve.ensures.same
      (ap (λ (b : Book). b.entries) w.book-is ∙ w.reserve-else-is_err.ensures.entries)
]

pub before-requires-clause-few : goal.before-requires-clause-few
before-requires-clause-few g c = (are_few g.A.Acts.act_of _ _ c.requires.room c.requires.stands).births

pub before-requires-clause-asked : goal.before-requires-clause-asked
before-requires-clause-asked g c = asked_few g.A.Acts.act_of _ _ c.requires.room c.requires.stands

pub begin-requires-clause-asked : goal.begin-requires-clause-asked
begin-requires-clause-asked g c =
    omega (arith, asked_few g.A.Acts.act_of _ _ c.requires.room c.requires.stands, ap (λ (x : Tables). x.asked) c.reserve.ensures.same)

pub begin-requires-clause-stands : goal.begin-requires-clause-stands
begin-requires-clause-stands g c =
    same_too (Stands g.A.Acts.act_of) c.args.self.now.tables _ _ _ c.requires.stands c.reserve.ensures.same c.reserve-else-is_err.ensures.entries

pub begin-requires-clause-before : goal.begin-requires-clause-before
begin-requires-clause-before g c = before_same c.args.self.now.tables _ _ _ _ c.reserve.ensures.same c.in-Ok.ensures

pub begin-requires-clause-short : goal.begin-requires-clause-short
begin-requires-clause-short g c = short_same c.args.self.now.tables _ (seen c.args.done.job) c.args.done.outcome c.reserve.ensures.same c.requires.short

pub returns-clause-asks : goal.returns-clause-asks
returns-clause-asks g c =
    (refl, begins_from c.args.self.now.tables _ _ _ _ _ _ _ c.reserve.ensures.same c.reserve-else-is_err.ensures.entries c.begin.ensures.begins)

pub returns-then-is_err-clause-turn : goal.returns-then-is_err-clause-turn
returns-then-is_err-clause-turn g c = elim c.then-is_err.branch [
  | then-is_err-via-then-is_err w ↦ adds_none _ _ (ap (λ (b : Book). b.entries) w.book-is)
  | then-is_err-via-else-is_err+then-is_err-2 w ↦ adds_none _ _ (ap (λ (b : Book). b.entries) w.book-is ∙ w.reserve-else-is_err.ensures.entries)
]

pub returns-clause-turn : goal.returns-clause-turn
returns-clause-turn g c = turn_from _ _ _ c.reserve-else-is_err.ensures.entries c.begin.ensures.turn
