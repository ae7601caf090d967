-- Numbers of frames stay small.
use Rattle.hpx_node.proofs.Common.{Due, Entry, Event, Id, List, Out, Rules, StandsWith, Tables, [], arith, cases_eq, eq-eqb, inl, inr, length, length-append, ne_eqb, outs, outs_by, part, ℕ, ◌∷◌, ◌≤◌}

outs_one : (k : ℕ) (e : Event) → length (outs_by k e) ≤ 1
outs_one k (Out to bytes) = omega arith
outs_one k _ = omega arith

outs_few : (es : List Entry) → length (outs es) ≤ length es
outs_few [] = omega arith
outs_few (e ∷ es) = omega (arith, length-append (outs_by e.at e.event) (outs es), outs_one e.at e.event, outs_few es)

part_few : (k : ℕ) (es : List Entry) → length (part k es) ≤ length es
part_few k [] = omega arith
part_few k (e ∷ es) = elim (cases_eq e.at k) [
  | inl same ↦ rw (eq-eqb e.at k same) (omega (arith, part_few k es))
  | inr other ↦ rw (ne_eqb e.at k other) (omega (arith, part_few k es))
]

pub sent_few : (r : Rules) (t : Tables) (due : List Due) (loose : List Id) (es : List Entry) → StandsWith r t due loose es → t.sent ≤ length es
sent_few r t due loose es h = omega (arith, h.sent, outs_few (part t.here es), part_few t.here es)
