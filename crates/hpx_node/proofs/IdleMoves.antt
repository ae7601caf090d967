-- Of moves: what tells that objects landed by the MOVEs that are done, and what goes on by the objects that left.
use Rattle.hpx_node.proofs.Common.{Entry, Id, IsPassive, List, Rules, StandsAtRest, StandsWith, Tables, [], ap, arith, goes, length, part, refl, run_local, subst, sum_by, sum_by-cons, sym, unpaid, ℕ, ◌++◌, ◌+◌, ◌∙◌, ◌∷◌, ◌≡◌, ◌≤◌}
use Rattle.hpx_journal.proofs.Grow.{part_append}
use Rattle.hpx_journal.specs.Local.{after}
use Rattle.hpx_journal.specs.Whole.{IsClean}
use Rattle.hpx_part.proofs.Grown.{run_local_append}
use Rattle.hpx_part.specs.Data.{Local}
use Rattle.hpx_part.specs.Parts.{at_boot}
use Rattle.hpx_steps.specs.Rest.{grants_in}
use Rattle.hpx_steps.specs.Rows.{AreMoved, Landeds, causes, lands_one, moves_done}
use Rattle.hpx_steps.specs.Sound.{gone, grants_left, grants_of, leads_on}
use Rattle.hpx_node.proofs.IdleSince.{paid_since}

-- from the first of these entries on
moved_first : (r : Rules) (n : ℕ) (l : Local) (es : List Entry) → AreMoved r n l es
    → sum_by (λ (e : Entry). lands_one e.event) es + moves_done l ≤ moves_done (run_local r l es) + n
moved_first r n l [] h = omega arith
moved_first r n l (e ∷ es) h = h.0

-- and from a later one on
moved_last : (r : Rules) (n : ℕ) (l : Local) (es fs : List Entry) → AreMoved r n l (es ++ fs) → AreMoved r n (run_local r l es) fs
moved_last r n l [] fs h = h
moved_last r n l (e ∷ es) fs h = moved_last r n (after r l e.event) es fs h.1

-- the row of what tells that objects landed counts each that does
landed_sum : (r : Rules) (es : List Entry) → sum_by (λ (e : Entry). causes r Landeds e.event) es ≡ sum_by (λ (e : Entry). lands_one e.event) es
landed_sum r es = same r es
  where
    one : (r : Rules) (e : Entry) → causes r Landeds e.event ≡ lands_one e.event
    one r e = grind arith

    same : (r : Rules) (xs : List Entry) → sum_by (λ (e : Entry). causes r Landeds e.event) xs ≡ sum_by (λ (e : Entry). lands_one e.event) xs
    same r [] = refl
    same r (x ∷ xs) = omega (arith, one r x, same r xs, sum_by-cons (λ (e : Entry). causes r Landeds e.event) x xs, sum_by-cons (λ (e : Entry). lands_one e.event) x xs)

pub landeds_paid : (r : Rules) (t : Tables) (entries : List Entry) → StandsWith r t [] [] entries → IsClean r (at_boot r t.here) (part t.here entries)
    → sum_by (λ (e : Entry). goes r Landeds e.event) (part t.here entries) ≤ moves_done (run_local r (at_boot r t.here) (part t.here entries))
landeds_paid r t entries h clean = omega (
  arith,
  h.paid.rows Landeds tt,
  landed_sum r (part t.here entries),
  moved_first r (length t.came) (at_boot r t.here) (part t.here entries) (h.moved clean),
)

pub landeds_since : (r : Rules) (t t' : Tables) (entries later : List Entry) → StandsWith r t [] [] entries → IsPassive t
    → StandsWith r t' [] [] (entries ++ later) → t'.here ≡ t.here → IsClean r (at_boot r t.here) (part t.here (entries ++ later))
    → sum_by (λ (e : Entry). goes r Landeds e.event) (part t.here later) + moves_done (run_local r (at_boot r t.here) (part t.here entries))
    ≤ moves_done (run_local r (at_boot r t.here) (part t.here (entries ++ later)))
landeds_since r t t' entries later h passive h' here clean =
    let split : part t.here (entries ++ later) ≡ part t.here entries ++ part t.here later = part_append t.here entries later in
    let all : AreMoved r (length t'.came) (at_boot r t.here) (part t.here (entries ++ later)) =
    subst (λ (k : ℕ). IsClean r (at_boot r k) (part k (entries ++ later)) → AreMoved r (length t'.came) (at_boot r k) (part k (entries ++ later))) here h'.moved clean in
    let these = moved_last r (length t'.came) (at_boot r t.here) (part t.here entries) (part t.here later) (subst (AreMoved r (length t'.came) (at_boot r t.here)) split all) in
    omega (
      arith,
      moved_first r (length t'.came) (run_local r (at_boot r t.here) (part t.here entries)) (part t.here later) these,
      ap moves_done (run_local_append r (at_boot r t.here) (part t.here entries) (part t.here later)),
      ap (λ (es : List Entry). moves_done (run_local r (at_boot r t.here) es)) split,
      landed_sum r (part t.here later),
      paid_since r t t' entries later h passive h' here Landeds tt tt,
    )

-- an action goes on from the home of its object once a move of that from there was granted
pub onward_granted : (r : Rules) (t : Tables) (entries : List Entry) (o : Id) → StandsAtRest r t entries
    → 1 ≤ sum_by (λ (e : Entry). gone r (leads_on t.here o) e.event) (part t.here entries)
    → 1 ≤ sum_by (λ (e : Entry). grants_left o e.event) (part t.here entries) + grants_in o t
onward_granted r t entries o h some = h.begun.onward o (omega (arith, some))

-- and where nothing is to be done, the object has left
pub left_before : (r : Rules) (t : Tables) (entries : List Entry) (o : Id) → StandsAtRest r t entries → IsPassive t
    → 1 ≤ sum_by (λ (e : Entry). gone r (leads_on t.here o) e.event) (part t.here entries)
    → 1 ≤ sum_by (λ (e : Entry). grants_left o e.event) (part t.here entries)
left_before r t entries o h passive some = omega (
  arith,
  onward_granted r t entries o h some,
  ap (sum_by (grants_of o)) passive.desk,
  ap (sum_by (grants_of o)) passive.leaving,
  ap (sum_by (grants_of o)) passive.stray,
)
