-- By cases: one row after the other, and both ways of a test.
use Rattle.hpx_steps.proofs.Common.{ℕ, Actions, Asks, Bool, Counts, Frees, FreesOf, Id, Refusals, Returns, Row, false, refl, true, ◌≡◌, Flow, MovesTo, PlacedAt, EndsAt, eq-eqb, eqb-true, false_from, sym, ◌==◌, ◌∙◌}
use Rattle.hpx_steps.specs.Rows.{Gives, GosOf, Landeds, Landings, LandsOf, Leavings, Objects, ShipsOf, TellsOf}

pub by_rows : (P : Row → Type 0) → P Returns → P Asks → P Gives → P Frees → P Counts → P Refusals → P Actions → P Objects → P Landeds → P Leavings → P Landings → ((o : Id) → P (FreesOf o))
    → ((o : Id) (to : ℕ) → P (GosOf o to)) → ((o : Id) (to : ℕ) → P (ShipsOf o to)) → ((o : Id) (to : ℕ) → P (LandsOf o to)) → ((o : Id) → P (TellsOf o)) → (row : Row) → P row
by_rows P a b c d e f g i j u v h k l m n Returns = a
by_rows P a b c d e f g i j u v h k l m n Asks = b
by_rows P a b c d e f g i j u v h k l m n Gives = c
by_rows P a b c d e f g i j u v h k l m n Frees = d
by_rows P a b c d e f g i j u v h k l m n Counts = e
by_rows P a b c d e f g i j u v h k l m n Refusals = f
by_rows P a b c d e f g i j u v h k l m n Actions = g
by_rows P a b c d e f g i j u v h k l m n Objects = i
by_rows P a b c d e f g i j u v h k l m n Landeds = j
by_rows P a b c d e f g i j u v h k l m n Leavings = u
by_rows P a b c d e f g i j u v h k l m n Landings = v
by_rows P a b c d e f g i j u v h k l m n (FreesOf o) = h o
by_rows P a b c d e f g i j u v h k l m n (GosOf o to) = k o to
by_rows P a b c d e f g i j u v h k l m n (ShipsOf o to) = l o to
by_rows P a b c d e f g i j u v h k l m n (LandsOf o to) = m o to
by_rows P a b c d e f g i j u v h k l m n (TellsOf o) = n o

pub by_bool : (P : Bool → Type 0) → P true → P false → (b : Bool) → P b
by_bool P a b true = a
by_bool P a b false = b

pub if_so : {P : Type 0} (b : Bool) → (b ≡ true → P) → (b ≡ false → P) → P
if_so true a b = a refl
if_so false a b = b refl

pub by_flows : (P : Flow → Type 0) → ((o : Id) (t : ℕ) → P (MovesTo o t)) → ((o : Id) (j : ℕ) → P (PlacedAt o j)) → ((o : Id) (j : ℕ) → P (EndsAt o j)) → (f : Flow) → P f
by_flows P a b c (MovesTo o t) = a o t
by_flows P a b c (PlacedAt o j) = b o j
by_flows P a b c (EndsAt o j) = c o j

-- an equality from the other side
pub eq_turned : (a b : ℕ) → (a == b) ≡ (b == a)
eq_turned a b = if_so (a == b) (λ t. t ∙ sym (eq-eqb b a (sym (eqb-true a b t)))) (λ t. t ∙ sym (false_from (b == a) (λ u. let e : true ≡ false = sym (eq-eqb a b (sym (eqb-true b a u))) ∙ t in cc)))
