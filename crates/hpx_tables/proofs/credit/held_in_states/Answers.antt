use Rattle.std.proofs.Common.{ℕ, zero, suc, List, [], ◌∷◌, ◌≡◌, ◌+◌, ◌-◌, ◌^◌, ◌∙◌, Some, min, take, ap, arith}
use Rattle.std.proofs.lemmas.List.Sums.{sum_by-cons}
use Rattle.std.specs.List.{slice_get, sum_by}
use Rattle.hpx_journal.specs.Data.{Id}
use Rattle.hpx_part.specs.Data.{Standing}
use Rattle.hpx_tables.proofs.Alls.{some_same}
use Rattle.hpx_tables.specs.Kept.{credit_in}
use Rattle.hpx_tables.proofs.credit.held_in_states.Goals as goal

sum_suc : {X : Type 0} (f : X → ℕ) (xs : List X) (i : ℕ) (x : X) → slice_get xs i ≡ Some x → sum_by f (take (suc i) xs) ≡ sum_by f (take i xs) + f x
sum_suc f [] i x h = cc
sum_suc f (y ∷ ys) zero x h = omega (arith, sum_by-cons f y [], ap f (some_same y x h))
sum_suc f (y ∷ ys) (suc i) x h = omega (arith, sum_by-cons f y (take (suc i) ys), sum_by-cons f y (take i ys), sum_suc f ys i x h)

sum_next : {X : Type 0} (f : X → ℕ) (xs : List X) (i : ℕ) (x : X) → slice_get xs i ≡ Some x → sum_by f (take (i + 1) xs) ≡ sum_by f (take i xs) + f x
sum_next f xs i x h = let e : i + 1 ≡ suc i = omega arith in rw e (sum_suc f xs i x h)

pub loop-i-preserved : goal.loop-i-preserved
loop-i-preserved c =
    let one = sum_next (λ (x : Standing). credit_in c.args.o x.state.ids) c.args.objects.now.items c.loop-i.i c.at.result.now c.at.ensures in
    let credit : c.credit_in.result ≡ min (2 ^ 128 - 1) (credit_in c.args.o c.at.result.now.state.ids) =
    c.credit_in.ensures ∙ ap (λ (l : List Id). min (2 ^ 128 - 1) (credit_in c.args.o l)) (c.as_slice.ensures ∙ ap (λ s. s.ids) c.state.ensures.state) in
    omega (arith, one, credit, c.loop-i.invariant, c.saturating_add-sum.ensures)
