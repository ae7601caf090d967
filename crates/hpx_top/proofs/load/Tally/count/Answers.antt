use Rattle.std.specs.Prelude.{pos, negsuc, ◌≤ℤ◌, ◌+ℤ◌}
use Rattle.std.specs.Int.{w128}
use Rattle.std.proofs.Common.{rules, FitsSigned, to_z, of_z, w64, arith, ap, sym, subst, ◌+◌, ◌∙◌, ◌≡◌}
use Rattle.std.proofs.Math.Facts.{to_z-of_z}
use Rattle.std.proofs.lemmas.Int.{ints}
use Rattle.hpx_top.specs.declared.load.Tally.{Tally}
use Rattle.hpx_top.specs.Loaded.{IsBounded}
use Rattle.hpx_top.proofs.LoadLemmas.{bounded_error, bounded_number, bounded_still, sum_fits}
use Rattle.hpx_top.proofs.load.Tally.count.Goals as goal
use Rattle.hpx_top.proofs.load.Tally.count.Goals.{then-self-lines, else-self-lines+then-self-ge-FIRST+then-is_error, else-self-lines+else-self-ge-FIRST}

pub returns-clause-bounded : goal.returns-clause-bounded
returns-clause-bounded c =
    let So : Tally → Type 0 = λ t. IsBounded (record { fed = t.fed + 1; errors = t.errors; sum = t.sum }) in
    elim c.if-self-lines.branch [
      | then-self-lines w ↦
          let f : FitsSigned w64 w.number_told.result = search rules in
          let low : negsuc 9223372036854775807 ≤ℤ w.from.result = omega (arith, ints, f, w.from.ensures) in
          let high : w.from.result ≤ℤ pos 9223372036854775807 = omega (arith, ints, f, w.from.ensures) in
          let g : FitsSigned w128 c.args.self.now.sum = search rules in
          let h : FitsSigned w128 w.from.result = search rules in
          let sum = c.args.self.now.sum in
          let k : FitsSigned w128 (sum +ℤ w.from.result) = sum_fits c.args.self.now w.from.result c.requires.few low high c.requires.bounded in
          let is : to_z w128 (of_z w128 (to_z w128 (of_z w128 sum) +ℤ to_z w128 (of_z w128 w.from.result))) ≡ sum +ℤ w.from.result =
          ap (λ a. to_z w128 (of_z w128 (a +ℤ to_z w128 (of_z w128 w.from.result)))) (to_z-of_z g)
          ∙ (ap (λ b. to_z w128 (of_z w128 (sum +ℤ b))) (to_z-of_z h) ∙ to_z-of_z k) in
          subst So (sym w.self-is)
          (subst (λ z. IsBounded (record { fed = c.args.self.now.fed + 1; errors = c.args.self.now.errors; sum = z })) (sym is)
          (bounded_number c.args.self.now w.from.result c.requires.few low high c.requires.bounded))
      | else-self-lines+then-self-ge-FIRST+then-is_error w ↦ subst So (sym w.self-is) (bounded_error c.args.self.now c.requires.few c.requires.bounded)
      | else-self-lines+else-self-ge-FIRST w ↦ subst So (sym w.self-is) (bounded_still c.args.self.now c.requires.few c.requires.bounded)
    ]
