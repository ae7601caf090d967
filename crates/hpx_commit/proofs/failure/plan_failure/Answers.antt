use Rattle.std.proofs.Common.{ℕ, List, ◌≡◌, ◌++◌, ◌+◌, ◌-◌, length, take, drop, ap, ◌∙◌, arith}
use Rattle.std.specs.List.{filter}
use Rattle.std.proofs.lemmas.List.{take_rest}
use Rattle.hpx_value.specs.Ids.{Id}
use Rattle.hpx_value.specs.declared.value.Cont.{Cont}
use Rattle.std.specs.Prelude.{Option}
use Rattle.hpx_commit.specs.Deals.{is_managed}
use Rattle.hpx_commit.specs.Failures.{unanswered}
use Rattle.hpx_commit.proofs.failure.plan_failure.Goals as goal

-- the parts of the ids, by the ends that the code computes
parts : (ids : List Id) (cont : Option Cont) (a b makes n m : ℕ) → a ≡ n → b ≡ m
    → filter is_managed (unanswered (take (a + b - a) (drop a ids)) cont ++ drop (a + b + makes) ids)
    ≡ filter is_managed (unanswered (take m (drop n ids)) cont ++ drop (n + m + makes) ids)
parts ids cont a b makes n m e f =
    let size : a + b - a ≡ m = omega (arith, e, f) in
    let last : a + b + makes ≡ n + m + makes = omega (arith, e, f) in
    ap (λ k. filter is_managed (unanswered (take k (drop a ids)) cont ++ drop (a + b + makes) ids)) size
    ∙ (ap (λ k. filter is_managed (unanswered (take m (drop k ids)) cont ++ drop (a + b + makes) ids)) e
    ∙ ap (λ k. filter is_managed (unanswered (take m (drop n ids)) cont ++ drop k ids)) last)

pub returns-clause-ups : goal.returns-clause-ups
returns-clause-ups c =
    let ids = c.args.ids.now in
    let cont = c.args.action.now.cont in
    let a = c.len-first.result in
    let b = c.len.result in
    let last = c.len-first.result + c.len.result + c.args.makes in
    c.in_ok-ups.ensures
    ∙ (ap (λ zs. filter is_managed (unanswered (take (a + b - a) (drop a ids)) cont ++ zs)) (take_rest ids last)
    ∙ parts ids cont a b c.args.makes (length c.args.state.now.ids) (length c.args.action.now.ids) c.len-first.ensures c.len.ensures)
