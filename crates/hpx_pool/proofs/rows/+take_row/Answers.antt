use Rattle.std.proofs.Common.{rules, ap, ◌∙◌}
use Rattle.std.proofs.lemmas.List.{places}
use Rattle.hpx_pool.proofs.Steps.{take_here, take_later, loot_here}
use Rattle.hpx_pool.proofs.rows.+take_row.Goals as goal

pub returns-then-is_empty-clause-some : goal.returns-then-is_empty-clause-some
returns-then-is_empty-clause-some t c = rw c.in_ok-hands.ensures.cases.0 (take_later (λ v. v.items) _ _ _ _ _ _ _ _ _ (search (rules, places)) c.take_row.ensures.some)

pub returns-clause-some : goal.returns-clause-some
returns-clause-some t c =
    let after = ap (λ v. v.items) c.replace.ensures.after ∙ c.new.ensures.items in
    rw c.in_ok-hands.ensures.cases.0 (
      take_here _ _ _ _ _ _ (ap (λ v. v.items) c.replace.ensures.value) after (search (rules, places)),
      loot_here _ _ _ _ _ (ap (λ v. v.items) c.replace.ensures.value) after,
    )
