-- Jobs and outcomes that are the same.
use Rattle.std.proofs.Common.{ℕ, ◌≡◌, sym, ap, ◌∙◌, subst}
use Rattle.hpx_value.specs.Laws.{KeepsLaws}
use Rattle.hpx_value.specs.declared.acts.Job.{Job}
use Rattle.hpx_commit.proofs.Common.{State, Act, Outcome}

-- the same job and outcome keep the laws, and are right
pub laws_by : (n m : ℕ) (job job' : Job) (out out' : Outcome) → n ≡ m → job ≡ job' → out ≡ out'
    → KeepsLaws n job.kind job.at job.state job.action out → KeepsLaws m job'.kind job'.at job'.state job'.action out'
laws_by n m job job' out out' here same done laws =
    subst (λ k. KeepsLaws k job'.kind job'.at job'.state job'.action out') here
    (subst (λ (x : Job). KeepsLaws n x.kind x.at x.state x.action out') same (subst (λ o. KeepsLaws n job.kind job.at job.state job.action o) done laws))

pub right_by : (act_of : ℕ → ℕ → ℕ → State → Act → Outcome) (n m : ℕ) (job job' : Job) (out out' : Outcome) → n ≡ m → job ≡ job' → out ≡ out'
    → out ≡ act_of n job.kind job.at job.state job.action → out' ≡ act_of m job'.kind job'.at job'.state job'.action
right_by act_of n m job job' out out' here same done right =
    sym done
    ∙ (right ∙ (ap (λ (x : Job). act_of n x.kind x.at x.state x.action) same
    ∙ ap (λ k. act_of k job'.kind job'.at job'.state job'.action) here))
