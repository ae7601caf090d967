-- A commit that was prepared is within its limits.
use Rattle.hpx_node.proofs.Common.{AllByRecursion, Birth, Due, HasCredit, Id, IsBirth, IsFitDue, IsFitJob, IsPrepared, IsStock, Job, KeepsLaws, List, Outcome, Prepared, Tables, birth_of, due_dealt, length, map, plain, seen, state_dealt, subst, sym, unnamed, ◌≡◌, ◌≤◌}
use Rattle.hpx_node.proofs.Planned.{made_fit, planned_of}
use Rattle.hpx_node.proofs.PlanLimits.{makes_few, cuts_limit}
use Rattle.hpx_node.proofs.PlanRoom.{commit_few, commit_light}

pub prepared_so : (t : Tables) (job : Job) (out : Outcome) → IsFitJob (seen job) → t.localities ≤ 64
    → KeepsLaws t.localities job.kind job.at job.state (plain job.action) out → (p : Prepared) → p.births.items ≡ map birth_of out.makes → IsStock t (seen job) out p.stock
    → p.plan.state ≡ state_dealt t (seen job) out p.stock → p.plan.due.items ≡ due_dealt t (seen job) out p.stock → p.plan.ups.items ≡ unnamed p.stock.hand p.stock.places
    → IsPrepared t job out p
prepared_so t job out fit few laws p births stock state due ups = let plan = planned_of t (seen job) out fit few laws p.stock stock in record {
  births = births;
  stock = stock;
  state_left = state;
  due_left = due;
  ups_left = ups;
  limits = record {
    fit = subst (AllByRecursion IsBirth) (sym births) (made_fit t (seen job) out fit few laws);
    due_fit = subst (AllByRecursion IsFitDue) (sym due) plan.due_may;
    ups_fit = subst (AllByRecursion HasCredit) (sym ups) plan.ups_has;
    births = subst (λ (ys : List Birth). length ys ≤ 32) (sym births) (makes_few t (seen job) out fit few laws);
    cuts = cuts_limit t (seen job) out fit few laws p.stock stock;
    due = subst (λ (ds : List Due). length ds ≤ 177) (sym due) plan.due_few;
    ups = subst (λ (us : List Id). length us ≤ 194) (sym ups) plan.ups_few;
    entries = commit_few t job out fit few laws p.stock stock;
    light = commit_light t job out fit few laws p.stock stock t.here;
  };
}
