-- What an action leaves that fails has its credits, and it is little.
use Rattle.std.proofs.Common.{ℕ, Bool, true, false, cond, codes, List, [], ◌∷◌, ◌++◌, ◌≡◌, ◌≤◌, ◌==◌, Option, Some, None, map, length, refl, arith, lit≤}
use Rattle.std.specs.List.{AllByRecursion}
use Rattle.hpx_value.specs.Ids.{Id}
use Rattle.hpx_value.specs.Hands.{id_at, own_slot, answer}
use Rattle.hpx_value.specs.Shapes.{IsMessage}
use Rattle.hpx_value.specs.declared.value.Value.TheVariants.{Fault}
use Rattle.hpx_commit.specs.Failures.{action_ids, halves_ahead, due_failed, unanswered, ups_failed}
use Rattle.hpx_commit.proofs.Common.{Value, Cont, State, Act, Message, Due, MessageDue, PrintDue}
use Rattle.hpx_commit.proofs.Failed.{all_unanswered}
use Rattle.hpx_commit.proofs.HandFit.{all_append}
use Rattle.hpx_commit.proofs.Rights.{AreRight, right_at, managed_has, had_right}

print_few : (b : Bool) → length (cond b (PrintDue (codes "error: credit limit\n") ∷ []) []) ≤ 1
print_few true = lit≤ tt
print_few false = lit≤ tt

pub failed_few : (ids : List Id) (cont : Option Cont) → length (due_failed ids cont) ≤ 2
failed_few ids None = omega (arith, print_few ((id_at ids 0).kind == 1))
failed_few ids (Some c) = omega (arith, print_few ((id_at ids 0).kind == 1))

module _ (P Q : Id → Type 0) (are : AreRight P Q) where
  -- the answer and the print are as all that is well formed
  pub failed_fit : (M : List Id → List Value → Type 0) (D : Due → Type 0)
      → ((m : Message) → IsMessage m → AllByRecursion P m.ids → (m.code ≡ 1 → M m.ids m.args) → D (MessageDue m)) → ((bytes : List ℕ) → D (PrintDue bytes))
      → (ids : List Id) (cont : Option Cont) → AllByRecursion P ids → AllByRecursion D (due_failed ids cont)
  failed_fit M D message print ids cont h = all_append D (map (λ x. MessageDue (answer [] x (Fault 5))) (own_slot ids cont)) _ (answers cont) (prints _)
    where
      answers : (c : Option Cont) → AllByRecursion D (map (λ x. MessageDue (answer [] x (Fault 5))) (own_slot ids c))
      answers None = tt
      answers (Some c) = (
        message _ (record {
          values = record { few = lit≤ tt; each = (tt, ((lit≤ tt, lit≤ tt), tt)) };
          refs = tt;
          few_refs = lit≤ tt;
          cont = tt;
          ids = refl;
          short = lit≤ tt;
        }) (right_at P Q are ids c.place h, tt) (λ e. absurd (omega (arith, e))),
        tt,
      )

      prints : (b : Bool) → AllByRecursion D (cond b (PrintDue (codes "error: credit limit\n") ∷ []) [])
      prints true = (print (codes "error: credit limit\n"), tt)
      prints false = tt

  -- what is given up has its credit
  pub ups_have : (s : State) (a : Act) (makes : ℕ) (ids : List Id) → AllByRecursion P (action_ids s a ids) → AllByRecursion Q (halves_ahead s a makes ids)
      → AllByRecursion Q (ups_failed s a makes ids)
  ups_have s a makes ids action halves = managed_has P Q are (unanswered (action_ids s a ids) a.cont ++ halves_ahead s a makes ids)
      (all_append P (unanswered (action_ids s a ids) a.cont) (halves_ahead s a makes ids)
      (all_unanswered P (action_ids s a ids) a.cont action) (had_right P Q are (halves_ahead s a makes ids) halves))
