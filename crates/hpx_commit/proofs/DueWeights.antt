-- What is due, in the weight of the entries that it takes.
use Rattle.std.proofs.Common.{ℕ, Bool, true, false, cond, codes, List, [], ◌∷◌, ◌++◌, ◌≡◌, ◌+◌, ◌*◌, ◌≤◌, ◌==◌, Option, Some, None, map, length, refl, arith}
use Rattle.std.specs.List.{AllByRecursion, sum_by}
use Rattle.std.proofs.lemmas.List.Sums.{sum_by-append, sum_by-cons}
use Rattle.hpx_value.specs.Ids.{Id}
use Rattle.hpx_value.specs.Hands.{id_at, slot_at, answer, sent}
use Rattle.hpx_value.specs.Riders.{due_with, rode}
use Rattle.hpx_value.specs.declared.value.Value.TheVariants.{Fault}
use Rattle.hpx_commit.specs.Failures.{due_failed}
use Rattle.hpx_commit.proofs.Common.{Cont, State, Act, Message, Outcome, Due, MessageDue, PrintDue}

-- what is due, in the weight of its entries
abbrev pub due_weight : Due → ℕ
due_weight (MessageDue m) = 64
due_weight (PrintDue bytes) = 64 + length bytes

messages_light : {X : Type 0} (make : X → Message) (xs : List X) → sum_by due_weight (map (λ x. MessageDue (make x)) xs) ≡ 64 * length xs
messages_light make [] = refl
messages_light make (x ∷ xs) =
    omega (arith, sum_by-cons due_weight (MessageDue (make x)) (map (λ y. MessageDue (make y)) xs), messages_light make xs)

prints_light : (xs : List (List ℕ)) → AllByRecursion (λ bytes. length bytes ≤ 16384) xs → sum_by due_weight (map PrintDue xs) ≤ 16448 * length xs
prints_light [] h = omega arith
prints_light (x ∷ xs) h = omega (arith, sum_by-cons due_weight (PrintDue x) (map PrintDue xs), prints_light xs h.1, h.0)

pub light_due : (s : State) (a : Act) (made : List Id) (out : Outcome) → length out.sends ≤ 32 → length out.replies ≤ 129 → length out.prints ≤ 16
    → AllByRecursion (λ bytes. length bytes ≤ 16384) out.prints → sum_by due_weight (due_with s a made out) ≤ 273472
light_due s a made out h i j short =
    omega (
      arith,
      sum_by-append due_weight (map (λ x. MessageDue (sent s a made x)) out.sends) (map (λ x. MessageDue (rode s a made out x)) out.replies ++ map PrintDue out.prints),
      sum_by-append due_weight (map (λ x. MessageDue (rode s a made out x)) out.replies) (map PrintDue out.prints),
      messages_light (sent s a made) out.sends,
      messages_light (rode s a made out) out.replies,
      prints_light out.prints short,
    )

print_light : (b : Bool) → sum_by due_weight (cond b (PrintDue (codes "error: credit limit\n") ∷ []) []) ≤ 128
print_light true = omega arith
print_light false = omega arith

pub failed_light : (ids : List Id) (cont : Option Cont) → sum_by due_weight (due_failed ids cont) ≤ 192
failed_light ids None = omega (arith, print_light ((id_at ids 0).kind == 1))
failed_light ids (Some c) = omega (
  arith,
  sum_by-cons due_weight (MessageDue (answer [] (slot_at ids c) (Fault 5))) (cond ((id_at ids 0).kind == 1) (PrintDue (codes "error: credit limit\n") ∷ []) []),
  print_light ((id_at ids 0).kind == 1),
)
