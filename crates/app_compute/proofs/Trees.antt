-- What is still to be done for a slot, as a tree. The pool is such a tree, and each action rewrites it in one place and
-- keeps its value.
use Rattle.std.specs.Prelude.{ℕ, zero, suc, Bool, true, false, cond, List, [], ◌∷◌, ◌++◌, ◌≡◌, ◌≢◌, ◌+◌, ◌<◌, ◌≤◌, ◌||◌, ◌⊎◌, Option, Some, None, refl}
use Rattle.std.specs.List.{AllByRecursion, list_any}
use Rattle.std.proofs.Common.{ap, ◌∙◌, arith, inl, inr}
use Rattle.std.proofs.lemmas.Bool.{cases_Bool}
use Rattle.hpx_value.specs.Ids.{Id, same_object}
use Rattle.hpx_value.specs.declared.value.Message.{Message}
use Rattle.hpx_value.specs.Hands.{Slot}
use Rattle.hpx_journal.specs.Pool.{moves_to}
use Rattle.hpx_journal.proofs.Same.{same_object-from, same_object-refl, same_object-true}
use Rattle.hpx_journal.proofs.SameMessage.{same_message, same_message-true}
use Rattle.app_compute.specs.Types.{State}
use Rattle.app_compute.specs.Numbers.{fibonacci}
use Rattle.app_compute.proofs.Does.{slot_of, fib_message, sum_message, get_message, set_message, kept_slots, flow}

pub data Tree : Type 0 where
  Got : (v : ℕ) → Tree  -- the answer has come
  Set : (v : ℕ) → Tree  -- the answer is sent
  Calc : (m : ℕ) → (k : ℕ) → Tree  -- FIB is sent to k
  Sum : (v : ℕ) → (w : ℕ) → (k : ℕ) → Tree  -- SUM is sent to k
  Node : (o : Id) → (kept : Bool) → (late : Bool) → (l : Tree) → (r : Tree) → Tree  -- a dataflow; kept: its GET has come

abbrev pub value : Tree → ℕ
value (Got v) = v
value (Set v) = v
value (Calc m k) = fibonacci m
value (Sum v w k) = v + w
value (Node o kept late l r) = value l + value r

-- what has come for the slot
abbrev pub input : Tree → Option ℕ
input (Got v) = Some v
input _ = None

abbrev pub asked : Bool → Id → Slot → List Message
asked true o x = []
asked false o x = get_message o x ∷ []

-- the messages that are pending for slot x, where the threshold is t
abbrev pub sent : ℕ → Slot → Tree → List Message
sent t x (Got v) = []
sent t x (Set v) = set_message x v ∷ []
sent t x (Calc m k) = fib_message t m k x ∷ []
sent t x (Sum v w k) = sum_message v w k x ∷ []
sent t x (Node o kept late l r) = asked kept o x ++ (sent t (slot_of o 0) l ++ sent t (slot_of o 1) r)

abbrev pub own : Id → Id → ℕ
own u o = cond (same_object u o) 1 0

abbrev pub occurs : Id → Tree → ℕ
occurs u (Node o kept late l r) = own u o + (occurs u l + occurs u r)
occurs u _ = 0

-- the dataflows hold what the tree says, at places that there are
abbrev pub Stands : ℕ → Slot → Tree → (Id → Option State) → (Id → ℕ) → Type 0
Stands n x (Node o kept late l r) f pl =
    (o.kind ≡ 33) × (pl o < n) × (f o ≡ Some (flow late (input l) (input r) (kept_slots kept x))) × Stands n (slot_of o 0) l f pl × Stands n (slot_of o 1) r f pl
Stands n x _ f pl = Unit {0}

-- something is left to come at each dataflow where somebody waits
abbrev pub IsOpen : Bool → Option ℕ → Option ℕ → Type 0
IsOpen true (Some v) (Some w) = ⊥
IsOpen _ _ _ = Unit {0}

-- numbers are up to 92, and actions go to localities that there are
abbrev pub Fits : ℕ → Tree → Type 0
Fits n (Calc m k) = (m ≤ 92) × (k < n)
Fits n (Sum v w k) = k < n
Fits n (Node o kept late l r) = IsOpen kept (input l) (input r) × Fits n l × Fits n r
Fits n _ = Unit {0}

-- ---- small facts

pub some_same : {X : Type 0} (x y : X) → Some x ≡ Some y → x ≡ y
some_same x y h = cc

pub some_none : {X : Type 0} (x : X) → Some x ≡ None → ⊥
some_none x h = cc

pub or_cases : (a b : Bool) → (a || b) ≡ true → (a ≡ true) ⊎ (b ≡ true)
or_cases true b h = inl refl
or_cases false b h = inr h

or_false : (b : Bool) → (b || false) ≡ true → b ≡ true
or_false true h = refl
or_false false h = h

pub kind_same : (a b : Id) → same_object a b ≡ true → a.kind ≡ b.kind
kind_same a b h = ap (λ (v : Id). v.kind) (same_object-true a b h)

pub kind_apart : (a b : Id) → a.kind ≢ b.kind → same_object a b ≡ false
kind_apart a b h = elim (cases_Bool (same_object a b)) [
  | inl e ↦ absurd (h (kind_same a b e))
  | inr e ↦ e
]

pub only_message : (m x : Message) → list_any (same_message m) (x ∷ []) ≡ true → m ≡ x
only_message m x h = same_message-true m x (or_false (same_message m x) h)

pub own_one : (u o : Id) → same_object u o ≡ true → own u o ≡ 1
own_one u o e = rw e refl

pub own_self : (o : Id) → own o o ≡ 1
own_self o = own_one o o (same_object-refl o)

pub own_none : (u o : Id) → same_object u o ≡ false → own u o ≡ 0
own_none u o e = rw e refl

-- what is the same object occurs as often
pub occurs_same : (u w : Id) → same_object u w ≡ true → (T : Tree) → occurs u T ≡ occurs w T
occurs_same u w e (Node o kept late l r) =
    let a : own u o ≡ own w o = ap (λ b. cond b 1 0) (same_object-from u w o e) in
    let b = occurs_same u w e l in
    let d = occurs_same u w e r in
    omega arith
occurs_same u w e (Got v) = refl
occurs_same u w e (Set v) = refl
occurs_same u w e (Calc m k) = refl
occurs_same u w e (Sum v w' k) = refl

pub stands_other : (n : ℕ) (T : Tree) (x : Slot) (f g : Id → Option State) (pl pl' : Id → ℕ) → ((u : Id) → pl u < n → pl' u < n)
    → ((u : Id) → 1 ≤ occurs u T → (s : State) → f u ≡ Some s → g u ≡ Some s) → Stands n x T f pl → Stands n x T g pl'
stands_other n (Node o kept late l r) x f g pl pl' low same h =
    let one = own_self o in (
      h.0,
      low o h.1,
      same o (omega arith) (flow late (input l) (input r) (kept_slots kept x)) h.2,
      stands_other n l (slot_of o 0) f g pl pl' low (λ u i s e. same u (omega arith) s e) h.3,
      stands_other n r (slot_of o 1) f g pl pl' low (λ u i s e. same u (omega arith) s e) h.4,
    )
stands_other n (Got v) x f g pl pl' low same h = tt
stands_other n (Set v) x f g pl pl' low same h = tt
stands_other n (Calc m k) x f g pl pl' low same h = tt
stands_other n (Sum v w k) x f g pl pl' low same h = tt

-- an object of a tree stands, and is a dataflow
pub record IsThere (f : Id → Option State) (u : Id) : Type 0 where
  pub kind : u.kind ≡ 33
  pub state : State
  pub is : f u ≡ Some state

pub tree_there : (n : ℕ) (T : Tree) (x : Slot) (f : Id → Option State) (pl : Id → ℕ) → ((a b : Id) → same_object a b ≡ true → f a ≡ f b)
    → (u : Id) → Stands n x T f pl → 1 ≤ occurs u T → IsThere f u
tree_there n (Node o kept late l r) x f pl alike u h i =
    elim (cases_Bool (same_object u o)) [
      | inl e ↦ record { kind = kind_same u o e ∙ h.0; state = flow late (input l) (input r) (kept_slots kept x); is = alike u o e ∙ h.2 }
      | inr e ↦
          let none = own_none u o e in
          below (occurs u l) (occurs u r) (omega arith) (λ j. tree_there n l (slot_of o 0) f pl alike u h.3 j) (λ j. tree_there n r (slot_of o 1) f pl alike u h.4 j)
    ]
  where
    below : (j k : ℕ) → 1 ≤ j + k → (1 ≤ j → IsThere f u) → (1 ≤ k → IsThere f u) → IsThere f u
    below zero k some first second = second (omega arith)
    below (suc j) k some first second = first (omega arith)
tree_there n (Got v) x f pl alike u h i = absurd (omega arith)
tree_there n (Set v) x f pl alike u h i = absurd (omega arith)
tree_there n (Calc m k) x f pl alike u h i = absurd (omega arith)
tree_there n (Sum v w k) x f pl alike u h i = absurd (omega arith)

-- none of the messages is a MOVE
pub none_moves : (t : ℕ) (x : Slot) (T : Tree) → AllByRecursion (λ m. moves_to m ≡ None) (sent t x T)
none_moves t x (Got v) = tt
none_moves t x (Set v) = (refl, tt)
none_moves t x (Calc m k) = (refl, tt)
none_moves t x (Sum v w k) = (refl, tt)
none_moves t x (Node o kept late l r) = all_append (asked kept o x) _ (first kept) (all_append (sent t (slot_of o 0) l) _ (none_moves t (slot_of o 0) l) (none_moves t (slot_of o 1) r))
  where
    all_append : (xs ys : List Message) → AllByRecursion (λ m. moves_to m ≡ None) xs → AllByRecursion (λ m. moves_to m ≡ None) ys → AllByRecursion (λ m. moves_to m ≡ None) (xs ++ ys)
    all_append [] ys h k = k
    all_append (y ∷ xs) ys h k = (h.0, all_append xs ys h.1 k)

    first : (kept : Bool) → AllByRecursion (λ m. moves_to m ≡ None) (asked kept o x)
    first true = tt
    first false = (refl, tt)
