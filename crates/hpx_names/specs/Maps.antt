-- What calls on name services are answered, as functions of the whole list of calls before, the latest first.
use Rattle.std.specs.Prelude.{ℕ, pos, Bool, true, false, nat_le, List, [], ◌∷◌, ◌++◌, ◌==◌, ◌&&◌, ◌||◌, Option, Some, None, codes, length, if◌then◌else◌}
use Rattle.std.specs.Str.{bytes_eq}
use Rattle.hpx_calls.specs.Values.{Sort, Look, Int, Ints}
use Rattle.hpx_calls.specs.declared.request.Request.{Request}
use Rattle.hpx_calls.specs.declared.request.Request.TheVariants.{Register, Unregister}
use Rattle.hpx_calls.specs.Contents.{precedes}
use Rattle.hpx_calls.specs.Histories.{Call}

-- ---- one ordered map from keys to objects

-- whether a key is there
abbrev pub has : List ℕ → List (List ℕ) → Bool
has key [] = false
has key (k ∷ ks) = bytes_eq key k || has key ks

-- the keys with one more, at its place in the order of their bytes
abbrev pub with_key : List ℕ → List (List ℕ) → List (List ℕ)
with_key key [] = key ∷ []
with_key key (k ∷ ks) = if precedes key k then key ∷ k ∷ ks else k ∷ with_key key ks

-- the keys without one
abbrev pub without_key : List ℕ → List (List ℕ) → List (List ℕ)
without_key key [] = []
without_key key (k ∷ ks) = if bytes_eq key k then ks else k ∷ without_key key ks

-- a REGISTER of a new key adds it, while there are fewer than 100
abbrev pub keys_after : {V : Type 0} → Request V → List (List ℕ) → List (List ℕ)
keys_after (Register key to) ks = if has key ks then ks else if length ks == 100 then ks else with_key key ks
keys_after (Unregister key) ks = without_key key ks
keys_after _ ks = ks

-- the keys after calls, in order
abbrev pub keys : {V W : Type 0} → List (Call V W) → List (List ℕ)
keys [] = []
keys (c ∷ h) = keys_after c.request (keys h)

-- what a key stands for after a call that finds so many keys
abbrev pub stands_after : {V : Type 0} → Request V → List ℕ → ℕ → Option V → Option V
stands_after (Register key to) at many (Some old) = Some old
stands_after (Register key to) at many None = if bytes_eq at key then (if many == 100 then None else Some to) else None
stands_after (Unregister key) at many o = if bytes_eq at key then None else o
stands_after _ at many o = o

-- the object that a key stands for after calls, if it stands for one
abbrev pub stands_for : {V W : Type 0} → List (Call V W) → List ℕ → Option V
stands_for [] at = None
stands_for (c ∷ h) at = stands_after c.request at (length (keys h)) (stands_for h at)

-- whether each key comes before the next, and after this one
abbrev pub in_order_from : List ℕ → List (List ℕ) → Bool
in_order_from key [] = true
in_order_from key (k ∷ ks) = precedes key k && in_order_from k ks

-- whether the keys stand in order, none twice
abbrev pub in_order : List (List ℕ) → Bool
in_order [] = true
in_order (k ∷ ks) = in_order_from k ks

-- the keys as one text, one space between
abbrev pub spaced : List (List ℕ) → List ℕ
spaced [] = []
spaced (k ∷ []) = k
spaced (k ∷ j ∷ ks) = k ++ 32 ∷ spaced (j ∷ ks)

-- REGISTER: Taken before Full
abbrev pub register_answer : {V : Type 0} → Sort V → Option V → ℕ → V
register_answer k (Some old) many = k.fault 2
register_answer k None many = if many == 100 then k.fault 10 else k.nothing

-- RESOLVE: the object, or NoName
abbrev pub resolve_answer : {V : Type 0} → Sort V → Option V → V
resolve_answer k None = k.fault 3
resolve_answer k (Some to) = to

-- UNREGISTER: Unit, or NoName
abbrev pub unregister_answer : {V : Type 0} → Sort V → Option V → V
unregister_answer k None = k.fault 3
unregister_answer k (Some to) = k.nothing

-- ---- the namespace of components

-- no values
abbrev pub is_empty : {V : Type 0} → List V → Bool
is_empty [] = true
is_empty (v ∷ vs) = false

-- a number from 1 to so many
abbrev pub is_within : ℕ → Look → Bool
is_within most (Int (pos n)) = nat_le 1 n && nat_le n most
is_within most _ = false

-- from 1 to 1,024 numbers
abbrev pub is_row : Look → Bool
is_row (Ints numbers) = nat_le 1 (length numbers) && nat_le (length numbers) 1024
is_row _ = false

-- one value that is such
abbrev pub is_one : {V : Type 0} → Sort V → (Look → Bool) → List V → Bool
is_one k f (v ∷ []) = f (k.look v)
is_one k f _ = false

-- whether the values are those of the kind under a name; None where no kind has it
abbrev pub shape_under : {V : Type 0} → Sort V → List ℕ → List V → Option Bool
shape_under k name vs =
    if bytes_eq name (codes "accumulator") then Some (is_empty vs)
    else if bytes_eq name (codes "partition") then Some (is_one k is_row vs)
    else if bytes_eq name (codes "promise") then Some (is_empty vs)
    else if bytes_eq name (codes "channel") then Some (is_empty vs)
    else if bytes_eq name (codes "latch") then Some (is_one k (is_within 1000000) vs)
    else if bytes_eq name (codes "barrier") then Some (is_one k (is_within 100) vs)
    else None

-- NEW is answered the id of the object that is made, NoAction or NoKind
abbrev pub new_answer : {V : Type 0} → Sort V → V → Option Bool → V
new_answer k made None = k.fault 4
new_answer k made (Some false) = k.fault 11
new_answer k made (Some true) = made
