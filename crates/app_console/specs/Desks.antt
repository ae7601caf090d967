-- What the session keeps, over any sort of values: names and awaited answers, and how they are laid out.
use Rattle.std.specs.Prelude.{ℕ, ℤ, pos, negsuc, Bool, true, nat_le, List, [], ◌∷◌, ◌++◌, ◌+◌, ◌==◌, ◌&&◌, Option, Some, None, length, if◌then◌else◌}
use Rattle.std.specs.Str.{bytes_eq}
use Rattle.hpx_calls.specs.Values.{Nothing, Int, Text, Ref, Look, Sort}
use Rattle.app_console.specs.Types.{Naming, What, NotSaid, Told, Released, Bound, Await, Desk, Status, Unknown, Pending, Stands}

-- ---- names

abbrev pub seek : {V : Type 0} → List ℕ → List (Naming V) → Option V
seek name [] = None
seek name (x ∷ xs) = if bytes_eq name x.name then x.to else seek name xs

abbrev pub status_by : {V : Type 0} → (V → ℕ) → Option V → Status
status_by kind None = Pending
status_by kind (Some v) = Stands (kind v)

-- what a name is, where each object shows its kind
abbrev pub status_in : {V : Type 0} → (V → ℕ) → List (Naming V) → List ℕ → Status
status_in kind [] name = Unknown
status_in kind (x ∷ xs) name = if bytes_eq name x.name then status_by kind x.to else status_in kind xs name

abbrev pub without : {V : Type 0} → List ℕ → List (Naming V) → List (Naming V)
without name [] = []
without name (x ∷ xs) = if bytes_eq name x.name then xs else x ∷ without name xs

-- a name that is pending
abbrev pub opened : {V : Type 0} → What → List (Naming V) → List (Naming V)
opened (Bound name) xs = xs ++ record { name = name; to = None } ∷ []
opened _ xs = xs

-- a name whose object has come stands last; a fault ends it
abbrev pub bound : {V : Type 0} → Sort V → Look → List ℕ → V → List (Naming V) → List (Naming V)
bound k (Ref r) name v xs = without name xs ++ record { name = name; to = Some v } ∷ []
bound k _ name v xs = without name xs

abbrev pub answered : {V : Type 0} → Sort V → What → V → List (Naming V) → List (Naming V)
answered k (Bound name) v xs = bound k (k.look v) name v xs
answered k _ v xs = xs

-- ---- answers

abbrev pub held_at : ℕ → List Await → Option What
held_at slot [] = None
held_at slot (x ∷ xs) = if slot == x.slot then Some x.what else held_at slot xs

abbrev pub erased : ℕ → List Await → List Await
erased slot [] = []
erased slot (x ∷ xs) = if slot == x.slot then xs else x ∷ erased slot xs

-- ---- the layout

abbrev pub to_out : {V : Type 0} → Sort V → Option V → V
to_out k None = k.nothing
to_out k (Some v) = v

abbrev pub what_out : {V : Type 0} → Sort V → What → V
what_out k NotSaid = k.int (pos 0)
what_out k Told = k.int (pos 1)
what_out k Released = k.int (pos 2)
what_out k (Bound name) = k.text name

abbrev pub awaits_out : {V : Type 0} → Sort V → List Await → List V
awaits_out k [] = []
awaits_out k (x ∷ xs) = k.int (pos x.slot) ∷ what_out k x.what ∷ awaits_out k xs

abbrev pub names_out : {V : Type 0} → Sort V → List (Naming V) → List V → List V
names_out k [] vs = vs
names_out k (x ∷ xs) vs = k.text x.name ∷ to_out k x.to ∷ names_out k xs vs

abbrev pub desk_out : {V : Type 0} → Sort V → Desk V → List V
desk_out k d = names_out k d.names (awaits_out k d.awaits)

-- ---- what values show

-- a slot: a number of 32 bits
abbrev pub slot_in : ℤ → Option ℕ
slot_in (pos n) = if nat_le n 4294967295 then Some n else None
slot_in (negsuc n) = None

-- a name, or none, as the object of a console without names has
abbrev pub fits_name : List ℕ → Bool
fits_name name = nat_le (length name) 32

abbrev pub what_in : Look → Option What
what_in (Int (pos n)) = if n == 0 then Some NotSaid else if n == 1 then Some Told else if n == 2 then Some Released else None
what_in (Text name) = if fits_name name then Some (Bound name) else None
what_in _ = None

abbrev pub await_by : Option ℕ → Option What → Option (List Await) → Option (List Await)
await_by (Some slot) (Some what) (Some xs) = Some (record { slot = slot; what = what } ∷ xs)
await_by _ _ _ = None

abbrev pub await_at : Look → Look → Option (List Await) → Option (List Await)
await_at (Int z) l xs = await_by (slot_in z) (what_in l) xs
await_at _ l xs = None

abbrev pub awaits_in : {V : Type 0} → Sort V → List V → Option (List Await)
awaits_in k [] = Some []
awaits_in k (v ∷ []) = None
awaits_in k (v ∷ w ∷ vs) = await_at (k.look v) (k.look w) (awaits_in k vs)

abbrev pub desk_of : {V : Type 0} → Option (List Await) → Option (Desk V)
desk_of None = None
desk_of (Some xs) = Some (record { names = []; awaits = xs })

-- what a name stands for, as a value shows it
abbrev pub to_in : {V : Type 0} → Look → V → Option (Option V)
to_in Nothing v = Some None
to_in (Ref r) v = Some (Some v)
to_in _ v = None

abbrev pub named_by : {V : Type 0} → Bool → List ℕ → Option (Option V) → Option (Desk V) → Option (Desk V)
named_by true name (Some to) (Some d) = Some (record { names = record { name = name; to = to } ∷ d.names; awaits = d.awaits })
named_by _ name _ _ = None

-- names come first, and then the answers
abbrev pub desk_by : {V : Type 0} → Sort V → Look → V → V → Option (Desk V) → Option (List Await) → Option (Desk V)
desk_by k (Text name) v w d xs = named_by (fits_name name) name (to_in (k.look w) w) d
desk_by k l v w d xs = desk_of xs

abbrev pub desk_in : {V : Type 0} → Sort V → List V → Option (Desk V)
desk_in k [] = Some (record { names = []; awaits = [] })
desk_in k (v ∷ []) = None
desk_in k (v ∷ w ∷ vs) = desk_by k (k.look v) v w (desk_in k vs) (awaits_in k (v ∷ w ∷ vs))

-- at most 100 names and 100 answers
abbrev pub within : {V : Type 0} → Option (Desk V) → Option (Desk V)
within None = None
within (Some d) = if nat_le (length d.names) 100 && nat_le (length d.awaits) 100 then Some d else None

-- what values show, if they are those of a session
abbrev pub desk_shown : {V : Type 0} → Sort V → List V → Option (Desk V)
desk_shown k vs = within (desk_in k vs)

-- ---- what is read, piece by piece

-- answers that were read before others
abbrev pub awaits_before : List Await → Option (List Await) → Option (List Await)
awaits_before xs None = None
awaits_before xs (Some ys) = Some (xs ++ ys)

-- names that were read before others
abbrev pub names_before : {V : Type 0} → List (Naming V) → Option (Desk V) → Option (Desk V)
names_before xs None = None
names_before xs (Some d) = Some (record { names = xs ++ d.names; awaits = d.awaits })

-- ---- places in lists

-- one more than a number, if there is one
abbrev pub after : Option ℕ → Option ℕ
after None = None
after (Some i) = Some (i + 1)

-- where a name stands among names
abbrev pub index_named : {V : Type 0} → List ℕ → List (Naming V) → Option ℕ
index_named name [] = None
index_named name (x ∷ xs) = if bytes_eq name x.name then Some 0 else after (index_named name xs)

-- where a slot stands among awaited answers
abbrev pub index_awaited : ℕ → List Await → Option ℕ
index_awaited slot [] = None
index_awaited slot (x ∷ xs) = if slot == x.slot then Some 0 else after (index_awaited slot xs)
