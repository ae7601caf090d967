-- What calls on a dataflow are told, as functions of the whole list of calls before, the latest first.
use Rattle.std.specs.Prelude.{ℕ, zero, suc, ℤ, pos, negsuc, Bool, true, nat_le, nat_lt, List, [], ◌∷◌, ◌++◌, ◌+◌, ◌==◌, ◌&&◌, Option, Some, None, is_some, length, if◌then◌else◌}
use Rattle.hpx_calls.specs.Values.{Sort, size}
use Rattle.hpx_calls.specs.declared.request.Request.{Request}
use Rattle.hpx_calls.specs.declared.request.Request.TheVariants.{Set, PutAt}
use Rattle.hpx_calls.specs.declared.content.Content.{Content}
use Rattle.hpx_calls.specs.Tables.{or_nothing}
use Rattle.hpx_calls.specs.Histories.{Setting, Call, Told, Answered, Begun, own, begun, says}
use Rattle.hpx_lco.specs.Answered.{or_else, gets}

-- ---- the values of the inputs

-- a value for an input, if the number is the one of the input
abbrev pub given_at : {V : Type 0} → ℕ → ℤ → V → Option V
given_at slot (pos n) v = if n == slot then Some v else None
given_at slot (negsuc n) v = None

-- the value that a call gives an input: SET or PUT with its number
abbrev pub giving : {V : Type 0} → ℕ → Request V → Option V
giving slot (Set z v) = given_at slot z v
giving slot (PutAt z v) = given_at slot z v
giving slot _ = None

-- how many bytes the value of an input takes, if there is one
abbrev pub size_at : {V : Type 0} → Sort V → Option V → ℕ
size_at k None = 0
size_at k (Some v) = size (k.look v)

-- how many bytes the values of so many inputs take, from one on
abbrev pub bytes_from : {V : Type 0} → Sort V → (ℕ → Option V) → ℕ → ℕ → ℕ
bytes_from k f slot zero = 0
bytes_from k f slot (suc n) = size_at k (f slot) + bytes_from k f (slot + 1) n

-- a value, or the fault Full where there would be more than 64,000 bytes with it
abbrev pub within : {V : Type 0} → Sort V → ℕ → Option V → Option V
within k bytes None = None
within k bytes (Some v) = Some (if nat_le (bytes + size (k.look v)) 64000 then v else k.fault 10)

-- the first value that was set or put for an input of n
abbrev pub value_of : {V W : Type 0} → Sort V → ℕ → List (Call V W) → ℕ → Option V
value_of k n [] slot = None
value_of k n (c ∷ h) slot = or_else (value_of k n h slot) (within k (bytes_from k (value_of k n h) 0 n) (giving slot c.request))

-- whether so many inputs from one on have values
abbrev pub all_from : {V : Type 0} → (ℕ → Option V) → ℕ → ℕ → Bool
all_from f slot zero = true
all_from f slot (suc n) = is_some (f slot) && all_from f (slot + 1) n

-- the values of so many inputs from one on
abbrev pub list_from : {V : Type 0} → Sort V → (ℕ → Option V) → ℕ → ℕ → List V
list_from k f slot zero = []
list_from k f slot (suc n) = or_nothing k (f slot) ∷ list_from k f (slot + 1) n

-- whether all n inputs have values
abbrev pub is_full : {V W : Type 0} → Sort V → ℕ → List (Call V W) → Bool
is_full k n h = all_from (value_of k n h) 0 n

-- whether there was a GET that had a continuation
abbrev pub has_get : {V W : Type 0} → List (Call V W) → Bool
has_get h = nat_le 1 (length (gets h))

-- ---- what calls are told

-- a value for an input: NoSlot, AlreadySet or Unit; with the last one the action starts for the one GET, if there was one
abbrev pub give_says : {V W : Type 0} → Sort V → ℕ → ℕ → List (Call V W) → Call V W → ℤ → List (Told V W)
give_says k code n h c (negsuc m) = own c.waiter (k.fault 7)
give_says k code n h c (pos slot) =
    if nat_lt slot n then
    (if is_some (value_of k n h slot) then own c.waiter (k.fault 6)
    else if is_full k n (c ∷ h) then begun code (list_from k (value_of k n (c ∷ h)) 0 n) (gets h) ++ own c.waiter k.nothing
    else own c.waiter k.nothing)
    else own c.waiter (k.fault 7)

-- the first GET starts the action where all inputs have values, else it waits; the others are Spent
abbrev pub ask_says : {V W : Type 0} → Sort V → ℕ → ℕ → List (Call V W) → W → List (Told V W)
ask_says k code n h w =
    if has_get h then own (Some w) (k.fault 9)
    else if is_full k n h then Begun w code (list_from k (value_of k n h) 0 n) ∷ []
    else []

-- ---- the whole story

-- all that is told by calls, the oldest first
abbrev pub story : {V W : Type 0} → Setting V → Content V → List (Call V W) → List (Told V W)
story g x [] = []
story g x (c ∷ h) = story g x h ++ says g x h c

-- one action that starts, or none
abbrev pub start : {V W : Type 0} → Told V W → ℕ
start (Answered w v) = 0
start (Begun w code args) = 1

-- how many actions start in all
abbrev pub starts : {V W : Type 0} → List (Told V W) → ℕ
starts [] = 0
starts (t ∷ ts) = start t + starts ts
