-- What objects hold, by kind, and how a state shows it.
use Rattle.std.specs.Prelude.{ℕ, ℤ, pos, negsuc, Bool, true, false, nat_le, nat_lt, List, [], ◌∷◌, ◌==◌, ◌+◌, ◌-◌, ◌&&◌, ◌||◌, Option, Some, None, length, if◌then◌else◌}
use Rattle.std.specs.List.{list_all}
use Rattle.hpx_calls.specs.Values.{Nothing, Flag, Int, Text, Ref, Fault, Ints, Look, Sort, size, is_small}
use Rattle.hpx_calls.specs.Requests.{is_key}
pub use Rattle.hpx_calls.specs.declared.content.Pair.{Pair}
pub use Rattle.hpx_calls.specs.declared.content.Given.{Given}
pub use Rattle.hpx_calls.specs.declared.content.Content.{Content}
pub use Rattle.hpx_calls.specs.declared.content.Content.TheVariants.{Table, Maker, Size, Number, Row, Promise, Dataflow, Started, Channel, Latch, Barrier, Unreadable}

-- ---- how a content is laid out in the values of a state

-- a key and its object, for each pair
abbrev pub pairs_out : {V : Type 0} → Sort V → List (Pair V) → List V
pairs_out k [] = []
pairs_out k (x ∷ xs) = k.text x.key ∷ x.to ∷ pairs_out k xs

-- the number of an input and its value, in the order in which they came
abbrev pub given_out : {V : Type 0} → Sort V → List (Given V) → List V
given_out k [] = []
given_out k (x ∷ xs) = k.int (pos x.slot) ∷ x.value ∷ given_out k xs

-- a value, or none
abbrev pub maybe_out : {V : Type 0} → Option V → List V
maybe_out None = []
maybe_out (Some v) = v ∷ []

-- the values of the state
abbrev pub layout : {V : Type 0} → Sort V → Content V → List V
layout k (Table pairs) = pairs_out k pairs
layout k Maker = []
layout k (Size n) = k.int (pos n) ∷ []
layout k (Number z) = k.int z ∷ []
layout k (Row numbers) = k.ints numbers ∷ []
layout k (Promise value) = maybe_out value
layout k (Dataflow code inputs given) = k.int (pos code) ∷ k.int (pos inputs) ∷ given_out k given
layout k (Started code inputs) = k.int (pos code) ∷ k.int (pos inputs) ∷ k.nothing ∷ []
layout k (Channel closed kept) = k.flag closed ∷ kept
layout k (Latch left) = k.int (pos left) ∷ []
layout k (Barrier n) = k.int (pos n) ∷ []
layout k (Unreadable values) = values

-- ---- the order of keys

-- bytes in the order of a lexicon
abbrev pub precedes : List ℕ → List ℕ → Bool
precedes [] [] = false
precedes [] (y ∷ ys) = true
precedes (x ∷ xs) [] = false
precedes (x ∷ xs) (y ∷ ys) = nat_lt x y || ((x == y) && precedes xs ys)

-- the keys that come after this one begin with a greater one, and so on
abbrev pub rises_from : {V : Type 0} → List ℕ → List (Pair V) → Bool
rises_from key [] = true
rises_from key (x ∷ xs) = precedes key x.key && rises_from x.key xs

-- each key is greater than the one before; no key is empty
abbrev pub rises : {V : Type 0} → List (Pair V) → Bool
rises xs = rises_from [] xs

-- ---- the bounds

-- at most 100 pairs with keys of at most 32 bytes, in the order of their keys
abbrev pub is_table : {V : Type 0} → List (Pair V) → Bool
is_table xs = nat_le (length xs) 100 && (list_all (λ (x : Pair _). is_key x.key) xs && rises xs)

-- how many bytes the values take that are kept for the inputs
abbrev pub given_size : {V : Type 0} → Sort V → List (Given V) → ℕ
given_size k [] = 0
given_size k (x ∷ xs) = size (k.look x.value) + given_size k xs

-- the value of an input
abbrev pub input_of : {V : Type 0} → ℕ → List (Given V) → Option V
input_of slot [] = None
input_of slot (x ∷ xs) = if x.slot == slot then Some x.value else input_of slot xs

-- there is none
abbrev pub is_none : {X : Type 0} → Option X → Bool
is_none None = true
is_none (Some x) = false

-- the inputs are below their number, and none is there twice
abbrev pub are_inputs : {V : Type 0} → ℕ → List (Given V) → Bool
are_inputs n [] = true
are_inputs n (x ∷ xs) = nat_lt x.slot n && (is_none (input_of x.slot xs) && are_inputs n xs)

-- a code that may be sent, and an input at least
abbrev pub is_dataflow : ℕ → ℕ → Bool
is_dataflow code inputs =
    nat_le 1 inputs && (if code == 1 then false else if code == 3 then false else if code == 4 then false else true)

-- the fault Full, which is kept in the stead of a value that was too long
abbrev pub is_full : Look → Bool
is_full (Fault code) = code == 10
is_full _ = false

-- how many of so many bytes are left with one value more, which fits or is the fault Full
abbrev pub room_after : ℕ → Look → Option ℕ
room_after room l = if is_full l then Some (room - 2) else if nat_le (size l) room then Some (room - size l) else None

-- each value, in the order in which they came, fits into the bytes that are left or is the fault Full
abbrev pub are_fitted : {V : Type 0} → Sort V → Option ℕ → List (Given V) → Bool
are_fitted k None xs = false
are_fitted k (Some room) [] = true
are_fitted k (Some room) (x ∷ xs) = are_fitted k (room_after room (k.look x.value)) xs

-- values for inputs within 64,000 bytes; a waiting answer is there only while an input lacks
abbrev pub is_given : {V : Type 0} → Sort V → ℕ → ℕ → List (Given V) → Bool
is_given k waiting inputs given =
    are_inputs inputs given && (are_fitted k (Some 64000) given
    && (nat_le (length given) inputs && (nat_le waiting 1 && ((waiting == 0) || nat_lt (length given) inputs))))

-- a channel where somebody waits is open and empty
abbrev pub is_channel : {V : Type 0} → Sort V → ℕ → Bool → List V → Bool
is_channel k waiting closed kept =
    nat_le waiting 100 && (nat_le (length kept) 1000 && (list_all (λ v. is_small (k.look v)) kept
    && ((waiting == 0) || (if closed then false else length kept == 0))))

-- a latch where somebody waits is above 0
abbrev pub is_latch : ℕ → ℕ → Bool
is_latch waiting left = nat_le waiting 100 && ((waiting == 0) || nat_le 1 left)

-- ---- what the values of a state show

-- a content, where a test holds
abbrev pub provided : {V : Type 0} → Bool → Content V → Option (Content V)
provided true x = Some x
provided false x = None

-- one more in front, where all are there
abbrev pub both : {X : Type 0} → Option X → Option (List X) → Option (List X)
both (Some x) (Some xs) = Some (x ∷ xs)
both _ _ = None

-- a key and a reference
abbrev pub pair_by : {V : Type 0} → Look → Look → V → Option (Pair V)
pair_by (Text key) (Ref r) to = Some (record { key = key; to = to })
pair_by a b to = None

-- a key and its reference, as two values show them
abbrev pub pair_of : {V : Type 0} → Sort V → V → V → Option (Pair V)
pair_of k v w = pair_by (k.look v) (k.look w) w

-- values that alternate between keys and references
abbrev pub pairs_in : {V : Type 0} → Sort V → List V → Option (List (Pair V))
pairs_in k [] = Some []
pairs_in k (v ∷ []) = None
pairs_in k (v ∷ w ∷ vs) = both (pair_of k v w) (pairs_in k vs)

-- a number up to so many
abbrev pub count_in : ℕ → ℤ → Option ℕ
count_in most (pos n) = if nat_le n most then Some n else None
count_in most (negsuc n) = None

-- the number of an input and a value; there are at most 16
abbrev pub given_at : {V : Type 0} → Option ℕ → V → Option (Given V)
given_at (Some slot) value = Some (record { slot = slot; value = value })
given_at None value = None

-- the number of an input as a value shows it, and what is kept for it
abbrev pub given_by : {V : Type 0} → Look → V → Option (Given V)
given_by (Int z) value = given_at (count_in 15 z) value
given_by a value = None

-- the number of an input and what is kept for it, as two values show them
abbrev pub given_of : {V : Type 0} → Sort V → V → V → Option (Given V)
given_of k v w = given_by (k.look v) w

-- values that alternate between numbers of inputs and what is kept for them
abbrev pub given_in : {V : Type 0} → Sort V → List V → Option (List (Given V))
given_in k [] = Some []
given_in k (v ∷ []) = None
given_in k (v ∷ w ∷ vs) = both (given_of k v w) (given_in k vs)

-- a map of keys, within the bounds of a table
abbrev pub table_in : {V : Type 0} → Option (List (Pair V)) → Option (Content V)
table_in None = None
table_in (Some xs) = provided (is_table xs) (Table xs)

-- the number of localities, which is this one
abbrev pub size_in : {V : Type 0} → ℕ → Look → Option (Content V)
size_in n (Int (pos m)) = provided (m == n) (Size m)
size_in n _ = None

-- any number
abbrev pub number_in : {V : Type 0} → Look → Option (Content V)
number_in (Int z) = Some (Number z)
number_in _ = None

-- from 1 to 1,024 numbers
abbrev pub row_in : {V : Type 0} → Look → Option (Content V)
row_in (Ints numbers) = provided (nat_le 1 (length numbers) && nat_le (length numbers) 1024) (Row numbers)
row_in _ = None

-- how many DOWNs are left, where as many can wait
abbrev pub latch_at : {V : Type 0} → ℕ → Option ℕ → Option (Content V)
latch_at waiting (Some left) = provided (is_latch waiting left) (Latch left)
latch_at waiting None = None

-- a latch is no higher than 1,000,000
abbrev pub latch_in : {V : Type 0} → ℕ → Look → Option (Content V)
latch_in waiting (Int z) = latch_at waiting (count_in 1000000 z)
latch_in waiting _ = None

-- fewer wait than are to arrive
abbrev pub barrier_at : {V : Type 0} → ℕ → Option ℕ → Option (Content V)
barrier_at waiting (Some n) = provided (nat_lt waiting n) (Barrier n)
barrier_at waiting None = None

-- at most 100 meet at a barrier
abbrev pub barrier_in : {V : Type 0} → ℕ → Look → Option (Content V)
barrier_in waiting (Int z) = barrier_at waiting (count_in 100 z)
barrier_in waiting _ = None

-- whether it is closed, and then its values
abbrev pub channel_in : {V : Type 0} → Sort V → ℕ → Look → List V → Option (Content V)
channel_in k waiting (Flag closed) vs = provided (is_channel k waiting closed vs) (Channel closed vs)
channel_in k waiting _ vs = None

-- what is kept for the inputs of a dataflow
abbrev pub inputs_in : {V : Type 0} → Sort V → ℕ → ℕ → ℕ → Option (List (Given V)) → Option (Content V)
inputs_in k waiting code inputs None = None
inputs_in k waiting code inputs (Some given) = provided (is_given k waiting inputs given) (Dataflow code inputs given)

-- a dataflow that has started is marked by one value after its code and the number of its inputs
abbrev pub started_in : {V : Type 0} → ℕ → ℕ → ℕ → Look → Option (Content V)
started_in waiting code inputs Nothing = provided (waiting == 0) (Started code inputs)
started_in waiting code inputs _ = None

-- what follows the code and the number of inputs: the one mark that it has started, or what is kept for the inputs
abbrev pub flow_in : {V : Type 0} → Sort V → ℕ → ℕ → ℕ → List V → Option (Content V)
flow_in k waiting code inputs (v ∷ []) = started_in waiting code inputs (k.look v)
flow_in k waiting code inputs vs = inputs_in k waiting code inputs (given_in k vs)

-- a dataflow with a code and a number of inputs that it can have
abbrev pub dataflow_at : {V : Type 0} → Sort V → ℕ → Option ℕ → Option ℕ → List V → Option (Content V)
dataflow_at k waiting (Some code) (Some inputs) vs = if is_dataflow code inputs then flow_in k waiting code inputs vs else None
dataflow_at k waiting _ _ vs = None

-- a code of 16 bits, at most 16 inputs, and what follows
abbrev pub dataflow_in : {V : Type 0} → Sort V → ℕ → Look → Look → List V → Option (Content V)
dataflow_in k waiting (Int code) (Int inputs) vs = dataflow_at k waiting (count_in 65535 code) (count_in 16 inputs) vs
dataflow_in k waiting a b vs = None

-- values that begin with one, or with two
abbrev pub of_one : {V : Type 0} → Sort V → (Look → Option (Content V)) → List V → Option (Content V)
of_one k f (v ∷ []) = f (k.look v)
of_one k f _ = None

-- values that begin with one that is looked at
abbrev pub of_first : {V : Type 0} → Sort V → (Look → List V → Option (Content V)) → List V → Option (Content V)
of_first k f (v ∷ vs) = f (k.look v) vs
of_first k f [] = None

-- values that begin with two that are looked at
abbrev pub of_two : {V : Type 0} → Sort V → (Look → Look → List V → Option (Content V)) → List V → Option (Content V)
of_two k f (v ∷ w ∷ vs) = f (k.look v) (k.look w) vs
of_two k f _ = None

-- no value where at most 7 wait, or one value where nobody waits
abbrev pub promise_in : {V : Type 0} → ℕ → List V → Option (Content V)
promise_in waiting [] = provided (nat_le waiting 7) (Promise None)
promise_in waiting (v ∷ []) = provided (waiting == 0) (Promise (Some v))
promise_in waiting _ = None

-- components keep no values
abbrev pub maker_in : {V : Type 0} → List V → Option (Content V)
maker_in [] = Some Maker
maker_in _ = None

-- kinds where nobody waits: 2 Symbols, 3 Components, 4 Localities, 5 Shelf, 16 Accumulator, 17 Partition
abbrev pub resting_in : {V : Type 0} → Sort V → ℕ → ℕ → List V → Option (Content V)
resting_in k n kind vs =
    if (kind == 2) || (kind == 5) then table_in (pairs_in k vs)
    else if kind == 3 then maker_in vs
    else if kind == 4 then of_one k (size_in n) vs
    else if kind == 16 then of_one k number_in vs
    else if kind == 17 then of_one k row_in vs else None

-- kinds where some may wait: 32 Promise, 33 Dataflow, 34 Channel, 35 Latch, 36 Barrier
abbrev pub control_in : {V : Type 0} → Sort V → ℕ → ℕ → List V → Option (Content V)
control_in k kind waiting vs =
    if kind == 32 then promise_in waiting vs
    else if kind == 33 then of_two k (dataflow_in k waiting) vs
    else if kind == 34 then of_first k (channel_in k waiting) vs
    else if kind == 35 then of_one k (latch_in waiting) vs
    else if kind == 36 then of_one k (barrier_in waiting) vs else None

-- where the shape or the bounds are not those of the kind, the values stay as they are
abbrev pub or_unreadable : {V : Type 0} → List V → Option (Content V) → Content V
or_unreadable vs None = Unreadable vs
or_unreadable vs (Some x) = x

-- the content that values show where so many wait, at n localities
abbrev pub content_of : {V : Type 0} → Sort V → ℕ → ℕ → ℕ → List V → Content V
content_of k n kind waiting vs =
    or_unreadable vs (if nat_le 32 kind then control_in k kind waiting vs else if waiting == 0 then resting_in k n kind vs else None)
