-- What each call does to each content: the tables.
use Rattle.std.specs.Prelude.{ℕ, zero, suc, ℤ, pos, negsuc, Bool, true, false, nat_le, nat_lt, List, [], ◌∷◌, ◌++◌, ◌+◌, ◌/◌, ◌-◌, ◌^◌, ◌+ℤ◌, ◌==◌, ◌&&◌, Option, Some, None, length, codes, if◌then◌else◌}
use Rattle.std.specs.Str.{bytes_eq}
use Rattle.hpx_calls.specs.Values.{Int, Ints, Look, Sort, size, is_small, is_number_or_text}
use Rattle.hpx_calls.specs.Requests.{Request, Move, Where, Set, New, Register, Resolve, Unregister, Keys, Count, Add, Query, Reset, Step, Get, Put, PutAt, Close, Down, Wait, Arrive}
use Rattle.hpx_calls.specs.Contents.{Pair, Given, Content, Table, Maker, Size, Number, Row, Promise, Dataflow, Started, Channel, Latch, Barrier, Unreadable, count_in, given_size, input_of, precedes}
use Rattle.hpx_calls.specs.Effects.{Effect, Silent, Answers, Waits, Frees, Starts, Hands, Moves, Makes, Called}

-- the content afterwards, and what is done
abbrev pub leaves : {V : Type 0} → Content V → Effect V → Called V
leaves x e = record { content = x; effect = e }

-- nothing changes, and a fault is the answer: 1 Overflow, 2 Taken, 3 NoName, 4 NoKind, 6 AlreadySet, 7 NoSlot, 8 Closed, 9 Spent, 10 Full, 11 NoAction
abbrev pub refuses : {V : Type 0} → Sort V → Content V → ℕ → Called V
refuses k x code = leaves x (Answers (k.fault code))

-- a call that is not listed
abbrev pub wrong : {V : Type 0} → Sort V → Content V → Called V
wrong k x = refuses k x 11

-- a call that is answered Unit
abbrev pub does : {V : Type 0} → Sort V → Content V → Called V
does k x = leaves x (Answers k.nothing)

-- a call that waits, unless so many wait already
abbrev pub waits : {V : Type 0} → Sort V → Content V → ℕ → ℕ → Called V
waits k x most waiting = if waiting == most then refuses k x 10 else leaves x Waits

-- ---- maps from keys to objects

-- the object under a key
abbrev pub found : {V : Type 0} → List ℕ → List (Pair V) → Option V
found key [] = None
found key (x ∷ xs) = if bytes_eq key x.key then Some x.to else found key xs

-- the map with one more pair, at its place
abbrev pub added : {V : Type 0} → List ℕ → V → List (Pair V) → List (Pair V)
added key to [] = record { key = key; to = to } ∷ []
added key to (x ∷ xs) = if precedes key x.key then record { key = key; to = to } ∷ x ∷ xs else x ∷ added key to xs

-- the map without a key
abbrev pub removed : {V : Type 0} → List ℕ → List (Pair V) → List (Pair V)
removed key [] = []
removed key (x ∷ xs) = if bytes_eq key x.key then xs else x ∷ removed key xs

-- the keys in order, one space between
abbrev pub listed : {V : Type 0} → List (Pair V) → List ℕ
listed [] = []
listed (x ∷ []) = x.key
listed (x ∷ y ∷ xs) = x.key ++ 32 ∷ listed (y ∷ xs)

-- REGISTER: Taken where the key is there, else Full where 100 are, else one pair more
abbrev pub registers : {V : Type 0} → Sort V → List (Pair V) → List ℕ → V → Option V → Called V
registers k xs key to (Some old) = refuses k (Table xs) 2
registers k xs key to None = if length xs == 100 then refuses k (Table xs) 10 else does k (Table (added key to xs))

-- RESOLVE: the object under the key, which stays, or NoName
abbrev pub resolves : {V : Type 0} → Sort V → List (Pair V) → Option V → Called V
resolves k xs None = refuses k (Table xs) 3
resolves k xs (Some to) = leaves (Table xs) (Answers to)

-- UNREGISTER: the pair is gone, or NoName
abbrev pub unregisters : {V : Type 0} → Sort V → List (Pair V) → List ℕ → Option V → Called V
unregisters k xs key None = refuses k (Table xs) 3
unregisters k xs key (Some to) = does k (Table (removed key xs))

-- the calls on a table
abbrev pub on_table : {V : Type 0} → Sort V → List (Pair V) → Request V → Called V
on_table k xs (Register key to) = registers k xs key to (found key xs)
on_table k xs (Resolve key) = resolves k xs (found key xs)
on_table k xs (Unregister key) = unregisters k xs key (found key xs)
on_table k xs Keys = leaves (Table xs) (Answers (k.text (listed xs)))
on_table k xs _ = wrong k (Table xs)

-- ---- the namespace of components, and that of localities

-- NEW of a kind that takes no values
abbrev pub makes_bare : {V : Type 0} → Sort V → Content V → List V → Called V
makes_bare k x [] = leaves Maker (Makes x)
makes_bare k x _ = wrong k Maker

-- a number from 1 to so many
abbrev pub makes_at : {V : Type 0} → Sort V → (ℕ → Content V) → Option ℕ → Called V
makes_at k f (Some n) = if nat_le 1 n then leaves Maker (Makes (f n)) else wrong k Maker
makes_at k f None = wrong k Maker

-- NEW of a kind that takes one such number
abbrev pub makes_counted : {V : Type 0} → Sort V → ℕ → (ℕ → Content V) → Look → Called V
makes_counted k most f (Int z) = makes_at k f (count_in most z)
makes_counted k most f _ = wrong k Maker

-- from 1 to 1,024 numbers
abbrev pub makes_row : {V : Type 0} → Sort V → Look → Called V
makes_row k (Ints numbers) =
    if nat_le 1 (length numbers) && nat_le (length numbers) 1024 then leaves Maker (Makes (Row numbers)) else wrong k Maker
makes_row k _ = wrong k Maker

-- NEW of a kind that takes one value
abbrev pub with_one : {V : Type 0} → Sort V → (Look → Called V) → List V → Called V
with_one k f (v ∷ []) = f (k.look v)
with_one k f _ = wrong k Maker

-- NEW by its name; another name is NoKind
abbrev pub makes : {V : Type 0} → Sort V → List ℕ → List V → Called V
makes k name vs =
    if bytes_eq name (codes "accumulator") then makes_bare k (Number (pos 0)) vs
    else if bytes_eq name (codes "partition") then with_one k (makes_row k) vs
    else if bytes_eq name (codes "promise") then makes_bare k (Promise None) vs
    else if bytes_eq name (codes "channel") then makes_bare k (Channel false []) vs
    else if bytes_eq name (codes "latch") then with_one k (makes_counted k 1000000 Latch) vs
    else if bytes_eq name (codes "barrier") then with_one k (makes_counted k 100 Barrier) vs
    else refuses k Maker 4

-- the calls on the namespace of components
abbrev pub on_maker : {V : Type 0} → Sort V → Request V → Called V
on_maker k (New name vs) = makes k name vs
on_maker k _ = wrong k Maker

-- the calls on that of localities
abbrev pub on_size : {V : Type 0} → Sort V → ℕ → Request V → Called V
on_size k n Count = leaves (Size n) (Answers (k.int (pos n)))
on_size k n _ = wrong k (Size n)

-- ---- numbers

-- a number of 64 bits with a sign
abbrev pub fits : ℤ → Bool
fits (pos n) = nat_lt n (2 ^ 63)
fits (negsuc n) = nat_lt n (2 ^ 63)

-- the calls on an accumulator: a sum that is no such number is an Overflow and changes nothing
abbrev pub on_number : {V : Type 0} → Sort V → ℤ → Request V → Called V
on_number k v (Add z) = if fits (v +ℤ z) then does k (Number (v +ℤ z)) else refuses k (Number v) 1
on_number k v Query = leaves (Number v) (Answers (k.int v))
on_number k v Reset = does k (Number (pos 0))
on_number k v _ = wrong k (Number v)

-- half a number, rounded down
abbrev pub half : ℤ → ℤ
half (pos n) = pos (n / 2)
half (negsuc n) = negsuc (n / 2)

-- each number becomes half the sum of those at its sides
abbrev pub stepped : ℤ → List ℤ → ℤ → List ℤ
stepped left [] right = []
stepped left (x ∷ []) right = half (left +ℤ right) ∷ []
stepped left (x ∷ y ∷ xs) right = half (left +ℤ y) ∷ stepped x (y ∷ xs) right

-- the calls on a partition
abbrev pub on_row : {V : Type 0} → Sort V → List ℤ → Request V → Called V
on_row k xs (Step left right) = leaves (Row (stepped left xs right)) (Answers (k.ints (stepped left xs right)))
on_row k xs _ = wrong k (Row xs)

-- ---- promises

-- slot 0
abbrev pub is_first : ℤ → Bool
is_first (pos n) = n == 0
is_first (negsuc n) = false

-- the first value is for all that wait
abbrev pub sets : {V : Type 0} → Sort V → ℕ → Option V → V → Called V
sets k waiting None v = leaves (Promise (Some v)) (Frees waiting v k.nothing)
sets k waiting (Some old) v = refuses k (Promise (Some old)) 6

-- GET: the value, or a wait for it; at most 7 wait
abbrev pub gets : {V : Type 0} → Sort V → ℕ → Option V → Called V
gets k waiting None = waits k (Promise None) 7 waiting
gets k waiting (Some v) = leaves (Promise (Some v)) (Answers v)

-- a SET carries no continuation, so no refusal of one is answered
abbrev pub on_promise : {V : Type 0} → Sort V → ℕ → Option V → Request V → Called V
on_promise k waiting value (Set slot v) = if is_first slot then sets k waiting value v else leaves (Promise value) Silent
on_promise k waiting value (Put v) = if is_number_or_text (k.look v) then sets k waiting value v else wrong k (Promise value)
on_promise k waiting value Get = gets k waiting value
on_promise k waiting value _ = wrong k (Promise value)

-- ---- dataflows

-- a value that would make those kept longer than 64,000 bytes is kept as the fault Full
abbrev pub fitted : {V : Type 0} → Sort V → List (Given V) → V → V
fitted k given v = if nat_le (given_size k given + size (k.look v)) 64000 then v else k.fault 10

-- a value, or Unit where there is none
abbrev pub or_nothing : {V : Type 0} → Sort V → Option V → V
or_nothing k None = k.nothing
or_nothing k (Some v) = v

-- the values of so many inputs from one on, in order
abbrev pub inputs_from : {V : Type 0} → Sort V → List (Given V) → ℕ → ℕ → List V
inputs_from k given slot zero = []
inputs_from k given slot (suc n) = or_nothing k (input_of slot given) ∷ inputs_from k given (slot + 1) n

-- with the last input the action starts, where somebody waits for its answer
abbrev pub gives : {V : Type 0} → Sort V → ℕ → ℕ → ℕ → List (Given V) → Called V
gives k waiting code inputs given =
    if (length given == inputs) && nat_le 1 waiting
    then leaves (Started code inputs) (Hands code (inputs_from k given 0 inputs) k.nothing)
    else does k (Dataflow code inputs given)

-- a value for an input: kept as the last that came, or AlreadySet
abbrev pub puts_free : {V : Type 0} → Sort V → ℕ → ℕ → ℕ → List (Given V) → ℕ → V → Option V → Called V
puts_free k waiting code inputs given slot v None = gives k waiting code inputs (given ++ record { slot = slot; value = fitted k given v } ∷ [])
puts_free k waiting code inputs given slot v (Some old) = refuses k (Dataflow code inputs given) 6

-- a value for an input by its number, or NoSlot
abbrev pub puts : {V : Type 0} → Sort V → ℕ → ℕ → ℕ → List (Given V) → ℤ → V → Called V
puts k waiting code inputs given (pos slot) v =
    if nat_lt slot inputs then puts_free k waiting code inputs given slot v (input_of slot given)
    else refuses k (Dataflow code inputs given) 7
puts k waiting code inputs given (negsuc n) v = refuses k (Dataflow code inputs given) 7

-- one answer is waited for, once
abbrev pub starts : {V : Type 0} → Sort V → ℕ → ℕ → ℕ → List (Given V) → Called V
starts k waiting code inputs given =
    if nat_le 1 waiting then refuses k (Dataflow code inputs given) 9
    else if length given == inputs then leaves (Started code inputs) (Starts code (inputs_from k given 0 inputs))
    else leaves (Dataflow code inputs given) Waits

-- the calls on a dataflow that has not started
abbrev pub on_dataflow : {V : Type 0} → Sort V → ℕ → ℕ → ℕ → List (Given V) → Request V → Called V
on_dataflow k waiting code inputs given (Set slot v) = puts k waiting code inputs given slot v
on_dataflow k waiting code inputs given (PutAt slot v) = puts k waiting code inputs given slot v
on_dataflow k waiting code inputs given Get = starts k waiting code inputs given
on_dataflow k waiting code inputs given _ = wrong k (Dataflow code inputs given)

-- all inputs of a dataflow that has started count as full
abbrev pub puts_late : {V : Type 0} → Sort V → ℕ → ℕ → ℤ → Called V
puts_late k code inputs (pos slot) = refuses k (Started code inputs) (if nat_lt slot inputs then 6 else 7)
puts_late k code inputs (negsuc n) = refuses k (Started code inputs) 7

-- the calls on one that has started
abbrev pub on_started : {V : Type 0} → Sort V → ℕ → ℕ → Request V → Called V
on_started k code inputs (Set slot v) = puts_late k code inputs slot
on_started k code inputs (PutAt slot v) = puts_late k code inputs slot
on_started k code inputs Get = refuses k (Started code inputs) 9
on_started k code inputs _ = wrong k (Started code inputs)

-- ---- channels

-- a value goes to the one that waits longest, or is kept last
abbrev pub sends : {V : Type 0} → Sort V → ℕ → Bool → List V → V → Called V
sends k waiting true kept v = refuses k (Channel true kept) 8
sends k zero false kept v =
    if length kept == 1000 then refuses k (Channel false kept) 10 else does k (Channel false (kept ++ v ∷ []))
sends k (suc n) false kept v = leaves (Channel false kept) (Frees 1 v k.nothing)

-- a value that a channel does not take is wrong, also where it is closed or full
abbrev pub sends_small : {V : Type 0} → Sort V → ℕ → Bool → List V → V → Called V
sends_small k waiting closed kept v = if is_small (k.look v) then sends k waiting closed kept v else wrong k (Channel closed kept)

-- GET: the oldest value, which goes; else Closed, or a wait for the next, where at most 100 wait
abbrev pub receives : {V : Type 0} → Sort V → ℕ → Bool → List V → Called V
receives k waiting closed (v ∷ kept) = leaves (Channel closed kept) (Answers v)
receives k waiting true [] = refuses k (Channel true []) 8
receives k waiting false [] = waits k (Channel false []) 100 waiting

-- CLOSE: all that wait are Closed; a second one is Closed itself
abbrev pub closes : {V : Type 0} → Sort V → ℕ → Bool → List V → Called V
closes k waiting true kept = refuses k (Channel true kept) 8
closes k waiting false kept = leaves (Channel true kept) (Frees waiting (k.fault 8) k.nothing)

-- the calls on a channel; a SET of slot 0 is a PUT that is not answered
abbrev pub on_channel : {V : Type 0} → Sort V → ℕ → Bool → List V → Request V → Called V
on_channel k waiting closed kept (Set slot v) =
    if is_first slot then sends_small k waiting closed kept v else leaves (Channel closed kept) Silent
on_channel k waiting closed kept (Put v) = sends_small k waiting closed kept v
on_channel k waiting closed kept Get = receives k waiting closed kept
on_channel k waiting closed kept Close = closes k waiting closed kept
on_channel k waiting closed kept _ = wrong k (Channel closed kept)

-- ---- latches and barriers

-- DOWN: Spent at 0; the last one frees all that wait
abbrev pub downs : {V : Type 0} → Sort V → ℕ → ℕ → Called V
downs k waiting left =
    if left == 0 then refuses k (Latch left) 9
    else if left == 1 then leaves (Latch 0) (Frees waiting k.nothing k.nothing)
    else does k (Latch (left - 1))

-- the calls on a latch; at most 100 wait
abbrev pub on_latch : {V : Type 0} → Sort V → ℕ → ℕ → Request V → Called V
on_latch k waiting left Down = downs k waiting left
on_latch k waiting left Wait = if left == 0 then does k (Latch left) else waits k (Latch left) 100 waiting
on_latch k waiting left _ = wrong k (Latch left)

-- the last of n that arrive is not kept
abbrev pub on_barrier : {V : Type 0} → Sort V → ℕ → ℕ → Request V → Called V
on_barrier k waiting n Arrive = if waiting + 1 == n then leaves (Barrier n) (Frees waiting k.nothing k.nothing) else leaves (Barrier n) Waits
on_barrier k waiting n _ = wrong k (Barrier n)

-- ---- every content

-- what a request does to a content where so many wait
abbrev pub on_content : {V : Type 0} → Sort V → ℕ → Content V → Request V → Called V
on_content k waiting (Table pairs) r = on_table k pairs r
on_content k waiting Maker r = on_maker k r
on_content k waiting (Size n) r = on_size k n r
on_content k waiting (Number z) r = on_number k z r
on_content k waiting (Row numbers) r = on_row k numbers r
on_content k waiting (Promise value) r = on_promise k waiting value r
on_content k waiting (Dataflow code inputs given) r = on_dataflow k waiting code inputs given r
on_content k waiting (Started code inputs) r = on_started k code inputs r
on_content k waiting (Channel closed kept) r = on_channel k waiting closed kept r
on_content k waiting (Latch left) r = on_latch k waiting left r
on_content k waiting (Barrier n) r = on_barrier k waiting n r
on_content k waiting (Unreadable values) r = wrong k (Unreadable values)

-- kinds from 16 to 31 move
abbrev pub is_movable : ℕ → Bool
is_movable kind = nat_le 16 kind && nat_lt kind 32

-- WHERE is listed for managed kinds, MOVE for movable ones, whatever the state; k is the sort of values, here the place
abbrev pub on_object : {V : Type 0} → Sort V → ℕ → ℕ → ℕ → Content V → Request V → Called V
on_object k here kind waiting x Where = if nat_le 16 kind then leaves x (Answers (k.int (pos here))) else wrong k x
on_object k here kind waiting x (Move to) = if is_movable kind then leaves x (Moves to) else wrong k x
on_object k here kind waiting x r = on_content k waiting x r

-- calls that are for an answer to come
abbrev pub awaits : {V : Type 0} → Request V → Bool
awaits Get = true
awaits Wait = true
awaits Arrive = true
awaits _ = false

-- what a call does, at a place, to an object of a kind where so many wait; a GET, WAIT or ARRIVE without a continuation does nothing
abbrev pub called : {V : Type 0} → Sort V → ℕ → ℕ → ℕ → Bool → Content V → Request V → Called V
called k here kind waiting true x r = on_object k here kind waiting x r
called k here kind waiting false x r = if awaits r then leaves x Silent else on_object k here kind waiting x r
