-- The one spelling of each parcel. The ids beside the values are written where they stand, one after the other.
use Rattle.std.specs.Prelude.{ℕ, ℤ, List, [], ◌∷◌, ◌++◌, length, Option, Some, None, if◌then◌else◌}
use Rattle.std.specs.List.{flat_map}
use Rattle.std.specs.Int.{w64, cast_unsigned}
use Rattle.byteorder.specs.Endian.{big_bytes}
use Rattle.hpx_value.specs.Ids.{upper_half}
use Rattle.hpx_value.specs.Values.{message_of}
use Rattle.hpx_parcel.specs.Types.{Id, Value, Nothing, Flag, Int, Text, Ref, Fault, Ints, Cont, State, Act, Message, Parcel, Apply, Return, Ask, Give, Cached, Move, Go, Object, Landed, Free}

-- a whole number in so many bytes, the highest first
unfoldable pub number_text : ℕ → ℕ → List ℕ
number_text n x = big_bytes n x

-- a number with a sign, in two's complement
abbrev pub int_text : ℤ → List ℕ
int_text z = number_text 8 (cast_unsigned w64 z)

-- the two halves of an id
unfoldable pub id_text : Id → List ℕ
id_text id = number_text 8 (upper_half id) ++ number_text 8 id.number

-- the next id
abbrev pub first_text : List Id → List ℕ
first_text [] = []
first_text (id ∷ ids) = id_text id

-- the ids after the next
abbrev pub without_first : List Id → List Id
without_first [] = []
without_first (id ∷ ids) = ids

-- a value, with the next id where it is a Ref
unfoldable pub value_text : List Id → Value → List ℕ
value_text ids Nothing = 0 ∷ []
value_text ids (Flag yes_or_no) = 1 ∷ (if yes_or_no then 1 else 0) ∷ []
value_text ids (Int number) = 2 ∷ int_text number
value_text ids (Text bytes) = 3 ∷ (number_text 2 (length bytes) ++ bytes)
value_text ids (Ref place) = 4 ∷ first_text ids
value_text ids (Fault code) = 5 ∷ code ∷ []
value_text ids (Ints numbers) = 6 ∷ (number_text 2 (length numbers) ++ flat_map int_text numbers)

-- the ids that a value leaves
abbrev pub ids_left : List Id → Value → List Id
ids_left ids Nothing = ids
ids_left ids (Flag yes_or_no) = ids
ids_left ids (Int number) = ids
ids_left ids (Text bytes) = ids
ids_left ids (Ref place) = without_first ids
ids_left ids (Fault code) = ids
ids_left ids (Ints numbers) = ids

-- values one after the other
abbrev pub each_text : List Id → List Value → List ℕ
each_text ids [] = []
each_text ids (v ∷ vs) = value_text ids v ++ each_text (ids_left ids v) vs

-- the ids that values leave
abbrev pub ids_after : List Id → List Value → List Id
ids_after ids [] = ids
ids_after ids (v ∷ vs) = ids_after (ids_left ids v) vs

-- how many values, and the values
unfoldable pub values_text : List Id → List Value → List ℕ
values_text ids vs = number_text 2 (length vs) ++ each_text ids vs

-- where an answer goes: the next id, and the slot
unfoldable pub slot_text : List Id → Cont → List ℕ
slot_text ids c = first_text ids ++ number_text 4 c.slot

-- a continuation, if there is one
unfoldable pub cont_text : List Id → Option Cont → List ℕ
cont_text ids None = 0 ∷ []
cont_text ids (Some c) = 1 ∷ slot_text ids c

-- the ids that a continuation leaves
abbrev pub ids_past : List Id → Option Cont → List Id
ids_past ids None = ids
ids_past ids (Some c) = without_first ids

-- an action without its name: its target, its code, its arguments, and where its answer goes
unfoldable pub message_text : Message → List ℕ
message_text m =
    let ids = without_first m.ids in
    first_text m.ids ++ (number_text 2 m.code ++ (values_text ids m.args ++ cont_text (ids_after ids m.args) m.cont))

-- an action: the locality and the number that name it, and what it is
unfoldable pub act_text : Act → List ℕ
act_text a = number_text 2 a.origin ++ (number_text 8 a.serial ++ message_text (message_of a))

-- kept continuations one after the other
abbrev pub conts_text : List Id → List Cont → List ℕ
conts_text ids [] = []
conts_text ids (c ∷ cs) = slot_text ids c ++ conts_text (without_first ids) cs

-- the ids that kept continuations leave
abbrev pub ids_behind : List Id → List Cont → List Id
ids_behind ids [] = ids
ids_behind ids (c ∷ cs) = ids_behind (without_first ids) cs

-- a state: the slots drawn, its values, and how many continuations it keeps, with these
unfoldable pub state_text : State → List ℕ
state_text s =
    number_text 4 s.drawn
    ++ (values_text s.ids s.values ++ (number_text 2 (length s.conts) ++ conts_text (ids_after s.ids s.values) s.conts))

-- a parcel: version 1, its kind, and its fields
unfoldable pub text_of : Parcel → List ℕ
text_of (Apply a) = 1 ∷ 1 ∷ act_text a
text_of (Return id) = 1 ∷ 2 ∷ id_text id
text_of (Ask id asker entry) = 1 ∷ 3 ∷ (id_text id ++ (number_text 2 asker ++ number_text 8 entry))
text_of (Give id entry) = 1 ∷ 4 ∷ (id_text id ++ number_text 8 entry)
text_of (Cached id place) = 1 ∷ 5 ∷ (id_text id ++ number_text 2 place)
text_of (Move a) = 1 ∷ 6 ∷ act_text a
text_of (Go a) = 1 ∷ 7 ∷ act_text a
text_of (Object a s) = 1 ∷ 8 ∷ (act_text a ++ state_text s)
text_of (Landed id place) = 1 ∷ 9 ∷ (id_text id ++ number_text 2 place)
text_of (Free id) = 1 ∷ 10 ∷ id_text id
