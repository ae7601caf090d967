-- Reading bytes from the left, with the first fault that is met.
use Rattle.std.specs.Prelude.{◌≡◌, ℕ, zero, suc, pos, ℤ, Bool, true, false, List, [], ◌∷◌, ◌++◌, length, take, drop, Option, Some, None, Result, Ok, Err, ◌+◌, ◌-◌, ◌==◌, ◌&&◌, nat_lt, nat_le, is_some, is_none, if◌then◌else◌}
use Rattle.std.specs.List.{list_all}
use Rattle.std.specs.Int.{w64, cast_signed}
use Rattle.byteorder.specs.Endian.{big_number}
use Rattle.hpx_value.specs.Ids.{upper_half, id_in}
use Rattle.hpx_value.specs.Values.{named}
use Rattle.hpx_parcel.specs.Types.{Id, Value, Nothing, Flag, Int, Text, Ref, Fault, Ints, Cont, State, Act, Message, Parcel, Apply, Return, Ask, Give, Cached, Move, Go, Object, Landed, Free, Why, Long, Cut, Kind, BadId, BadValue, Trailing}
use Rattle.hpx_parcel.specs.declared.parcel.DecodeFault.{DecodeFault}
use Rattle.hpx_parcel.specs.declared.parcel.DecodeFault.TheVariants as faults
use Rattle.hpx_parcel.specs.Parcels.{Spells, IsFrame}
pub use Rattle.hpx_parcel.specs.declared.parcel.FaultAt.{FaultAt}
pub use Rattle.hpx_parcel.specs.declared.fields.Stop.{Stop}
pub use Rattle.hpx_parcel.specs.declared.fields.ReadError.{ReadError}
use Rattle.hpx_parcel.specs.declared.fields.ReadError.TheVariants as errors
pub use Rattle.hpx_parcel.specs.declared.fields.IdRule.{IdRule}
pub use Rattle.hpx_parcel.specs.declared.fields.IdRule.TheVariants.{Named, Movable, Credited, Least, Bare}
pub use Rattle.hpx_parcel.specs.declared.acts.ActRule.{ActRule}
pub use Rattle.hpx_parcel.specs.declared.acts.ActRule.TheVariants.{Applied, Moves}

-- what comes next, if nothing is wrong so far
infixl 10 ◌>>=◌
abbrev pub ◌>>=◌ : {A B : Type 0} → Result A Stop → (A → Result B Stop) → Result B Stop
(Ok x) >>= f = f x
(Err s) >>= f = Err s

-- a fault at the first of these bytes
abbrev pub stop_at : List ℕ → Why → Stop
stop_at bytes why = record { left = length bytes; why = why }

-- the bytes end too early
abbrev pub cut_off : Stop
cut_off = record { left = 0; why = Cut }

-- what a function returned, seen by view, is what reading gives, unless memory ran out
abbrev pub Fails : {Y : Type 0} → ReadError → Result Y Stop → Type 0
Fails errors.OutOfMemory read = Unit {0}
Fails (errors.Stop s) read = read ≡ Err s

-- the same for both outcomes
abbrev pub Gives : {X Y : Type 0} → (X → Y) → Result X ReadError → Result Y Stop → Type 0
Gives view (Ok x) read = read ≡ Ok (view x)
Gives view (Err e) read = Fails e read

-- what a function that keeps nothing returned, seen by view, is what reading gives
abbrev pub Tells : {X Y : Type 0} → (X → Y) → Result X Stop → Result Y Stop → Type 0
Tells view (Ok x) read = read ≡ Ok (view x)
Tells view (Err s) read = read ≡ Err s

-- what there is, or a fault
abbrev pub found : {A : Type 0} → Option A → Stop → Result A Stop
found None s = Err s
found (Some x) s = Ok x

-- a field is a value and the bytes after it
abbrev pub next_byte : List ℕ → Result (ℕ × List ℕ) Stop
next_byte [] = Err cut_off
next_byte (b ∷ rest) = Ok (b, rest)

-- a whole number in n bytes, the highest first
unfoldable pub number_at : ℕ → List ℕ → Result (ℕ × List ℕ) Stop
number_at n bytes = if nat_lt (length bytes) n then Err cut_off else Ok (big_number n bytes, drop n bytes)

-- a count of two bytes, at most a limit
unfoldable pub count_at : ℕ → List ℕ → Result (ℕ × List ℕ) Stop
count_at limit bytes = do
  n ← number_at 2 bytes
  if nat_lt limit n.0 then Err (stop_at bytes BadValue) else Ok n

-- the halves are those of an id
abbrev pub is_id : ℕ → ℕ → Bool
is_id msb lsb = (upper_half (id_in msb lsb) == msb) && (nat_lt 0 (id_in msb lsb).kind && nat_lt 0 lsb)

-- the id that two halves are, if they are one
abbrev pub id_of : ℕ → ℕ → Option Id
id_of msb lsb = if is_id msb lsb then Some (id_in msb lsb) else None

-- a credit exactly where the kind is 16 or more
abbrev pub credit_fits : Id → Bool
credit_fits id = if nat_lt id.kind 16 then is_none id.log else is_some id.log

-- the least credit
abbrev pub is_least : Option ℕ → Bool
is_least None = false
is_least (Some log) = log == 0

-- the ids that a field takes
abbrev pub allows : IdRule → Id → Bool
allows Named id = credit_fits id
allows Movable id = credit_fits id && (nat_le 16 id.kind && nat_le id.kind 31)
allows Credited id = is_some id.log && nat_le 16 id.kind
allows Least id = is_least id.log && nat_le 16 id.kind
allows Bare id = is_none id.log && nat_le 16 id.kind

-- an id that a rule takes
unfoldable pub id_at : IdRule → List ℕ → Result (Id × List ℕ) Stop
id_at rule bytes = do
  msb ← number_at 8 bytes
  lsb ← number_at 8 msb.1
  id ← found (id_of msb.0 lsb.0) (stop_at bytes BadId)
  if allows rule id then Ok (id, lsb.1) else Err (stop_at bytes BadId)

-- a flag, behind its tag
unfoldable pub flag_at : List ℕ → Result (Value × List ℕ) Stop
flag_at bytes = do
  b ← next_byte bytes
  if b.0 == 0 then Ok (Flag false, b.1) else (if b.0 == 1 then Ok (Flag true, b.1) else Err (stop_at bytes BadValue))

-- a number with a sign
unfoldable pub int_at : List ℕ → Result (ℤ × List ℕ) Stop
int_at bytes = do
  n ← number_at 8 bytes
  Ok (cast_signed w64 n.0, n.1)

-- a text of at most 16,384 bytes
unfoldable pub text_at : List ℕ → Result (List ℕ × List ℕ) Stop
text_at bytes = do
  n ← count_at 16384 bytes
  if nat_lt (length n.1) n.0 then Err cut_off else Ok (take n.0 n.1, drop n.0 n.1)

-- a fault from 1 to 11, behind its tag
unfoldable pub fault_at : List ℕ → Result (Value × List ℕ) Stop
fault_at bytes = do
  b ← next_byte bytes
  if nat_le 1 b.0 && nat_le b.0 11 then Ok (Fault b.0, b.1) else Err (stop_at bytes BadValue)

-- so many numbers with signs
unfoldable pub numbers_at : ℕ → List ℕ → Result (List ℤ × List ℕ) Stop
numbers_at zero bytes = Ok ([], bytes)
numbers_at (suc n) bytes = do
  first ← int_at bytes
  others ← numbers_at n first.1
  Ok (first.0 ∷ others.0, others.1)

-- at most 4,096 numbers with signs
unfoldable pub ints_at : List ℕ → Result (List ℤ × List ℕ) Stop
ints_at bytes = do
  n ← count_at 4096 bytes
  numbers_at n.0 n.1

-- the rest of a value that is no Ref, behind its tag, with which the bytes begin
unfoldable pub plain_at : ℕ → List ℕ → List ℕ → Result (Value × List ℕ) Stop
plain_at tag bytes rest =
    if tag == 0 then Ok (Nothing, rest)
    else (if tag == 1 then flag_at rest
    else (if tag == 2 then (int_at rest >>= λ n. Ok (Int n.0, n.1))
    else (if tag == 3 then (text_at rest >>= λ t. Ok (Text t.0, t.1))
    else (if tag == 5 then fault_at rest
    else (if tag == 6 then (ints_at rest >>= λ ns. Ok (Ints ns.0, ns.1))
    else Err (stop_at bytes BadValue))))))

-- a value, and the id where it is a Ref: place is that of the next id, which is below limit
unfoldable pub value_at : ℕ → ℕ → List ℕ → Result (Value × Option Id × List ℕ) Stop
value_at limit place bytes = do
  tag ← next_byte bytes
  if tag.0 == 4
      then (if nat_lt place limit then (id_at Named tag.1 >>= λ id. Ok (Ref place, Some id.0, id.1)) else Err (stop_at bytes BadValue))
      else plain_at tag.0 bytes tag.1 >>= λ v. Ok (v.0, None, v.1)

-- the id, as a list
abbrev pub id_list : Option Id → List Id
id_list None = []
id_list (Some id) = id ∷ []

-- values, and their ids
unfoldable pub each_at : ℕ → ℕ → ℕ → List ℕ → Result (List Value × List Id × List ℕ) Stop
each_at limit place zero bytes = Ok ([], [], bytes)
each_at limit place (suc n) bytes = do
  first ← value_at limit place bytes
  others ← each_at limit (place + length (id_list first.1)) n first.2
  Ok (first.0 ∷ others.0, id_list first.1 ++ others.1, others.2)

-- with what was read before
abbrev pub joined : List Value → List Id → Result (List Value × List Id × List ℕ) Stop → Result (List Value × List Id × List ℕ) Stop
joined vs ids read = read >>= λ x. Ok (vs ++ x.0, ids ++ x.1, x.2)

-- at most 1,024 values
unfoldable pub values_at : ℕ → ℕ → List ℕ → Result (List Value × List Id × List ℕ) Stop
values_at limit place bytes = do
  n ← count_at 1024 bytes
  each_at limit place n.0 n.1

-- an id and a slot
unfoldable pub slot_at : List ℕ → Result (Id × ℕ × List ℕ) Stop
slot_at bytes = do
  id ← id_at Named bytes
  slot ← number_at 4 id.1
  Ok (id.0, slot.0, slot.1)

-- a continuation whose id comes to stand at place
unfoldable pub cont_at : ℕ → List ℕ → Result (Option Cont × Option Id × List ℕ) Stop
cont_at place bytes = do
  b ← next_byte bytes
  if b.0 == 0 then Ok (None, None, b.1)
      else (if b.0 == 1 then (slot_at b.1 >>= λ s. Ok (Some (record { place = place; slot = s.1 }), Some s.0, s.2))
      else Err (stop_at bytes BadValue))

-- the targets that an action may have
abbrev pub target_rule : ActRule → IdRule
target_rule Applied = Named
target_rule Moves = Movable

-- the codes that an action may have: 1 is that of a MOVE
abbrev pub takes_code : ActRule → ℕ → Bool
takes_code Applied code = if code == 1 then false else true
takes_code Moves code = code == 1

-- one argument, Int(t) with t from 0 to 63
abbrev pub are_move_args : List Value → Bool
are_move_args (Int (pos t) ∷ []) = nat_le t 63
are_move_args _ = false

-- the arguments that an action may have
abbrev pub takes_args : ActRule → List Value → Bool
takes_args Applied args = true
takes_args Moves args = are_move_args args

-- the end of an action, whose continuation's id comes last
unfoldable pub ended_at : ℕ → List Value → List Id → List ℕ → Result (Message × List ℕ) Stop
ended_at code args ids bytes = do
  cont ← cont_at (length ids) bytes
  Ok (record { code = code; args = args; cont = cont.0; ids = ids ++ id_list cont.1 }, cont.2)

-- an action without its name, behind its target
unfoldable pub call_at : ActRule → Id → List ℕ → Result (Message × List ℕ) Stop
call_at rule target bytes = do
  code ← number_at 2 bytes
  args ← if takes_code rule code.0 then values_at 33 1 code.1 else Err (stop_at bytes BadValue)
  if takes_args rule args.0 then ended_at code.0 args.0 (target ∷ args.1) args.2 else Err (stop_at code.1 BadValue)

-- an action without its name
unfoldable pub message_at : ActRule → List ℕ → Result (Message × List ℕ) Stop
message_at rule bytes = do
  target ← id_at (target_rule rule) bytes
  call_at rule target.0 target.1

-- an action, whatever its length
unfoldable pub long_act_at : ActRule → List ℕ → Result (Act × List ℕ) Stop
long_act_at rule bytes = do
  origin ← number_at 2 bytes
  serial ← number_at 8 origin.1
  message ← message_at rule serial.1
  Ok (named origin.0 serial.0 message.0, message.1)

-- a part of at most 65,000 bytes
abbrev pub within : {A : Type 0} → List ℕ → A × List ℕ → Result (A × List ℕ) Stop
within bytes x = if nat_lt (length x.1 + 65000) (length bytes) then Err (stop_at bytes BadValue) else Ok x

-- an action of at most 65,000 bytes
unfoldable pub act_at : ActRule → List ℕ → Result (Act × List ℕ) Stop
act_at rule bytes = long_act_at rule bytes >>= within bytes

-- kept continuations, the first with its id at place
unfoldable pub conts_at : ℕ → ℕ → List ℕ → Result (List Cont × List Id × List ℕ) Stop
conts_at place zero bytes = Ok ([], [], bytes)
conts_at place (suc n) bytes = do
  first ← slot_at bytes
  others ← conts_at (place + 1) n first.2
  Ok (record { place = place; slot = first.1 } ∷ others.0, first.0 ∷ others.1, others.2)

-- with what was read before
abbrev pub joined_conts : List Cont → List Id → Result (List Cont × List Id × List ℕ) Stop → Result (List Cont × List Id × List ℕ) Stop
joined_conts cs ids read = read >>= λ x. Ok (cs ++ x.0, ids ++ x.1, x.2)

-- the end of a state, whose continuations' ids come last: at most 128 Refs and continuations together
unfoldable pub kept_at : ℕ → List Value → List Id → List ℕ → Result (State × List ℕ) Stop
kept_at drawn values ids bytes = do
  n ← count_at (128 - length ids) bytes
  conts ← conts_at (length ids) n.0 n.1
  Ok (record { drawn = drawn; values = values; conts = conts.0; ids = ids ++ conts.1 }, conts.2)

-- a state, whatever its length
unfoldable pub long_state_at : List ℕ → Result (State × List ℕ) Stop
long_state_at bytes = do
  drawn ← number_at 4 bytes
  values ← values_at 128 0 drawn.1
  kept_at drawn.0 values.0 values.1 values.2

-- a state of at most 65,000 bytes
unfoldable pub state_at : List ℕ → Result (State × List ℕ) Stop
state_at bytes = long_state_at bytes >>= within bytes

-- an id and a number
unfoldable pub pair_at : IdRule → ℕ → List ℕ → Result (Id × ℕ × List ℕ) Stop
pair_at rule n bytes = do
  id ← id_at rule bytes
  x ← number_at n id.1
  Ok (id.0, x.0, x.1)

-- the fields of an Ask
unfoldable pub ask_at : List ℕ → Result (Parcel × List ℕ) Stop
ask_at bytes = do
  x ← pair_at Least 2 bytes
  entry ← number_at 8 x.2
  Ok (Ask x.0 x.1 entry.0, entry.1)

-- the fields of an Object
unfoldable pub object_at : List ℕ → Result (Parcel × List ℕ) Stop
object_at bytes = do
  a ← act_at Moves bytes
  s ← state_at a.1
  Ok (Object a.0 s.0, s.1)

-- a parcel by its kind
unfoldable pub fields_at : ℕ → List ℕ → List ℕ → Result (Parcel × List ℕ) Stop
fields_at kind bytes rest =
    if kind == 1 then (act_at Applied rest >>= λ a. Ok (Apply a.0, a.1))
    else (if kind == 2 then (id_at Credited rest >>= λ x. Ok (Return x.0, x.1))
    else (if kind == 3 then ask_at rest
    else (if kind == 4 then (pair_at Credited 8 rest >>= λ x. Ok (Give x.0 x.1, x.2))
    else (if kind == 5 then (pair_at Bare 2 rest >>= λ x. Ok (Cached x.0 x.1, x.2))
    else (if kind == 6 then (act_at Moves rest >>= λ a. Ok (Move a.0, a.1))
    else (if kind == 7 then (act_at Moves rest >>= λ a. Ok (Go a.0, a.1))
    else (if kind == 8 then object_at rest
    else (if kind == 9 then (pair_at Credited 2 rest >>= λ x. Ok (Landed x.0 x.1, x.2))
    else (if kind == 10 then (id_at Bare rest >>= λ x. Ok (Free x.0, x.1))
    else Err (stop_at bytes Kind))))))))))

-- a parcel of version 1
unfoldable pub parcel_at : List ℕ → Result (Parcel × List ℕ) Stop
parcel_at bytes = do
  version ← next_byte bytes
  kind ← if version.0 == 1 then next_byte version.1 else Err (stop_at bytes Kind)
  fields_at kind.0 version.1 kind.1

-- all of the bytes
unfoldable pub whole_of : List ℕ → Result Parcel Stop
whole_of bytes = do
  p ← parcel_at bytes
  if length p.1 == 0 then Ok p.0 else Err (stop_at p.1 Trailing)

-- with the place from the left, of so many bytes in all
abbrev pub placed : ℕ → Result Parcel Stop → Result Parcel FaultAt
placed total (Ok p) = Ok p
placed total (Err s) = Err (record { at = total - s.left; why = s.why })

-- what is read, or the first fault from the left
unfoldable pub reading : List ℕ → Result Parcel FaultAt
reading bytes =
    if nat_lt 65536 (length bytes) then Err (record { at = 65536; why = Long }) else placed (length bytes) (whole_of bytes)

-- what was read, if nothing was wrong
abbrev pub read_of : Result Parcel FaultAt → Option Parcel
read_of (Ok p) = Some p
read_of (Err f) = None

-- no number is above 255
abbrev pub are_bytes : List ℕ → Bool
are_bytes bytes = list_all (λ b. nat_lt b 256) bytes

-- the parcel that is spelled, if there is one
unfoldable pub parcel_of : List ℕ → Option Parcel
parcel_of bytes = if are_bytes bytes then read_of (reading bytes) else None

-- the first fault of bytes that spell no parcel
pub record IsRefused (bytes : List ℕ) (f : FaultAt) : Type 0 where
  pub first : reading bytes ≡ Err f
  pub none : (p : Parcel) → Spells bytes p → ⊥
  pub unread : parcel_of bytes ≡ None

-- why bytes were not decoded; memory is an excuse only where they spell a parcel
abbrev pub Refuses : DecodeFault → List ℕ → Type 0
Refuses faults.OutOfMemory bytes = IsFrame bytes
Refuses (faults.BadFrame at why) bytes = IsRefused bytes (record { at = at; why = why })

-- what reading the bytes answered
abbrev pub Stops : DecodeFault → Result Parcel FaultAt → Type 0
Stops faults.OutOfMemory read = (p : Parcel) × (read ≡ Ok p)
Stops (faults.BadFrame at why) read = read ≡ Err (record { at = at; why = why })
