-- No field of a parcel ends with the fault that bytes trail.
use Rattle.std.proofs.Common.{◌≡◌, ℕ, zero, suc, Bool, true, false, cond, List, [], ◌∷◌, Option, Some, None, Result, Ok, Err, refl}
use Rattle.hpx_value.specs.Ids.{Id}
use Rattle.hpx_value.specs.declared.value.Value.{Value}
use Rattle.hpx_parcel.specs.declared.parcel.Parcel.{Parcel}
use Rattle.hpx_parcel.specs.declared.parcel.FaultAt.{FaultAt}
use Rattle.hpx_parcel.specs.Reading.{◌>>=◌, found, next_byte, number_at, count_at, id_at, flag_at, int_at, text_at, fault_at, numbers_at, ints_at, plain_at, value_at, each_at, values_at, slot_at, cont_at, ended_at, call_at, message_at, long_act_at, act_at, conts_at, kept_at, long_state_at, state_at, pair_at, ask_at, object_at, fields_at, parcel_at, whole_of, placed}
use Rattle.hpx_bundle.specs.Unbundling.{trails}

-- the types that hpx_parcel has for itself
abbrev pub fault_of : {A E : Type 0} → Result A E → Type 0
fault_of {A} {E} r = E

abbrev argument_of : {A B : Type 0} → (A → B) → Type 0
argument_of {A} f = A

abbrev pub Stop : Type 0
Stop = fault_of (whole_of [])

abbrev pub IdRule : Type 0
IdRule = argument_of id_at

abbrev pub ActRule : Type 0
ActRule = argument_of act_at

-- the fault trails
abbrev pub trailing_in : Result Parcel FaultAt → Bool
trailing_in (Ok p) = false
trailing_in (Err f) = trails f.why

abbrev pub IsCalm : {A : Type 0} → Result A Stop → Type 0
IsCalm (Ok x) = Unit {0}
IsCalm (Err s) = trailing_in (placed 0 (Err s)) ≡ false

pub record Calm {A : Type 0} (r : Result A Stop) : Type 0 where
  pub is : IsCalm r

ok : {A : Type 0} (x : A) → Calm (Ok x)
ok x = record { is = tt }

bad : {A : Type 0} (s : Stop) → trailing_in (placed 0 (Err s)) ≡ false → Calm {A = A} (Err s)
bad s e = record { is = e }

next : {A B : Type 0} (r : Result A Stop) (f : A → Result B Stop) → Calm r → ((x : A) → Calm (f x)) → Calm (r >>= f)
next (Ok x) f c h = h x
next (Err s) f c h = record { is = c.is }

either : {A : Type 0} (b : Bool) (r q : Result A Stop) → Calm r → Calm q → Calm (cond b r q)
either true r q c d = c
either false r q c d = d

byte_calm : (bytes : List ℕ) → Calm (next_byte bytes)
byte_calm [] = bad _ refl
byte_calm (b ∷ bytes) = ok _

number_calm : (n : ℕ) (bytes : List ℕ) → Calm (number_at n bytes)
unfolding number_at
number_calm n bytes = either _ _ _ (bad _ refl) (ok _)

found_calm : {A : Type 0} (o : Option A) (s : Stop) → trailing_in (placed 0 (Err s)) ≡ false → Calm (found o s)
found_calm None s e = bad s e
found_calm (Some x) s e = ok x

count_calm : (limit : ℕ) (bytes : List ℕ) → Calm (count_at limit bytes)
unfolding count_at
count_calm limit bytes = search (next, either, ok, bad, number_calm)

id_calm : (rule : IdRule) (bytes : List ℕ) → Calm (id_at rule bytes)
unfolding id_at
id_calm rule bytes = search (next, either, ok, bad, number_calm, found_calm)

flag_calm : (bytes : List ℕ) → Calm (flag_at bytes)
unfolding flag_at
flag_calm bytes = search (next, either, ok, bad, byte_calm)

int_calm : (bytes : List ℕ) → Calm (int_at bytes)
unfolding int_at
int_calm bytes = search (next, ok, number_calm)

text_calm : (bytes : List ℕ) → Calm (text_at bytes)
unfolding text_at
text_calm bytes = search (next, either, ok, bad, count_calm)

fault_calm : (bytes : List ℕ) → Calm (fault_at bytes)
unfolding fault_at
fault_calm bytes = search (next, either, ok, bad, byte_calm)

numbers_calm : (n : ℕ) (bytes : List ℕ) → Calm (numbers_at n bytes)
unfolding numbers_at
numbers_calm zero bytes = ok _
numbers_calm (suc n) bytes = search (next, ok, int_calm, numbers_calm n)

ints_calm : (bytes : List ℕ) → Calm (ints_at bytes)
unfolding ints_at
ints_calm bytes = search (next, count_calm, numbers_calm)

plain_calm : (tag : ℕ) (bytes rest : List ℕ) → Calm (plain_at tag bytes rest)
unfolding plain_at
plain_calm tag bytes rest = search (next, either, ok, bad, flag_calm, int_calm, text_calm, fault_calm, ints_calm) depth 16

value_calm : (limit place : ℕ) (bytes : List ℕ) → Calm (value_at limit place bytes)
unfolding value_at
value_calm limit place bytes = search (next, either, ok, bad, byte_calm, id_calm, plain_calm)

each_calm : (limit n place : ℕ) (bytes : List ℕ) → Calm (each_at limit place n bytes)
unfolding each_at
each_calm limit zero place bytes = ok _
each_calm limit (suc n) place bytes = search (next, ok, value_calm, each_calm limit n)

values_calm : (limit place : ℕ) (bytes : List ℕ) → Calm (values_at limit place bytes)
unfolding values_at
values_calm limit place bytes = search (next, count_calm, each_calm)

slot_calm : (bytes : List ℕ) → Calm (slot_at bytes)
unfolding slot_at
slot_calm bytes = search (next, ok, id_calm, number_calm)

cont_calm : (place : ℕ) (bytes : List ℕ) → Calm (cont_at place bytes)
unfolding cont_at
cont_calm place bytes = search (next, either, ok, bad, byte_calm, slot_calm)

ended_calm : (code : ℕ) (args : List Value) (ids : List Id) (bytes : List ℕ) → Calm (ended_at code args ids bytes)
unfolding ended_at
ended_calm code args ids bytes = search (next, ok, cont_calm)

call_calm : (rule : ActRule) (target : Id) (bytes : List ℕ) → Calm (call_at rule target bytes)
unfolding call_at
call_calm rule target bytes = search (next, either, bad, number_calm, values_calm, ended_calm)

message_calm : (rule : ActRule) (bytes : List ℕ) → Calm (message_at rule bytes)
unfolding message_at
message_calm rule bytes = search (next, id_calm, call_calm)

act_calm : (rule : ActRule) (bytes : List ℕ) → Calm (act_at rule bytes)
unfolding act_at long_act_at
act_calm rule bytes = search (next, either, ok, bad, number_calm, message_calm)

conts_calm : (n place : ℕ) (bytes : List ℕ) → Calm (conts_at place n bytes)
unfolding conts_at
conts_calm zero place bytes = ok _
conts_calm (suc n) place bytes = search (next, ok, slot_calm, conts_calm n)

kept_calm : (drawn : ℕ) (values : List Value) (ids : List Id) (bytes : List ℕ) → Calm (kept_at drawn values ids bytes)
unfolding kept_at
kept_calm drawn values ids bytes = search (next, ok, count_calm, conts_calm)

state_calm : (bytes : List ℕ) → Calm (state_at bytes)
unfolding state_at long_state_at
state_calm bytes = search (next, either, ok, bad, number_calm, values_calm, kept_calm)

pair_calm : (rule : IdRule) (n : ℕ) (bytes : List ℕ) → Calm (pair_at rule n bytes)
unfolding pair_at
pair_calm rule n bytes = search (next, ok, id_calm, number_calm)

ask_calm : (bytes : List ℕ) → Calm (ask_at bytes)
unfolding ask_at
ask_calm bytes = search (next, ok, pair_calm, number_calm)

object_calm : (bytes : List ℕ) → Calm (object_at bytes)
unfolding object_at
object_calm bytes = search (next, ok, act_calm, state_calm)

fields_calm : (kind : ℕ) (bytes rest : List ℕ) → Calm (fields_at kind bytes rest)
unfolding fields_at
fields_calm kind bytes rest = search (next, either, ok, bad, act_calm, id_calm, ask_calm, pair_calm, object_calm) depth 16

pub parcel_calm : (bytes : List ℕ) → Calm (parcel_at bytes)
unfolding parcel_at
parcel_calm bytes = search (next, either, bad, byte_calm, fields_calm)
