-- A spelling has bytes alone: no number above 255.
use Rattle.std.proofs.Common.{◌≡◌, ℕ, zero, suc, ◌<◌, Bool, true, false, cond, ltb, List, [], ◌∷◌, ◌++◌, length, Option, Some, None, refl, arith}
use Rattle.std.specs.Prelude.{ℤ}
use Rattle.std.specs.Int.{w64, cast_unsigned, byte_at, bytes_high_first}
use Rattle.std.specs.List.{AllByRecursion, flat_map}
use Rattle.std.proofs.lemmas.Bool.{ltb-true, lt-ltb, and_parts, and_from}
use Rattle.std.proofs.lemmas.List.Concat.{flat_map-cons}
use Rattle.hpx_value.specs.Ids.{upper_half}
use Rattle.hpx_value.specs.Values.{message_of}
use Rattle.hpx_value.specs.Shapes.{IsValue}
use Rattle.hpx_parcel.specs.Types.{Id, Value, Nothing, Flag, Int, Text, Ref, Fault, Ints, Cont, Message, Act}
use Rattle.hpx_parcel.specs.Spelling.{number_text, int_text, id_text, first_text, without_first, value_text, ids_left, each_text, ids_after, values_text, slot_text, cont_text, message_text, act_text}
use Rattle.hpx_parcel.specs.Parcels.{FitsValue}
use Rattle.hpx_parcel.specs.Reading.{are_bytes}
use Rattle.hpx_parcel.proofs.FieldLaws.{IsBytes}

abbrev pub AreBytes : List ℕ → Type 0
AreBytes bytes = AllByRecursion (λ b. b < 256) bytes

pub are-append : (xs ys : List ℕ) → AreBytes xs → AreBytes ys → AreBytes (xs ++ ys)
are-append [] ys p q = q
are-append (x ∷ xs) ys p q = (p.0, are-append xs ys p.1 q)

pub are_tested : (bytes : List ℕ) → AreBytes bytes → are_bytes bytes ≡ true
are_tested [] h = refl
are_tested (b ∷ bytes) h = and_from _ _ (lt-ltb _ _ h.0) (are_tested bytes h.1)

at_place : (b : ℕ) (bytes : List ℕ) → b < 256 → IsBytes bytes → IsBytes (b ∷ bytes)
at_place b bytes lt fits zero = lt
at_place b bytes lt fits (suc i) = fits i

pub are_from_test : (bytes : List ℕ) → are_bytes bytes ≡ true → IsBytes bytes
are_from_test [] e = λ i. omega arith
are_from_test (b ∷ bytes) e =
    let p = and_parts (ltb b 256) (are_bytes bytes) e in
    λ i. at_place b bytes (ltb-true _ _ p.0) (are_from_test bytes p.1) i

byte_small : (k x : ℕ) → byte_at k x < 256
byte_small zero x = omega arith
byte_small (suc k) x = omega arith

high_first_bytes : (n x : ℕ) → AreBytes (bytes_high_first n x)
high_first_bytes zero x = tt
high_first_bytes (suc n) x = (byte_small n x, high_first_bytes n x)

pub number_bytes : (n x : ℕ) → AreBytes (number_text n x)
unfolding number_text
number_bytes n x = high_first_bytes n x

pub id_bytes : (id : Id) → AreBytes (id_text id)
unfolding id_text
id_bytes id = are-append (number_text 8 (upper_half id)) (number_text 8 id.number) (number_bytes 8 (upper_half id)) (number_bytes 8 id.number)

first_bytes : (ids : List Id) → AreBytes (first_text ids)
first_bytes [] = tt
first_bytes (id ∷ ids) = id_bytes id

ints_bytes : (zs : List ℤ) → AreBytes (flat_map int_text zs)
ints_bytes [] = tt
ints_bytes (z ∷ zs) = rw flat_map-cons (are-append (int_text z) (flat_map int_text zs) (number_bytes 8 (cast_unsigned w64 z)) (ints_bytes zs))

flag_small : (b : Bool) → cond b 1 0 < 256
flag_small true = omega arith
flag_small false = omega arith

value_bytes : (ids : List Id) (v : Value) → IsValue v → FitsValue v → AreBytes (value_text ids v)
unfolding value_text
value_bytes ids Nothing value fits = (omega arith, tt)
value_bytes ids (Flag b) value fits = (omega arith, (flag_small b, tt))
value_bytes ids (Int z) value fits = (omega arith, number_bytes 8 (cast_unsigned w64 z))
value_bytes ids (Text bytes) value fits = (omega arith, are-append (number_text 2 (length bytes)) bytes (number_bytes 2 (length bytes)) fits)
value_bytes ids (Ref place) value fits = (omega arith, first_bytes ids)
value_bytes ids (Fault code) value fits = (omega arith, (omega arith, tt))
value_bytes ids (Ints zs) value fits = (omega arith, are-append (number_text 2 (length zs)) (flat_map int_text zs) (number_bytes 2 (length zs)) (ints_bytes zs))

each_bytes : (ids : List Id) (vs : List Value) → AllByRecursion IsValue vs → AllByRecursion FitsValue vs → AreBytes (each_text ids vs)
each_bytes ids [] each fits = tt
each_bytes ids (v ∷ vs) each fits = are-append (value_text ids v) (each_text (ids_left ids v) vs) (value_bytes ids v each.0 fits.0) (each_bytes (ids_left ids v) vs each.1 fits.1)

pub values_bytes : (ids : List Id) (vs : List Value) → AllByRecursion IsValue vs → AllByRecursion FitsValue vs → AreBytes (values_text ids vs)
unfolding values_text
values_bytes ids vs each fits = are-append (number_text 2 (length vs)) (each_text ids vs) (number_bytes 2 (length vs)) (each_bytes ids vs each fits)

pub slot_bytes : (ids : List Id) (c : Cont) → AreBytes (slot_text ids c)
unfolding slot_text
slot_bytes ids c = are-append (first_text ids) (number_text 4 c.slot) (first_bytes ids) (number_bytes 4 c.slot)

cont_bytes : (ids : List Id) (c : Option Cont) → AreBytes (cont_text ids c)
unfolding cont_text
cont_bytes ids None = (omega arith, tt)
cont_bytes ids (Some c) = (omega arith, slot_bytes ids c)

message_bytes : (m : Message) → AllByRecursion IsValue m.args → AllByRecursion FitsValue m.args → AreBytes (message_text m)
unfolding message_text
message_bytes m each fits =
    let ids = without_first m.ids in
    are-append (first_text m.ids) (number_text 2 m.code ++ (values_text ids m.args ++ cont_text (ids_after ids m.args) m.cont)) (first_bytes m.ids)
    (are-append (number_text 2 m.code) (values_text ids m.args ++ cont_text (ids_after ids m.args) m.cont) (number_bytes 2 m.code)
    (are-append (values_text ids m.args) (cont_text (ids_after ids m.args) m.cont) (values_bytes ids m.args each fits) (cont_bytes (ids_after ids m.args) m.cont)))

pub act_bytes : (a : Act) → AllByRecursion IsValue a.args → AllByRecursion FitsValue a.args → AreBytes (act_text a)
unfolding act_text
act_bytes a each fits =
    are-append (number_text 2 a.origin) (number_text 8 a.serial ++ message_text (message_of a)) (number_bytes 2 a.origin)
    (are-append (number_text 8 a.serial) (message_text (message_of a)) (number_bytes 8 a.serial) (message_bytes (message_of a) each fits))
