-- Which ids values take.
use Rattle.std.proofs.Common.{◌≡◌, ℕ, suc, ◌+◌, List, [], ◌∷◌, length, Option, Some, None, arith}
use Rattle.std.proofs.lemmas.List.{nil_from_length}
use Rattle.hpx_value.specs.Values.{refs_in}
use Rattle.hpx_value.specs.Shapes.{IsMessage, IsState, listed}
use Rattle.hpx_parcel.specs.Types.{Id, Value, Nothing, Flag, Int, Text, Ref, Fault, Ints, Cont, State, Message}
use Rattle.hpx_parcel.specs.Spelling.{without_first, ids_after, ids_past, ids_behind}

length-without_first : (ids : List Id) (k : ℕ) → length ids ≡ suc k → length (without_first ids) ≡ k
length-without_first [] k e = absurd (omega arith)
length-without_first (id ∷ ids) k e = omega arith

pub length-ids_after : (ids : List Id) (vs : List Value) (k : ℕ) → length ids ≡ length (refs_in vs) + k → length (ids_after ids vs) ≡ k
length-ids_after ids [] k e = omega arith
length-ids_after ids (Nothing ∷ vs) k e = length-ids_after ids vs k e
length-ids_after ids (Flag b ∷ vs) k e = length-ids_after ids vs k e
length-ids_after ids (Int z ∷ vs) k e = length-ids_after ids vs k e
length-ids_after ids (Text bytes ∷ vs) k e = length-ids_after ids vs k e
length-ids_after ids (Ref place ∷ vs) k e = length-ids_after (without_first ids) vs k (length-without_first ids (length (refs_in vs) + k) (omega arith))
length-ids_after ids (Fault code ∷ vs) k e = length-ids_after ids vs k e
length-ids_after ids (Ints numbers ∷ vs) k e = length-ids_after ids vs k e

none_past : (ids : List Id) (c : Option Cont) → length ids ≡ length (listed c) → ids_past ids c ≡ []
none_past ids None e = nil_from_length ids e
none_past ids (Some c) e = nil_from_length (without_first ids) (length-without_first ids 0 e)

-- a message takes all of its ids
pub all_taken : (m : Message) → IsMessage m → ids_past (ids_after (without_first m.ids) m.args) m.cont ≡ []
all_taken m shape =
    let first : length (without_first m.ids) ≡ length (refs_in m.args) + length (listed m.cont) = length-without_first m.ids _ (omega (arith, shape.ids)) in
    none_past (ids_after (without_first m.ids) m.args) m.cont (length-ids_after (without_first m.ids) m.args (length (listed m.cont)) first)

length-ids_behind : (ids : List Id) (cs : List Cont) → length ids ≡ length cs → ids_behind ids cs ≡ []
length-ids_behind ids [] e = nil_from_length ids e
length-ids_behind ids (c ∷ cs) e = length-ids_behind (without_first ids) cs (length-without_first ids (length cs) e)

-- a state takes all of its ids
pub all_kept : (s : State) → IsState s → ids_behind (ids_after s.ids s.values) s.conts ≡ []
all_kept s shape = length-ids_behind (ids_after s.ids s.values) s.conts (length-ids_after s.ids s.values (length s.conts) shape.ids)
