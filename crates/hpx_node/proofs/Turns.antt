-- What is added to a journal, and its limits.
use Rattle.hpx_node.proofs.Common.{AddsATurn, AllByRecursion, Entry, Event, HasRoom, IsWithin, List, Out, Parcel, Some, [], ap, arith, at_all, bytes_in, length, length-append, parcel_of, parcel_spelled, spelled_short, subst, sum_by-append, total_weight, weight_of, ℕ, ◌*◌, ◌++◌, ◌+◌, ◌∷◌, ◌≡◌, ◌≤◌}
use Rattle.hpx_node.proofs.PlanWeights.{weighs, weighs_cons}
use Rattle.hpx_node.proofs.FewEntries.{at_all_length}

pub turn_within : (old new : List Entry) → HasRoom old → AddsATurn old new → IsWithin new
turn_within old new room turn = record {
  entries = omega (arith, room.entries, turn.entries);
  weight = omega (arith, room.weight, turn.weight);
}

-- what events weigh is added
pub grown_weighs : (k : ℕ) (events : List Event) (old new : List Entry) → new ≡ old ++ at_all k events
    → total_weight new ≡ total_weight old + weighs k events
grown_weighs k events old new grows = omega (arith, ap total_weight grows, sum_by-append weight_of old (at_all k events))

pub adds_none : (old new : List Entry) → new ≡ old → AddsATurn old new
adds_none old new same = record {
  entries = omega (arith, ap (λ (es : List Entry). length es) same);
  weight = omega (arith, ap total_weight same);
}

-- memory was made before
pub turn_from : (a b c : List Entry) → b ≡ a → AddsATurn b c → AddsATurn a c
turn_from a b c same turn = subst (λ es. AddsATurn es c) same turn

pub adds_grown : (k : ℕ) (events : List Event) (old new : List Entry) → new ≡ old ++ at_all k events
    → length events ≤ 1024 → weighs k events ≤ 16777216 → AddsATurn old new
adds_grown k events old new grows few light = record {
  entries = omega (
    arith,
    ap (λ (es : List Entry). length es) grows,
    length-append old (at_all k events),
    at_all_length k events,
    few,
  );
  weight = omega (arith, grown_weighs k events old new grows, light);
}

-- one event that is not heavy
pub adds_one : (k : ℕ) (e : Event) (old new : List Entry) → new ≡ old ++ at_all k (e ∷ []) → bytes_in e ≤ 16777152 → AddsATurn old new
adds_one k e old new grows light = adds_grown k (e ∷ []) old new grows (omega arith) (omega (arith, weighs_cons k e [], light))

pub frame_short : (bytes : List ℕ) (p : Parcel) → parcel_of bytes ≡ Some p → length bytes ≤ 65536
frame_short bytes p spelled = spelled_short bytes p (parcel_spelled bytes p spelled)

-- a frame that goes
pub adds_out : (k to : ℕ) (bytes : List ℕ) (p : Parcel) (old new : List Entry) → parcel_of bytes ≡ Some p
    → new ≡ old ++ at_all k (Out to bytes ∷ []) → AddsATurn old new
adds_out k to bytes p old new spelled grows = adds_one k (Out to bytes) old new grows (omega (arith, frame_short bytes p spelled))

-- ---- events without bytes

abbrev pub HasNoBytes : Event → Type 0
HasNoBytes e = bytes_in e ≡ 0

pub bare_weighs : (k : ℕ) (events : List Event) → AllByRecursion HasNoBytes events → weighs k events ≡ 64 * length events
bare_weighs k [] h = omega arith
bare_weighs k (e ∷ es) h = omega (arith, weighs_cons k e es, h.0, bare_weighs k es h.1)
