-- The messages of a computation, and what acting on each comes to.
use Rattle.std.specs.Prelude.{ℕ, pos, Bool, true, false, List, [], ◌∷◌, ◌≡◌, ◌+◌, ◌-◌, ◌%◌, ◌+ℤ◌, ◌<◌, ◌≤◌, ◌^◌, Option, Some, None, map, refl}
use Rattle.std.proofs.lemmas.Bool.{le-leb, lt-ltb, le-ltb}
use Rattle.hpx_value.specs.Ids.{Id, bare_id}
use Rattle.hpx_value.specs.Values.{empty_state, named}
use Rattle.hpx_value.specs.declared.value.Message.{Message}
use Rattle.hpx_value.specs.Hands.{Slot, conts_from, state_after}
use Rattle.hpx_value.specs.Laws.{birth_state}
use Rattle.hpx_journal.specs.Pool.{sent_by}
use Rattle.hpx_calls.specs.Tables.{fits}
use Rattle.hpx_calls.specs.Outcomes.{outcome_of}
use Rattle.app_compute.specs.Types.{Value, Nothing, Int, Cont, State, Outcome}
use Rattle.app_compute.specs.Numbers.{fibonacci, is_direct}
use Rattle.app_compute.specs.Acts.{plain_outcome, sum_of_two}

-- ---- messages

abbrev pub plain_at : ℕ → Id
plain_at k = bare_id k 7 1

-- an input of a dataflow
abbrev pub slot_of : Id → ℕ → Slot
slot_of o i = record { object = o; number = i }

-- what is told a slot
abbrev pub cont_of : Slot → Option Cont
cont_of x = Some (record { place = 1; slot = x.number })

abbrev pub fib_message : ℕ → ℕ → ℕ → Slot → Message
fib_message t m k x = record { code = 48; args = Int (pos m) ∷ Int (pos t) ∷ []; cont = cont_of x; ids = plain_at k ∷ x.object ∷ [] }

abbrev pub sum_message : ℕ → ℕ → ℕ → Slot → Message
sum_message v w k x = record { code = 49; args = Int (pos v) ∷ Int (pos w) ∷ []; cont = cont_of x; ids = plain_at k ∷ x.object ∷ [] }

abbrev pub get_message : Id → Slot → Message
get_message o x = record { code = 32; args = []; cont = cont_of x; ids = o ∷ x.object ∷ [] }

abbrev pub set_message : Slot → ℕ → Message
set_message x v = record { code = 3; args = Int (pos x.number) ∷ Int (pos v) ∷ []; cont = None; ids = x.object ∷ [] }

-- ---- states of a dataflow

-- what has come for its inputs; late: the second came first
abbrev pub given : Bool → Option ℕ → Option ℕ → List Value
given late None None = []
given late (Some v) None = Int (pos 0) ∷ Int (pos v) ∷ []
given late None (Some w) = Int (pos 1) ∷ Int (pos w) ∷ []
given false (Some v) (Some w) = Int (pos 0) ∷ Int (pos v) ∷ Int (pos 1) ∷ Int (pos w) ∷ []
given true (Some v) (Some w) = Int (pos 1) ∷ Int (pos w) ∷ Int (pos 0) ∷ Int (pos v) ∷ []

-- who waits, if somebody does
abbrev pub kept_slots : Bool → Slot → List Slot
kept_slots true x = x ∷ []
kept_slots false x = []

abbrev pub flow : Bool → Option ℕ → Option ℕ → List Slot → State
flow late i j ys = record { drawn = 0; values = Int (pos 49) ∷ Int (pos 2) ∷ given late i j; conts = conts_from 0 ys; ids = map (λ x. x.object) ys }

abbrev pub spent : State
spent = record { drawn = 0; values = Int (pos 49) ∷ Int (pos 2) ∷ Nothing ∷ []; conts = []; ids = [] }

-- ---- what is done

-- nothing is made or printed, this state is left, and these messages are sent
pub record Does (s : State) (m : Message) (out : Outcome) (s' : State) (ms : List Message) : Type 0 where
  pub makes : out.makes ≡ []
  pub prints : out.prints ≡ []
  pub state : state_after s (named 0 0 m) [] out ≡ s'
  pub sends : sent_by m s [] out ≡ ms

-- ---- plain objects

sums : (v w : ℕ) → v + w < 2 ^ 63 → fits (pos v +ℤ pos w) ≡ true
sums v w h = lt-ltb (v + w) (2 ^ 63) h

pub sum_does : (n here v w k : ℕ) (x : Slot) → v + w < 2 ^ 63
    → Does empty_state (sum_message v w k x) (plain_outcome n here empty_state (named 0 0 (sum_message v w k x))) empty_state (set_message x (v + w) ∷ [])
unfolding plain_outcome
sum_does n here v w k x h = rw (sums v w h) (record { makes = refl; prints = refl; state = refl; sends = refl })

pub direct_does : (n here t m k : ℕ) (x : Slot) → m ≤ 92 → 2 ≤ t → t ≤ 92 → is_direct t m ≡ true
    → Does empty_state (fib_message t m k x) (plain_outcome n here empty_state (named 0 0 (fib_message t m k x))) empty_state (set_message x (fibonacci m) ∷ [])
unfolding plain_outcome
direct_does n here t m k x low some few direct =
    rw (le-leb m 92 low, le-leb t 92 few, le-ltb t 2 some, direct) (record { makes = refl; prints = refl; state = refl; sends = refl })

-- two numbers are asked for, as inputs of a dataflow that is made
pub record Splits (s : State) (m : Message) (out : Outcome) (o : Id) (ms : List Message) : Type 0 where
  pub makes : out.makes ≡ sum_of_two ∷ []
  pub prints : out.prints ≡ []
  pub state : state_after s (named 0 0 m) (o ∷ []) out ≡ s
  pub sends : sent_by m s (o ∷ []) out ≡ ms

pub split_does : (n here t m k : ℕ) (x : Slot) (o : Id) → m ≤ 92 → 2 ≤ t → t ≤ 92 → is_direct t m ≡ false
    → Splits empty_state (fib_message t m k x) (plain_outcome n here empty_state (named 0 0 (fib_message t m k x))) o
    (fib_message t (m - 1) ((here + 1) % n) (slot_of o 0) ∷ fib_message t (m - 2) here (slot_of o 1) ∷ get_message o x ∷ [])
unfolding plain_outcome
split_does n here t m k x o low some few slow =
    rw (le-leb m 92 low, le-leb t 92 few, le-ltb t 2 some, slow) (record { makes = refl; prints = refl; state = refl; sends = refl })

pub born : birth_state sum_of_two ≡ flow false None None []
born = refl

-- ---- dataflows

module _ (n here : ℕ) (o : Id) (x : Slot) where
  abbrev acts : State → Message → Outcome
  acts s m = outcome_of n 33 here s (named 0 0 m)

  pub first_kept : (kept late : Bool) (v : ℕ) → Does (flow late None None (kept_slots kept x)) (set_message (slot_of o 0) v)
      (acts (flow late None None (kept_slots kept x)) (set_message (slot_of o 0) v)) (flow false (Some v) None (kept_slots kept x)) []
  unfolding outcome_of
  first_kept true late v = record { makes = refl; prints = refl; state = refl; sends = refl }
  first_kept false late v = record { makes = refl; prints = refl; state = refl; sends = refl }

  pub first_last : (late : Bool) (v w : ℕ) → Does (flow late None (Some w) []) (set_message (slot_of o 0) v)
      (acts (flow late None (Some w) []) (set_message (slot_of o 0) v)) (flow true (Some v) (Some w) []) []
  unfolding outcome_of
  first_last late v w = record { makes = refl; prints = refl; state = refl; sends = refl }

  pub first_ends : (late : Bool) (v w : ℕ) → Does (flow late None (Some w) (x ∷ [])) (set_message (slot_of o 0) v)
      (acts (flow late None (Some w) (x ∷ [])) (set_message (slot_of o 0) v)) spent (sum_message v w here x ∷ [])
  unfolding outcome_of
  first_ends late v w = record { makes = refl; prints = refl; state = refl; sends = refl }

  pub second_kept : (kept late : Bool) (w : ℕ) → Does (flow late None None (kept_slots kept x)) (set_message (slot_of o 1) w)
      (acts (flow late None None (kept_slots kept x)) (set_message (slot_of o 1) w)) (flow false None (Some w) (kept_slots kept x)) []
  unfolding outcome_of
  second_kept true late w = record { makes = refl; prints = refl; state = refl; sends = refl }
  second_kept false late w = record { makes = refl; prints = refl; state = refl; sends = refl }

  pub second_last : (late : Bool) (v w : ℕ) → Does (flow late (Some v) None []) (set_message (slot_of o 1) w)
      (acts (flow late (Some v) None []) (set_message (slot_of o 1) w)) (flow false (Some v) (Some w) []) []
  unfolding outcome_of
  second_last late v w = record { makes = refl; prints = refl; state = refl; sends = refl }

  pub second_ends : (late : Bool) (v w : ℕ) → Does (flow late (Some v) None (x ∷ [])) (set_message (slot_of o 1) w)
      (acts (flow late (Some v) None (x ∷ [])) (set_message (slot_of o 1) w)) spent (sum_message v w here x ∷ [])
  unfolding outcome_of
  second_ends late v w = record { makes = refl; prints = refl; state = refl; sends = refl }

  pub get_none : (late : Bool) → Does (flow late None None []) (get_message o x) (acts (flow late None None []) (get_message o x)) (flow late None None (x ∷ [])) []
  unfolding outcome_of
  get_none late = record { makes = refl; prints = refl; state = refl; sends = refl }

  pub get_first : (late : Bool) (v : ℕ) → Does (flow late (Some v) None []) (get_message o x) (acts (flow late (Some v) None []) (get_message o x)) (flow late (Some v) None (x ∷ [])) []
  unfolding outcome_of
  get_first late v = record { makes = refl; prints = refl; state = refl; sends = refl }

  pub get_second : (late : Bool) (w : ℕ) → Does (flow late None (Some w) []) (get_message o x) (acts (flow late None (Some w) []) (get_message o x)) (flow late None (Some w) (x ∷ [])) []
  unfolding outcome_of
  get_second late w = record { makes = refl; prints = refl; state = refl; sends = refl }

  pub get_ends : (late : Bool) (v w : ℕ) → Does (flow late (Some v) (Some w) []) (get_message o x) (acts (flow late (Some v) (Some w) []) (get_message o x)) spent (sum_message v w here x ∷ [])
  unfolding outcome_of
  get_ends true v w = record { makes = refl; prints = refl; state = refl; sends = refl }
  get_ends false v w = record { makes = refl; prints = refl; state = refl; sends = refl }
