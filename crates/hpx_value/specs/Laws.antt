-- The laws that every meaning of actions keeps.
use Rattle.std.specs.Prelude.{ℕ, pos, Bool, cond, nat_lt, List, [], ◌∷◌, ◌++◌, ◌≡◌, ◌≢◌, ◌+◌, ◌<◌, ◌≤◌, ◌==◌, ◌&&◌, ◌⊎◌, length}
use Rattle.std.specs.List.{AllByRecursion, count_by}
use Rattle.hpx_value.specs.Ids.{Id}
use Rattle.hpx_value.specs.Values.{Value, Int, State, Act, refs_in}
use Rattle.hpx_value.specs.Shapes.{IsMessage, IsState, IsCount}
use Rattle.hpx_value.specs.Hands.{Target, Place, Root, SendCont, NoCont, Own, Made, Here, Make, Sending, Reply, Outcome, hand_slots, state_after, sent, replied}
use Rattle.hpx_value.specs.Kept.{stays}
use Rattle.hpx_value.specs.Mentions.{mentions, root_mentions, hand_size, kind_at}

-- the continuation that a send hands on
abbrev pub owns : SendCont → List ℕ
owns NoCont = []
owns (Own number) = number ∷ []
owns (Made make slot) = []
owns (Here slot) = []

-- the continuations that the sends hand on, in order
abbrev pub handed_on : List Sending → List ℕ
handed_on [] = []
handed_on (x ∷ xs) = owns x.cont ++ handed_on xs

-- the continuations that the replies answer, in order
abbrev pub answered : List Reply → List ℕ
answered [] = []
answered (x ∷ xs) = x.cont ∷ answered xs

-- the continuations of the hand as an outcome uses them: kept, handed on, or answered
abbrev pub uses : Outcome → List ℕ
uses out = out.state.conts ++ (handed_on out.sends ++ answered out.replies)

-- each of the hand's continuations is used exactly once, and no other
abbrev pub UsesEachOnce : ℕ → List ℕ → Type 0
UsesEachOnce n numbers = (i : ℕ) → count_by (λ j. j == i) numbers ≡ cond (nat_lt i n) 1 0

-- a slot of an object that is made here
pub record MadeSlot : Type 0 where
  pub make : ℕ
  pub slot : ℕ

-- the slot of a made object that a send names
abbrev pub makes_slot : SendCont → List MadeSlot
makes_slot NoCont = []
makes_slot (Own number) = []
makes_slot (Made make slot) = record { make = make; slot = slot } ∷ []
makes_slot (Here slot) = []

-- the slots of made objects that the sends name, in order
abbrev pub made_slots : List Sending → List MadeSlot
made_slots [] = []
made_slots (x ∷ xs) = makes_slot x.cont ++ made_slots xs

-- whether it is this slot of this made object
abbrev pub is_made_slot : ℕ → ℕ → MadeSlot → Bool
is_made_slot make slot x = (x.make == make) && (x.slot == slot)

-- the slot of the session that a send draws
abbrev pub draws : SendCont → List ℕ
draws NoCont = []
draws (Own number) = []
draws (Made make slot) = []
draws (Here slot) = slot ∷ []

-- the slots of the session that the sends draw, in order
abbrev pub drawn_slots : List Sending → List ℕ
drawn_slots [] = []
drawn_slots (x ∷ xs) = draws x.cont ++ drawn_slots xs

-- the roots that there are, at n localities
abbrev pub IsRoot : ℕ → ℕ → ℕ → Type 0
IsRoot n kind at =
    (((kind ≡ 1) ⊎ ((kind ≡ 2) ⊎ (kind ≡ 4))) × (at ≡ 0))
    ⊎ (((kind ≡ 3) ⊎ ((kind ≡ 5) ⊎ (kind ≡ 7))) × (at < n))

-- a root that a target names is one that there is
abbrev pub IsTarget : ℕ → Target → Type 0
IsTarget n (Place place) = Unit {0}
IsTarget n (Root kind at) = IsRoot n kind at

-- a kind whose objects are counted
abbrev pub IsManaged : ℕ → Type 0
IsManaged kind = (16 ≤ kind) × (kind ≤ 63)

-- a managed kind whose objects move
abbrev pub IsMovable : ℕ → Type 0
IsMovable kind = (16 ≤ kind) × (kind ≤ 31)

-- the arguments of a MOVE to one of so many localities
abbrev pub MovesBelow : ℕ → List Value → Type 0
MovesBelow n args = (t : ℕ) × (t < n) × (args ≡ Int (pos t) ∷ [])

-- the kind of the object that a target stands for
abbrev pub target_kind : State → Act → Outcome → Target → ℕ
target_kind s a out (Place place) = kind_at s a out place
target_kind s a out (Root kind at) = kind

-- the state of an object that is made, at its birth
abbrev pub birth_state : Make → State
birth_state make = record { drawn = 0; values = make.values; conts = []; ids = [] }

-- 1. an outcome names places and continuations of its hand alone, no managed object too often, and few in all, roots too
pub record NamesItsHand (s : State) (a : Act) (out : Outcome) : Type 0 where
  pub places : AllByRecursion (λ place. place < hand_size s a out) (mentions s a out)
  pub conts : AllByRecursion (λ number. number < length (hand_slots s a)) (uses out)
  pub each : (place : ℕ) → 16 ≤ kind_at s a out place → count_by (λ p. p == place) (mentions s a out) ≤ 8
  pub all : length (mentions s a out) + root_mentions out.sends ≤ 192

-- 3. slots of made objects are named once each; only a session draws slots of its own, in order
pub record NamesSlotsOnce (kind : ℕ) (s : State) (out : Outcome) : Type 0 where
  pub made : AllByRecursion (λ x. x.make < length out.makes) (made_slots out.sends)
  pub made_once : (make slot : ℕ) → count_by (is_made_slot make slot) (made_slots out.sends) ≤ 1
  pub session : kind ≢ 1 → drawn_slots out.sends ≡ []
  pub drawn : IsCount s.drawn (drawn_slots out.sends)
  pub counted : out.state.drawn ≡ s.drawn + length (drawn_slots out.sends)

-- 4. few of each; made objects are managed and name no other; only a session prints
pub record IsFew (kind : ℕ) (out : Outcome) : Type 0 where
  pub makes : length out.makes ≤ 32
  pub sends : length out.sends ≤ 32
  pub prints : length out.prints ≤ 16
  pub managed : AllByRecursion (λ make. IsManaged make.kind × (refs_in make.values ≡ [])) out.makes
  pub session : kind ≢ 1 → out.prints ≡ []
  pub short : AllByRecursion (λ bytes. length bytes ≤ 16384) out.prints

-- 5. whatever ids the made objects get, the new state, their states, the sends and the replies are well formed
pub record IsWellFormed (s : State) (a : Act) (out : Outcome) : Type 0 where
  pub state : (made : List Id) → IsState (state_after s a made out)
  pub births : AllByRecursion (λ make. IsState (birth_state make)) out.makes
  pub sends : (made : List Id) → AllByRecursion (λ x. IsMessage (sent s a made x)) out.sends
  pub replies : (made : List Id) → AllByRecursion (λ x. IsMessage (replied s a made x)) out.replies

-- the state stays as it was, and the action's own continuation is told the place
abbrev pub TellsThePlace : ℕ → State → Act → Outcome → Type 0
TellsThePlace here s a out = out ≡ stays s a (Int (pos here))

-- 6. no send is a SET or a LINE, and a MOVE is one; MOVE and WHERE tell the place and change nothing
pub record MovesRightly (n kind here : ℕ) (s : State) (a : Act) (out : Outcome) : Type 0 where
  pub codes : AllByRecursion (λ x. (x.code ≢ 3) × (x.code ≢ 4)) out.sends
  pub moves : AllByRecursion (λ x. x.code ≡ 1 → IsMovable (target_kind s a out x.target) × MovesBelow n x.args) out.sends
  pub moved : a.code ≡ 1 → IsMovable kind → MovesBelow 64 a.args → TellsThePlace here s a out
  pub place : a.code ≡ 2 → IsManaged kind → a.args ≡ [] → TellsThePlace here s a out

-- the outcome of an action on an object of a kind, at one of n localities
pub record KeepsLaws (n kind here : ℕ) (s : State) (a : Act) (out : Outcome) : Type 0 where
  pub names : NamesItsHand s a out
  -- 2. each continuation of the hand is used once: kept, handed on, or answered
  pub conts : UsesEachOnce (length (hand_slots s a)) (uses out)
  pub slots : NamesSlotsOnce kind s out
  pub few : IsFew kind out
  pub shapes : IsWellFormed s a out
  pub moves : MovesRightly n kind here s a out
  -- 7. an object of kind Plain keeps an empty state, and a root that a send names exists
  pub plain : kind ≡ 7 → s.values ≡ [] → s.conts ≡ [] → (out.state.values ≡ []) × (out.state.conts ≡ [])
  pub roots : AllByRecursion (λ x. IsTarget n x.target) out.sends
