-- Lists of calls on one object from its birth: what it holds after them, and who is told what.
use Rattle.std.specs.Prelude.{ℕ, pos, List, [], ◌∷◌, ◌++◌, Option, Some, None, length, take, drop, is_some}
use Rattle.hpx_calls.specs.Values.{Sort}
use Rattle.hpx_calls.specs.Requests.{Request}
use Rattle.hpx_calls.specs.Contents.{Content}
use Rattle.hpx_calls.specs.Effects.{Effect, Silent, Answers, Waits, Frees, Starts, Hands, Moves, Makes, Called}
use Rattle.hpx_calls.specs.Tables.{called}

-- a call: what is asked, and who waits for the answer, if anybody
pub record Call (V W : Type 0) : Type 0 where
  pub request : Request V
  pub waiter : Option W

-- an object: its content, and those that wait, the one that waits longest first
pub record Object (V W : Type 0) : Type 0 where
  pub content : Content V
  pub waiting : List W

-- what somebody is told: a value, or that an action with this code and these arguments is to answer
pub data Told (V W : Type 0) : Type 0 where
  Answered : (waiter : W) → (value : V) → Told V W
  Begun : (waiter : W) → (code : ℕ) → (args : List V) → Told V W

-- where and what calls are made on: the sort of values, the place, the kind, and what an object that is made is called
pub record Setting (V : Type 0) : Type 0 where
  pub sort : Sort V
  pub here : ℕ
  pub kind : ℕ
  pub made : V

-- the caller is told, if it waits
abbrev pub own : {V W : Type 0} → Option W → V → List (Told V W)
own None v = []
own (Some w) v = Answered w v ∷ []

-- each is told the same
abbrev pub each : {V W : Type 0} → V → List W → List (Told V W)
each v [] = []
each v (w ∷ ws) = Answered w v ∷ each v ws

-- an action is to answer
abbrev pub begun : {V W : Type 0} → ℕ → List V → List W → List (Told V W)
begun code args [] = []
begun code args (w ∷ ws) = Begun w code args ∷ []

-- the caller among those that wait, if it waits
abbrev pub joined : {W : Type 0} → List W → Option W → List W
joined ws None = ws
joined ws (Some w) = ws ++ w ∷ []

-- the caller alone, if it waits
abbrev pub alone : {W : Type 0} → Option W → List W
alone None = []
alone (Some w) = w ∷ []

-- those that wait after a call
abbrev pub still : {V W : Type 0} → Effect V → List W → Option W → List W
still Silent ws w = ws
still (Answers v) ws w = ws
still Waits ws w = joined ws w
still (Frees count v answer) ws w = drop count ws
still (Starts code args) ws w = ws
still (Hands code args answer) ws w = drop 1 ws
still (Moves to) ws w = ws
still (Makes x) ws w = ws

-- who is told what at a call, where so many wait
abbrev pub tells : {V W : Type 0} → Setting V → Effect V → List W → Option W → List (Told V W)
tells g Silent ws w = []
tells g (Answers v) ws w = own w v
tells g Waits ws w = []
tells g (Frees count v answer) ws w = each v (take count ws) ++ own w answer
tells g (Starts code args) ws w = begun code args (alone w)
tells g (Hands code args answer) ws w = begun code args ws ++ own w answer
tells g (Moves to) ws w = own w (g.sort.int (pos g.here))
tells g (Makes x) ws w = own w g.made

-- what a call does to an object
abbrev pub called_on : {V W : Type 0} → Setting V → Object V W → Call V W → Called V
called_on g o c = called g.sort g.here g.kind (length o.waiting) (is_some c.waiter) o.content c.request

-- the object after a call
abbrev pub next : {V W : Type 0} → Setting V → Object V W → Call V W → Object V W
next g o c = record { content = (called_on g o c).content; waiting = still (called_on g o c).effect o.waiting c.waiter }

-- the object after calls, of which the latest stands first
abbrev pub run : {V W : Type 0} → Setting V → Content V → List (Call V W) → Object V W
run g x [] = record { content = x; waiting = [] }
run g x (c ∷ h) = next g (run g x h) c

-- who is told what at a call that comes after others
abbrev pub says : {V W : Type 0} → Setting V → Content V → List (Call V W) → Call V W → List (Told V W)
says g x h c = tells g (called_on g (run g x h) c).effect (run g x h).waiting c.waiter
