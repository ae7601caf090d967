-- What calls on control objects are answered, as functions of the whole list of calls before, the latest first.
use Rattle.std.specs.Prelude.{ℕ, Bool, true, false, nat_le, nat_lt, List, [], ◌∷◌, ◌++◌, ◌+◌, ◌-◌, ◌%◌, ◌==◌, Option, Some, None, length, take, drop, if◌then◌else◌}
use Rattle.hpx_calls.specs.Values.{Sort, is_number_or_text, is_small}
use Rattle.hpx_calls.specs.declared.request.Request.{Request}
use Rattle.hpx_calls.specs.declared.request.Request.TheVariants.{Set, Get, Put, Close, Down, Wait, Arrive}
use Rattle.hpx_calls.specs.Tables.{is_first}
use Rattle.hpx_calls.specs.Histories.{Call, Told, own, each, joined}

-- ---- latches

-- one DOWN, or none
abbrev pub down_count : {V : Type 0} → Request V → ℕ
down_count Down = 1
down_count _ = 0

-- how many DOWNs there were in all
abbrev pub downs : {V W : Type 0} → List (Call V W) → ℕ
downs [] = 0
downs (c ∷ h) = downs h + down_count c.request

-- a WAIT that has a continuation comes behind those before
abbrev pub joins_wait : {V W : Type 0} → Request V → List W → Option W → List W
joins_wait Wait ws w = joined ws w
joins_wait _ ws w = ws

-- the WAITs of all calls that had a continuation, the oldest first
abbrev pub waits : {V W : Type 0} → List (Call V W) → List W
waits [] = []
waits (c ∷ h) = joins_wait c.request (waits h) c.waiter

-- of a latch of n the n-th DOWN answers the first 100 WAITs; later DOWNs are Spent
abbrev pub down_says : {V W : Type 0} → Sort V → ℕ → List (Call V W) → Option W → List (Told V W)
down_says k n h w =
    if nat_le n (downs h) then own w (k.fault 9)
    else if n == downs h + 1 then each k.nothing (take 100 (waits h)) ++ own w k.nothing
    else own w k.nothing

-- a WAIT is answered at once after the n-th DOWN; before it the first 100 wait, the others are Full
abbrev pub wait_says : {V W : Type 0} → Sort V → ℕ → List (Call V W) → Option W → List (Told V W)
wait_says k n h w = if nat_le n (downs h) then own w k.nothing else if nat_le 100 (length (waits h)) then own w (k.fault 10) else []

-- ---- promises

-- the value that a call sets, if it sets one
abbrev pub setting : {V : Type 0} → Sort V → Request V → Option V
setting k (Set slot v) = if is_first slot then Some v else None
setting k (Put v) = if is_number_or_text (k.look v) then Some v else None
setting k _ = None

-- the first of two, if it is there, else the second
abbrev pub or_else : {X : Type 0} → Option X → Option X → Option X
or_else (Some x) o = Some x
or_else None o = o

-- the first value that was set
abbrev pub first_set : {V W : Type 0} → Sort V → List (Call V W) → Option V
first_set k [] = None
first_set k (c ∷ h) = or_else (first_set k h) (setting k c.request)

-- a GET that has a continuation comes behind those before
abbrev pub joins_get : {V W : Type 0} → Request V → List W → Option W → List W
joins_get Get ws w = joined ws w
joins_get _ ws w = ws

-- the GETs of all calls that had a continuation, the oldest first
abbrev pub gets : {V W : Type 0} → List (Call V W) → List W
gets [] = []
gets (c ∷ h) = joins_get c.request (gets h) c.waiter

-- the first value answers the first 7 GETs; a later one is AlreadySet
abbrev pub set_says : {V W : Type 0} → Sort V → Option V → List W → V → Option W → List (Told V W)
set_says k (Some old) ws v w = own w (k.fault 6)
set_says k None ws v w = each v (take 7 ws) ++ own w k.nothing

-- a GET is answered the value, or waits for it; the eighth that would wait is Full
abbrev pub get_says : {V W : Type 0} → Sort V → Option V → List W → Option W → List (Told V W)
get_says k (Some v) ws w = own w v
get_says k None ws w = if nat_le 7 (length ws) then own w (k.fault 10) else []

-- ---- channels

-- whether a call is a CLOSE
abbrev pub is_close : {V : Type 0} → Request V → Bool
is_close Close = true
is_close _ = false

-- whether there was a CLOSE in all calls
abbrev pub closed : {V W : Type 0} → List (Call V W) → Bool
closed [] = false
closed (c ∷ h) = if is_close c.request then true else closed h

-- a value, if a channel takes it
abbrev pub small : {V : Type 0} → Sort V → V → Option V
small k v = if is_small (k.look v) then Some v else None

-- the value that a call puts: PUT, or SET of slot 0
abbrev pub putting : {V : Type 0} → Sort V → Request V → Option V
putting k (Set slot v) = if is_first slot then small k v else None
putting k (Put v) = small k v
putting k _ = None

-- the waiter of a GET
abbrev pub getting : {V W : Type 0} → Request V → Option W → Option W
getting Get w = w
getting _ w = None

-- all puts and gets that were accepted, the oldest first
pub record Accepted (V W : Type 0) : Type 0 where
  pub puts : List V
  pub gets : List W

-- a put is accepted while the channel is open, but for the one that would leave 1,000 more puts than gets behind
abbrev pub takes_put : {V W : Type 0} → Bool → Accepted V W → Bool
takes_put true a = false
takes_put false a = if length a.puts == length a.gets + 1000 then false else true

-- a get is accepted while there are more puts than gets; while the channel is open also up to 100 gets more than puts
abbrev pub takes_get : {V W : Type 0} → Bool → Accepted V W → Bool
takes_get true a = nat_lt (length a.gets) (length a.puts)
takes_get false a = if length a.gets == length a.puts + 100 then false else true

-- what is accepted with one more put, if the call puts one
abbrev pub with_put : {V W : Type 0} → Bool → Accepted V W → Option V → Accepted V W
with_put is a None = a
with_put is a (Some v) = if takes_put is a then record { puts = a.puts ++ v ∷ []; gets = a.gets } else a

-- what is accepted with one more get, if the call is one
abbrev pub with_get : {V W : Type 0} → Bool → Accepted V W → Option W → Accepted V W
with_get is a None = a
with_get is a (Some w) = if takes_get is a then record { puts = a.puts; gets = a.gets ++ w ∷ [] } else a

-- what was accepted in all calls
abbrev pub accepted : {V W : Type 0} → Sort V → List (Call V W) → Accepted V W
accepted k [] = record { puts = []; gets = [] }
accepted k (c ∷ h) = with_get (closed h) (with_put (closed h) (accepted k h) (putting k c.request)) (getting c.request c.waiter)

-- an accepted put goes to the get of its number, where there is one
abbrev pub put_says : {V W : Type 0} → Sort V → Bool → Accepted V W → V → Option W → List (Told V W)
put_says k is a v w =
    if is then own w (k.fault 8)
    else if takes_put is a then each v (take 1 (drop (length a.puts) a.gets)) ++ own w k.nothing
    else own w (k.fault 10)

-- a get receives the put of its number, where there is one
abbrev pub received : {V W : Type 0} → List V → Option W → List (Told V W)
received [] w = []
received (v ∷ vs) w = own w v

-- a get that is not accepted is Closed or Full
abbrev pub get_from : {V W : Type 0} → Sort V → Bool → Accepted V W → Option W → List (Told V W)
get_from k is a w =
    if takes_get is a then received (drop (length a.gets) a.puts) w
    else if is then own w (k.fault 8) else own w (k.fault 10)

-- at the first CLOSE each get past the puts is Closed
abbrev pub close_says : {V W : Type 0} → Sort V → Bool → Accepted V W → Option W → List (Told V W)
close_says k true a w = own w (k.fault 8)
close_says k false a w = each (k.fault 8) (drop (length a.puts) a.gets) ++ own w k.nothing

-- ---- barriers

-- an ARRIVE that has a continuation comes behind those before
abbrev pub joins_arrive : {V W : Type 0} → Request V → List W → Option W → List W
joins_arrive Arrive ws w = joined ws w
joins_arrive _ ws w = ws

-- the ARRIVEs of all calls that had a continuation, the oldest first
abbrev pub arrivals : {V W : Type 0} → List (Call V W) → List W
arrivals [] = []
arrivals (c ∷ h) = joins_arrive c.request (arrivals h) c.waiter

-- the ARRIVE whose number is a multiple of n answers itself and the n - 1 before it
abbrev pub arrive_says : {V W : Type 0} → Sort V → ℕ → List W → Option W → List (Told V W)
arrive_says k n ws w = if (length ws + 1) % n == 0 then each k.nothing (drop (length ws + 1 - n) ws) ++ own w k.nothing else []
