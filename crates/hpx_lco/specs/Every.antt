-- What every call on a control object is told, from the whole list of calls before, the latest first.
use Rattle.std.specs.Prelude.{ℕ, pos, List, [], Option, Some, None, if◌then◌else◌}
use Rattle.hpx_calls.specs.Values.{is_number_or_text, is_small}
use Rattle.hpx_calls.specs.declared.request.Request.{Request}
use Rattle.hpx_calls.specs.declared.request.Request.TheVariants.{Where, Set, Get, Put, PutAt, Close, Down, Wait, Arrive}
use Rattle.hpx_calls.specs.Tables.{is_first}
use Rattle.hpx_calls.specs.Histories.{Setting, Call, Told, own}
use Rattle.hpx_lco.specs.Answered.{down_says, wait_says, first_set, gets, set_says, get_says, closed, accepted, put_says, get_from, close_says, arrivals, arrive_says}
use Rattle.hpx_lco.specs.Flows.{give_says, ask_says}

-- WHERE is told the place
abbrev pub place_says : {V W : Type 0} → Setting V → Option W → List (Told V W)
place_says g w = own w (g.sort.int (pos g.here))

-- a call that is not listed, or has another shape, is told NoAction
abbrev pub wrong_says : {V W : Type 0} → Setting V → Option W → List (Told V W)
wrong_says g w = own w (g.sort.fault 11)

-- a promise that is empty at its birth; a SET of another slot and a GET that nobody waits for are told nothing
abbrev pub promise_says : {V W : Type 0} → Setting V → List (Call V W) → Request V → Option W → List (Told V W)
promise_says g h (Put v) w = if is_number_or_text (g.sort.look v) then set_says g.sort (first_set g.sort h) (gets h) v w else wrong_says g w
promise_says g h (Set slot v) w = if is_first slot then set_says g.sort (first_set g.sort h) (gets h) v w else []
promise_says g h Get None = []
promise_says g h Get (Some w) = get_says g.sort (first_set g.sort h) (gets h) (Some w)
promise_says g h Where w = place_says g w
promise_says g h _ w = wrong_says g w

-- a dataflow of n inputs that starts an action with a code
abbrev pub dataflow_says : {V W : Type 0} → Setting V → ℕ → ℕ → List (Call V W) → Request V → Option W → List (Told V W)
dataflow_says g code n h (Set slot v) w = give_says g.sort code n h (record { request = Set slot v; waiter = w }) slot
dataflow_says g code n h (PutAt slot v) w = give_says g.sort code n h (record { request = PutAt slot v; waiter = w }) slot
dataflow_says g code n h Get None = []
dataflow_says g code n h Get (Some w) = ask_says g.sort code n h w
dataflow_says g code n h Where w = place_says g w
dataflow_says g code n h _ w = wrong_says g w

-- a channel that is open and empty at its birth
abbrev pub channel_says : {V W : Type 0} → Setting V → List (Call V W) → Request V → Option W → List (Told V W)
channel_says g h (Put v) w = if is_small (g.sort.look v) then put_says g.sort (closed h) (accepted g.sort h) v w else wrong_says g w
channel_says g h (Set slot v) w =
    if is_first slot then (if is_small (g.sort.look v) then put_says g.sort (closed h) (accepted g.sort h) v w else wrong_says g w) else []
channel_says g h Get None = []
channel_says g h Get (Some w) = get_from g.sort (closed h) (accepted g.sort h) (Some w)
channel_says g h Close w = close_says g.sort (closed h) (accepted g.sort h) w
channel_says g h Where w = place_says g w
channel_says g h _ w = wrong_says g w

-- a latch of n
abbrev pub latch_says : {V W : Type 0} → Setting V → ℕ → List (Call V W) → Request V → Option W → List (Told V W)
latch_says g n h Down w = down_says g.sort n h w
latch_says g n h Wait None = []
latch_says g n h Wait (Some w) = wait_says g.sort n h (Some w)
latch_says g n h Where w = place_says g w
latch_says g n h _ w = wrong_says g w

-- a barrier of n
abbrev pub barrier_says : {V W : Type 0} → Setting V → ℕ → List (Call V W) → Request V → Option W → List (Told V W)
barrier_says g n h Arrive None = []
barrier_says g n h Arrive (Some w) = arrive_says g.sort n (arrivals h) (Some w)
barrier_says g n h Where w = place_says g w
barrier_says g n h _ w = wrong_says g w
