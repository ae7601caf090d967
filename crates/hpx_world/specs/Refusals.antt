-- What a turn does, by what it is asked; and why a turn, a step or steps were refused, by the fault.
use Rattle.std.specs.Prelude.{ℕ, ◌≡◌, ◌≢◌, ◌≤◌, ◌<◌, ◌^◌, ◌-◌, ◌⊎◌, Option, Some, None, Result, Ok, Err, length, min, sum_by}
use Rattle.hpx_value.specs.declared.acts.Acts.{Ghosts}
use Rattle.hpx_value.specs.declared.acts.Done.{Done}
use Rattle.hpx_journal.specs.Entries.{Rules}
use Rattle.hpx_journal.specs.Weights.{HasRoom, total_weight}
use Rattle.hpx_ports.specs.Faults.{Rose}
use Rattle.hpx_world.specs.declared.turns.WorldFault.{WorldFault}
use Rattle.hpx_world.specs.declared.turns.WorldFault.TheVariants as faults
use Rattle.hpx_world.specs.declared.turns.Choice.{Choice}
use Rattle.hpx_world.specs.declared.turns.Choice.TheVariants as choices
use Rattle.hpx_world.specs.declared.turns.Turned.{Turned}
use Rattle.hpx_world.specs.declared.turns.Turned.TheVariants as turned
use Rattle.hpx_world.specs.Sound.{Meaning, IsSame}
use Rattle.hpx_world.specs.Away.{Fetches, Puts, Keeps}
use Rattle.hpx_world.specs.Stages.{Stage}
use Rattle.hpx_node.specs.Handled.{HasNothingToTend}
use Rattle.hpx_world.specs.Quiet.{IsStuck, SendsNothing}
use Rattle.hpx_world.specs.Steps.{IsEarly, AtFirst, DidHandOut, DidHandBack, GoesTo, NoneFires, NoneClears, NonePumps}
use Rattle.hpx_world.specs.Turns.{DidFeed, DidFire, DidFinish, DidDesk, DidPump, DidTake, HoldsBadFrame, HoldsStrangeFrame, HoldsRightFrame, IsStrangeMail, HasToTend, HasToFire, HasToSend, HasJob}

-- ---- what a turn does

-- what may be asked of n localities: a line is short, and a locality is one that there is
abbrev pub IsAsked : {A : Type 0} {g : Ghosts A} → ℕ → Choice A g → Type 0
IsAsked n (choices.Feed line) = length line ≤ 1025
IsAsked n (choices.Fire k) = k < n
IsAsked n (choices.Finish done) = done.job.at < n
IsAsked n (choices.Desk k) = k < n
IsAsked n (choices.Pump k) = k < n
IsAsked n choices.Take = Unit {0}

-- a turn did what its locality did, and nothing came of it elsewhere
abbrev pub Did : {A : Type 0} {g : Ghosts A} → Choice A g → Turned → Stage → Stage → Type 0
Did (choices.Feed line) t x z = DidFeed line t x.nodes z.nodes x.entries z.entries × (z.outside ≡ x.outside)
Did (choices.Fire k) t x z = DidFire k t x.nodes z.nodes x.entries z.entries × (z.outside ≡ x.outside)
Did (choices.Finish done) t x z = DidFinish done.localities done.job done.outcome t x.nodes z.nodes x.entries z.entries × (z.outside ≡ x.outside)
Did (choices.Desk k) t x z = DidDesk k t x.nodes z.nodes x.entries z.entries × (z.outside ≡ x.outside)
Did (choices.Pump k) t x z =
    DidPump (Puts k x.outside.flight z.outside.flight x.outside.trace z.outside.trace) k t x.nodes z.nodes x.entries z.entries × (z.outside.hand ≡ x.outside.hand)
Did choices.Take t x z =
    DidTake (Fetches x.outside.hand x.outside.flight z.outside.flight x.outside.trace z.outside.trace) t x.nodes z.nodes x.entries z.entries × (z.outside.hand ≡ None)

-- a turn that feeds no line
abbrev pub FeedsNoLine : {A : Type 0} {g : Ghosts A} → Choice A g → Type 0
FeedsNoLine (choices.Feed line) = ⊥
FeedsNoLine _ = Unit {0}

-- a turn that hands out no job and takes none back
abbrev pub RunsNothing : {A : Type 0} {g : Ghosts A} → Choice A g → Type 0
RunsNothing (choices.Fire k) = ⊥
RunsNothing (choices.Finish done) = ⊥
RunsNothing _ = Unit {0}

-- a turn of which it is known that it leaves the fabric alone: all but a Pump that found a message, or was refused, and a Take with
-- an empty hand
abbrev pub IsApart : {A E : Type 0} {g : Ghosts A} → Choice A g → Result Turned E → Stage → Type 0
IsApart (choices.Pump k) result x = result ≡ Ok turned.Empty
IsApart choices.Take result x = x.outside.hand ≢ None
IsApart _ result x = Unit {0}

-- ---- why it is refused

-- the job that was to be committed
abbrev pub undone_of : {A : Type 0} {g : Ghosts A} → Choice A g → Option (Done A g)
undone_of (choices.Finish done) = Some done
undone_of _ = None

-- no node has changed, nor the journal
abbrev pub Stays : Stage → Stage → Type 0
Stays x z = IsSame x.nodes z.nodes x.entries z.entries

-- nor has anything outside
abbrev pub StaysAll : Stage → Stage → Type 0
StaysAll x z = Stays x z × (z.outside ≡ x.outside)

-- save that what was fetched is in hand
abbrev pub StaysButHand : Stage → Stage → Type 0
StaysButHand x z = Stays x z × Keeps x.outside.hand x.outside.flight z.outside.flight x.outside.trace z.outside.trace z.outside.hand

-- nor was a frame there to be fetched
abbrev pub FindsNone : Stage → Stage → Type 0
FindsNone x z = Stays x z × Fetches x.outside.hand x.outside.flight z.outside.flight x.outside.trace z.outside.trace None

-- the journal has no room for a turn, and these are its numbers
pub record IsFull (x : Stage) (entries weight : ℕ) : Type 0 where
  pub full : HasRoom x.entries → ⊥
  pub entries_are : entries ≡ length x.entries
  pub weight_is : weight ≡ min (2 ^ 64 - 1) (total_weight x.entries)

-- a Take: a frame that spells nothing or breaks a rule is in hand; or none is left, and not as many came as were sent
abbrev pub RefusedTake : {A : Type 0} {g : Ghosts A} → WorldFault A g → Stage → Stage → Type 0
RefusedTake faults.Fabric x z = StaysAll x z
RefusedTake (faults.BadFrame to place why) x z = StaysButHand x z × HoldsBadFrame z.outside.hand to place why
RefusedTake (faults.Strange to rule object kept) x z = StaysButHand x z × HoldsStrangeFrame z.nodes z.outside.hand to rule object kept
RefusedTake (faults.EarlyEnd sent taken) x z =
    Stays x z × (z.outside.hand ≡ None) × (sent ≡ sum_by (λ t. t.sent) x.nodes) × (taken ≡ sum_by (λ t. t.taken) x.nodes) × (sent ≢ taken)
    × Fetches x.outside.hand x.outside.flight z.outside.flight x.outside.trace z.outside.trace None
RefusedTake (faults.OutOfMemory undone) x z = StaysButHand x z × (undone ≡ None) × HoldsRightFrame z.nodes z.outside.hand z.outside.flight
RefusedTake _ x z = ⊥

-- a Desk at k: its oldest message breaks a rule, or for want of memory for one that breaks none
abbrev pub RefusedDesk : {A : Type 0} {g : Ghosts A} → ℕ → WorldFault A g → Stage → Stage → Type 0
RefusedDesk k (faults.Strange to rule object kept) x z = StaysAll x z × (to ≡ k) × IsStrangeMail z.nodes k rule object kept
RefusedDesk k (faults.OutOfMemory undone) x z = StaysAll x z × (undone ≡ None) × HasToTend z.nodes k
RefusedDesk k _ x z = ⊥

-- a Pump of k: the fabric failed, or for want of memory; a message waits there
abbrev pub RefusedPump : {A : Type 0} {g : Ghosts A} → ℕ → WorldFault A g → Stage → Stage → Type 0
RefusedPump k faults.Fabric x z = StaysAll x z × HasToSend z.nodes k
RefusedPump k (faults.OutOfMemory undone) x z = StaysAll x z × (undone ≡ None) × HasToSend z.nodes k
RefusedPump k _ x z = ⊥

-- a Fire at k: for want of memory, and an action may be fired there
abbrev pub RefusedFire : {A : Type 0} {g : Ghosts A} → ℕ → WorldFault A g → Stage → Stage → Type 0
RefusedFire k (faults.OutOfMemory undone) x z = StaysAll x z × (undone ≡ None) × HasToFire z.nodes k
RefusedFire k _ x z = ⊥

-- a Finish: for want of memory, and the job is out at its locality; it is handed back
abbrev pub RefusedFinish : {A : Type 0} {g : Ghosts A} → Done A g → WorldFault A g → Stage → Stage → Type 0
RefusedFinish done (faults.OutOfMemory undone) x z = StaysAll x z × (undone ≡ Some done) × HasJob z.nodes done.localities done.job
RefusedFinish done _ x z = ⊥

-- a Feed: for want of memory alone
abbrev pub RefusedFeed : {A : Type 0} {g : Ghosts A} → WorldFault A g → Stage → Stage → Type 0
RefusedFeed (faults.OutOfMemory undone) x z = StaysAll x z × (undone ≡ None)
RefusedFeed _ x z = ⊥

-- a turn in a journal with room
abbrev pub RefusedBy : {A : Type 0} {g : Ghosts A} → Choice A g → WorldFault A g → Stage → Stage → Type 0
RefusedBy (choices.Fire k) fault x z = RefusedFire k fault x z
RefusedBy (choices.Desk k) fault x z = RefusedDesk k fault x z
RefusedBy (choices.Pump k) fault x z = RefusedPump k fault x z
RefusedBy choices.Take fault x z = RefusedTake fault x z
RefusedBy (choices.Finish done) fault x z = RefusedFinish done fault x z
RefusedBy (choices.Feed line) fault x z = RefusedFeed fault x z

-- a turn: room is looked at first
abbrev pub Refused : {A : Type 0} {g : Ghosts A} → Choice A g → WorldFault A g → Stage → Stage → Type 0
Refused c (faults.JournalFull entries weight undone) x z = StaysAll x z × IsFull x entries weight × (undone ≡ undone_of c)
Refused c fault x z = HasRoom x.entries × RefusedBy c fault x z

-- a Fire at k with the Finish of its job: for a full journal or for want of memory
abbrev pub RefusedWork : {A : Type 0} {g : Ghosts A} → ℕ → WorldFault A g → Stage → Stage → Type 0
RefusedWork k (faults.JournalFull entries weight None) x z = StaysAll x z × IsFull x entries weight
RefusedWork k (faults.JournalFull entries weight (Some done)) x z = HasRoom x.entries × DidHandOut done.localities done.job k x z × IsFull z entries weight
RefusedWork k (faults.OutOfMemory None) x z = HasRoom x.entries × StaysAll x z × HasToFire z.nodes k
RefusedWork k (faults.OutOfMemory (Some done)) x z = HasRoom x.entries × HasRoom z.entries × DidHandOut done.localities done.job k x z
RefusedWork k (faults.NotRun job) x z = HasRoom x.entries × DidHandOut (length z.nodes) job k x z
RefusedWork k _ x z = ⊥

-- for want of memory, the first turn of these that could be made was not, at the first locality that can: an action may be fired; the
-- oldest message to an own locality breaks no rule, or an object may leave; a message to another waits; the frame in hand breaks no
-- rule, or none is in hand and one may be in flight
abbrev pub LacksMemory : Stage → Stage → Type 0
LacksMemory x z =
    (AtFirst IsStuck (HasToFire x.nodes) x.nodes × (z.outside ≡ x.outside))
    ⊎ (NoneFires x × AtFirst HasNothingToTend (HasToTend x.nodes) x.nodes × (z.outside ≡ x.outside))
    ⊎ (NoneClears x × AtFirst SendsNothing (HasToSend x.nodes) x.nodes × (z.outside ≡ x.outside))
    ⊎ (NonePumps x × HoldsRightFrame z.nodes z.outside.hand z.outside.flight)

-- a step: what goes before could not be done, or its first action was fired and the job is handed back
abbrev pub RefusedStep : {A : Type 0} {g : Ghosts A} → WorldFault A g → Stage → Stage → Type 0
RefusedStep {A} {g} (faults.JournalFull entries weight None) x z = StaysAll x z × IsFull x entries weight
RefusedStep {A} {g} (faults.JournalFull entries weight (Some done)) x z = HasRoom x.entries × DidHandBack done.localities done.job x z × IsFull z entries weight
RefusedStep {A} {g} (faults.OutOfMemory None) x z = HasRoom x.entries × StaysButHand x z × LacksMemory x z
RefusedStep {A} {g} (faults.OutOfMemory (Some done)) x z = HasRoom x.entries × HasRoom z.entries × DidHandBack done.localities done.job x z
RefusedStep {A} {g} (faults.NotRun job) x z = HasRoom x.entries × DidHandBack (length z.nodes) job x z
RefusedStep {A} {g} faults.Fabric x z = HasRoom x.entries × NoneClears x × StaysAll x z
RefusedStep {A} {g} (faults.BadFrame to place why) x z = HasRoom x.entries × NonePumps x × RefusedTake {A = A} {g = g} (faults.BadFrame to place why) x z
RefusedStep {A} {g} (faults.Strange to rule object kept) x z =
    HasRoom x.entries × ((NonePumps x × RefusedTake {A = A} {g = g} (faults.Strange to rule object kept) x z)
    ⊎ (NoneFires x × AtFirst HasNothingToTend (λ k. RefusedDesk {A = A} {g = g} k (faults.Strange to rule object kept) x z) x.nodes))
RefusedStep {A} {g} (faults.EarlyEnd sent taken) x z = HasRoom x.entries × NonePumps x × RefusedTake {A = A} {g = g} (faults.EarlyEnd sent taken) x z

-- steps, and then one that is refused; or nothing applies and no frame was there, no job is out, and the world is not quiet
abbrev pub RefusedDrain : {A : Type 0} {g : Ghosts A} → Meaning → WorldFault A g → Stage → Stage → Type 0
RefusedDrain act_of (faults.EarlyEnd sent taken) x z =
    HasRoom z.entries × IsEarly z.nodes z.outside.hand z.outside.flight sent taken × GoesTo act_of x (λ last. FindsNone last z)
RefusedDrain act_of fault x z = GoesTo act_of x (λ last. RefusedStep fault last z)

-- no job is handed back
abbrev pub HandsNoJob : {T A : Type 0} {g : Ghosts A} → Result T (WorldFault A g) → Type 0
HandsNoJob (Err (faults.JournalFull entries weight (Some done))) = ⊥
HandsNoJob (Err (faults.OutOfMemory (Some done))) = ⊥
HandsNoJob (Err (faults.NotRun job)) = ⊥
HandsNoJob _ = Unit {0}

-- ---- faults and the fabric

-- the fabric's count of faults rose where it is said to have failed, and stands else
abbrev pub CountsFaults : {T A : Type 0} {g : Ghosts A} → Result T (WorldFault A g) → ℕ → ℕ → Type 0
CountsFaults (Err faults.Fabric) old new = Rose old new
CountsFaults _ old new = new ≡ old

-- over a fabric that tells: no frame is bad, no parcel is strange, and no end is early
abbrev pub CanCome : {A : Type 0} {g : Ghosts A} → Rules → WorldFault A g → Type 0
CanCome r (faults.BadFrame to place why) = ⊥
CanCome r (faults.Strange to rule object kept) = ⊥
CanCome r (faults.EarlyEnd sent taken) = ⊥
CanCome r _ = Unit {0}
