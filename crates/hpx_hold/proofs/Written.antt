-- What nodes write behind the entry that begins a step: entries that begin none.
use Rattle.std.proofs.Common.{ℕ, zero, suc, Bool, true, false, ◌≡◌, refl, List, [], ◌∷◌, ◌++◌, ◌+◌, Option, Some, None, map, sym, subst, inl, inr}
use Rattle.std.specs.Prelude.{cond, if◌then◌else◌, nat_lt}
use Rattle.std.specs.List.{AllByRecursion, find}
use Rattle.std.proofs.lemmas.Bool.{cases_Bool}
use Rattle.hpx_value.specs.Ids.{bare}
use Rattle.hpx_value.specs.Riders.{due_with, plain, rider_of}
use Rattle.hpx_value.specs.declared.acts.Job.{Job}
use Rattle.hpx_journal.specs.Data.{Id, Outcome, Due, MessageDue, PrintDue, Parcel, Return, Ask, Give, Shipped, Arrived, Free}
use Rattle.hpx_journal.specs.Entries.{name_of, target_of}
use Rattle.hpx_journal.specs.Local.{is_standing}
use Rattle.hpx_journal.proofs.Alls.{all-append}
use Rattle.hpx_part.specs.Data.{Event, Done, Merge, Up, Count, Granted, Refused, Landed, Standing}
use Rattle.hpx_commit.specs.Deals.{half, named, unnamed}
use Rattle.hpx_commit.specs.Stocks.{Stock, halvings}
use Rattle.hpx_tables.specs.declared.births.Birth.{Birth}
use Rattle.hpx_tables.specs.Splits.{first_cuts, asked_events, cuts, splits_from}
use Rattle.hpx_node.specs.Asks.{own_many, hand_before, splits_before, lacking}
use Rattle.hpx_tables.specs.Births.{birth_of, births_of}
use Rattle.hpx_node.specs.Commits.{seen, made_of, own_stock, state_dealt, committed_from, committed, places_in_hand}
use Rattle.hpx_node.specs.Fails.{dooms, failed_events, due_left, ups_left, FailsWith}
use Rattle.hpx_steps.specs.Calls.{up_of, ups, rider_event, rider_events, written_due, returned, freed, effects, may_land, more_here}
use Rattle.hpx_tables.specs.Kept.{count_here}
use Rattle.hpx_tables.specs.Merged.{may_merge}
use Rattle.hpx_node.specs.Next.{Continues}
use Rattle.hpx_tables.specs.Pending.{Waits}
use Rattle.hpx_node.specs.Resumes.{completes, full_stock, GoesWith}
use Rattle.hpx_tables.specs.Tables.{Tables}
use Rattle.hpx_hold.specs.Turns.{begins_step}

-- an entry that begins no step
abbrev pub BeginsNone : Event → Type 0
BeginsNone e = begins_step e ≡ false

-- all of them
abbrev pub BeginNone : List Event → Type 0
BeginNone es = AllByRecursion BeginsNone es

-- ---- a commit

births_none : (here n : ℕ) (xs : List Birth) → BeginNone (births_of here n xs)
births_none here n [] = tt
births_none here n (x ∷ xs) = (refl, births_none here (n + 1) xs)

cuts_none : (id : Id) (n : ℕ) → BeginNone (cuts id n)
cuts_none id zero = tt
cuts_none id (suc zero) = tt
cuts_none id (suc (suc n)) = (refl, cuts_none (half id) (suc n))

splits_none : (p : ℕ) (ids : List Id) (places : List ℕ) → BeginNone (splits_from p ids places)
splits_none p [] places = tt
splits_none p (id ∷ ids) places =
    all-append BeginsNone (cuts id (named places p)) (splits_from (p + 1) ids places) (cuts_none id (named places p)) (splits_none (p + 1) ids places)

written_none : (here serial : ℕ) (due : List Due) → BeginNone (written_due here serial due)
written_none here serial [] = tt
written_none here serial (MessageDue m ∷ rest) = (refl, written_none here (serial + 1) rest)
written_none here serial (PrintDue bytes ∷ rest) = (refl, written_none here serial rest)

up_none : (id : Id) (log : Option ℕ) (rest : List Event) → BeginNone rest → BeginNone (up_of id log ++ rest)
up_none id None rest h = h
up_none id (Some log) rest h = (refl, h)

ups_none : (ids : List Id) → BeginNone (ups ids)
ups_none [] = tt
ups_none (id ∷ ids) = up_none id id.log (ups ids) (ups_none ids)

merged_none : (id : Id) (log : ℕ) (b : Bool) → BeginNone (cond b (Merge (bare id) log) (Up (bare id) log) ∷ [])
merged_none id log true = (refl, tt)
merged_none id log false = (refl, tt)

rider_none : (most : ℕ) (ids : List Id) (id : Id) (log : Option ℕ) → BeginNone (rider_event most ids id log)
rider_none most ids id None = tt
rider_none most ids id (Some log) = merged_none id log (may_merge most id log ids)

riders_none : (most : ℕ) (ids riders : List Id) → BeginNone (rider_events most ids riders)
riders_none most ids [] = tt
riders_none most ids (id ∷ riders) = rider_none most ids id id.log

from_none : (t : Tables) (job : Job) (out : Outcome) (s : Stock) → BeginNone (committed_from t job out s)
from_none t job out s =
    let due = written_due t.here t.serial (due_with job.state (plain job.action) (made_of t out) out) in
    let most = t.profile.credit_log in
    let ids = (state_dealt t (seen job) out s).ids in
    let gives = rider_events most ids (rider_of job.action) ++ ups (unnamed s.hand s.places) in
    let gives_none = all-append BeginsNone (rider_events most ids (rider_of job.action)) (ups (unnamed s.hand s.places))
    (riders_none most ids (rider_of job.action)) (ups_none (unnamed s.hand s.places)) in
    let end = all-append BeginsNone due gives (written_none t.here t.serial (due_with job.state (plain job.action) (made_of t out) out)) gives_none in
    all-append BeginsNone (births_of t.here t.births (map birth_of out.makes)) _ (births_none t.here t.births (map birth_of out.makes))
    (all-append BeginsNone (splits_from 0 s.hand s.places) (Done (name_of job.action) false ∷ (due ++ gives)) (splits_none 0 s.hand s.places) (refl, end))

pub committed_none : (t : Tables) (job : Job) (out : Outcome) → BeginNone (committed t job out)
committed_none t job out = from_none t job out (own_stock t (seen job) out)

-- ---- a commit that begins to wait

first_none : (k p : ℕ) (ids : List Id) (places : List ℕ) → BeginNone (first_cuts k p ids places)
first_none zero p ids places = tt
first_none (suc k) p [] places = tt
first_none (suc k) p (id ∷ ids) places =
    let n = suc (halvings id (named places p)) in
    all-append BeginsNone (cuts id n) (first_cuts k (p + 1) ids places) (cuts_none id n) (first_none k (p + 1) ids places)

asked_none : (ids : List Id) → BeginNone (asked_events ids)
asked_none [] = tt
asked_none (id ∷ ids) = (refl, asked_none ids)

pub begins_none : (t : Tables) (job : Job) (out : Outcome) → BeginNone (splits_before t job out ++ asked_events (lacking t job out))
begins_none t job out =
    all-append BeginsNone (splits_before t job out) (asked_events (lacking t job out))
    (first_none (own_many job) 0 (hand_before t job out) (places_in_hand t job out)) (asked_none (lacking t job out))

-- ---- a message that is dealt with

returned_none : (t : Tables) (id : Id) (log : Option ℕ) → BeginNone (returned t id log)
returned_none t id None = tt
returned_none t id (Some log) = (refl, tt)

answered_none : (t : Tables) (id : Id) (b : Bool)
    → BeginNone ((if b then Count (bare id) (count_here t id) Refused else Count (bare id) (more_here t id) Granted) ∷ [])
answered_none t id true = (refl, tt)
answered_none t id false = (refl, tt)

freed_none : (o : Id) (x : Option Standing) → BeginNone (freed o x)
freed_none o None = tt
freed_none o (Some x) = (refl, ups_none x.state.ids)

landed_none : (o : Id) (b : Bool) → BeginNone (cond b (Landed (bare o) ∷ []) [])
landed_none o true = (refl, tt)
landed_none o false = tt

pub effects_none : (t : Tables) (p : Parcel) → BeginNone (effects t p)
effects_none t (Return id) = returned_none t id id.log
effects_none t (Ask id asker entry) = answered_none t id (nat_lt t.profile.credit_limit (more_here t id))
effects_none t (Give id entry) = (refl, tt)
effects_none t (Free o) = freed_none o (find (is_standing o) t.objects)
effects_none t (Arrived id place) = returned_none t id id.log
effects_none t (Shipped act state) = landed_none (target_of act) (may_land t act)
effects_none t _ = tt

-- ---- what follows it

failed_none : (t : Tables) (w : Waits) → BeginNone (failed_events t w)
failed_none t w =
    (refl, all-append BeginsNone (written_due t.here t.serial (due_left w)) (ups (ups_left w)) (written_none t.here t.serial (due_left w)) (ups_none (ups_left w)))

goes_none : (p : Parcel) (t mid t' : Tables) (more : List Event) → GoesWith p t mid t' more → BeginNone more
goes_none (Give id entry) t mid t' more h =
    let w = h.gives.after in subst BeginNone (sym h.goes.what) (from_none mid w.job w.outcome (full_stock mid w))
goes_none _ t mid t' more h = absurd h

fails_none : (p : Parcel) (t mid t' : Tables) (more : List Event) → FailsWith p t mid t' more → BeginNone more
fails_none (Give id entry) t mid t' more h = subst BeginNone (sym h.what) (failed_none mid h.gives.after)
fails_none _ t mid t' more h = absurd h

continues_none : (p : Parcel) (t mid t' : Tables) (more : List Event) → Continues p t mid t' more → BeginNone more
continues_none p t mid t' more c = elim (cases_Bool (completes t p)) [
  | inl goes ↦ goes_none p t mid t' more (c.goes goes)
  | inr stays ↦ elim (cases_Bool (dooms t p)) [
    | inl fails ↦ fails_none p t mid t' more (c.fails fails)
    | inr rests ↦ subst BeginNone (sym (c.rests stays rests).1) tt
  ]
]

-- what is written behind the entry that takes up a message
pub dealt_none : (t : Tables) (p : Parcel) (before mid t' : Tables) (more : List Event) → Continues p before mid t' more
    → BeginNone (effects t p ++ more)
dealt_none t p before mid t' more c = all-append BeginsNone (effects t p) more (effects_none t p) (continues_none p before mid t' more c)
