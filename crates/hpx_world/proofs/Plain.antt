-- What nodes write beside frames and lines: events that move no frame and feed nothing.
use Rattle.std.proofs.Common.{ℕ, zero, suc, Bool, true, false, List, [], ◌∷◌, ◌++◌, ◌+◌, Option, Some, None, map, sym, subst, inl, inr}
use Rattle.std.specs.Prelude.{cond, if◌then◌else◌, nat_lt}
use Rattle.std.specs.List.{AllByRecursion, find}
use Rattle.std.proofs.lemmas.Bool.{cases_Bool}
use Rattle.hpx_value.specs.Ids.{bare}
use Rattle.hpx_value.specs.Riders.{due_with, plain, rider_of}
use Rattle.hpx_value.specs.declared.acts.Job.{Job}
use Rattle.hpx_journal.specs.Data.{Id, Outcome, Due, MessageDue, PrintDue, Parcel, Return, Ask, Give, Shipped, Arrived, Free}
use Rattle.hpx_journal.specs.Entries.{name_of, target_of}
use Rattle.hpx_journal.specs.Local.{is_standing}
use Rattle.hpx_journal.proofs.Alls.{all-append}
use Rattle.hpx_part.specs.Data.{Event, Line, Out, In, Done, Merge, Up, Count, Granted, Refused, Landed, Standing}
use Rattle.hpx_commit.specs.Deals.{half, named, unnamed}
use Rattle.hpx_commit.specs.Stocks.{Stock, halvings}
use Rattle.hpx_tables.specs.declared.births.Birth.{Birth}
use Rattle.hpx_tables.specs.Splits.{first_cuts, asked_events, cuts, splits_from}
use Rattle.hpx_node.specs.Asks.{own_many, hand_before, splits_before, lacking}
use Rattle.hpx_tables.specs.Births.{birth_of, births_of}
use Rattle.hpx_node.specs.Commits.{seen, made_of, own_stock, state_dealt, committed_from, committed, places_in_hand}
use Rattle.hpx_node.specs.Fails.{dooms, failed_events, due_left, ups_left, FailsWith}
use Rattle.hpx_steps.specs.Calls.{up_of, ups, rider_event, rider_events, written_due, returned, freed, effects, may_land, more_here}
use Rattle.hpx_tables.specs.Kept.{count_here}
use Rattle.hpx_tables.specs.Merged.{may_merge}
use Rattle.hpx_node.specs.Next.{Continues}
use Rattle.hpx_tables.specs.Pending.{Waits}
use Rattle.hpx_node.specs.Resumes.{completes, full_stock, GoesWith}
use Rattle.hpx_tables.specs.Tables.{Tables}

-- an event of no frame and no line
abbrev pub IsPlain : Event → Type 0
IsPlain (Line a bytes) = ⊥
IsPlain (Out to bytes) = ⊥
IsPlain (In bytes) = ⊥
IsPlain _ = Unit {0}

-- all of them
abbrev pub ArePlain : List Event → Type 0
ArePlain es = AllByRecursion IsPlain es

-- ---- a commit

births_plain : (here n : ℕ) (xs : List Birth) → ArePlain (births_of here n xs)
births_plain here n [] = tt
births_plain here n (x ∷ xs) = (tt, births_plain here (n + 1) xs)

cuts_plain : (id : Id) (n : ℕ) → ArePlain (cuts id n)
cuts_plain id zero = tt
cuts_plain id (suc zero) = tt
cuts_plain id (suc (suc n)) = (tt, cuts_plain (half id) (suc n))

splits_plain : (p : ℕ) (ids : List Id) (places : List ℕ) → ArePlain (splits_from p ids places)
splits_plain p [] places = tt
splits_plain p (id ∷ ids) places =
    all-append IsPlain (cuts id (named places p)) (splits_from (p + 1) ids places) (cuts_plain id (named places p)) (splits_plain (p + 1) ids places)

written_plain : (here serial : ℕ) (due : List Due) → ArePlain (written_due here serial due)
written_plain here serial [] = tt
written_plain here serial (MessageDue m ∷ rest) = (tt, written_plain here (serial + 1) rest)
written_plain here serial (PrintDue bytes ∷ rest) = (tt, written_plain here serial rest)

up_plain : (id : Id) (log : Option ℕ) (rest : List Event) → ArePlain rest → ArePlain (up_of id log ++ rest)
up_plain id None rest h = h
up_plain id (Some log) rest h = (tt, h)

ups_plain : (ids : List Id) → ArePlain (ups ids)
ups_plain [] = tt
ups_plain (id ∷ ids) = up_plain id id.log (ups ids) (ups_plain ids)

merged_plain : (id : Id) (log : ℕ) (b : Bool) → ArePlain (cond b (Merge (bare id) log) (Up (bare id) log) ∷ [])
merged_plain id log true = (tt, tt)
merged_plain id log false = (tt, tt)

rider_plain : (most : ℕ) (ids : List Id) (id : Id) (log : Option ℕ) → ArePlain (rider_event most ids id log)
rider_plain most ids id None = tt
rider_plain most ids id (Some log) = merged_plain id log (may_merge most id log ids)

riders_plain : (most : ℕ) (ids riders : List Id) → ArePlain (rider_events most ids riders)
riders_plain most ids [] = tt
riders_plain most ids (id ∷ riders) = rider_plain most ids id id.log

from_plain : (t : Tables) (job : Job) (out : Outcome) (s : Stock) → ArePlain (committed_from t job out s)
from_plain t job out s =
    let due = written_due t.here t.serial (due_with job.state (plain job.action) (made_of t out) out) in
    let most = t.profile.credit_log in
    let ids = (state_dealt t (seen job) out s).ids in
    let gives = rider_events most ids (rider_of job.action) ++ ups (unnamed s.hand s.places) in
    let gives_plain = all-append IsPlain (rider_events most ids (rider_of job.action)) (ups (unnamed s.hand s.places))
    (riders_plain most ids (rider_of job.action)) (ups_plain (unnamed s.hand s.places)) in
    let end = all-append IsPlain due gives (written_plain t.here t.serial (due_with job.state (plain job.action) (made_of t out) out)) gives_plain in
    all-append IsPlain (births_of t.here t.births (map birth_of out.makes)) _ (births_plain t.here t.births (map birth_of out.makes))
    (all-append IsPlain (splits_from 0 s.hand s.places) (Done (name_of job.action) false ∷ (due ++ gives)) (splits_plain 0 s.hand s.places) (tt, end))

pub committed_plain : (t : Tables) (job : Job) (out : Outcome) → ArePlain (committed t job out)
committed_plain t job out = from_plain t job out (own_stock t (seen job) out)

-- ---- a commit that begins to wait

first_plain : (k p : ℕ) (ids : List Id) (places : List ℕ) → ArePlain (first_cuts k p ids places)
first_plain zero p ids places = tt
first_plain (suc k) p [] places = tt
first_plain (suc k) p (id ∷ ids) places =
    let n = suc (halvings id (named places p)) in
    all-append IsPlain (cuts id n) (first_cuts k (p + 1) ids places) (cuts_plain id n) (first_plain k (p + 1) ids places)

asked_plain : (ids : List Id) → ArePlain (asked_events ids)
asked_plain [] = tt
asked_plain (id ∷ ids) = (tt, asked_plain ids)

pub begins_plain : (t : Tables) (job : Job) (out : Outcome) → ArePlain (splits_before t job out ++ asked_events (lacking t job out))
begins_plain t job out =
    all-append IsPlain (splits_before t job out) (asked_events (lacking t job out))
    (first_plain (own_many job) 0 (hand_before t job out) (places_in_hand t job out)) (asked_plain (lacking t job out))

-- ---- a message that is dealt with

returned_plain : (t : Tables) (id : Id) (log : Option ℕ) → ArePlain (returned t id log)
returned_plain t id None = tt
returned_plain t id (Some log) = (tt, tt)

answered_plain : (t : Tables) (id : Id) (b : Bool)
    → ArePlain ((if b then Count (bare id) (count_here t id) Refused else Count (bare id) (more_here t id) Granted) ∷ [])
answered_plain t id true = (tt, tt)
answered_plain t id false = (tt, tt)

freed_plain : (o : Id) (x : Option Standing) → ArePlain (freed o x)
freed_plain o None = tt
freed_plain o (Some x) = (tt, ups_plain x.state.ids)

landed_plain : (o : Id) (b : Bool) → ArePlain (cond b (Landed (bare o) ∷ []) [])
landed_plain o true = (tt, tt)
landed_plain o false = tt

pub effects_plain : (t : Tables) (p : Parcel) → ArePlain (effects t p)
effects_plain t (Return id) = returned_plain t id id.log
effects_plain t (Ask id asker entry) = answered_plain t id (nat_lt t.profile.credit_limit (more_here t id))
effects_plain t (Give id entry) = (tt, tt)
effects_plain t (Free o) = freed_plain o (find (is_standing o) t.objects)
effects_plain t (Arrived id place) = returned_plain t id id.log
effects_plain t (Shipped act state) = landed_plain (target_of act) (may_land t act)
effects_plain t _ = tt

-- ---- what follows it

failed_plain : (t : Tables) (w : Waits) → ArePlain (failed_events t w)
failed_plain t w =
    (tt, all-append IsPlain (written_due t.here t.serial (due_left w)) (ups (ups_left w)) (written_plain t.here t.serial (due_left w)) (ups_plain (ups_left w)))

goes_plain : (p : Parcel) (t mid t' : Tables) (more : List Event) → GoesWith p t mid t' more → ArePlain more
goes_plain (Give id entry) t mid t' more h =
    let w = h.gives.after in subst ArePlain (sym h.goes.what) (from_plain mid w.job w.outcome (full_stock mid w))
goes_plain _ t mid t' more h = absurd h

fails_plain : (p : Parcel) (t mid t' : Tables) (more : List Event) → FailsWith p t mid t' more → ArePlain more
fails_plain (Give id entry) t mid t' more h = subst ArePlain (sym h.what) (failed_plain mid h.gives.after)
fails_plain _ t mid t' more h = absurd h

continues_plain : (p : Parcel) (t mid t' : Tables) (more : List Event) → Continues p t mid t' more → ArePlain more
continues_plain p t mid t' more c = elim (cases_Bool (completes t p)) [
  | inl goes ↦ goes_plain p t mid t' more (c.goes goes)
  | inr stays ↦ elim (cases_Bool (dooms t p)) [
    | inl fails ↦ fails_plain p t mid t' more (c.fails fails)
    | inr rests ↦ subst ArePlain (sym (c.rests stays rests).1) tt
  ]
]

-- what is written behind the entry that takes up a message
pub dealt_plain : (t : Tables) (p : Parcel) (before mid t' : Tables) (more : List Event) → Continues p before mid t' more
    → ArePlain (effects t p ++ more)
dealt_plain t p before mid t' more c = all-append IsPlain (effects t p) more (effects_plain t p) (continues_plain p before mid t' more c)
