-- Counters: their names, what they count, and the list of them.
use Rattle.std.specs.Prelude.{ℕ, zero, suc, Bool, true, false, not, ◌&&◌, List, [], ◌∷◌, ◌++◌, ◌==◌, max, map, find, count_by, codes, Option, if◌then◌else◌}
use Rattle.std.specs.Fmt.{decimal}
use Rattle.std.specs.Str.{bytes_eq}
use Rattle.hpx_journal.specs.declared.entry.Event.{Event}
use Rattle.hpx_journal.specs.declared.entry.Event.TheVariants.{Out, In, Done, Looked, Born, Freed, Landed, Split, Asked}
use Rattle.hpx_journal.specs.declared.entry.Entry.{Entry}
use Rattle.hpx_counters.specs.declared.counter.Counted.{Counted}
use Rattle.hpx_counters.specs.declared.counter.Counted.TheVariants.{ParcelsSent, ParcelsReceived, ActionsDone, CacheHits, CacheMisses, ObjectsBorn, ObjectsFreed, ObjectsLanded, CreditsSplit, CreditsAsked}
use Rattle.hpx_counters.specs.declared.counter.Counter.{Counter}

-- ---- the table

-- what stands before the locality in a name
abbrev pub head_of : Counted → List ℕ
head_of ParcelsSent = codes "/parcels{locality#"
head_of ParcelsReceived = codes "/parcels{locality#"
head_of ActionsDone = codes "/threads{locality#"
head_of CacheHits = codes "/agas{locality#"
head_of CacheMisses = codes "/agas{locality#"
head_of ObjectsBorn = codes "/objects{locality#"
head_of ObjectsFreed = codes "/objects{locality#"
head_of ObjectsLanded = codes "/objects{locality#"
head_of CreditsSplit = codes "/credits{locality#"
head_of CreditsAsked = codes "/credits{locality#"

-- what stands behind it
abbrev pub tail_of : Counted → List ℕ
tail_of ParcelsSent = codes "/total}/count/sent"
tail_of ParcelsReceived = codes "/total}/count/received"
tail_of ActionsDone = codes "/total}/count/cumulative"
tail_of CacheHits = codes "/total}/count/cache/hits"
tail_of CacheMisses = codes "/total}/count/cache/misses"
tail_of ObjectsBorn = codes "/total}/count/born"
tail_of ObjectsFreed = codes "/total}/count/freed"
tail_of ObjectsLanded = codes "/total}/count/landed"
tail_of CreditsSplit = codes "/total}/count/split"
tail_of CreditsAsked = codes "/total}/count/asked"

-- whether such a counter counts an event
abbrev pub counts_event : Counted → Event → Bool
counts_event ParcelsSent (Out to bytes) = true
counts_event ParcelsReceived (In bytes) = true
counts_event ActionsDone (Done action failed) = true
counts_event CacheHits (Looked object hit) = hit
counts_event CacheMisses (Looked object hit) = not hit
counts_event ObjectsBorn (Born object state) = true
counts_event ObjectsFreed (Freed object) = true
counts_event ObjectsLanded (Landed object) = true
counts_event CreditsSplit (Split object log) = true
counts_event CreditsAsked (Asked object) = true
counts_event _ _ = false

-- the order of the table
abbrev pub all_counted : List Counted
all_counted =
    ParcelsSent ∷ ParcelsReceived ∷ ActionsDone ∷ CacheHits ∷ CacheMisses
    ∷ ObjectsBorn ∷ ObjectsFreed ∷ ObjectsLanded ∷ CreditsSplit ∷ CreditsAsked ∷ []

-- ---- names

-- a counter's name
abbrev pub name_of : Counter → List ℕ
name_of counter = head_of counter.what ++ (decimal counter.locality ++ tail_of counter.what)

-- a counter at a locality
abbrev pub counter_at : ℕ → Counted → Counter
counter_at k what = record { what = what; locality = k }

-- the counters at a locality, in the order of the table
abbrev pub counters_at : ℕ → List Counter
counters_at k = map (counter_at k) all_counted

-- those of the localities below a number, in order
unfoldable pub counters_below : ℕ → List Counter
counters_below zero = []
counters_below (suc n) = counters_below n ++ counters_at n

-- the one of these counters that a text names
abbrev pub counter_in : List ℕ → List Counter → Option Counter
counter_in text counters = find (λ counter. bytes_eq text (name_of counter)) counters

-- the counter that a text names: there are 64 localities at most
unfoldable pub counter_named : List ℕ → Option Counter
counter_named text = counter_in text (counters_below 64)

-- how many first bytes two texts share
abbrev pub shared : List ℕ → List ℕ → ℕ
shared [] ys = 0
shared (x ∷ xs) [] = 0
shared (x ∷ xs) (y ∷ ys) = if x == y then suc (shared xs ys) else 0

-- the length of the longest front of a text that begins the name of one of these counters
abbrev pub longest_front : List ℕ → List Counter → ℕ
longest_front text [] = 0
longest_front text (counter ∷ counters) = max (shared text (name_of counter)) (longest_front text counters)

-- ---- values

-- whether a counter counts an entry: one of its locality, and of its kind
abbrev pub counts_entry : Counter → Entry → Bool
counts_entry counter entry = (entry.at == counter.locality) && counts_event counter.what entry.event

-- how many entries a counter counts
abbrev pub counter_value : Counter → List Entry → ℕ
counter_value counter entries = count_by (counts_entry counter) entries

-- ---- texts

-- the line that tells a counter's value: its name, a comma, and the number
abbrev pub value_text : Counter → ℕ → List ℕ
value_text counter value = name_of counter ++ (codes "," ++ (decimal value ++ codes "\n"))
