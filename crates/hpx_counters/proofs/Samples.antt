-- The definitions at written names and texts.
use Rattle.std.proofs.Common.{◌≡◌, Some, None, codes, refl}
use Rattle.std.specs.Fmt.{digits}
use Rattle.hpx_counters.specs.declared.counter.Counted.TheVariants.{ParcelsSent, CreditsAsked, CacheMisses}
use Rattle.hpx_counters.specs.Counters.{name_of, counter_at, counter_named, counters_below, longest_front}

first_name : name_of (counter_at 0 ParcelsSent) ≡ codes "/parcels{locality#0/total}/count/sent"
unfolding digits
first_name = refl

last_name : name_of (counter_at 63 CreditsAsked) ≡ codes "/credits{locality#63/total}/count/asked"
unfolding digits
last_name = refl

reads_a_name : counter_named (codes "/agas{locality#10/total}/count/cache/misses") ≡ Some (counter_at 10 CacheMisses)
unfolding digits counter_named counters_below
reads_a_name = refl

a_zero_before : counter_named (codes "/parcels{locality#01/total}/count/sent") ≡ None
unfolding digits counter_named counters_below
a_zero_before = refl

up_to_the_zero : longest_front (codes "/parcels{locality#01/total}/count/sent") (counters_below 64) ≡ 19
unfolding digits counters_below
up_to_the_zero = refl
