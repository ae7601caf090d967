-- What is accepted for good is fired, or waits still.
use Rattle.hpx_node.proofs.Common.{Actions, AreFired, Entry, Event, In, Landings, Leavings, List, Mail, None, Objects, Option, Out, Parcel, Rules, Some, [], arith, brings, causes, fires_one, follows, goes, hops, joins, map, owes, refl, sets_out, spends, starts, sum_by, sum_by-cons, sums_two, weighed, weight, ℕ, ◌++◌, ◌+◌, ◌∷◌, ◌≡◌, ◌≤◌}

-- ---- entry by entry

-- a line is accepted at once, and all else that spends hops
hops_one : (r : Rules) (e : Event) → spends r e + sets_out r e ≡ hops r e + starts r e
hops_one r (In bytes) = omega arith
hops_one r _ = refl

-- what hops, is fired, or goes with its object is accepted for good, or comes to do so
moves_one : (r : Rules) (e : Event)
    → hops r e + fires_one e + goes r Objects e + goes r Landings e + goes r Leavings e + causes r Actions e
    ≡ goes r Actions e + joins e + causes r Leavings e + causes r Landings e + causes r Objects e + sets_out r e
moves_one r (Out to bytes) = went (r.parcel_of bytes)
  where
    went : (x : Option Parcel)
        → weighed follows x + 0 + weighed (weight Objects) x + weighed (weight Landings) x + weighed (weight Leavings) x + 0 ≡ weighed (weight Actions) x + 0 + 0 + 0 + 0 + 0
    went None = refl
    went (Some p) = omega arith
moves_one r (In bytes) = came (r.parcel_of bytes)
  where
    came : (x : Option Parcel)
        → 0 + 0 + 0 + 0 + 0 + weighed (owes Actions) x ≡ 0 + 0 + weighed (owes Leavings) x + weighed (owes Landings) x + weighed (owes Objects) x + weighed brings x
    came None = refl
    came (Some p) = omega arith
moves_one r (Mail kind) = omega arith
moves_one r _ = refl

pub hops_sum : (r : Rules) (es : List Entry) → sum_by (λ (e : Entry). spends r e.event) es + sum_by (λ (e : Entry). sets_out r e.event) es
    ≡ sum_by (λ (e : Entry). hops r e.event) es + sum_by (λ (e : Entry). starts r e.event) es
hops_sum r es =
    sums_two (λ (e : Entry). spends r e.event) (λ (e : Entry). sets_out r e.event) (λ (e : Entry). hops r e.event) (λ (e : Entry). starts r e.event) (λ e. hops_one r e.event) es

-- what entries count
abbrev pub total : (Event → ℕ) → List Entry → ℕ
total f es = sum_by (λ (e : Entry). f e.event) es

pub moves_sum : (r : Rules) (es : List Entry)
    → total (hops r) es + total fires_one es + total (goes r Objects) es + total (goes r Landings) es + total (goes r Leavings) es + total (causes r Actions) es
    ≡ total (goes r Actions) es + total joins es + total (causes r Leavings) es + total (causes r Landings) es + total (causes r Objects) es + total (sets_out r) es
moves_sum r [] = refl
moves_sum r (e ∷ es) = omega (
  arith,
  moves_one r e.event,
  moves_sum r es,
  sum_by-cons (λ (x : Entry). hops r x.event) e es,
  sum_by-cons (λ (x : Entry). fires_one x.event) e es,
  sum_by-cons (λ (x : Entry). goes r Objects x.event) e es,
  sum_by-cons (λ (x : Entry). goes r Landings x.event) e es,
  sum_by-cons (λ (x : Entry). goes r Leavings x.event) e es,
  sum_by-cons (λ (x : Entry). causes r Actions x.event) e es,
  sum_by-cons (λ (x : Entry). goes r Actions x.event) e es,
  sum_by-cons (λ (x : Entry). joins x.event) e es,
  sum_by-cons (λ (x : Entry). causes r Leavings x.event) e es,
  sum_by-cons (λ (x : Entry). causes r Landings x.event) e es,
  sum_by-cons (λ (x : Entry). causes r Objects x.event) e es,
  sum_by-cons (λ (x : Entry). sets_out r x.event) e es,
)

-- ---- from each entry on

pub fired_first : (n : ℕ) (es : List Event) → AreFired n es → sum_by joins es ≤ sum_by fires_one es + n
fired_first n [] h = omega arith
fired_first n (e ∷ es) h = h.0

pub fired_last : (n : ℕ) (es fs : List Event) → AreFired n (es ++ fs) → AreFired n fs
fired_last n [] fs h = h
fired_last n (e ∷ es) fs h = fired_last n es fs h.1

-- ---- entries of a journal

pub sum_events : (f : Event → ℕ) (es : List Entry) → sum_by f (map (λ (e : Entry). e.event) es) ≡ sum_by (λ (e : Entry). f e.event) es
sum_events f [] = refl
sum_events f (e ∷ es) = omega (
  arith,
  sum_by-cons f e.event (map (λ (x : Entry). x.event) es),
  sum_by-cons (λ (x : Entry). f x.event) e es,
  sum_events f es,
)
