-- Waves: each member of a join answers once in a wave, where it is at rest, with how many frames it has sent and accepted.
use Rattle.std.specs.Prelude.{ℕ, zero, suc, List, [], ◌∷◌, ◌≡◌, ◌≤◌, ◌<◌, length, take, drop, max}
use Rattle.std.specs.List.{AllByRecursion}
use Rattle.hpx_journal.specs.Bags.{total}
use Rattle.hpx_journal.specs.Entries.{Rules}
use Rattle.hpx_journal.specs.declared.entry.Event.{Event}
use Rattle.hpx_journal.specs.declared.entry.Event.TheVariants.{Line, In}
use Rattle.hpx_journal.specs.declared.entry.Entry.{Entry}
use Rattle.hpx_journal.specs.Local.{boot}
use Rattle.hpx_journal.specs.Whole.{IsQuietAt, IsClean, part, run_local}
use Rattle.hpx_journal.specs.Roots.{roots}
use Rattle.hpx_journal.specs.Laws.{FreesTheDead, outs, ins}
use Rattle.hpx_journal.specs.Sessions.{FeedsNothing}

-- a part of k is at rest: nothing waits, is fired, fresh, due, travels or is owed, and the dead are freed
pub record IsAtRest (r : Rules) (k : ℕ) (es : List Entry) : Type 0 where
  pub still : IsQuietAt (run_local r (boot (roots r.localities k) k) es)
  pub frees : FreesTheDead r k es

-- an event that may come at rest: a line, or a frame that comes
abbrev pub Wakes : Event → Type 0
Wakes (Line a bytes) = Unit {0}
Wakes (In bytes) = Unit {0}
Wakes _ = ⊥

-- the first entry, if there is one, is one of those
abbrev pub BeginsAwake : List Entry → Type 0
BeginsAwake [] = Unit {0}
BeginsAwake (e ∷ es) = Wakes e.event

-- k may answer behind the first n entries of its part
pub record MayAnswer (r : Rules) (k : ℕ) (es : List Entry) (n : ℕ) : Type 0 where
  pub rest : IsAtRest r k (take n es)
  pub next : BeginsAwake (drop n es)

-- waves over a join: how many; for each wave and member how long the member's part was, and the join, as it answered; and
-- the round of each wave
pub record Answers : Type 0 where
  pub number : ℕ
  pub lengths : ℕ → ℕ → ℕ
  pub places : ℕ → ℕ → ℕ
  pub rounds : ℕ → ℕ

-- how many frames the members had sent as they answered wave w
abbrev pub sent_in : Rules → List Entry → Answers → ℕ → ℕ
sent_in r es v w = total r.localities (λ k. length (outs (take (v.lengths w k) (part k es))))

-- how many they had accepted
abbrev pub taken_in : Rules → List Entry → Answers → ℕ → ℕ
taken_in r es v w = total r.localities (λ k. length (ins (take (v.lengths w k) (part k es))))

-- a wave run over a join
pub record IsWaveRun (r : Rules) (es : List Entry) (v : Answers) : Type 0 where
  -- each member answers each wave at rest, and a line or a frame is the next that comes there
  pub rest : (w k : ℕ) → w < v.number → k < r.localities → MayAnswer r k (part k es) (v.lengths w k)
  -- the answer stands in the join where the part is so long
  pub stand : (w k : ℕ) → w < v.number → k < r.localities → length (part k (take (v.places w k) es)) ≡ v.lengths w k
  -- all answers of a wave stand before any of the next
  pub order : (w j k : ℕ) → suc w < v.number → j < r.localities → k < r.localities → v.places w j ≤ v.places (suc w) k
  -- no line is fed between two answers of a round
  pub lines : (w x j k : ℕ) → w < v.number → x < v.number → j < r.localities → k < r.localities → v.rounds w ≡ v.rounds x
      → AllByRecursion (λ e. FeedsNothing e.event) (part 0 (drop (v.places w j) (take (v.places x k) es)))

-- a moment between wave w and the next: the last answer of w was given, and no answer of the next
pub record IsBetween (r : Rules) (v : Answers) (w t : ℕ) : Type 0 where
  pub behind : (k : ℕ) → k < r.localities → v.places w k ≤ t
  pub before : (k : ℕ) → k < r.localities → t ≤ v.places (suc w) k

-- the greatest of n numbers
abbrev pub greatest : ℕ → (ℕ → ℕ) → ℕ
greatest zero f = 0
greatest (suc n) f = max (f n) (greatest n f)

-- wave w and the next are of one round, and as many frames had been accepted at w as were sent at the next
pub record Agree (r : Rules) (es : List Entry) (v : Answers) (w : ℕ) : Type 0 where
  pub within : suc w < v.number
  pub round : v.rounds w ≡ v.rounds (suc w)
  pub same : taken_in r es v w ≡ sent_in r es v (suc w)

-- how many frames a member had sent at wave w
abbrev pub sent_at : Rules → List Entry → Answers → ℕ → ℕ → ℕ
sent_at r es v w k = length (outs (take (v.lengths w k) (part k es)))

-- how many it had accepted
abbrev pub taken_at : Rules → List Entry → Answers → ℕ → ℕ → ℕ
taken_at r es v w k = length (ins (take (v.lengths w k) (part k es)))

-- the same, as members tell it: each may answer there up to a foreign arrival
pub record IsToldRun (r : Rules) (es : List Entry) (v : Answers) : Type 0 where
  pub rest : (w k : ℕ) → w < v.number → k < r.localities
      → IsClean r (boot (roots r.localities k) k) (take (v.lengths w k) (part k es)) → MayAnswer r k (part k es) (v.lengths w k)
  pub stand : (w k : ℕ) → w < v.number → k < r.localities → length (part k (take (v.places w k) es)) ≡ v.lengths w k
  pub order : (w j k : ℕ) → suc w < v.number → j < r.localities → k < r.localities → v.places w j ≤ v.places (suc w) k
  pub lines : (w x j k : ℕ) → w < v.number → x < v.number → j < r.localities → k < r.localities → v.rounds w ≡ v.rounds x
      → AllByRecursion (λ e. FeedsNothing e.event) (part 0 (drop (v.places w j) (take (v.places x k) es)))
