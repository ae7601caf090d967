-- Lines, each with what is kept of one number.
use Rattle.std.specs.Prelude.{ℕ, ◌≡◌, ◌<◌, ◌≤◌, ◌==◌, List, [], ◌∷◌, ◌++◌, map, find, Option, None, is_some, IsSome, IfSome, if◌then◌else◌}
use Rattle.std.specs.Option.{option_to_list}
use Rattle.hpx_agas.specs.declared.record.Record.{Record}
use Rattle.hpx_agas.specs.declared.record.Waiting.{Waiting}
use Rattle.hpx_agas.specs.declared.line.Line.{Line}
use Rattle.hpx_agas.specs.Queues.{waits}

module _ {Q : Type 0} where
  -- each line is so
  abbrev pub Each : (Line Q → Type 0) → List (Line Q) → Type 0
  Each P [] = Unit {0}
  Each P (l ∷ ls) = P l × Each P ls

  -- each number is below this one
  abbrev pub AreBelow : ℕ → List (Line Q) → Type 0
  AreBelow n ls = Each (λ l. l.number < n) ls

  -- no number is below this one
  abbrev pub AreFrom : ℕ → List (Line Q) → Type 0
  AreFrom n ls = Each (λ l. n ≤ l.number) ls

  -- the line of a number
  abbrev pub line_of : ℕ → List (Line Q) → Option (Line Q)
  line_of n ls = find (λ l. l.number == n) ls

  -- the records of live objects
  abbrev pub records_of : List (Line Q) → List Record
  records_of [] = []
  records_of (l ∷ ls) = option_to_list l.live ++ records_of ls

  -- what waits, each item with the number that it waits for
  abbrev pub waiting_of : List (Line Q) → List (Waiting Q)
  waiting_of [] = []
  waiting_of (l ∷ ls) = map (waits l.number) l.queue ++ waiting_of ls

  -- the lines with others in place of that of a number
  abbrev pub in_place : ℕ → (Line Q → List (Line Q)) → List (Line Q) → List (Line Q)
  in_place n made [] = []
  in_place n made (l ∷ ls) = (if l.number == n then made l ++ ls else l ∷ in_place n made ls)

  -- a line without items
  abbrev pub blank : Line Q → Line Q
  blank l = record l { queue = [] }

  -- what stays of a line where these items wait for an object that died
  abbrev pub orphans : Line Q → List Q → List (Line Q)
  orphans l [] = []
  orphans l (item ∷ items) = record l { live = None } ∷ []

  -- what stays of a line whose object died
  abbrev pub left_behind : Line Q → List (Line Q)
  left_behind l = orphans l l.queue

  -- a line of a live object
  abbrev pub IsLive : Line Q → Type 0
  IsLive l = IsSome l.live

  -- both are of live objects, or neither is
  abbrev pub IsLike : Line Q → Line Q → Type 0
  IsLike m l = is_some m.live ≡ is_some l.live

  -- the numbers rise, from above one up to another, and each record is of its line's number
  abbrev pub AreKept : ℕ → ℕ → List (Line Q) → Type 0
  AreKept low top [] = Unit {0}
  AreKept low top (l ∷ ls) = (low < l.number) × (l.number ≤ top) × IfSome l.live (λ r. r.gid.number ≡ l.number) × AreKept l.number top ls
