-- How a console serves lines: each is fed, and what was written behind it is shown.
use Rattle.std.specs.Prelude.{ℕ, List, [], ◌∷◌, ◌++◌, ◌≡◌}
use Rattle.std.specs.List.{AllByRecursion, flat_map}
use Rattle.hpx_journal.specs.Entries.{Rules}
use Rattle.hpx_journal.specs.Sessions.{BeginsWith, FeedsNothing}
use Rattle.hpx_journal.specs.Whole.{IsClean, run_local}
use Rattle.hpx_part.specs.Data.{Entry}
use Rattle.hpx_part.specs.Parts.{at_boot}
use Rattle.hpx_member.specs.Feeding.{FeedsIdle, IsIdle}
use Rattle.hpx_member.specs.Talks.{Talk, Handed, Over, Shown}

-- a line, and the entries that follow from it
pub record Block : Type 0 where
  pub line : List ℕ
  pub entries : List Entry

-- the first of them feeds the line, and no other feeds one
abbrev pub IsBlock : Block → Type 0
IsBlock b = BeginsWith b.line b.entries

-- all entries of blocks
abbrev pub entries_in : List Block → List Entry
entries_in blocks = flat_map (λ b. b.entries) blocks

-- what is said of a block: its line was handed out, and its entries were shown
abbrev pub talk_by : Block → List Talk
talk_by b = Handed b.line ∷ (Shown b.entries ∷ [])

abbrev pub talk_in : List Block → List Talk
talk_in blocks = flat_map talk_by blocks

-- how far it has come behind its blocks: it asks for a line; it has one that is not fed, or is fed; there are no more; or all is shown
pub data Stage : Type 0 where
  Asking : Stage
  Given : (line : List ℕ) → Stage
  Feeding : (line : List ℕ) → Stage
  Closing : Stage
  Done : Stage

-- the entries behind the blocks then
abbrev pub IsAt : Stage → List Entry → Type 0
IsAt Asking rest = rest ≡ []
IsAt (Given line) rest = rest ≡ []
IsAt (Feeding line) rest = BeginsWith line rest
IsAt Closing rest = AllByRecursion (λ e. FeedsNothing e.event) rest
IsAt Done rest = AllByRecursion (λ e. FeedsNothing e.event) rest

-- what is said behind them
abbrev pub talk_at : Stage → List Entry → List Talk
talk_at Asking rest = []
talk_at (Given line) rest = Handed line ∷ []
talk_at (Feeding line) rest = Handed line ∷ []
talk_at Closing rest = Over ∷ []
talk_at Done rest = Over ∷ (Shown rest ∷ [])

-- where these are all entries, nothing is under way up to a foreign arrival, and no answer is awaited
abbrev pub IsIdleBehind : Rules → List Entry → Type 0
IsIdleBehind r es = IsClean r (at_boot r 0) es → IsIdle (run_local r (at_boot r 0) es)

-- what is to be shown then
abbrev pub tried_at : Stage → List Entry → List Talk
tried_at Asking rest = []
tried_at (Given line) rest = []
tried_at (Feeding line) rest = Shown rest ∷ []
tried_at Closing rest = Shown rest ∷ []
tried_at Done rest = []

-- A journal has a block for each line that was served, and these entries behind them. Each line was fed where nothing was under way, and so it is
-- behind the blocks. This was said of them, and what is to be said next.
pub record Serves (r : Rules) (es : List Entry) (Said : List Talk → List Talk → Type 0) (stage : Stage) : Type 0 where
  pub blocks : List Block
  pub rest : List Entry
  pub begin : AllByRecursion IsBlock blocks
  pub is : es ≡ entries_in blocks ++ rest
  pub at : IsAt stage rest
  pub feeds : FeedsIdle r (at_boot r 0) es
  pub idle : IsIdleBehind r (entries_in blocks)
  pub talk : Said (talk_in blocks ++ talk_at stage rest) (tried_at stage rest)

-- all entries are of its blocks, and then it was said that the lines are over
pub record IsOver (r : Rules) (es : List Entry) (Said : List Talk → Type 0) : Type 0 where
  pub blocks : List Block
  pub begin : AllByRecursion IsBlock blocks
  pub is : es ≡ entries_in blocks
  pub feeds : FeedsIdle r (at_boot r 0) es
  pub idle : IsIdleBehind r es
  pub talk : Said (talk_in blocks ++ Over ∷ [])
