-- The end of several processes, told by a join of their journals.
use Rattle.std.specs.Prelude.{ℕ, suc, List, [], ◌∷◌, ◌≡◌, ◌<◌, drop}
use Rattle.std.specs.List.{AllByRecursion, flat_map}
use Rattle.hpx_journal.specs.Entries.{Rules}
use Rattle.hpx_journal.specs.declared.entry.Event.{Event}
use Rattle.hpx_journal.specs.declared.entry.Event.TheVariants.{Line}
use Rattle.hpx_journal.specs.declared.entry.Entry.{Entry}
use Rattle.hpx_journal.specs.Sessions.{FeedsNothing}
use Rattle.hpx_journal.specs.Whole.{part}
use Rattle.hpx_ended.specs.Waves.{Answers, IsToldRun}
use Rattle.hpx_ended.specs.Tally.{Tally, Tells, verdict_of}
use Rattle.hpx_ended.specs.declared.round.Verdict.TheVariants.{Ended}

-- The console's last round has ended: its tally has the numbers that the members told at the last two waves, as many frames had been accepted at the
-- one as were sent at the other, and no line is fed behind the console's own numbers of the first of them.
pub record HasEnded (r : Rules) (es : List Entry) : Type 0 where
  pub answers : Answers
  pub wave : ℕ
  pub tally : Tally
  pub told : IsToldRun r es answers
  pub within : suc wave < answers.number
  pub round : answers.rounds wave ≡ answers.rounds (suc wave)
  pub tells : Tells r es answers wave tally
  pub ended : verdict_of tally ≡ Ended
  pub last : AllByRecursion (λ e. FeedsNothing e.event) (drop (answers.lengths wave 0) (part 0 es))

-- the line that an event feeds
abbrev pub line_by : Event → List (List ℕ)
line_by (Line a bytes) = bytes ∷ []
line_by _ = []

-- the lines that entries feed, in order
abbrev pub lines_in : List Entry → List (List ℕ)
lines_in es = flat_map (λ e. line_by e.event) es
