-- Several processes put together: what the journals of all of them say as one.
use Rattle.std.specs.Prelude.{ℕ, suc, Bool, List, [], ◌∷◌, ◌≡◌, ◌≤◌, ◌<◌}
use Rattle.hpx_value.specs.declared.profile.Profile.{Profile}
use Rattle.hpx_journal.specs.Entries.{Rules}
use Rattle.hpx_journal.specs.Whole.{IsCarried, part}
use Rattle.hpx_part.specs.Data.{Entry}
use Rattle.hpx_steps.specs.Rest.{rules_of}
use Rattle.hpx_ended.specs.Tally.{Tells}
use Rattle.hpx_ended.specs.Waves.{Answers, IsToldRun}
use Rattle.hpx_member.specs.Rounds.{Turn, Fed, Began, Took, Anew, Closed, tally_of}
use Rattle.app_compute.specs.FibLaw.{fib_text}
use Rattle.app_compute.specs.Ring.{stencil_texts}
use Rattle.hpx_top.specs.Acts.{act_of}
use Rattle.hpx_process.specs.Members.{IsConsole, IsWorker, Left}
use Rattle.hpx_process.specs.declared.problem.Problem as Problems
use Rattle.hpx_process.specs.declared.problem.Problem.TheVariants.{Number, Ring}

-- n members, and their journals in an order in which nothing comes that was not sent
pub record AreJoined (n : ℕ) (p : Profile) (settles : Bool) (ms : ℕ → Left) (es : List Entry) : Type 0 where
  pub console : IsConsole n p settles (ms 0)
  pub workers : (k : ℕ) → 1 ≤ k → k < n → IsWorker n p k (ms k)
  pub parts : (k : ℕ) → k < n → part k es ≡ (ms k).entries
  pub carried : IsCarried (rules_of act_of n p) [] es

-- where the waves of a console's last round were begun: behind so many entries of its journal, the newest first
abbrev pub waves_at : List Turn → List ℕ
waves_at [] = []
waves_at (Fed e ∷ earlier) = []
waves_at (Began p e x ∷ earlier) = e ∷ waves_at earlier
waves_at (Took from body c ∷ earlier) = waves_at earlier
waves_at (Anew ∷ earlier) = []
waves_at (Closed ∷ earlier) = []

-- What the console has counted at its last two waves is what the members told: each at rest, all at the one wave before any at the next, and the
-- console itself where its turns say.
pub record AreHeard (r : Rules) (es : List Entry) (turns : List Turn) : Type 0 where
  pub answers : Answers
  pub wave : ℕ
  pub before : List ℕ
  pub told : IsToldRun r es answers
  pub within : suc wave < answers.number
  pub round : answers.rounds wave ≡ answers.rounds (suc wave)
  pub tells : Tells r es answers wave (tally_of r.localities turns)
  pub own : waves_at turns ≡ answers.lengths (suc wave) 0 ∷ (answers.lengths wave 0 ∷ before)

-- what is printed for a problem: the number, or a row of the whole ring for each step
abbrev pub problem_texts : Problems.Problem → List (List ℕ)
problem_texts (Number question) = fib_text question.number ∷ []
problem_texts (Ring shape) = stencil_texts shape.points shape.steps
