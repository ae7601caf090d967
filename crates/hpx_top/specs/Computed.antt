-- What a run of an application that computes has done where it ends, of which one line is fed.
use Rattle.std.specs.Prelude.{ℕ, Bool, true, false, Option, Some, None, List, [], ◌∷◌, ◌≡◌, ◌≢◌, ◌⊎◌}
use Rattle.std.specs.List.{concat}
use Rattle.hpx_journal.specs.declared.entry.Entry.{Entry}
use Rattle.hpx_journal.specs.Entries.{Rules}
use Rattle.hpx_journal.specs.Pool.{prints_of}
use Rattle.hpx_ports.specs.Told.{followed}
use Rattle.hpx_top.specs.declared.session.SessionFault.{SessionFault}
use Rattle.hpx_top.specs.declared.session.SessionFault.TheVariants.{Read, Write, InputFull}
use Rattle.app_compute.specs.FibLaw.{fed_line, fib_text}
use Rattle.app_compute.specs.Ring.{stencil_texts}
use Rattle.app_compute.specs.StencilLaw.{ring_fed}
use Rattle.hpx_top.specs.declared.task.Task.{Task}
use Rattle.hpx_top.specs.declared.task.Task.TheVariants.{Console, Fib, Stencil, Load}
use Rattle.hpx_top.specs.declared.compute.Work.{Work}
use Rattle.hpx_top.specs.declared.compute.Work.TheVariants.{Serves, Answers, Loads}
use Rattle.hpx_top.specs.Session.{lines_fed, Feeds, FeedsAtMost, WritesFront}

-- the one line that is fed for a task, if it has one
abbrev pub task_line : Task → Option (List ℕ)
task_line (Console console) = None
task_line (Fib question) = Some (fed_line question.number question.threshold)
task_line (Stencil shape) = Some (ring_fed shape.points shape.parts shape.steps)
task_line (Load load) = None

-- whether it reads any input: a console does
abbrev pub reads_input : Task → Bool
reads_input (Console console) = true
reads_input _ = false

-- what is done for a task: the console that it is serves its input, its line is answered, or its session is fed
abbrev pub IsWorkOf : Task → Work → Type 0
IsWorkOf task (Serves console) = task ≡ Console console
IsWorkOf task (Answers line) = task_line task ≡ Some line
IsWorkOf task (Loads load) = task ≡ Load load

-- what it prints
abbrev pub task_texts : Task → List (List ℕ)
task_texts (Console console) = []
task_texts (Fib question) = fib_text question.number ∷ []
task_texts (Stencil shape) = stencil_texts shape.points shape.steps
task_texts (Load load) = []

-- the line was fed, all that follows from it was done, and what was printed was written
pub record IsAnswered (r : Rules) (line : List ℕ) (entries : List Entry) (old new : Option (List ℕ)) : Type 0 where
  pub feeds : Feeds r line [] entries
  pub text : new ≡ followed old (concat (prints_of entries))

-- how it was broken off: all was done and a write failed, or nothing was written
abbrev pub IsUnanswered : SessionFault → Rules → List ℕ → List Entry → Option (List ℕ) → Option (List ℕ) → Type 0
IsUnanswered Write r line entries old new = Feeds r line [] entries × WritesFront (concat (prints_of entries)) old new
IsUnanswered Read r line entries old new = ⊥
IsUnanswered InputFull r line entries old new = ⊥
IsUnanswered _ r line entries old new = FeedsAtMost line [] entries × (new ≡ old)

-- the line was fed, these texts were printed, and they were written
pub record IsComputed (line : List ℕ) (texts : List (List ℕ)) (entries : List Entry) (old new : Option (List ℕ)) : Type 0 where
  pub lines : lines_fed entries ≡ line ∷ []
  pub prints : prints_of entries ≡ texts
  pub text : new ≡ followed old (concat texts)

-- Wherever a run ends: the line is all that was fed, and the texts or a front of them all that was written. At status 0 they were
-- written whole, and where no write failed otherwise, nothing was.
pub record HasComputed (line : List ℕ) (texts : List (List ℕ)) (status : ℕ) (entries : List Entry) (old new : Option (List ℕ)) : Type 0 where
  pub fed : (lines_fed entries ≡ []) ⊎ (lines_fed entries ≡ line ∷ [])
  pub front : WritesFront (concat texts) old new
  pub whole : status ≡ 0 → IsComputed line texts entries old new
  pub nothing : status ≢ 0 → status ≢ 3 → new ≡ old
