-- What a command line means.
use Rattle.std.specs.Prelude.{ℕ, max, Bool, true, false, not, ◌&&◌, ◌||◌, ◌==◌, ◌+◌, ◌-◌, ◌%◌, ◌^◌, List, [], ◌∷◌, nat_lt, nat_le, Option, Some, None, is_some, option_map, option_and_then, if◌then◌else◌}
use Rattle.hpx_value.specs.declared.profile.Profile.{Profile}
use Rattle.hpx_options.specs.declared.table.Application.{Application}
use Rattle.hpx_options.specs.declared.table.Application.TheVariants.{Accumulator, Space, Fib, Stencil, Load, Check, Collect, Vector}
use Rattle.hpx_options.specs.declared.table.OptionName.{OptionName}
use Rattle.hpx_options.specs.declared.table.OptionName.TheVariants as Name
use Rattle.hpx_options.specs.declared.line.Datum.{Datum}
use Rattle.hpx_options.specs.declared.line.Datum.TheVariants.{Number, Log, Limit, Port, Op as Operation}
use Rattle.hpx_options.specs.declared.line.Line.{Line}
use Rattle.hpx_options.specs.declared.settings.Op.{Op}
use Rattle.hpx_options.specs.declared.settings.Op.TheVariants.{Reduce}
use Rattle.hpx_options.specs.declared.settings.App.{App}
use Rattle.hpx_options.specs.declared.settings.App.TheVariants as Run
use Rattle.hpx_options.specs.declared.settings.Mode.{Mode}
use Rattle.hpx_options.specs.declared.settings.Mode.TheVariants as As
use Rattle.hpx_options.specs.declared.settings.Settings.{Settings}
use Rattle.hpx_options.specs.Words.{value_at, empty_line, after_word}

-- no element
abbrev pub is_empty : {X : Type 0} → List X → Bool
is_empty [] = true
is_empty (x ∷ xs) = false

-- ---- what options were given, or what stands for it

abbrev pub number_from : ℕ → Option Datum → ℕ
number_from other (Some (Number n)) = n
number_from other _ = other

abbrev pub log_from : ℕ → Option Datum → ℕ
log_from other (Some (Log n)) = n
log_from other _ = other

abbrev pub limit_from : ℕ → Option Datum → ℕ
limit_from other (Some (Limit n)) = n
limit_from other _ = other

abbrev pub op_from : Op → Option Datum → Op
op_from other (Some (Operation op)) = op
op_from other _ = other

abbrev pub port_from : Option Datum → Option ℕ
port_from (Some (Port port)) = Some port
port_from _ = None

abbrev pub number_at : Line → OptionName → ℕ → ℕ
number_at line option other = number_from other (value_at line option)

abbrev pub is_given : Line → OptionName → Bool
is_given line option = is_some (value_at line option)

-- ---- the application

-- the threshold of a Fibonacci number where none is given: 14 below the number, and 2 at least
abbrev pub usual_threshold : ℕ → ℕ
usual_threshold n = max 2 (n - 14)

-- an application with its numbers
abbrev pub run_of : Line → Application → App
run_of line Accumulator = Run.Accumulator
run_of line Space = Run.Space
run_of line Fib =
    let n = number_at line Name.FibNumber 10 in Run.Fib n (number_at line Name.FibThreshold (usual_threshold n))
run_of line Stencil =
    Run.Stencil (number_at line Name.StencilPoints 16) (number_at line Name.StencilParts 1) (number_at line Name.StencilSteps 4)
run_of line Load = Run.Load (number_at line Name.LoadStart 1) (number_at line Name.LoadLines 1000)
run_of line Check = Run.Check
run_of line Collect = Run.Collect (op_from Reduce (value_at line Name.CollectOp)) (number_at line Name.CollectStart 1)
run_of line Vector = Run.Vector (number_at line Name.VectorPoints 16) (number_at line Name.VectorParts 1)

-- help comes before the version, this before the list of counters, and these before an application
abbrev pub app_of : Line → Option App
app_of line =
    if is_given line Name.Help then Some Run.Help
    else if is_given line Name.Version then Some Run.Version
    else if is_given line Name.ListCounters then Some Run.ListCounters
    else option_map (run_of line) line.application

-- a number from 1 on divides another
abbrev pub divides : ℕ → ℕ → Bool
divides parts points = nat_lt 0 parts && (points % parts == 0)

-- parts divide points, and a check writes neither counters nor a journal
abbrev pub suits : Line → Option Application → Bool
suits line (Some Stencil) = divides (number_at line Name.StencilParts 1) (number_at line Name.StencilPoints 16)
suits line (Some Vector) = divides (number_at line Name.VectorParts 1) (number_at line Name.VectorPoints 16)
suits line (Some Check) = is_empty line.counters.items && (number_at line Name.Journal 0 == 0)
suits line _ = true

-- ---- credit, and the cache

-- a limit of credit is at least the credit of a new object
abbrev pub covers : ℕ → ℕ → Bool
covers limit log = nat_le (2 ^ log) limit

abbrev pub profile_of : Line → Option Profile
profile_of line =
    let log = log_from 31 (value_at line Name.CreditLog) in
    let limit = limit_from (2 ^ 100) (value_at line Name.CreditLimit) in
    if covers limit log then Some (record { credit_log = log; credit_limit = limit; cache = number_at line Name.CacheSize 64 }) else None

-- ---- one process, or one of many

-- an application that runs in one process alone
abbrev pub is_hosted : Option Application → Bool
is_hosted (Some Accumulator) = false
is_hosted (Some Fib) = false
is_hosted (Some Stencil) = false
is_hosted None = false
is_hosted _ = true

-- the console is locality 0, and a worker another one
abbrev pub has_role : Line → ℕ → Bool
has_role line node =
    if is_given line Name.Console then not (is_given line Name.Worker) && (node == 0) else is_given line Name.Worker && nat_lt 0 node

-- the own port is that of locality 0 and the own number
abbrev pub has_port : Option ℕ → ℕ → Bool
has_port None port = true
has_port (Some own) port = own == port

abbrev pub is_member : Line → ℕ → ℕ → Bool
is_member line node port =
    has_role line node && nat_lt node (number_at line Name.Localities 1) && has_port (port_from (value_at line Name.Hpx)) (port + node)
    && (number_at line Name.Threads 1 == 1) && not (is_hosted line.application)

abbrev pub member_of : Line → ℕ → ℕ → Option Mode
member_of line node port =
    if is_member line node port then Some (if is_given line Name.Console then As.Console port else As.Worker node port) else None

-- words on members stand only with the address of locality 0
abbrev pub is_alone : Line → Bool
is_alone line =
    not (is_given line Name.Node) && not (is_given line Name.Hpx) && not (is_given line Name.Console) && not (is_given line Name.Worker)
    && (number_at line Name.Settle 0 == 0)

abbrev pub mode_from : Line → Option ℕ → Option Mode
mode_from line None = if is_alone line then Some As.Hosted else None
mode_from line (Some port) = member_of line (number_at line Name.Node 0) port

abbrev pub mode_of : Line → Option Mode
mode_of line = mode_from line (port_from (value_at line Name.Agas))

-- ---- the whole line

abbrev pub settings_with : Line → App → Profile → Mode → Settings
settings_with line app profile mode = record {
  app = app;
  localities = number_at line Name.Localities 1;
  threads = number_at line Name.Threads 1;
  profile = profile;
  counters = line.counters;
  mode = mode;
  settle = number_at line Name.Settle 0 == 1;
  journal = number_at line Name.Journal 0 == 1;
}

-- the settings, unless a word is missing or words clash
abbrev pub settings_of : Line → Option Settings
settings_of line =
    if is_some line.awaited || not (suits line line.application) then None else
    option_and_then (λ app. option_and_then (λ profile. option_map (settings_with line app profile) (mode_of line)) (profile_of line)) (app_of line)

-- what words mean; or the place, from 1, of the first word that does not fit, or 0 where all fit and yet a word is missing or words clash
pub data Reading : Type 0 where
  Means : Settings → Reading
  BadWord : ℕ → Reading

abbrev pub finished : Option Settings → Reading
finished None = BadWord 0
finished (Some settings) = Means settings

abbrev pub on_line : Option Line → Reading → (Line → Reading) → Reading
on_line None bad next = bad
on_line (Some line) bad next = next line

-- the words from a place on, behind those that were read
abbrev pub reading_from : ℕ → Line → List (List ℕ) → Reading
reading_from place line [] = finished (settings_of line)
reading_from place line (word ∷ words) = on_line (after_word line word) (BadWord place) (λ next. reading_from (place + 1) next words)

abbrev pub reading_of : List (List ℕ) → Reading
reading_of words = reading_from 1 empty_line words
