-- The words that the program takes, and what they ask for.
use Rattle.std.specs.Prelude.{ℕ, Bool, true, false, not, nat_le, ◌&&◌, ◌==◌, ◌≤◌, ◌^◌, ◌%◌, List, Option, Some, None, option_map, Result, Ok, Err, if◌then◌else◌}
use Rattle.hpx_value.specs.declared.profile.Profile.{Profile}
use Rattle.hpx_value.specs.Profiles.{IsValid}
use Rattle.hpx_options.specs.declared.settings.App.{App}
use Rattle.hpx_options.specs.declared.settings.App.TheVariants as Apps
use Rattle.hpx_options.specs.declared.settings.Mode.{Mode}
use Rattle.hpx_options.specs.declared.settings.Mode.TheVariants.{Hosted}
use Rattle.hpx_options.specs.declared.settings.Settings.{Settings}
use Rattle.hpx_options.specs.Meanings.{Reading, Means, BadWord, reading_of}
use Rattle.app_compute.specs.FibLaw.{IsQuestion}
use Rattle.app_compute.specs.StencilLaw.{IsAsked}
use Rattle.hpx_top.specs.declared.task.Task.{Task}
use Rattle.hpx_top.specs.declared.task.Task.TheVariants.{Console, Fib, Stencil, Load}
use Rattle.hpx_top.specs.declared.consoles.UserConsole.TheVariants.{Accumulator, Space}
use Rattle.hpx_top.specs.declared.task.Setup.{Setup}
use Rattle.hpx_top.specs.declared.task.Workload.{Workload}
use Rattle.hpx_top.specs.declared.task.Notice.{Notice}
use Rattle.hpx_top.specs.declared.task.Notice.TheVariants.{Help, Version, Counters}
use Rattle.hpx_top.specs.declared.task.Request.{Request}
use Rattle.hpx_top.specs.declared.task.Request.TheVariants.{Print, Run}

abbrev pub is_alone : Mode → Bool
is_alone Hosted = true
is_alone _ = false

-- credit and cache in their ranges
abbrev pub is_tuned : Profile → Bool
is_tuned p =
    nat_le 8 p.credit_log && nat_le p.credit_log 31 && nat_le (2 ^ p.credit_log) p.credit_limit && nat_le p.credit_limit (2 ^ 100)
    && nat_le 1 p.cache && nat_le p.cache 4096

-- from 1 to 64 threads
abbrev pub are_threads : ℕ → Bool
are_threads n = nat_le 1 n && nat_le n 64

-- in one process on 1 to 64 threads, without a journal that is written
abbrev pub is_plain : Settings → Bool
is_plain settings = are_threads settings.threads && is_alone settings.mode && not settings.settle && not settings.journal

-- a number up to 92, and a threshold from 2 to 92
abbrev pub are_asked : ℕ → ℕ → Bool
are_asked number threshold = nat_le number 92 && nat_le 2 threshold && nat_le threshold 92

-- from 1 to 1,024 points, in from 1 to 32 parts of the same size, and up to 1,000 steps
abbrev pub is_ring : ℕ → ℕ → ℕ → Bool
is_ring points parts steps =
    nat_le 1 points && nat_le points 1024 && nat_le 1 parts && nat_le parts 32 && nat_le steps 1000 && (points % parts == 0)

-- a number below 2^31 to start with, and up to 20,000 lines that follow from it
abbrev pub is_load : ℕ → ℕ → Bool
is_load start lines = nat_le start 2147483647 && nat_le lines 20000

-- from 1 to 64 localities
abbrev pub are_places : ℕ → Bool
are_places n = nat_le 1 n && nat_le n 64

-- the application, where it is built: both consoles, Fibonacci numbers, rings, and made sessions
abbrev pub task_of : App → Option Task
task_of Apps.Accumulator = Some (Console Accumulator)
task_of Apps.Space = Some (Console Space)
task_of (Apps.Fib number threshold) = if are_asked number threshold then Some (Fib (record { number = number; threshold = threshold })) else None
task_of (Apps.Stencil points parts steps) =
    if is_ring points parts steps then Some (Stencil (record { points = points; parts = parts; steps = steps })) else None
task_of (Apps.Load start lines) = if is_load start lines then Some (Load (record { start = start; lines = lines })) else None
task_of _ = None

abbrev pub setup_with : Settings → Task → Setup
setup_with settings task =
    record { task = task; localities = settings.localities; threads = settings.threads; profile = settings.profile; counters = settings.counters }

-- what is run, where it is built
abbrev pub setup_of : Settings → Option Setup
setup_of settings =
    if is_plain settings && are_places settings.localities && is_tuned settings.profile
    then option_map (setup_with settings) (task_of settings.app) else None

-- what is printed, or run; help, the version and the list of counters look at nothing else
abbrev pub request_by : Settings → App → Option Request
request_by settings Apps.Help = Some (Print Help)
request_by settings Apps.Version = Some (Print Version)
request_by settings Apps.ListCounters = if are_places settings.localities then Some (Print (Counters settings.localities)) else None
request_by settings _ = option_map Run (setup_of settings)

abbrev pub request_of : Settings → Option Request
request_of settings = request_by settings settings.app

-- what words ask for; or the place, from 1, of a word that does not fit; 0 where a word is missing, words clash, or what they mean is not built
abbrev pub or_nowhere : Option Request → Result Request ℕ
or_nowhere None = Err 0
or_nowhere (Some request) = Ok request

abbrev pub reading_request : Reading → Result Request ℕ
reading_request (BadWord place) = Err place
reading_request (Means settings) = or_nowhere (request_of settings)

abbrev pub request_in : List (List ℕ) → Result Request ℕ
request_in words = reading_request (reading_of words)

-- the place of a word that is refused
abbrev pub place_of : Result Request ℕ → Option ℕ
place_of (Ok request) = None
place_of (Err place) = Some place

abbrev pub bad_word : List (List ℕ) → Option ℕ
bad_word words = place_of (request_in words)

-- what words ask to be printed, where they ask for no run
abbrev pub printed_of : Result Request ℕ → Option Notice
printed_of (Ok (Print notice)) = Some notice
printed_of _ = None

abbrev pub notice_in : List (List ℕ) → Option Notice
notice_in words = printed_of (request_in words)

-- ---- what is asked for is in range

-- the numbers of a made session in their ranges
pub record IsLoad (load : Workload) : Type 0 where
  pub start : load.start ≤ 2147483647
  pub lines : load.lines ≤ 20000

-- a task in the ranges of its numbers
abbrev pub IsTask : Task → Type 0
IsTask (Console console) = Unit {0}
IsTask (Fib question) = IsQuestion question.number question.threshold
IsTask (Stencil shape) = IsAsked shape.points shape.parts shape.steps
IsTask (Load load) = IsLoad load

-- from 1 to 64 localities, by 1 to 64 threads, and a profile in its ranges
pub record IsSetup (setup : Setup) : Type 0 where
  pub task : IsTask setup.task
  pub some : 1 ≤ setup.localities
  pub few : setup.localities ≤ 64
  pub threads : 1 ≤ setup.threads
  pub few_threads : setup.threads ≤ 64
  pub profile : IsValid setup.profile

abbrev pub IsNotice : Notice → Type 0
IsNotice (Counters n) = n ≤ 64
IsNotice _ = Unit {0}

abbrev pub IsRequest : Request → Type 0
IsRequest (Print notice) = IsNotice notice
IsRequest (Run setup) = IsSetup setup
