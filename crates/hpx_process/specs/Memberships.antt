-- The membership that words ask for.
use Rattle.std.specs.Prelude.{ℕ, Bool, not, ◌&&◌, ◌||◌, nat_le, nat_lt, List, Option, Some, None, option_map, option_and_then, ◌≤◌, ◌<◌, if◌then◌else◌}
use Rattle.hpx_value.specs.Profiles.{IsValid}
use Rattle.hpx_ports.specs.declared.link.Seat.{Seat}
use Rattle.hpx_options.specs.Meanings.{Reading, Means, BadWord, reading_of}
use Rattle.hpx_options.specs.declared.settings.Mode.{Mode}
use Rattle.hpx_options.specs.declared.settings.Mode.TheVariants as As
use Rattle.hpx_options.specs.declared.settings.Settings.{Settings}
use Rattle.app_compute.specs.FibLaw.{IsQuestion, fed_line}
use Rattle.app_compute.specs.StencilLaw.{IsAsked, ring_fed}
use Rattle.hpx_top.specs.Usage.{are_places, is_tuned, task_of}
use Rattle.hpx_top.specs.declared.consoles.UserConsole.TheVariants.{Accumulator}
use Rattle.hpx_top.specs.declared.task.Task.{Task}
use Rattle.hpx_top.specs.declared.task.Task.TheVariants as Tasks
use Rattle.hpx_process.specs.declared.membership.Errand.{Errand}
use Rattle.hpx_process.specs.declared.membership.Errand.TheVariants.{Session, Problem}
use Rattle.hpx_process.specs.declared.membership.Membership.{Membership}
use Rattle.hpx_process.specs.declared.membership.Role.{Role}
use Rattle.hpx_process.specs.declared.membership.Role.TheVariants.{Console, Worker}
use Rattle.hpx_process.specs.declared.problem.Problem as Problems
use Rattle.hpx_process.specs.declared.problem.Problem.TheVariants.{Number, Ring}

-- the locality that a process is
abbrev pub node_of : Role → ℕ
node_of (Console settles) = 0
node_of (Worker node) = node

-- the seat that it is connected at
abbrev pub seat_of : Membership → Seat
seat_of m = record { node = node_of m.role; n = m.localities; port = m.port }

-- the line that is fed for a problem
abbrev pub problem_line : Problems.Problem → List ℕ
problem_line (Number question) = fed_line question.number question.threshold
problem_line (Ring shape) = ring_fed shape.points shape.parts shape.steps

-- the role of a process of so many, where there is more than one
abbrev pub role_of : Mode → Bool → ℕ → Option (Role × ℕ)
role_of As.Hosted settles n = None
role_of (As.Console port) settles n = Some (Console settles, port)
role_of (As.Worker node port) settles n = if nat_le 1 node && nat_lt node n then Some (Worker node, port) else None

-- what several processes do for a task: the accumulator's session, a number or a ring
abbrev pub errand_of : Task → Option Errand
errand_of (Tasks.Console Accumulator) = Some Session
errand_of (Tasks.Fib question) = Some (Problem (Number question))
errand_of (Tasks.Stencil shape) = Some (Problem (Ring shape))
errand_of _ = None

abbrev pub membership_with : Settings → Role → ℕ → Errand → Membership
membership_with settings role port errand = record {
  role = role;
  errand = errand;
  localities = settings.localities;
  port = port;
  profile = settings.profile;
  counters = settings.counters;
}

-- the membership that settings ask for, where it is built: without a journal that is written, and all numbers in range
abbrev pub membership_of : Settings → Option Membership
membership_of settings =
    if settings.journal || not (are_places settings.localities) || not (is_tuned settings.profile) then None else
    option_and_then (λ role. option_map (membership_with settings role.0 role.1) (option_and_then errand_of (task_of settings.app)))
    (role_of settings.mode settings.settle settings.localities)

abbrev pub membership_by : Reading → Option Membership
membership_by (Means settings) = membership_of settings
membership_by (BadWord place) = None

-- the membership that words ask for, if they ask for one
abbrev pub membership_in : List (List ℕ) → Option Membership
membership_in words = membership_by (reading_of words)

-- ---- it is in range

-- a locality of so many: the console is the first, and a worker another one
abbrev pub IsRole : Role → ℕ → Type 0
IsRole (Console settles) n = 1 ≤ n
IsRole (Worker node) n = (1 ≤ node) × (node < n)

-- a number and a threshold, or a ring, in their ranges
abbrev pub IsProblem : Problems.Problem → Type 0
IsProblem (Number question) = IsQuestion question.number question.threshold
IsProblem (Ring shape) = IsAsked shape.points shape.parts shape.steps

abbrev pub IsErrand : Errand → Type 0
IsErrand Session = Unit {0}
IsErrand (Problem problem) = IsProblem problem

-- from 1 to 64 localities, and all numbers in their ranges
pub record IsMembership (m : Membership) : Type 0 where
  pub role : IsRole m.role m.localities
  pub errand : IsErrand m.errand
  pub few : m.localities ≤ 64
  pub profile : IsValid m.profile
