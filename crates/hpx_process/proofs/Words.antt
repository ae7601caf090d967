-- The membership that words ask for is in range.
use Rattle.std.specs.Prelude.{true, false, not, nat_le, nat_lt, ◌&&◌, ◌||◌, IfSome, option_map, option_and_then}
use Rattle.std.proofs.Common.{ℕ, Bool, List, ◌≡◌, ◌≤◌, Option, Some, None, refl, ap}
use Rattle.std.proofs.lemmas.Bool.{and_parts, cond_both, leb-true, ltb-true}
use Rattle.hpx_value.specs.Profiles.{IsValid}
use Rattle.hpx_options.specs.Meanings.{Reading, Means, BadWord, reading_of}
use Rattle.hpx_options.specs.declared.settings.App.{App}
use Rattle.hpx_options.specs.declared.settings.App.TheVariants as Apps
use Rattle.hpx_options.specs.declared.settings.Mode.{Mode}
use Rattle.hpx_options.specs.declared.settings.Mode.TheVariants as As
use Rattle.hpx_options.specs.declared.settings.Settings.{Settings}
use Rattle.hpx_top.specs.Usage.{IsTask, are_places, is_tuned, notice_in, or_nowhere, printed_of, reading_request, request_by, setup_of, task_of}
use Rattle.hpx_top.specs.declared.task.Notice.{Notice}
use Rattle.hpx_top.specs.declared.task.Request.TheVariants.{Run}
use Rattle.hpx_top.specs.declared.consoles.UserConsole.TheVariants.{Accumulator, Space}
use Rattle.hpx_top.specs.declared.task.Setup.{Setup}
use Rattle.hpx_top.specs.declared.task.Task.{Task}
use Rattle.hpx_top.specs.declared.task.Task.TheVariants as Tasks
use Rattle.hpx_top.proofs.TaskLemmas.{by_app, tuned}
use Rattle.hpx_process.specs.declared.membership.Errand.{Errand}
use Rattle.hpx_process.specs.declared.membership.Role.{Role}
use Rattle.hpx_process.specs.Memberships.{IsErrand, IsMembership, IsRole, errand_of, membership_by, membership_in, membership_of, membership_with, role_of}

role_in : (mode : Mode) (settles : Bool) (n : ℕ) → 1 ≤ n → IfSome (role_of mode settles n) (λ role. IsRole role.0 n)
role_in As.Hosted settles n some = tt
role_in (As.Console port) settles n some = some
role_in (As.Worker node port) settles n some =
    cond_both (nat_le 1 node && nat_lt node n) _ _ (λ o. IfSome o (λ role. IsRole role.0 n))
    (λ e.
    let both = and_parts (nat_le 1 node) (nat_lt node n) e in
    (leb-true 1 node both.0, ltb-true node n both.1))
    (λ e. tt)

errand_fits : (task : Option Task) → IfSome task IsTask → IfSome (option_and_then errand_of task) IsErrand
errand_fits None h = tt
errand_fits (Some (Tasks.Console Accumulator)) h = tt
errand_fits (Some (Tasks.Console Space)) h = tt
errand_fits (Some (Tasks.Fib question)) h = h
errand_fits (Some (Tasks.Stencil shape)) h = h
errand_fits (Some (Tasks.Load load)) h = tt

with_errand : (settings : Settings) (role : Role) (port : ℕ) (errand : Option Errand) → IsRole role settings.localities → IfSome errand IsErrand
    → settings.localities ≤ 64 → IsValid settings.profile → IfSome (option_map (membership_with settings role port) errand) IsMembership
with_errand settings role port None is does few valid = tt
with_errand settings role port (Some errand) is does few valid = record { role = is; errand = does; few = few; profile = valid }

with_role : (settings : Settings) (role : Option (Role × ℕ)) (errand : Option Errand) → IfSome role (λ r. IsRole r.0 settings.localities) → IfSome errand IsErrand
    → settings.localities ≤ 64 → IsValid settings.profile
    → IfSome (option_and_then (λ r. option_map (membership_with settings r.0 r.1) errand) role) IsMembership
with_role settings None errand is does few valid = tt
with_role settings (Some role) errand is does few valid = with_errand settings role.0 role.1 errand is does few valid

none_of : (a b c : Bool) → (a || not b || not c) ≡ false → (b ≡ true) × (c ≡ true)
none_of false true true h = (refl, refl)
none_of false true false h = absurd (let no : true ≡ false = h in cc)
none_of false false c h = absurd (let no : true ≡ false = h in cc)
none_of true b c h = absurd (let no : true ≡ false = h in cc)

pub by_settings : (settings : Settings) → IfSome (membership_of settings) IsMembership
by_settings settings =
    cond_both (settings.journal || not (are_places settings.localities) || not (is_tuned settings.profile)) _ _ (λ o. IfSome o IsMembership)
    (λ e. tt)
    (λ e.
    let both = none_of settings.journal (are_places settings.localities) (is_tuned settings.profile) e in
    let places = and_parts (nat_le 1 settings.localities) (nat_le settings.localities 64) both.0 in
    with_role settings (role_of settings.mode settings.settle settings.localities) (option_and_then errand_of (task_of settings.app))
    (role_in settings.mode settings.settle settings.localities (leb-true 1 settings.localities places.0))
    (errand_fits (task_of settings.app) (by_app settings.app)) (leb-true settings.localities 64 places.1) (tuned settings.profile both.1))

by_reading : (reading : Reading) → IfSome (membership_by reading) IsMembership
by_reading (BadWord place) = tt
by_reading (Means settings) = by_settings settings

pub membership_fits : (words : List (List ℕ)) → IfSome (membership_in words) IsMembership
membership_fits words = by_reading (reading_of words)

-- ---- what is only printed asks for none

runs : (setup : Option Setup) (notice : Notice) → printed_of (or_nowhere (option_map Run setup)) ≡ Some notice → ⊥
runs None notice h = let no : None ≡ Some notice = h in cc
runs (Some setup) notice h = let no : None ≡ Some notice = h in cc

no_task : (settings : Settings) (app : App) (notice : Notice) → printed_of (or_nowhere (request_by settings app)) ≡ Some notice → task_of app ≡ None
no_task settings Apps.Help notice h = refl
no_task settings Apps.Version notice h = refl
no_task settings Apps.ListCounters notice h = refl
no_task settings Apps.Accumulator notice h = absurd (runs (setup_of settings) notice h)
no_task settings Apps.Space notice h = absurd (runs (setup_of settings) notice h)
no_task settings (Apps.Fib number threshold) notice h = absurd (runs (setup_of settings) notice h)
no_task settings (Apps.Stencil points parts steps) notice h = absurd (runs (setup_of settings) notice h)
no_task settings (Apps.Load start lines) notice h = absurd (runs (setup_of settings) notice h)
no_task settings Apps.Check notice h = refl
no_task settings (Apps.Collect op start) notice h = refl
no_task settings (Apps.Vector points parts) notice h = refl

without_errand : (settings : Settings) (role : Option (Role × ℕ)) (errand : Option Errand) → errand ≡ None
    → option_and_then (λ r. option_map (membership_with settings r.0 r.1) errand) role ≡ None
without_errand settings None errand none = refl
without_errand settings (Some role) errand none = ap (option_map (membership_with settings role.0 role.1)) none

without_task : (settings : Settings) → task_of settings.app ≡ None → membership_of settings ≡ None
without_task settings none =
    cond_both (settings.journal || not (are_places settings.localities) || not (is_tuned settings.profile)) _ _ (λ o. o ≡ None)
    (λ e. refl)
    (λ e. without_errand settings (role_of settings.mode settings.settle settings.localities) (option_and_then errand_of (task_of settings.app)) (ap (option_and_then errand_of) none))

by_notice : (reading : Reading) (notice : Notice) → printed_of (reading_request reading) ≡ Some notice → membership_by reading ≡ None
by_notice (BadWord place) notice h = refl
by_notice (Means settings) notice h = without_task settings (no_task settings settings.app notice h)

pub no_membership : (words : List (List ℕ)) (notice : Notice) → notice_in words ≡ Some notice → membership_in words ≡ None
no_membership words notice h = by_notice (reading_of words) notice h
