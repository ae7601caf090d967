-- What the words ask for.
use Rattle.std.specs.Prelude.{true, not, Result, Ok, Err, IfSome, nat_le, ◌&&◌, ◌==◌, ◌^◌, ◌%◌, option_map}
use Rattle.std.proofs.Common.{ℕ, List, ◌≡◌, Option, Some, None, sym, ap, ◌∙◌, subst}
use Rattle.std.proofs.lemmas.Bool.{and_parts, leb-true, eqb-true, cond_both}
use Rattle.hpx_value.specs.declared.profile.Profile.{Profile}
use Rattle.hpx_value.specs.Profiles.{IsValid}
use Rattle.hpx_options.specs.declared.settings.App.{App}
use Rattle.hpx_options.specs.declared.settings.App.TheVariants as Apps
use Rattle.hpx_options.specs.declared.settings.Settings.{Settings}
use Rattle.hpx_options.specs.Meanings.{Reading, Means, BadWord, reading_of}
use Rattle.hpx_top.specs.declared.task.Notice.{Notice}
use Rattle.hpx_top.specs.declared.task.Request.{Request}
use Rattle.hpx_top.specs.declared.task.Request.TheVariants.{Print, Run}
use Rattle.hpx_top.specs.declared.task.Setup.{Setup}
use Rattle.hpx_top.specs.declared.task.Task.{Task}
use Rattle.hpx_top.specs.Usage.{are_asked, are_places, are_threads, is_alone, is_load, is_ring, is_plain, is_tuned, bad_word, notice_in, or_nowhere, place_of, printed_of, reading_request, request_by, request_in, request_of, setup_of, setup_with, task_of, IsRequest, IsSetup, IsTask}

pub by_app : (app : App) → IfSome (task_of app) IsTask
by_app Apps.Accumulator = tt
by_app (Apps.Fib number threshold) =
    cond_both (are_asked number threshold) _ _ (λ o. IfSome o IsTask)
    (λ e.
    let all = and_parts (nat_le number 92 && nat_le 2 threshold) (nat_le threshold 92) e in
    let two = and_parts (nat_le number 92) (nat_le 2 threshold) all.0 in
    record { number = leb-true number 92 two.0; large = leb-true 2 threshold two.1; few = leb-true threshold 92 all.1 })
    (λ e. tt)
by_app Apps.Space = tt
by_app (Apps.Stencil points parts steps) =
    cond_both (is_ring points parts steps) _ _ (λ o. IfSome o IsTask)
    (λ e.
    let whole = and_parts (nat_le 1 points && nat_le points 1024 && nat_le 1 parts && nat_le parts 32 && nat_le steps 1000) (points % parts == 0) e in
    let top = and_parts (nat_le 1 points && nat_le points 1024 && nat_le 1 parts && nat_le parts 32) (nat_le steps 1000) whole.0 in
    let few = and_parts (nat_le 1 points && nat_le points 1024 && nat_le 1 parts) (nat_le parts 32) top.0 in
    let some = and_parts (nat_le 1 points && nat_le points 1024) (nat_le 1 parts) few.0 in
    let ends = and_parts (nat_le 1 points) (nat_le points 1024) some.0 in
    record {
      points = leb-true 1 points ends.0;
      few_points = leb-true points 1024 ends.1;
      parts = leb-true 1 parts some.1;
      few_parts = leb-true parts 32 few.1;
      whole = eqb-true (points % parts) 0 whole.1;
      steps = leb-true steps 1000 top.1;
    })
    (λ e. tt)
by_app (Apps.Load start lines) =
    cond_both (is_load start lines) _ _ (λ o. IfSome o IsTask)
    (λ e.
    let both = and_parts (nat_le start 2147483647) (nat_le lines 20000) e in
    record { start = leb-true start 2147483647 both.0; lines = leb-true lines 20000 both.1 })
    (λ e. tt)
by_app Apps.Check = tt
by_app (Apps.Collect op start) = tt
by_app (Apps.Vector points parts) = tt
by_app Apps.Help = tt
by_app Apps.Version = tt
by_app Apps.ListCounters = tt

pub tuned : (p : Profile) → is_tuned p ≡ true → IsValid p
tuned p e =
    let log = nat_le 8 p.credit_log in
    let logs = nat_le p.credit_log 31 in
    let least = nat_le (2 ^ p.credit_log) p.credit_limit in
    let most = nat_le p.credit_limit (2 ^ 100) in
    let cache = nat_le 1 p.cache in
    let all = and_parts (log && logs && least && most && cache) (nat_le p.cache 4096) e in
    let five = and_parts (log && logs && least && most) cache all.0 in
    let four = and_parts (log && logs && least) most five.0 in
    let three = and_parts (log && logs) least four.0 in
    let two = and_parts log logs three.0 in
    record {
      log_least = leb-true 8 p.credit_log two.0;
      log_most = leb-true p.credit_log 31 two.1;
      limit_least = leb-true (2 ^ p.credit_log) p.credit_limit three.1;
      limit_most = leb-true p.credit_limit (2 ^ 100) four.1;
      cache_least = leb-true 1 p.cache five.1;
      cache_most = leb-true p.cache 4096 all.1;
    }

with_task : (settings : Settings) (task : Option Task) → are_threads settings.threads ≡ true → are_places settings.localities ≡ true → is_tuned settings.profile ≡ true → IfSome task IsTask
    → IfSome (option_map (setup_with settings) task) IsSetup
with_task settings None threads places profile h = tt
with_task settings (Some task) threads places profile h =
    let number = and_parts (nat_le 1 settings.threads) (nat_le settings.threads 64) threads in
    let both = and_parts (nat_le 1 settings.localities) (nat_le settings.localities 64) places in
    record {
      task = h;
      some = leb-true 1 settings.localities both.0;
      few = leb-true settings.localities 64 both.1;
      threads = leb-true 1 settings.threads number.0;
      few_threads = leb-true settings.threads 64 number.1;
      profile = tuned settings.profile profile;
    }

-- settings that are plain are of 1 to 64 threads
plain_threads : (settings : Settings) → is_plain settings ≡ true → are_threads settings.threads ≡ true
plain_threads settings e =
    let all = and_parts (are_threads settings.threads && is_alone settings.mode && not settings.settle) (not settings.journal) e in
    let three = and_parts (are_threads settings.threads && is_alone settings.mode) (not settings.settle) all.0 in
    (and_parts (are_threads settings.threads) (is_alone settings.mode) three.0).0

by_setup : (settings : Settings) → IfSome (setup_of settings) IsSetup
by_setup settings =
    cond_both (is_plain settings && are_places settings.localities && is_tuned settings.profile) _ _ (λ o. IfSome o IsSetup)
    (λ e.
    let all = and_parts (is_plain settings && are_places settings.localities) (is_tuned settings.profile) e in
    let two = and_parts (is_plain settings) (are_places settings.localities) all.0 in
    with_task settings (task_of settings.app) (plain_threads settings two.0) two.1 all.1 (by_app settings.app))
    (λ e. tt)

as_run : (setup : Option Setup) → IfSome setup IsSetup → IfSome (option_map Run setup) IsRequest
as_run None h = tt
as_run (Some setup) h = h

by_request : (settings : Settings) (app : App) → IfSome (request_by settings app) IsRequest
by_request settings Apps.Help = tt
by_request settings Apps.Version = tt
by_request settings Apps.ListCounters =
    cond_both (are_places settings.localities) _ _ (λ o. IfSome o IsRequest)
    (λ e. leb-true settings.localities 64 (and_parts (nat_le 1 settings.localities) (nat_le settings.localities 64) e).1)
    (λ e. tt)
by_request settings Apps.Accumulator = as_run (setup_of settings) (by_setup settings)
by_request settings (Apps.Fib number threshold) = as_run (setup_of settings) (by_setup settings)
by_request settings Apps.Space = as_run (setup_of settings) (by_setup settings)
by_request settings (Apps.Stencil points parts steps) = as_run (setup_of settings) (by_setup settings)
by_request settings (Apps.Load start lines) = as_run (setup_of settings) (by_setup settings)
by_request settings Apps.Check = as_run (setup_of settings) (by_setup settings)
by_request settings (Apps.Collect op start) = as_run (setup_of settings) (by_setup settings)
by_request settings (Apps.Vector points parts) = as_run (setup_of settings) (by_setup settings)

no_request : {X Y : Type 0} (y : Y) (x : X) → ◌≡◌ {A = Result X Y} (Err y) (Ok x) → ⊥
no_request y x h = cc

pub same_request : {X Y : Type 0} (x z : X) → ◌≡◌ {A = Result X Y} (Ok x) (Ok z) → x ≡ z
same_request x z h = cc

asked : (o : Option Request) (request : Request) → IfSome o IsRequest → or_nowhere o ≡ Ok request → IsRequest request
asked None request h is = absurd (no_request 0 request is)
asked (Some r) request h is = subst IsRequest (same_request r request is) h

read_request : (reading : Reading) (request : Request) → reading_request reading ≡ Ok request → IsRequest request
read_request (BadWord place) request is = absurd (no_request place request is)
read_request (Means settings) request is = asked (request_of settings) request (by_request settings settings.app) is

pub request_asked : (words : List (List ℕ)) (request : Request) → request_in words ≡ Ok request → IsRequest request
request_asked words request is = read_request (reading_of words) request is

pub bad_words : (words : List (List ℕ)) (place : ℕ) → request_in words ≡ Err place → bad_word words ≡ Some place
bad_words words place is = ap place_of is

-- words ask for one thing
pub one_request : (words : List (List ℕ)) (request other : Request) → request_in words ≡ Ok request → request_in words ≡ Ok other → request ≡ other
one_request words request other is at = same_request request other (sym is ∙ at)

pub none_asked : (words : List (List ℕ)) (place : ℕ) (request : Request) → request_in words ≡ Err place → request_in words ≡ Ok request → ⊥
none_asked words place request is at = no_request place request (sym is ∙ at)

-- what is printed of it
printed : (r : Result Request ℕ) (notice : Notice) → printed_of r ≡ Some notice → r ≡ Ok (Print notice)
printed (Err place) notice h = cc
printed (Ok (Run setup)) notice h = cc
printed (Ok (Print other)) notice h = cc

pub notice_asked : (words : List (List ℕ)) (notice : Notice) → notice_in words ≡ Some notice → request_in words ≡ Ok (Print notice)
notice_asked words notice h = printed (request_in words) notice h

pub no_notice : (words : List (List ℕ)) (request : Request) → request_in words ≡ Ok request → notice_in words ≡ None → (notice : Notice) → request ≡ Print notice → ⊥
no_notice words request is none notice at =
    let some : notice_in words ≡ Some notice = ap printed_of (is ∙ ap Ok at) in
    let no : None ≡ Some notice = sym none ∙ some in cc
