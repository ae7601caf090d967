-- The definitions at written command lines.
use Rattle.std.proofs.Common.{◌≡◌, ℕ, ◌^◌, [], ◌∷◌, false, codes, refl}
use Rattle.hpx_options.specs.declared.settings.App.{App}
use Rattle.hpx_options.specs.declared.settings.App.TheVariants as Run
use Rattle.hpx_options.specs.declared.settings.Mode.{Mode}
use Rattle.hpx_options.specs.declared.settings.Mode.TheVariants as As
use Rattle.hpx_options.specs.declared.settings.Settings.{Settings}
use Rattle.hpx_options.specs.Meanings.{Means, BadWord, reading_of}

-- the settings of an application and a mode over some localities, with all else as usual
abbrev usual : App → ℕ → Mode → Settings
usual app localities mode = record {
  app = app;
  localities = localities;
  threads = 1;
  profile = record { credit_log = 31; credit_limit = 2 ^ 100; cache = 64 };
  counters = record { items = [] };
  mode = mode;
  settle = false;
  journal = false;
}

no_word : reading_of [] ≡ BadWord 0
no_word = refl

a_number_too_small : reading_of (codes "--hpx:threads=0" ∷ codes "fib" ∷ []) ≡ BadWord 1
a_number_too_small = refl

a_number_too_great : reading_of (codes "fib" ∷ codes "--hpx:localities=65" ∷ []) ≡ BadWord 2
a_number_too_great = refl

a_value_too_great : reading_of (codes "fib" ∷ codes "--n-value" ∷ codes "93" ∷ []) ≡ BadWord 3
a_value_too_great = refl

no_value : reading_of (codes "fib" ∷ codes "--n-value" ∷ []) ≡ BadWord 0
no_value = refl

an_option_twice :
    reading_of (codes "accumulator" ∷ codes "--hpx:localities" ∷ codes "2" ∷ codes "--hpx:localities" ∷ codes "3" ∷ []) ≡ BadWord 4
an_option_twice = refl

a_key_twice :
    reading_of (codes "space" ∷ codes "--hpx:ini=hpx.agas.credit_log=9" ∷ codes "--hpx:ini=hpx.agas.credit_log=9" ∷ []) ≡ BadWord 3
a_key_twice = refl

a_limit_too_great :
    reading_of (codes "space" ∷ codes "--hpx:ini=hpx.agas.credit_limit=1267650600228229401496703205377" ∷ []) ≡ BadWord 2
a_limit_too_great = refl

parts_that_do_not_divide :
    reading_of (codes "stencil" ∷ codes "--points" ∷ codes "10" ∷ codes "--parts" ∷ codes "3" ∷ []) ≡ BadWord 0
parts_that_do_not_divide = refl

no_member : reading_of (codes "space" ∷ codes "--hpx:agas=127.0.0.1:7910" ∷ codes "--hpx:console" ∷ []) ≡ BadWord 0
no_member = refl

the_usual_numbers : reading_of (codes "fib" ∷ []) ≡ Means (usual (Run.Fib 10 2) 1 As.Hosted)
the_usual_numbers = refl

the_usual_threshold : reading_of (codes "fib" ∷ codes "--n-value=20" ∷ []) ≡ Means (usual (Run.Fib 20 6) 1 As.Hosted)
the_usual_threshold = refl

a_worker :
    reading_of (codes "accumulator" ∷ codes "--hpx:localities=2" ∷ codes "--hpx:agas=localhost:7910" ∷ codes "--hpx:node=1" ∷ codes "--hpx:worker" ∷ [])
    ≡ Means (usual Run.Accumulator 2 (As.Worker 1 7910))
a_worker = refl
