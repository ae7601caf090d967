-- Objects that are about to be made.
use Rattle.std.specs.List.{AllByRecursion}
use Rattle.std.specs.Prelude.{ℕ, List, [], ◌∷◌, ◌++◌, ◌≡◌, ◌≤◌, ◌+◌, ◌^◌, None, Some, length}
use Rattle.hpx_value.specs.Ids.{bare_id}
use Rattle.hpx_value.specs.Shapes.{IsState}
use Rattle.hpx_value.specs.Laws.{birth_state}
use Rattle.hpx_value.specs.declared.outcome.Make.{Make}
use Rattle.hpx_journal.specs.Data.{Id}
use Rattle.hpx_part.specs.Data.{Event, Born, Standing}
use Rattle.hpx_agas.specs.declared.record.Record.{Record}
use Rattle.hpx_tables.specs.declared.births.Birth.{Birth}
use Rattle.hpx_tables.specs.Tables.{Tables}

-- of a make
abbrev pub birth_of : Make → Birth
birth_of make = record { kind = make.kind; state = birth_state make; entry = birth_state make }

-- of a managed kind, with a well-formed state without ids, and the same for its entry
pub record IsBirth (x : Birth) : Type 0 where
  pub least : 16 ≤ x.kind
  pub most : x.kind ≤ 63
  pub state : IsState x.state
  pub same : x.entry ≡ x.state
  pub drawn : x.state.drawn ≡ 0
  pub alone : x.state.conts ≡ []
  pub none : x.state.ids ≡ []

-- their entries, with the next numbers of here
abbrev pub births_of : ℕ → ℕ → List Birth → List Event
births_of here n [] = []
births_of here n (x ∷ xs) = Born (bare_id here x.kind (n + 1)) x.entry ∷ births_of here (n + 1) xs

-- the objects
abbrev pub objects_of : ℕ → ℕ → List Birth → List Standing
objects_of here n [] = []
objects_of here n (x ∷ xs) = record { object = bare_id here x.kind (n + 1); state = x.state } ∷ objects_of here (n + 1) xs

-- the managed objects of here that stand here have numbers that were drawn
abbrev pub AreDrawn : Tables → Type 0
AreDrawn t = AllByRecursion (λ x. 16 ≤ x.object.kind → x.object.home ≡ t.here → x.object.number ≤ t.births) t.objects

-- their records
abbrev pub records_of : ℕ → ℕ → ℕ → List Birth → List Record
records_of here n log [] = []
records_of here n log (x ∷ xs) =
    record { gid = bare_id here x.kind (n + 1); count = 2 ^ log; place = here; moving = None } ∷ records_of here (n + 1) log xs

-- some of these objects were made, and some are left
pub record Makes (xs left : List Birth) (t t' : Tables) : Type 0 where
  pub rest : t' ≡ record t { births = t'.births; records = t'.records; objects = t'.objects }
  pub objects : t'.objects ++ objects_of t'.here t'.births left ≡ t.objects ++ objects_of t.here t.births xs
  pub records : t'.records ++ records_of t'.here t'.births t'.profile.credit_log left
      ≡ t.records ++ records_of t.here t.births t.profile.credit_log xs
  pub births : t'.births + length left ≡ t.births + length xs

-- their ids, with the credit of a new object
abbrev pub ids_of : ℕ → ℕ → ℕ → List Birth → List Id
ids_of here n log [] = []
ids_of here n log (x ∷ xs) = record { home = here; kind = x.kind; number = n + 1; log = Some log } ∷ ids_of here (n + 1) log xs
