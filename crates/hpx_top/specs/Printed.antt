-- What is printed where nothing is run, and of counters behind what was run.
use Rattle.std.specs.Prelude.{ℕ, Bool, true, false, Option, List, [], ◌++◌, ◌≡◌, ◌≢◌, ◌⊎◌, codes, map}
use Rattle.std.specs.List.{concat}
use Rattle.hpx_journal.specs.declared.entry.Entry.{Entry}
use Rattle.hpx_ports.specs.Told.{followed}
use Rattle.hpx_counters.specs.declared.counter.Counter.{Counter}
use Rattle.hpx_counters.specs.Counters.{name_of, counters_below, counter_value, value_text}
use Rattle.hpx_options.specs.Texts.{help_text, version_text}
use Rattle.hpx_top.specs.declared.task.Notice.{Notice}
use Rattle.hpx_top.specs.declared.task.Notice.TheVariants.{Help, Version, Counters}
use Rattle.hpx_top.specs.Session.{WritesFront}

-- ---- where nothing is run

-- texts, each with a newline behind it
abbrev pub on_lines : List (List ℕ) → List ℕ
on_lines texts = concat (map (λ text. text ++ codes "\n") texts)

abbrev pub notice_text : Notice → List ℕ
notice_text Help = help_text
notice_text Version = version_text
notice_text (Counters n) = on_lines (map name_of (counters_below n))

-- the list of counters alone takes memory
abbrev pub takes_memory : Notice → Bool
takes_memory (Counters n) = true
takes_memory _ = false

-- the text was written; or a front of it, where writing failed; or nothing, where memory was wanting
pub record HasTold (notice : Notice) (status : ℕ) (old new : Option (List ℕ)) : Type 0 where
  pub ends : (status ≡ 0) ⊎ (status ≡ 3) ⊎ (status ≡ 6)
  pub whole : status ≡ 0 → new ≡ followed old (notice_text notice)
  pub front : WritesFront (notice_text notice) old new
  pub nothing : status ≡ 6 → (new ≡ old) × (takes_memory notice ≡ true)

-- ---- of counters

-- for each counter its name and its value: how many entries of the journal it counts
abbrev pub counters_text : List Counter → List Entry → List ℕ
counters_text counters entries = concat (map (λ counter. value_text counter (counter_value counter entries)) counters)

-- Behind an application that ended well the values of the counters were written, or a front of them where that failed. Behind any
-- other none was, and the status is the application's.
pub record HasCounted (counters : List Counter) (status ended : ℕ) (entries : List Entry) (old new : Option (List ℕ)) : Type 0 where
  pub well : ended ≡ 0
      → ((status ≡ 0) × (new ≡ followed old (counters_text counters entries)))
      ⊎ ((status ≡ 3) × (counters ≢ []) × WritesFront (counters_text counters entries) old new)
  pub other : ended ≢ 0 → (status ≡ ended) × (new ≡ old)
