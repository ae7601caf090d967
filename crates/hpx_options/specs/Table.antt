-- The table of options: the word of each, where it may stand, and what values it takes.
use Rattle.std.specs.Prelude.{ℕ, Bool, true, false, ◌&&◌, ◌^◌, List, [], ◌∷◌, codes, find, Option, Some, None}
use Rattle.std.specs.Str.{bytes_eq}
use Rattle.hpx_options.specs.declared.table.Application.{Application}
use Rattle.hpx_options.specs.declared.table.Application.TheVariants.{Accumulator, Space, Fib, Stencil, Load, Check, Collect, Vector}
use Rattle.hpx_options.specs.declared.table.OptionName.{OptionName}
use Rattle.hpx_options.specs.declared.table.OptionName.TheVariants.{Threads, Localities, Node, Agas, Hpx, Console, Worker, PrintCounter, ListCounters, Help, Version, Ini, CreditLog, CreditLimit, CacheSize, Settle, Journal, FibNumber, FibThreshold, StencilPoints, StencilParts, StencilSteps, LoadStart, LoadLines, CollectOp, CollectStart, VectorPoints, VectorParts}
use Rattle.hpx_options.specs.declared.table.Stands.{Stands}
use Rattle.hpx_options.specs.declared.table.Stands.TheVariants.{Anywhere, Behind, InIni}
use Rattle.hpx_options.specs.declared.table.Form.{Form}
use Rattle.hpx_options.specs.declared.table.Form.TheVariants.{Bare, Numbers, Logs, Limits, Ports, Ops, Counters, Keys}

-- a row: its place from 0, the word, where it may stand, and the form of its value
pub record Row : Type 0 where
  pub place : ℕ
  pub word : List ℕ
  pub stands : Stands
  pub form : Form

abbrev pub row : ℕ → List ℕ → Stands → Form → Row
row place word stands form = record { place = place; word = word; stands = stands; form = form }

-- the table
abbrev pub row_of : OptionName → Row
row_of Threads = row 0 (codes "--hpx:threads") Anywhere (Numbers 1 64)
row_of Localities = row 1 (codes "--hpx:localities") Anywhere (Numbers 1 64)
row_of Node = row 2 (codes "--hpx:node") Anywhere (Numbers 0 63)
row_of Agas = row 3 (codes "--hpx:agas") Anywhere (Ports 65472)
row_of Hpx = row 4 (codes "--hpx:hpx") Anywhere (Ports 65535)
row_of Console = row 5 (codes "--hpx:console") Anywhere Bare
row_of Worker = row 6 (codes "--hpx:worker") Anywhere Bare
row_of PrintCounter = row 7 (codes "--hpx:print-counter") Anywhere Counters
row_of ListCounters = row 8 (codes "--hpx:list-counters") Anywhere Bare
row_of Help = row 9 (codes "--hpx:help") Anywhere Bare
row_of Version = row 10 (codes "--hpx:version") Anywhere Bare
row_of Ini = row 11 (codes "--hpx:ini") Anywhere Keys
row_of CreditLog = row 12 (codes "hpx.agas.credit_log") InIni (Logs 8 31)
row_of CreditLimit = row 13 (codes "hpx.agas.credit_limit") InIni (Limits 2 (2 ^ 100))
row_of CacheSize = row 14 (codes "hpx.agas.cache_size") InIni (Numbers 1 4096)
row_of Settle = row 15 (codes "hpx.agas.settle") InIni (Numbers 0 1)
row_of Journal = row 16 (codes "hpx.journal") InIni (Numbers 0 1)
row_of FibNumber = row 17 (codes "--n-value") (Behind Fib) (Numbers 0 92)
row_of FibThreshold = row 18 (codes "--threshold") (Behind Fib) (Numbers 2 92)
row_of StencilPoints = row 19 (codes "--points") (Behind Stencil) (Numbers 1 1024)
row_of StencilParts = row 20 (codes "--parts") (Behind Stencil) (Numbers 1 32)
row_of StencilSteps = row 21 (codes "--steps") (Behind Stencil) (Numbers 0 1000)
row_of LoadStart = row 22 (codes "--start") (Behind Load) (Numbers 0 2147483647)
row_of LoadLines = row 23 (codes "--lines") (Behind Load) (Numbers 0 20000)
row_of CollectOp = row 24 (codes "--op") (Behind Collect) Ops
row_of CollectStart = row 25 (codes "--start") (Behind Collect) (Numbers 0 1000000000)
row_of VectorPoints = row 26 (codes "--points") (Behind Vector) (Numbers 1 4096)
row_of VectorParts = row 27 (codes "--parts") (Behind Vector) (Numbers 1 32)

-- its options, in order
abbrev pub all_options : List OptionName
all_options =
    Threads ∷ Localities ∷ Node ∷ Agas
    ∷ Hpx ∷ Console ∷ Worker ∷ PrintCounter
    ∷ ListCounters ∷ Help ∷ Version ∷ Ini
    ∷ CreditLog ∷ CreditLimit ∷ CacheSize ∷ Settle
    ∷ Journal ∷ FibNumber ∷ FibThreshold ∷ StencilPoints
    ∷ StencilParts ∷ StencilSteps ∷ LoadStart ∷ LoadLines
    ∷ CollectOp ∷ CollectStart ∷ VectorPoints ∷ VectorParts ∷ []

-- the words of the applications
abbrev pub word_of : Application → List ℕ
word_of Accumulator = codes "accumulator"
word_of Space = codes "space"
word_of Fib = codes "fib"
word_of Stencil = codes "stencil"
word_of Load = codes "load"
word_of Check = codes "check"
word_of Collect = codes "collect"
word_of Vector = codes "vector"

abbrev pub all_applications : List Application
all_applications = Accumulator ∷ Space ∷ Fib ∷ Stencil ∷ Load ∷ Check ∷ Collect ∷ Vector ∷ []

-- one application is another
abbrev pub is_same : Application → Application → Bool
is_same Accumulator Accumulator = true
is_same Space Space = true
is_same Fib Fib = true
is_same Stencil Stencil = true
is_same Load Load = true
is_same Check Check = true
is_same Collect Collect = true
is_same Vector Vector = true
is_same _ _ = false

-- an option may stand behind an application, or before there is one
abbrev pub may_stand : Stands → Option Application → Bool
may_stand Anywhere application = true
may_stand (Behind owner) None = false
may_stand (Behind owner) (Some application) = is_same owner application
may_stand InIni application = false

-- in the value of `--hpx:ini`
abbrev pub in_ini : Stands → Bool
in_ini InIni = true
in_ini _ = false

-- a word names an option behind an application, or before there is one
abbrev pub is_option : Option Application → List ℕ → OptionName → Bool
is_option application word option = may_stand (row_of option).stands application && bytes_eq word (row_of option).word

-- a word names a key of `--hpx:ini`
abbrev pub is_key : List ℕ → OptionName → Bool
is_key word option = in_ini (row_of option).stands && bytes_eq word (row_of option).word

-- the option that a word names, and the key
abbrev pub option_named : Option Application → List ℕ → Option OptionName
option_named application word = find (is_option application word) all_options

abbrev pub key_named : List ℕ → Option OptionName
key_named word = find (is_key word) all_options

-- the application that a word names
abbrev pub application_named : List ℕ → Option Application
application_named word = find (λ application. bytes_eq word (word_of application)) all_applications
