-- What a command line asks for.
use Rattle.std.specs.Prelude.{ℕ, Bool, true, false, ◌&&◌, ◌==◌, List, [], ◌∷◌, ◌++◌, map, Option, Some, None, option_and_then, option_map, unwrap_or, nat_le, codes, if◌then◌else◌}
use Rattle.std.specs.List.{list_all, range_with_len}
use Rattle.std.specs.Fmt.{decimal}
use Rattle.std.specs.Str.{is_utf8, all_ascii_digits}
use Rattle.std.specs.Str.Parse.{digits_value}
use Rattle.clap.specs.Words.{App, Kinds, Row, Rule, all_of, fault_of, first_of, matches_of, new_app, new_rule, with_rule}
use Rattle.clap.specs.Simple.{on_top}
use Rattle.clap.specs.declared.builder.action.ArgAction.TheVariants.{Append, Set}
use Rattle.hpx_ports.specs.Spawns.{Start}
use Rattle.hpx_launch.specs.declared.line.Launch.{Launch}

-- an option that has one value
abbrev pub option_named : List ℕ → Rule
option_named name = record (new_rule name) { long = Some name; action = Some Set }

-- what clap is to read: `--program PATH --localities N [--port P] [--] WORDS`
unfoldable pub hpxrun : App
hpxrun =
    let plain = on_top (λ s. record s { no_binary_name = true; disable_help_flag = true }) (new_app (codes "hpxrun")) in
    let program = record (option_named (codes "program")) { required = true } in
    let localities = record (option_named (codes "localities")) { required = true } in
    let port = record (option_named (codes "port")) { defaults = codes "7910" ∷ [] } in
    let words = record (new_rule (codes "words")) { action = Some Append } in
    with_rule (with_rule (with_rule (with_rule plain program) localities) port) words

-- what clap finds wrong in words, and what it finds in those that it takes
unfoldable pub faults_in : List (List ℕ) → Kinds
faults_in words = fault_of hpxrun words

unfoldable pub rows_in : List (List ℕ) → List Row
rows_in words = matches_of hpxrun words

abbrev pub is_filled : List ℕ → Bool
is_filled [] = false
is_filled (b ∷ bs) = true

-- at least one digit and nothing else, and the number is from 1 to a greatest one
abbrev pub number_in : ℕ → List ℕ → Option ℕ
number_in greatest text =
    if is_filled text && all_ascii_digits text && nat_le 1 (digits_value 10 text) && nat_le (digits_value 10 text) greatest
    then Some (digits_value 10 text) else None

-- the launch that clap's matches ask for: at most 64 localities, and their ports end below 2 ^ 16
unfoldable pub launch_of : List Row → Option Launch
launch_of rows =
    option_and_then (λ program.
    option_and_then (λ localities.
    option_map (λ port. record { program = program; localities = localities; port = port; words = unwrap_or (all_of (codes "words") rows) [] })
    (option_and_then (number_in 65472) (first_of (codes "port") rows)))
    (option_and_then (number_in 64) (first_of (codes "localities") rows)))
    (first_of (codes "program") rows)

-- this, where nothing is wrong
abbrev pub where_right : Kinds → Option Launch → Option Launch
where_right [] asked = asked
where_right (k ∷ ks) asked = None

-- the launch that words ask for: all are UTF-8, clap takes them, and the numbers are in range
unfoldable pub launch_in : List (List ℕ) → Option Launch
launch_in words = if list_all is_utf8 words then where_right (faults_in words) (launch_of (rows_in words)) else None

-- the word for what a locality is: the console at 0, else a worker
abbrev pub side_of : ℕ → List ℕ
side_of k = if k == 0 then codes "--hpx:console" else codes "--hpx:worker"

-- the words that a locality's child is started with
abbrev pub child_words : Launch → ℕ → List (List ℕ)
child_words launch k = launch.words
    ++ (codes "--hpx:localities=" ++ decimal launch.localities)
    ∷ (codes "--hpx:agas=127.0.0.1:" ++ decimal launch.port)
    ∷ (codes "--hpx:node=" ++ decimal k)
    ∷ side_of k ∷ []

-- its start, and the starts of all children, in the order of their localities
abbrev pub start_of : Launch → ℕ → Start
start_of launch k = (launch.program, child_words launch k)

abbrev pub starts_of : Launch → List Start
starts_of launch = map (start_of launch) (range_with_len 0 launch.localities)
