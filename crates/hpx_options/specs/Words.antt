-- How a command line is read, word by word.
use Rattle.std.specs.Prelude.{ℕ, Bool, true, ◌==◌, ◌+◌, ◌++◌, List, [], ◌∷◌, length, nat_lt, take, drop, position, replicate, slice_index_or, slice_set, Option, Some, None, is_some, is_none, option_map, option_and_then, if◌then◌else◌}
use Rattle.hpx_counters.specs.declared.counter.Counter.{Counter}
use Rattle.hpx_counters.specs.Counters.{counter_named}
use Rattle.hpx_options.specs.declared.table.OptionName.{OptionName}
use Rattle.hpx_options.specs.declared.table.Form.{Form}
use Rattle.hpx_options.specs.declared.table.Form.TheVariants.{Bare, Numbers, Logs, Limits, Ports, Ops, Counters, Keys}
use Rattle.hpx_options.specs.declared.line.Datum.{Datum}
use Rattle.hpx_options.specs.declared.line.Datum.TheVariants.{Nothing, Number, Log, Limit, Port, Op}
use Rattle.hpx_options.specs.declared.line.Line.{Line}
use Rattle.hpx_options.specs.Table.{row_of, option_named, key_named, application_named}
use Rattle.hpx_options.specs.Values.{number_in, port_in, op_named}

-- ---- the parts of a word

-- the bytes before the first `=`
abbrev pub front_of : List ℕ → Option ℕ → List ℕ
front_of word None = word
front_of word (Some i) = take i word

abbrev pub name_part : List ℕ → List ℕ
name_part word = front_of word (position (λ b. b == 61) word)

-- what stands behind it, where there is one
abbrev pub value_part : List ℕ → Option (List ℕ)
value_part word = option_map (λ i. drop (i + 1) word) (position (λ b. b == 61) word)

-- ---- what was read so far

-- what a text gives an option of a form
abbrev pub datum_in : Form → List ℕ → Option Datum
datum_in (Numbers least greatest) text = option_map Number (number_in least greatest text)
datum_in (Logs least greatest) text = option_map Log (number_in least greatest text)
datum_in (Limits least greatest) text = option_map Limit (number_in least greatest text)
datum_in (Ports greatest) text = option_map Port (port_in greatest text)
datum_in Ops text = option_map Op (op_named text)
datum_in _ text = None

-- before the first word
abbrev pub empty_line : Line
empty_line = record { application = None; values = replicate 28 None; counters = record { items = [] }; awaited = None }

-- what an option was given
abbrev pub value_at : Line → OptionName → Option Datum
value_at line option = slice_index_or line.values (row_of option).place None

-- an option is given something
abbrev pub with_value : Line → OptionName → Datum → Line
with_value line option datum = record line { values = slice_set line.values (row_of option).place (Some datum) }

-- a counter is asked for: at most 64 are
abbrev pub with_counter : Line → Counter → Option Line
with_counter line counter =
    if nat_lt (length line.counters.items) 64 then Some (record line { counters = record { items = line.counters.items ++ counter ∷ [] } }) else None

-- counters may be asked for up to 64 times, keys be given once each, and any other option once
abbrev pub is_open_for : Line → OptionName → Form → Bool
is_open_for line option Counters = nat_lt (length line.counters.items) 64
is_open_for line option Keys = true
is_open_for line option _ = is_none (value_at line option)

abbrev pub is_open : Line → OptionName → Bool
is_open line option = is_open_for line option (row_of option).form

-- ---- one word more, where it fits

-- the value of a key, which is given once
abbrev pub with_key : Line → OptionName → Option (List ℕ) → Option Line
with_key line option value =
    if is_open line option then option_map (with_value line option) (option_and_then (datum_in (row_of option).form) value) else None

-- a key and its value
abbrev pub after_key : Line → List ℕ → Option Line
after_key line text = option_and_then (λ option. with_key line option (value_part text)) (key_named (name_part text))

-- the value of an option
abbrev pub after_form : Line → OptionName → List ℕ → Form → Option Line
after_form line option text Counters = option_and_then (with_counter line) (counter_named text)
after_form line option text Keys = after_key line text
after_form line option text form = option_map (with_value line option) (datum_in form text)

abbrev pub after_value : Line → OptionName → List ℕ → Option Line
after_value line option text = after_form line option text (row_of option).form

-- an option's word alone: it is all, or its value is awaited
abbrev pub after_name : Line → OptionName → Form → Line
after_name line option Bare = with_value line option Nothing
after_name line option _ = record line { awaited = Some option }

-- an option's word with a value, or alone
abbrev pub after_option : Line → OptionName → Option (List ℕ) → Option Line
after_option line option None = Some (after_name line option (row_of option).form)
after_option line option (Some text) = after_value line option text

-- the first word that is no option is the application
abbrev pub after_application : Line → List ℕ → Option Line
after_application line word =
    if is_some line.application then None else option_map (λ application. record line { application = Some application }) (application_named word)

-- a word that no option awaits
abbrev pub after_first : Line → List ℕ → Option OptionName → Option Line
after_first line word None = after_application line word
after_first line word (Some option) = if is_open line option then after_option line option (value_part word) else None

abbrev pub after_head : Line → List ℕ → Option Line
after_head line word = after_first line word (option_named line.application (name_part word))

-- a word: the value of the option that awaits one, or the next option or application
abbrev pub after_awaited : Line → List ℕ → Option OptionName → Option Line
after_awaited line word None = after_head line word
after_awaited line word (Some option) = after_value (record line { awaited = None }) option word

abbrev pub after_word : Line → List ℕ → Option Line
after_word line word = after_awaited line word line.awaited
