-- Each word that fits makes a line grow, so that few words fit.
use Rattle.std.proofs.Common.{◌≡◌, ℕ, ◌+◌, ◌*◌, ◌<◌, ◌≤◌, Bool, true, false, cond, List, [], ◌∷◌, ◌++◌, length, nat_lt, count_by, Option, Some, None, is_some, is_none, option_map, option_and_then, refl, subst, ◌∙◌, arith, lit<}
use Rattle.std.proofs.lemmas.Bool.{ltb-true, cond-false}
use Rattle.std.proofs.lemmas.List.{length-set, length_push}
use Rattle.std.proofs.lemmas.List.Sums.{sum_by-set, count_by-le-length}
use Rattle.hpx_counters.specs.declared.counter.Counter.{Counter}
use Rattle.hpx_counters.specs.Counters.{counter_named}
use Rattle.hpx_options.specs.declared.table.OptionName.{OptionName}
use Rattle.hpx_options.specs.declared.table.OptionName.TheVariants.{Threads, Localities, Node, Agas, Hpx, Console, Worker, PrintCounter, ListCounters, Help, Version, Ini, CreditLog, CreditLimit, CacheSize, Settle, Journal, FibNumber, FibThreshold, StencilPoints, StencilParts, StencilSteps, LoadStart, LoadLines, CollectOp, CollectStart, VectorPoints, VectorParts}
use Rattle.hpx_options.specs.declared.table.Form.{Form}
use Rattle.hpx_options.specs.declared.table.Form.TheVariants.{Bare, Numbers, Logs, Limits, Ports, Ops, Counters, Keys}
use Rattle.hpx_options.specs.declared.line.Datum.{Datum}
use Rattle.hpx_options.specs.declared.line.Datum.TheVariants.{Nothing}
use Rattle.hpx_options.specs.declared.line.Line.{Line}
use Rattle.hpx_options.specs.Table.{row_of, option_named, key_named, application_named}
use Rattle.hpx_options.specs.Words.{value_part, name_part, datum_in, empty_line, value_at, with_value, with_counter, is_open_for, is_open, with_key, after_key, after_form, after_name, after_option, after_application, after_first, after_awaited, after_word}

-- each option has its place among 28
pub place_within : (option : OptionName) → (row_of option).place < 28
place_within Threads = lit< tt
place_within Localities = lit< tt
place_within Node = lit< tt
place_within Agas = lit< tt
place_within Hpx = lit< tt
place_within Console = lit< tt
place_within Worker = lit< tt
place_within PrintCounter = lit< tt
place_within ListCounters = lit< tt
place_within Help = lit< tt
place_within Version = lit< tt
place_within Ini = lit< tt
place_within CreditLog = lit< tt
place_within CreditLimit = lit< tt
place_within CacheSize = lit< tt
place_within Settle = lit< tt
place_within Journal = lit< tt
place_within FibNumber = lit< tt
place_within FibThreshold = lit< tt
place_within StencilPoints = lit< tt
place_within StencilParts = lit< tt
place_within StencilSteps = lit< tt
place_within LoadStart = lit< tt
place_within LoadLines = lit< tt
place_within CollectOp = lit< tt
place_within CollectStart = lit< tt
place_within VectorPoints = lit< tt
place_within VectorParts = lit< tt

abbrev pub one_if : Bool → ℕ
one_if b = cond b 1 0

-- how far a line has grown: two for what was given and for each counter, one for an application and for an option that awaits its value
abbrev pub size : Line → ℕ
size line =
    2 * count_by (λ v. is_some v) line.values + 2 * length line.counters.items
    + one_if (is_some line.application) + one_if (is_some line.awaited)

-- what holds of each line that is read
pub record IsGood (line : Line) : Type 0 where
  pub options : length line.values ≡ 28
  pub few : length line.counters.items ≤ 64
  pub waits : (option : OptionName) → line.awaited ≡ Some option → is_open line option ≡ true

-- a line goes on, grown by so much
pub record GoesOn (more : ℕ) (line next : Line) : Type 0 where
  pub grown : size line + more ≤ size next
  pub good : IsGood next

-- the first line
pub empty_good : IsGood empty_line
empty_good = record { options = refl; few = omega arith; waits = λ option e. cc }

-- no line grows past this
pub size_small : (line : Line) → IsGood line → size line ≤ 186
size_small line good =
    small (count_by (λ v. is_some v) line.values) (length line.values) (length line.counters.items) (is_some line.application) (is_some line.awaited)
    (count_by-le-length (λ v. is_some v) line.values) good.options good.few
  where
    small : (given values counters : ℕ) (a b : Bool) → given ≤ values → values ≡ 28 → counters ≤ 64 →
        2 * given + 2 * counters + one_if a + one_if b ≤ 186
    small given values counters true true f g h = omega arith
    small given values counters true false f g h = omega arith
    small given values counters false true f g h = omega arith
    small given values counters false false f g h = omega arith

none_of : {A : Type 0} (o : Option A) → is_none o ≡ true → o ≡ None
none_of None h = refl
none_of (Some x) h = cc

absent : {A : Type 0} (o : Option A) → o ≡ None → one_if (is_some o) ≡ 0
absent None h = refl
absent (Some x) h = cc

there : {A : Type 0} (o : Option A) (x : A) → o ≡ Some x → one_if (is_some o) ≡ 1
there None x h = cc
there (Some y) x h = refl

-- ---- what follows where a step gives something

from_map : {A : Type 0} (g : A → Line) (P : Line → Type 0) (next : Line) → ((x : A) → P (g x)) → (o : Option A) → option_map g o ≡ Some next → P next
from_map g P next f None h = cc
from_map g P next f (Some x) h = let same : g x ≡ next = cc in subst P same (f x)

from_then : {A : Type 0} (g : A → Option Line) (P : Line → Type 0) (next : Line) → ((x : A) → g x ≡ Some next → P next) → (o : Option A) → option_and_then g o ≡ Some next → P next
from_then g P next f None h = cc
from_then g P next f (Some x) h = f x h

from_cond : {A : Type 0} (P : Type 0) (o : Option A) (x : A) → (b : Bool) → (b ≡ true → o ≡ Some x → P) → cond b o None ≡ Some x → P
from_cond P o x true f h = f refl h
from_cond P o x false f h = cc

from_else : {A : Type 0} (P : Type 0) (o : Option A) (x : A) → (b : Bool) → (b ≡ false → o ≡ Some x → P) → cond b None o ≡ Some x → P
from_else P o x true f h = cc
from_else P o x false f h = f refl h

-- ---- an option is given something

value_grows : (line : Line) (option : OptionName) (datum : Datum) → IsGood line → line.awaited ≡ None → value_at line option ≡ None →
    GoesOn 2 line (with_value line option datum)
value_grows line option datum good none free =
    let counts = sum_by-set (λ v. one_if (is_some v)) line.values (row_of option).place (Some datum) None
    (omega (arith, place_within option, good.options)) in
    let before : one_if (is_some (value_at line option)) ≡ 0 = absent (value_at line option) free in
    record {
      grown = omega arith;
      good = record {
        options = length-set line.values (row_of option).place (Some datum) ∙ good.options;
        few = good.few;
        waits = λ other e. cc;
      };
    }

counter_grows : (line : Line) (counter : Counter) (next : Line) → IsGood line → line.awaited ≡ None → with_counter line counter ≡ Some next → GoesOn 2 line next
counter_grows line counter next good none =
    from_cond (GoesOn 2 line next) _ next (nat_lt (length line.counters.items) 64) (λ room e.
    let more : Line = record line { counters = record { items = line.counters.items ++ counter ∷ [] } } in
    let same : more ≡ next = cc in
    let longer = length_push line.counters.items counter in
    let below = ltb-true _ _ room in
    subst (GoesOn 2 line) same (record {
      grown = omega arith;
      good = record { options = good.options; few = omega arith; waits = λ other e. cc };
    }))

-- what is open, and no counter and no key, was not given yet
pub free_numbers : (line : Line) (option : OptionName) (form : Form) (o : Option (List ℕ)) (next : Line) → IsGood line → line.awaited ≡ None →
    is_open_for line option form ≡ true → option_map (with_value line option) (option_and_then (datum_in form) o) ≡ Some next → GoesOn 2 line next
free_numbers line option Counters None next good none free h = cc
free_numbers line option Counters (Some text) next good none free h = cc
free_numbers line option Keys None next good none free h = cc
free_numbers line option Keys (Some text) next good none free h = cc
free_numbers line option Bare o next good none free h =
    from_map (with_value line option) (GoesOn 2 line) next (λ datum. value_grows line option datum good none (none_of _ free)) _ h
free_numbers line option (Numbers least greatest) o next good none free h =
    from_map (with_value line option) (GoesOn 2 line) next (λ datum. value_grows line option datum good none (none_of _ free)) _ h
free_numbers line option (Logs least greatest) o next good none free h =
    from_map (with_value line option) (GoesOn 2 line) next (λ datum. value_grows line option datum good none (none_of _ free)) _ h
free_numbers line option (Limits least greatest) o next good none free h =
    from_map (with_value line option) (GoesOn 2 line) next (λ datum. value_grows line option datum good none (none_of _ free)) _ h
free_numbers line option (Ports greatest) o next good none free h =
    from_map (with_value line option) (GoesOn 2 line) next (λ datum. value_grows line option datum good none (none_of _ free)) _ h
free_numbers line option Ops o next good none free h =
    from_map (with_value line option) (GoesOn 2 line) next (λ datum. value_grows line option datum good none (none_of _ free)) _ h

key_grows : (line : Line) (text : List ℕ) (next : Line) → IsGood line → line.awaited ≡ None → after_key line text ≡ Some next → GoesOn 2 line next
key_grows line text next good none =
    from_then (λ option. with_key line option (value_part text)) (GoesOn 2 line) next (λ option.
    from_cond (GoesOn 2 line next) _ next (is_open line option) (λ free.
    free_numbers line option (row_of option).form (value_part text) next good none free)) (key_named (name_part text))

form_grows : (line : Line) (option : OptionName) (text : List ℕ) (form : Form) (next : Line) → IsGood line → line.awaited ≡ None →
    is_open_for line option form ≡ true → after_form line option text form ≡ Some next → GoesOn 2 line next
form_grows line option text Counters next good none free =
    from_then (with_counter line) (GoesOn 2 line) next (λ counter. counter_grows line counter next good none) (counter_named text)
form_grows line option text Keys next good none free = key_grows line text next good none
form_grows line option text Bare next good none free = free_numbers line option Bare (Some text) next good none free
form_grows line option text (Numbers least greatest) next good none free = free_numbers line option (Numbers least greatest) (Some text) next good none free
form_grows line option text (Logs least greatest) next good none free = free_numbers line option (Logs least greatest) (Some text) next good none free
form_grows line option text (Limits least greatest) next good none free = free_numbers line option (Limits least greatest) (Some text) next good none free
form_grows line option text (Ports greatest) next good none free = free_numbers line option (Ports greatest) (Some text) next good none free
form_grows line option text Ops next good none free = free_numbers line option Ops (Some text) next good none free

-- ---- one word more

by_one : (line next : Line) → GoesOn 2 line next → GoesOn 1 line next
by_one line next on = record { grown = omega (arith, on.grown); good = on.good }

-- an option that awaits its value
name_grows : (line : Line) (option : OptionName) → IsGood line → line.awaited ≡ None → is_open line option ≡ true →
    GoesOn 1 line (record line { awaited = Some option })
name_grows line option good none free =
    let before : one_if (is_some line.awaited) ≡ 0 = absent line.awaited none in
    record {
      grown = omega arith;
      good = record {
        options = good.options;
        few = good.few;
        waits = λ other e. let same : option ≡ other = cc in subst (λ o. is_open line o ≡ true) same free;
      };
    }

after_name_grows : (line : Line) (option : OptionName) (form : Form) → IsGood line → line.awaited ≡ None → is_open line option ≡ true →
    is_open_for line option form ≡ true → GoesOn 1 line (after_name line option form)
after_name_grows line option Bare good none free h = by_one line _ (value_grows line option Nothing good none (none_of _ h))
after_name_grows line option Counters good none free h = name_grows line option good none free
after_name_grows line option Keys good none free h = name_grows line option good none free
after_name_grows line option Ops good none free h = name_grows line option good none free
after_name_grows line option (Numbers least greatest) good none free h = name_grows line option good none free
after_name_grows line option (Logs least greatest) good none free h = name_grows line option good none free
after_name_grows line option (Limits least greatest) good none free h = name_grows line option good none free
after_name_grows line option (Ports greatest) good none free h = name_grows line option good none free

option_grows : (line : Line) (option : OptionName) (value : Option (List ℕ)) (next : Line) → IsGood line → line.awaited ≡ None → is_open line option ≡ true →
    after_option line option value ≡ Some next → GoesOn 1 line next
option_grows line option None next good none free h =
    let same : after_name line option (row_of option).form ≡ next = cc in
    subst (GoesOn 1 line) same (after_name_grows line option (row_of option).form good none free free)
option_grows line option (Some text) next good none free h = by_one line next (form_grows line option text (row_of option).form next good none free h)

application_grows : (line : Line) (word : List ℕ) (next : Line) → IsGood line → line.awaited ≡ None → after_application line word ≡ Some next → GoesOn 1 line next
application_grows line word next good none =
    from_else (GoesOn 1 line next) _ next (is_some line.application) (λ first.
    from_map (λ application. record line { application = Some application }) (GoesOn 1 line) next (λ application.
    let before : one_if (is_some line.application) ≡ 0 = cond-false _ _ _ first in
    record { grown = omega arith; good = record { options = good.options; few = good.few; waits = good.waits } }) (application_named word))

head_grows : (line : Line) (word : List ℕ) (o : Option OptionName) (next : Line) → IsGood line → line.awaited ≡ None → after_first line word o ≡ Some next → GoesOn 1 line next
head_grows line word None next good none = application_grows line word next good none
head_grows line word (Some option) next good none =
    from_cond (GoesOn 1 line next) _ next (is_open line option) (λ free. option_grows line option (value_part word) next good none free)

-- each word that fits makes the line grow
pub word_grows : (line : Line) (word : List ℕ) (next : Line) → IsGood line → after_word line word ≡ Some next → GoesOn 1 line next
word_grows line word next good = by_awaited line.awaited refl
  where
    by_awaited : (o : Option OptionName) → line.awaited ≡ o → after_awaited line word o ≡ Some next → GoesOn 1 line next
    by_awaited None e h = head_grows line word (option_named line.application (name_part word)) next good e h
    by_awaited (Some option) e h =
        let rest : Line = record line { awaited = None } in
        let good_rest : IsGood rest = record { options = good.options; few = good.few; waits = λ other f. cc } in
        let on = form_grows rest option word (row_of option).form next good_rest refl (good.waits option e) h in
        let before : one_if (is_some line.awaited) ≡ 1 = there line.awaited option e in
        record { grown = omega (arith, on.grown); good = on.good }
