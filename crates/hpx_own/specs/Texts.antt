-- What is printed for the lines that the top call handles itself.
use Rattle.std.specs.Prelude.{ℕ, List, [], ◌∷◌, ◌++◌, codes}
use Rattle.std.specs.List.{flat_map}
use Rattle.std.specs.Fmt.{decimal}
use Rattle.hpx_journal.specs.declared.entry.Entry.{Entry}
use Rattle.hpx_counters.specs.Counters.{counter_value}
use Rattle.hpx_counters.specs.declared.counter.Counter.{Counter}
use Rattle.hpx_world.specs.declared.audit.AuditLine.{AuditLine}
use Rattle.hpx_own.specs.declared.lines.Refusal.{Refusal}
use Rattle.hpx_own.specs.declared.lines.Refusal.TheVariants.{BadNumber, BadCounter}

-- why a line is refused
abbrev pub refusal_text : Refusal → List ℕ
refusal_text BadNumber = codes "error: bad number\n"
refusal_text BadCounter = codes "error: bad counter\n"

-- the home and the number of an object, how much credit of it is recorded, held and away, and where it is
abbrev pub line_text : AuditLine → List ℕ
line_text x =
    decimal x.gid.home ++ codes "." ++ decimal x.gid.number
    ++ codes " recorded " ++ decimal x.recorded
    ++ codes " held " ++ decimal x.held
    ++ codes " flight " ++ decimal x.flight
    ++ codes " at " ++ decimal x.at ++ codes "\n"

-- the lines of an audit, one after another, or that there is none
abbrev pub audit_text : List AuditLine → List ℕ
audit_text [] = codes "no objects\n"
audit_text (x ∷ xs) = flat_map line_text (x ∷ xs)

-- how many entries a counter counts
abbrev pub counted_text : Counter → List Entry → List ℕ
counted_text counter entries = decimal (counter_value counter entries) ++ codes "\n"
