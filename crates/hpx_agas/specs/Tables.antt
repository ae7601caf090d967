-- What is kept of all numbers that were drawn.
use Rattle.std.specs.Prelude.{ℕ, ◌≡◌, ◌≤◌, ◌+◌, ◌^◌, List, length, refl}
use Rattle.std.specs.Coded.{Coded, code_by, coded×, coded_ℕ, coded_list}
use Rattle.hpx_agas.specs.declared.record.Record.{Record}
use Rattle.hpx_agas.specs.declared.record.Waiting.{Waiting}
use Rattle.hpx_agas.specs.declared.line.Line.{Line}
use Rattle.hpx_agas.specs.Codes.{record_code}
use Rattle.hpx_agas.specs.Queues.{waiting_code}
use Rattle.hpx_agas.specs.Lines.{records_of, waiting_of, AreKept}

-- the highest number, the records by rising number, what waits, and for how many more births and items there is memory
pub record Kept (Q : Type 0) : Type 0 where
  pub births : ℕ
  pub records : List Record
  pub waiting : List (Waiting Q)
  pub spare : ℕ

-- what holds of the parts of a table
pub record IsTable {Q : Type 0} (births records items : ℕ) (ls : List (Line Q)) (room : ℕ) : Type 0 where
  pub lines : AreKept 0 births ls
  pub live : records ≡ length (records_of ls)
  pub waiting : items ≡ length (waiting_of ls)
  pub most : items + room ≤ 2 ^ 62

-- it is stored as the tuple of its fields
abbrev pub kept_code : {Q : Type 0} → Coded Q → Coded (Kept Q)
kept_code {Q} code =
    code_by
    (ℕ × (List Record × (List (Waiting Q) × ℕ)))
    (coded× coded_ℕ (coded× (coded_list record_code) (coded× (coded_list (waiting_code code)) coded_ℕ)))
    (λ t. (t.births, (t.records, (t.waiting, t.spare))))
    (λ p. record { births = p.0; records = p.1.0; waiting = p.1.1.0; spare = p.1.1.1 })
    (λ _. refl)
