-- Global ids: what an id names, the credit that it carries, and its bits.
use Rattle.std.specs.Prelude.{ℕ, Bool, cond, ◌+◌, ◌-◌, ◌*◌, ◌/◌, ◌%◌, ◌^◌, ◌<◌, ◌≤◌, ◌==◌, ◌&&◌, Option, Some, None}
use Rattle.std.specs.Option.{ForSome}

-- the home of an object, its kind, the number drawn at its birth, and the log of the credit, if there is one
pub record Id : Type 0 where
  pub home : ℕ
  pub kind : ℕ
  pub number : ℕ
  pub log : Option ℕ

-- bit 30, and bits 24 to 28
abbrev pub credit_bits : Option ℕ → ℕ
credit_bits None = 0
credit_bits (Some log) = 2 ^ 30 + log * 2 ^ 24

-- the upper half: home + 1 from bit 32 on, the credit, the kind from bit 1 on, and bit 0
abbrev pub upper_half : Id → ℕ
upper_half id = (id.home + 1) * 2 ^ 32 + credit_bits id.log + id.kind * 2 + 1

-- the ids that there are
pub record IsId (id : Id) : Type 0 where
  pub home : id.home < 2 ^ 32 - 1
  pub kind : id.kind < 2 ^ 20
  pub some_kind : 1 ≤ id.kind
  pub number : id.number < 2 ^ 64
  pub some_number : 1 ≤ id.number
  pub log : ForSome id.log (λ log. log ≤ 31)

-- the id without its credit, which names the object
abbrev pub bare : Id → Id
bare id = record { home = id.home; kind = id.kind; number = id.number; log = None }

-- an id without credit
abbrev pub bare_id : ℕ → ℕ → ℕ → Id
bare_id home kind number = record { home = home; kind = kind; number = number; log = None }

-- a credit of log l is worth 2^l, and none is worth nothing
abbrev pub credit_of_log : Option ℕ → ℕ
credit_of_log None = 0
credit_of_log (Some log) = 2 ^ log

-- what an id is worth
abbrev pub credit : Id → ℕ
credit id = credit_of_log id.log

-- the log that the bits show
abbrev pub log_in : ℕ → Option ℕ
log_in msb = cond (msb / 2 ^ 30 % 2 == 1) (Some (msb / 2 ^ 24 % 32)) None

-- the id that the halves show
abbrev pub id_in : ℕ → ℕ → Id
id_in msb lsb = record { home = msb / 2 ^ 32 - 1; kind = msb / 2 % 2 ^ 20; number = lsb; log = log_in msb }

-- two ids name the same object
abbrev pub same_object : Id → Id → Bool
same_object a b = (a.home == b.home) && ((a.kind == b.kind) && (a.number == b.number))
