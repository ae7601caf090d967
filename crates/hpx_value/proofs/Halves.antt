-- An id is the one that its halves show.
use Rattle.std.proofs.Common.{◌≡◌, ℕ, ◌+◌, ◌-◌, ◌*◌, ◌/◌, ◌%◌, ◌^◌, ◌<◌, ◌≤◌, Option, Some, None, refl, sym, ap, ◌∙◌, arith}
use Rattle.std.specs.Option.{ForSome}
use Rattle.hpx_value.specs.Ids.{Id, IsId, upper_half, id_in, log_in, credit_bits}

-- without a credit, bit 30 is clear
log_none : (h k : ℕ) → k < 2 ^ 20 → log_in ((h + 1) * 2 ^ 32 + 0 + k * 2 + 1) ≡ None
log_none h k kind =
    let bit : ((h + 1) * 2 ^ 32 + 0 + k * 2 + 1) / 2 ^ 30 % 2 ≡ 0 = omega arith in
    rw bit refl

-- with one, bit 30 is set and the log stands in bits 24 to 28
log_some : (h k log : ℕ) → k < 2 ^ 20 → log ≤ 31 → log_in ((h + 1) * 2 ^ 32 + (2 ^ 30 + log * 2 ^ 24) + k * 2 + 1) ≡ Some log
log_some h k log kind few =
    let bit : ((h + 1) * 2 ^ 32 + (2 ^ 30 + log * 2 ^ 24) + k * 2 + 1) / 2 ^ 30 % 2 ≡ 1 = omega arith in
    let bits : ((h + 1) * 2 ^ 32 + (2 ^ 30 + log * 2 ^ 24) + k * 2 + 1) / 2 ^ 24 % 32 ≡ log = omega arith in
    rw (bit, bits) refl

-- the upper half shows the credit
log_back : (h k : ℕ) (log : Option ℕ) → k < 2 ^ 20 → ForSome log (λ l. l ≤ 31) → log_in ((h + 1) * 2 ^ 32 + credit_bits log + k * 2 + 1) ≡ log
log_back h k None kind few = log_none h k kind
log_back h k (Some log) kind few = log_some h k log kind (few log refl)

-- the upper half shows the home
home_back : (h k : ℕ) (log : Option ℕ) → k < 2 ^ 20 → ForSome log (λ l. l ≤ 31) → ((h + 1) * 2 ^ 32 + credit_bits log + k * 2 + 1) / 2 ^ 32 - 1 ≡ h
home_back h k None kind few = omega arith
home_back h k (Some log) kind few = let f : log ≤ 31 = few log refl in omega arith

-- the upper half shows the kind
kind_back : (h k : ℕ) (log : Option ℕ) → k < 2 ^ 20 → ForSome log (λ l. l ≤ 31) → ((h + 1) * 2 ^ 32 + credit_bits log + k * 2 + 1) / 2 % 2 ^ 20 ≡ k
kind_back h k None kind few = omega arith
kind_back h k (Some log) kind few = omega arith

-- the halves of an id show that id
pub id_back : (id : Id) → IsId id → id_in (upper_half id) id.number ≡ id
id_back id valid =
    rw (home_back id.home id.kind id.log valid.kind valid.log, kind_back id.home id.kind id.log valid.kind valid.log, log_back id.home id.kind id.log valid.kind valid.log) refl

-- the same, where the halves have names of their own
pub shown_by : (msb lsb : ℕ) (id : Id) → IsId id → upper_half id ≡ msb → id.number ≡ lsb → Some (id_in msb lsb) ≡ Some id
shown_by msb lsb id valid upper lower =
    ap (λ (x : Id). Some x) (ap (λ (m : ℕ). id_in m lsb) (sym upper) ∙ (ap (λ (l : ℕ). id_in (upper_half id) l) (sym lower) ∙ id_back id valid))
