-- The halves of an id.
use Rattle.std.proofs.Common.{◌≡◌, ℕ, ◌+◌, ◌-◌, ◌*◌, ◌/◌, ◌%◌, ◌^◌, ◌<◌, ◌≤◌, ◌&&◌, Bool, true, false, Option, Some, None, refl, sym, ap, subst, ◌∙◌, arith, eqb, ltb}
use Rattle.std.specs.Prelude.{IfSome, IfNone, if◌then◌else◌}
use Rattle.std.specs.Option.{ForSome}
use Rattle.std.proofs.lemmas.Bool.{eqb-true, eq-eqb, lt-ltb, ltb-true, and_from, and_parts}
use Rattle.hpx_value.specs.Ids.{Id, IsId, upper_half, id_in, credit_bits}
use Rattle.hpx_value.proofs.Halves.{id_back}
use Rattle.hpx_parcel.specs.Reading.{is_id, id_of}

-- the upper half fits
upper_fits_log : (h k : ℕ) (log : Option ℕ) → h < 2 ^ 32 - 1 → k < 2 ^ 20 → ForSome log (λ l. l ≤ 31) → (h + 1) * 2 ^ 32 + credit_bits log + k * 2 + 1 < 2 ^ 64
upper_fits_log h k None home kind few = omega arith
upper_fits_log h k (Some log) home kind few = let f : log ≤ 31 = few log refl in omega arith

pub upper_fits : (id : Id) → IsId id → upper_half id < 2 ^ 64
upper_fits id valid = upper_fits_log id.home id.kind id.log valid.home valid.kind valid.log

-- the test
is_id_of : (id : Id) → IsId id → is_id (upper_half id) id.number ≡ true
is_id_of id valid =
    let same : eqb (upper_half (id_in (upper_half id) id.number)) (upper_half id) ≡ true = eq-eqb _ _ (ap upper_half (id_back id valid)) in
    let some_kind : ltb 0 ((id_in (upper_half id) id.number).kind) ≡ true = lt-ltb _ _ (subst (λ (k : ℕ). 1 ≤ k) (sym (ap (λ (x : Id). x.kind) (id_back id valid))) valid.some_kind) in
    let some_number : ltb 0 id.number ≡ true = lt-ltb _ _ valid.some_number in
    and_from _ _ same (and_from _ _ some_kind some_number)

pub id_of_back : (id : Id) → IsId id → id_of (upper_half id) id.number ≡ Some id
id_of_back id valid =
    let test : is_id (upper_half id) id.number ≡ true = is_id_of id valid in
    let shown : (if is_id (upper_half id) id.number then Some (id_in (upper_half id) id.number) else None) ≡ Some (id_in (upper_half id) id.number) = ap (λ (b : Bool). if b then Some (id_in (upper_half id) id.number) else None) test in
    shown ∙ ap (λ (x : Id). Some x) (id_back id valid)

-- the log that bits show is small
few_bits : (b : Bool) (n : ℕ) → ForSome (if b then Some (n % 32) else None) (λ l. l ≤ 31)
few_bits true n = λ x e. let same : n % 32 ≡ x = cc in omega arith
few_bits false n = λ x e. absurd cc

pub shown_is : (msb lsb : ℕ) → msb < 2 ^ 64 → lsb < 2 ^ 64 → is_id msb lsb ≡ true → IsId (id_in msb lsb) × (upper_half (id_in msb lsb) ≡ msb)
shown_is msb lsb fits fits' test =
    let one = and_parts (eqb (upper_half (id_in msb lsb)) msb) (ltb 0 ((id_in msb lsb).kind) && ltb 0 lsb) test in
    let two = and_parts (ltb 0 ((id_in msb lsb).kind)) (ltb 0 lsb) one.1 in (
      record {
        home = omega arith;
        kind = omega arith;
        some_kind = ltb-true _ _ two.0;
        number = fits';
        some_number = ltb-true _ _ two.1;
        log = few_bits (eqb (msb / 2 ^ 30 % 2) 1) (msb / 2 ^ 24);
      },
      eqb-true _ _ one.0,
    )

none_by : (msb lsb : ℕ) (b : Bool) → is_id msb lsb ≡ b → msb < 2 ^ 64 → lsb < 2 ^ 64 → ((id : Id) → IsId id → upper_half id ≡ msb → id.number ≡ lsb → ⊥) → None ≡ (if b then Some (id_in msb lsb) else None)
none_by msb lsb true test fits fits' never = let s = shown_is msb lsb fits fits' test in absurd (never (id_in msb lsb) s.0 s.1 refl)
none_by msb lsb false test fits fits' never = refl

-- what reading the halves answers
pub read_is : (msb lsb : ℕ) (r : Option Id) → msb < 2 ^ 64 → lsb < 2 ^ 64
    → IfSome r (λ id. (upper_half id ≡ msb) × (id.number ≡ lsb)) → IfSome r IsId
    → IfNone r ((id : Id) → IsId id → upper_half id ≡ msb → id.number ≡ lsb → ⊥) → r ≡ id_of msb lsb
read_is msb lsb (Some id) fits fits' halves valid never = sym (id_of_back id valid) ∙ ap (λ (m : ℕ). id_of m id.number) halves.0 ∙ ap (λ (l : ℕ). id_of msb l) halves.1
read_is msb lsb None fits fits' halves valid never = none_by msb lsb (is_id msb lsb) refl fits fits' never
