-- Which ids and actions fields take.
use Rattle.std.proofs.Common.{◌≡◌, ◌≢◌, ℕ, ◌^◌, ◌<◌, ◌≤◌, ◌&&◌, true, false, cond, leb, eqb, List, [], ◌∷◌, ◌++◌, length, Option, Some, None, Ok, refl, ap, subst, ◌∙◌, append_assoc, arith}
use Rattle.std.specs.Prelude.{pos, negsuc, MatchOption, is_some, is_none}
use Rattle.std.specs.List.{AllByRecursion}
use Rattle.std.proofs.lemmas.Bool.{leb-true, le-leb, eqb-true, eq-eqb, ne_eqb, and_parts, and_from}
use Rattle.hpx_value.specs.Ids.{IsId}
use Rattle.hpx_value.specs.Shapes.{values_size}
use Rattle.hpx_parcel.specs.Types.{Id, Value, Nothing, Flag, Int, Text, Ref, Fault, Ints, Act}
use Rattle.hpx_parcel.specs.Spelling.{number_text, id_text}
use Rattle.hpx_parcel.specs.Parcels.{HasRightCredit, HasCredit, HasLeastCredit, IsBare, IsMovable, IsPlace, IsSent, IsApplied, IsMove, FitsAct}
use Rattle.hpx_parcel.specs.Reading.{◌>>=◌, number_at, IdRule, ActRule, Named, Movable, Credited, Least, Bare, Applied, Moves, credit_fits, is_least, allows, id_at, pair_at, are_move_args}
use Rattle.hpx_parcel.proofs.FieldLaws.{IsBytes, bind_ok, ok_is, Takes, Takes-then, IsWide, number_takes, number_again, id_takes, id_again}
use Rattle.hpx_parcel.proofs.ValueLaws.{credit_back}
use Rattle.hpx_parcel.proofs.ActLaws.{FirstPasses, IsSpelled}

-- ---- ids

credited_by : (log : Option ℕ) (kind : ℕ) → is_some log ≡ true → 16 ≤ kind → MatchOption log ⊥ (λ l. 16 ≤ kind)
credited_by None kind e le = absurd cc
credited_by (Some log) kind e le = le

pub credited_is : (id : Id) → allows Credited id ≡ true → HasCredit id
credited_is id e = let p = and_parts (is_some id.log) (leb 16 id.kind) e in credited_by id.log id.kind p.0 (leb-true _ _ p.1)

credited_test : (log : Option ℕ) (kind : ℕ) → MatchOption log ⊥ (λ l. 16 ≤ kind) → (is_some log && leb 16 kind) ≡ true
credited_test None kind h = absurd h
credited_test (Some log) kind h = le-leb _ _ h

pub credited_back : (id : Id) → HasCredit id → allows Credited id ≡ true
credited_back id h = credited_test id.log id.kind h

least_by : (log : Option ℕ) → is_least log ≡ true → log ≡ Some 0
least_by None e = absurd cc
least_by (Some log) e = ap (λ (l : ℕ). Some l) (eqb-true _ _ e)

pub least_is : (id : Id) → allows Least id ≡ true → HasLeastCredit id
least_is id e = let p = and_parts (is_least id.log) (leb 16 id.kind) e in (least_by id.log p.0, leb-true _ _ p.1)

pub least_back : (id : Id) → HasLeastCredit id → allows Least id ≡ true
least_back id h = and_from _ _ (ap is_least h.0) (le-leb _ _ h.1)

bare_by : (log : Option ℕ) → is_none log ≡ true → log ≡ None
bare_by None e = refl
bare_by (Some log) e = absurd cc

pub bare_is : (id : Id) → allows Bare id ≡ true → IsBare id
bare_is id e = let p = and_parts (is_none id.log) (leb 16 id.kind) e in (bare_by id.log p.0, leb-true _ _ p.1)

pub bare_back : (id : Id) → IsBare id → allows Bare id ≡ true
bare_back id h = and_from _ _ (ap (λ (log : Option ℕ). is_none log) h.0) (le-leb _ _ h.1)

-- ---- an id and a number

pub pair_takes : (rule : IdRule) (n : ℕ) (wide : IsWide n) (bytes : List ℕ) (x : Id × ℕ × List ℕ) → IsBytes bytes → pair_at rule n bytes ≡ Ok x
    → Takes bytes (id_text x.0 ++ number_text n x.1) x.2 × IsId x.0 × (allows rule x.0 ≡ true) × (x.1 < 256 ^ n)
unfolding pair_at
pair_takes rule n wide bytes x fits e =
    let a = bind_ok (id_at rule bytes) (λ id. number_at n id.1 >>= λ k. Ok (id.0, k.0, k.1)) x e in
    let b = bind_ok (number_at n a.0.1) (λ k. Ok (a.0.0, k.0, k.1)) x a.2 in
    let t0 = id_takes rule bytes a.0.0 a.0.1 fits a.1 in
    let t1 = number_takes n wide a.0.1 b.0.0 b.0.1 t0.0.rest_fits b.1 in
    let both = Takes-then bytes (id_text a.0.0) a.0.1 (number_text n b.0.0) b.0.1 t0.0 t1.0 in
    subst (λ (y : Id × ℕ × List ℕ). Takes bytes (id_text y.0 ++ number_text n y.1) y.2 × IsId y.0 × (allows rule y.0 ≡ true) × (y.1 < 256 ^ n))
    (ok_is (a.0.0, b.0.0, b.0.1) x b.2) (both, t0.1, t0.2, t1.1)

pub pair_again : (rule : IdRule) (n : ℕ) (id : Id) (k : ℕ) (rest : List ℕ) → IsId id → allows rule id ≡ true → k < 256 ^ n
    → pair_at rule n ((id_text id ++ number_text n k) ++ rest) ≡ Ok (id, k, rest)
unfolding pair_at
pair_again rule n id k rest valid test fits =
    ap (pair_at rule n) (append_assoc (id_text id) (number_text n k) rest)
    ∙ rw (id_again rule id (number_text n k ++ rest) valid test, number_again n k rest fits) refl

-- ---- actions

-- what is asked of all actions of a frame
pub sent_is : {rule : ActRule} (a : Act) → IsSpelled rule a → IsSent a × FitsAct a
sent_is a s =
    let f = s.fine in (
      record {
        shape = record { values = f.values; refs = f.refs; few_refs = f.few_refs; cont = f.cont; ids = f.ids; short = s.short };
        credit = f.credit;
      },
      record { origin = s.origin; serial = s.serial; code = f.code_fits; args = f.args_fit; cont = f.cont_fits; ids = f.valid },
    )

other_code : (code : ℕ) → cond (eqb code 1) false true ≡ true → code ≢ 1
other_code code e one = absurd (cc (e, ap (λ (c : ℕ). cond (eqb c 1) false true) one))

pub applied_is : (a : Act) → IsSpelled Applied a → IsApplied a × FitsAct a
applied_is a s = let both = sent_is a s in (record { sent = both.0; code = other_code a.code s.fine.code }, both.1)

first_named : (ids : List Id) → 1 ≤ length ids → AllByRecursion HasRightCredit ids → FirstPasses Named ids
first_named [] some credit = absurd (omega arith)
first_named (id ∷ ids) some credit = credit_back id credit.0

code_test : (code : ℕ) → code ≢ 1 → cond (eqb code 1) false true ≡ true
code_test code ne = let e : eqb code 1 ≡ false = ne_eqb code 1 ne in rw e refl

pub applied_back : (a : Act) → IsApplied a → FitsAct a → IsSpelled Applied a
applied_back a is fits =
    let shape = is.sent.shape in
    record {
      origin = fits.origin;
      serial = fits.serial;
      short = shape.short;
      fine = record {
        values = shape.values;
        refs = shape.refs;
        few_refs = shape.few_refs;
        cont = shape.cont;
        ids = shape.ids;
        code_fits = fits.code;
        args_fit = fits.args;
        cont_fits = fits.cont;
        valid = fits.ids;
        credit = is.sent.credit;
        target = first_named a.ids (omega (arith, shape.ids)) is.sent.credit;
        code = code_test a.code is.code;
        args = refl;
      };
    }

movable_is : (ids : List Id) → FirstPasses Movable ids → IsMovable ids
movable_is [] h = h
movable_is (id ∷ ids) h =
    let p = and_parts (credit_fits id) (leb 16 id.kind && leb id.kind 31) h in
    let q = and_parts (leb 16 id.kind) (leb id.kind 31) p.1 in
    (leb-true _ _ q.0, leb-true _ _ q.1)

movable_back : (ids : List Id) → IsMovable ids → AllByRecursion HasRightCredit ids → FirstPasses Movable ids
movable_back [] h credit = h
movable_back (id ∷ ids) h credit = and_from _ _ (credit_back id credit.0) (and_from _ _ (le-leb _ _ h.0) (le-leb _ _ h.1))

place_is : (args : List Value) → are_move_args args ≡ true → IsPlace args
place_is [] e = absurd cc
place_is (Int (pos t) ∷ []) e = (t, leb-true _ _ e, refl)
place_is (Int (negsuc t) ∷ []) e = absurd cc
place_is (Nothing ∷ []) e = absurd cc
place_is (Flag b ∷ []) e = absurd cc
place_is (Text bytes ∷ []) e = absurd cc
place_is (Ref place ∷ []) e = absurd cc
place_is (Fault code ∷ []) e = absurd cc
place_is (Ints zs ∷ []) e = absurd cc
place_is (Int (pos t) ∷ (v ∷ vs)) e = absurd cc
place_is (Int (negsuc t) ∷ (v ∷ vs)) e = absurd cc
place_is (Nothing ∷ (v ∷ vs)) e = absurd cc
place_is (Flag b ∷ (v ∷ vs)) e = absurd cc
place_is (Text bytes ∷ (v ∷ vs)) e = absurd cc
place_is (Ref place ∷ (v ∷ vs)) e = absurd cc
place_is (Fault code ∷ (v ∷ vs)) e = absurd cc
place_is (Ints zs ∷ (v ∷ vs)) e = absurd cc

place_back : (args : List Value) → IsPlace args → are_move_args args ≡ true
place_back args is = ap are_move_args is.2 ∙ le-leb _ _ is.1

pub moved_is : (a : Act) → IsSpelled Moves a → IsMove a × FitsAct a
moved_is a s =
    let both = sent_is a s in
    let f = s.fine in
    (record { sent = both.0; code = eqb-true _ _ f.code; target = movable_is a.ids f.target; args = place_is a.args f.args }, both.1)

pub moved_back : (a : Act) → IsMove a → FitsAct a → IsSpelled Moves a
moved_back a is fits =
    let shape = is.sent.shape in
    record {
      origin = fits.origin;
      serial = fits.serial;
      short = shape.short;
      fine = record {
        values = shape.values;
        refs = shape.refs;
        few_refs = shape.few_refs;
        cont = shape.cont;
        ids = shape.ids;
        code_fits = fits.code;
        args_fit = fits.args;
        cont_fits = fits.cont;
        valid = fits.ids;
        credit = is.sent.credit;
        target = movable_back a.ids is.target is.sent.credit;
        code = eq-eqb _ _ is.code;
        args = place_back a.args is.args;
      };
    }

-- a MOVE is short
pub short_move : (a : Act) → IsMove a → values_size a.args ≡ 9
short_move a is = ap values_size is.args.2
