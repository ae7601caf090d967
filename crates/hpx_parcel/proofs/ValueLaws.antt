-- Values: what is read is spelled so, and what is spelled so is read.
use Rattle.std.proofs.Common.{◌≡◌, ℕ, zero, suc, ◌<◌, ◌≤◌, Bool, true, false, cond, ltb, eqb, List, [], ◌∷◌, ◌++◌, length, Option, Some, None, Ok, refl, sym, ap, subst, ◌∙◌, append_assoc, arith, inl, inr, FitsSigned}
use Rattle.std.specs.Prelude.{ℤ, MatchOption, is_none, is_some}
use Rattle.std.specs.Int.{w64}
use Rattle.std.specs.List.{AllByRecursion, flat_map}
use Rattle.std.proofs.lemmas.Bool.{ltb-false, ltb-true, le-ltb, lt-ltb, eqb-true}
use Rattle.std.proofs.lemmas.List.Concat.{flat_map-cons}
use Rattle.hpx_value.specs.Ids.{IsId}
use Rattle.hpx_value.specs.Values.{refs_in}
use Rattle.hpx_value.specs.Shapes.{IsValue}
use Rattle.hpx_parcel.specs.Types.{Id, Value, Nothing, Flag, Int, Text, Ref, Fault, Ints, BadValue}
use Rattle.hpx_parcel.specs.Spelling.{number_text, int_text, id_text, value_text, ids_left}
use Rattle.hpx_parcel.specs.Parcels.{HasRightCredit, FitsValue}
use Rattle.hpx_parcel.specs.Reading.{◌>>=◌, stop_at, count_at, Named, credit_fits, id_at, int_at, text_at, flag_at, fault_at, numbers_at, ints_at, plain_at, value_at, id_list}
use Rattle.hpx_parcel.proofs.FieldLaws.{IsBytes, IsBytes-rest, bind_ok, test_ok, chosen, ok_is, Takes, Takes-then, Takes-byte, count_takes, count_again, id_takes, id_again, int_takes, int_again, text_takes, text_again, flag_takes, flag_again, fault_takes, fault_again}

-- ---- numbers with a sign, one after the other

pub numbers_take : (n : ℕ) (bytes : List ℕ) (x : List ℤ × List ℕ) → IsBytes bytes → numbers_at n bytes ≡ Ok x
    → Takes bytes (flat_map int_text x.0) x.1 × (length x.0 ≡ n) × AllByRecursion (FitsSigned w64) x.0
unfolding numbers_at
numbers_take zero bytes x fits e =
    subst (λ (y : List ℤ × List ℕ). Takes bytes (flat_map int_text y.0) y.1 × (length y.0 ≡ 0) × AllByRecursion (FitsSigned w64) y.0) (ok_is ([], bytes) x e) (record { parts = refl; rest_fits = fits }, refl, tt)
numbers_take (suc n) bytes x fits e =
    let a = bind_ok (int_at bytes) (λ first. numbers_at n first.1 >>= λ others. Ok (first.0 ∷ others.0, others.1)) x e in
    let b = bind_ok (numbers_at n a.0.1) (λ others. Ok (a.0.0 ∷ others.0, others.1)) x a.2 in
    let first = int_takes bytes a.0.0 a.0.1 fits a.1 in
    let second = numbers_take n a.0.1 b.0 first.0.rest_fits b.1 in
    let both = Takes-then bytes (int_text a.0.0) a.0.1 (flat_map int_text b.0.0) b.0.1 first.0 second.0 in
    let made : List ℤ × List ℕ = (a.0.0 ∷ b.0.0, b.0.1) in
    subst (λ (y : List ℤ × List ℕ). Takes bytes (flat_map int_text y.0) y.1 × (length y.0 ≡ suc n) × AllByRecursion (FitsSigned w64) y.0) (ok_is made x b.2) (rw flat_map-cons both, ap suc second.1, (first.1, second.2))

pub numbers_again : (zs : List ℤ) (rest : List ℕ) → AllByRecursion (FitsSigned w64) zs → numbers_at (length zs) (flat_map int_text zs ++ rest) ≡ Ok (zs, rest)
unfolding numbers_at
numbers_again [] rest fits = refl
numbers_again (z ∷ zs) rest fits =
    let regrouped : flat_map int_text (z ∷ zs) ++ rest ≡ int_text z ++ (flat_map int_text zs ++ rest) = ap (λ (x : List ℕ). x ++ rest) (flat_map-cons int_text z zs) ∙ append_assoc (int_text z) (flat_map int_text zs) rest in
    ap (numbers_at (suc (length zs))) regrouped ∙ rw (int_again z (flat_map int_text zs ++ rest) fits.0, numbers_again zs rest fits.1) refl

pub ints_take : (bytes : List ℕ) (x : List ℤ × List ℕ) → IsBytes bytes → ints_at bytes ≡ Ok x
    → Takes bytes (number_text 2 (length x.0) ++ flat_map int_text x.0) x.1 × (length x.0 ≤ 4096) × AllByRecursion (FitsSigned w64) x.0
unfolding ints_at
ints_take bytes x fits e =
    let a = bind_ok (count_at 4096 bytes) (λ n. numbers_at n.0 n.1) x e in
    let t = count_takes 4096 bytes a.0.0 a.0.1 fits a.1 in
    let s = numbers_take a.0.0 a.0.1 x t.0.rest_fits a.2 in
    let both = Takes-then bytes (number_text 2 a.0.0) a.0.1 (flat_map int_text x.0) x.1 t.0 s.0 in
    (subst (λ (n : ℕ). Takes bytes (number_text 2 n ++ flat_map int_text x.0) x.1) (sym s.1) both, omega (arith, s.1, t.1), s.2)

pub ints_again : (zs : List ℤ) (rest : List ℕ) → length zs ≤ 4096 → AllByRecursion (FitsSigned w64) zs → ints_at ((number_text 2 (length zs) ++ flat_map int_text zs) ++ rest) ≡ Ok (zs, rest)
unfolding ints_at
ints_again zs rest few fits =
    ap ints_at (append_assoc (number_text 2 (length zs)) (flat_map int_text zs) rest) ∙ rw (count_again 4096 (length zs) (flat_map int_text zs ++ rest) few (omega arith)) (numbers_again zs rest fits)

-- ---- values

-- a value that takes no id
abbrev pub IsPlain : Value → Type 0
IsPlain Nothing = Unit {0}
IsPlain (Flag b) = Unit {0}
IsPlain (Int z) = Unit {0}
IsPlain (Text bytes) = Unit {0}
IsPlain (Ref place) = ⊥
IsPlain (Fault code) = Unit {0}
IsPlain (Ints zs) = Unit {0}

-- what was read of a value that takes no id
pub record Plain (bytes : List ℕ) (v : Value) (rest : List ℕ) : Type 0 where
  pub text : Takes bytes (value_text [] v) rest
  pub value : IsValue v
  pub fits : FitsValue v
  pub plain : IsPlain v

plain_nothing : (rest : List ℕ) → IsBytes rest → Plain (0 ∷ rest) Nothing rest
unfolding value_text
plain_nothing rest fits = record { text = record { parts = refl; rest_fits = fits }; value = tt; fits = tt; plain = tt }

plain_flag : (rest : List ℕ) (x : Value × List ℕ) → IsBytes rest → flag_at rest ≡ Ok x → Plain (1 ∷ rest) x.0 x.1
unfolding value_text
plain_flag rest x fits e =
    let t = flag_takes rest x.0 x.1 fits e in
    let made : Plain (1 ∷ rest) (Flag t.0) x.1 = record { text = Takes-byte 1 rest (cond t.0 1 0 ∷ []) x.1 t.2; value = tt; fits = tt; plain = tt } in
    subst (λ (v : Value). Plain (1 ∷ rest) v x.1) (sym t.1) made

plain_fault : (rest : List ℕ) (x : Value × List ℕ) → IsBytes rest → fault_at rest ≡ Ok x → Plain (5 ∷ rest) x.0 x.1
unfolding value_text
plain_fault rest x fits e =
    let t = fault_takes rest x.0 x.1 fits e in
    let made : Plain (5 ∷ rest) (Fault t.0) x.1 = record { text = Takes-byte 5 rest (t.0 ∷ []) x.1 t.2; value = (t.3, t.4); fits = tt; plain = tt } in
    subst (λ (v : Value). Plain (5 ∷ rest) v x.1) (sym t.1) made

plain_int : (rest : List ℕ) (x : Value × List ℕ) → IsBytes rest → (int_at rest >>= λ n. Ok (Int n.0, n.1)) ≡ Ok x → Plain (2 ∷ rest) x.0 x.1
unfolding value_text
plain_int rest x fits e =
    let a = bind_ok (int_at rest) (λ n. Ok (Int n.0, n.1)) x e in
    let t = int_takes rest a.0.0 a.0.1 fits a.1 in
    let made : Plain (2 ∷ rest) (Int a.0.0) a.0.1 = record { text = Takes-byte 2 rest (int_text a.0.0) a.0.1 t.0; value = tt; fits = t.1; plain = tt } in
    subst (λ (y : Value × List ℕ). Plain (2 ∷ rest) y.0 y.1) (ok_is (Int a.0.0, a.0.1) x a.2) made

plain_text : (rest : List ℕ) (x : Value × List ℕ) → IsBytes rest → (text_at rest >>= λ t. Ok (Text t.0, t.1)) ≡ Ok x → Plain (3 ∷ rest) x.0 x.1
unfolding value_text
plain_text rest x fits e =
    let a = bind_ok (text_at rest) (λ t. Ok (Text t.0, t.1)) x e in
    let t = text_takes rest a.0.0 a.0.1 fits a.1 in
    let made : Plain (3 ∷ rest) (Text a.0.0) a.0.1 = record { text = Takes-byte 3 rest (number_text 2 (length a.0.0) ++ a.0.0) a.0.1 t.0; value = t.1; fits = t.2; plain = tt } in
    subst (λ (y : Value × List ℕ). Plain (3 ∷ rest) y.0 y.1) (ok_is (Text a.0.0, a.0.1) x a.2) made

plain_ints : (rest : List ℕ) (x : Value × List ℕ) → IsBytes rest → (ints_at rest >>= λ ns. Ok (Ints ns.0, ns.1)) ≡ Ok x → Plain (6 ∷ rest) x.0 x.1
unfolding value_text
plain_ints rest x fits e =
    let a = bind_ok (ints_at rest) (λ ns. Ok (Ints ns.0, ns.1)) x e in
    let t = ints_take rest a.0 fits a.1 in
    let made : Plain (6 ∷ rest) (Ints a.0.0) a.0.1 = record { text = Takes-byte 6 rest (number_text 2 (length a.0.0) ++ flat_map int_text a.0.0) a.0.1 t.0; value = t.1; fits = t.2; plain = tt } in
    subst (λ (y : Value × List ℕ). Plain (6 ∷ rest) y.0 y.1) (ok_is (Ints a.0.0, a.0.1) x a.2) made

-- by its tag
pub by_tag : (tag b : ℕ) {A : Type 0} (x y z : A) (P : ℕ → Type 0) → cond (eqb tag b) x y ≡ z → (x ≡ z → P b) → (y ≡ z → P tag) → P tag
by_tag tag b x y z P e here other =
    elim (chosen (eqb tag b) x y z e) [
      | inl w ↦ subst P (sym (eqb-true _ _ w.0)) (here w.1)
      | inr w ↦ other w.1
    ]

pub plain_takes : (tag : ℕ) (bytes rest : List ℕ) (x : Value × List ℕ) → IsBytes rest → plain_at tag bytes rest ≡ Ok x → Plain (tag ∷ rest) x.0 x.1
unfolding plain_at
plain_takes tag bytes rest x fits e =
    let P : ℕ → Type 0 = λ t. Plain (t ∷ rest) x.0 x.1 in
    by_tag tag 0 _ _ _ P e (λ h. subst (λ (y : Value × List ℕ). Plain (0 ∷ rest) y.0 y.1) (ok_is (Nothing, rest) x h) (plain_nothing rest fits))
    (λ e1. by_tag tag 1 _ _ _ P e1 (plain_flag rest x fits)
    (λ e2. by_tag tag 2 _ _ _ P e2 (plain_int rest x fits)
    (λ e3. by_tag tag 3 _ _ _ P e3 (plain_text rest x fits)
    (λ e5. by_tag tag 5 _ _ _ P e5 (plain_fault rest x fits)
    (λ e6. by_tag tag 6 _ _ _ P e6 (plain_ints rest x fits)
    (λ h. absurd (cc h)))))))

pub plain_any : (ids : List Id) (v : Value) → IsPlain v → value_text ids v ≡ value_text [] v
unfolding value_text
plain_any ids Nothing p = refl
plain_any ids (Flag b) p = refl
plain_any ids (Int z) p = refl
plain_any ids (Text bytes) p = refl
plain_any ids (Ref place) p = absurd p
plain_any ids (Fault code) p = refl
plain_any ids (Ints zs) p = refl

pub plain_left : (ids : List Id) (v : Value) → IsPlain v → ids_left ids v ≡ ids
plain_left ids Nothing p = refl
plain_left ids (Flag b) p = refl
plain_left ids (Int z) p = refl
plain_left ids (Text bytes) p = refl
plain_left ids (Ref place) p = absurd p
plain_left ids (Fault code) p = refl
plain_left ids (Ints zs) p = refl

pub plain_refs : (v : Value) (vs : List Value) → IsPlain v → refs_in (v ∷ vs) ≡ refs_in vs
plain_refs Nothing vs p = refl
plain_refs (Flag b) vs p = refl
plain_refs (Int z) vs p = refl
plain_refs (Text bytes) vs p = refl
plain_refs (Ref place) vs p = absurd p
plain_refs (Fault code) vs p = refl
plain_refs (Ints zs) vs p = refl

-- ---- credit

credit_of : (log : Option ℕ) (kind : ℕ) (b : Bool) → ltb kind 16 ≡ b → cond b (is_none log) (is_some log) ≡ true → MatchOption log (kind < 16) (λ l. 16 ≤ kind)
credit_of None kind true t e = ltb-true _ _ t
credit_of None kind false t e = absurd cc
credit_of (Some log) kind true t e = absurd cc
credit_of (Some log) kind false t e = ltb-false _ _ t

pub credit_is : (id : Id) → credit_fits id ≡ true → HasRightCredit id
credit_is id e = credit_of id.log id.kind (ltb id.kind 16) refl e

credit_test : (log : Option ℕ) (kind : ℕ) → MatchOption log (kind < 16) (λ l. 16 ≤ kind) → cond (ltb kind 16) (is_none log) (is_some log) ≡ true
credit_test None kind h = let t : ltb kind 16 ≡ true = lt-ltb _ _ h in rw t refl
credit_test (Some log) kind h = let t : ltb kind 16 ≡ false = le-ltb _ _ h in rw t refl

pub credit_back : (id : Id) → HasRightCredit id → credit_fits id ≡ true
credit_back id h = credit_test id.log id.kind h

-- ---- one value with its id

-- a Ref to the next place
abbrev pub IsNext : ℕ → ℕ → Value → Type 0
IsNext limit place Nothing = ⊥
IsNext limit place (Flag b) = ⊥
IsNext limit place (Int z) = ⊥
IsNext limit place (Text bytes) = ⊥
IsNext limit place (Ref p) = (p ≡ place) × (place < limit)
IsNext limit place (Fault code) = ⊥
IsNext limit place (Ints zs) = ⊥

-- the id that a value has
abbrev pub Has : ℕ → ℕ → Value → Option Id → Type 0
Has limit place v None = IsPlain v
Has limit place v (Some id) = IsNext limit place v × IsId id × HasRightCredit id

pub record Took (limit place : ℕ) (bytes : List ℕ) (v : Value) (o : Option Id) (rest : List ℕ) : Type 0 where
  pub text : (left : List Id) → Takes bytes (value_text (id_list o ++ left) v) rest
  pub value : IsValue v
  pub fits : FitsValue v
  pub has : Has limit place v o

took_ref : (limit place : ℕ) (bytes : List ℕ) (x : Value × Option Id × List ℕ) → place < limit → IsBytes bytes
    → (id_at Named bytes >>= λ id. Ok (Ref place, Some id.0, id.1)) ≡ Ok x → Took limit place (4 ∷ bytes) x.0 x.1 x.2
unfolding value_text
took_ref limit place bytes x lt fits e =
    let a = bind_ok (id_at Named bytes) (λ id. Ok (Ref place, Some id.0, id.1)) x e in
    let t = id_takes Named bytes a.0.0 a.0.1 fits a.1 in
    let made : Took limit place (4 ∷ bytes) (Ref place) (Some a.0.0) a.0.1 = record {
      text = λ left. Takes-byte 4 bytes (id_text a.0.0) a.0.1 t.0;
      value = tt;
      fits = tt;
      has = ((refl, lt), t.1, credit_is a.0.0 t.2);
    } in
    subst (λ (y : Value × Option Id × List ℕ). Took limit place (4 ∷ bytes) y.0 y.1 y.2) (ok_is (Ref place, Some a.0.0, a.0.1) x a.2) made

took_plain : (limit place tag : ℕ) (bytes : List ℕ) (x : Value × Option Id × List ℕ) → IsBytes bytes
    → (plain_at tag (tag ∷ bytes) bytes >>= λ v. Ok (v.0, None, v.1)) ≡ Ok x → Took limit place (tag ∷ bytes) x.0 x.1 x.2
took_plain limit place tag bytes x fits e =
    let a = bind_ok (plain_at tag (tag ∷ bytes) bytes) (λ v. Ok (v.0, None, v.1)) x e in
    let p = plain_takes tag (tag ∷ bytes) bytes a.0 fits a.1 in
    let made : Took limit place (tag ∷ bytes) a.0.0 None a.0.1 = record {
      text = λ left. subst (λ (t : List ℕ). Takes (tag ∷ bytes) t a.0.1) (sym (plain_any left a.0.0 p.plain)) p.text;
      value = p.value;
      fits = p.fits;
      has = p.plain;
    } in
    subst (λ (y : Value × Option Id × List ℕ). Took limit place (tag ∷ bytes) y.0 y.1 y.2) (ok_is (a.0.0, None, a.0.1) x a.2) made

pub value_takes : (limit place : ℕ) (bytes : List ℕ) (x : Value × Option Id × List ℕ) → IsBytes bytes → value_at limit place bytes ≡ Ok x → Took limit place bytes x.0 x.1 x.2
unfolding value_at
value_takes limit place [] x fits e = absurd cc
value_takes limit place (tag ∷ bytes) x fits e =
    let rest_fits = IsBytes-rest tag bytes fits in
    elim (chosen (eqb tag 4) _ _ _ e) [
      | inl w ↦
          let g = test_ok (ltb place limit) (stop_at (tag ∷ bytes) BadValue) (id_at Named bytes >>= λ id. Ok (Ref place, Some id.0, id.1)) x w.1 in
          subst (λ (t : ℕ). Took limit place (t ∷ bytes) x.0 x.1 x.2) (sym (eqb-true _ _ w.0)) (took_ref limit place bytes x (ltb-true _ _ g.0) rest_fits g.1)
      | inr w ↦ took_plain limit place tag bytes x rest_fits w.1
    ]

pub value_again : (limit place : ℕ) (v : Value) (o : Option Id) (left : List Id) (rest : List ℕ) → IsValue v → FitsValue v → Has limit place v o
    → value_at limit place (value_text (id_list o ++ left) v ++ rest) ≡ Ok (v, o, rest)
unfolding value_at value_text plain_at
value_again limit place Nothing None left rest value fits has = refl
value_again limit place (Flag b) None left rest value fits has = rw (flag_again b rest) refl
value_again limit place (Int z) None left rest value fits has = rw (int_again z rest fits) refl
value_again limit place (Text bytes) None left rest value fits has = rw (text_again bytes rest value) refl
value_again limit place (Ref p) None left rest value fits has = absurd has
value_again limit place (Fault code) None left rest value fits has = rw (fault_again code rest value.0 value.1) refl
value_again limit place (Ints zs) None left rest value fits has = rw (ints_again zs rest value fits) refl
value_again limit place Nothing (Some id) left rest value fits has = absurd has.0
value_again limit place (Flag b) (Some id) left rest value fits has = absurd has.0
value_again limit place (Int z) (Some id) left rest value fits has = absurd has.0
value_again limit place (Text bytes) (Some id) left rest value fits has = absurd has.0
value_again limit place (Ref p) (Some id) left rest value fits has =
    let below : ltb place limit ≡ true = lt-ltb _ _ has.0.1 in
    rw (below, id_again Named id rest has.1 (credit_back id has.2), has.0.0) refl
value_again limit place (Fault code) (Some id) left rest value fits has = absurd has.0
value_again limit place (Ints zs) (Some id) left rest value fits has = absurd has.0
