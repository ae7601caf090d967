-- A field that is read is the field that was written, and what was written is read again.
use Rattle.std.proofs.Common.{◌≡◌, ℕ, suc, ◌+◌, ◌^◌, ◌<◌, ◌≤◌, ◌&&◌, Bool, true, false, cond, ltb, leb, eqb, List, [], ◌∷◌, ◌++◌, length, get_or, take, drop, Option, Some, None, Result, Ok, Err, refl, sym, ap, subst, ◌∙◌, append_assoc, arith, inl, inr, ◌⊎◌, Fits, FitsSigned}
use Rattle.std.specs.Prelude.{ℤ}
use Rattle.std.specs.Int.{w16, w32, w64, from_be_bytes, cast_signed, cast_unsigned}
use Rattle.std.specs.List.{AllByRecursion}
use Rattle.std.proofs.lemmas.Int.{ints}
use Rattle.std.proofs.Math.Facts.{sfits_to_z, to_z-of_z, of_z-to_z}
use Rattle.std.proofs.lemmas.Bool.{cases_lt, ltb-false, le-ltb, leb-true, le-leb, eqb-true, and_parts, and_from}
use Rattle.std.proofs.lemmas.List.{take_at, drop_at, take-append-drop, length-append, length-take, get_or-drop, get_or-take, get_or_past}
use Rattle.std.proofs.lemmas.Nat.{be_bytes_2, be_bytes_4, be_bytes_8}
use Rattle.byteorder.specs.Endian.{big_bytes, big_number}
use Rattle.byteorder.specs.Numbers.{big_from-take, big_from-lt, big_number-reads_back, length-bytes_high_first}
use Rattle.hpx_value.specs.Ids.{IsId, upper_half, id_in}
use Rattle.hpx_parcel.specs.Types.{Id, Value, Flag, Fault, BadValue, BadId}
use Rattle.hpx_parcel.specs.Spelling.{number_text, int_text, id_text}
use Rattle.hpx_parcel.specs.Reading.{◌>>=◌, Stop, cut_off, stop_at, found, number_at, count_at, IdRule, is_id, id_of, allows, id_at, int_at, text_at, flag_at, fault_at}
use Rattle.hpx_parcel.proofs.Ids.{upper_fits, shown_is, id_of_back}
use Rattle.hpx_parcel.proofs.Lists.{each_below}

abbrev pub IsBytes : List ℕ → Type 0
IsBytes bytes = (i : ℕ) → get_or bytes i 0 < 256

pub IsBytes-drop : (n : ℕ) (bytes : List ℕ) → IsBytes bytes → IsBytes (drop n bytes)
IsBytes-drop n bytes h i = rw get_or-drop (h (n + i))

pub IsBytes-take : (n : ℕ) (bytes : List ℕ) → IsBytes bytes → IsBytes (take n bytes)
IsBytes-take n bytes h i =
    elim (cases_lt i n) [
      | inl lt ↦ rw (get_or-take n bytes i 0 lt) (h i)
      | inr le ↦ rw (get_or_past (take n bytes) i 0 (omega (arith, length-take n bytes))) (omega arith)
    ]

pub IsBytes-rest : (b : ℕ) (bytes : List ℕ) → IsBytes (b ∷ bytes) → IsBytes bytes
IsBytes-rest b bytes h i = h (suc i)

-- the value of a step that did not fail
pub bind_ok : {A B : Type 0} (r : Result A Stop) (f : A → Result B Stop) (y : B) → (r >>= f) ≡ Ok y → (x : A) × (r ≡ Ok x) × (f x ≡ Ok y)
bind_ok (Ok x) f y e = (x, refl, e)
bind_ok (Err d) f y e = absurd cc

-- a test that did not fail
pub guard_ok : {A : Type 0} (b : Bool) (d : Stop) (r : Result A Stop) (y : A) → cond b (Err d) r ≡ Ok y → (b ≡ false) × (r ≡ Ok y)
guard_ok true d r y e = absurd cc
guard_ok false d r y e = (refl, e)

pub test_ok : {A : Type 0} (b : Bool) (d : Stop) (r : Result A Stop) (y : A) → cond b r (Err d) ≡ Ok y → (b ≡ true) × (r ≡ Ok y)
test_ok true d r y e = (refl, e)
test_ok false d r y e = absurd cc

pub found_ok : {A : Type 0} (o : Option A) (d : Stop) (y : A) → found o d ≡ Ok y → o ≡ Some y
found_ok (Some x) d y e = cc
found_ok None d y e = absurd cc

-- which way a test went
pub chosen : {A : Type 0} (b : Bool) (x y z : A) → cond b x y ≡ z → ((b ≡ true) × (x ≡ z)) ⊎ ((b ≡ false) × (y ≡ z))
chosen true x y z e = inl (refl, e)
chosen false x y z e = inr (refl, e)

abbrev pub done : {A : Type 0} → A → Result A Stop
done x = Ok x

pub ok_is : {A : Type 0} (x y : A) → done x ≡ done y → x ≡ y
ok_is x y e = cc

-- what a reader took from the front
pub record Takes (bytes text rest : List ℕ) : Type 0 where
  pub parts : bytes ≡ text ++ rest
  pub rest_fits : IsBytes rest

pub Takes-then : (a x b y c : List ℕ) → Takes a x b → Takes b y c → Takes a (x ++ y) c
Takes-then a x b y c p q = record { parts = p.parts ∙ ap (λ (t : List ℕ). x ++ t) q.parts ∙ sym (append_assoc x y c); rest_fits = q.rest_fits }

pub Takes-byte : (b : ℕ) (bytes text rest : List ℕ) → Takes bytes text rest → Takes (b ∷ bytes) (b ∷ text) rest
Takes-byte b bytes text rest p = record { parts = ap (λ (t : List ℕ). b ∷ t) p.parts; rest_fits = p.rest_fits }

-- ---- numbers

pub record IsWide (n : ℕ) : Type 0 where
  pub back : (bytes : List ℕ) → n ≤ length bytes → IsBytes bytes → big_bytes n (big_number n bytes) ≡ take n bytes

pub wide2 : IsWide 2
wide2 = record {
  back = λ bytes long fits.
      let same : big_number 2 bytes ≡ from_be_bytes w16 (take 2 bytes) = sym (big_from-take 0 2 2 bytes (omega arith)) ∙ omega arith in
      ap (big_bytes 2) same ∙ be_bytes_2 (take 2 bytes) (from_be_bytes w16 (take 2 bytes)) (omega (arith, length-take 2 bytes)) (IsBytes-take 2 bytes fits) refl;
}

pub wide4 : IsWide 4
wide4 = record {
  back = λ bytes long fits.
      let same : big_number 4 bytes ≡ from_be_bytes w32 (take 4 bytes) = sym (big_from-take 0 4 4 bytes (omega arith)) ∙ omega arith in
      ap (big_bytes 4) same ∙ be_bytes_4 (take 4 bytes) (from_be_bytes w32 (take 4 bytes)) (omega (arith, length-take 4 bytes)) (IsBytes-take 4 bytes fits) refl;
}

pub wide8 : IsWide 8
wide8 = record {
  back = λ bytes long fits.
      let same : big_number 8 bytes ≡ from_be_bytes w64 (take 8 bytes) = sym (big_from-take 0 8 8 bytes (omega arith)) ∙ omega arith in
      ap (big_bytes 8) same ∙ be_bytes_8 (take 8 bytes) (from_be_bytes w64 (take 8 bytes)) (omega (arith, length-take 8 bytes)) (IsBytes-take 8 bytes fits) refl;
}

pub length-number : (n x : ℕ) → length (number_text n x) ≡ n
unfolding number_text
length-number n x = length-bytes_high_first n x

pub number_takes : (n : ℕ) (wide : IsWide n) (bytes : List ℕ) (x : ℕ) (rest : List ℕ) → IsBytes bytes → number_at n bytes ≡ Ok (x, rest) → Takes bytes (number_text n x) rest × (x < 256 ^ n)
unfolding number_at number_text
number_takes n wide bytes x rest fits e =
    let g = guard_ok (ltb (length bytes) n) cut_off (Ok (big_number n bytes, drop n bytes)) (x, rest) e in
    let long : n ≤ length bytes = ltb-false _ _ g.0 in
    let both : (big_number n bytes, drop n bytes) ≡ (x, rest) = ok_is (big_number n bytes, drop n bytes) (x, rest) g.1 in
    let whole : Takes bytes (big_bytes n (big_number n bytes)) (drop n bytes) = record {
      parts = rw (wide.back bytes long fits) (sym (take-append-drop n bytes));
      rest_fits = IsBytes-drop n bytes fits;
    } in
    subst (λ (p : ℕ × List ℕ). Takes bytes (big_bytes n p.0) p.1 × (p.0 < 256 ^ n)) both (whole, big_from-lt 0 n bytes fits)

pub number_again : (n x : ℕ) (rest : List ℕ) → x < 256 ^ n → number_at n (number_text n x ++ rest) ≡ Ok (x, rest)
unfolding number_at number_text
number_again n x rest lt =
    let len = length-bytes_high_first n x in
    let long : ltb (length (big_bytes n x ++ rest)) n ≡ false = le-ltb _ _ (omega (arith, length-append (big_bytes n x) rest)) in
    rw (long, drop_at (big_bytes n x) rest n len, big_number-reads_back n x rest lt) refl

-- ---- counts

pub count_takes : (limit : ℕ) (bytes : List ℕ) (n : ℕ) (rest : List ℕ) → IsBytes bytes → count_at limit bytes ≡ Ok (n, rest) → Takes bytes (number_text 2 n) rest × (n ≤ limit)
unfolding count_at
count_takes limit bytes n rest fits e =
    let b = bind_ok (number_at 2 bytes) (λ x. cond (ltb limit x.0) (Err (stop_at bytes BadValue)) (Ok x)) (n, rest) e in
    let g = guard_ok (ltb limit b.0.0) (stop_at bytes BadValue) (Ok b.0) (n, rest) b.2 in
    let t = number_takes 2 wide2 bytes b.0.0 b.0.1 fits b.1 in
    subst (λ (p : ℕ × List ℕ). Takes bytes (number_text 2 p.0) p.1 × (p.0 ≤ limit)) (ok_is b.0 (n, rest) g.1) (t.0, ltb-false _ _ g.0)

pub count_again : (limit n : ℕ) (rest : List ℕ) → n ≤ limit → n < 2 ^ 16 → count_at limit (number_text 2 n ++ rest) ≡ Ok (n, rest)
unfolding count_at
count_again limit n rest le fits =
    let small : ltb limit n ≡ false = le-ltb _ _ le in
    rw (number_again 2 n rest fits, small) refl

-- ---- ids

id_shown : (msb lsb : ℕ) (id : Id) → msb < 2 ^ 64 → lsb < 2 ^ 64 → id_of msb lsb ≡ Some id → IsId id × (upper_half id ≡ msb) × (id.number ≡ lsb)
id_shown msb lsb id fits fits' e =
    elim (chosen (is_id msb lsb) (Some (id_in msb lsb)) None (Some id) e) [
      | inl held ↦
          let s = shown_is msb lsb fits fits' held.0 in
          let same : id_in msb lsb ≡ id = cc (held.1) in
          subst (λ (x : Id). IsId x × (upper_half x ≡ msb) × (x.number ≡ lsb)) same (s.0, s.1, refl)
      | inr failed ↦ absurd (cc (failed.1))
    ]

pub id_takes : (rule : IdRule) (bytes : List ℕ) (id : Id) (rest : List ℕ) → IsBytes bytes → id_at rule bytes ≡ Ok (id, rest) → Takes bytes (id_text id) rest × IsId id × (allows rule id ≡ true)
unfolding id_at id_text
id_takes rule bytes id rest fits e =
    let a = bind_ok (number_at 8 bytes) (λ msb. number_at 8 msb.1 >>= λ lsb. found (id_of msb.0 lsb.0) (stop_at bytes BadId) >>= λ x. cond (allows rule x) (Ok (x, lsb.1)) (Err (stop_at bytes BadId))) (id, rest) e in
    let b = bind_ok (number_at 8 a.0.1) (λ lsb. found (id_of a.0.0 lsb.0) (stop_at bytes BadId) >>= λ x. cond (allows rule x) (Ok (x, lsb.1)) (Err (stop_at bytes BadId))) (id, rest) a.2 in
    let c = bind_ok (found (id_of a.0.0 b.0.0) (stop_at bytes BadId)) (λ x. cond (allows rule x) (Ok (x, b.0.1)) (Err (stop_at bytes BadId))) (id, rest) b.2 in
    let g = test_ok (allows rule c.0) (stop_at bytes BadId) (Ok (c.0, b.0.1)) (id, rest) c.2 in
    let t0 = number_takes 8 wide8 bytes a.0.0 a.0.1 fits a.1 in
    let t1 = number_takes 8 wide8 a.0.1 b.0.0 b.0.1 t0.0.rest_fits b.1 in
    let shown = id_shown a.0.0 b.0.0 c.0 t0.1 t1.1 (found_ok (id_of a.0.0 b.0.0) (stop_at bytes BadId) c.0 c.1) in
    let both = Takes-then bytes (number_text 8 a.0.0) a.0.1 (number_text 8 b.0.0) b.0.1 t0.0 t1.0 in
    let halves : number_text 8 a.0.0 ++ number_text 8 b.0.0 ≡ number_text 8 (upper_half c.0) ++ number_text 8 c.0.number =
    ap (λ (m : ℕ). number_text 8 m ++ number_text 8 b.0.0) (sym shown.1) ∙ ap (λ (l : ℕ). number_text 8 (upper_half c.0) ++ number_text 8 l) (sym shown.2) in
    let whole : Takes bytes (number_text 8 (upper_half c.0) ++ number_text 8 c.0.number) b.0.1 = subst (λ (t : List ℕ). Takes bytes t b.0.1) halves both in
    subst (λ (p : Id × List ℕ). Takes bytes (id_text p.0) p.1 × IsId p.0 × (allows rule p.0 ≡ true)) (ok_is (c.0, b.0.1) (id, rest) g.1) (whole, shown.0, g.0)

pub id_again : (rule : IdRule) (id : Id) (rest : List ℕ) → IsId id → allows rule id ≡ true → id_at rule (id_text id ++ rest) ≡ Ok (id, rest)
unfolding id_at id_text
id_again rule id rest valid test =
    let regrouped : (number_text 8 (upper_half id) ++ number_text 8 id.number) ++ rest ≡ number_text 8 (upper_half id) ++ (number_text 8 id.number ++ rest) = append_assoc (number_text 8 (upper_half id)) (number_text 8 id.number) rest in
    ap (id_at rule) regrouped ∙ rw (number_again 8 (upper_half id) (number_text 8 id.number ++ rest) (upper_fits id valid), number_again 8 id.number rest valid.number, id_of_back id valid, test) refl

-- ---- numbers with a sign

pub int_takes : (bytes : List ℕ) (z : ℤ) (rest : List ℕ) → IsBytes bytes → int_at bytes ≡ Ok (z, rest) → Takes bytes (int_text z) rest × FitsSigned w64 z
unfolding int_at
int_takes bytes z rest fits e =
    let b = bind_ok (number_at 8 bytes) (λ n. Ok (cast_signed w64 n.0, n.1)) (z, rest) e in
    let t = number_takes 8 wide8 bytes b.0.0 b.0.1 fits b.1 in
    let in_range : Fits w64 b.0.0 = record { fits = t.1 } in
    let same : cast_unsigned w64 (cast_signed w64 b.0.0) ≡ b.0.0 = of_z-to_z in_range in
    let one : Takes bytes (number_text 8 (cast_unsigned w64 (cast_signed w64 b.0.0))) b.0.1 = rw same t.0 in
    subst (λ (p : ℤ × List ℕ). Takes bytes (int_text p.0) p.1 × FitsSigned w64 p.0) (ok_is (cast_signed w64 b.0.0, b.0.1) (z, rest) b.2) (one, sfits_to_z in_range)

unsigned_fits : (z : ℤ) → FitsSigned w64 z → cast_unsigned w64 z < 2 ^ 64
unsigned_fits z fits = omega (arith, ints)

pub int_again : (z : ℤ) (rest : List ℕ) → FitsSigned w64 z → int_at (int_text z ++ rest) ≡ Ok (z, rest)
unfolding int_at
int_again z rest fits = rw (number_again 8 (cast_unsigned w64 z) rest (unsigned_fits z fits), to_z-of_z fits) refl

-- ---- texts

pub text_takes : (bytes text rest : List ℕ) → IsBytes bytes → text_at bytes ≡ Ok (text, rest)
    → Takes bytes (number_text 2 (length text) ++ text) rest × (length text ≤ 16384) × AllByRecursion (λ b. b < 256) text
unfolding text_at
text_takes bytes text rest fits e =
    let b = bind_ok (count_at 16384 bytes) (λ n. cond (ltb (length n.1) n.0) (Err cut_off) (Ok (take n.0 n.1, drop n.0 n.1))) (text, rest) e in
    let n = b.0 in
    let t = count_takes 16384 bytes n.0 n.1 fits b.1 in
    let g = guard_ok (ltb (length n.1) n.0) cut_off (Ok (take n.0 n.1, drop n.0 n.1)) (text, rest) b.2 in
    let long : n.0 ≤ length n.1 = ltb-false _ _ g.0 in
    let len : length (take n.0 n.1) ≡ n.0 = omega (arith, length-take n.0 n.1) in
    let second : Takes n.1 (take n.0 n.1) (drop n.0 n.1) = record { parts = sym (take-append-drop n.0 n.1); rest_fits = IsBytes-drop n.0 n.1 t.0.rest_fits } in
    let both = Takes-then bytes (number_text 2 n.0) n.1 (take n.0 n.1) (drop n.0 n.1) t.0 second in
    let whole : Takes bytes (number_text 2 (length (take n.0 n.1)) ++ take n.0 n.1) (drop n.0 n.1) = subst (λ (k : ℕ). Takes bytes (number_text 2 k ++ take n.0 n.1) (drop n.0 n.1)) (sym len) both in
    subst (λ (p : List ℕ × List ℕ). Takes bytes (number_text 2 (length p.0) ++ p.0) p.1 × (length p.0 ≤ 16384) × AllByRecursion (λ b. b < 256) p.0)
    (ok_is (take n.0 n.1, drop n.0 n.1) (text, rest) g.1) (whole, omega (arith, t.1), each_below 256 (take n.0 n.1) (IsBytes-take n.0 n.1 t.0.rest_fits))

pub text_again : (text rest : List ℕ) → length text ≤ 16384 → text_at ((number_text 2 (length text) ++ text) ++ rest) ≡ Ok (text, rest)
unfolding text_at
text_again text rest few =
    let long : ltb (length (text ++ rest)) (length text) ≡ false = le-ltb _ _ (omega (arith, length-append text rest)) in
    ap text_at (append_assoc (number_text 2 (length text)) text rest) ∙ rw (count_again 16384 (length text) (text ++ rest) few (omega arith), long, take_at text rest (length text) refl, drop_at text rest (length text) refl) refl

-- ---- flags and faults

pub flag_takes : (bytes : List ℕ) (v : Value) (rest : List ℕ) → IsBytes bytes → flag_at bytes ≡ Ok (v, rest)
    → (yes_or_no : Bool) × (v ≡ Flag yes_or_no) × Takes bytes (cond yes_or_no 1 0 ∷ []) rest
unfolding flag_at
flag_takes [] v rest fits e = absurd cc
flag_takes (b ∷ bytes) v rest fits e =
    elim (chosen (eqb b 0) (Ok (Flag false, bytes)) (cond (eqb b 1) (Ok (Flag true, bytes)) (Err (stop_at (b ∷ bytes) BadValue))) (Ok (v, rest)) e) [
      | inl zero_is ↦
          let same = ok_is (Flag false, bytes) (v, rest) zero_is.1 in
          let at_zero : b ≡ 0 = eqb-true _ _ zero_is.0 in
          (false, sym (ap (λ (p : Value × List ℕ). p.0) same), record { parts = rw (at_zero, ← ap (λ (p : Value × List ℕ). p.1) same) refl; rest_fits = rw (← ap (λ (p : Value × List ℕ). p.1) same) (IsBytes-rest b bytes fits) })
      | inr other ↦
          let g = test_ok (eqb b 1) (stop_at (b ∷ bytes) BadValue) (Ok (Flag true, bytes)) (v, rest) other.1 in
          let same = ok_is (Flag true, bytes) (v, rest) g.1 in
          let at_one : b ≡ 1 = eqb-true _ _ g.0 in
          (true, sym (ap (λ (p : Value × List ℕ). p.0) same), record { parts = rw (at_one, ← ap (λ (p : Value × List ℕ). p.1) same) refl; rest_fits = rw (← ap (λ (p : Value × List ℕ). p.1) same) (IsBytes-rest b bytes fits) })
    ]

pub flag_again : (yes_or_no : Bool) (rest : List ℕ) → flag_at (cond yes_or_no 1 0 ∷ rest) ≡ Ok (Flag yes_or_no, rest)
unfolding flag_at
flag_again true rest = refl
flag_again false rest = refl

pub fault_takes : (bytes : List ℕ) (v : Value) (rest : List ℕ) → IsBytes bytes → fault_at bytes ≡ Ok (v, rest)
    → (code : ℕ) × (v ≡ Fault code) × Takes bytes (code ∷ []) rest × (1 ≤ code) × (code ≤ 11)
unfolding fault_at
fault_takes [] v rest fits e = absurd cc
fault_takes (b ∷ bytes) v rest fits e =
    let g = test_ok (leb 1 b && leb b 11) (stop_at (b ∷ bytes) BadValue) (Ok (Fault b, bytes)) (v, rest) e in
    let parts = and_parts (leb 1 b) (leb b 11) g.0 in
    let same = ok_is (Fault b, bytes) (v, rest) g.1 in
    (b, sym (ap (λ (p : Value × List ℕ). p.0) same), record { parts = rw (← ap (λ (p : Value × List ℕ). p.1) same) refl; rest_fits = rw (← ap (λ (p : Value × List ℕ). p.1) same) (IsBytes-rest b bytes fits) }, leb-true _ _ parts.0, leb-true _ _ parts.1)

pub fault_again : (code : ℕ) (rest : List ℕ) → 1 ≤ code → code ≤ 11 → fault_at (code ∷ rest) ≡ Ok (Fault code, rest)
unfolding fault_at
fault_again code rest low high =
    let test : (leb 1 code && leb code 11) ≡ true = and_from _ _ (le-leb _ _ low) (le-leb _ _ high) in
    rw test refl
