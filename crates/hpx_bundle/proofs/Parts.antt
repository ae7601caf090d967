-- Parts: what is read is bundled so, and what is bundled so is read.
use Rattle.std.proofs.Common.{◌≡◌, ℕ, zero, suc, ◌+◌, ◌-◌, ◌<◌, ◌≤◌, Bool, true, false, cond, ltb, leb, eqb, List, [], ◌∷◌, ◌++◌, length, take, drop, Result, Ok, Err, refl, sym, ap, subst, ◌∙◌, append_assoc, arith}
use Rattle.std.specs.List.{AllByRecursion, flat_map}
use Rattle.std.proofs.lemmas.Bool.{le-ltb, leb-true, le-leb, eqb-true, and_parts, and_from}
use Rattle.std.proofs.lemmas.List.{append-nil, length-append, take_at, drop_at, take-append-drop, nil_from_length}
use Rattle.byteorder.specs.Endian.{big_bytes, big_number}
use Rattle.byteorder.specs.Numbers.{big_number-reads_back, length-bytes_high_first}
use Rattle.hpx_parcel.specs.declared.parcel.Parcel.{Parcel}
use Rattle.hpx_parcel.specs.declared.parcel.FaultAt.{FaultAt}
use Rattle.hpx_parcel.specs.declared.parcel.Why.TheVariants.{Cut, BadValue, Trailing}
use Rattle.hpx_parcel.specs.Spelling.{number_text}
use Rattle.hpx_parcel.specs.Parcels.{IsFrame}
use Rattle.hpx_parcel.specs.Reading.{number_at, reading}
use Rattle.hpx_parcel.proofs.FieldLaws.{IsBytes, IsBytes-drop, wide2, number_takes}
use Rattle.hpx_parcel.proofs.Frames.{read_spelled, spelled_read}
use Rattle.hpx_bundle.specs.Bundles.{behind}
use Rattle.hpx_bundle.specs.Unbundling.{◌>>=◌, shifted, trails, front_by, front_at, parts_at, is_count, count_at, ended, several_at}
use Rattle.hpx_bundle.proofs.Prefix.{reading_behind, begins}
use Rattle.hpx_bundle.proofs.Took.{trailing}

-- ---- steps that did not fail

abbrev pub done : {A : Type 0} → A → Result A FaultAt
done x = Ok x

pub ok_is : {A : Type 0} (x y : A) → done x ≡ done y → x ≡ y
ok_is x y e = cc

pub not_both : {A : Type 0} (x : A) (f : FaultAt) → done x ≡ Err f → ⊥
not_both x f e = cc

pub bind_ok : {A B : Type 0} (r : Result A FaultAt) (f : A → Result B FaultAt) (y : B) → (r >>= f) ≡ Ok y → (x : A) × (r ≡ Ok x) × (f x ≡ Ok y)
bind_ok (Ok x) f y e = (x, refl, e)
bind_ok (Err d) f y e = absurd cc

pub test_ok : {A : Type 0} (b : Bool) (d : FaultAt) (r : Result A FaultAt) (y : A) → cond b r (Err d) ≡ Ok y → (b ≡ true) × (r ≡ Ok y)
test_ok true d r y e = (refl, e)
test_ok false d r y e = absurd cc

pub guard_ok : {A : Type 0} (b : Bool) (d : FaultAt) (r : Result A FaultAt) (y : A) → cond b (Err d) r ≡ Ok y → (b ≡ false) × (r ≡ Ok y)
guard_ok true d r y e = absurd cc
guard_ok false d r y e = (refl, e)

pub shifted_ok : {A : Type 0} (n : ℕ) (r : Result A FaultAt) (y : A) → shifted n r ≡ Ok y → r ≡ Ok y
shifted_ok n (Ok x) y e = e
shifted_ok n (Err f) y e = absurd cc

-- ---- the front

pub front_again : (x rest : List ℕ) → IsFrame x → length (x ++ rest) ≤ 65536 → front_at (x ++ rest) ≡ Ok (x, rest)
unfolding front_at
front_again x [] f short =
    let read : reading (x ++ []) ≡ Ok f.0 = ap reading (append-nil x) ∙ spelled_read x f.0 f.1 in
    rw read (ap (λ (bytes : List ℕ). done (bytes, [])) (append-nil x))
front_again x (b ∷ more) f short =
    let read = reading_behind x f.0 b more f.1 short in
    let front : take (length x) (x ++ b ∷ more) ≡ x = take_at x (b ∷ more) (length x) refl in
    let back : drop (length x) (x ++ b ∷ more) ≡ b ∷ more = drop_at x (b ∷ more) (length x) refl in
    rw (read, front, back) refl

pub record Front (bytes x rest : List ℕ) : Type 0 where
  pub frame : IsFrame x
  pub parts : bytes ≡ x ++ rest

front_by_is : (bytes : List ℕ) (r : Result Parcel FaultAt) (y : List ℕ × List ℕ) → IsBytes bytes → reading bytes ≡ r → front_by bytes r ≡ Ok y → Front bytes y.0 y.1
front_by_is bytes (Ok p) y fits read e =
    let made : Front bytes bytes [] = record { frame = (p, read_spelled bytes p fits read); parts = sym (append-nil bytes) } in
    subst (λ (z : List ℕ × List ℕ). Front bytes z.0 z.1) (ok_is (bytes, []) y e) made
front_by_is bytes (Err f) y fits read e =
    let g = test_ok (trails f.why) f (done (take f.at bytes, drop f.at bytes)) y e in
    let t = trailing bytes f fits read g.0 in
    let made : Front bytes (take f.at bytes) (drop f.at bytes) = record { frame = t.0; parts = sym (take-append-drop f.at bytes) } in
    subst (λ (z : List ℕ × List ℕ). Front bytes z.0 z.1) (ok_is (take f.at bytes, drop f.at bytes) y g.1) made

pub front_is : (bytes : List ℕ) (y : List ℕ × List ℕ) → IsBytes bytes → front_at bytes ≡ Ok y → Front bytes y.0 y.1
unfolding front_at
front_is bytes y fits e = front_by_is bytes (reading bytes) y fits refl e

-- ---- so many parts

pub parts_again : (parts : List (List ℕ)) (start : ℕ) (rest : List ℕ) → AllByRecursion IsFrame parts → length (flat_map behind parts ++ rest) < 65536
    → parts_at (length parts) start (flat_map behind parts ++ rest) ≡ Ok (parts, rest)
unfolding parts_at
parts_again [] start rest all short = refl
parts_again (x ∷ xs) start rest all short =
    let tail = flat_map behind xs ++ rest in
    let regrouped : flat_map behind (x ∷ xs) ++ rest ≡ behind x ++ tail = append_assoc (behind x) (flat_map behind xs) rest in
    let whole : 1 ∷ (flat_map behind (x ∷ xs) ++ rest) ≡ x ++ tail = ap (λ (bytes : List ℕ). 1 ∷ bytes) regrouped ∙ ap (λ (bytes : List ℕ). bytes ++ tail) (sym (begins x all.0)) in
    let few : length (x ++ tail) ≤ 65536 = let same = ap length (sym whole) in omega (arith, same) in
    let less : length tail < 65536 = let same = ap length regrouped in let sum = length-append (behind x) tail in omega arith in
    let first : front_at (1 ∷ (flat_map behind (x ∷ xs) ++ rest)) ≡ Ok (x, tail) = ap front_at whole ∙ front_again x tail all.0 few in
    rw (first, parts_again xs (start - 1 + length x) rest all.1 less) refl

pub record AreParts (n : ℕ) (bytes : List ℕ) (parts : List (List ℕ)) (rest : List ℕ) : Type 0 where
  pub each : AllByRecursion IsFrame parts
  pub count : length parts ≡ n
  pub text : bytes ≡ flat_map behind parts ++ rest

with_version : (bytes : List ℕ) → IsBytes bytes → IsBytes (1 ∷ bytes)
with_version bytes fits zero = omega arith
with_version bytes fits (suc i) = fits i

rest_of : (bytes x rest : List ℕ) → Front (1 ∷ bytes) x rest → bytes ≡ behind x ++ rest
rest_of bytes x rest f = ap behind (f.parts ∙ ap (λ (front : List ℕ). front ++ rest) (begins x f.frame))

rest_fits : (bytes front rest : List ℕ) → IsBytes bytes → bytes ≡ front ++ rest → IsBytes rest
rest_fits bytes front rest fits e =
    let same : drop (length front) bytes ≡ rest = ap (λ (b : List ℕ). drop (length front) b) e ∙ drop_at front rest (length front) refl in
    subst IsBytes same (IsBytes-drop (length front) bytes fits)

pub parts_are : (n start : ℕ) (bytes : List ℕ) (x : List (List ℕ) × List ℕ) → IsBytes bytes → parts_at n start bytes ≡ Ok x → AreParts n bytes x.0 x.1
unfolding parts_at
parts_are zero start bytes x fits e =
    let made : AreParts zero bytes [] bytes = record { each = tt; count = refl; text = refl } in
    subst (λ (y : List (List ℕ) × List ℕ). AreParts zero bytes y.0 y.1) (ok_is ([], bytes) x e) made
parts_are (suc n) start bytes x fits e =
    let a = bind_ok (shifted (start - 1) (front_at (1 ∷ bytes))) (λ first. parts_at n (start - 1 + length first.0) first.1 >>= λ others. Ok (first.0 ∷ others.0, others.1)) x e in
    let b = bind_ok (parts_at n (start - 1 + length a.0.0) a.0.1) (λ others. Ok (a.0.0 ∷ others.0, others.1)) x a.2 in
    let f = front_is (1 ∷ bytes) a.0 (with_version bytes fits) (shifted_ok (start - 1) (front_at (1 ∷ bytes)) a.0 a.1) in
    let text = rest_of bytes a.0.0 a.0.1 f in
    let others = parts_are n (start - 1 + length a.0.0) a.0.1 b.0 (rest_fits bytes (behind a.0.0) a.0.1 fits text) b.1 in
    let made : AreParts (suc n) bytes (a.0.0 ∷ b.0.0) b.0.1 = record {
      each = (f.frame, others.each);
      count = ap suc others.count;
      text = text ∙ (ap (λ (tail : List ℕ). behind a.0.0 ++ tail) others.text ∙ sym (append_assoc (behind a.0.0) (flat_map behind b.0.0) b.0.1));
    } in
    subst (λ (y : List (List ℕ) × List ℕ). AreParts (suc n) bytes y.0 y.1) (ok_is (a.0.0 ∷ b.0.0, b.0.1) x b.2) made

-- ---- their number

pub count_again : (n : ℕ) (rest : List ℕ) → 2 ≤ n → n ≤ 64 → count_at (number_text 2 n ++ rest) ≡ Ok (n, rest)
unfolding count_at number_text
count_again n rest two few =
    let len = length-bytes_high_first 2 n in
    let long : ltb (length (big_bytes 2 n ++ rest)) 2 ≡ false = le-ltb _ _ (omega (arith, length-append (big_bytes 2 n) rest)) in
    let is : is_count n ≡ true = and_from _ _ (le-leb _ _ two) (le-leb _ _ few) in
    rw (long, drop_at (big_bytes 2 n) rest 2 len, big_number-reads_back 2 n rest (omega arith), is) refl

pub record Counted (bytes : List ℕ) (n : ℕ) (rest : List ℕ) : Type 0 where
  pub two : 2 ≤ n
  pub few : n ≤ 64
  pub text : bytes ≡ number_text 2 n ++ rest
  pub rest_fits : IsBytes rest

pub count_is : (bytes : List ℕ) (x : ℕ × List ℕ) → IsBytes bytes → count_at bytes ≡ Ok x → Counted bytes x.0 x.1
unfolding count_at number_at
count_is bytes x fits e =
    let g = guard_ok (ltb (length bytes) 2) (record { at = 1 + length bytes; why = Cut }) (cond (is_count (big_number 2 bytes)) (Ok (big_number 2 bytes, drop 2 bytes)) (Err (record { at = 1; why = BadValue }))) x e in
    let t = test_ok (is_count (big_number 2 bytes)) (record { at = 1; why = BadValue }) (Ok (big_number 2 bytes, drop 2 bytes)) x g.1 in
    let within = and_parts (leb 2 (big_number 2 bytes)) (leb (big_number 2 bytes) 64) t.0 in
    let long : ltb (length bytes) 2 ≡ false = g.0 in
    let read : number_at 2 bytes ≡ Ok (big_number 2 bytes, drop 2 bytes) = rw long refl in
    let took = number_takes 2 wide2 bytes (big_number 2 bytes) (drop 2 bytes) fits read in
    let made : Counted bytes (big_number 2 bytes) (drop 2 bytes) = record {
      two = leb-true _ _ within.0;
      few = leb-true _ _ within.1;
      text = took.0.parts;
      rest_fits = took.0.rest_fits;
    } in
    subst (λ (y : ℕ × List ℕ). Counted bytes y.0 y.1) (ok_is (big_number 2 bytes, drop 2 bytes) x t.1) made

-- ---- several

pub several_again : (parts : List (List ℕ)) → AllByRecursion IsFrame parts → 2 ≤ length parts → length parts ≤ 64 → length (flat_map behind parts) < 65536
    → several_at (number_text 2 (length parts) ++ flat_map behind parts) ≡ Ok parts
unfolding several_at
several_again parts all two few short =
    let bytes = flat_map behind parts in
    let same : bytes ++ [] ≡ bytes = append-nil bytes in
    let read : parts_at (length parts) 3 bytes ≡ Ok (parts, []) =
    ap (λ (b : List ℕ). parts_at (length parts) 3 b) (sym same) ∙ parts_again parts 3 [] all (subst (λ (b : List ℕ). length b < 65536) (sym same) short) in
    rw (count_again (length parts) bytes two few, read) refl

pub several_are : (bytes : List ℕ) (parts : List (List ℕ)) → IsBytes bytes → several_at bytes ≡ Ok parts
    → (bytes ≡ number_text 2 (length parts) ++ flat_map behind parts) × AllByRecursion IsFrame parts × (2 ≤ length parts) × (length parts ≤ 64)
unfolding several_at
several_are bytes parts fits e =
    let a = bind_ok (count_at bytes) (λ count. parts_at count.0 3 count.1 >>= λ x. ended (1 + length bytes) x) parts e in
    let b = bind_ok (parts_at a.0.0 3 a.0.1) (λ x. ended (1 + length bytes) x) parts a.2 in
    let t = test_ok (eqb (length b.0.1) 0) (record { at = 1 + length bytes - length b.0.1; why = Trailing }) (Ok b.0.0) parts b.2 in
    let counted = count_is bytes a.0 fits a.1 in
    let are = parts_are a.0.0 3 a.0.1 b.0 counted.rest_fits b.1 in
    let none : b.0.1 ≡ [] = nil_from_length b.0.1 (eqb-true _ _ t.0) in
    let body : a.0.1 ≡ flat_map behind b.0.0 = are.text ∙ (ap (λ (rest : List ℕ). flat_map behind b.0.0 ++ rest) none ∙ append-nil (flat_map behind b.0.0)) in
    let text : bytes ≡ number_text 2 (length b.0.0) ++ flat_map behind b.0.0 =
    counted.text ∙ (ap (λ (n : ℕ). number_text 2 n ++ a.0.1) (sym are.count) ∙ ap (λ (rest : List ℕ). number_text 2 (length b.0.0) ++ rest) body) in
    let many = are.count in
    let two = counted.two in
    let few = counted.few in
    subst (λ (ps : List (List ℕ)). (bytes ≡ number_text 2 (length ps) ++ flat_map behind ps) × AllByRecursion IsFrame ps × (2 ≤ length ps) × (length ps ≤ 64)) (ok_is b.0.0 parts t.1)
    (text, are.each, omega (arith, many, two), omega (arith, many, few))

-- ---- one part after the other, as a loop reads them

-- what was read before, and what is still read
abbrev pub with_front : List (List ℕ) → Result (List (List ℕ) × List ℕ) FaultAt → Result (List (List ℕ) × List ℕ) FaultAt
with_front front read = read >>= λ x. Ok (front ++ x.0, x.1)

regroup : (front : List (List ℕ)) (x : List ℕ) (read : Result (List (List ℕ) × List ℕ) FaultAt) → with_front front (read >>= λ y. Ok (x ∷ y.0, y.1)) ≡ with_front (front ++ x ∷ []) read
regroup front x (Ok y) = ap (λ (xs : List (List ℕ)). Ok (xs, y.1)) (simp append_assoc)
regroup front x (Err f) = refl

pub parts_go_on : (front : List (List ℕ)) (count i start : ℕ) (bytes x after : List ℕ) (total : Result (List (List ℕ) × List ℕ) FaultAt) → i < count
    → shifted (start - 1) (front_at (1 ∷ bytes)) ≡ Ok (x, after)
    → with_front front (parts_at (count - i) start bytes) ≡ total → with_front (front ++ x ∷ []) (parts_at (count - (i + 1)) (start - 1 + length x) after) ≡ total
unfolding parts_at
parts_go_on front count i start bytes x after total lt h so_far =
    let k : count - i ≡ suc (count - (i + 1)) = omega arith in
    let one : with_front front (parts_at (count - i) start bytes) ≡ with_front (front ++ x ∷ []) (parts_at (count - (i + 1)) (start - 1 + length x) after) =
    rw (k, h) (regroup front x (parts_at (count - (i + 1)) (start - 1 + length x) after)) in
    sym one ∙ so_far

pub parts_stop : (front : List (List ℕ)) (count i start : ℕ) (bytes : List ℕ) (f : FaultAt) (total : Result (List (List ℕ) × List ℕ) FaultAt) → i < count
    → shifted (start - 1) (front_at (1 ∷ bytes)) ≡ Err f
    → with_front front (parts_at (count - i) start bytes) ≡ total → total ≡ Err f
unfolding parts_at
parts_stop front count i start bytes f total lt h so_far =
    let k : count - i ≡ suc (count - (i + 1)) = omega arith in
    let one : with_front front (parts_at (count - i) start bytes) ≡ Err f = rw (k, h) refl in
    sym so_far ∙ one

pub parts_end : (front : List (List ℕ)) (count i start : ℕ) (bytes : List ℕ) (total : Result (List (List ℕ) × List ℕ) FaultAt) → count ≤ i
    → with_front front (parts_at (count - i) start bytes) ≡ total → total ≡ Ok (front, bytes)
unfolding parts_at
parts_end front count i start bytes total le so_far =
    let k : count - i ≡ 0 = omega arith in
    let one : with_front front (parts_at (count - i) start bytes) ≡ Ok (front, bytes) = rw k (ap (λ (xs : List (List ℕ)). Ok (xs, bytes)) (append-nil front)) in
    sym so_far ∙ one
