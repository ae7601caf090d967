-- How long a bundle is.
use Rattle.std.proofs.Common.{◌≡◌, ℕ, suc, ◌+◌, ◌-◌, ◌^◌, ◌<◌, ◌≤◌, true, false, leb, List, [], ◌∷◌, ◌++◌, length, take, drop, get_or, refl, sym, ap, subst, ◌∙◌, append_assoc, arith, inl, inr}
use Rattle.std.specs.Prelude.{min, sum_by}
use Rattle.std.specs.List.{AllByRecursion, flat_map}
use Rattle.std.proofs.lemmas.Bool.{cases_lt, le-leb, lt-leb}
use Rattle.std.proofs.lemmas.List.{length-append, length-take-le, take-append-drop, take_more}
use Rattle.std.proofs.lemmas.List.Sums.{sum_by-cons, sum_by-append, sum_by_push}
use Rattle.hpx_parcel.specs.Spelling.{number_text}
use Rattle.hpx_parcel.specs.Parcels.{IsFrame}
use Rattle.hpx_parcel.proofs.FieldLaws.{length-number}
use Rattle.hpx_bundle.specs.declared.bundle.Load.{Load}
use Rattle.hpx_bundle.specs.Bundles.{behind, bundle_text, Fits, load_of, size_of, IsLongestFront}
use Rattle.hpx_bundle.proofs.Prefix.{begins}

abbrev load : ℕ → ℕ → Load
load n bytes = record { parts = n; bytes = bytes }

length_frame : (x : List ℕ) → IsFrame x → length x ≡ suc (length (behind x))
length_frame x f = ap length (begins x f)

body_size : (parts : List (List ℕ)) → AllByRecursion IsFrame parts → length (flat_map behind parts) + length parts ≡ sum_by length parts
body_size [] all = refl
body_size (x ∷ xs) all =
    let others = body_size xs all.1 in
    let first = length_frame x all.0 in
    let sum = sum_by-cons length x xs in
    let both = length-append (behind x) (flat_map behind xs) in omega arith

size_one : (n bytes : ℕ) → n ≤ 1 → size_of (load n bytes) ≡ bytes
size_one n bytes le = let t : leb n 1 ≡ true = le-leb _ _ le in rw t refl

size_more : (n bytes : ℕ) → 1 < n → size_of (load n bytes) ≡ bytes - n + 3
size_more n bytes lt = let t : leb n 1 ≡ false = lt-leb _ _ lt in rw t refl

pub bundle_size : (parts : List (List ℕ)) → AllByRecursion IsFrame parts → 1 ≤ length parts → length (bundle_text parts) ≡ size_of (load_of parts)
bundle_size [] all some = absurd (omega arith)
bundle_size (x ∷ []) all some =
    let sum = sum_by-cons length x [] in
    let size = size_one (length (x ∷ [])) (sum_by length (x ∷ [])) (omega arith) in omega (arith, sum, size)
bundle_size (x ∷ (y ∷ zs)) all some =
    let size = size_more (length (x ∷ (y ∷ zs))) (sum_by length (x ∷ (y ∷ zs))) (omega arith) in
    let body = body_size (x ∷ (y ∷ zs)) all in
    let count = length-number 2 (length (x ∷ (y ∷ zs))) in
    let both = length-append (number_text 2 (length (x ∷ (y ∷ zs)))) (flat_map behind (x ∷ (y ∷ zs))) in omega (arith, size, body, count, both)

-- ---- with one more

pushed : (parts : List (List ℕ)) (next : List ℕ) → load_of (parts ++ next ∷ []) ≡ load (length parts + 1) (sum_by length parts + length next)
pushed parts next =
    let n : length (parts ++ next ∷ []) ≡ length parts + 1 = length-append parts (next ∷ []) in
    ap (λ (k : ℕ). load k (sum_by length (parts ++ next ∷ []))) n ∙ ap (λ (k : ℕ). load (length parts + 1) k) (sum_by_push length parts next)

size_low : (n bytes : ℕ) → bytes ≤ size_of (load n bytes) + n
size_low n bytes =
    elim (cases_lt 1 n) [
      | inl many ↦ let e = size_more n bytes many in omega (arith, e)
      | inr one ↦ let e = size_one n bytes one in omega (arith, e)
    ]

-- what is reckoned with one more is what all come to, where nothing was cut off
pub record More (self : Load) (len sum size : ℕ) (parts : List (List ℕ)) (next : List ℕ) : Type 0 where
  pub self_is : self ≡ load_of parts
  pub len_is : len ≡ length next
  pub sum_is : sum ≡ min (self.bytes + len) (2 ^ 64 - 1)
  pub size_is : size ≡ min (size_of (load (self.parts + 1) sum)) (2 ^ 64 - 1)

exact : (self : Load) (len sum size : ℕ) (parts : List (List ℕ)) (next : List ℕ) → More self len sum size parts next → sum ≡ self.bytes + len → load (self.parts + 1) sum ≡ load_of (parts ++ next ∷ [])
exact self len sum size parts next m e =
    let n : self.parts ≡ length parts = ap (λ (l : Load). l.parts) m.self_is in
    let b : self.bytes ≡ sum_by length parts = ap (λ (l : Load). l.bytes) m.self_is in
    let len_is = m.len_is in
    let total : sum ≡ sum_by length parts + length next = omega (arith, e, b, len_is) in
    let count : self.parts + 1 ≡ length parts + 1 = omega (arith, n) in
    ap (λ (k : ℕ). load k sum) count ∙ (ap (λ (k : ℕ). load (length parts + 1) k) total ∙ sym (pushed parts next))

some_of : (parts : List (List ℕ)) (next : List ℕ) → 1 ≤ length (parts ++ next ∷ [])
some_of parts next = let n = length-append parts (next ∷ []) in omega (arith, n)

pub with_some : (self : Load) (len sum size : ℕ) (parts : List (List ℕ)) (next : List ℕ) → More self len sum size parts next → AllByRecursion IsFrame (parts ++ next ∷ [])
    → self.parts < 64 → size ≤ 65536 → Fits (parts ++ next ∷ []) × (load (self.parts + 1) sum ≡ load_of (parts ++ next ∷ []))
with_some self len sum size parts next m all few short =
    let low = size_low (self.parts + 1) sum in
    let size_is = m.size_is in
    let sum_is = m.sum_is in
    let whole : sum ≡ self.bytes + len = omega (arith, low, size_is, sum_is) in
    let same = exact self len sum size parts next m whole in
    let count : self.parts + 1 ≡ length (parts ++ next ∷ []) = ap (λ (l : Load). l.parts) same in
    let sizes : size_of (load (self.parts + 1) sum) ≡ size_of (load_of (parts ++ next ∷ [])) = ap size_of same in
    let text = bundle_size (parts ++ next ∷ []) all (some_of parts next) in
    (record { some = some_of parts next; few = omega (arith, count); short = omega (arith, sizes, text, size_is) }, same)

pub with_none : (self : Load) (len sum size : ℕ) (parts : List (List ℕ)) (next : List ℕ) → More self len sum size parts next → AllByRecursion IsFrame (parts ++ next ∷ [])
    → self.parts < 64 → 65536 < size → Fits (parts ++ next ∷ []) → ⊥
with_none self len sum size parts next m all few long fits =
    let text = bundle_size (parts ++ next ∷ []) all (some_of parts next) in
    let short = fits.short in
    let n : self.parts ≡ length parts = ap (λ (l : Load). l.parts) m.self_is in
    let b : self.bytes ≡ sum_by length parts = ap (λ (l : Load). l.bytes) m.self_is in
    let low = size_low (length parts + 1) (sum_by length parts + length next) in
    let grown : size_of (load_of (parts ++ next ∷ [])) ≡ size_of (load (length parts + 1) (sum_by length parts + length next)) = ap size_of (pushed parts next) in
    let size_is = m.size_is in
    let sum_is = m.sum_is in
    let len_is = m.len_is in
    let whole : sum ≡ self.bytes + len = omega (arith, text, short, low, grown, sum_is, n, b, len_is) in
    let sizes : size_of (load (self.parts + 1) sum) ≡ size_of (load_of (parts ++ next ∷ [])) = ap size_of (exact self len sum size parts next m whole) in
    omega (arith, sizes, text, short, size_is, long)

-- ---- fronts

size_grows : (n bytes m more : ℕ) → 1 ≤ n → n ≤ bytes → m ≤ more → size_of (load n bytes) ≤ size_of (load (n + m) (bytes + more))
size_grows n bytes m more some le le' =
    elim (cases_lt 1 n) [
      | inl many ↦
          let a = size_more n bytes many in
          let b = size_more (n + m) (bytes + more) (omega arith) in omega (arith, a, b)
      | inr one ↦
          let a = size_one n bytes one in
          elim (cases_lt 1 (n + m)) [
            | inl more_than_one ↦ let b = size_more (n + m) (bytes + more) more_than_one in omega (arith, a, b)
            | inr alone ↦ let b = size_one (n + m) (bytes + more) alone in omega (arith, a, b)
          ]
    ]

all_front : (xs ys : List (List ℕ)) → AllByRecursion IsFrame (xs ++ ys) → AllByRecursion IsFrame xs
all_front [] ys all = tt
all_front (x ∷ xs) ys all = (all.0, all_front xs ys all.1)

all_back : (xs ys : List (List ℕ)) → AllByRecursion IsFrame (xs ++ ys) → AllByRecursion IsFrame ys
all_back [] ys all = all
all_back (x ∷ xs) ys all = all_back xs ys all.1

-- a front of what fits does
pub fits_front : (front rest : List (List ℕ)) → AllByRecursion IsFrame (front ++ rest) → 1 ≤ length front → Fits (front ++ rest) → Fits front
fits_front front rest all some fits =
    let n = length-append front rest in
    let b = sum_by-append length front rest in
    let first = body_size front (all_front front rest all) in
    let second = body_size rest (all_back front rest all) in
    let grows = size_grows (length front) (sum_by length front) (length rest) (sum_by length rest) some (omega (arith, first)) (omega (arith, second)) in
    let sum : load_of (front ++ rest) ≡ load (length front + length rest) (sum_by length front + sum_by length rest) =
    ap (λ (k : ℕ). load k (sum_by length (front ++ rest))) n ∙ ap (λ (k : ℕ). load (length front + length rest) k) b in
    let sizes : size_of (load_of (front ++ rest)) ≡ size_of (load (length front + length rest) (sum_by length front + sum_by length rest)) = ap size_of sum in
    let whole = bundle_size (front ++ rest) all fits.some in
    let part = bundle_size front (all_front front rest all) some in
    let few = fits.few in
    let short = fits.short in
    record { some = some; few = omega (arith, few, n); short = omega (arith, whole, part, sizes, grows, short) }

-- what does not fit up to an element does not fit
pub not_beyond : (parts : List (List ℕ)) (i : ℕ) (x : List ℕ) → AllByRecursion IsFrame parts → i < length parts → x ≡ get_or parts i x → (Fits (take i parts ++ x ∷ []) → ⊥) → Fits parts → ⊥
not_beyond parts i x all lt is none fits =
    let front : take (i + 1) parts ≡ take i parts ++ x ∷ [] = take_more parts i x lt ∙ ap (λ (y : List ℕ). take i parts ++ y ∷ []) (sym is) in
    let split = take-append-drop (i + 1) parts in
    let some : 1 ≤ length (take (i + 1) parts) = let n = length-take-le (i + 1) parts (omega arith) in omega (arith, n) in
    let all' = subst (λ (ps : List (List ℕ)). AllByRecursion IsFrame ps) (sym split) all in
    let fits' = subst (λ (ps : List (List ℕ)). Fits ps) (sym split) fits in
    none (subst (λ (ps : List (List ℕ)). Fits ps) front (fits_front (take (i + 1) parts) (drop (i + 1) parts) all' some fits'))

pub frames_up_to : (parts : List (List ℕ)) (i : ℕ) (x : List ℕ) → AllByRecursion IsFrame parts → i < length parts → x ≡ get_or parts i x → AllByRecursion IsFrame (take i parts ++ x ∷ [])
frames_up_to parts i x all lt is =
    let front : take (i + 1) parts ≡ take i parts ++ x ∷ [] = take_more parts i x lt ∙ ap (λ (y : List ℕ). take i parts ++ y ∷ []) (sym is) in
    let split = take-append-drop (i + 1) parts in
    let all' = subst (λ (ps : List (List ℕ)). AllByRecursion IsFrame ps) (sym split) all in
    subst (λ (ps : List (List ℕ)). AllByRecursion IsFrame ps) front (all_front (take (i + 1) parts) (drop (i + 1) parts) all')

cons_is : (x y : List ℕ) (ys zs : List (List ℕ)) → x ≡ y → ys ≡ zs → y ∷ ys ≡ x ∷ zs
cons_is x y ys zs e f = ap (λ (z : List ℕ). z ∷ ys) (sym e) ∙ ap (λ (ws : List (List ℕ)). x ∷ ws) f

-- a front that is longer goes on as the list does
longer : (front r other s : List (List ℕ)) → front ++ r ≡ other ++ s → length front < length other
    → (next : List ℕ) × (more : List (List ℕ)) × (other ≡ front ++ next ∷ more) × (r ≡ next ∷ (more ++ s))
longer [] r [] s e lt = absurd (omega arith)
longer [] r (y ∷ ys) s e lt = (y, ys, refl, e)
longer (x ∷ xs) r [] s e lt = absurd (omega arith)
longer (x ∷ xs) r (y ∷ ys) s e lt =
    let first : x ≡ y = cc in
    let others : xs ++ r ≡ ys ++ s = cc in
    let o = longer xs r ys s others (omega arith) in
    (o.0, o.1, cons_is x y ys (xs ++ o.0 ∷ o.1) first (o.2), o.3)

pub longest : (front frames other s : List (List ℕ)) → AllByRecursion IsFrame frames → IsLongestFront front frames → frames ≡ other ++ s → Fits other → length other ≤ length front
longest front frames other s all l e fits =
    elim (cases_lt (length front) (length other)) [
      | inl lt ↦
          let o = longer front l.rest other s (sym l.split ∙ e) lt in
          let next = o.0 in
          let more = o.1 in
          let whole : other ≡ (front ++ next ∷ []) ++ more = o.2 ∙ sym (append_assoc front (next ∷ []) more) in
          let others = all_front other s (subst (λ (ps : List (List ℕ)). AllByRecursion IsFrame ps) e all) in
          let all' = subst (λ (ps : List (List ℕ)). AllByRecursion IsFrame ps) whole others in
          let fits' = subst (λ (ps : List (List ℕ)). Fits ps) whole fits in
          absurd (l.longest next (more ++ s) (o.3) (fits_front (front ++ next ∷ []) more all' (some_of front next) fits'))
      | inr le ↦ le
    ]
