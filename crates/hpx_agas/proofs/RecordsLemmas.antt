-- Looking records up by number.
use Rattle.std.proofs.Common.{ℕ, zero, suc, true, false, ◌≡◌, ◌≢◌, ◌<◌, ◌≤◌, ◌+◌, ◌&&◌, List, [], ◌∷◌, Some, None, length, get_or, refl, sym, ap, ◌∙◌, arith, inl, inr}
use Rattle.std.specs.Prelude.{◌==◌}
use Rattle.std.proofs.lemmas.Bool.{cases_Bool, eqb-true, eq-eqb, and_parts}
use Rattle.hpx_value.specs.Ids.{Id, same_object}
use Rattle.hpx_agas.specs.declared.record.Record.{Record}
use Rattle.hpx_agas.specs.Records.{find_record, Rises}

-- ids of one object agree in each test
pub same_parts : (a b : Id) → same_object a b ≡ true → (a.home ≡ b.home) × (a.kind ≡ b.kind) × (a.number ≡ b.number)
same_parts a b h =
    let outer = and_parts (a.home == b.home) ((a.kind == b.kind) && (a.number == b.number)) h in
    let inner = and_parts (a.kind == b.kind) (a.number == b.number) outer.1 in
    (eqb-true a.home b.home outer.0, eqb-true a.kind b.kind inner.0, eqb-true a.number b.number inner.1)

pub same_tests : (o a b : Id) → same_object a b ≡ true → same_object o a ≡ same_object o b
same_tests o a b h = let e = same_parts a b h in rw (e.0, e.1, e.2) refl

-- ids of two numbers are of two objects
pub apart : (a b : Id) → a.number ≢ b.number → same_object a b ≡ false
apart a b away = elim (cases_Bool (same_object a b)) [
  | inl t ↦ absurd (away (same_parts a b t).2)
  | inr f ↦ f
]

pub same_self : (a : Id) → same_object a a ≡ true
same_self a = rw (eq-eqb a.home a.home refl, eq-eqb a.kind a.kind refl, eq-eqb a.number a.number refl) refl

pub same_turn : (a b : Id) → same_object a b ≡ true → same_object b a ≡ true
same_turn a b h = same_tests b a b h ∙ same_self b

-- all numbers of a rising list are above where it begins
pub above : (low : ℕ) (xs : List Record) (i : ℕ) (d : Record) → Rises low xs → i < length xs → low < (get_or xs i d).gid.number
above low [] i d h within = absurd (omega arith)
above low (x ∷ xs) zero d h within = h.0
above low (x ∷ xs) (suc i) d h within = omega (arith, h.0, above x.gid.number xs i d h.1 (omega arith))

pub rises_le : (low low' : ℕ) (xs : List Record) → low' ≤ low → Rises low xs → Rises low' xs
rises_le low low' [] le h = tt
rises_le low low' (x ∷ xs) le h = (omega (arith, h.0), h.1)

pub find_at : (o : Id) (low : ℕ) (xs : List Record) (i : ℕ) (d : Record) → Rises low xs → i < length xs → same_object o (get_or xs i d).gid ≡ true
    → find_record o xs ≡ Some (get_or xs i d)
find_at o low [] i d h within here = absurd (omega arith)
find_at o low (x ∷ xs) zero d h within here = rw here refl
find_at o low (x ∷ xs) (suc i) d h within here =
    let same = same_parts o (get_or xs i d).gid here in
    let away : same_object o x.gid ≡ false = apart o x.gid (λ e. absurd (omega (arith, same.2, e, above x.gid.number xs i d h.1 (omega arith)))) in
    rw away (find_at o x.gid.number xs i d h.1 (omega arith) here)

pub find_none : (o : Id) (xs : List Record) → ((k : ℕ) (d : Record) → k < length xs → same_object o (get_or xs k d).gid ≡ false) → find_record o xs ≡ None
find_none o [] away = refl
find_none o (x ∷ xs) away = rw (away 0 x (omega arith)) (find_none o xs (λ k d within. away (suc k) d (omega arith)))

-- none is found where the numbers are all above
pub find_above : (o : Id) (low : ℕ) (xs : List Record) → Rises low xs → o.number ≤ low → find_record o xs ≡ None
find_above o low xs h le = find_none o xs (λ k d within. apart o (get_or xs k d).gid (λ e. absurd (omega (arith, e, above low xs k d h within))))

-- each record is found
pub each_found : (low : ℕ) (xs : List Record) (k : ℕ) (d : Record) → Rises low xs → k < length xs → find_record (get_or xs k d).gid xs ≡ Some (get_or xs k d)
each_found low xs k d h within = find_at (get_or xs k d).gid low xs k d h within (same_self (get_or xs k d).gid)

-- rising numbers up to n are at most n
pub rising_bound : (low n : ℕ) (xs : List Record) → Rises low xs → low ≤ n → ((k : ℕ) (d : Record) → k < length xs → (get_or xs k d).gid.number ≤ n) → low + length xs ≤ n
rising_bound low n [] h le most = omega arith
rising_bound low n (x ∷ xs) h le most =
    let rest : x.gid.number + length xs ≤ n = rising_bound x.gid.number n xs h.1 (most 0 x (omega arith)) (λ k d within. most (suc k) d (omega arith)) in
    omega (arith, h.0)

-- what is found is of the object
pub find_same : (o : Id) (xs : List Record) (r : Record) → find_record o xs ≡ Some r → same_object o r.gid ≡ true
find_same o [] r h = cc
find_same o (x ∷ xs) r h = elim (cases_Bool (same_object o x.gid)) [
  | inl t ↦ let e : Some x ≡ Some r = rw t at h in let same : x ≡ r = cc in ap (λ y. same_object o y.gid) (sym same) ∙ t
  | inr f ↦ find_same o xs r (rw f at h)
]

-- ids of one object find one record
pub find_like : (a b : Id) (xs : List Record) → same_object a b ≡ true → find_record a xs ≡ find_record b xs
find_like a b xs h = let e = same_parts a b h in rw (e.0, e.1, e.2) refl

-- two records of one number are of one object
pub one_number : (a b : Id) (xs : List Record) (r s : Record) → Rises 0 xs → find_record a xs ≡ Some r → find_record b xs ≡ Some s → r.gid.number ≡ s.gid.number → same_object a b ≡ true
one_number a b xs r s h fr fs e = go 0 xs h fr fs
  where
    later : (o : Id) (low : ℕ) (ys : List Record) (t : Record) → Rises low ys → find_record o ys ≡ Some t → low < t.gid.number
    later o low [] t h f = cc
    later o low (y ∷ ys) t h f = elim (cases_Bool (same_object o y.gid)) [
      | inl hit ↦ let g : Some y ≡ Some t = rw hit at f in let same : y ≡ t = cc in omega (arith, h.0, ap (λ (x : Record). x.gid.number) same)
      | inr miss ↦ omega (arith, h.0, later o y.gid.number ys t h.1 (rw miss at f))
    ]

    go : (low : ℕ) (ys : List Record) → Rises low ys → find_record a ys ≡ Some r → find_record b ys ≡ Some s → same_object a b ≡ true
    go low [] h fr fs = cc
    go low (y ∷ ys) h fr fs = elim (cases_Bool (same_object a y.gid)) [
      | inl ta ↦
          let ga : Some y ≡ Some r = rw ta at fr in
          let ra : y ≡ r = cc in
          elim (cases_Bool (same_object b y.gid)) [
            | inl tb ↦ same_tests a b y.gid tb ∙ ta
            | inr fb ↦ absurd (omega (arith, e, ap (λ (x : Record). x.gid.number) ra, later b y.gid.number ys s h.1 (rw fb at fs)))
          ]
      | inr fa ↦ elim (cases_Bool (same_object b y.gid)) [
        | inl tb ↦
            let gb : Some y ≡ Some s = rw tb at fs in
            let rb : y ≡ s = cc in
            absurd (omega (arith, e, ap (λ (x : Record). x.gid.number) rb, later a y.gid.number ys r h.1 (rw fa at fr)))
        | inr fb ↦ go y.gid.number ys h.1 (rw fa at fr) (rw fb at fs)
      ]
    ]
