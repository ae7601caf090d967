-- Looking lines up by number, and what changes when others stand in the place of one.
use Rattle.std.proofs.Common.{ℕ, true, false, ◌≡◌, ◌≢◌, ◌⊎◌, ◌<◌, ◌≤◌, ◌+◌, List, [], ◌∷◌, ◌++◌, map, Some, None, length, refl, sym, ap, ◌∙◌, arith, subst, inl, inr, append_assoc, length-append}
use Rattle.std.specs.Prelude.{◌==◌}
use Rattle.std.specs.List.{sum_by}
use Rattle.std.specs.Option.{option_to_list}
use Rattle.std.proofs.lemmas.Bool.{cases_Bool, eqb-true, eq-eqb}
use Rattle.std.proofs.lemmas.List.Sums.{sum_by-append}
use Rattle.hpx_agas.specs.declared.line.Line.{Line}
use Rattle.hpx_agas.specs.declared.record.Waiting.{Waiting}
use Rattle.hpx_agas.specs.Queues.{waits}
use Rattle.hpx_agas.specs.Lines.{Each, AreBelow, AreFrom, line_of, records_of, waiting_of, in_place}
use Rattle.hpx_agas.proofs.QueuesLemmas.{waits_weigh}

-- two numbers are the same or not
pub same_or_not : (a b : ℕ) → (a ≡ b) ⊎ (a ≢ b)
same_or_not a b = elim (cases_Bool (a == b)) [
  | inl t ↦ inl (eqb-true a b t)
  | inr f ↦ inr (λ e. let no : true ≡ false = sym (eq-eqb a b e) ∙ f in cc)
]

pub not_eq : (a b : ℕ) → a ≢ b → (a == b) ≡ false
not_eq a b away = elim (cases_Bool (a == b)) [
  | inl t ↦ absurd (away (eqb-true a b t))
  | inr f ↦ f
]

module _ {Q : Type 0} where
  pub line_hit : (n : ℕ) (l : Line Q) (ls : List (Line Q)) → l.number ≡ n → line_of n (l ∷ ls) ≡ Some l
  line_hit n l ls e = let t : (l.number == n) ≡ true = eq-eqb l.number n e in rw t refl

  pub line_miss : (n : ℕ) (l : Line Q) (ls : List (Line Q)) → l.number ≢ n → line_of n (l ∷ ls) ≡ line_of n ls
  line_miss n l ls away = rw (not_eq l.number n away) refl

  module _ (n : ℕ) (made : Line Q → List (Line Q)) where
    pub place_hit : (l : Line Q) (ls : List (Line Q)) → l.number ≡ n → in_place n made (l ∷ ls) ≡ made l ++ ls
    place_hit l ls e = let t : (l.number == n) ≡ true = eq-eqb l.number n e in rw t refl

    pub place_miss : (l : Line Q) (ls : List (Line Q)) → l.number ≢ n → in_place n made (l ∷ ls) ≡ l ∷ in_place n made ls
    place_miss l ls away = rw (not_eq l.number n away) refl

    pub place_none : (ls : List (Line Q)) → line_of n ls ≡ None → in_place n made ls ≡ ls
    place_none [] h = refl
    place_none (l ∷ ls) h = elim (same_or_not l.number n) [
      | inl e ↦ let no : Some l ≡ None = sym (line_hit n l ls e) ∙ h in cc
      | inr away ↦ place_miss l ls away ∙ ap (λ x. l ∷ x) (place_none ls (sym (line_miss n l ls away) ∙ h))
    ]

  pub each-append : (P : Line Q → Type 0) (xs ys : List (Line Q)) → Each P xs → Each P ys → Each P (xs ++ ys)
  each-append P [] ys hx hy = hy
  each-append P (x ∷ xs) ys hx hy = (hx.0, each-append P xs ys hx.1 hy)

  pub each_left : (P : Line Q → Type 0) (xs ys : List (Line Q)) → Each P (xs ++ ys) → Each P xs
  each_left P [] ys h = tt
  each_left P (x ∷ xs) ys h = (h.0, each_left P xs ys h.1)

  pub each_right : (P : Line Q → Type 0) (xs ys : List (Line Q)) → Each P (xs ++ ys) → Each P ys
  each_right P [] ys h = h
  each_right P (x ∷ xs) ys h = each_right P xs ys h.1

  pub each_map : (P R : Line Q → Type 0) (ls : List (Line Q)) → ((l : Line Q) → P l → R l) → Each P ls → Each R ls
  each_map P R [] f h = tt
  each_map P R (l ∷ ls) f h = (f l h.0, each_map P R ls f h.1)

  -- a number that no line has
  pub none_below : (s n : ℕ) (ls : List (Line Q)) → s ≤ n → AreBelow s ls → line_of n ls ≡ None
  none_below s n [] le h = refl
  none_below s n (l ∷ ls) le h = line_miss n l ls (λ e. absurd (omega (arith, e, h.0))) ∙ none_below s n ls le h.1

  pub none_from : (s n : ℕ) (ls : List (Line Q)) → n < s → AreFrom s ls → line_of n ls ≡ None
  none_from s n [] lt h = refl
  none_from s n (l ∷ ls) lt h = line_miss n l ls (λ e. absurd (omega (arith, e, h.0))) ∙ none_from s n ls lt h.1

  -- a number in one of two parts
  pub find_left : (s n : ℕ) (xs ys : List (Line Q)) → n < s → AreFrom s ys → line_of n (xs ++ ys) ≡ line_of n xs
  find_left s n [] ys lt h = none_from s n ys lt h
  find_left s n (x ∷ xs) ys lt h = elim (same_or_not x.number n) [
    | inl e ↦ line_hit n x (xs ++ ys) e ∙ sym (line_hit n x xs e)
    | inr away ↦ line_miss n x (xs ++ ys) away ∙ find_left s n xs ys lt h ∙ sym (line_miss n x xs away)
  ]

  pub find_right : (s n : ℕ) (xs ys : List (Line Q)) → s ≤ n → AreBelow s xs → line_of n (xs ++ ys) ≡ line_of n ys
  find_right s n [] ys le h = refl
  find_right s n (x ∷ xs) ys le h = line_miss n x (xs ++ ys) (λ e. absurd (omega (arith, e, h.0))) ∙ find_right s n xs ys le h.1

  pub place_left : (s n : ℕ) (made : Line Q → List (Line Q)) (xs ys : List (Line Q)) → n < s → AreFrom s ys → in_place n made (xs ++ ys) ≡ in_place n made xs ++ ys
  place_left s n made [] ys lt h = place_none n made ys (none_from s n ys lt h)
  place_left s n made (x ∷ xs) ys lt h = elim (same_or_not x.number n) [
    | inl e ↦ place_hit n made x (xs ++ ys) e ∙ sym (append_assoc (made x) xs ys) ∙ sym (ap (λ l. l ++ ys) (place_hit n made x xs e))
    | inr away ↦ place_miss n made x (xs ++ ys) away ∙ ap (λ l. x ∷ l) (place_left s n made xs ys lt h) ∙ sym (ap (λ l. l ++ ys) (place_miss n made x xs away))
  ]

  pub place_right : (s n : ℕ) (made : Line Q → List (Line Q)) (xs ys : List (Line Q)) → s ≤ n → AreBelow s xs → in_place n made (xs ++ ys) ≡ xs ++ in_place n made ys
  place_right s n made [] ys le h = refl
  place_right s n made (x ∷ xs) ys le h = place_miss n made x (xs ++ ys) (λ e. absurd (omega (arith, e, h.0))) ∙ ap (λ l. x ∷ l) (place_right s n made xs ys le h.1)

  -- what holds of each line still does
  pub each_placed : (P : Line Q → Type 0) (n : ℕ) (made : Line Q → List (Line Q)) (ls : List (Line Q)) → ((l : Line Q) → l.number ≡ n → P l → Each P (made l)) → Each P ls
      → Each P (in_place n made ls)
  each_placed P n made [] f h = tt
  each_placed P n made (l ∷ ls) f h = elim (same_or_not l.number n) [
    | inl e ↦ subst (Each P) (sym (place_hit n made l ls e)) (each-append P (made l) ls (f l e h.0) h.1)
    | inr away ↦ subst (Each P) (sym (place_miss n made l ls away)) (h.0, each_placed P n made ls f h.1)
  ]

  pub records-append : (xs ys : List (Line Q)) → records_of (xs ++ ys) ≡ records_of xs ++ records_of ys
  records-append [] ys = refl
  records-append (x ∷ xs) ys = ap (λ l. option_to_list x.live ++ l) (records-append xs ys) ∙ sym (append_assoc (option_to_list x.live) (records_of xs) (records_of ys))

  pub waiting-append : (xs ys : List (Line Q)) → waiting_of (xs ++ ys) ≡ waiting_of xs ++ waiting_of ys
  waiting-append [] ys = refl
  waiting-append (x ∷ xs) ys = ap (λ l. map (waits x.number) x.queue ++ l) (waiting-append xs ys) ∙ sym (append_assoc (map (waits x.number) x.queue) (waiting_of xs) (waiting_of ys))

  -- what waits weighs what the queues weigh
  pub line_weighs : (w : Q → ℕ) (l : Line Q) → sum_by (λ (x : Waiting Q). w x.item) (waiting_of (l ∷ [])) ≡ sum_by w l.queue
  line_weighs w l =
      omega (arith, sum_by-append (λ (x : Waiting Q). w x.item) (map (waits l.number) l.queue) [], waits_weigh w l.number l.queue)

  pub lines_weigh : (w : Waiting Q → ℕ) (xs ys : List (Line Q))
      → sum_by w (waiting_of (xs ++ ys)) ≡ sum_by w (waiting_of xs) + sum_by w (waiting_of ys)
  lines_weigh w xs ys = ap (sum_by w) (waiting-append xs ys) ∙ sum_by-append w (waiting_of xs) (waiting_of ys)

  -- how many records there are then
  pub counted : (n : ℕ) (made : Line Q → List (Line Q)) (l : Line Q) (ls : List (Line Q)) → line_of n ls ≡ Some l
      → length (records_of (in_place n made ls)) + length (option_to_list l.live) ≡ length (records_of ls) + length (records_of (made l))
  counted n made l [] h = cc
  counted n made l (x ∷ xs) h = elim (same_or_not x.number n) [
    | inl e ↦
        let same : Some x ≡ Some l = sym (line_hit n x xs e) ∙ h in
        let is : x ≡ l = cc in
        let new : length (records_of (in_place n made (x ∷ xs))) ≡ length (records_of (made x)) + length (records_of xs) =
        ap (λ z. length (records_of z)) (place_hit n made x xs e) ∙ ap length (records-append (made x) xs) ∙ length-append (records_of (made x)) (records_of xs) in
        let old = length-append (option_to_list x.live) (records_of xs) in
        let one : length (option_to_list x.live) ≡ length (option_to_list l.live) = ap (λ (z : Line Q). length (option_to_list z.live)) is in
        let two : length (records_of (made x)) ≡ length (records_of (made l)) = ap (λ (z : Line Q). length (records_of (made z))) is in
        omega (arith, new, old, one, two)
    | inr away ↦
        let rest = counted n made l xs (sym (line_miss n x xs away) ∙ h) in
        let new : length (records_of (in_place n made (x ∷ xs))) ≡ length (option_to_list x.live) + length (records_of (in_place n made xs)) =
        ap (λ z. length (records_of z)) (place_miss n made x xs away) ∙ length-append (option_to_list x.live) (records_of (in_place n made xs)) in
        let old = length-append (option_to_list x.live) (records_of xs) in
        omega (arith, rest, new, old)
  ]

  pub line_number : (n : ℕ) (l : Line Q) (ls : List (Line Q)) → line_of n ls ≡ Some l → l.number ≡ n
  line_number n l [] h = cc
  line_number n l (x ∷ xs) h = elim (same_or_not x.number n) [
    | inl e ↦ let same : Some x ≡ Some l = sym (line_hit n x xs e) ∙ h in let is : x ≡ l = cc in sym (ap (λ (z : Line Q). z.number) is) ∙ e
    | inr away ↦ line_number n l xs (sym (line_miss n x xs away) ∙ h)
  ]
