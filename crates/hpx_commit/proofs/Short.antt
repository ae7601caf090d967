-- Places whose ids do not last for those who name them.
use Rattle.std.proofs.Common.{◌≢◌, ℕ, zero, suc, Bool, true, false, cond, nat_le, List, [], ◌∷◌, ◌≡◌, ◌+◌, ◌-◌, ◌<◌, ◌≤◌, ◌==◌, ◌⊎◌, Some, set, length, take, map, refl, sym, ap, ◌∙◌, arith, inl, inr, subst}
use Rattle.std.specs.Prelude.{is_some}
use Rattle.std.proofs.lemmas.Bool.{cases_eq, cases_lt, cases_Bool, eq-eqb, ne_eqb}
use Rattle.std.proofs.lemmas.Bool.Decides.{nat_tests}
use Rattle.hpx_value.specs.Ids.{Id, bare}
use Rattle.hpx_value.specs.Hands.{id_at}
use Rattle.hpx_commit.specs.Deals.{log_of, half, named, Lasts, AllLast, AreWithin}
use Rattle.hpx_commit.specs.Stocks.{Stock, halvings, ahead, short_from, short_places, replaced, others, Lasting, SameNames, IsSplit}
use Rattle.hpx_commit.proofs.Deals.{at_set, off_set, length_set, names_set, within_set, past_hand}
use Rattle.hpx_commit.proofs.Moved.{unnamed_alike}
use Rattle.hpx_commit.proofs.Ahead.{log_halved, bare_halved, some_halved, ahead_is, ahead_same}

-- ---- tests

pub yes : (a b : ℕ) → a ≤ b → nat_le a b ≡ true
yes a b h = grind (arith, nat_tests)

pub no : (a b : ℕ) → (a ≤ b → ⊥) → nat_le a b ≡ false
no a b h = elim (cases_lt b a) [ inl lt ↦ over lt | inr le ↦ absurd (h le) ]
  where
    over : b < a → nat_le a b ≡ false
    over lt = grind (arith, nat_tests)

test_true : (a b : ℕ) → nat_le a b ≡ true → a ≤ b
test_true a b h = grind (arith, nat_tests)

test_false : (a b : ℕ) → nat_le a b ≡ false → a ≤ b → ⊥
test_false a b h le = grind (arith, nat_tests)

same_test : (a b c d : ℕ) → (a ≤ b → c ≤ d) → (c ≤ d → a ≤ b) → nat_le a b ≡ nat_le c d
same_test a b c d f g = elim (cases_Bool (nat_le a b)) [
  | inl t ↦ t ∙ sym (yes c d (f (test_true a b t)))
  | inr n ↦ n ∙ sym (no c d (λ h. test_false a b n (g h)))
]

-- ---- splitting ahead changes nothing of that

module _ (n : ℕ) (s : Stock) (fits : n ≤ length s.hand) (within : AreWithin s.hand s.places) where
  t : Stock
  t = ahead n s

  module _ (p : ℕ) (lt : p < n) where
    is : IsSplit (halvings (id_at s.hand p) (named s.places p)) p s (ahead n s)
    is = (ahead_is n s fits within).first p lt

    log_is : log_of (id_at (ahead n s).hand p).log ≡ log_of (id_at s.hand p).log - halvings (id_at s.hand p) (named s.places p)
    log_is = ap (λ (x : Id). log_of x.log) is.part ∙ log_halved (halvings (id_at s.hand p) (named s.places p)) (id_at s.hand p)

    first_lasts : Lasting s p → Lasting (ahead n s) p
    first_lasts h = omega (arith, is.others, log_is, h)

    first_lasted : Lasting (ahead n s) p → Lasting s p
    first_lasted h = omega (arith, is.others, log_is, h)

    pub short_is : (Lasting s p → ⊥) → (log_of (id_at (ahead n s).hand p).log ≡ 0) × (2 ≤ named (ahead n s).places p)
    short_is h =
        let far : log_of (id_at s.hand p).log + 1 < named s.places p = elim (cases_lt (log_of (id_at s.hand p).log + 1) (named s.places p)) [
          | inl lt ↦ lt
          | inr le ↦ absurd (h le)
        ] in
        (omega (arith, is.others, log_is, far), omega (arith, is.others, log_is, far))

  pub ahead_lasts : (p : ℕ) → (p < length s.hand → Lasting s p) → Lasting (ahead n s) p
  ahead_lasts p h = elim (cases_lt p n) [
    | inl lt ↦ first_lasts p lt (h (omega (arith, lt, fits)))
    | inr le ↦ elim (cases_lt p (length s.hand)) [
      | inl here ↦
          let stays = (ahead_is n s fits within).rest p le here in
          let log : log_of (id_at (ahead n s).hand p).log ≡ log_of (id_at s.hand p).log = ap (λ (x : Id). log_of x.log) stays.part in
          let old = h here in omega (arith, stays.others, log, old)
      | inr past ↦ elim (cases_lt p (length (ahead n s).hand)) [
        | inl half ↦ omega (arith, (ahead_is n s fits within).halves p past half)
        | inr none ↦ omega (arith, past_hand (ahead n s).hand (ahead n s).places p (ahead_same n s fits within).objects.within none)
      ]
    ]
  ]

  short_alike : (k p : ℕ) → p + k ≤ n → short_from k p (ahead n s) ≡ short_from k p s
  short_alike zero p le = refl
  short_alike (suc k) p le =
      let lt : p < n = omega (arith, le) in
      let test : nat_le (named (ahead n s).places p) (log_of (id_at (ahead n s).hand p).log + 1)
      ≡ nat_le (named s.places p) (log_of (id_at s.hand p).log + 1) =
      same_test (named (ahead n s).places p) (log_of (id_at (ahead n s).hand p).log + 1) (named s.places p) (log_of (id_at s.hand p).log + 1)
      (first_lasted p lt) (first_lasts p lt) in
      let rest : short_from k (p + 1) (ahead n s) ≡ short_from k (p + 1) s = short_alike k (p + 1) (omega (arith, le)) in
      ap (λ b. cond b (short_from k (p + 1) (ahead n s)) (p ∷ short_from k (p + 1) (ahead n s))) test
      ∙ ap (λ ps. cond (nat_le (named s.places p) (log_of (id_at s.hand p).log + 1)) ps (p ∷ ps)) rest

  pub ahead_short : short_places n (ahead n s) ≡ short_places n s
  ahead_short = short_alike n 0 (omega arith)

  pub place_bare : (p : ℕ) → p < length s.hand → bare (id_at (ahead n s).hand p) ≡ bare (id_at s.hand p)
  place_bare p here = elim (cases_lt p n) [
    | inl lt ↦ ap bare (is p lt).part ∙ bare_halved (halvings (id_at s.hand p) (named s.places p)) (id_at s.hand p)
    | inr le ↦ ap bare ((ahead_is n s fits within).rest p le here).part
  ]

  pub place_some : (p : ℕ) → p < length s.hand → is_some (id_at (ahead n s).hand p).log ≡ is_some (id_at s.hand p).log
  place_some p here = elim (cases_lt p n) [
    | inl lt ↦ ap (λ (x : Id). is_some x.log) (is p lt).part ∙ some_halved (halvings (id_at s.hand p) (named s.places p)) (id_at s.hand p)
    | inr le ↦ ap (λ (x : Id). is_some x.log) ((ahead_is n s fits within).rest p le here).part
  ]

-- ---- the ids that were there stay in front

front_bare : (xs ys : List Id) → length xs ≤ length ys → ((i : ℕ) → i < length xs → bare (id_at ys i) ≡ bare (id_at xs i))
    → map bare (take (length xs) ys) ≡ map bare xs
front_bare [] ys le h = refl
front_bare (x ∷ xs) [] le h = absurd (omega (arith, le))
front_bare (x ∷ xs) (y ∷ ys) le h =
    ap (λ z. z ∷ map bare (take (length xs) ys)) (h 0 (omega arith))
    ∙ ap (λ zs. bare x ∷ zs) (front_bare xs ys (omega (arith, le)) (λ i lt. h (suc i) (omega (arith, lt))))

pub ahead_front : (n : ℕ) (s : Stock) → n ≤ length s.hand → AreWithin s.hand s.places → map bare (take (length s.hand) (ahead n s).hand) ≡ map bare s.hand
ahead_front n s fits within =
    front_bare s.hand (ahead n s).hand (ahead_is n s fits within).longer (λ i lt. place_bare n s fits within i lt)

-- ---- another id at a place

pub replaced_names : (s : Stock) (p : ℕ) (id : Id) → AreWithin s.hand s.places → bare id ≡ bare (id_at s.hand p) → 1 ≤ named s.places p
    → SameNames s (replaced p id s)
replaced_names s p id within same some = record {
  within = within_set s.hand p id s.places within;
  as_many = refl;
  names = names_set s.hand p id s.places same;
  left = unnamed_alike 0 (set s.hand p id) s.hand s.places s.places (length_set s.hand p id) (λ i lt. at i);
}
  where
    none : (i : ℕ) → i ≡ 0 + i
    none i = omega arith

    at : (i : ℕ) → ((id_at (set s.hand p id) i ≡ id_at s.hand i) × (named s.places (0 + i) ≡ named s.places (0 + i)))
        ⊎ ((1 ≤ named s.places (0 + i)) × (1 ≤ named s.places (0 + i)))
    at i = elim (cases_eq i p) [
      | inl e ↦
          let there : 1 ≤ named s.places (0 + i) = subst (λ q. 1 ≤ named s.places q) (sym e ∙ none i) some in
          inr (there, there)
      | inr d ↦ inl (off_set s.hand p i id (λ e. d (sym e)), refl)
    ]

others_hit : (p q : ℕ) (ps : List ℕ) → q ≡ p → others p (q ∷ ps) ≡ others p ps
others_hit p q ps e = let t : (q == p) ≡ true = eq-eqb q p e in rw t refl

others_miss : (p q : ℕ) (ps : List ℕ) → q ≢ p → others p (q ∷ ps) ≡ q ∷ others p ps
others_miss p q ps d = let t : (q == p) ≡ false = ne_eqb q p d in rw t refl

module _ (s : Stock) (p : ℕ) (id : Id) (here : p < length s.hand) (lasts : Lasts id (named s.places p)) where
  pub fewer_short : (k q : ℕ) → short_from k q (replaced p id s) ≡ others p (short_from k q s)
  fewer_short zero q = refl
  fewer_short (suc k) q = elim (cases_eq q p) [
    | inl e ↦
        let now : nat_le (named s.places q) (log_of (id_at (set s.hand p id) q).log + 1) ≡ true =
        rw (e, at_set s.hand p id here) (yes (named s.places p) (log_of id.log + 1) lasts) in
        ap (λ b. cond b (short_from k (q + 1) (replaced p id s)) (q ∷ short_from k (q + 1) (replaced p id s))) now
        ∙ (fewer_short k (q + 1) ∙ was (nat_le (named s.places q) (log_of (id_at s.hand q).log + 1)) e)
    | inr d ↦
        let same : id_at (set s.hand p id) q ≡ id_at s.hand q = off_set s.hand p q id (λ e. d (sym e)) in
        ap (λ x. cond (nat_le (named s.places q) (log_of x.log + 1)) (short_from k (q + 1) (replaced p id s)) (q ∷ short_from k (q + 1) (replaced p id s))) same
        ∙ (ap (λ ps. cond (nat_le (named s.places q) (log_of (id_at s.hand q).log + 1)) ps (q ∷ ps)) (fewer_short k (q + 1))
        ∙ stays (nat_le (named s.places q) (log_of (id_at s.hand q).log + 1)) d)
  ]
    where
      was : (b : Bool) → q ≡ p → others p (short_from k (q + 1) s) ≡ others p (cond b (short_from k (q + 1) s) (q ∷ short_from k (q + 1) s))
      was true e = refl
      was false e = sym (others_hit p q (short_from k (q + 1) s) e)

      stays : (b : Bool) → q ≢ p → cond b (others p (short_from k (q + 1) s)) (q ∷ others p (short_from k (q + 1) s))
          ≡ others p (cond b (short_from k (q + 1) s) (q ∷ short_from k (q + 1) s))
      stays true d = refl
      stays false d = sym (others_miss p q (short_from k (q + 1) s) d)

-- where none is short, all last
none_short : (k q : ℕ) (s : Stock) → short_from k q s ≡ [] → (p : ℕ) → q ≤ p → p < q + k → Lasting s p
none_short zero q s none p le lt = absurd (omega (arith, le, lt))
none_short (suc k) q s none p le lt = elim (cases_Bool (nat_le (named s.places q) (log_of (id_at s.hand q).log + 1))) [
  | inl t ↦ elim (cases_eq p q) [
    | inl e ↦ subst (Lasting s) (sym e) (test_true (named s.places q) (log_of (id_at s.hand q).log + 1) t)
    | inr d ↦ none_short k (q + 1) s (rw t at none) p (omega (arith, le, d)) (omega (arith, lt))
  ]
  | inr f ↦ absurd (some (short_from k (q + 1) s) (rw f at none))
]
  where
    some : (ps : List ℕ) → q ∷ ps ≡ [] → ⊥
    some ps h = cc

pub all_last : (n : ℕ) (s : Stock) → short_places n s ≡ [] → ((p : ℕ) → n ≤ p → Lasting s p) → AllLast s.hand s.places
all_last n s none rest p = elim (cases_lt p n) [
  | inl lt ↦ none_short n 0 s none p (omega arith) (omega (arith, lt))
  | inr le ↦ rest p le
]

pub refilled : (log n : ℕ) (s : Stock) (hand : List Id) → ((p : ℕ) → n ≤ p → Lasting s p) → ((p : ℕ) → named s.places p ≤ log + 1)
    → ((p : ℕ) → Lasting s p → id_at hand p ≡ id_at s.hand p) → ((p : ℕ) → p < n → (Lasting s p → ⊥) → (id_at hand p).log ≡ Some log)
    → AllLast hand s.places
refilled log n s hand rest few stays given p =
    elim (cases_Bool (nat_le (named s.places p) (log_of (id_at s.hand p).log + 1))) [
      | inl t ↦ kept (test_true (named s.places p) (log_of (id_at s.hand p).log + 1) t)
      | inr f ↦ elim (cases_lt p n) [
        | inl lt ↦
            let is : log_of (id_at hand p).log ≡ log = ap log_of (given p lt (test_false (named s.places p) (log_of (id_at s.hand p).log + 1) f)) in
            omega (arith, is, few p)
        | inr le ↦ absurd (test_false (named s.places p) (log_of (id_at s.hand p).log + 1) f (rest p le))
      ]
    ]
  where
    kept : Lasting s p → Lasts (id_at hand p) (named s.places p)
    kept h = subst (λ x. Lasts x (named s.places p)) (sym (stays p h)) h
