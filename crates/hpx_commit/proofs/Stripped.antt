-- Short places, and a stock whose ids there have lost their credit.
use Rattle.std.proofs.Common.{◌≢◌, ℕ, zero, suc, Bool, true, false, cond, nat_le, List, [], ◌∷◌, ◌≡◌, ◌+◌, ◌<◌, ◌≤◌, set, length, drop, map, refl, sym, ap, ◌∙◌, arith, inl, inr, subst}
use Rattle.std.specs.List.{sum_by, slice_index_or, AllByRecursion}
use Rattle.std.proofs.lemmas.Bool.{cases_eq, cases_lt}
use Rattle.std.proofs.lemmas.List.Sums.{sum_by-cons}
use Rattle.hpx_value.specs.Ids.{Id, bare}
use Rattle.hpx_value.specs.Hands.{id_at}
use Rattle.hpx_commit.specs.Deals.{log_of, named, AreWithin}
use Rattle.hpx_commit.specs.Stocks.{Stock, short_from, short_places, replaced, stripped, Lasting}
use Rattle.hpx_commit.proofs.Deals.{at_set, off_set, length_set, named_hit, named_miss, named_cons, bare_set, within_set, drop_at}
use Rattle.hpx_commit.proofs.Short.{yes, no}

-- ---- short places

abbrev lasting : Stock → ℕ → Bool
lasting s p = nat_le (named s.places p) (log_of (id_at s.hand p).log + 1)

before_none : (k q : ℕ) (s : Stock) (p : ℕ) → p < q → named (short_from k q s) p ≡ 0
before_none zero q s p lt = refl
before_none (suc k) q s p lt = at (lasting s q) (before_none k (q + 1) s p (omega (arith, lt)))
  where
    at : (b : Bool) → named (short_from k (q + 1) s) p ≡ 0 → named (cond b (short_from k (q + 1) s) (q ∷ short_from k (q + 1) s)) p ≡ 0
    at true h = h
    at false h = named_miss q (short_from k (q + 1) s) p (λ e. absurd (omega (arith, e, lt))) ∙ h

behind_none : (k q : ℕ) (s : Stock) (p : ℕ) → q + k ≤ p → named (short_from k q s) p ≡ 0
behind_none zero q s p le = refl
behind_none (suc k) q s p le = at (lasting s q) (behind_none k (q + 1) s p (omega (arith, le)))
  where
    at : (b : Bool) → named (short_from k (q + 1) s) p ≡ 0 → named (cond b (short_from k (q + 1) s) (q ∷ short_from k (q + 1) s)) p ≡ 0
    at true h = h
    at false h = named_miss q (short_from k (q + 1) s) p (λ e. absurd (omega (arith, e, le))) ∙ h

here_once : (k q : ℕ) (s : Stock) (p : ℕ) → q ≤ p → p < q + k → named (short_from k q s) p ≡ cond (lasting s p) 0 1
here_once zero q s p le lt = absurd (omega (arith, le, lt))
here_once (suc k) q s p le lt = elim (cases_eq q p) [
  | inl e ↦ subst (λ x. named (short_from (suc k) q s) x ≡ cond (lasting s x) 0 1) e (first (lasting s q))
  | inr d ↦ later (lasting s q) d (here_once k (q + 1) s p (omega (arith, le, d)) (omega (arith, lt)))
]
  where
    first : (b : Bool) → named (cond b (short_from k (q + 1) s) (q ∷ short_from k (q + 1) s)) q ≡ cond b 0 1
    first true = before_none k (q + 1) s q (omega arith)
    first false = named_hit (short_from k (q + 1) s) q ∙ ap suc (before_none k (q + 1) s q (omega arith))

    later : (b : Bool) → q ≢ p → named (short_from k (q + 1) s) p ≡ cond (lasting s p) 0 1
        → named (cond b (short_from k (q + 1) s) (q ∷ short_from k (q + 1) s)) p ≡ cond (lasting s p) 0 1
    later true d h = h
    later false d h = named_miss q (short_from k (q + 1) s) p d ∙ h

pub short_lasting : (n : ℕ) (s : Stock) (p : ℕ) → Lasting s p → named (short_places n s) p ≡ 0
short_lasting n s p lasts = elim (cases_lt p n) [
  | inl lt ↦
      here_once n 0 s p (omega arith) (omega (arith, lt))
      ∙ ap {B = ℕ} (λ b. cond b 0 1) (yes (named s.places p) (log_of (id_at s.hand p).log + 1) lasts)
  | inr le ↦ behind_none n 0 s p (omega (arith, le))
]

pub short_once : (n : ℕ) (s : Stock) (p : ℕ) → p < n → (Lasting s p → ⊥) → named (short_places n s) p ≡ 1
short_once n s p lt short =
    here_once n 0 s p (omega arith) (omega (arith, lt))
    ∙ ap {B = ℕ} (λ b. cond b 0 1) (no (named s.places p) (log_of (id_at s.hand p).log + 1) short)

pub short_least : (n : ℕ) (s : Stock) (p : ℕ) → named (short_places n s) p ≤ 1
short_least n s p = elim (cases_lt p n) [
  | inl lt ↦ omega (arith, here_once n 0 s p (omega arith) (omega (arith, lt)), one (lasting s p))
  | inr le ↦ omega (arith, behind_none n 0 s p (omega (arith, le)))
]
  where
    one : (b : Bool) → cond b 0 1 ≤ 1
    one true = omega arith
    one false = omega arith

short_all : (P : ℕ → Type 0) (k q : ℕ) (s : Stock) → ((p : ℕ) → q ≤ p → p < q + k → (Lasting s p → ⊥) → P p) → AllByRecursion P (short_from k q s)
short_all P zero q s h = tt
short_all P (suc k) q s h = at (lasting s q) refl (short_all P k (q + 1) s (λ p le lt. h p (omega (arith, le)) (omega (arith, lt))))
  where
    at : (b : Bool) → lasting s q ≡ b → AllByRecursion P (short_from k (q + 1) s)
        → AllByRecursion P (cond b (short_from k (q + 1) s) (q ∷ short_from k (q + 1) s))
    at true e rest = rest
    at false e rest = (
      h q (omega arith) (omega arith)
          (λ lasts. let t : true ≡ false = sym (yes (named s.places q) (log_of (id_at s.hand q).log + 1) lasts) ∙ e in cc),
      rest,
    )

-- of each that is short it is so
pub short_each : (P : ℕ → Type 0) (n : ℕ) (s : Stock) → ((p : ℕ) → p < n → (Lasting s p → ⊥) → P p) → AllByRecursion P (short_places n s)
short_each P n s h = short_all P n 0 s (λ p le lt short. h p (omega (arith, lt)) short)

few_from : (k q : ℕ) (s : Stock) → length (short_from k q s) ≤ k
few_from zero q s = omega arith
few_from (suc k) q s = at (lasting s q) (few_from k (q + 1) s)
  where
    at : (b : Bool) → length (short_from k (q + 1) s) ≤ k → length (cond b (short_from k (q + 1) s) (q ∷ short_from k (q + 1) s)) ≤ suc k
    at true le = omega (arith, le)
    at false le = omega (arith, le)

pub short_few : (n : ℕ) (s : Stock) → length (short_places n s) ≤ n
short_few n s = few_from n 0 s

-- ---- without credit

pub stripped_places : (ps : List ℕ) (s : Stock) → (stripped ps s).places ≡ s.places
stripped_places [] s = refl
stripped_places (p ∷ ps) s = stripped_places ps (replaced p (bare (id_at s.hand p)) s)

pub stripped_long : (ps : List ℕ) (s : Stock) → length (stripped ps s).hand ≡ length s.hand
stripped_long [] s = refl
stripped_long (p ∷ ps) s = stripped_long ps (replaced p (bare (id_at s.hand p)) s) ∙ length_set s.hand p (bare (id_at s.hand p))

pub stripped_bare : (ps : List ℕ) (s : Stock) (q : ℕ) → bare (id_at (stripped ps s).hand q) ≡ bare (id_at s.hand q)
stripped_bare [] s q = refl
stripped_bare (p ∷ ps) s q =
    stripped_bare ps (replaced p (bare (id_at s.hand p)) s) q ∙ bare_set s.hand p q (bare (id_at s.hand p)) refl

pub stripped_else : (ps : List ℕ) (s : Stock) (q : ℕ) → named ps q ≡ 0 → id_at (stripped ps s).hand q ≡ id_at s.hand q
stripped_else [] s q none = refl
stripped_else (p ∷ ps) s q none = elim (cases_eq p q) [
  | inl e ↦ absurd (let hit : named (p ∷ ps) q ≡ suc (named ps q) = subst (λ x. named (x ∷ ps) q ≡ suc (named ps q)) (sym e) (named_hit ps q) in omega (arith, hit, none))
  | inr d ↦
      stripped_else ps (replaced p (bare (id_at s.hand p)) s) q (sym (named_miss p ps q d) ∙ none)
      ∙ off_set s.hand p q (bare (id_at s.hand p)) d
]

pub stripped_at : (ps : List ℕ) (s : Stock) (q : ℕ) → q < length s.hand → 1 ≤ named ps q → id_at (stripped ps s).hand q ≡ bare (id_at s.hand q)
stripped_at [] s q here some = absurd (omega (arith, some))
stripped_at (p ∷ ps) s q here some = elim (cases_eq p q) [
  | inl e ↦
      let now : id_at (set s.hand p (bare (id_at s.hand p))) q ≡ bare (id_at s.hand q) =
      subst (λ x. id_at (set s.hand x (bare (id_at s.hand x))) q ≡ bare (id_at s.hand q)) (sym e) (at_set s.hand q (bare (id_at s.hand q)) here) in
      again (named ps q) refl now
      (stripped_at ps (replaced p (bare (id_at s.hand p)) s) q (omega (arith, here, length_set s.hand p (bare (id_at s.hand p)))))
  | inr d ↦
      stripped_at ps (replaced p (bare (id_at s.hand p)) s) q (omega (arith, here, length_set s.hand p (bare (id_at s.hand p))))
      (omega (arith, some, named_miss p ps q d))
      ∙ ap bare (off_set s.hand p q (bare (id_at s.hand p)) d)
]
  where
    again : (m : ℕ) → named ps q ≡ m → id_at (set s.hand p (bare (id_at s.hand p))) q ≡ bare (id_at s.hand q)
        → (1 ≤ named ps q → id_at (stripped ps (replaced p (bare (id_at s.hand p)) s)).hand q ≡ bare (id_at (set s.hand p (bare (id_at s.hand p))) q))
        → id_at (stripped ps (replaced p (bare (id_at s.hand p)) s)).hand q ≡ bare (id_at s.hand q)
    again zero e now rest = stripped_else ps (replaced p (bare (id_at s.hand p)) s) q e ∙ now
    again (suc m) e now rest = rest (omega (arith, e)) ∙ ap bare now

drop_set : (n : ℕ) (ids : List Id) (p : ℕ) (x : Id) → p < n → drop n (set ids p x) ≡ drop n ids
drop_set zero ids p x lt = absurd (omega (arith, lt))
drop_set (suc n) [] p x lt = refl
drop_set (suc n) (id ∷ ids) zero x lt = refl
drop_set (suc n) (id ∷ ids) (suc p) x lt = drop_set n ids p x (omega (arith, lt))

pub stripped_behind : (n : ℕ) (ps : List ℕ) (s : Stock) → AllByRecursion (λ p. p < n) ps → drop n (stripped ps s).hand ≡ drop n s.hand
stripped_behind n [] s h = refl
stripped_behind n (p ∷ ps) s h =
    stripped_behind n ps (replaced p (bare (id_at s.hand p)) s) h.1 ∙ drop_set n s.hand p (bare (id_at s.hand p)) h.0

-- what is read at places where nothing was put
read_else : (ids : List Id) (p : ℕ) (x : Id) (ps : List ℕ) → named ps p ≡ 0 → map (id_at (set ids p x)) ps ≡ map (id_at ids) ps
read_else ids p x [] none = refl
read_else ids p x (q ∷ qs) none = elim (cases_eq q p) [
  | inl e ↦ absurd (let hit : named (q ∷ qs) p ≡ suc (named qs p) = subst (λ y. named (y ∷ qs) p ≡ suc (named qs p)) (sym e) (named_hit qs p) in omega (arith, hit, none))
  | inr d ↦
      ap (λ y. y ∷ map (id_at (set ids p x)) qs) (off_set ids p q x (λ e. d (sym e)))
      ∙ ap (λ ys. id_at ids q ∷ ys) (read_else ids p x qs (sym (named_miss q qs p d) ∙ none))
]

set_sum : (f : Id → ℕ) (ids : List Id) (p : ℕ) (x : Id) → p < length ids → sum_by f (set ids p x) + f (id_at ids p) ≡ sum_by f ids + f x
set_sum f [] p x lt = absurd (omega (arith, lt))
set_sum f (id ∷ ids) zero x lt = omega (arith, sum_by-cons f x ids, sum_by-cons f id ids)
set_sum f (id ∷ ids) (suc p) x lt =
    omega (arith, sum_by-cons f id (set ids p x), sum_by-cons f id ids, set_sum f ids p x (omega (arith, lt)))

tail_once : (p : ℕ) (ps : List ℕ) → ((q : ℕ) → named (p ∷ ps) q ≤ 1) → (q : ℕ) → named ps q ≤ 1
tail_once p ps once q = omega (arith, once q, named_cons p ps q)

head_once : (p : ℕ) (ps : List ℕ) → ((q : ℕ) → named (p ∷ ps) q ≤ 1) → named ps p ≡ 0
head_once p ps once = omega (arith, once p, named_hit ps p)

-- what they have together, where an id without credit weighs nothing
pub stripped_sums : (f : Id → ℕ) → ((id : Id) → f (bare id) ≡ 0) → (ps : List ℕ) (s : Stock) → AreWithin s.hand ps → ((q : ℕ) → named ps q ≤ 1)
    → sum_by f (stripped ps s).hand + sum_by f (map (id_at s.hand) ps) ≡ sum_by f s.hand
stripped_sums f none [] s within once = omega arith
stripped_sums f none (p ∷ ps) s within once =
    let x = bare (id_at s.hand p) in
    omega (
      arith,
      stripped_sums f none ps (replaced p (bare (id_at s.hand p)) s) (within_set s.hand p (bare (id_at s.hand p)) ps within.1) (tail_once p ps once),
      ap (sum_by f) (read_else s.hand p (bare (id_at s.hand p)) ps (head_once p ps once)),
      set_sum f s.hand p (bare (id_at s.hand p)) within.0,
      none (id_at s.hand p),
      sum_by-cons f (id_at s.hand p) (map (id_at s.hand) ps),
    )

-- ---- the loops

-- what a loop keeps that has taken the credit at i of these places
pub record IsStripping (ps : List ℕ) (i : ℕ) (s0 s : Stock) : Type 0 where
  pub within : AreWithin s.hand (drop i ps)
  pub all : stripped (drop i ps) s ≡ stripped ps s0

pub stripping_first : (ps : List ℕ) (s : Stock) → AreWithin s.hand ps → IsStripping ps 0 s s
stripping_first ps s within = record { within = within; all = refl }

module _ (ps : List ℕ) (i d : ℕ) (s0 s : Stock) (lt : i < length ps) (at : IsStripping ps i s0 s) where
  abbrev p : ℕ
  p = slice_index_or ps i d

  parts : AreWithin s.hand (slice_index_or ps i d ∷ drop (i + 1) ps)
  parts = subst (AreWithin s.hand) (drop_at ps i d lt) at.within

  pub stripping_here : slice_index_or ps i d < length s.hand
  stripping_here = parts.0

  pub stripping_next : IsStripping ps (i + 1) s0 (replaced (slice_index_or ps i d) (bare (id_at s.hand (slice_index_or ps i d))) s)
  stripping_next = record {
    within = within_set s.hand p (bare (id_at s.hand p)) (drop (i + 1) ps) parts.1;
    all = sym (ap (λ qs. stripped qs s) (drop_at ps i d lt)) ∙ at.all;
  }
