-- What is dealt, counted and named.
use Rattle.std.proofs.Common.{◌≢◌, ℕ, zero, suc, true, false, cond, List, [], ◌∷◌, ◌++◌, ◌≡◌, ◌+◌, ◌-◌, ◌<◌, ◌≤◌, ◌==◌, Option, Some, None, set, length, map, drop, append_assoc, refl, sym, ap, ◌∙◌, arith, inl, inr, add-one}
use Rattle.std.specs.List.{sum_by, slice_index_or}
use Rattle.std.proofs.lemmas.Bool.{cases_Bool, cases_eq, cases_lt, eq-eqb, ne_eqb}
use Rattle.std.proofs.lemmas.List.Sums.{sum_by-cons, sum_by-append}
use Rattle.std.specs.Option.{option_map}
use Rattle.std.proofs.Common.{subst, get_or}
use Rattle.hpx_value.specs.Ids.{Id, bare}
use Rattle.hpx_value.specs.Hands.{id_at}
use Rattle.hpx_commit.specs.Deals.{half, log_of, named, share, dealt, shares, shared_from, Lasts, AllLast, AreWithin, is_managed, filled, unused}

-- ---- names

pub bare_share : (id : Id) (n : ℕ) → bare (share id n) ≡ bare id
bare_share id zero = refl
bare_share id (suc n) = refl

pub bare_set : (hand : List Id) (p q : ℕ) (x : Id) → bare x ≡ bare (id_at hand p) → bare (id_at (set hand p x) q) ≡ bare (id_at hand q)
bare_set [] p q x h = refl
bare_set (id ∷ ids) zero zero x h = h
bare_set (id ∷ ids) zero (suc q) x h = refl
bare_set (id ∷ ids) (suc p) zero x h = refl
bare_set (id ∷ ids) (suc p) (suc q) x h = bare_set ids p q x h

pub names_set : (hand : List Id) (p : ℕ) (x : Id) (ps : List ℕ) → bare x ≡ bare (id_at hand p)
    → map (λ q. bare (id_at (set hand p x) q)) ps ≡ map (λ q. bare (id_at hand q)) ps
names_set hand p x [] h = refl
names_set hand p x (q ∷ qs) h =
    ap (λ y. y ∷ map (λ r. bare (id_at (set hand p x) r)) qs) (bare_set hand p q x h)
    ∙ ap (λ ys. bare (id_at hand q) ∷ ys) (names_set hand p x qs h)

-- each gets an id of the object that it names
pub names_dealt : (hand : List Id) (ps : List ℕ) → map bare (dealt hand ps) ≡ map (λ p. bare (id_at hand p)) ps
names_dealt hand [] = refl
names_dealt hand (p ∷ ps) =
    let part = share (id_at hand p) (named ps p) in
    ap (λ y. y ∷ map bare (dealt (set hand p part) ps)) (bare_share (id_at hand p) (named ps p))
    ∙ ap (λ ys. bare (id_at hand p) ∷ ys)
    (names_dealt (set hand p part) ps ∙ names_set hand p part ps (bare_share (id_at hand p) (named ps p)))

-- ---- counts

pub named_cons : (q : ℕ) (ps : List ℕ) (p : ℕ) → named (q ∷ ps) p ≡ cond (q == p) 1 0 + named ps p
named_cons q ps p = sum_by-cons (λ r. cond (r == p) 1 0) q ps

pub named_hit : (ps : List ℕ) (p : ℕ) → named (p ∷ ps) p ≡ suc (named ps p)
named_hit ps p = let e : (p == p) ≡ true = eq-eqb p p refl in rw (named_cons p ps p, e) (omega arith)

pub named_miss : (q : ℕ) (ps : List ℕ) (p : ℕ) → q ≢ p → named (q ∷ ps) p ≡ named ps p
named_miss q ps p d = let e : (q == p) ≡ false = ne_eqb q p d in rw (named_cons q ps p, e) (omega arith)

-- a place before the first of these is none of them
shared_before : (q p : ℕ) (ids : List Id) (ps : List ℕ) → q < p → shared_from p ids (q ∷ ps) ≡ shared_from p ids ps
shared_before q p [] ps h = refl
shared_before q p (id ∷ ids) ps h =
    ap (λ n. shares id n ++ shared_from (p + 1) ids (q ∷ ps)) (named_miss q ps p (λ e. absurd (omega (arith, e, h))))
    ∙ ap (λ ys. shares id (named ps p) ++ ys) (shared_before q (p + 1) ids ps (omega arith))

-- ---- within

pub length_set : (ids : List Id) (p : ℕ) (x : Id) → length (set ids p x) ≡ length ids
length_set [] p x = refl
length_set (id ∷ ids) zero x = refl
length_set (id ∷ ids) (suc p) x = ap suc (length_set ids p x)

pub within_set : (hand : List Id) (p : ℕ) (x : Id) (ps : List ℕ) → AreWithin hand ps → AreWithin (set hand p x) ps
within_set hand p x [] h = tt
within_set hand p x (q ∷ qs) h = (omega (arith, length_set hand p x, h.0), within_set hand p x qs h.1)

-- ---- ids that last

pub at_set : (hand : List Id) (p : ℕ) (x : Id) → p < length hand → id_at (set hand p x) p ≡ x
at_set [] p x h = absurd (omega arith)
at_set (id ∷ ids) zero x h = refl
at_set (id ∷ ids) (suc p) x h = at_set ids p x (omega arith)

pub off_set : (hand : List Id) (p q : ℕ) (x : Id) → p ≢ q → id_at (set hand p x) q ≡ id_at hand q
off_set [] p q x d = refl
off_set (id ∷ ids) zero zero x d = absurd (d refl)
off_set (id ∷ ids) zero (suc q) x d = refl
off_set (id ∷ ids) (suc p) zero x d = refl
off_set (id ∷ ids) (suc p) (suc q) x d = off_set ids p q x (λ e. d (ap suc e))

pub log_half : (log : Option ℕ) → log_of (option_map (λ l. l - 1) log) ≡ log_of log - 1
log_half None = refl
log_half (Some l) = refl

lasts_share : (id : Id) (n : ℕ) → Lasts id (suc n) → Lasts (share id n) n
lasts_share id zero h = omega arith
lasts_share id (suc n) h = omega (arith, h, log_half id.log)

-- the next share leaves enough for the others
pub lasts_set : (hand : List Id) (p : ℕ) (ps : List ℕ) → p < length hand → AllLast hand (p ∷ ps)
    → AllLast (set hand p (share (id_at hand p) (named ps p))) ps
lasts_set hand p ps h lasts q = elim (cases_eq p q) [
  | inl same ↦
      let part = share (id_at hand p) (named ps p) in
      let l : Lasts (id_at hand p) (suc (named ps p)) = subst (Lasts (id_at hand p)) (named_hit ps p) (lasts p) in
      subst (λ r. Lasts (id_at (set hand p (share (id_at hand p) (named ps p))) r) (named ps r)) same
      (subst (λ x. Lasts x (named ps p)) (sym (at_set hand p part h)) (lasts_share (id_at hand p) (named ps p) l))
  | inr other ↦
      let part = share (id_at hand p) (named ps p) in
      subst (λ x. Lasts x (named ps q)) (sym (off_set hand p q part other))
      (subst (Lasts (id_at hand q)) (named_miss p ps q other) (lasts q))
]

pub lasts_first : (hand : List Id) (p : ℕ) (ps : List ℕ) → AllLast hand (p ∷ ps) → Lasts (id_at hand p) (named ps p + 1)
lasts_first hand p ps lasts = omega (arith, named_hit ps p, lasts p)

-- ---- sums

module _ (f : Id → ℕ) where
  first_share : (id : Id) (n : ℕ) → sum_by f (shares id (suc n)) ≡ f (share id n) + sum_by f (shares (share id n) n)
  first_share id zero = omega (arith, sum_by-cons f id [])
  first_share id (suc n) = sum_by-cons f (half id) (shares (half id) (suc n))

  -- the next who names a place gets its share, and the others keep theirs
  next_share : (p i k : ℕ) (ids : List Id) (ps : List ℕ) → k ≡ p + i → i < length ids
      → sum_by f (shared_from p ids (k ∷ ps))
      ≡ f (share (id_at ids i) (named ps k)) + sum_by f (shared_from p (set ids i (share (id_at ids i) (named ps k))) ps)
  next_share p i k [] ps e h = absurd (omega arith)
  next_share p zero k (id ∷ ids) ps e h =
      let same : k ≡ p = omega arith in
      let hit : named (k ∷ ps) p ≡ suc (named ps k) = rw same (named_hit ps p) in
      let rest : shared_from (p + 1) ids (k ∷ ps) ≡ shared_from (p + 1) ids ps = shared_before k (p + 1) ids ps (omega arith) in
      let part = share id (named ps k) in
      let all : sum_by f (shared_from p (id ∷ ids) (k ∷ ps)) ≡ sum_by f (shares id (suc (named ps k)) ++ shared_from (p + 1) ids ps) =
      ap (λ n. sum_by f (shares id n ++ shared_from (p + 1) ids (k ∷ ps))) hit
      ∙ ap (λ ys. sum_by f (shares id (suc (named ps k)) ++ ys)) rest in
      let mine : sum_by f (shared_from p (share id (named ps k) ∷ ids) ps)
      ≡ sum_by f (shares (share id (named ps k)) (named ps k) ++ shared_from (p + 1) ids ps) =
      ap (λ n. sum_by f (shares (share id (named ps k)) (named ps n) ++ shared_from (p + 1) ids ps)) (sym same) in
      omega (
        arith,
        all,
        mine,
        first_share id (named ps k),
        sum_by-append f (shares id (suc (named ps k))) (shared_from (p + 1) ids ps),
        sum_by-append f (shares part (named ps k)) (shared_from (p + 1) ids ps),
      )
  next_share p (suc i) k (id ∷ ids) ps e h =
      let miss : named (k ∷ ps) p ≡ named ps p = named_miss k ps p (λ same. absurd (omega (arith, e, same))) in
      let part = share (id_at ids i) (named ps k) in
      let all : sum_by f (shared_from p (id ∷ ids) (k ∷ ps)) ≡ sum_by f (shares id (named ps p) ++ shared_from (p + 1) ids (k ∷ ps)) =
      ap (λ n. sum_by f (shares id n ++ shared_from (p + 1) ids (k ∷ ps))) miss in
      omega (
        arith,
        all,
        next_share (p + 1) i k ids ps (omega arith) (omega arith),
        sum_by-append f (shares id (named ps p)) (shared_from (p + 1) ids (k ∷ ps)),
        sum_by-append f (shares id (named ps p)) (shared_from (p + 1) (set ids i part) ps),
      )

  none_shared : (p : ℕ) (ids : List Id) → sum_by f (shared_from p ids []) ≡ 0
  none_shared p [] = refl
  none_shared p (id ∷ ids) = none_shared (p + 1) ids

  -- what is dealt is what is shared
  pub sums_dealt : (hand : List Id) (ps : List ℕ) → AreWithin hand ps → sum_by f (dealt hand ps) ≡ sum_by f (shared_from 0 hand ps)
  sums_dealt hand [] h = sym (none_shared 0 hand)
  sums_dealt hand (p ∷ ps) h =
      let part = share (id_at hand p) (named ps p) in
      omega (
        arith,
        sum_by-cons f part (dealt (set hand p part) ps),
        sums_dealt (set hand p part) ps (within_set hand p part ps h.1),
        next_share 0 p p hand ps (omega arith) h.0,
      )

-- ---- steps of loops

pub past_hand : (hand : List Id) (places : List ℕ) (p : ℕ) → AreWithin hand places → length hand ≤ p → named places p ≡ 0
past_hand hand [] p h le = refl
past_hand hand (q ∷ qs) p h le =
    named_miss q qs p (λ e. absurd (omega (arith, e, h.0, le))) ∙ past_hand hand qs p h.1 le

pub all_last_seen : (hand : List Id) (places : List ℕ) → AreWithin hand places
    → ((q : ℕ) → q < length hand → Lasts (id_at hand q) (named places q)) → AllLast hand places
all_last_seen hand places within seen q = elim (cases_lt q (length hand)) [
  | inl here ↦ seen q here
  | inr past ↦ omega (arith, past_hand hand places q within past)
]

pub all_last_more : (hand : List Id) (places : List ℕ) (i : ℕ) → ((q : ℕ) → q < i → Lasts (id_at hand q) (named places q))
    → Lasts (id_at hand i) (named places i) → (q : ℕ) → q < i + 1 → Lasts (id_at hand q) (named places q)
all_last_more hand places i seen now q h = elim (cases_eq q i) [
  | inl same ↦ subst (λ r. Lasts (id_at hand r) (named places r)) (sym same) now
  | inr other ↦ seen q (omega (arith, h, other))
]

pub filled_cons : (id : Id) (ids ds : List Id) → filled (id ∷ ids) ds ≡ filled (id ∷ []) ds ++ filled ids (unused (id ∷ []) ds)
filled_cons id ids [] = refl
filled_cons id ids (d ∷ ds) = elim (cases_Bool (is_managed id)) [
  | inl t ↦ rw t refl
  | inr t ↦ rw t refl
]

unused_none : (ids : List Id) → unused ids [] ≡ []
unused_none [] = refl
unused_none (id ∷ ids) = refl

pub unused_cons : (id : Id) (ids ds : List Id) → unused (id ∷ ids) ds ≡ unused ids (unused (id ∷ []) ds)
unused_cons id ids [] = sym (unused_none ids)
unused_cons id ids (d ∷ ds) = elim (cases_Bool (is_managed id)) [
  | inl t ↦ rw t refl
  | inr t ↦ rw t refl
]

drop_suc : {X : Type 0} (xs : List X) (i : ℕ) (d : X) → i < length xs → drop i xs ≡ slice_index_or xs i d ∷ drop (suc i) xs
drop_suc [] i d h = absurd (omega arith)
drop_suc (x ∷ xs) zero d h = refl
drop_suc (x ∷ xs) (suc i) d h = drop_suc xs i d (omega arith)

pub drop_at : {X : Type 0} (xs : List X) (i : ℕ) (d : X) → i < length xs → drop i xs ≡ slice_index_or xs i d ∷ drop (i + 1) xs
drop_at xs i d h = rw add-one (drop_suc xs i d h)

read_suc : {X : Type 0} (xs : List X) (i : ℕ) (x : X) → i < length xs → x ≡ get_or xs i x → drop i xs ≡ x ∷ drop (suc i) xs
read_suc [] i x h e = absurd (omega arith)
read_suc (y ∷ xs) zero x h e = ap (λ z. z ∷ xs) (sym e)
read_suc (y ∷ xs) (suc i) x h e = read_suc xs i x (omega arith) e

pub read_at : {X : Type 0} (xs : List X) (i : ℕ) (x : X) → i < length xs → x ≡ get_or xs i x → drop i xs ≡ x ∷ drop (i + 1) xs
read_at xs i x h e = rw add-one (read_suc xs i x h e)

-- what a loop over the places keeps, once the one at i got its share
pub record IsDealing (hand0 : List Id) (places : List ℕ) (i : ℕ) (hand out : List Id) : Type 0 where
  pub size : length hand ≡ length hand0
  pub within : AreWithin hand (drop i places)
  pub lasts : AllLast hand (drop i places)
  pub all : out ++ dealt hand (drop i places) ≡ dealt hand0 places

pub dealing_next : (hand0 : List Id) (places : List ℕ) (i : ℕ) (hand out : List Id) (d : ℕ) → i < length places
    → IsDealing hand0 places i hand out
    → IsDealing hand0 places (i + 1)
    (set hand (slice_index_or places i d) (share (id_at hand (slice_index_or places i d)) (named (drop (i + 1) places) (slice_index_or places i d))))
    (out ++ share (id_at hand (slice_index_or places i d)) (named (drop (i + 1) places) (slice_index_or places i d)) ∷ [])
dealing_next hand0 places i hand out d h at =
    let p = slice_index_or places i d in
    let rest = drop (i + 1) places in
    let part = share (id_at hand p) (named rest p) in
    let here : drop i places ≡ slice_index_or places i d ∷ drop (i + 1) places = drop_at places i d h in
    let within : AreWithin hand (slice_index_or places i d ∷ drop (i + 1) places) = subst (AreWithin hand) here at.within in
    let lasts : AllLast hand (slice_index_or places i d ∷ drop (i + 1) places) = subst (AllLast hand) here at.lasts in record {
      size = length_set hand p part ∙ at.size;
      within = within_set hand p part rest within.1;
      lasts = lasts_set hand p rest within.0 lasts;
      all = append_assoc out (part ∷ []) (dealt (set hand p part) rest) ∙ (ap (λ ps. out ++ dealt hand ps) (sym here) ∙ at.all);
    }

pub dealing_lasts : (hand0 : List Id) (places : List ℕ) (i : ℕ) (hand out : List Id) (d : ℕ) → i < length places
    → IsDealing hand0 places i hand out
    → Lasts (id_at hand (slice_index_or places i d)) (named (drop (i + 1) places) (slice_index_or places i d) + 1)
dealing_lasts hand0 places i hand out d h at =
    lasts_first hand (slice_index_or places i d) (drop (i + 1) places) (subst (AllLast hand) (drop_at places i d h) at.lasts)

pub dealing_within : (hand0 : List Id) (places : List ℕ) (i : ℕ) (hand out : List Id) (d : ℕ) → i < length places
    → IsDealing hand0 places i hand out → slice_index_or places i d < length hand
dealing_within hand0 places i hand out d h at = (subst (AreWithin hand) (drop_at places i d h) at.within).0

-- what a loop over the ids keeps, once those before i are filled
pub record IsFilling (ids dealt : List Id) (i : ℕ) (out ds : List Id) : Type 0 where
  pub done : out ++ filled (drop i ids) ds ≡ filled ids dealt
  pub rest : unused (drop i ids) ds ≡ unused ids dealt

pub filling_next : (ids dealt : List Id) (i : ℕ) (out ds : List Id) (x y : Id) (ds' : List Id) → i < length ids → x ≡ get_or ids i x
    → filled (x ∷ []) ds ≡ y ∷ [] → ds' ≡ unused (x ∷ []) ds → IsFilling ids dealt i out ds → IsFilling ids dealt (i + 1) (out ++ y ∷ []) ds'
filling_next ids dealt i out ds x y ds' h is one rest at =
    let here : drop i ids ≡ x ∷ drop (i + 1) ids = read_at ids i x h is in
    let tail = drop (i + 1) ids in record {
      done = append_assoc out (y ∷ []) (filled tail ds')
          ∙ (ap (λ zs. out ++ (zs ++ filled tail ds')) (sym one)
          ∙ (ap (λ es. out ++ (filled (x ∷ []) ds ++ filled tail es)) rest
          ∙ (ap (λ zs. out ++ zs) (sym (filled_cons x tail ds))
          ∙ (ap (λ zs. out ++ filled zs ds) (sym here) ∙ at.done))));
      rest = ap (λ es. unused tail es) rest ∙ (sym (unused_cons x tail ds) ∙ (ap (λ zs. unused zs ds) (sym here) ∙ at.rest));
    }
