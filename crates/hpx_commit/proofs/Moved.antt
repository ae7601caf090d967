-- One half that is taken ahead.
use Rattle.std.proofs.Common.{◌≢◌, ℕ, zero, suc, Bool, true, false, cond, List, [], ◌∷◌, ◌++◌, ◌≡◌, ◌+◌, ◌*◌, ◌<◌, ◌≤◌, ◌==◌, ◌&&◌, ◌⊎◌, set, length, map, refl, sym, ap, ◌∙◌, arith, inl, inr, subst, length-append}
use Rattle.std.specs.List.{sum_by, AllByRecursion}
use Rattle.std.proofs.lemmas.Bool.{cases_eq, eq-eqb, ne_eqb}
use Rattle.std.proofs.lemmas.List.{set_comm, set-get_or, set-append_left, get_or_append_left}
use Rattle.std.proofs.lemmas.List.Sums.{sum_by-cons, sum_by-append, sum_by-set}
use Rattle.hpx_value.specs.Ids.{Id, bare}
use Rattle.hpx_value.specs.Hands.{id_at, session}
use Rattle.hpx_commit.specs.Deals.{is_managed, half, named, share, dealt, unnamed, unnamed_from, AreWithin}
use Rattle.hpx_commit.specs.Stocks.{Stock, first_moved, take_half, SameDeal}
use Rattle.hpx_commit.proofs.Deals.{named_cons, named_hit, named_miss, length_set, at_set, off_set, names_set, within_set, past_hand}

-- ---- places

moved_hit : (p m r : ℕ) (rs : List ℕ) → r ≡ p → first_moved p m (r ∷ rs) ≡ m ∷ rs
moved_hit p m r rs e = let t : (r == p) ≡ true = eq-eqb r p e in rw t refl

moved_miss : (p m r : ℕ) (rs : List ℕ) → r ≢ p → first_moved p m (r ∷ rs) ≡ r ∷ first_moved p m rs
moved_miss p m r rs d = let t : (r == p) ≡ false = ne_eqb r p d in rw t refl

pub moved_length : (p m : ℕ) (ps : List ℕ) → length (first_moved p m ps) ≡ length ps
moved_length p m [] = refl
moved_length p m (r ∷ rs) = elim (cases_eq r p) [
  | inl e ↦ ap (λ xs. length xs) (moved_hit p m r rs e)
  | inr d ↦ ap (λ xs. length xs) (moved_miss p m r rs d) ∙ ap suc (moved_length p m rs)
]

-- the place has one less
pub moved_less : (p m : ℕ) (ps : List ℕ) → m ≢ p → 1 ≤ named ps p → named (first_moved p m ps) p + 1 ≡ named ps p
moved_less p m [] d h = absurd (omega (arith, h))
moved_less p m (r ∷ rs) d h = elim (cases_eq r p) [
  | inl e ↦
      let now : named (first_moved p m (r ∷ rs)) p ≡ named rs p = ap (λ xs. named xs p) (moved_hit p m r rs e) ∙ named_miss m rs p d in
      let old : named (r ∷ rs) p ≡ suc (named rs p) = rw e (named_hit rs p) in
      omega (arith, now, old)
  | inr n ↦
      let now : named (first_moved p m (r ∷ rs)) p ≡ named (first_moved p m rs) p =
      ap (λ xs. named xs p) (moved_miss p m r rs n) ∙ named_miss r (first_moved p m rs) p n in
      let old : named (r ∷ rs) p ≡ named rs p = named_miss r rs p n in
      omega (arith, now, old, moved_less p m rs d (omega (arith, h, old)))
]

-- the new place has one more
pub moved_more : (p m : ℕ) (ps : List ℕ) → m ≢ p → 1 ≤ named ps p → named (first_moved p m ps) m ≡ named ps m + 1
moved_more p m [] d h = absurd (omega (arith, h))
moved_more p m (r ∷ rs) d h = elim (cases_eq r p) [
  | inl e ↦
      let now : named (first_moved p m (r ∷ rs)) m ≡ suc (named rs m) = ap (λ xs. named xs m) (moved_hit p m r rs e) ∙ named_hit rs m in
      let old : named (r ∷ rs) m ≡ named rs m = named_miss r rs m (λ i. d (sym i ∙ e)) in
      omega (arith, now, old)
  | inr n ↦
      let now : named (first_moved p m (r ∷ rs)) m ≡ cond (r == m) 1 0 + named (first_moved p m rs) m =
      ap (λ xs. named xs m) (moved_miss p m r rs n) ∙ named_cons r (first_moved p m rs) m in
      let old : named (r ∷ rs) m ≡ cond (r == m) 1 0 + named rs m = named_cons r rs m in
      let less : named (r ∷ rs) p ≡ named rs p = named_miss r rs p n in
      omega (arith, now, old, moved_more p m rs d (omega (arith, h, less)))
]

-- the others have as many
pub moved_other : (p m q : ℕ) (ps : List ℕ) → p ≢ q → m ≢ q → named (first_moved p m ps) q ≡ named ps q
moved_other p m q [] d e = refl
moved_other p m q (r ∷ rs) d e = elim (cases_eq r p) [
  | inl same ↦
      ap (λ xs. named xs q) (moved_hit p m r rs same) ∙ (named_miss m rs q e ∙ sym (named_miss r rs q (λ i. d (sym same ∙ i))))
  | inr other ↦
      ap (λ xs. named xs q) (moved_miss p m r rs other)
      ∙ (named_cons r (first_moved p m rs) q ∙ (ap (λ n. cond (r == q) 1 0 + n) (moved_other p m q rs d e) ∙ sym (named_cons r rs q)))
]

pub moved_within : (n p m : ℕ) (ps : List ℕ) → m < n → AllByRecursion (λ q. q < n) ps → AllByRecursion (λ q. q < n) (first_moved p m ps)
moved_within n p m [] lt h = tt
moved_within n p m (r ∷ rs) lt h = elim (cases_eq r p) [
  | inl e ↦ subst (AllByRecursion (λ q. q < n)) (sym (moved_hit p m r rs e)) (lt, h.1)
  | inr d ↦ subst (AllByRecursion (λ q. q < n)) (sym (moved_miss p m r rs d)) (h.0, moved_within n p m rs lt h.1)
]

pub wider : (n m : ℕ) (ps : List ℕ) → n ≤ m → AllByRecursion (λ q. q < n) ps → AllByRecursion (λ q. q < m) ps
wider n m [] le h = tt
wider n m (r ∷ rs) le h = (omega (arith, le, h.0), wider n m rs le h.1)

-- ---- ids

pub at_longer : (hand more : List Id) (q : ℕ) → q < length hand → id_at (hand ++ more) q ≡ id_at hand q
at_longer hand more q h = get_or_append_left hand more session q h

pub at_end : (hand : List Id) (x : Id) → id_at (hand ++ x ∷ []) (length hand) ≡ x
at_end [] x = refl
at_end (id ∷ ids) x = at_end ids x

-- one more id, which nobody names, changes nothing
dealt_longer : (hand : List Id) (x : Id) (ps : List ℕ) → AreWithin hand ps → dealt (hand ++ x ∷ []) ps ≡ dealt hand ps
dealt_longer hand x [] h = refl
dealt_longer hand x (p ∷ ps) h =
    let part = share (id_at hand p) (named ps p) in
    let same : share (id_at (hand ++ x ∷ []) p) (named ps p) ≡ share (id_at hand p) (named ps p) =
    ap (λ y. share y (named ps p)) (at_longer hand (x ∷ []) p h.0) in
    ap (λ y. y ∷ dealt (set (hand ++ x ∷ []) p y) ps) same
    ∙ ap (λ ys. part ∷ ys)
    (ap (λ ys. dealt ys ps) (set-append_left hand (x ∷ []) p part h.0) ∙ dealt_longer (set hand p part) x ps (within_set hand p part ps h.1))

-- all get what they got
dealt_moved : (hand : List Id) (p m : ℕ) (h : Id) (ps : List ℕ) → m ≡ length hand → p < length hand → h ≡ half (id_at hand p)
    → AreWithin hand ps → 2 ≤ named ps p → dealt (set hand p h ++ h ∷ []) (first_moved p m ps) ≡ dealt hand ps
dealt_moved hand p m h [] e lt is within two = absurd (omega (arith, two))
dealt_moved hand p m h (r ∷ rs) e lt is within two = elim (cases_eq r p) [
  | inl same ↦
      let longer = set hand p h ++ h ∷ [] in
      let size : length (set hand p h) ≡ m = length_set hand p h ∙ sym e in
      let none : named rs m ≡ 0 = past_hand hand rs m within.1 (omega (arith, e)) in
      let new : id_at (set hand p h ++ h ∷ []) m ≡ h = ap (id_at (set hand p h ++ h ∷ [])) (sym size) ∙ at_end (set hand p h) h in
      let mine : share (id_at (set hand p h ++ h ∷ []) m) (named rs m) ≡ h = ap (share (id_at (set hand p h ++ h ∷ []) m)) none ∙ new in
      let stays : set (set hand p h ++ h ∷ []) m h ≡ set hand p h ++ h ∷ [] =
      ap (set (set hand p h ++ h ∷ []) m) (sym new) ∙ set-get_or (set hand p h ++ h ∷ []) m session in
      let others : named (r ∷ rs) p ≡ suc (named rs p) = rw same (named_hit rs p) in
      let first : dealt (set hand p h ++ h ∷ []) (m ∷ rs) ≡ h ∷ dealt (set hand p h) rs =
      ap (λ y. y ∷ dealt (set (set hand p h ++ h ∷ []) m y) rs) mine
      ∙ ap (λ ys. h ∷ ys)
      (ap (λ ys. dealt ys rs) stays ∙ dealt_longer (set hand p h) h rs (within_set hand p h rs within.1)) in
      ap (dealt (set hand p h ++ h ∷ [])) (moved_hit p m r rs same)
      ∙ (first ∙ sym (shared r same (named rs r) refl (omega (arith, two, others, ap (named rs) same))))
  | inr other ↦
      let part = share (id_at hand r) (named rs r) in
      let longer = set hand p h ++ h ∷ [] in
      let apart : m ≢ r = λ i. absurd (omega (arith, within.0, e, i)) in
      let count : named (first_moved p m rs) r ≡ named rs r = moved_other p m r rs (λ i. other (sym i)) apart in
      let here : r < length (set hand p h) = omega (arith, length_set hand p h, within.0) in
      let read : id_at (set hand p h ++ h ∷ []) r ≡ id_at hand r =
      at_longer (set hand p h) (h ∷ []) r here ∙ off_set hand p r h (λ i. other (sym i)) in
      let mine : share (id_at (set hand p h ++ h ∷ []) r) (named (first_moved p m rs) r) ≡ share (id_at hand r) (named rs r) =
      ap (share (id_at (set hand p h ++ h ∷ []) r)) count ∙ ap (λ y. share y (named rs r)) read in
      let next : set (set hand p h ++ h ∷ []) r part ≡ set (set hand r part) p h ++ h ∷ [] =
      set-append_left (set hand p h) (h ∷ []) r part here ∙ ap (λ ys. ys ++ h ∷ []) (set_comm hand p r h part (λ i. other (sym i))) in
      let size : m ≡ length (set hand r part) = e ∙ sym (length_set hand r part) in
      let is_here : p < length (set hand r part) = omega (arith, length_set hand r part, lt) in
      let still : h ≡ half (id_at (set hand r part) p) = is ∙ ap half (sym (off_set hand r p part other)) in
      let fewer : named (r ∷ rs) p ≡ named rs p = named_miss r rs p other in
      ap (dealt (set hand p h ++ h ∷ [])) (moved_miss p m r rs other)
      ∙ (ap (λ y. y ∷ dealt (set (set hand p h ++ h ∷ []) r y) (first_moved p m rs)) mine
      ∙ ap (λ ys. part ∷ ys)
      (ap (λ ys. dealt ys (first_moved p m rs)) next
      ∙ dealt_moved (set hand r part) p m h rs size is_here still (within_set hand r part rs within.1) (omega (arith, two, fewer))))
]
  where
    shared : (r : ℕ) → r ≡ p → (n : ℕ) → named rs r ≡ n → 1 ≤ n → dealt hand (r ∷ rs) ≡ h ∷ dealt (set hand p h) rs
    shared r same zero e1 some = absurd (omega (arith, some))
    shared r same (suc n) e1 some =
        let mine : share (id_at hand r) (named rs r) ≡ h = ap (share (id_at hand r)) e1 ∙ (ap (λ q. half (id_at hand q)) same ∙ sym is) in
        ap (λ y. y ∷ dealt (set hand r y) rs) mine ∙ ap (λ q. h ∷ dealt (set hand q h) rs) same

-- ---- names

names_longer : (hand : List Id) (x : Id) (ps : List ℕ) → AreWithin hand ps
    → map (λ q. bare (id_at (hand ++ x ∷ []) q)) ps ≡ map (λ q. bare (id_at hand q)) ps
names_longer hand x [] h = refl
names_longer hand x (p ∷ ps) h =
    ap (λ y. bare y ∷ map (λ q. bare (id_at (hand ++ x ∷ []) q)) ps) (at_longer hand (x ∷ []) p h.0)
    ∙ ap (λ ys. bare (id_at hand p) ∷ ys) (names_longer hand x ps h.1)

names_moved : (hand : List Id) (p m : ℕ) (ps : List ℕ) → bare (id_at hand m) ≡ bare (id_at hand p)
    → map (λ q. bare (id_at hand q)) (first_moved p m ps) ≡ map (λ q. bare (id_at hand q)) ps
names_moved hand p m [] same = refl
names_moved hand p m (r ∷ rs) same = elim (cases_eq r p) [
  | inl e ↦
      ap (map (λ q. bare (id_at hand q))) (moved_hit p m r rs e)
      ∙ ap (λ y. y ∷ map (λ q. bare (id_at hand q)) rs) (same ∙ ap (λ q. bare (id_at hand q)) (sym e))
  | inr d ↦
      ap (map (λ q. bare (id_at hand q))) (moved_miss p m r rs d)
      ∙ ap (λ ys. bare (id_at hand r) ∷ ys) (names_moved hand p m rs same)
]

-- ---- ids that nobody names

unnamed_named : (k : ℕ) (id : Id) (ids : List Id) (ps : List ℕ) → 1 ≤ named ps k → unnamed_from k (id ∷ ids) ps ≡ unnamed_from (k + 1) ids ps
unnamed_named k id ids ps h = at (named ps k) refl h
  where
    no : (b : Bool) → (b && false) ≡ false
    no true = refl
    no false = refl

    at : (n : ℕ) → named ps k ≡ n → 1 ≤ n → unnamed_from k (id ∷ ids) ps ≡ unnamed_from (k + 1) ids ps
    at zero e some = absurd (omega (arith, some))
    at (suc n) e some =
        let z : (named ps k == 0) ≡ false = ne_eqb (named ps k) 0 (λ i. absurd (omega (arith, i, e))) in
        let b : (is_managed id && (named ps k == 0)) ≡ false = ap (λ c. is_managed id && c) z ∙ no (is_managed id) in
        ap (λ c. cond c (id ∷ unnamed_from (k + 1) ids ps) (unnamed_from (k + 1) ids ps)) b

unnamed_longer : (k : ℕ) (ids : List Id) (x : Id) (ps : List ℕ) → 1 ≤ named ps (k + length ids)
    → unnamed_from k (ids ++ x ∷ []) ps ≡ unnamed_from k ids ps
unnamed_longer k [] x ps h = unnamed_named k x [] ps (subst (λ n. 1 ≤ named ps n) (the k) h)
  where
    the : (k : ℕ) → k + 0 ≡ k
    the k = omega arith
unnamed_longer k (id ∷ ids) x ps h =
    let rest = unnamed_longer (k + 1) ids x ps (subst (λ n. 1 ≤ named ps n) (the k (length ids)) h) in
    ap (λ ys. cond (is_managed id && (named ps k == 0)) (id ∷ ys) ys) rest
  where
    the : (k n : ℕ) → k + suc n ≡ k + 1 + n
    the k n = omega arith

-- the same ids are unnamed where the same places are, and what stands at the others does not matter
pub unnamed_alike : (k : ℕ) (xs ys : List Id) (ps qs : List ℕ) → length xs ≡ length ys
    → ((i : ℕ) → i < length xs → ((id_at xs i ≡ id_at ys i) × (named ps (k + i) ≡ named qs (k + i))) ⊎ ((1 ≤ named ps (k + i)) × (1 ≤ named qs (k + i))))
    → unnamed_from k xs ps ≡ unnamed_from k ys qs
unnamed_alike k [] [] ps qs e h = refl
unnamed_alike k [] (y ∷ ys) ps qs e h = absurd (omega (arith, e))
unnamed_alike k (x ∷ xs) [] ps qs e h = absurd (omega (arith, e))
unnamed_alike k (x ∷ xs) (y ∷ ys) ps qs e h =
    let rest : unnamed_from (k + 1) xs ps ≡ unnamed_from (k + 1) ys qs =
    unnamed_alike (k + 1) xs ys ps qs (omega (arith, e))
    (λ i lt. subst (λ n. ((id_at xs i ≡ id_at ys i) × (named ps n ≡ named qs n)) ⊎ ((1 ≤ named ps n) × (1 ≤ named qs n))) (later k i) (h (suc i) (omega (arith, lt)))) in
    elim (h 0 (omega arith)) [
      | inl same ↦
          let count : named ps k ≡ named qs k = ap (named ps) (sym (first k)) ∙ (same.1 ∙ ap (named qs) (first k)) in
          ap (λ z. cond (is_managed z && (named ps k == 0)) (z ∷ unnamed_from (k + 1) xs ps) (unnamed_from (k + 1) xs ps)) same.0
          ∙ (ap (λ n. cond (is_managed y && (n == 0)) (y ∷ unnamed_from (k + 1) xs ps) (unnamed_from (k + 1) xs ps)) count
          ∙ ap (λ zs. cond (is_managed y && (named qs k == 0)) (y ∷ zs) zs) rest)
      | inr both ↦
          unnamed_named k x xs ps (subst (λ n. 1 ≤ named ps n) (first k) both.0)
          ∙ (rest ∙ sym (unnamed_named k y ys qs (subst (λ n. 1 ≤ named qs n) (first k) both.1)))
    ]
  where
    first : (k : ℕ) → k + 0 ≡ k
    first k = omega arith

    later : (k i : ℕ) → k + suc i ≡ k + 1 + i
    later k i = omega arith

-- ---- the step

module _ (s : Stock) (p : ℕ) (here : p < length s.hand) where
  pub half_size : length (take_half p s).hand ≡ length s.hand + 1
  half_size =
      omega (arith, length-append (set s.hand p (half (id_at s.hand p))) (half (id_at s.hand p) ∷ []), length_set s.hand p (half (id_at s.hand p)))

  pub half_at : id_at (take_half p s).hand p ≡ half (id_at s.hand p)
  half_at =
      at_longer (set s.hand p (half (id_at s.hand p))) (half (id_at s.hand p) ∷ []) p (omega (arith, here, length_set s.hand p (half (id_at s.hand p))))
      ∙ at_set s.hand p (half (id_at s.hand p)) here

  pub half_off : (q : ℕ) → q ≢ p → q < length s.hand → id_at (take_half p s).hand q ≡ id_at s.hand q
  half_off q d lt =
      at_longer (set s.hand p (half (id_at s.hand p))) (half (id_at s.hand p) ∷ []) q (omega (arith, lt, length_set s.hand p (half (id_at s.hand p))))
      ∙ off_set s.hand p q (half (id_at s.hand p)) (λ e. d (sym e))

  pub half_end : id_at (take_half p s).hand (length s.hand) ≡ half (id_at s.hand p)
  half_end =
      ap (id_at (take_half p s).hand) (sym (length_set s.hand p (half (id_at s.hand p))))
      ∙ at_end (set s.hand p (half (id_at s.hand p))) (half (id_at s.hand p))

  apart : length s.hand ≢ p
  apart = λ e. absurd (omega (arith, e, here))

  pub half_sums : (f : Id → ℕ) → sum_by f (take_half p s).hand + f (id_at s.hand p) ≡ sum_by f s.hand + 2 * f (half (id_at s.hand p))
  half_sums f = omega (
    arith,
    sum_by-append f (set s.hand p (half (id_at s.hand p))) (half (id_at s.hand p) ∷ []),
    sum_by-cons f (half (id_at s.hand p)) [],
    sum_by-set f s.hand p (half (id_at s.hand p)) session here,
  )

  module _ (within : AreWithin s.hand s.places) (more : 2 ≤ named s.places p) where
    pub half_less : named (take_half p s).places p + 1 ≡ named s.places p
    half_less = moved_less p (length s.hand) s.places apart (omega (arith, more))

    pub half_new : named (take_half p s).places (length s.hand) ≡ 1
    half_new =
        omega (arith, moved_more p (length s.hand) s.places apart (omega (arith, more)), past_hand s.hand s.places (length s.hand) within (omega arith))

    pub half_other : (q : ℕ) → q ≢ p → q < length s.hand → named (take_half p s).places q ≡ named s.places q
    half_other q d lt = moved_other p (length s.hand) q s.places (λ e. d (sym e)) (λ e. absurd (omega (arith, e, lt)))

    half_within : AreWithin (take_half p s).hand (take_half p s).places
    half_within =
        moved_within (length (take_half p s).hand) p (length s.hand) s.places (omega (arith, half_size))
        (wider (length s.hand) (length (take_half p s).hand) s.places (omega (arith, half_size)) within)

    half_left : unnamed (take_half p s).hand (take_half p s).places ≡ unnamed s.hand s.places
    half_left =
        let hand = set s.hand p (half (id_at s.hand p)) in
        let size : 0 + length (set s.hand p (half (id_at s.hand p))) ≡ length s.hand = omega (arith, length_set s.hand p (half (id_at s.hand p))) in
        unnamed_longer 0 (set s.hand p (half (id_at s.hand p))) (half (id_at s.hand p)) (take_half p s).places
        (subst (λ n. 1 ≤ named (take_half p s).places n) (sym size) (omega (arith, half_new)))
        ∙ unnamed_alike 0 (set s.hand p (half (id_at s.hand p))) s.hand (take_half p s).places s.places (length_set s.hand p (half (id_at s.hand p)))
        (λ i lt. at i (omega (arith, lt, length_set s.hand p (half (id_at s.hand p)))))
      where
        none : (i : ℕ) → 0 + i ≡ i
        none i = omega arith

        at : (i : ℕ) → i < length s.hand
            → ((id_at (set s.hand p (half (id_at s.hand p))) i ≡ id_at s.hand i) × (named (take_half p s).places (0 + i) ≡ named s.places (0 + i)))
            ⊎ ((1 ≤ named (take_half p s).places (0 + i)) × (1 ≤ named s.places (0 + i)))
        at i lt = elim (cases_eq i p) [
          | inl e ↦
              let same : 0 + i ≡ p = omega (arith, e) in
              inr (
                subst (λ n. 1 ≤ named (take_half p s).places n) (sym same) (omega (arith, half_less, more)),
                subst (λ n. 1 ≤ named s.places n) (sym same) (omega (arith, more)),
              )
          | inr d ↦ inl (
            off_set s.hand p i (half (id_at s.hand p)) (λ e. d (sym e)),
            subst (λ n. named (take_half p s).places n ≡ named s.places n) (sym (none i)) (half_other i d lt),
          )
        ]

    pub half_same : SameDeal s (take_half p s)
    half_same = record {
      objects = record {
        within = half_within;
        as_many = moved_length p (length s.hand) s.places;
        names = names_moved (take_half p s).hand p (length s.hand) s.places (ap bare half_end ∙ ap bare (sym half_at))
            ∙ (names_longer (set s.hand p (half (id_at s.hand p))) (half (id_at s.hand p)) s.places
            (within_set s.hand p (half (id_at s.hand p)) s.places within)
            ∙ names_set s.hand p (half (id_at s.hand p)) s.places refl);
        left = half_left;
      };
      deals = dealt_moved s.hand p (length s.hand) (half (id_at s.hand p)) s.places refl here refl within more;
    }
