-- The two sides of a fork.
use Rattle.std.proofs.Common.{ℕ, zero, suc, slice_get, is_some, ◌≡◌, ◌<◌, ◌≤◌, ◌+◌, ◌-◌, List, [], ◌∷◌, ◌++◌, Option, Some, None, IsSome, IsSomeAnd, length, refl, sym, ap, ◌∙◌, arith, subst, inl, inr, length-append, append-nil}
use Rattle.std.specs.Option.{option_to_list}
use Rattle.hpx_agas.specs.declared.line.Line.{Line}
use Rattle.hpx_agas.specs.Lines.{Each, AreBelow, AreFrom, line_of, records_of, in_place, left_behind, orphans, IsLike, IsLive}
use Rattle.hpx_agas.proofs.LinesLemmas.{same_or_not, line_hit, line_miss, place_hit, place_miss, find_left, find_right, place_left, place_right, each_placed, records-append, counted}

-- what there is, is listed
pub live_one : {X : Type 0} (slot : Option X) → IsSome slot → length (option_to_list slot) ≡ 1
live_one None h = cc
live_one (Some x) h = refl

-- an element of one of two lists
pub get_left : {X : Type 0} (xs ys : List X) (i : ℕ) → i < length xs → slice_get (xs ++ ys) i ≡ slice_get xs i
get_left [] ys i h = absurd (omega arith)
get_left (x ∷ xs) ys zero h = refl
get_left (x ∷ xs) ys (suc i) h = get_left xs ys i (omega arith)

pub get_right : {X : Type 0} (xs ys : List X) (i : ℕ) → length xs ≤ i → slice_get (xs ++ ys) i ≡ slice_get ys (i - length xs)
get_right [] ys i h = let e : i - 0 ≡ i = omega arith in rw e refl
get_right (x ∷ xs) ys zero h = absurd (omega arith)
get_right (x ∷ xs) ys (suc i) h = let e : suc i - suc (length xs) ≡ i - length xs = omega arith in rw e (get_right xs ys i (omega arith))

-- what is so is there
pub some_and : {X : Type 0} (P : X → Type 0) (slot : Option X) → IsSomeAnd slot P → (x : X) × (slot ≡ Some x) × P x
some_and P None h = absurd h
some_and P (Some x) h = (x, refl, h)

module _ {Q : Type 0} where
  pub record AtFork (d low high : List (Line Q)) (s b : ℕ) : Type 0 where
    pub is : d ≡ low ++ high
    pub low_some : 1 ≤ length low
    pub high_some : 1 ≤ length high
    pub below : AreBelow s low
    pub from : AreFrom s high
    pub before : b ≡ length (records_of low)
    pub low_shorter : length low < length d
    pub high_shorter : length high < length d

  pub at_fork : (d low high : List (Line Q)) (s before : ℕ) → low ++ high ≡ d
      → (1 ≤ length low) × (1 ≤ length high) × AreBelow s low × AreFrom s high × (before ≡ length (records_of low)) → AtFork d low high s before
  at_fork d low high s before e h =
      let size : length d ≡ length low + length high = ap length (sym e) ∙ length-append low high in
      record {
        is = sym e;
        low_some = h.0;
        high_some = h.1;
        below = h.2;
        from = h.3;
        before = h.4;
        low_shorter = omega (arith, h.0, h.1);
        high_shorter = omega (arith, h.0, h.1);
      }

  module _ (d low high : List (Line Q)) (s before : ℕ) (f : AtFork d low high s before) (n : ℕ) where
    pub find_low : n < s → line_of n d ≡ line_of n low
    find_low lt = ap (line_of n) f.is ∙ find_left s n low high lt f.from

    pub find_high : s ≤ n → line_of n d ≡ line_of n high
    find_high le = ap (line_of n) f.is ∙ find_right s n low high le f.below

    pub place_low : (made : Line Q → List (Line Q)) → n < s → in_place n made d ≡ in_place n made low ++ high
    place_low made lt = ap (in_place n made) f.is ∙ place_left s n made low high lt f.from

    pub place_high : (made : Line Q → List (Line Q)) → s ≤ n → in_place n made d ≡ low ++ in_place n made high
    place_high made le = ap (in_place n made) f.is ∙ place_right s n made low high le f.below

    pub counts : length (records_of d) ≡ before + length (records_of high)
    counts = ap (λ ls. length (records_of ls)) f.is ∙ ap length (records-append low high) ∙ length-append (records_of low) (records_of high) ∙ ap (λ k. k + length (records_of high)) (sym f.before)

  -- the only line is the one that is found
  pub only_found : (P : Line Q → Type 0) (n : ℕ) (l : Line Q) → IsSomeAnd (line_of n (l ∷ [])) P → (line_of n (l ∷ []) ≡ Some l) × (l.number ≡ n)
  only_found P n l h = elim (same_or_not l.number n) [
    | inl e ↦ (line_hit n l [] e, e)
    | inr away ↦ absurd (rw (line_miss n l [] away) at h)
  ]

  -- a line's object dies
  pub each_orphan : (p : ℕ → Type 0) (l : Line Q) (items : List Q) → p l.number → Each (λ m. p m.number) (orphans l items)
  each_orphan p l [] h = tt
  each_orphan p l (item ∷ items) h = (h, tt)

  pub no_records : (l : Line Q) (items : List Q) → records_of (orphans l items) ≡ []
  no_records l [] = refl
  no_records l (item ∷ items) = refl

  pub each_killed : (p : ℕ → Type 0) (n : ℕ) (ls : List (Line Q)) → Each (λ m. p m.number) ls → Each (λ m. p m.number) (in_place n left_behind ls)
  each_killed p n ls h = each_placed (λ m. p m.number) n left_behind ls (λ l e hl. each_orphan p l l.queue hl) h

  pub killed_count : (n : ℕ) (ls : List (Line Q)) → IsSomeAnd (line_of n ls) IsLive → length (records_of (in_place n left_behind ls)) + 1 ≡ length (records_of ls)
  killed_count n ls h =
      let l = some_and IsLive (line_of n ls) h in
      let c = counted n left_behind l.0 ls l.1 in
      let one = live_one l.0.live l.2 in
      let none : length (records_of (left_behind l.0)) ≡ 0 = ap length (no_records l.0 l.0.queue) in
      omega (arith, c, one, none)

  -- a line stands in the place of one like it
  pub each_swapped : (p : ℕ → Type 0) (m : Line Q) (ls : List (Line Q)) → Each (λ l. p l.number) ls → Each (λ l. p l.number) (in_place m.number (λ _. m ∷ []) ls)
  each_swapped p m ls h = each_placed (λ l. p l.number) m.number (λ _. m ∷ []) ls (λ l e hl. (subst p e hl, tt)) h

  pub swapped_count : (m : Line Q) (ls : List (Line Q)) → IsSomeAnd (line_of m.number ls) (IsLike m) → length (records_of (in_place m.number (λ _. m ∷ []) ls)) ≡ length (records_of ls)
  swapped_count m ls h =
      let l = some_and (IsLike m) (line_of m.number ls) h in
      let c = counted m.number (λ _. m ∷ []) l.0 ls l.1 in
      let like : length (option_to_list m.live) ≡ length (option_to_list l.0.live) = live_same m.live l.0.live l.2 in
      let one : length (records_of (m ∷ [])) ≡ length (option_to_list m.live) = ap length (append-nil (option_to_list m.live)) in
      omega (arith, c, like, one)
    where
      live_same : {X : Type 0} (a b : Option X) → is_some a ≡ is_some b → length (option_to_list a) ≡ length (option_to_list b)
      live_same None None h = refl
      live_same None (Some y) h = cc
      live_same (Some x) None h = cc
      live_same (Some x) (Some y) h = refl

  pub placed_length : (n : ℕ) (m : Line Q) (ls : List (Line Q)) → length (in_place n (λ _. m ∷ []) ls) ≡ length ls
  placed_length n m [] = refl
  placed_length n m (l ∷ ls) = elim (same_or_not l.number n) [
    | inl e ↦ ap length (place_hit n (λ _. m ∷ []) l ls e)
    | inr away ↦ ap length (place_miss n (λ _. m ∷ []) l ls away) ∙ ap suc (placed_length n m ls)
  ]
