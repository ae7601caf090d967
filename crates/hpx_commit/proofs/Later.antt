-- Ids behind the places that are split ahead.
use Rattle.std.proofs.Common.{◌≢◌, ℕ, zero, suc, List, [], ◌∷◌, ◌++◌, ◌≡◌, ◌+◌, ◌^◌, ◌<◌, ◌≤◌, set, length, drop, get_or, refl, sym, ap, ◌∙◌, arith, append_assoc, length-append}
use Rattle.std.proofs.lemmas.List.{set_comm, set-append_left}
use Rattle.hpx_value.specs.Ids.{Id}
use Rattle.hpx_value.specs.Hands.{id_at}
use Rattle.hpx_commit.specs.Deals.{half, named}
use Rattle.hpx_commit.specs.Stocks.{Stock, first_moved, take_half, take_halves, halvings, split_place, ahead_from, ahead, replaced, replaced_from}
use Rattle.hpx_commit.proofs.Deals.{length_set, off_set, read_at}
use Rattle.hpx_commit.proofs.Moved.{half_size}
use Rattle.hpx_commit.proofs.StockLoops.{halves_longer}

abbrev stock : List Id → List ℕ → Stock
stock hand places = record { hand = hand; places = places }

later_half : (p q : ℕ) (id : Id) (s : Stock) → p ≢ q → q < length s.hand → take_half p (replaced q id s) ≡ replaced q id (take_half p s)
later_half p q id s d lt =
    let there = set s.hand q id in
    let h = half (id_at s.hand p) in
    let same : id_at (set s.hand q id) p ≡ id_at s.hand p = off_set s.hand q p id (λ e. d (sym e)) in
    let swapped : set (set s.hand q id) p (half (id_at s.hand p)) ++ half (id_at s.hand p) ∷ []
    ≡ set (set s.hand p (half (id_at s.hand p)) ++ half (id_at s.hand p) ∷ []) q id =
    ap (λ xs. xs ++ half (id_at s.hand p) ∷ []) (set_comm s.hand q p id h (λ e. d (sym e)))
    ∙ sym (set-append_left (set s.hand p h) (h ∷ []) q id (omega (arith, lt, length_set s.hand p h))) in
    ap (λ x. stock (set there p (half x) ++ half x ∷ []) (first_moved p (length there) s.places)) same
    ∙ (ap (λ n. stock (set there p h ++ h ∷ []) (first_moved p n s.places)) (length_set s.hand q id)
    ∙ ap (λ xs. stock xs (first_moved p (length s.hand) s.places)) swapped)

later_halves : (k p q : ℕ) (id : Id) (s : Stock) → p ≢ q → p < length s.hand → q < length s.hand
    → take_halves k p (replaced q id s) ≡ replaced q id (take_halves k p s)
later_halves zero p q id s d here lt = refl
later_halves (suc k) p q id s d here lt =
    let size = half_size s p here in
    ap (take_halves k p) (later_half p q id s d lt)
    ∙ later_halves k p q id (take_half p s) d (omega (arith, here, size)) (omega (arith, lt, size))

later_place : (p q : ℕ) (id : Id) (s : Stock) → p ≢ q → p < length s.hand → q < length s.hand
    → split_place p (replaced q id s) ≡ replaced q id (split_place p s)
later_place p q id s d here lt =
    ap (λ x. take_halves (halvings x (named s.places p)) p (replaced q id s)) (off_set s.hand q p id (λ e. d (sym e)))
    ∙ later_halves (halvings (id_at s.hand p) (named s.places p)) p q id s d here lt

later_from : (k p q : ℕ) (id : Id) (s : Stock) → p + k ≤ q → q < length s.hand → ahead_from k p (replaced q id s) ≡ replaced q id (ahead_from k p s)
later_from zero p q id s le lt = refl
later_from (suc k) p q id s le lt =
    let here : p < length s.hand = omega (arith, le, lt) in
    let longer = halves_longer (halvings (id_at s.hand p) (named s.places p)) p s here in
    ap (ahead_from k (p + 1)) (later_place p q id s (λ e. absurd (omega (arith, e, le))) here lt)
    ∙ later_from k (p + 1) q id (split_place p s) (omega (arith, le)) (omega (arith, lt, longer))

pub later_one : (n q : ℕ) (id : Id) (s : Stock) → n ≤ q → q < length s.hand → ahead n (replaced q id s) ≡ replaced q id (ahead n s)
later_one n q id s le lt = later_from n 0 q id s (omega (arith, le)) lt

later_all : (n q : ℕ) (ids : List Id) (s : Stock) → n ≤ q → q + length ids ≤ length s.hand
    → ahead n (replaced_from q ids s) ≡ replaced_from q ids (ahead n s)
later_all n q [] s le fits = refl
later_all n q (id ∷ ids) s le fits =
    later_all n (q + 1) ids (replaced q id s) (omega (arith, le)) (omega (arith, fits, length_set s.hand q id))
    ∙ ap (replaced_from (q + 1) ids) (later_one n q id s le (omega (arith, fits)))

-- a list in two parts, the second written anew
set_at_end : (xs ys : List Id) (y id : Id) → set (xs ++ y ∷ ys) (length xs) id ≡ (xs ++ id ∷ []) ++ ys
set_at_end [] ys y id = refl
set_at_end (x ∷ xs) ys y id = ap (λ zs. x ∷ zs) (set_at_end xs ys y id)

written_anew : (q : ℕ) (front old new : List Id) (places : List ℕ) → q ≡ length front → length new ≡ length old
    → replaced_from q new (stock (front ++ old) places) ≡ stock (front ++ new) places
written_anew q front [] [] places e same = refl
written_anew q front (y ∷ ys) [] places e same = absurd (omega (arith, same))
written_anew q front [] (x ∷ xs) places e same = absurd (omega (arith, same))
written_anew q front (y ∷ ys) (x ∷ xs) places e same =
    let next : q + 1 ≡ length (front ++ x ∷ []) = omega (arith, e, length-append front (x ∷ [])) in
    ap (λ n. replaced_from (q + 1) xs (stock (set (front ++ y ∷ ys) n x) places)) e
    ∙ (ap (λ zs. replaced_from (q + 1) xs (stock zs places)) (set_at_end front ys y x)
    ∙ (written_anew (q + 1) (front ++ x ∷ []) ys xs places next (omega (arith, same))
    ∙ ap (λ zs. stock zs places) (append_assoc front (x ∷ []) xs)))

pub later_made : (n : ℕ) (front old new : List Id) (places : List ℕ) → n ≤ length front → length new ≡ length old
    → ahead n (record { hand = front ++ new; places = places })
    ≡ replaced_from (length front) new (ahead n (record { hand = front ++ old; places = places }))
later_made n front old new places fits same =
    ap (ahead n) (sym (written_anew (length front) front old new places refl same))
    ∙ later_all n (length front) new (stock (front ++ old) places) fits (omega (arith, same, length-append front old))

-- ---- the loop that puts them there

-- what a loop keeps that put the first i
pub record IsReplacing (first : ℕ) (ids : List Id) (i : ℕ) (s0 s : Stock) : Type 0 where
  pub few : length s.hand < 2 ^ 32
  pub fits : first + length ids ≤ length s.hand
  pub all : replaced_from (first + i) (drop i ids) s ≡ replaced_from first ids s0

pub replacing_first : (first : ℕ) (ids : List Id) (s : Stock) → length s.hand < 2 ^ 32 → first + length ids ≤ length s.hand → IsReplacing first ids 0 s s
replacing_first first ids s few fits = record { few = few; fits = fits; all = ap (λ n. replaced_from n ids s) (none first) }
  where
    none : (n : ℕ) → n + 0 ≡ n
    none n = omega arith

pub replacing_next : (first : ℕ) (ids : List Id) (i : ℕ) (s0 s : Stock) (id : Id) → i < length ids → id ≡ get_or ids i id
    → IsReplacing first ids i s0 s → IsReplacing first ids (i + 1) s0 (replaced (first + i) id s)
replacing_next first ids i s0 s id h is at =
    let now : drop i ids ≡ id ∷ drop (i + 1) ids = read_at ids i id h is in
    let place : first + (i + 1) ≡ first + i + 1 = omega arith in record {
      few = omega (arith, at.few, length_set s.hand (first + i) id);
      fits = omega (arith, at.fits, length_set s.hand (first + i) id);
      all = ap (λ n. replaced_from n (drop (i + 1) ids) (replaced (first + i) id s)) place
          ∙ (ap (λ xs. replaced_from (first + i) xs s) (sym now) ∙ at.all);
    }

drop_none : {X : Type 0} (xs : List X) (i : ℕ) → length xs ≤ i → drop i xs ≡ []
drop_none [] zero h = refl
drop_none [] (suc i) h = refl
drop_none (x ∷ xs) zero h = absurd (omega (arith, h))
drop_none (x ∷ xs) (suc i) h = drop_none xs i (omega (arith, h))

pub replacing_last : (first : ℕ) (ids : List Id) (i : ℕ) (s0 s : Stock) → length ids ≤ i → IsReplacing first ids i s0 s → s ≡ replaced_from first ids s0
replacing_last first ids i s0 s h at = ap (λ xs. replaced_from (first + i) xs s) (sym (drop_none ids i h)) ∙ at.all
