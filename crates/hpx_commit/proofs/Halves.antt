-- What is split off ahead: halves of the first ids, with a credit.
use Rattle.std.proofs.Common.{ℕ, zero, suc, true, List, [], ◌∷◌, ◌++◌, ◌≡◌, ◌+◌, ◌-◌, ◌<◌, ◌≤◌, Option, Some, None, set, drop, length, refl, sym, ap, ◌∙◌, arith, subst}
use Rattle.std.specs.Prelude.{is_some}
use Rattle.std.specs.List.{AllByRecursion}
use Rattle.std.proofs.lemmas.List.{drop-append-le, drop-set-lt}
use Rattle.hpx_value.specs.Ids.{Id, bare}
use Rattle.hpx_value.specs.Hands.{id_at}
use Rattle.hpx_commit.specs.Deals.{log_of, half, named, AreWithin}
use Rattle.hpx_commit.specs.Stocks.{Stock, take_half, take_halves, halvings, split_place, ahead_from, ahead, IsHalf}
use Rattle.hpx_commit.proofs.Deals.{log_half, length_set}
use Rattle.hpx_commit.proofs.Moved.{half_size, half_at}
use Rattle.hpx_commit.proofs.Ahead.{some_half, halvings_need, halvings_have, halves_taken}
use Rattle.hpx_commit.proofs.AheadMore.{all_more}

has_some : (log : Option ℕ) → 1 ≤ log_of log → is_some log ≡ true
has_some None le = absurd (omega (arith, le))
has_some (Some l) le = refl

-- an id that is split off one: of the same object, and both have a credit
abbrev Parts : (Id → Type 0) → Id → Type 0
Parts Q id = (x : Id) → bare x ≡ bare id → is_some x.log ≡ true → is_some id.log ≡ true → Q x

module _ (Q : Id → Type 0) (m : ℕ) where
  one_more : (p : ℕ) (s : Stock) → p < m → m ≤ length s.hand → AllByRecursion Q (drop m s.hand) → Q (half (id_at s.hand p))
      → AllByRecursion Q (drop m (take_half p s).hand)
  one_more p s lt le all new =
      let x = half (id_at s.hand p) in
      let parts : drop m (take_half p s).hand ≡ drop m s.hand ++ x ∷ [] =
      drop-append-le m (set s.hand p x) (x ∷ []) (omega (arith, le, length_set s.hand p x))
      ∙ ap (λ ids. ids ++ x ∷ []) (drop-set-lt m s.hand p x lt) in
      subst (AllByRecursion Q) (sym parts) (all_more Q (drop m s.hand) x new all)

  all_taken : (k p : ℕ) (s : Stock) → p < m → m ≤ length s.hand → k ≤ log_of (id_at s.hand p).log → Parts Q (id_at s.hand p)
      → AllByRecursion Q (drop m s.hand) → AllByRecursion Q (drop m (take_halves k p s).hand)
  all_taken zero p s lt le few each all = all
  all_taken (suc k) p s lt le few each all =
      let here : p < length s.hand = omega (arith, lt, le) in
      let some : is_some (id_at s.hand p).log ≡ true = has_some (id_at s.hand p).log (omega (arith, few)) in
      let new : Q (half (id_at s.hand p)) = each (half (id_at s.hand p)) refl (some_half (id_at s.hand p).log ∙ some) some in
      let is : id_at (take_half p s).hand p ≡ half (id_at s.hand p) = half_at s p here in
      let less : log_of (id_at (take_half p s).hand p).log ≡ log_of (id_at s.hand p).log - 1 = ap (λ (x : Id). log_of x.log) is ∙ log_half (id_at s.hand p).log in
      all_taken k p (take_half p s) lt (omega (arith, le, half_size s p here)) (omega (arith, few, less))
      (subst (Parts Q) (sym is) (λ x same has old. each x same has some)) (one_more p s lt le all new)

  all_parts : (k p : ℕ) (s : Stock) → p + k ≤ m → m ≤ length s.hand → AreWithin s.hand s.places
      → ((q : ℕ) → p ≤ q → q < p + k → Parts Q (id_at s.hand q)) → AllByRecursion Q (drop m s.hand) → AllByRecursion Q (drop m (ahead_from k p s).hand)
  all_parts zero p s fits le within each all = all
  all_parts (suc k) p s fits le within each all =
      let here : p < length s.hand = omega (arith, fits, le) in
      let h = halvings (id_at s.hand p) (named s.places p) in
      let one = halves_taken (halvings (id_at s.hand p) (named s.places p)) p s here within (halvings_need (id_at s.hand p) (named s.places p)) in
      all_parts k (p + 1) (split_place p s) (omega (arith, fits)) (omega (arith, le, one.size)) one.same.objects.within
      (λ q low high.
      let stays : id_at (split_place p s).hand q ≡ id_at s.hand q = (one.rest q (λ e. absurd (omega (arith, e, low))) (omega (arith, high, fits, le))).part in
      subst (Parts Q) (sym stays) (each q (omega (arith, low)) (omega (arith, high))))
      (all_taken h p s (omega (arith, fits)) le (halvings_have (id_at s.hand p) (named s.places p)) (each p (omega arith) (omega arith)) all)

none_past : (Q : Id → Type 0) (ids : List Id) → AllByRecursion Q (drop (length ids) ids)
none_past Q [] = tt
none_past Q (x ∷ xs) = none_past Q xs

pub ahead_halves : (n : ℕ) (s : Stock) → n ≤ length s.hand → AreWithin s.hand s.places
    → AllByRecursion (IsHalf n s) (drop (length s.hand) (ahead n s).hand)
ahead_halves n s fits within =
    all_parts (IsHalf n s) (length s.hand) n 0 s (omega (arith, fits)) (omega arith) within
    (λ q low high x same has old. record { place = q; first = omega (arith, high); object = same; has = has; had = old })
    (none_past (IsHalf n s) s.hand)
