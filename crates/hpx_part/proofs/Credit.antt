-- Tokens as sums: what is counted is found, and what is traded is the same bag.
use Rattle.std.proofs.Common.{ℕ, Bool, true, false, cond, not, List, [], ◌∷◌, ◌++◌, ◌≡◌, ◌≤◌, refl, ap, arith}
use Rattle.std.specs.Prelude.{◌&&◌}
use Rattle.std.specs.List.{list_any, sum_by, count_by}
use Rattle.std.proofs.lemmas.Bool.{eq-eqb}
use Rattle.std.proofs.lemmas.List.Sums.{sum_by-cons, sum_by-append}
use Rattle.hpx_value.specs.Ids.{Id, same_object}
use Rattle.hpx_journal.specs.Bags.{without, minus, Covers}
use Rattle.hpx_journal.specs.Tokens.{same_token, is_held, is_owed, held_token, owed_token}
use Rattle.hpx_journal.proofs.Bags.{sum_by-without, sum_by-minus}
use Rattle.hpx_journal.proofs.Bools.{and_false}
use Rattle.hpx_journal.proofs.Keys.{one_if}
use Rattle.hpx_journal.proofs.Same.{same_object-through, same_object-refl, same_token-true}
use Rattle.hpx_part.specs.Data.{Token}
use Rattle.hpx_part.specs.Shows.{IsWeight, SameTokens}
use Rattle.hpx_part.specs.Parts.{Trades}
use Rattle.hpx_part.proofs.Keyed.{counts_of, counts_true, any_counted}

token_from : (k a b : Token) → same_token a b ≡ true → same_token k b ≡ same_token k a
token_from k a b h =
    let t = same_token-true a b h in
    rw (← same_object-through k.object a.object b.object t.object, t.log, t.owed) refl

-- how often k is among tokens looks at no credit of an id
pub token_weighs : (k : Token) → IsWeight (counts_of (same_token k))
token_weighs k a b h = ap one_if (token_from k a b h)

flag_own : (b : Bool) → cond b b (not b) ≡ true
flag_own true = refl
flag_own false = refl

pub token_own : (k : Token) → same_token k k ≡ true
token_own k = rw (same_object-refl k.object, eq-eqb k.log k.log refl, flag_own k.owed) refl

-- ---- what there is of each weight is covered

pub covers_all : (xs ks : List Token) → ((f : Token → ℕ) → IsWeight f → sum_by f ks ≤ sum_by f xs) → Covers same_token xs ks
covers_all xs [] h = tt
covers_all xs (k ∷ ks) h =
    let one : counts_of (same_token k) k ≡ 1 = counts_true (same_token k) k (token_own k) in
    let there : list_any (same_token k) xs ≡ true =
    any_counted (same_token k) xs (omega (arith, h (counts_of (same_token k)) (token_weighs k), sum_by-cons (counts_of (same_token k)) k ks)) in (
      there,
      covers_all (without (same_token k) xs) ks
          (λ f weight. omega (arith, h f weight, sum_by-cons f k ks, sum_by-without f (same_token k) (f k) (λ x t. weight k x t) xs there)),
    )

-- one token that is seen is there
pub covers_one : (s v : List Token) (k : Token) → SameTokens s v → 1 ≤ count_by (same_token k) v → Covers same_token s (k ∷ [])
covers_one s v k same h = (any_counted (same_token k) s (omega (arith, h, same (counts_of (same_token k)) (token_weighs k))), tt)

-- so are two of one kind
pub covers_two : (s v : List Token) (k : Token) → SameTokens s v → 2 ≤ count_by (same_token k) v → Covers same_token s (k ∷ k ∷ [])
covers_two s v k same h =
    let one : counts_of (same_token k) k ≡ 1 = counts_true (same_token k) k (token_own k) in
    let there : list_any (same_token k) s ≡ true =
    any_counted (same_token k) s (omega (arith, h, same (counts_of (same_token k)) (token_weighs k))) in (
      there,
      (
        any_counted (same_token k) (without (same_token k) s)
            (omega (
              arith,
              h,
              one,
              same (counts_of (same_token k)) (token_weighs k),
              sum_by-without (counts_of (same_token k)) (same_token k) (counts_of (same_token k) k) (λ x t. token_weighs k k x t) s there,
            )),
        tt,
      ),
    )

-- tokens that are seen to go are there
pub covers_out : (s before out after : List Token) → SameTokens s before → Trades before out [] after → Covers same_token s out
covers_out s before out after same trades =
    covers_all s out (λ f weight. omega (arith, same f weight, trades.sums f weight))

-- after the trade what is seen is there
pub traded : (s before out into after : List Token) → SameTokens s before → Covers same_token s out → Trades before out into after
    → SameTokens (into ++ minus same_token s out) after
traded s before out into after same covers trades f weight =
    omega (
      arith,
      same f weight,
      trades.sums f weight,
      sum_by-append f into (minus same_token s out),
      sum_by-minus f f same_token (λ k x t. weight k x t) s out covers,
    )

-- ---- held and owed

and_with_true : (b : Bool) → (b && true) ≡ b
and_with_true true = refl
and_with_true false = refl

pub held_one : (o x : Id) (log : ℕ) → count_by (is_held o) (held_token x log ∷ []) ≡ one_if (same_object o x)
held_one o x log = rw (and_with_true (same_object o x)) (omega arith)

pub owed_one : (o x : Id) (log : ℕ) → count_by (is_owed o) (owed_token x log ∷ []) ≡ one_if (same_object o x)
owed_one o x log = rw (and_with_true (same_object o x)) (omega arith)

pub held_none : (o x : Id) (log : ℕ) → count_by (is_held o) (owed_token x log ∷ []) ≡ 0
held_none o x log = rw (and_false (same_object o x)) refl

pub owed_none : (o x : Id) (log : ℕ) → count_by (is_owed o) (held_token x log ∷ []) ≡ 0
owed_none o x log = rw (and_false (same_object o x)) refl
