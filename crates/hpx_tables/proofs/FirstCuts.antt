-- The splits of the first ids of a hand, written one id after another.
use Rattle.std.proofs.Common.{ℕ, zero, suc, List, [], ◌∷◌, ◌++◌, ◌≡◌, ◌+◌, ◌-◌, ◌≤◌, ◌<◌, drop, get_or, length, length-append, append_assoc, append-nil, refl, sym, ap, ◌∙◌, arith}
use Rattle.hpx_journal.specs.Data.{Id}
use Rattle.hpx_part.specs.Data.{Event, Entry}
use Rattle.hpx_part.specs.Parts.{at_all}
use Rattle.hpx_commit.specs.Deals.{named, Lasts}
use Rattle.hpx_commit.specs.Stocks.{halvings}
use Rattle.hpx_commit.proofs.Ahead.{halvings_have, halvings_need}
use Rattle.hpx_tables.specs.Splits.{first_cuts, cuts, splits_from}
use Rattle.hpx_tables.proofs.Cutting.{at_all_append, cuts_long}

pub plus_one : (n : ℕ) → suc n ≡ n + 1
plus_one n = omega arith

-- what is written, and what is still to be
pub record IsCuttingFirst (here own : ℕ) (hand : List Id) (places : List ℕ) (p : ℕ) (before now : List Entry) (first spare : ℕ) : Type 0 where
  pub written : now ++ at_all here (first_cuts (own - p) p (drop p hand) places) ≡ before ++ at_all here (first_cuts own 0 hand places)
  pub page : length (first_cuts (own - p) p (drop p hand) places) ≤ spare
  pub used : spare + length (first_cuts own 0 hand places) ≡ first + length (first_cuts (own - p) p (drop p hand) places)

pub drop_at : (xs : List Id) (p : ℕ) (d : Id) → p < length xs → drop p xs ≡ get_or xs p d ∷ drop (suc p) xs
drop_at [] p d lt = absurd (omega (arith, lt))
drop_at (x ∷ xs) zero d lt = refl
drop_at (x ∷ xs) (suc p) d lt = drop_at xs p d (omega (arith, lt))

step : (own : ℕ) (hand : List Id) (places : List ℕ) (p : ℕ) (id : Id) → p < own → own ≤ length hand → id ≡ get_or hand p id
    → first_cuts (own - p) p (drop p hand) places
    ≡ cuts id (halvings id (named places p) + 1) ++ first_cuts (own - (p + 1)) (p + 1) (drop (p + 1) hand) places
step own hand places p id lt le is =
    let here : drop p hand ≡ id ∷ drop (suc p) hand = drop_at hand p id (omega (arith, lt, le)) ∙ ap (λ x. x ∷ drop (suc p) hand) (sym is) in
    let many : own - p ≡ suc (own - (p + 1)) = omega (arith, lt) in
    ap (λ xs. first_cuts (own - p) p xs places) here
    ∙ (ap (λ k. first_cuts k p (id ∷ drop (suc p) hand) places) many
    ∙ (ap (λ k. cuts id k ++ first_cuts (own - (p + 1)) (p + 1) (drop (suc p) hand) places) (plus_one (halvings id (named places p)))
    ∙ ap (λ k. cuts id (halvings id (named places p) + 1) ++ first_cuts (own - (p + 1)) (p + 1) (drop k hand) places) (plus_one p)))

pub first_none : (here own : ℕ) (hand : List Id) (places : List ℕ) (before : List Entry) (spare : ℕ) → length (first_cuts own 0 hand places) ≤ spare
    → IsCuttingFirst here own hand places 0 before before spare spare
first_none here own hand places before spare le =
    let same : first_cuts (own - 0) 0 (drop 0 hand) places ≡ first_cuts own 0 hand places = ap (λ k. first_cuts k 0 hand places) (omega arith) in record {
      written = ap (λ es. before ++ at_all here es) same;
      page = omega (arith, le, ap (λ (es : List Event). length es) same);
      used = omega (arith, ap (λ (es : List Event). length es) same);
    }

module _ (here own : ℕ) (hand : List Id) (places : List ℕ) (p : ℕ) (id : Id) (before now then : List Entry) (first spare left : ℕ) (lt : p < own) (le : own ≤ length hand)
    (is : id ≡ get_or hand p id) (h : IsCuttingFirst here own hand places p before now first spare) where
  pub one_lasts : Lasts id (halvings id (named places p) + 1)
  one_lasts = omega (arith, halvings_have id (named places p))

  pub one_page : length (cuts id (halvings id (named places p) + 1)) ≤ spare
  one_page = omega (
    arith,
    h.page,
    ap (λ (es : List Event). length es) (step own hand places p id lt le is),
    length-append (cuts id (halvings id (named places p) + 1)) (first_cuts (own - (p + 1)) (p + 1) (drop (p + 1) hand) places),
  )

  pub first_next : then ≡ now ++ at_all here (cuts id (halvings id (named places p) + 1))
      → left + length (cuts id (halvings id (named places p) + 1)) ≡ spare → IsCuttingFirst here own hand places (p + 1) before then first left
  first_next grows page =
      let rest = first_cuts (own - (p + 1)) (p + 1) (drop (p + 1) hand) places in
      let one = cuts id (halvings id (named places p) + 1) in record {
        written = ap (λ es. es ++ at_all here rest) grows
            ∙ (append_assoc now (at_all here one) (at_all here rest)
            ∙ (ap (λ es. now ++ es) (sym (at_all_append here one rest))
            ∙ (ap (λ es. now ++ at_all here es) (sym (step own hand places p id lt le is)) ∙ h.written)));
        page = omega (
          arith,
          page,
          h.page,
          ap (λ (es : List Event). length es) (step own hand places p id lt le is),
          length-append (cuts id (halvings id (named places p) + 1)) (first_cuts (own - (p + 1)) (p + 1) (drop (p + 1) hand) places),
        );
        used = omega (
          arith,
          page,
          h.used,
          ap (λ (es : List Event). length es) (step own hand places p id lt le is),
          length-append (cuts id (halvings id (named places p) + 1)) (first_cuts (own - (p + 1)) (p + 1) (drop (p + 1) hand) places),
        );
      }

pub first_last : (here own : ℕ) (hand : List Id) (places : List ℕ) (p : ℕ) (before now : List Entry) (first spare : ℕ) → own ≤ p
    → IsCuttingFirst here own hand places p before now first spare → now ≡ before ++ at_all here (first_cuts own 0 hand places)
first_last here own hand places p before now first spare le h =
    let none : own - p ≡ 0 = omega (arith, le) in
    sym (append-nil now) ∙ (ap (λ k. now ++ at_all here (first_cuts k p (drop p hand) places)) (sym none) ∙ h.written)

pub first_page : (here own : ℕ) (hand : List Id) (places : List ℕ) (p : ℕ) (before now : List Entry) (first spare : ℕ) → own ≤ p
    → IsCuttingFirst here own hand places p before now first spare → spare + length (first_cuts own 0 hand places) ≡ first
first_page here own hand places p before now first spare le h =
    let none : own - p ≡ 0 = omega (arith, le) in
    omega (arith, h.used, ap (λ k. length (first_cuts k p (drop p hand) places)) none)

-- there are no more of them than splits of a commit
pub first_few : (k p : ℕ) (xs ys : List Id) (places : List ℕ) → length xs ≡ length ys
    → length (first_cuts k p xs places) ≤ length (splits_from p ys places)
first_few zero p xs ys places e = omega arith
first_few (suc k) p [] ys places e = omega arith
first_few (suc k) p (x ∷ xs) [] places e = absurd (omega (arith, e))
first_few (suc k) p (x ∷ xs) (y ∷ ys) places e = omega (
  arith,
  first_few k (p + 1) xs ys places (omega (arith, e)),
  length-append (cuts x (suc (halvings x (named places p)))) (first_cuts k (p + 1) xs places),
  length-append (cuts y (named places p)) (splits_from (p + 1) ys places),
  long x (halvings x (named places p)),
  many y (named places p),
  halvings_need x (named places p),
)
  where
    long : (id : Id) (n : ℕ) → length (cuts id (suc n)) ≡ n
    long id n = cuts_long id (suc n) n (omega arith)

    many : (id : Id) (n : ℕ) → length (cuts id n) ≡ n - 1
    many id n = cuts_long id n (n - 1) refl
