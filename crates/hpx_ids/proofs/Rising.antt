-- Rising lists of numbers.
use Rattle.std.proofs.Common.{ℕ, List, [], ◌∷◌, ◌++◌, ◌≡◌, ◌+◌, ◌<◌, arith, length, get_or, length-append, subst, inl, inr}
use Rattle.std.specs.List.{Contains}
use Rattle.std.specs.List.Sorted.{IsStrictlyIncreasing}
use Rattle.std.proofs.lemmas.List.{get_or_append_left, get_or_push, get_or_default}
use Rattle.std.proofs.lemmas.List.Elements.{Contains-push_cases, Contains-append_left, Contains-push}
use Rattle.std.proofs.lemmas.Bool.{cases_lt}

-- one more, above all others
pub rising_push : (xs : List ℕ) (x : ℕ) → IsStrictlyIncreasing xs → ((k : ℕ) → Contains xs k → k < x) → IsStrictlyIncreasing (xs ++ x ∷ [])
rising_push xs x rising above = λ k within.
    let size : length (xs ++ x ∷ []) ≡ length xs + 1 = length-append xs (x ∷ []) in
    let here : k < length xs = omega (arith, size) in
    let low : get_or (xs ++ x ∷ []) k 0 ≡ get_or xs k 0 = get_or_append_left xs (x ∷ []) 0 k here in
    elim (cases_lt (k + 1) (length xs)) [
      | inl next ↦
          let high : get_or (xs ++ x ∷ []) (k + 1) 0 ≡ get_or xs (k + 1) 0 = get_or_append_left xs (x ∷ []) 0 (k + 1) next in
          omega (arith, rising k next)
      | inr last ↦
          let high : get_or (xs ++ x ∷ []) (k + 1) 0 ≡ x = get_or_push xs x 0 (k + 1) (omega arith) in
          omega (arith, above (get_or xs k 0) (k, here, get_or_default xs k (get_or xs k 0) 0 here))
    ]

-- the numbers below e of which P holds, rising
pub record Gathers (P : ℕ → Type 0) (keys : List ℕ) (e : ℕ) : Type 0 where
  pub rising : IsStrictlyIncreasing keys
  pub below : (k : ℕ) → Contains keys k → k < e
  pub theirs : (k : ℕ) → Contains keys k → P k
  pub all : (k : ℕ) → k < e → P k → Contains keys k

pub gathers_none : (P : ℕ → Type 0) → Gathers P [] 0
gathers_none P = record {
  rising = λ k within. absurd (omega arith);
  below = λ k there. absurd (omega (arith, there.1));
  theirs = λ k there. absurd (omega (arith, there.1));
  all = λ k within here. absurd (omega arith);
}

pub gathers_yes : (P : ℕ → Type 0) (keys : List ℕ) (e : ℕ) → Gathers P keys e → P e → Gathers P (keys ++ e ∷ []) (e + 1)
gathers_yes P keys e h here = record {
  rising = rising_push keys e h.rising h.below;
  below = λ k there. elim (Contains-push_cases keys e k there) [ inl before ↦ omega (arith, h.below k before) | inr last ↦ omega arith ];
  theirs = λ k there. elim (Contains-push_cases keys e k there) [ inl before ↦ h.theirs k before | inr last ↦ subst P last here ];
  all = λ k within kept. elim (cases_lt k e) [
    | inl before ↦ Contains-append_left keys (e ∷ []) k (h.all k before kept)
    | inr last ↦ let same : e ≡ k = omega arith in subst (Contains (keys ++ e ∷ [])) same (Contains-push keys e)
  ];
}

pub gathers_no : (P : ℕ → Type 0) (keys : List ℕ) (e : ℕ) → Gathers P keys e → ¬ P e → Gathers P keys (e + 1)
gathers_no P keys e h away = record {
  rising = h.rising;
  below = λ k there. omega (arith, h.below k there);
  theirs = h.theirs;
  all = λ k within kept. elim (cases_lt k e) [
    | inl before ↦ h.all k before kept
    | inr last ↦ let same : k ≡ e = omega arith in absurd (away (subst P same kept))
  ];
}
