-- Halves that are taken ahead at many places.
use Rattle.std.proofs.Common.{◌≢◌, ℕ, zero, suc, ◌≡◌, ◌+◌, ◌-◌, ◌<◌, ◌≤◌, ◌⊎◌, Option, Some, None, length, refl, sym, ap, ◌∙◌, arith, inl, inr, subst}
use Rattle.std.specs.Prelude.{is_some}
use Rattle.std.specs.Option.{option_map}
use Rattle.std.proofs.lemmas.Bool.{cases_eq, cases_lt}
use Rattle.hpx_value.specs.Ids.{Id, bare}
use Rattle.hpx_value.specs.Hands.{id_at}
use Rattle.hpx_commit.specs.Deals.{log_of, half, named, AreWithin}
use Rattle.hpx_commit.specs.Stocks.{Stock, take_half, take_halves, halvings, ahead_from, ahead, halved, SameNames, SameDeal, IsSplit, IsAhead}
use Rattle.hpx_commit.proofs.Deals.{log_half}
use Rattle.hpx_commit.proofs.Moved.{half_size, half_at, half_off, half_less, half_new, half_other, half_same}

-- ---- an id that is halved

pub log_halved : (k : ℕ) (id : Id) → log_of (halved k id).log ≡ log_of id.log - k
log_halved zero id = omega arith
log_halved (suc k) id = omega (arith, log_halved k (half id), log_half id.log)

pub bare_halved : (k : ℕ) (id : Id) → bare (halved k id) ≡ bare id
bare_halved zero id = refl
bare_halved (suc k) id = bare_halved k (half id)

pub some_half : (log : Option ℕ) → is_some (option_map (λ l. l - 1) log) ≡ is_some log
some_half None = refl
some_half (Some l) = refl

pub some_halved : (k : ℕ) (id : Id) → is_some (halved k id).log ≡ is_some id.log
some_halved zero id = refl
some_halved (suc k) id = some_halved k (half id) ∙ some_half id.log

-- ---- what is kept, and what follows

pub names_stay : (s : Stock) → AreWithin s.hand s.places → SameNames s s
names_stay s within = record { within = within; as_many = refl; names = refl; left = refl }

pub names_then : (s t u : Stock) → SameNames s t → SameNames t u → SameNames s u
names_then s t u a b = record {
  within = b.within;
  as_many = b.as_many ∙ a.as_many;
  names = b.names ∙ a.names;
  left = b.left ∙ a.left;
}

pub deal_stays : (s : Stock) → AreWithin s.hand s.places → SameDeal s s
deal_stays s within = record { objects = names_stay s within; deals = refl }

pub deal_then : (s t u : Stock) → SameDeal s t → SameDeal t u → SameDeal s u
deal_then s t u a b = record { objects = names_then s t u a.objects b.objects; deals = b.deals ∙ a.deals }

pub split_stays : (p : ℕ) (s : Stock) → IsSplit 0 p s s
split_stays p s = record { part = refl; others = omega arith }

split_then : (k p : ℕ) (s t u : Stock) → IsSplit k p s t → IsSplit 0 p t u → IsSplit k p s u
split_then k p s t u a b = record {
  part = b.part ∙ a.part;
  others = omega (arith, a.others, b.others);
}

split_after : (k p : ℕ) (s t u : Stock) → IsSplit 0 p s t → IsSplit k p t u → IsSplit k p s u
split_after k p s t u a b = record {
  part = b.part ∙ ap (halved k) a.part;
  others = omega (arith, a.others, b.others);
}

-- ---- halves at one place

pub record IsHalved (k p : ℕ) (s t : Stock) : Type 0 where
  pub size : length t.hand ≡ length s.hand + k
  pub split : IsSplit k p s t
  pub rest : (q : ℕ) → q ≢ p → q < length s.hand → IsSplit 0 q s t
  pub halves : (q : ℕ) → length s.hand ≤ q → q < length t.hand → named t.places q ≡ 1
  pub same : SameDeal s t

pub halves_taken : (k p : ℕ) (s : Stock) → p < length s.hand → AreWithin s.hand s.places → k ≤ named s.places p - 1 → IsHalved k p s (take_halves k p s)
halves_taken zero p s here within more = record {
  size = omega arith;
  split = split_stays p s;
  rest = λ q d lt. split_stays q s;
  halves = λ q le lt. absurd (omega (arith, le, lt));
  same = deal_stays s within;
}
halves_taken (suc k) p s here within more =
    let two : 2 ≤ named s.places p = omega (arith, more) in
    let t = take_half p s in
    let size : length (take_half p s).hand ≡ length s.hand + 1 = half_size s p here in
    let same : SameDeal s (take_half p s) = half_same s p here within two in
    let less : named (take_half p s).places p + 1 ≡ named s.places p = half_less s p here within two in
    let then : IsHalved k p (take_half p s) (take_halves k p (take_half p s)) =
    halves_taken k p (take_half p s) (omega (arith, here, size)) same.objects.within (omega (arith, more, less)) in record {
      size = omega (arith, size, then.size);
      split = record {
        part = then.split.part ∙ ap (halved k) (half_at s p here);
        others = omega (arith, then.split.others, less);
      };
      rest = λ q d lt. split_then 0 q s (take_half p s) (take_halves k p (take_half p s))
          (record { part = half_off s p here q d lt; others = omega (arith, half_other s p here within two q d lt) })
          (then.rest q d (omega (arith, lt, size)));
      halves = λ q le lt. elim (cases_eq q (length s.hand)) [
        | inl e ↦
            let now = then.rest (length s.hand) (λ i. absurd (omega (arith, i, here))) (omega (arith, size)) in
            subst (λ n. named (take_halves k p (take_half p s)).places n ≡ 1) (sym e) (omega (arith, now.others, half_new s p here within two))
        | inr d ↦ then.halves q (omega (arith, le, d, size)) lt
      ];
      same = deal_then s (take_half p s) (take_halves k p (take_half p s)) same then.same;
    }

-- ---- halves at many places

record IsAheadFrom (k p : ℕ) (s t : Stock) : Type 0 where
  longer : length s.hand ≤ length t.hand
  first : (q : ℕ) → p ≤ q → q < p + k → IsSplit (halvings (id_at s.hand q) (named s.places q)) q s t
  rest : (q : ℕ) → (q < p) ⊎ (p + k ≤ q) → q < length s.hand → IsSplit 0 q s t
  halves : (q : ℕ) → length s.hand ≤ q → q < length t.hand → named t.places q ≡ 1
  same : SameDeal s t

pub halvings_need : (id : Id) (n : ℕ) → halvings id n ≤ n - 1
halvings_need id n = omega arith

pub halvings_have : (id : Id) (n : ℕ) → halvings id n ≤ log_of id.log
halvings_have id n = omega arith

pub unmoved : (n m : ℕ) → n + 0 ≡ m → n ≡ m
unmoved n m e = omega (arith, e)

pub halvings_same : (x y : Id) (n m : ℕ) → x ≡ y → n ≡ m → halvings x n ≡ halvings y m
halvings_same x y n m e f = ap (λ z. halvings z n) e ∙ ap (halvings y) f

ahead_is_from : (k p : ℕ) (s : Stock) → p + k ≤ length s.hand → AreWithin s.hand s.places → IsAheadFrom k p s (ahead_from k p s)
ahead_is_from zero p s fits within = record {
  longer = omega arith;
  first = λ q le lt. absurd (omega (arith, le, lt));
  rest = λ q out lt. split_stays q s;
  halves = λ q le lt. absurd (omega (arith, le, lt));
  same = deal_stays s within;
}
ahead_is_from (suc k) p s fits within =
    let h = halvings (id_at s.hand p) (named s.places p) in
    let t = take_halves (halvings (id_at s.hand p) (named s.places p)) p s in
    let u = ahead_from k (p + 1) (take_halves (halvings (id_at s.hand p) (named s.places p)) p s) in
    let one : IsHalved (halvings (id_at s.hand p) (named s.places p)) p s (take_halves (halvings (id_at s.hand p) (named s.places p)) p s) =
    halves_taken h p s (omega (arith, fits)) within (halvings_need (id_at s.hand p) (named s.places p)) in
    let then : IsAheadFrom k (p + 1) (take_halves (halvings (id_at s.hand p) (named s.places p)) p s)
    (ahead_from k (p + 1) (take_halves (halvings (id_at s.hand p) (named s.places p)) p s)) =
    ahead_is_from k (p + 1) t (omega (arith, fits, one.size)) one.same.objects.within in record {
      longer = omega (arith, one.size, then.longer);
      first = λ q le lt. elim (cases_eq q p) [
        | inl e ↦
            subst (λ r. IsSplit (halvings (id_at s.hand r) (named s.places r)) r s u) (sym e)
            (split_then h p s t u one.split (then.rest p (inl (omega arith)) (omega (arith, fits, one.size))))
        | inr d ↦
            let stays = one.rest q d (omega (arith, lt, fits)) in
            let next = then.first q (omega (arith, le, d)) (omega (arith, lt)) in
            subst (λ n. IsSplit n q s u)
            (halvings_same (id_at t.hand q) (id_at s.hand q) (named t.places q) (named s.places q) stays.part (unmoved (named t.places q) (named s.places q) stays.others))
            (split_after (halvings (id_at t.hand q) (named t.places q)) q s t u stays next)
      ];
      rest = λ q out lt.
          let d : q ≢ p = λ e. elim out [ inl low ↦ absurd (omega (arith, e, low)) | inr high ↦ absurd (omega (arith, e, high)) ] in
          let o : (q < p + 1) ⊎ (p + 1 + k ≤ q) = elim out [ inl low ↦ inl (omega (arith, low)) | inr high ↦ inr (omega (arith, high)) ] in
          split_then 0 q s t u (one.rest q d lt) (then.rest q o (omega (arith, lt, one.size)));
      halves = λ q le lt. elim (cases_lt q (length t.hand)) [
        | inl old ↦ omega (arith, one.halves q le old, (then.rest q (inr (omega (arith, le, fits))) old).others)
        | inr new ↦ then.halves q new lt
      ];
      same = deal_then s t u one.same then.same;
    }

module _ (n : ℕ) (s : Stock) (fits : n ≤ length s.hand) (within : AreWithin s.hand s.places) where
  all : IsAheadFrom n 0 s (ahead_from n 0 s)
  all = ahead_is_from n 0 s (omega (arith, fits)) within

  pub ahead_same : SameDeal s (ahead n s)
  ahead_same = all.same

  pub ahead_is : IsAhead n s (ahead n s)
  ahead_is = record {
    longer = all.longer;
    first = λ p lt. all.first p (omega arith) (omega (arith, lt));
    rest = λ p le lt. all.rest p (inr (omega (arith, le))) lt;
    halves = λ p le lt. all.halves p le lt;
  }
