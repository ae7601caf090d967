-- Loops that write splits.
use Rattle.std.proofs.Common.{ℕ, zero, suc, List, [], ◌∷◌, ◌++◌, ◌≡◌, ◌+◌, ◌-◌, ◌≤◌, ◌<◌, Option, Some, None, length, drop, get_or, append_assoc, append-nil, length-append, add-one, refl, sym, ap, ◌∙◌, arith, subst}
use Rattle.std.specs.Option.{option_map}
use Rattle.std.proofs.lemmas.List.{map-append}
use Rattle.hpx_journal.specs.Data.{Id}
use Rattle.hpx_journal.specs.Laws.{entry_at}
use Rattle.hpx_part.specs.Data.{Entry, Event}
use Rattle.hpx_part.specs.Parts.{at_all}
use Rattle.hpx_commit.specs.Deals.{half, log_of, named, Lasts}
use Rattle.hpx_tables.specs.Splits.{cuts, splits_from}

pub at_all_append : (k : ℕ) (xs ys : List Event) → at_all k (xs ++ ys) ≡ at_all k xs ++ at_all k ys
at_all_append k xs ys = map-append (entry_at k) xs ys

log_half : (log : Option ℕ) → log_of (option_map (λ l. l - 1) log) ≡ log_of log - 1
log_half None = refl
log_half (Some l) = refl

cuts_length : (id : Id) (n : ℕ) → length (cuts id (suc n)) ≡ n
cuts_length id zero = refl
cuts_length id (suc n) = ap suc (cuts_length (half id) n)

-- what a loop over an id keeps, once it was halved i times
pub record IsCutting (here : ℕ) (id : Id) (times i : ℕ) (rest : Id) (old entries : List Entry) (before spare : ℕ) : Type 0 where
  pub entries_so_far : entries ++ at_all here (cuts rest (times - i + 1)) ≡ old ++ at_all here (cuts id (times + 1))
  pub lasts : Lasts rest (times - i + 1)
  pub page : spare + i ≡ before

pub cutting_next : (here : ℕ) (id : Id) (times i : ℕ) (rest : Id) (old entries : List Entry) (before spare : ℕ) (rest' : Id) (entries' : List Entry) (spare' : ℕ)
    → i < times → IsCutting here id times i rest old entries before spare → rest' ≡ half rest
    → entries' ≡ entries ++ at_all here (cuts rest 2) → spare' + 1 ≡ spare
    → IsCutting here id times (i + 1) rest' old entries' before spare'
cutting_next here id times i rest old entries before spare rest' entries' spare' h at is written less =
    let k = times - (i + 1) in
    let now : times - i + 1 ≡ suc (suc (times - (i + 1))) = omega (arith, h) in
    let later : times - (i + 1) + 1 ≡ suc (times - (i + 1)) = omega arith in
    let split : at_all here (cuts rest (times - i + 1)) ≡ at_all here (cuts rest 2) ++ at_all here (cuts (half rest) (suc (times - (i + 1)))) =
    ap (λ n. at_all here (cuts rest n)) now in
    let lasts : Lasts rest (suc (suc (times - (i + 1)))) = subst (Lasts rest) now at.lasts in record {
      entries_so_far = ap (λ n. entries' ++ at_all here (cuts rest' n)) later
          ∙ (ap (λ x. entries' ++ at_all here (cuts x (suc k))) is
          ∙ (ap (λ xs. xs ++ at_all here (cuts (half rest) (suc k))) written
          ∙ (append_assoc entries (at_all here (cuts rest 2)) (at_all here (cuts (half rest) (suc k)))
          ∙ (ap (λ xs. entries ++ xs) (sym split) ∙ at.entries_so_far))));
      lasts = subst (λ x. Lasts x (times - (i + 1) + 1)) (sym is) (omega (arith, lasts, log_half rest.log));
      page = omega (arith, at.page, less);
    }

pub cutting_first : (here : ℕ) (id : Id) (n times : ℕ) (old : List Entry) (before : ℕ) → times ≡ n - 1 → Lasts id n
    → IsCutting here id times 0 id old old before before
cutting_first here id n times old before e lasts = record {
  entries_so_far = ap (λ m. old ++ at_all here (cuts id m)) (the times);
  lasts = omega (arith, e, lasts);
  page = omega arith;
}
  where
    the : (t : ℕ) → t - 0 + 1 ≡ t + 1
    the t = omega arith

-- n namings need as many splits as one less
pub cuts_of : (id : Id) (n times : ℕ) → times ≡ n - 1 → cuts id (times + 1) ≡ cuts id n
cuts_of id zero times e = ap (λ m. cuts id m) (the times e)
  where
    the : (t : ℕ) → t ≡ 0 - 1 → t + 1 ≡ 1
    the t e = omega (arith, e)
cuts_of id (suc n) times e = let same : times + 1 ≡ suc n = omega (arith, e) in ap (λ m. cuts id m) same

pub cuts_long : (id : Id) (n times : ℕ) → times ≡ n - 1 → length (cuts id n) ≡ times
cuts_long id zero times e = omega (arith, e)
cuts_long id (suc n) times e = omega (arith, e, cuts_length id n)

pub cutting_last : (here : ℕ) (id : Id) (n times i : ℕ) (rest : Id) (old entries : List Entry) (before spare : ℕ) → times ≡ n - 1 → times ≤ i
    → IsCutting here id times i rest old entries before spare → entries ≡ old ++ at_all here (cuts id n)
cutting_last here id n times i rest old entries before spare e h at =
    let one : times - i + 1 ≡ 1 = omega (arith, h) in
    sym (append-nil entries)
    ∙ (ap (λ m. entries ++ at_all here (cuts rest m)) (sym one)
    ∙ (at.entries_so_far ∙ ap (λ es. old ++ at_all here es) (cuts_of id n times e)))

-- ---- a hand

-- what a loop over a hand keeps, once the places before i are done
pub record IsSplitting (here : ℕ) (hand : List Id) (places : List ℕ) (i : ℕ) (old entries : List Entry) (before spare : ℕ) : Type 0 where
  pub written : entries ++ at_all here (splits_from i (drop i hand) places) ≡ old ++ at_all here (splits_from 0 hand places)
  pub page : spare + length (splits_from 0 hand places) ≡ before + length (splits_from i (drop i hand) places)

read_suc : {X : Type 0} (xs : List X) (i : ℕ) (x : X) → i < length xs → x ≡ get_or xs i x → drop i xs ≡ x ∷ drop (suc i) xs
read_suc [] i x h e = absurd (omega arith)
read_suc (y ∷ xs) zero x h e = ap (λ z. z ∷ xs) (sym e)
read_suc (y ∷ xs) (suc i) x h e = read_suc xs i x (omega arith) e

pub splitting_next : (here : ℕ) (hand : List Id) (places : List ℕ) (i : ℕ) (id : Id) (old entries entries' : List Entry) (before spare spare' : ℕ)
    → i < length hand → id ≡ get_or hand i id → IsSplitting here hand places i old entries before spare
    → entries' ≡ entries ++ at_all here (cuts id (named places i)) → spare' + length (cuts id (named places i)) ≡ spare
    → IsSplitting here hand places (i + 1) old entries' before spare'
splitting_next here hand places i id old entries entries' before spare spare' h is at written less =
    let now : drop i hand ≡ id ∷ drop (i + 1) hand = rw add-one (read_suc hand i id h is) in
    let split : splits_from i (drop i hand) places ≡ cuts id (named places i) ++ splits_from (i + 1) (drop (i + 1) hand) places =
    ap (λ xs. splits_from i xs places) now in
    let rest = splits_from (i + 1) (drop (i + 1) hand) places in record {
      written = ap (λ xs. xs ++ at_all here rest) written
          ∙ (append_assoc entries (at_all here (cuts id (named places i))) (at_all here rest)
          ∙ (ap (λ xs. entries ++ xs) (sym (ap (at_all here) split ∙ at_all_append here (cuts id (named places i)) rest)) ∙ at.written));
      page = omega (arith, at.page, less, ap (λ es. length es) split, length-append (cuts id (named places i)) rest);
    }
