-- Slots that are taken from those that are awaited, and the answers that take them.
use Rattle.std.proofs.Common.{ℕ, zero, suc, List, [], ◌∷◌, ◌++◌, ◌≡◌, ◌≢◌, ◌+◌, ◌*◌, ◌≤◌, Some, refl, sym, ap, ◌∙◌, subst, inl, inr, ◌⊎◌, length, take, drop, arith}
use Rattle.std.proofs.lemmas.Bool.{ne_eqb, eq-eqb}
use Rattle.hpx_value.specs.Ids.{Id}
use Rattle.hpx_value.specs.declared.value.Message.{Message}
use Rattle.hpx_calls.specs.Values.{Value, plain}
use Rattle.app_console.specs.Types.{Naming, What, Await}
use Rattle.app_console.specs.Desks.{held_at, erased, answered}
use Rattle.app_console.proofs.Alikes.{IsPlainWhat}
use Rattle.app_console.proofs.Comings.{times, says, set_of, held_erased, erased_length, Absent, plain_answered, Coming}
use Rattle.app_console.proofs.Fit.{Among, Distinct}

-- each slot is answered the same
abbrev pub all_set : List ℕ → Value Id → List Message
all_set [] v = []
all_set (x ∷ xs) v = set_of x v ∷ all_set xs v

pub among_take : (n k : ℕ) (xs : List ℕ) → Among k (take n xs) → Among k xs
among_take zero k [] h = absurd h
among_take zero k (x ∷ xs) h = absurd h
among_take (suc n) k [] h = absurd h
among_take (suc n) k (x ∷ xs) (inl e) = inl e
among_take (suc n) k (x ∷ xs) (inr h) = inr (among_take n k xs h)

pub among_drop : (n k : ℕ) (xs : List ℕ) → Among k (drop n xs) → Among k xs
among_drop zero k [] h = absurd h
among_drop zero k (x ∷ xs) h = h
among_drop (suc n) k [] h = absurd h
among_drop (suc n) k (x ∷ xs) h = inr (among_drop n k xs h)

pub distinct_take : (n : ℕ) (xs : List ℕ) → Distinct xs → Distinct (take n xs)
distinct_take zero [] h = tt
distinct_take zero (x ∷ xs) h = tt
distinct_take (suc n) [] h = tt
distinct_take (suc n) (x ∷ xs) h = ((λ m. h.0 (among_take n x xs m)), distinct_take n xs h.1)

pub distinct_drop : (n : ℕ) (xs : List ℕ) → Distinct xs → Distinct (drop n xs)
distinct_drop zero [] h = tt
distinct_drop zero (x ∷ xs) h = h
distinct_drop (suc n) [] h = tt
distinct_drop (suc n) (x ∷ xs) h = distinct_drop n xs h.1

pub parted : (n k : ℕ) (xs : List ℕ) → Distinct xs → Among k (take n xs) → Among k (drop n xs) → ⊥
parted zero k [] h a b = a
parted zero k (x ∷ xs) h a b = a
parted (suc n) k [] h a b = a
parted (suc n) k (x ∷ xs) h (inl e) b = h.0 (subst (λ z. Among z xs) e (among_drop n k xs b))
parted (suc n) k (x ∷ xs) h (inr a) b = parted n k xs h.1 a b

pub among_end : (k d : ℕ) (xs : List ℕ) → Among k (xs ++ d ∷ []) → Among k xs ⊎ (k ≡ d)
among_end k d [] (inl e) = inr e
among_end k d [] (inr h) = absurd h
among_end k d (x ∷ xs) (inl e) = inl (inl e)
among_end k d (x ∷ xs) (inr h) = elim (among_end k d xs h) [ inl a ↦ inl (inr a) | inr e ↦ inr e ]

pub distinct_end : (d : ℕ) (xs : List ℕ) → (Among d xs → ⊥) → Distinct xs → Distinct (xs ++ d ∷ [])
distinct_end d [] n h = ((λ m. m), tt)
distinct_end d (x ∷ xs) n h = (
  (λ m. elim (among_end x d xs m) [ inl a ↦ h.0 a | inr e ↦ n (inl (sym e)) ]),
  distinct_end d xs (λ m. n (inr m)) h.1,
)

pub length_end : (d : ℕ) (xs : List ℕ) → length (xs ++ d ∷ []) ≡ length xs + 1
length_end d [] = refl
length_end d (x ∷ xs) = let e = length_end d xs in omega (arith, e)

-- ---- slots taken

unfoldable pub erased_all : List ℕ → List Await → List Await
erased_all [] aw = aw
erased_all (x ∷ xs) aw = erased_all xs (erased x aw)

abbrev pub AreHeld : List Await → What → List ℕ → Type 0
AreHeld aw w xs = (k : ℕ) → Among k xs → held_at k aw ≡ Some w

held_less : (aw : List Await) (w : What) (x : ℕ) (xs : List ℕ) → Distinct (x ∷ xs) → AreHeld aw w (x ∷ xs) → AreHeld (erased x aw) w xs
held_less aw w x xs h a k m = held_erased k x aw (λ e. h.0 (subst (λ z. Among z xs) e m)) ∙ a k (inr m)

pub held_all : (k : ℕ) (xs : List ℕ) (aw : List Await) → (Among k xs → ⊥) → held_at k (erased_all xs aw) ≡ held_at k aw
unfolding erased_all
held_all k [] aw n = refl
held_all k (x ∷ xs) aw n = held_all k xs (erased x aw) (λ m. n (inr m)) ∙ held_erased k x aw (λ e. n (inl e))

pub length_all : (w : What) (xs : List ℕ) (aw : List Await) → Distinct xs → AreHeld aw w xs → length aw ≡ length xs + length (erased_all xs aw)
unfolding erased_all
length_all w [] aw h a = omega arith
length_all w (x ∷ xs) aw h a =
    let e = erased_length x aw w (a x (inl refl)) in
    let f = length_all w xs (erased x aw) h.1 (held_less aw w x xs h a) in omega (arith, e, f)

-- ---- the answers to them, and then one more

absent_all : (k d : ℕ) (v u : Value Id) (xs : List ℕ) → (Among k xs → ⊥) → k ≢ d → Absent k (all_set xs v ++ set_of d u ∷ [])
absent_all k d v u [] n h = (h, tt)
absent_all k d v u (x ∷ xs) n h = ((λ e. n (inl e)), absent_all k d v u xs (λ m. n (inr m)) h)

abbrev pub await : ℕ → What → Await
await d w = record { slot = d; what = w }

pub held_past : (k d : ℕ) (wd : What) (aw : List Await) → k ≢ d → held_at k (await d wd ∷ aw) ≡ held_at k aw
held_past k d wd aw h = rw (ne_eqb k d h) refl

erased_past : (k d : ℕ) (wd : What) (aw : List Await) → k ≢ d → erased k (await d wd ∷ aw) ≡ await d wd ∷ erased k aw
erased_past k d wd aw h = rw (ne_eqb k d h) refl

pub held_here : (d : ℕ) (wd : What) (aw : List Await) → held_at d (await d wd ∷ aw) ≡ Some wd
held_here d wd aw = rw (eq-eqb d d refl) refl

erased_here : (d : ℕ) (wd : What) (aw : List Await) → erased d (await d wd ∷ aw) ≡ aw
erased_here d wd aw = rw (eq-eqb d d refl) refl

module _ (t : List ℕ) (N : List (Naming (Value Id))) (A : List Await) (ns : List (Naming (Value Id))) (d : ℕ) (wd : What) (u : Value Id) (b : ℕ)
    (own : says wd u ≡ times b t) (end : answered (plain Id) wd u ns ≡ N) (now_short : length ns ≤ 100) (then_short : length N ≤ 100) where
  pub last_coming : (aw : List Await) → aw ≡ A → Coming t N A ns (await d wd ∷ aw) (set_of d u ∷ []) b
  last_coming aw e = (
    record {
      slot = d;
      value = u;
      what = wd;
      count = b;
      rest = 0;
      message = refl;
      held = held_here d wd aw;
      text = own;
      adds = omega arith;
      plainly = inr refl;
      absent = tt;
      short = subst (λ z. length z ≤ 100) (sym end) then_short;
    },
    (refl, end, erased_here d wd aw ∙ e),
  )

  pub all_coming : (w : What) (v : Value Id) (j : ℕ) → IsPlainWhat w → says w v ≡ times j t → (xs : List ℕ) (aw : List Await) → Distinct xs → AreHeld aw w xs
      → ((k : ℕ) → Among k xs → k ≢ d) → erased_all xs aw ≡ A
      → Coming t N A ns (await d wd ∷ aw) (all_set xs v ++ set_of d u ∷ []) (length xs * j + b)
  unfolding erased_all
  all_coming w v j p s [] aw h a n e = let z : b ≡ 0 * j + b = omega arith in subst (Coming t N A ns (await d wd ∷ aw) (set_of d u ∷ [])) z (last_coming aw e)
  all_coming w v j p s (x ∷ xs) aw h a n e = (
    record {
      slot = x;
      value = v;
      what = w;
      count = j;
      rest = length xs * j + b;
      message = refl;
      held = held_past x d wd aw (n x (inl refl)) ∙ a x (inl refl);
      text = s;
      adds = omega arith;
      plainly = inl p;
      absent = absent_all x d v u xs h.0 (n x (inl refl));
      short = subst (λ z. length z ≤ 100) (sym (plain_answered w v ns p)) now_short;
    },
    subst (λ z. Coming t N A z (erased x (await d wd ∷ aw)) (all_set xs v ++ set_of d u ∷ []) (length xs * j + b)) (sym (plain_answered w v ns p))
        (subst (λ z. Coming t N A ns z (all_set xs v ++ set_of d u ∷ []) (length xs * j + b)) (sym (erased_past x d wd aw (n x (inl refl))))
        (all_coming w v j p s xs (erased x aw) h.1 (held_less aw w x xs h a) (λ k m. n k (inr m)) e)),
  )

pub times_add : {X : Type 0} (i j : ℕ) (x : X) → times i x ++ times j x ≡ times (i + j) x
times_add zero j x = let e : j ≡ 0 + j = omega arith in ap (λ k. times k x) e
times_add (suc i) j x =
    let e : suc (i + j) ≡ suc i + j = omega arith in ap (λ ys. x ∷ ys) (times_add i j x) ∙ ap (λ k. times k x) e
