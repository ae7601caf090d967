-- Fronts of a journal, their parts, and how many frames they send and accept.
use Rattle.std.proofs.Common.{Bool, true, false, ℕ, zero, suc, List, [], ◌∷◌, ◌++◌, ◌≡◌, ◌+◌, ◌<◌, ◌≤◌, refl, sym, ap, ◌∙◌, subst, arith, inl, inr, length, take, drop}
use Rattle.std.specs.List.{AllByRecursion}
use Rattle.std.proofs.lemmas.List.{take-append-drop, length-append}
use Rattle.std.proofs.lemmas.List.Sums.{sum_by-cons}
use Rattle.std.proofs.Math.Seq.{take-append_seam, drop-append_seam}
use Rattle.std.proofs.lemmas.Bool.{cases_eq}
use Rattle.hpx_journal.specs.Bags.{total}
use Rattle.hpx_journal.specs.declared.entry.Event.{Event}
use Rattle.hpx_journal.specs.declared.entry.Event.TheVariants.{Line, In, Out}
use Rattle.hpx_journal.specs.declared.entry.Entry.{Entry}
use Rattle.hpx_journal.specs.Whole.{part, arrives_at}
use Rattle.hpx_journal.specs.Laws.{outs, ins, outs_by, count_events}
use Rattle.hpx_journal.specs.Sessions.{FeedsNothing}
use Rattle.hpx_journal.proofs.Bags.{total-same, total-le}
use Rattle.hpx_journal.proofs.Keys.{one_if}
use Rattle.hpx_journal.proofs.Grow.{part_append}
use Rattle.hpx_journal.proofs.Failures.{AreBelow, count_parts}
use Rattle.hpx_ended.specs.Waves.{Wakes, BeginsAwake}

-- ---- fronts

pub take_take : {X : Type 0} (i j : ℕ) (xs : List X) → i ≤ j → take i (take j xs) ≡ take i xs
take_take zero j xs h = refl
take_take (suc i) zero xs h = absurd (omega arith)
take_take (suc i) (suc j) [] h = refl
take_take (suc i) (suc j) (x ∷ xs) h = ap (λ ys. x ∷ ys) (take_take i j xs (omega arith))

-- a longer front is a shorter one with more behind it
pub take_more : {X : Type 0} (i j : ℕ) (xs : List X) → i ≤ j → take j xs ≡ take i xs ++ drop i (take j xs)
take_more i j xs h = sym (take-append-drop i (take j xs)) ∙ ap (λ ys. ys ++ drop i (take j xs)) (take_take i j xs h)

-- what is behind a front is the rest of a longer one, and what is behind that
pub drop_more : {X : Type 0} (i j : ℕ) (xs : List X) → i ≤ j → drop i xs ≡ drop i (take j xs) ++ drop j xs
drop_more zero j xs h = sym (take-append-drop j xs)
drop_more (suc i) zero xs h = absurd (omega arith)
drop_more (suc i) (suc j) [] h = refl
drop_more (suc i) (suc j) (x ∷ xs) h = drop_more i j xs (omega arith)

module _ (k : ℕ) (es : List Entry) where
  part_halves : (i : ℕ) → part k es ≡ part k (take i es) ++ part k (drop i es)
  part_halves i = ap (part k) (sym (take-append-drop i es)) ∙ part_append k (take i es) (drop i es)

  -- the part of a front is a front of the part
  pub part_take : (i : ℕ) → take (length (part k (take i es))) (part k es) ≡ part k (take i es)
  part_take i =
      ap (take (length (part k (take i es)))) (part_halves i) ∙ take-append_seam (part k (take i es)) (part k (drop i es))

  pub part_drop : (i : ℕ) → drop (length (part k (take i es))) (part k es) ≡ part k (drop i es)
  part_drop i =
      ap (drop (length (part k (take i es)))) (part_halves i) ∙ drop-append_seam (part k (take i es)) (part k (drop i es))

  -- the part of a longer front has this much more
  pub part_more : (i j : ℕ) → i ≤ j → part k (take j es) ≡ part k (take i es) ++ part k (drop i (take j es))
  part_more i j h = ap (part k) (take_more i j es h) ∙ part_append k (take i es) (drop i (take j es))

  pub part_behind : (i j : ℕ) → i ≤ j → part k (drop i es) ≡ part k (drop i (take j es)) ++ part k (drop j es)
  part_behind i j h = ap (part k) (drop_more i j es h) ∙ part_append k (drop i (take j es)) (drop j es)

-- ---- how many are sent and accepted

abbrev pub is_out : Event → Bool
is_out (Out to bytes) = true
is_out _ = false

abbrev pub is_in : Event → Bool
is_in (In bytes) = true
is_in _ = false

length_out : (k : ℕ) (e : Event) → length (outs_by k e) ≡ one_if (is_out e)
length_out k (Out to bytes) = refl
length_out k _ = refl

length_in : (k : ℕ) (e : Event) → length (arrives_at k e) ≡ one_if (is_in e)
length_in k (In bytes) = refl
length_in k _ = refl

pub length_outs : (es : List Entry) → length (outs es) ≡ count_events is_out es
length_outs [] = refl
length_outs (e ∷ es) =
    omega (arith, length-append (outs_by e.at e.event) (outs es), length_out e.at e.event, length_outs es, sum_by-cons (λ x. one_if (is_out x.event)) e es)

pub length_ins : (es : List Entry) → length (ins es) ≡ count_events is_in es
length_ins [] = refl
length_ins (e ∷ es) =
    omega (arith, length-append (arrives_at e.at e.event) (ins es), length_in e.at e.event, length_ins es, sum_by-cons (λ x. one_if (is_in x.event)) e es)

pub ins_append : (xs ys : List Entry) → length (ins (xs ++ ys)) ≡ length (ins xs) + length (ins ys)
ins_append [] ys = omega arith
ins_append (e ∷ es) ys =
    omega (arith, length-append (arrives_at e.at e.event) (ins es), length-append (arrives_at e.at e.event) (ins (es ++ ys)), ins_append es ys)

pub outs_append : (xs ys : List Entry) → length (outs (xs ++ ys)) ≡ length (outs xs) + length (outs ys)
outs_append [] ys = omega arith
outs_append (e ∷ es) ys =
    omega (arith, length-append (outs_by e.at e.event) (outs es), length-append (outs_by e.at e.event) (outs (es ++ ys)), outs_append es ys)

-- the parts send and accept what the whole does
module _ (n : ℕ) (es : List Entry) (below : AreBelow n es) where
  pub ins_parts : total n (λ k. length (ins (part k es))) ≡ length (ins es)
  ins_parts =
      let a : total n (λ k. length (ins (part k es))) ≡ total n (λ k. count_events is_in (part k es)) =
      total-same n (λ k. length (ins (part k es))) (λ k. count_events is_in (part k es)) (λ k h. length_ins (part k es)) in
      omega (arith, a, count_parts is_in n es below, length_ins es)

  pub outs_parts : total n (λ k. length (outs (part k es))) ≡ length (outs es)
  outs_parts =
      let a : total n (λ k. length (outs (part k es))) ≡ total n (λ k. count_events is_out (part k es)) =
      total-same n (λ k. length (outs (part k es))) (λ k. count_events is_out (part k es)) (λ k h. length_outs (part k es)) in
      omega (arith, a, count_parts is_out n es below, length_outs es)

-- ---- sums that are equal where each term is at most the other

pub total-squeeze : (n : ℕ) (f g : ℕ → ℕ) → ((k : ℕ) → k < n → f k ≤ g k) → total n g ≤ total n f → (k : ℕ) → k < n → g k ≤ f k
total-squeeze zero f g h same k i = absurd (omega arith)
total-squeeze (suc n) f g h same k i =
    let le : total n f ≤ total n g = total-le n f g (λ j l. h j (omega arith)) in
    elim (cases_eq k n) [
      | inl t ↦ subst (λ (j : ℕ). g j ≤ f j) (sym t) (omega arith)
      | inr d ↦ total-squeeze n f g (λ j l. h j (omega arith)) (omega (arith, h n (omega arith))) k (omega arith)
    ]

-- ---- where no line is fed and no frame comes, what is at rest writes nothing

pub stays_asleep : (es later : List Entry) → BeginsAwake (es ++ later) → AllByRecursion (λ e. FeedsNothing e.event) es
    → length (ins es) ≡ 0 → es ≡ []
stays_asleep [] later next lines none = refl
stays_asleep (e ∷ es) later next lines none =
    absurd (asleep e.at e.event next lines.0 (omega (arith, length-append (arrives_at e.at e.event) (ins es))))
  where
    asleep : (k : ℕ) (e : Event) → Wakes e → FeedsNothing e → length (arrives_at k e) ≡ 0 → ⊥
    asleep k (Line a bytes) w f h = f
    asleep k (In bytes) w f h = absurd (omega arith)
    asleep k _ w f h = w
