-- Answers that are to come at the session, each to a slot of its own: whichever comes first, the rest come as before.
use Rattle.std.specs.Prelude.{pos, ◌==◌}
use Rattle.std.proofs.Common.{ℕ, zero, suc, true, false, cond, List, [], ◌∷◌, ◌++◌, ◌≡◌, ◌≢◌, ◌+◌, ◌≤◌, Some, None, refl, sym, ap, ◌∙◌, subst, inl, inr, ◌⊎◌, length, arith}
use Rattle.std.proofs.lemmas.Bool.{cases_Bool, eqb-true, ne_eqb}
use Rattle.hpx_value.specs.Ids.{Id}
use Rattle.hpx_value.specs.Hands.{session}
use Rattle.hpx_value.specs.declared.value.Message.{Message}
use Rattle.hpx_calls.specs.Values.{Value, Int, plain}
use Rattle.hpx_calls.specs.Ids.{numbered, ids_in}
use Rattle.app_console.specs.Types.{Spelled, SpelledInt, Naming, What, NotSaid, Told, Released, Bound, Await}
use Rattle.app_console.specs.Commands.{answer_text}
use Rattle.app_console.specs.Desks.{held_at, erased, answered}
use Rattle.app_console.specs.Session.{printed}
use Rattle.app_console.proofs.Alikes.{IsPlainWhat}

abbrev pub times : {X : Type 0} → ℕ → X → List X
times zero x = []
times (suc n) x = x ∷ times n x

-- the texts that an answer prints: none, or one
abbrev pub says : {R : Type 0} → What → Value R → List (List ℕ)
says what v = printed (answer_text what v)

-- a SET of a slot of the session
abbrev pub set_of : ℕ → Value Id → Message
set_of slot v = record { code = 3; args = numbered 1 (Int (pos slot) ∷ v ∷ []); cont = None; ids = session ∷ ids_in (v ∷ []) }

-- ---- slots that are awaited

pub held_erased : (i j : ℕ) (aw : List Await) → i ≢ j → held_at i (erased j aw) ≡ held_at i aw
held_erased i j [] d = refl
held_erased i j (a ∷ aw) d = elim (cases_Bool (j == a.slot)) [
  | inl e ↦ rw (e, ne_eqb i a.slot (λ f. d (f ∙ sym (eqb-true j a.slot e)))) refl
  | inr e ↦ rw e (ap (λ y. cond (i == a.slot) (Some a.what) y) (held_erased i j aw d))
]

erased_first : (i j : ℕ) (a : Await) (aw : List Await) → (j == a.slot) ≡ true → (i == a.slot) ≡ false
    → erased i (erased j (a ∷ aw)) ≡ erased j (erased i (a ∷ aw))
erased_first i j a aw e f = simp (e, f) refl

erased_both : (i j : ℕ) (a : Await) (aw : List Await) → (j == a.slot) ≡ false → (i == a.slot) ≡ false → erased i (erased j aw) ≡ erased j (erased i aw)
    → erased i (erased j (a ∷ aw)) ≡ erased j (erased i (a ∷ aw))
erased_both i j a aw e f g = simp (e, f) (ap (λ as'. a ∷ as') g)

pub erased_apart : (i j : ℕ) (aw : List Await) → i ≢ j → erased i (erased j aw) ≡ erased j (erased i aw)
erased_apart i j [] d = refl
erased_apart i j (a ∷ aw) d = elim (cases_Bool (j == a.slot)) [
  | inl e ↦ erased_first i j a aw e (ne_eqb i a.slot (λ f. d (f ∙ sym (eqb-true j a.slot e))))
  | inr e ↦ elim (cases_Bool (i == a.slot)) [
    | inl f ↦ sym (erased_first j i a aw f e)
    | inr f ↦ erased_both i j a aw e f (erased_apart i j aw d)
  ]
]

pub erased_length : (i : ℕ) (aw : List Await) (w : What) → held_at i aw ≡ Some w → length aw ≡ suc (length (erased i aw))
erased_length i [] w h = cc
erased_length i (a ∷ aw) w h = elim (cases_Bool (i == a.slot)) [
  | inl e ↦ rw e refl
  | inr e ↦ rw e (ap suc (erased_length i aw w (ap (λ b. cond b (Some a.what) (held_at i aw)) (sym e) ∙ h)))
]

-- ---- answers to come

abbrev first_slot : List Spelled → ℕ
first_slot (SpelledInt (pos k) ∷ vs) = k
first_slot _ = 0

abbrev pub slot_of : Message → ℕ
slot_of m = first_slot m.args

abbrev pub Absent : ℕ → List Message → Type 0
Absent k [] = Unit {0}
Absent k (m ∷ ms) = (k ≢ slot_of m) × Absent k ms

absent_less : (k : ℕ) (xs : List Message) (m : Message) (ys : List Message) → Absent k (xs ++ m ∷ ys) → Absent k (xs ++ ys)
absent_less k [] m ys h = h.1
absent_less k (x ∷ xs) m ys h = (h.0, absent_less k xs m ys h.1)

absent_at : (k : ℕ) (xs : List Message) (m : Message) (ys : List Message) → Absent k (xs ++ m ∷ ys) → k ≢ slot_of m
absent_at k [] m ys h = h.0
absent_at k (x ∷ xs) m ys h = absent_at k xs m ys h.1

not_none : (xs : List Message) (m : Message) (ys : List Message) → xs ++ m ∷ ys ≡ [] → ⊥
not_none [] m ys h = cc
not_none (x ∷ xs) m ys h = cc

pub plain_answered : (w : What) (v : Value Id) (ns : List (Naming (Value Id))) → IsPlainWhat w → answered (plain Id) w v ns ≡ ns
plain_answered NotSaid v ns h = refl
plain_answered Told v ns h = refl
plain_answered Released v ns h = refl
plain_answered (Bound k) v ns h = absurd h

is_plain : (w : What) (xs : List Message) (m : Message) (ys : List Message) → IsPlainWhat w ⊎ (xs ++ m ∷ ys ≡ []) → IsPlainWhat w
is_plain w xs m ys (inl h) = h
is_plain w xs m ys (inr e) = absurd (not_none xs m ys e)

-- the text of the line, and what the session has in the end
module _ (t : List ℕ) (N : List (Naming (Value Id))) (A : List Await) where
  pub record Head (ns : List (Naming (Value Id))) (aw : List Await) (m : Message) (ms : List Message) (k : ℕ) : Type 0 where
    pub slot : ℕ
    pub value : Value Id
    pub what : What
    pub count : ℕ
    pub rest : ℕ
    pub message : m ≡ set_of slot value
    pub held : held_at slot aw ≡ Some what
    pub text : says what value ≡ times count t
    pub adds : count + rest ≡ k
    pub plainly : IsPlainWhat what ⊎ (ms ≡ [])
    pub absent : Absent slot ms
    pub short : length (answered (plain Id) what value ns) ≤ 100

  abbrev pub Coming : List (Naming (Value Id)) → List Await → List Message → ℕ → Type 0
  Coming ns aw [] k = (k ≡ 0) × (ns ≡ N) × (aw ≡ A)
  Coming ns aw (m ∷ ms) k = (h : Head ns aw m ms k) × Coming (answered (plain Id) h.what h.value ns) (erased h.slot aw) ms h.rest

  pub record Picked (ns : List (Naming (Value Id))) (aw : List Await) (m : Message) (ms : List Message) (k : ℕ) : Type 0 where
    pub slot : ℕ
    pub value : Value Id
    pub what : What
    pub count : ℕ
    pub rest : ℕ
    pub message : m ≡ set_of slot value
    pub held : held_at slot aw ≡ Some what
    pub text : says what value ≡ times count t
    pub adds : count + rest ≡ k
    pub short : length (answered (plain Id) what value ns) ≤ 100
    pub later : Coming (answered (plain Id) what value ns) (erased slot aw) ms rest

  pick_more : (ns : List (Naming (Value Id))) (aw : List Await) (b : Message) (xs : List Message) (m : Message) (ys : List Message) (k : ℕ)
      (h : Head ns aw b (xs ++ m ∷ ys) k) → Picked (answered (plain Id) h.what h.value ns) (erased h.slot aw) m (xs ++ ys) h.rest
      → Picked ns aw m (b ∷ (xs ++ ys)) k
  pick_more ns aw b xs m ys k h p =
      let plainly : IsPlainWhat h.what = is_plain h.what xs m ys h.plainly in
      let apart : h.slot ≢ p.slot = subst (λ x. h.slot ≢ slot_of x) p.message (absent_at h.slot xs m ys h.absent) in
      let apart' : p.slot ≢ h.slot = λ e. apart (sym e) in
      let same : answered (plain Id) h.what h.value ns ≡ ns = plain_answered h.what h.value ns plainly in
      let same' : answered (plain Id) h.what h.value (answered (plain Id) p.what p.value ns) ≡ answered (plain Id) p.what p.value ns =
      plain_answered h.what h.value (answered (plain Id) p.what p.value ns) plainly in
      record {
        slot = p.slot;
        value = p.value;
        what = p.what;
        count = p.count;
        rest = h.count + p.rest;
        message = p.message;
        held = sym (held_erased p.slot h.slot aw apart') ∙ p.held;
        text = p.text;
        adds = omega (arith, p.adds, h.adds);
        short = subst (λ z. length (answered (plain Id) p.what p.value z) ≤ 100) same p.short;
        later = (
          record {
            slot = h.slot;
            value = h.value;
            what = h.what;
            count = h.count;
            rest = p.rest;
            message = h.message;
            held = held_erased h.slot p.slot aw apart ∙ h.held;
            text = h.text;
            adds = refl;
            plainly = inl plainly;
            absent = absent_less h.slot xs m ys h.absent;
            short = subst (λ z. length z ≤ 100) (sym same') (subst (λ z. length (answered (plain Id) p.what p.value z) ≤ 100) same p.short);
          },
          subst (λ z. Coming z (erased h.slot (erased p.slot aw)) (xs ++ ys) p.rest) (sym same')
              (subst (λ z. Coming (answered (plain Id) p.what p.value z) (erased h.slot (erased p.slot aw)) (xs ++ ys) p.rest) same
              (subst (λ z. Coming (answered (plain Id) p.what p.value (answered (plain Id) h.what h.value ns)) z (xs ++ ys) p.rest) (erased_apart p.slot h.slot aw apart') p.later)),
        );
      }

  -- whichever comes first
  pub pick : (ns : List (Naming (Value Id))) (aw : List Await) (xs : List Message) (m : Message) (ys : List Message) (k : ℕ)
      → Coming ns aw (xs ++ m ∷ ys) k → Picked ns aw m (xs ++ ys) k
  pick ns aw [] m ys k h = record {
    slot = h.0.slot;
    value = h.0.value;
    what = h.0.what;
    count = h.0.count;
    rest = h.0.rest;
    message = h.0.message;
    held = h.0.held;
    text = h.0.text;
    adds = h.0.adds;
    short = h.0.short;
    later = h.1;
  }
  pick ns aw (b ∷ xs) m ys k h =
      pick_more ns aw b xs m ys k h.0 (pick (answered (plain Id) h.0.what h.0.value ns) (erased h.0.slot aw) xs m ys h.0.rest h.1)
