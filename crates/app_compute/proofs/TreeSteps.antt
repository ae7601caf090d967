-- One action on a message of a tree: it rewrites the tree in one place, and keeps its value.
use Rattle.std.specs.Prelude.{ℕ, zero, suc, Bool, true, false, cond, nat_lt, List, [], ◌∷◌, ◌≡◌, ◌≢◌, ◌+◌, ◌-◌, ◌%◌, ◌<◌, ◌≤◌, ◌^◌, ◌||◌, ◌⊎◌, Option, Some, None, refl}
use Rattle.std.specs.List.{list_any, sum_by}
use Rattle.std.proofs.Common.{sym, ap, ◌∙◌, subst, arith, inl, inr}
use Rattle.std.proofs.Math.Nat.{mod-lt}
use Rattle.std.proofs.lemmas.Bool.{cases_Bool, ltb-false}
use Rattle.std.proofs.lemmas.List.Sums.{sum_by-cons}
use Rattle.hpx_value.specs.Ids.{Id, same_object}
use Rattle.hpx_value.specs.Values.{empty_state, named}
use Rattle.hpx_value.specs.declared.value.Message.{Message}
use Rattle.hpx_value.specs.Hands.{Slot, state_after}
use Rattle.hpx_value.specs.Laws.{birth_state}
use Rattle.hpx_journal.specs.Entries.{Rules}
use Rattle.hpx_journal.specs.Pool.{target_in, outcome_in, sent_by, with_made, AreNew}
use Rattle.hpx_journal.proofs.Same.{same_object-refl}
use Rattle.app_compute.specs.Types.{State, Make, Outcome}
use Rattle.app_compute.specs.Numbers.{fibonacci, is_direct}
use Rattle.app_compute.specs.Acts.{sum_of_two}
use Rattle.app_compute.specs.Judging.{Computes}
use Rattle.app_compute.proofs.Does.{plain_at, slot_of, fib_message, sum_message, get_message, set_message, flow, Does, Splits, sum_does, direct_does, split_does}
use Rattle.app_compute.proofs.Trees

-- where nothing is made
pub none_made : (f : Id → Option State) (here : ℕ) (made : List Id) → AreNew f here [] made → made ≡ []
none_made f here [] h = refl
none_made f here (o ∷ made) h = absurd h

-- what stood stands, whatever was made
pub made_old : (f : Id → Option State) (here : ℕ) → ((a b : Id) → same_object a b ≡ true → f a ≡ f b) → (makes : List Make) (made : List Id)
    → AreNew f here makes made → (u : Id) (s : State) → f u ≡ Some s → with_made f makes made u ≡ Some s
made_old f here alike [] made h u s e = e
made_old f here alike (make ∷ makes) [] h u s e = e
made_old f here alike (make ∷ makes) (o ∷ made) h u s e =
    let rest = made_old f here alike makes made h.4 u s e in
    elim (cases_Bool (same_object u o)) [
      | inl i ↦ absurd (Trees.some_none s (sym e ∙ (alike u o i ∙ h.2)))
      | inr i ↦ ap (λ b. cond b (Some (birth_state make)) (with_made f makes made u)) i ∙ rest
    ]

-- one action, from what stands before it to what stands after it
pub record IsStep (law : Rules) (f g : Id → Option State) (pl pl' : Id → ℕ) (m : Message) (s : State) (made : List Id) : Type 0 where
  pub stands : f (target_in m) ≡ Some s
  pub new : AreNew f (pl (target_in m)) (outcome_in law (pl (target_in m)) m s).makes made
  pub target : g (target_in m) ≡ Some (state_after s (named 0 0 m) made (outcome_in law (pl (target_in m)) m s))
  pub others : (u : Id) → same_object u (target_in m) ≡ false → g u ≡ with_made f (outcome_in law (pl (target_in m)) m s).makes made u
  pub low : (u : Id) → pl u < law.localities → pl' u < law.localities
  pub born : (u : Id) → list_any (same_object u) made ≡ true → pl' u < law.localities
  pub alike : (a b : Id) → same_object a b ≡ true → f a ≡ f b
  pub plain : (k : ℕ) → k < law.localities → (f (plain_at k) ≡ Some empty_state) × (pl (plain_at k) < law.localities)

-- the tree after it
pub record IsStepped (law : Rules) (t : ℕ) (f g : Id → Option State) (pl pl' : Id → ℕ) (m : Message) (s : State) (made : List Id) (x : Slot) (T : Trees.Tree) : Type 0 where
  pub tree : Trees.Tree
  pub bag : (h : Message → ℕ) → sum_by h (Trees.sent t x tree) + h m
      ≡ sum_by h (Trees.sent t x T) + sum_by h (sent_by m s made (outcome_in law (pl (target_in m)) m s))
  pub total : Trees.value tree ≡ Trees.value T
  pub standing : Trees.Stands law.localities x tree g pl'
  pub fitting : Trees.Fits law.localities tree
  pub among : (u : Id) → (Trees.occurs u tree ≤ Trees.occurs u T) ⊎ ((f u ≡ None) × (Trees.occurs u tree ≤ Trees.occurs u T + 1))
  pub before : Trees.input T ≡ None
  pub unset : Trees.input tree ≡ None
  pub place : ((target_in m).kind ≡ 7) ⊎ (1 ≤ Trees.occurs (target_in m) T)
  pub silent : (outcome_in law (pl (target_in m)) m s).prints ≡ []
  pub calm : (target_in m).kind ≡ 7 → state_after s (named 0 0 m) made (outcome_in law (pl (target_in m)) m s) ≡ empty_state
  pub apart : (u : Id) → u.kind ≢ 33 → with_made f (outcome_in law (pl (target_in m)) m s).makes made u ≡ f u

module _ (law : Rules) (c : Computes law) (t : ℕ) (some : 2 ≤ t) (few : t ≤ 92) (f g : Id → Option State) (pl pl' : Id → ℕ)
    (m : Message) (s : State) (made : List Id) (step : IsStep law f g pl pl' m s made) where
  abbrev n : ℕ
  n = law.localities

  abbrev out : Outcome
  out = outcome_in law (pl (target_in m)) m s

  abbrev Stepped : Slot → Trees.Tree → Type 0
  Stepped x T = IsStepped law t f g pl pl' m s made x T

  -- what is known of a message and a state is known of those that they are
  pub carried : (m' : Message) (s' after : State) (ms : List Message) → m ≡ m' → s ≡ s' → Does s' m' (outcome_in law (pl (target_in m')) m' s') after ms
      → Does s m out after ms
  carried m' s' after ms em es h =
      subst (λ y. Does s y (outcome_in law (pl (target_in y)) y s) after ms) (sym em)
      (subst (λ y. Does y m' (outcome_in law (pl (target_in m')) m' y) after ms) (sym es) h)

  split : (m' : Message) (s' : State) (o : Id) (ms : List Message) → m ≡ m' → s ≡ s' → Splits s' m' (outcome_in law (pl (target_in m')) m' s') o ms
      → Splits s m out o ms
  split m' s' o ms em es h =
      subst (λ y. Splits s y (outcome_in law (pl (target_in y)) y s) o ms) (sym em)
      (subst (λ y. Splits y m' (outcome_in law (pl (target_in m')) m' y) o ms) (sym es) h)

  nobody : out.makes ≡ [] → made ≡ []
  nobody none = none_made f (pl (target_in m)) made (subst (λ makes. AreNew f (pl (target_in m)) makes made) none step.new)

  pub sends : (after : State) (ms : List Message) → Does s m out after ms → sent_by m s made out ≡ ms
  sends after ms d = ap (λ ids. sent_by m s ids out) (nobody d.makes) ∙ d.sends

  pub leaves : (after : State) (ms : List Message) → Does s m out after ms → state_after s (named 0 0 m) made out ≡ after
  leaves after ms d = ap (λ ids. state_after s (named 0 0 m) ids out) (nobody d.makes) ∙ d.state

  pub spared : (after : State) (ms : List Message) → Does s m out after ms → (u : Id) → with_made f out.makes made u ≡ f u
  spared after ms d u = ap (λ makes. with_made f makes made u) d.makes

  -- an action elsewhere leaves a dataflow as it is
  pub elsewhere : (u : Id) (s' : State) (k : ℕ) → u.kind ≡ 33 → f u ≡ Some s' → ((target_in m).kind ≡ 7) ⊎ (1 ≤ k) → (same_object u (target_in m) ≡ true → k ≡ 0)
      → g u ≡ Some s'
  elsewhere u s' k kind e place other =
      step.others u (elim (cases_Bool (same_object u (target_in m))) [
        | inl i ↦
            let z : u.kind ≡ (target_in m).kind = Trees.kind_same u (target_in m) i in
            let y : k ≡ 0 = other i in
            elim place [ inl p ↦ absurd (omega arith) | inr p ↦ absurd (omega arith) ]
        | inr i ↦ i
      ])
      ∙ made_old f (pl (target_in m)) step.alike out.makes made step.new u s' e

  -- ---- plain objects

  plain_state : (k : ℕ) → k < n → target_in m ≡ plain_at k → s ≡ empty_state
  plain_state k low e = Trees.some_same s empty_state (sym step.stands ∙ (ap f e ∙ (step.plain k low).0))

  leaf_step : (x : Slot) (T : Trees.Tree) (v : ℕ) → Does s m out empty_state (set_message x v ∷ []) → Trees.sent t x T ≡ m ∷ [] → Trees.value T ≡ v
      → (target_in m).kind ≡ 7 → Trees.input T ≡ None → ((u : Id) → Trees.occurs u T ≡ 0) → Stepped x T
  leaf_step x T v d one worth kind before none = record {
    tree = Trees.Set v;
    bag = λ h.
        let a = ap (sum_by h) (sends empty_state (set_message x v ∷ []) d) in
        let b : sum_by h (Trees.sent t x T) ≡ sum_by h (m ∷ []) = ap (sum_by h) one in
        omega (arith, a, b, sum_by-cons h m []);
    total = sym worth;
    standing = tt;
    fitting = tt;
    among = λ u. inl (omega arith);
    before = before;
    unset = refl;
    place = inl kind;
    silent = d.prints;
    calm = λ _. leaves empty_state (set_message x v ∷ []) d;
    apart = λ u _. spared empty_state (set_message x v ∷ []) d u;
  }

  pub sum_step : (v w k : ℕ) (x : Slot) → k < n → v + w < 2 ^ 63 → m ≡ sum_message v w k x → Stepped x (Trees.Sum v w k)
  sum_step v w k x low fits em =
      let es = plain_state k low (ap target_in em) in
      let here = pl (plain_at k) in
      let d : Does s m out empty_state (set_message x (v + w) ∷ []) =
      carried (sum_message v w k x) empty_state empty_state _ em es
      (subst (λ y. Does empty_state (sum_message v w k x) y empty_state (set_message x (v + w) ∷ [])) (sym (c.plain here empty_state (named 0 0 (sum_message v w k x)) (step.plain k low).1))
      (sum_does n here v w k x fits)) in
      leaf_step x (Trees.Sum v w k) (v + w) d (ap (λ y. y ∷ []) (sym em)) refl (ap (λ y. (target_in y).kind) em) refl (λ u. refl)

  fib_sum : (a : ℕ) → 2 ≤ a → fibonacci (a - 1) + fibonacci (a - 2) ≡ fibonacci a
  fib_sum (suc (suc a)) h =
      let one = ap fibonacci (let e : suc (suc a) - 1 ≡ suc a = omega arith in e) in
      let two = ap fibonacci (let e : suc (suc a) - 2 ≡ a = omega arith in e) in
      omega arith
  fib_sum (suc zero) h = absurd (omega arith)
  fib_sum zero h = absurd (omega arith)

  -- what FIB asks for
  abbrev calls : ℕ → ℕ → Slot → Id → List Message
  calls a k x o =
      fib_message t (a - 1) ((pl (plain_at k) + 1) % n) (slot_of o 0) ∷ fib_message t (a - 2) (pl (plain_at k)) (slot_of o 1) ∷ get_message o x ∷ []

  split_step : (a k : ℕ) (x : Slot) → a ≤ 92 → 2 ≤ a → k < n → m ≡ fib_message t a k x → s ≡ empty_state → (o : Id) → made ≡ o ∷ []
      → (o.kind ≡ 33) × (f o ≡ None)
      → Splits s m out o (calls a k x o)
      → Stepped x (Trees.Calc a k)
  split_step a k x low large there em es o e fit d =
      let here = pl (plain_at k) in
      let place = (step.plain k there).1 in
      let one = fib_message t (a - 1) ((here + 1) % n) (slot_of o 0) in
      let two = fib_message t (a - 2) here (slot_of o 1) in
      let three = get_message o x in
      let kind : (target_in m).kind ≡ 7 = ap (λ y. (target_in y).kind) em in
      let far : same_object o (target_in m) ≡ false = Trees.kind_apart o (target_in m) (λ z. let y = fit.0 in absurd (omega arith)) in
      let news : (u : Id) → with_made f out.makes made u ≡ cond (same_object u o) (Some (flow false None None [])) (f u) =
      λ u. ap (λ makes. with_made f makes made u) d.makes ∙ ap (λ ids. with_made f (sum_of_two ∷ []) ids u) e in
      record {
        tree = Trees.Node o false false (Trees.Calc (a - 1) ((here + 1) % n)) (Trees.Calc (a - 2) here);
        bag = λ h.
            let z : sum_by h (sent_by m s made out) ≡ sum_by h (one ∷ two ∷ three ∷ []) = ap (λ ids. sum_by h (sent_by m s ids out)) e ∙ ap (sum_by h) d.sends in
            let y : sum_by h (fib_message t a k x ∷ []) ≡ sum_by h (m ∷ []) = ap (λ v. sum_by h (v ∷ [])) (sym em) in
            omega (
              arith,
              z,
              y,
              sum_by-cons h m [],
              sum_by-cons h one (two ∷ three ∷ []),
              sum_by-cons h two (three ∷ []),
              sum_by-cons h three [],
              sum_by-cons h three (one ∷ two ∷ []),
              sum_by-cons h one (two ∷ []),
              sum_by-cons h two [],
            );
        total = fib_sum a large;
        standing = (
          fit.0,
          step.born o (ap (λ ids. list_any (same_object o) ids) e ∙ ap (λ b. b || false) (same_object-refl o)),
          step.others o far ∙ (news o ∙ ap (λ b. cond b (Some (flow false None None [])) (f o)) (same_object-refl o)),
          tt,
          tt,
        );
        fitting = (tt, (omega arith, mod-lt (here + 1) (omega arith)), (omega arith, place));
        among = λ u. elim (cases_Bool (same_object u o)) [
          | inl i ↦ let z = Trees.own_one u o i in inr (step.alike u o i ∙ fit.1, omega arith)
          | inr i ↦ let z = Trees.own_none u o i in inl (omega arith)
        ];
        before = refl;
        unset = refl;
        place = inl kind;
        silent = d.prints;
        calm = λ _. ap (λ ids. state_after s (named 0 0 m) ids out) e ∙ (d.state ∙ es);
        apart = λ u other. news u ∙ ap (λ b. cond b (Some (flow false None None [])) (f u)) (Trees.kind_apart u o (λ z. other (z ∙ fit.0)));
      }

  fib_splits : (a k : ℕ) (x : Slot) → a ≤ 92 → k < n → is_direct t a ≡ false → m ≡ fib_message t a k x → s ≡ empty_state → (o : Id)
      → Splits s m out o (calls a k x o)
  fib_splits a k x low there slow em es o =
      split (fib_message t a k x) empty_state o (calls a k x o) em es
      (subst (λ y. Splits empty_state (fib_message t a k x) y o (calls a k x o)) (sym (c.plain (pl (plain_at k)) empty_state (named 0 0 (fib_message t a k x)) (step.plain k there).1))
      (split_does n (pl (plain_at k)) t a k x o low some few slow))

  slow_large : (a : ℕ) → is_direct t a ≡ false → 2 ≤ a
  slow_large a e = ltb-false a 2 (second (nat_lt a t) (nat_lt a 2) e)
    where
      second : (x y : Bool) → (x || y) ≡ false → y ≡ false
      second true y h = cc
      second false y h = h

  pub calc_by : (a k : ℕ) (x : Slot) → a ≤ 92 → k < n → m ≡ fib_message t a k x → (b : Bool) → is_direct t a ≡ b → Stepped x (Trees.Calc a k)
  calc_by a k x low there em true e =
      let es = plain_state k there (ap target_in em) in
      let d : Does s m out empty_state (set_message x (fibonacci a) ∷ []) =
      carried (fib_message t a k x) empty_state empty_state _ em es
      (subst (λ y. Does empty_state (fib_message t a k x) y empty_state (set_message x (fibonacci a) ∷ [])) (sym (c.plain (pl (plain_at k)) empty_state (named 0 0 (fib_message t a k x)) (step.plain k there).1))
      (direct_does n (pl (plain_at k)) t a k x low some few e)) in
      leaf_step x (Trees.Calc a k) (fibonacci a) d (ap (λ y. y ∷ []) (sym em)) refl (ap (λ y. (target_in y).kind) em) refl (λ u. refl)
  calc_by a k x low there em false e =
      let es = plain_state k there (ap target_in em) in
      let sp = fib_splits a k x low there e em es in
      by_made made refl (subst (λ makes. AreNew f (pl (target_in m)) makes made) (sp (plain_at 0)).makes step.new)
    where
      by_made : (news : List Id) → made ≡ news → AreNew f (pl (target_in m)) (sum_of_two ∷ []) news → Stepped x (Trees.Calc a k)
      by_made [] i h = absurd h
      by_made (o ∷ []) i h =
          let es = plain_state k there (ap target_in em) in
          split_step a k x low (slow_large a e) there em es o i (h.0, h.2) (fib_splits a k x low there e em es o)
      by_made (o ∷ u ∷ news) i h = absurd h.4
