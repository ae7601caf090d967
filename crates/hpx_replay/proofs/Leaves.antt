-- What a Done and a due message leave.
use Rattle.std.proofs.Common.{Bool, true, false, cond, List, [], ◌∷◌, ◌++◌, ◌≡◌, Option, Some, None, MatchOption, refl, sym, ap, ◌∙◌}
use Rattle.std.specs.Prelude.{◌==◌, ◌&&◌}
use Rattle.std.specs.List.{find}
use Rattle.std.proofs.lemmas.Bool.{eqb-true}
use Rattle.hpx_value.specs.Ids.{Id, same_object}
use Rattle.hpx_value.specs.Hands.{state_after}
use Rattle.hpx_value.specs.Riders.{plain, due_with}
use Rattle.hpx_journal.specs.Data.{Act, State, Outcome, Due}
use Rattle.hpx_journal.specs.Bags.{without, minus}
use Rattle.hpx_journal.specs.Entries.{Rules, target_of}
use Rattle.hpx_journal.specs.declared.entry.Name.{Name}
use Rattle.hpx_journal.specs.declared.entry.Event.{Event}
use Rattle.hpx_journal.specs.declared.entry.Standing.{Standing}
use Rattle.hpx_journal.specs.declared.entry.Event.TheVariants.{Done}
use Rattle.hpx_journal.specs.Local.{is_act, is_standing, outcome, tail, done_after, due_after, due_at, due_left, objects_after, settled, settled_at, takes, gives, after}
use Rattle.hpx_journal.specs.declared.local.Local.{Local}
use Rattle.hpx_replay.specs.Spaces.{outcome_in, outcome_by, outcome_at, besides}
use Rattle.hpx_journal.specs.Tokens.{same_token}
use Rattle.hpx_journal.specs.declared.entry.Token.{Token}

pub popped_tail : (r : Option Due) (xs ys : List Due) → MatchOption r ((xs ≡ []) × (ys ≡ [])) (λ x. xs ≡ x ∷ ys) → ys ≡ tail xs
popped_tail None xs ys h = h.1 ∙ sym (ap tail h.0)
popped_tail (Some x) xs ys h = sym (ap tail h)

and_true : (a b : Bool) → (a && b) ≡ true → (a ≡ true) × (b ≡ true)
and_true true true h = (refl, refl)
and_true true false h = (refl, h)
and_true false b h = cc

same_tests : (a b y : Id) → same_object a b ≡ true → same_object a y ≡ same_object b y
same_tests a b y h =
    let p : (a.home == b.home) ≡ true = (and_true _ _ h).0 in
    let q : ((a.kind == b.kind) && (a.number == b.number)) ≡ true = (and_true _ _ h).1 in
    let t : (a.kind == b.kind) ≡ true = (and_true _ _ q).0 in
    let u : (a.number == b.number) ≡ true = (and_true _ _ q).1 in
    let x : a.home ≡ b.home = eqb-true a.home b.home p in
    let z : a.kind ≡ b.kind = eqb-true a.kind b.kind t in
    let w : a.number ≡ b.number = eqb-true a.number b.number u in
    rw (x, z, w) refl

found_passes_at : (p : Standing → Bool) (b : Bool) (y : Standing) (ys : List Standing) (x : Standing) → p y ≡ b
    → (find p ys ≡ Some x → p x ≡ true) → cond b (Some y) (find p ys) ≡ Some x → p x ≡ true
found_passes_at p true y ys x e ih h = cc
found_passes_at p false y ys x e ih h = ih h

found_passes : (p : Standing → Bool) (xs : List Standing) (x : Standing) → find p xs ≡ Some x → p x ≡ true
found_passes p [] x h = cc
found_passes p (y ∷ ys) x h = found_passes_at p (p y) y ys x refl (found_passes p ys x) h

without_same : (p q : Standing → Bool) → ((x : Standing) → p x ≡ q x) → (xs : List Standing) → without p xs ≡ without q xs
without_same p q e [] = refl
without_same p q e (x ∷ xs) = rw (e x, without_same p q e xs) refl

-- what is named by what stands is what was looked for
without_found : (o : Id) (xs : List Standing) (x : Standing) → find (is_standing o) xs ≡ Some x
    → without (is_standing x.object) xs ≡ without (is_standing o) xs
without_found o xs x h =
    without_same (is_standing x.object) (is_standing o)
    (λ y. sym (same_tests o x.object y.object (found_passes (is_standing o) xs x h))) xs

-- ---- a Done that does not fail

module _ (r : Rules) (s : Local) (a : Name) (out : Outcome) (act : Act) (x : Standing) (f : Some act ≡ find (is_act a) s.fired)
    (g : Some x ≡ find (is_standing (target_of act)) s.objects) (e : Some out ≡ outcome_in r s (Done a false)) where
  does : out ≡ outcome r s act x
  does =
      let k : outcome_by r s (find (is_act a) s.fired) ≡ Some (outcome r s act x) =
      ap (outcome_by r s) (sym f) ∙ ap (outcome_at r s act) (sym g) in
      let m : Some out ≡ Some (outcome r s act x) = e ∙ k in cc

  pub finished_done : act ∷ s.done ≡ done_after s (Done a false)
  finished_done = rw (← f) refl

  pub finished_due : due_with x.state (plain act) s.fresh out ≡ due_after r s (Done a false)
  finished_due =
      ap (due_with x.state (plain act) s.fresh) does ∙ sym (ap (due_left r s false) (sym f) ∙ ap (due_at r s act) (sym g))

  pub finished_objects : record { object = x.object; state = state_after x.state (plain act) s.fresh out } ∷ without (is_standing (target_of act)) s.objects
      ≡ objects_after r s (Done a false)
  finished_objects =
      let h : without (is_standing x.object) s.objects ≡ without (is_standing (target_of act)) s.objects =
      without_found (target_of act) s.objects x (sym g) in
      let at : Outcome → List Standing → List Standing = λ o xs. record { object = x.object; state = state_after x.state (plain act) s.fresh o } ∷ xs in
      ap (λ o. at o (without (is_standing (target_of act)) s.objects)) does
      ∙ (ap (at (outcome r s act x)) (sym h) ∙ sym (ap (settled r s) (sym f) ∙ ap (settled_at r s act) (sym g)))

-- a locality with other lists
abbrev whole : Local → List Act → List Act → List Standing → List Due → List Id → Local
whole s fired done objects due fresh = record s { fired = fired; done = done; objects = objects; due = due; fresh = fresh }

whole_same : (s : Local) (a a' b b' : List Act) (c c' : List Standing) (d d' : List Due) (e e' : List Id)
    → a ≡ a' → b ≡ b' → c ≡ c' → d ≡ d' → e ≡ e' → whole s a b c d e ≡ whole s a' b' c' d' e'
whole_same s a a' b b' c c' d d' e e' i j k l m = rw (i, j, k, l, m) refl

module _ (r : Rules) (s : Local) (a : Name) (out : Outcome) (act : Act) (x : Standing) (o : Id) (made : List Id) (state : State)
    (due : List Due) (others : List Standing) (f : Some act ≡ find (is_act a) s.fired) (i : o ≡ target_of act)
    (g : Some x ≡ find (is_standing o) s.objects) (e : Some out ≡ outcome_in r s (Done a false)) (m : made ≡ s.fresh) where
  stands : Some x ≡ find (is_standing (target_of act)) s.objects
  stands = rw i at g

  pub finish_same : (fired done' : List Act) (objects : List Standing) (left : List Due) (fresh : List Id)
      → fired ≡ without (is_act a) s.fired → done' ≡ act ∷ s.done → others ≡ without (is_standing o) s.objects
      → due ≡ due_with x.state (plain act) made out → state ≡ state_after x.state (plain act) made out
      → objects ≡ record { object = x.object; state = state } ∷ others → left ≡ due → fresh ≡ []
      → whole s fired done' objects left fresh
      ≡ whole s (without (is_act a) s.fired) (done_after s (Done a false)) (objects_after r s (Done a false)) (due_after r s (Done a false)) []
  finish_same fired done' objects left fresh e1 e2 e3 e4 e5 e6 e7 e8 =
      let at : State → List Standing → List Standing = λ t xs. record { object = x.object; state = t } ∷ xs in
      let d : left ≡ due_after r s (Done a false) =
      e7 ∙ (e4 ∙ (ap (λ k. due_with x.state (plain act) k out) m ∙ finished_due r s a out act x f stands e)) in
      let q : objects ≡ objects_after r s (Done a false) =
      e6 ∙ (ap (λ t. at t others) (e5 ∙ ap (λ k. state_after x.state (plain act) k out) m)
      ∙ (ap (at (state_after x.state (plain act) s.fresh out)) (e3 ∙ ap (λ k. without (is_standing k) s.objects) i)
      ∙ finished_objects r s a out act x f stands e)) in
      whole_same s fired (without (is_act a) s.fired) done' (done_after s (Done a false)) objects (objects_after r s (Done a false)) left
      (due_after r s (Done a false)) fresh [] e1 (e2 ∙ finished_done r s a out act x f stands e) q d e8

-- ---- the locality after an entry

-- tokens are traded and the entry is kept, whatever else an entry leaves
closed : (s1 s2 b : Local) (e : Event) (taken given out added : List Token) → s1 ≡ b
    → s2 ≡ record s1 { tokens = given ++ minus same_token s1.tokens taken; last = Some e } → taken ≡ out → given ≡ added
    → s2 ≡ record b { tokens = added ++ minus same_token b.tokens out; last = Some e }
closed s1 s2 b e taken given out added i j t g = rw (j, i, t, g) refl

pub entered : (r : Rules) (s s1 s2 : Local) (e : Event) (taken given : List Token) → s1 ≡ besides r s e
    → s2 ≡ record s1 { tokens = given ++ minus same_token s1.tokens taken; last = Some e } → taken ≡ takes r e → given ≡ gives r e
    → s2 ≡ after r s e
unfolding after
entered r s s1 s2 e taken given i j t g = closed s1 s2 (besides r s e) e taken given (takes r e) (gives r e) i j t g
