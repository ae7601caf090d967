-- One action on a dataflow of a tree, or below it.
use Rattle.std.specs.Prelude.{ℕ, Bool, true, false, List, [], ◌∷◌, ◌++◌, ◌≡◌, ◌+◌, ◌<◌, ◌≤◌, ◌^◌, ◌⊎◌, Option, Some, None, refl}
use Rattle.std.specs.List.{list_any, sum_by}
use Rattle.std.proofs.Common.{sym, ap, ◌∙◌, subst, arith, inl, inr}
use Rattle.std.proofs.lemmas.List.Sums.{sum_by-cons, sum_by-append}
use Rattle.std.proofs.lemmas.List.Folds.{list_any-append}
use Rattle.hpx_value.specs.Ids.{Id, same_object}
use Rattle.hpx_value.specs.Values.{named}
use Rattle.hpx_value.specs.declared.value.Message.{Message}
use Rattle.hpx_value.specs.Hands.{Slot}
use Rattle.hpx_journal.specs.Entries.{Rules}
use Rattle.hpx_journal.specs.Pool.{target_in, outcome_in}
use Rattle.hpx_journal.proofs.Same.{same_object-refl}
use Rattle.hpx_journal.proofs.SameMessage.{same_message}
use Rattle.hpx_calls.specs.Outcomes.{outcome_of}
use Rattle.app_compute.specs.Types.{State, Outcome}
use Rattle.app_compute.specs.Numbers.{is_direct}
use Rattle.app_compute.specs.Judging.{Computes}
use Rattle.app_compute.proofs.Does.{slot_of, fib_message, sum_message, get_message, set_message, kept_slots, flow, spent, Does, first_kept, first_last, first_ends, second_kept, second_last, second_ends, get_none, get_first, get_second, get_ends}
use Rattle.app_compute.proofs.Trees
use Rattle.app_compute.proofs.TreeSteps.{IsStep, IsStepped, carried, sends, leaves, spared, elsewhere, sum_step, calc_by}

got : (T : Trees.Tree) (v : ℕ) → Trees.input T ≡ Some v → T ≡ Trees.Got v
got (Trees.Got w) v h = ap Trees.Got (Trees.some_same w v h)
got (Trees.Set w) v h = cc
got (Trees.Calc m k) v h = cc
got (Trees.Sum w y k) v h = cc
got (Trees.Node o kept late l r) v h = cc

open_right : (k : Bool) (i : Option ℕ) → Trees.IsOpen k i None
open_right true None = tt
open_right true (Some v) = tt
open_right false i = tt

open_left : (k : Bool) (j : Option ℕ) → Trees.IsOpen k None j
open_left true j = tt
open_left false j = tt

module _ (law : Rules) (c : Computes law) (t : ℕ) (some : 2 ≤ t) (few : t ≤ 92) (f g : Id → Option State) (pl pl' : Id → ℕ)
    (m : Message) (s : State) (made : List Id) (step : IsStep law f g pl pl' m s made) where
  abbrev n : ℕ
  n = law.localities

  abbrev out : Outcome
  out = outcome_in law (pl (target_in m)) m s

  abbrev Stepped : Slot → Trees.Tree → Type 0
  Stepped x T = IsStepped law t f g pl pl' m s made x T

  module _ (o : Id) (kept late : Bool) (l r : Trees.Tree) (x : Slot) (stands : Trees.Stands n x (Trees.Node o kept late l r) f pl)
      (fits : Trees.Fits n (Trees.Node o kept late l r)) (once : (u : Id) → Trees.occurs u (Trees.Node o kept late l r) ≤ 1) where
    node_once : (u : Id) → same_object u o ≡ true → Trees.occurs u l + Trees.occurs u r ≡ 0
    node_once u e = omega (arith, once u, Trees.own_one u o e)

    sum_node : (h : Message → ℕ) (k z : Bool) (L R : Trees.Tree) → sum_by h (Trees.sent t x (Trees.Node o k z L R))
        ≡ sum_by h (Trees.asked k o x) + (sum_by h (Trees.sent t (slot_of o 0) L) + sum_by h (Trees.sent t (slot_of o 1) R))
    sum_node h k z L R =
        omega (
          arith,
          sum_by-append h (Trees.asked k o x) (Trees.sent t (slot_of o 0) L ++ Trees.sent t (slot_of o 1) R),
          sum_by-append h (Trees.sent t (slot_of o 0) L) (Trees.sent t (slot_of o 1) R),
        )

    -- ---- below it

    left_step : Stepped (slot_of o 0) l → Stepped x (Trees.Node o kept late l r)
    left_step st = record {
      tree = Trees.Node o kept late st.tree r;
      bag = λ h. omega (arith, st.bag h, sum_node h kept late l r, sum_node h kept late st.tree r);
      total = ap (λ v. v + Trees.value r) st.total;
      standing = (
        stands.0,
        step.low o stands.1,
        elsewhere law c t some few f g pl pl' m s made step o (flow late (Trees.input l) (Trees.input r) (kept_slots kept x)) (Trees.occurs (target_in m) l) stands.0 stands.2 st.place
            (λ e. let z = Trees.occurs_same o (target_in m) e l in let y = node_once o (same_object-refl o) in omega arith)
            ∙ ap (λ v. Some (flow late v (Trees.input r) (kept_slots kept x))) (st.before ∙ sym st.unset),
        st.standing,
        Trees.stands_other n r (slot_of o 1) f g pl pl' step.low
            (λ u i s' e. elsewhere law c t some few f g pl pl' m s made step u s' (Trees.occurs (target_in m) l) (Trees.tree_there n r (slot_of o 1) f pl step.alike u stands.4 i).kind e st.place
            (λ y. let z = Trees.occurs_same u (target_in m) y r in let a = once (target_in m) in omega arith)) stands.4,
      );
      fitting = (subst (λ i. Trees.IsOpen kept i (Trees.input r)) (sym st.unset) (open_left kept (Trees.input r)), st.fitting, fits.2);
      among = λ u. elim (st.among u) [
        | inl i ↦ inl (omega arith)
        | inr i ↦ let y = i.1 in inr (i.0, omega arith)
      ];
      before = refl;
      unset = refl;
      place = elim st.place [ inl e ↦ inl e | inr e ↦ inr (omega arith) ];
      silent = st.silent;
      calm = st.calm;
      apart = st.apart;
    }

    right_step : Stepped (slot_of o 1) r → Stepped x (Trees.Node o kept late l r)
    right_step st = record {
      tree = Trees.Node o kept late l st.tree;
      bag = λ h. omega (arith, st.bag h, sum_node h kept late l r, sum_node h kept late l st.tree);
      total = ap (λ v. Trees.value l + v) st.total;
      standing = (
        stands.0,
        step.low o stands.1,
        elsewhere law c t some few f g pl pl' m s made step o (flow late (Trees.input l) (Trees.input r) (kept_slots kept x)) (Trees.occurs (target_in m) r) stands.0 stands.2 st.place
            (λ e. let z = Trees.occurs_same o (target_in m) e r in let y = node_once o (same_object-refl o) in omega arith)
            ∙ ap (λ v. Some (flow late (Trees.input l) v (kept_slots kept x))) (st.before ∙ sym st.unset),
        Trees.stands_other n l (slot_of o 0) f g pl pl' step.low
            (λ u i s' e. elsewhere law c t some few f g pl pl' m s made step u s' (Trees.occurs (target_in m) r) (Trees.tree_there n l (slot_of o 0) f pl step.alike u stands.3 i).kind e st.place
            (λ y. let z = Trees.occurs_same u (target_in m) y l in let a = once (target_in m) in omega arith)) stands.3,
        st.standing,
      );
      fitting = (subst (λ j. Trees.IsOpen kept (Trees.input l) j) (sym st.unset) (open_right kept (Trees.input l)), fits.1, st.fitting);
      among = λ u. elim (st.among u) [
        | inl i ↦ inl (omega arith)
        | inr i ↦ let y = i.1 in inr (i.0, omega arith)
      ];
      before = refl;
      unset = refl;
      place = elim st.place [ inl e ↦ inl e | inr e ↦ inr (omega arith) ];
      silent = st.silent;
      calm = st.calm;
      apart = st.apart;
    }

    -- ---- on it

    child : (T : Trees.Tree) (y : Slot) → target_in m ≡ o → ((u : Id) → Trees.occurs u T ≤ Trees.occurs u l + Trees.occurs u r) → Trees.Stands n y T f pl → Trees.Stands n y T g pl'
    child T y e part h =
        Trees.stands_other n T y f g pl pl' step.low
        (λ u i s' is. elsewhere law c t some few f g pl pl' m s made step u s' 1 (Trees.tree_there n T y f pl step.alike u h i).kind is (inr (omega arith))
        (λ z. let a = node_once u (subst (λ v. same_object u v ≡ true) e z) in let b = part u in absurd (omega arith))) h

    state_is : target_in m ≡ o → s ≡ flow late (Trees.input l) (Trees.input r) (kept_slots kept x)
    state_is e = Trees.some_same s (flow late (Trees.input l) (Trees.input r) (kept_slots kept x)) (sym step.stands ∙ (ap f e ∙ stands.2))

    flow_does : (m' : Message) (s' after : State) (ms : List Message) → m ≡ m' → s ≡ s' → target_in m' ≡ o
        → Does s' m' (outcome_of n 33 (pl o) s' (named 0 0 m')) after ms → Does s m out after ms
    flow_does m' s' after ms em es te d =
        let is : outcome_in law (pl (target_in m')) m' s' ≡ outcome_of n 33 (pl o) s' (named 0 0 m') =
        ap (λ (v : Id). law.outcome_of v.kind (pl v) s' (named 0 0 m')) te ∙ ap (λ k. law.outcome_of k (pl o) s' (named 0 0 m')) stands.0
        ∙ c.flow (pl o) s' (named 0 0 m') stands.1 in
        carried law c t some few f g pl pl' m s made step m' s' after ms em es (subst (λ y. Does s' m' y after ms) (sym is) d)

    here_once : target_in m ≡ o → Trees.own (target_in m) o ≡ 1
    here_once e = Trees.own_one (target_in m) o (ap (λ v. same_object v o) e ∙ same_object-refl o)

    kind_is : target_in m ≡ o → (target_in m).kind ≡ 33
    kind_is e = ap (λ (v : Id). v.kind) e ∙ stands.0

    node_keeps : (k z : Bool) (L R : Trees.Tree) (after : State) → target_in m ≡ o → Does s m out after [] → after ≡ flow z (Trees.input L) (Trees.input R) (kept_slots k x)
        → Trees.IsOpen k (Trees.input L) (Trees.input R) → Trees.Stands n (slot_of o 0) L g pl' → Trees.Stands n (slot_of o 1) R g pl' → Trees.Fits n L → Trees.Fits n R
        → ((h : Message → ℕ) → sum_by h (Trees.sent t x (Trees.Node o k z L R)) + h m ≡ sum_by h (Trees.sent t x (Trees.Node o kept late l r)))
        → Trees.value L + Trees.value R ≡ Trees.value l + Trees.value r
        → ((u : Id) → Trees.occurs u L + Trees.occurs u R ≤ Trees.occurs u l + Trees.occurs u r) → Stepped x (Trees.Node o kept late l r)
    node_keeps k z L R after e d is gap sl sr fl fr less worth part = record {
      tree = Trees.Node o k z L R;
      bag = λ h. omega (arith, less h, ap (sum_by h) (sends law c t some few f g pl pl' m s made step after [] d));
      total = worth;
      standing = (
        stands.0,
        step.low o stands.1,
        ap g (sym e) ∙ (step.target ∙ ap Some (leaves law c t some few f g pl pl' m s made step after [] d ∙ is)),
        sl,
        sr,
      );
      fitting = (gap, fl, fr);
      among = λ u. inl (omega (arith, part u));
      before = refl;
      unset = refl;
      place = inr (let one = here_once e in omega arith);
      silent = d.prints;
      calm = λ seven. absurd (let k = kind_is e in omega arith);
      apart = λ u _. spared law c t some few f g pl pl' m s made step after [] d u;
    }

    node_ends : (v w : ℕ) → target_in m ≡ o → Does s m out spent (sum_message v w (pl o) x ∷ [])
        → ((h : Message → ℕ) → h m ≡ sum_by h (Trees.sent t x (Trees.Node o kept late l r))) → v + w ≡ Trees.value l + Trees.value r → Stepped x (Trees.Node o kept late l r)
    node_ends v w e d less worth = record {
      tree = Trees.Sum v w (pl o);
      bag = λ h. omega (arith, less h, ap (sum_by h) (sends law c t some few f g pl pl' m s made step spent (sum_message v w (pl o) x ∷ []) d));
      total = worth;
      standing = tt;
      fitting = stands.1;
      among = λ u. inl (omega arith);
      before = refl;
      unset = refl;
      place = inr (let one = here_once e in omega arith);
      silent = d.prints;
      calm = λ seven. absurd (let k = kind_is e in omega arith);
      apart = λ u _. spared law c t some few f g pl pl' m s made step spent (sum_message v w (pl o) x ∷ []) d u;
    }

    -- an answer to its first input
    set_left : (v : ℕ) → l ≡ Trees.Set v → m ≡ set_message (slot_of o 0) v → Stepped x (Trees.Node o kept late l r)
    set_left v e em = by_other (Trees.input r) refl kept refl
      where
        te : target_in m ≡ o
        te = ap target_in em

        es : s ≡ flow late None (Trees.input r) (kept_slots kept x)
        es = state_is te ∙ ap (λ y. flow late (Trees.input y) (Trees.input r) (kept_slots kept x)) e

        right : Trees.Stands n (slot_of o 1) r g pl'
        right = child r (slot_of o 1) te (λ u. omega arith) stands.4

        one : (h : Message → ℕ) → sum_by h (Trees.sent t (slot_of o 0) l) ≡ h m
        one h = omega (arith, ap (λ y. sum_by h (Trees.sent t (slot_of o 0) y)) e, sum_by-cons h (set_message (slot_of o 0) v) [], ap h em)

        worth : Trees.value l ≡ v
        worth = ap Trees.value e

        by_other : (j : Option ℕ) → Trees.input r ≡ j → (k : Bool) → kept ≡ k → Stepped x (Trees.Node o kept late l r)
        by_other None ej k ek =
            node_keeps kept false (Trees.Got v) r (flow false (Some v) None (kept_slots kept x)) te
            (flow_does (set_message (slot_of o 0) v) (flow late None None (kept_slots kept x)) (flow false (Some v) None (kept_slots kept x)) [] em
            (es ∙ ap (λ j. flow late None j (kept_slots kept x)) ej) refl (first_kept n (pl o) o x kept late v))
            (ap (λ j. flow false (Some v) j (kept_slots kept x)) (sym ej)) (subst (λ j. Trees.IsOpen kept (Some v) j) (sym ej) (open_right kept (Some v))) tt right tt fits.2
            (λ h. omega (arith, one h, sum_node h kept false (Trees.Got v) r, sum_node h kept late l r)) (omega (arith, worth)) (λ u. omega arith)
        by_other (Some w) ej false ek =
            node_keeps kept true (Trees.Got v) r (flow true (Some v) (Some w) []) te
            (flow_does (set_message (slot_of o 0) v) (flow late None (Some w) []) (flow true (Some v) (Some w) []) [] em
            (es ∙ (ap (λ j. flow late None j (kept_slots kept x)) ej ∙ ap (λ k. flow late None (Some w) (kept_slots k x)) ek)) refl (first_last n (pl o) o x late v w))
            (ap (λ j. flow true (Some v) j []) (sym ej) ∙ ap (λ k. flow true (Some v) (Trees.input r) (kept_slots k x)) (sym ek))
            (subst (λ k. Trees.IsOpen k (Some v) (Trees.input r)) (sym ek) tt) tt right tt fits.2
            (λ h. omega (arith, one h, sum_node h kept true (Trees.Got v) r, sum_node h kept late l r)) (omega (arith, worth)) (λ u. omega arith)
        by_other (Some w) ej true ek =
            let er = got r w ej in
            node_ends v w te
            (flow_does (set_message (slot_of o 0) v) (flow late None (Some w) (x ∷ [])) spent (sum_message v w (pl o) x ∷ []) em
            (es ∙ (ap (λ j. flow late None j (kept_slots kept x)) ej ∙ ap (λ k. flow late None (Some w) (kept_slots k x)) ek)) refl (first_ends n (pl o) o x late v w))
            (λ h. omega (arith, one h, sum_node h kept late l r, ap (λ y. sum_by h (Trees.sent t (slot_of o 1) y)) er, ap (λ k. sum_by h (Trees.asked k o x)) ek))
            (omega (arith, worth, ap Trees.value er))

    -- an answer to its second
    set_right : (w : ℕ) → r ≡ Trees.Set w → m ≡ set_message (slot_of o 1) w → Stepped x (Trees.Node o kept late l r)
    set_right w e em = by_other (Trees.input l) refl kept refl
      where
        te : target_in m ≡ o
        te = ap target_in em

        es : s ≡ flow late (Trees.input l) None (kept_slots kept x)
        es = state_is te ∙ ap (λ y. flow late (Trees.input l) (Trees.input y) (kept_slots kept x)) e

        left : Trees.Stands n (slot_of o 0) l g pl'
        left = child l (slot_of o 0) te (λ u. omega arith) stands.3

        one : (h : Message → ℕ) → sum_by h (Trees.sent t (slot_of o 1) r) ≡ h m
        one h = omega (arith, ap (λ y. sum_by h (Trees.sent t (slot_of o 1) y)) e, sum_by-cons h (set_message (slot_of o 1) w) [], ap h em)

        worth : Trees.value r ≡ w
        worth = ap Trees.value e

        by_other : (i : Option ℕ) → Trees.input l ≡ i → (k : Bool) → kept ≡ k → Stepped x (Trees.Node o kept late l r)
        by_other None ei k ek =
            node_keeps kept false l (Trees.Got w) (flow false None (Some w) (kept_slots kept x)) te
            (flow_does (set_message (slot_of o 1) w) (flow late None None (kept_slots kept x)) (flow false None (Some w) (kept_slots kept x)) [] em
            (es ∙ ap (λ i. flow late i None (kept_slots kept x)) ei) refl (second_kept n (pl o) o x kept late w))
            (ap (λ i. flow false i (Some w) (kept_slots kept x)) (sym ei)) (subst (λ i. Trees.IsOpen kept i (Some w)) (sym ei) (open_left kept (Some w))) left tt fits.1 tt
            (λ h. omega (arith, one h, sum_node h kept false l (Trees.Got w), sum_node h kept late l r)) (omega (arith, worth)) (λ u. omega arith)
        by_other (Some v) ei false ek =
            node_keeps kept false l (Trees.Got w) (flow false (Some v) (Some w) []) te
            (flow_does (set_message (slot_of o 1) w) (flow late (Some v) None []) (flow false (Some v) (Some w) []) [] em
            (es ∙ (ap (λ i. flow late i None (kept_slots kept x)) ei ∙ ap (λ k. flow late (Some v) None (kept_slots k x)) ek)) refl (second_last n (pl o) o x late v w))
            (ap (λ i. flow false i (Some w) []) (sym ei) ∙ ap (λ k. flow false (Trees.input l) (Some w) (kept_slots k x)) (sym ek))
            (subst (λ k. Trees.IsOpen k (Trees.input l) (Some w)) (sym ek) tt) left tt fits.1 tt
            (λ h. omega (arith, one h, sum_node h kept false l (Trees.Got w), sum_node h kept late l r)) (omega (arith, worth)) (λ u. omega arith)
        by_other (Some v) ei true ek =
            let el = got l v ei in
            node_ends v w te
            (flow_does (set_message (slot_of o 1) w) (flow late (Some v) None (x ∷ [])) spent (sum_message v w (pl o) x ∷ []) em
            (es ∙ (ap (λ i. flow late i None (kept_slots kept x)) ei ∙ ap (λ k. flow late (Some v) None (kept_slots k x)) ek)) refl (second_ends n (pl o) o x late v w))
            (λ h. omega (arith, one h, sum_node h kept late l r, ap (λ y. sum_by h (Trees.sent t (slot_of o 0) y)) el, ap (λ k. sum_by h (Trees.asked k o x)) ek))
            (omega (arith, worth, ap Trees.value el))

    -- somebody waits for it
    get_step : kept ≡ false → m ≡ get_message o x → Stepped x (Trees.Node o kept late l r)
    get_step ek em = by_inputs (Trees.input l) (Trees.input r) refl refl
      where
        te : target_in m ≡ o
        te = ap target_in em

        es : s ≡ flow late (Trees.input l) (Trees.input r) []
        es = state_is te ∙ ap (λ k. flow late (Trees.input l) (Trees.input r) (kept_slots k x)) ek

        left : Trees.Stands n (slot_of o 0) l g pl'
        left = child l (slot_of o 0) te (λ u. omega arith) stands.3

        right : Trees.Stands n (slot_of o 1) r g pl'
        right = child r (slot_of o 1) te (λ u. omega arith) stands.4

        one : (h : Message → ℕ) → sum_by h (Trees.asked kept o x) ≡ h m
        one h = omega (arith, ap (λ k. sum_by h (Trees.asked k o x)) ek, sum_by-cons h (get_message o x) [], ap h em)

        waits : (after : State) → Does s m out after [] → after ≡ flow late (Trees.input l) (Trees.input r) (x ∷ []) → Trees.IsOpen true (Trees.input l) (Trees.input r)
            → Stepped x (Trees.Node o kept late l r)
        waits after d is gap =
            node_keeps true late l r after te d is gap left right fits.1 fits.2
            (λ h. omega (arith, one h, sum_node h true late l r, sum_node h kept late l r)) refl (λ u. omega arith)

        by_inputs : (i j : Option ℕ) → Trees.input l ≡ i → Trees.input r ≡ j → Stepped x (Trees.Node o kept late l r)
        by_inputs None None ei ej =
            waits (flow late None None (x ∷ []))
            (flow_does (get_message o x) (flow late None None []) (flow late None None (x ∷ [])) [] em (es ∙ (ap (λ i. flow late i (Trees.input r) []) ei ∙ ap (λ j. flow late None j []) ej)) refl
            (get_none n (pl o) o x late))
            (sym (ap (λ i. flow late i (Trees.input r) (x ∷ [])) ei ∙ ap (λ j. flow late None j (x ∷ [])) ej))
            (subst (λ j. Trees.IsOpen true (Trees.input l) j) (sym ej) (open_right true (Trees.input l)))
        by_inputs (Some v) None ei ej =
            waits (flow late (Some v) None (x ∷ []))
            (flow_does (get_message o x) (flow late (Some v) None []) (flow late (Some v) None (x ∷ [])) [] em (es ∙ (ap (λ i. flow late i (Trees.input r) []) ei ∙ ap (λ j. flow late (Some v) j []) ej)) refl
            (get_first n (pl o) o x late v))
            (sym (ap (λ i. flow late i (Trees.input r) (x ∷ [])) ei ∙ ap (λ j. flow late (Some v) j (x ∷ [])) ej))
            (subst (λ j. Trees.IsOpen true (Trees.input l) j) (sym ej) (open_right true (Trees.input l)))
        by_inputs None (Some w) ei ej =
            waits (flow late None (Some w) (x ∷ []))
            (flow_does (get_message o x) (flow late None (Some w) []) (flow late None (Some w) (x ∷ [])) [] em (es ∙ (ap (λ i. flow late i (Trees.input r) []) ei ∙ ap (λ j. flow late None j []) ej)) refl
            (get_second n (pl o) o x late w))
            (sym (ap (λ i. flow late i (Trees.input r) (x ∷ [])) ei ∙ ap (λ j. flow late None j (x ∷ [])) ej))
            (subst (λ i. Trees.IsOpen true i (Trees.input r)) (sym ei) (open_left true (Trees.input r)))
        by_inputs (Some v) (Some w) ei ej =
            let el = got l v ei in
            let er = got r w ej in
            node_ends v w te
            (flow_does (get_message o x) (flow late (Some v) (Some w) []) spent (sum_message v w (pl o) x ∷ []) em
            (es ∙ (ap (λ i. flow late i (Trees.input r) []) ei ∙ ap (λ j. flow late (Some v) j []) ej)) refl (get_ends n (pl o) o x late v w))
            (λ h. omega (arith, one h, sum_node h kept late l r, ap (λ y. sum_by h (Trees.sent t (slot_of o 0) y)) el, ap (λ y. sum_by h (Trees.sent t (slot_of o 1) y)) er))
            (omega (arith, ap Trees.value el, ap Trees.value er))

    asked_step : list_any (same_message m) (Trees.asked kept o x) ≡ true → Stepped x (Trees.Node o kept late l r)
    asked_step h = by_kept kept refl
      where
        by_kept : (k : Bool) → kept ≡ k → Stepped x (Trees.Node o kept late l r)
        by_kept true e = absurd (let z : list_any (same_message m) (Trees.asked true o x) ≡ true = subst (λ k. list_any (same_message m) (Trees.asked k o x) ≡ true) e h in cc)
        by_kept false e = get_step e (Trees.only_message m (get_message o x) (subst (λ k. list_any (same_message m) (Trees.asked k o x) ≡ true) e h))

  -- ---- one action anywhere in the tree

  pub step_at : (T : Trees.Tree) (x : Slot) → list_any (same_message m) (Trees.sent t x T) ≡ true → Trees.Stands n x T f pl → Trees.Fits n T
      → ((u : Id) → Trees.occurs u T ≤ 1) → Trees.value T < 2 ^ 63
      → ((v : ℕ) × (T ≡ Trees.Set v) × (m ≡ set_message x v)) ⊎ Stepped x T
  step_at (Trees.Got v) x h stands fits once small = cc
  step_at (Trees.Set v) x h stands fits once small = inl (v, refl, Trees.only_message m (set_message x v) h)
  step_at (Trees.Calc a k) x h stands fits once small =
      inr (calc_by law c t some few f g pl pl' m s made step a k x fits.0 fits.1 (Trees.only_message m (fib_message t a k x) h) (is_direct t a) refl)
  step_at (Trees.Sum v w k) x h stands fits once small =
      inr (sum_step law c t some few f g pl pl' m s made step v w k x fits small (Trees.only_message m (sum_message v w k x) h))
  step_at (Trees.Node o kept late l r) x h stands fits once small =
      elim (Trees.or_cases (list_any (same_message m) (Trees.asked kept o x)) (list_any (same_message m) (Trees.sent t (slot_of o 0) l ++ Trees.sent t (slot_of o 1) r))
      (sym (list_any-append (same_message m) (Trees.asked kept o x) (Trees.sent t (slot_of o 0) l ++ Trees.sent t (slot_of o 1) r)) ∙ h)) [
        | inl i ↦ inr (asked_step o kept late l r x stands fits once i)
        | inr i ↦
            elim (Trees.or_cases (list_any (same_message m) (Trees.sent t (slot_of o 0) l)) (list_any (same_message m) (Trees.sent t (slot_of o 1) r))
            (sym (list_any-append (same_message m) (Trees.sent t (slot_of o 0) l) (Trees.sent t (slot_of o 1) r)) ∙ i)) [
              | inl j ↦
                  elim (step_at l (slot_of o 0) j stands.3 fits.1 (λ u. omega (arith, once u)) (omega arith)) [
                    | inl z ↦ inr (set_left o kept late l r x stands fits once z.0 z.1 z.2)
                    | inr z ↦ inr (left_step o kept late l r x stands fits once z)
                  ]
              | inr j ↦
                  elim (step_at r (slot_of o 1) j stands.4 fits.2 (λ u. omega (arith, once u)) (omega arith)) [
                    | inl z ↦ inr (set_right o kept late l r x stands fits once z.0 z.1 z.2)
                    | inr z ↦ inr (right_step o kept late l r x stands fits once z)
                  ]
            ]
      ]
