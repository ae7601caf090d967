-- Runs of the pool where a ring is stepped, from the line to the end.
use Rattle.std.specs.Prelude.{ℕ, zero, suc, Bool, true, false, List, [], ◌∷◌, ◌++◌, ◌≡◌, ◌+◌, ◌*◌, ◌/◌, ◌%◌, ◌<◌, ◌≤◌, ◌==◌, Option, Some, None, length, map, refl, if◌then◌else◌}
use Rattle.std.specs.List.{AllByRecursion, sum_by}
use Rattle.std.proofs.Common.{sym, ap, ◌∙◌, subst, arith, inl, inr, append-nil}
use Rattle.std.proofs.Math.Nat.{div-le_self}
use Rattle.std.proofs.lemmas.Nat.{div-add-mod'}
use Rattle.std.proofs.lemmas.Bool.{eqb-false, eqb-true}
use Rattle.hpx_value.specs.Ids.{Id, same_object}
use Rattle.hpx_value.specs.Values.{empty_state, named}
use Rattle.hpx_value.specs.declared.value.Message.{Message}
use Rattle.hpx_value.specs.Hands.{hand_ids, sent, session, state_after}
use Rattle.hpx_journal.specs.Entries.{Rules, line_message}
use Rattle.hpx_journal.specs.Pool.{Pool, IsActed, AreNew, target_in, moves_to, outcome_in, sent_by, with_made}
use Rattle.hpx_journal.specs.Sessions.{IsStep as IsPoolStep, Steps}
use Rattle.hpx_journal.proofs.Same.{same_object-refl}
use Rattle.app_compute.specs.Types.{State, Act, Outcome}
use Rattle.app_compute.specs.declared.shape.Shape.{Shape}
use Rattle.app_compute.specs.Computing.{computing_outcome}
use Rattle.app_compute.specs.Judging.{Computes}
use Rattle.app_compute.specs.Ring.{joined, points_from, row_texts, stencil_texts}
use Rattle.app_compute.specs.Session.{spoken}
use Rattle.app_compute.specs.Stencil.{ring_out, shape_of}
use Rattle.app_compute.specs.StencilLaw.{IsAsked}
use Rattle.app_compute.specs.StencilSession.{begins, blank_parts, first_rows, new_calls, ring_outcome}
use Rattle.app_compute.proofs.Acted.{same_target, other_target, lower, alike_after, printed_are, pending_are}
use Rattle.app_compute.proofs.Bags.{in_bag, any_holds}
use Rattle.app_compute.proofs.Computed.{ring_computed}
use Rattle.app_compute.proofs.Pieces
use Rattle.app_compute.proofs.PieceActs.{leaves, new_sends}
use Rattle.app_compute.proofs.PieceViews
use Rattle.app_compute.proofs.RingRows.{AreLow, length-points, low_points, points_joined}
use Rattle.app_compute.proofs.RingRuns as Runs
use Rattle.app_compute.proofs.Trees.{kind_apart, some_none, some_same}
use Rattle.app_compute.proofs.TreeSteps.{none_made}

-- ---- parts at the start

wanted_many : (size q count : ℕ) → length (Pieces.wanted size q count) ≡ count
wanted_many size q zero = refl
wanted_many size q (suc count) = ap suc (wanted_many size (q + 1) count)

wanted_rows : (size q count : ℕ) → Pieces.rows_in (Pieces.wanted size q count) ≡ first_rows size q count
wanted_rows size q zero = refl
wanted_rows size q (suc count) = ap (λ rows. points_from (q * size) size ∷ rows) (wanted_rows size (q + 1) count)

wanted_fits : (size q count : ℕ) → AllByRecursion (Pieces.Fits false size) (Pieces.wanted size q count)
wanted_fits size q zero = tt
wanted_fits size q (suc count) = ((refl, length-points (q * size) size), wanted_fits size (q + 1) count)

wanted_stands : (n : ℕ) (f : Id → Option State) (pl : Id → ℕ) (size q count : ℕ) → AllByRecursion (Pieces.Stands n f pl) (Pieces.wanted size q count)
wanted_stands n f pl size q zero = tt
wanted_stands n f pl size q (suc count) = (tt, wanted_stands n f pl size (q + 1) count)

wanted_occurs : (u : Id) (size q count : ℕ) → Pieces.occurs u (Pieces.wanted size q count) ≡ 0
wanted_occurs u size q zero = refl
wanted_occurs u size q (suc count) = let rest = wanted_occurs u size (q + 1) count in omega arith

wanted_open : (size q count : ℕ) → 1 ≤ count → Pieces.all_kept (Pieces.wanted size q count) ≡ false
wanted_open size q zero some = absurd (omega arith)
wanted_open size q (suc count) some = refl

wanted_seen : (hand : List Id) (size q count : ℕ) → PieceViews.AreSeen hand false (blank_parts count) (Pieces.wanted size q count)
wanted_seen hand size q zero = tt
wanted_seen hand size q (suc count) = (tt, refl, wanted_seen hand size (q + 1) count)

-- ---- the line

-- what is asked for is a ring in parts with points
record IsSized (p q size : ℕ) : Type 0 where
  is : q * size ≡ p
  some : 1 ≤ size
  few : size ≤ 1024
  all : size * q ≤ 1024

sized : (p q s : ℕ) → IsAsked p q s → IsSized p q (p / q)
sized p q s h =
    let all : p / q * q + p % q ≡ p = div-add-mod' p q in
    let none = h.whole in
    let low = h.few_points in
    let some = h.points in
    let part = div-le_self p q in
    let turned : q * (p / q) ≡ p / q * q = omega arith in
    record { is = omega arith; some = at_least (p / q) q (omega arith); few = omega arith; all = omega arith }
  where
    at_least : (k q : ℕ) → 1 ≤ k * q → 1 ≤ k
    at_least zero q h = absurd (omega arith)
    at_least (suc k) q h = omega arith

-- what the session does with it
asks : (n : ℕ) (line : List ℕ) (x : Shape) → shape_of line ≡ Some x → ring_outcome n empty_state (named 0 0 (line_message (99 ∷ line))) ≡ begins n empty_state x
unfolding ring_outcome
asks n line x e = rw e refl

asks_ring : (n : ℕ) (line : List ℕ) (x : Shape) → shape_of line ≡ Some x → computing_outcome n empty_state (named 0 0 (line_message (99 ∷ line))) ≡ begins n empty_state x
asks_ring n line x e = ring_computed n empty_state (named 0 0 (line_message (99 ∷ line))) line x refl refl e ∙ asks n line x e

-- ---- one step

module _ (law : Rules) (c : Computes law) (np nq ns : ℕ) (asked : IsAsked np nq ns) (line : List ℕ) (says : shape_of line ≡ Some (record { points = np; parts = nq; steps = ns })) where
  abbrev n : ℕ
  n = law.localities

  abbrev texts : List (List ℕ)
  texts = stencil_texts np ns

  abbrev points : ℕ
  points = np / nq

  abbrev shape : Shape
  shape = record { points = np; parts = nq; steps = ns }

  abbrev first : Message
  first = line_message (99 ∷ line)

  module _ (p q : Pool) where
    module _ (w : Runs.IsFed n line p) (h : IsActed law p q) (em : h.message ≡ first) (alone : h.before ++ h.behind ≡ []) where
      low : p.places (target_in h.message) < n
      low = subst (λ m. p.places (target_in m) < n) (sym em) (w.rooted).place

      es : h.state ≡ empty_state
      es = some_same h.state empty_state (sym h.stands ∙ (ap (λ m. p.states (target_in m)) em ∙ w.session_at))

      out : outcome_in law (p.places (target_in h.message)) h.message h.state ≡ begins n empty_state shape
      out =
          ap (λ m. outcome_in law (p.places (target_in m)) m h.state) em ∙ (ap (λ s. outcome_in law (p.places session) first s) es
          ∙ (c.session (p.places session) empty_state (named 0 0 first) (w.rooted).place refl ∙ asks_ring n line shape says))

      -- where a step is asked for, and where none is
      begun : (b : Bool) → (ns == 0) ≡ b
          → outcome_in law (p.places (target_in h.message)) h.message h.state
          ≡ (if b then spoken 0 [] [] [] else spoken (0 + nq) (ring_out (record { rows = ns; first = 0; size = points; parts = blank_parts nq })) (new_calls n 0 points 0 nq) [])
      begun b e =
          out ∙ ap (λ (x : Bool). if x then spoken 0 [] [] [] else spoken (0 + nq) (ring_out (record { rows = ns; first = 0; size = points; parts = blank_parts nq })) (new_calls n 0 points 0 nq) []) e

      -- no step: nothing is left to do
      none_asked : (ns == 0) ≡ true → ns ≡ 0 → Runs.IsOver texts q
      none_asked b e =
          let is = begun true b in
          record {
            pending = pending_are law p q h ∙ (ap (λ ms. sent_by h.message h.state h.made (outcome_in law (p.places (target_in h.message)) h.message h.state) ++ ms) alone
                ∙ (append-nil _ ∙ ap (sent_by h.message h.state h.made) is));
            printed = printed_are law p q h ∙ (ap (λ o. p.printed ++ o.prints) is ∙ (append-nil p.printed ∙ (w.printed ∙ ap (row_texts (points_from 0 np)) (sym e))));
          }

      -- the parts are asked for
      some_asked : (ns == 0) ≡ false → Runs.IsOn n texts false (0 + nq) ns 0 points (Pieces.wanted points 0 nq) q
      some_asked b =
          let is = begun false b in
          let fit = sized np nq ns asked in
          let many = wanted_many points 0 nq in
          let few = asked.few_parts in
          let parts = asked.parts in
          let steps = asked.steps in
          let nonzero = eqb-false ns 0 b in
          let all = fit.all in
          let act : Act = named 0 0 h.message in
          let rows : joined (Pieces.rows_in (Pieces.wanted points 0 nq)) ≡ points_from 0 np =
          ap joined (wanted_rows points 0 nq) ∙ (points_joined points 0 nq ∙ (ap (λ k. points_from k (nq * points)) (let z : 0 * points ≡ 0 = omega arith in z) ∙ ap (points_from 0) fit.is)) in
          let spared : (u : Id) → with_made p.states (outcome_in law (p.places (target_in h.message)) h.message h.state).makes h.made u ≡ p.states u =
          λ u. ap (λ (o : Outcome). with_made p.states o.makes h.made u) is in
          let nobody : h.made ≡ [] = none_made p.states (p.places (target_in h.message)) h.made (subst (λ (o : Outcome). AreNew p.states (p.places (target_in h.message)) o.makes h.made) is h.new) in
          let far : (k : ℕ) → same_object (Pieces.maker_at k) (target_in h.message) ≡ false =
          λ k. ap (λ m. same_object (Pieces.maker_at k) (target_in m)) em ∙ kind_apart (Pieces.maker_at k) session (λ e. absurd (omega arith)) in
          let told : sent_by h.message h.state h.made (outcome_in law (p.places (target_in h.message)) h.message h.state) ≡ Pieces.all_due n false 0 0 (Pieces.wanted points 0 nq) =
          ap (sent_by h.message h.state h.made) is ∙ (append-nil _ ∙ (ap (λ ids. map (sent h.state act ids) (new_calls n 0 points 0 nq)) nobody ∙ new_sends n h.state act 0 points 0 nq)) in
          record {
            bounded = record {
              drawn_low = omega arith;
              left_low = steps;
              slot_low = omega arith;
              size_low = fit.few;
              few = omega arith;
              short = subst (λ k. points * k ≤ 1024) (sym many) all;
              fits = wanted_fits points 0 nq;
            };
            some = fit.some;
            more = omega arith;
            room = omega arith;
            first = λ e. wanted_rows points 0 nq ∙ ap (first_rows points 0) (sym many);
            low = subst AreLow (sym rows) (low_points 0 np (let z = asked.few_points in omega arith));
            points = let long = length-points 0 np in let top = asked.few_points in subst (λ xs. length xs ≤ 1024) (sym rows) (omega arith);
            bag = λ k. ap (sum_by k) (pending_are law p q h
                ∙ (ap (λ ms. sent_by h.message h.state h.made (outcome_in law (p.places (target_in h.message)) h.message h.state) ++ ms) alone ∙ (append-nil _ ∙ told)));
            open_yet = wanted_open points 0 nq parts;
            standing = wanted_stands n q.states q.places points 0 nq;
            once = λ u. let z = wanted_occurs u points 0 nq in omega arith;
            session_at =
                same_target law p q h session (ap (λ m. same_object session (target_in m)) em ∙ same_object-refl session)
                ∙ ap Some (ap (λ o. state_after h.state act h.made o) is ∙ (ap (λ ids. state_after h.state act ids (spoken (0 + nq) (ring_out (record { rows = ns; first = 0; size = points; parts = blank_parts nq })) (new_calls n 0 points 0 nq) [])) nobody
                ∙ leaves h.state act false (0 + nq) ns 0 points (blank_parts nq) (Pieces.wanted points 0 nq) (new_calls n 0 points 0 nq) [] (wanted_seen (hand_ids h.state act []) points 0 nq)));
            rooted = record {
              maker = λ k l. (other_target law p q h (Pieces.maker_at k) (far k) ∙ (spared (Pieces.maker_at k) ∙ ((w.rooted).maker k l).0), lower law p q h low (Pieces.maker_at k) ((w.rooted).maker k l).1);
              alike = alike_after law p q h (w.rooted).alike;
              place = lower law p q h low session (w.rooted).place;
            };
            printed = ap (λ ts. ts ++ row_texts (joined (Pieces.rows_in (Pieces.wanted points 0 nq))) ns) (printed_are law p q h ∙ (ap (λ o. p.printed ++ o.prints) is ∙ (append-nil p.printed ∙ w.printed)))
                ∙ ap (λ xs. row_texts xs ns) rows;
          }

      read_step : Runs.Phase n texts line q
      read_step = by (ns == 0) refl
        where
          by : (b : Bool) → (ns == 0) ≡ b → Runs.Phase n texts line q
          by true e = Runs.Over (none_asked e (eqb-true ns 0 e))
          by false e = Runs.Works false (0 + nq) ns 0 points (Pieces.wanted points 0 nq) (some_asked e)

    only : (before : List Message) (m : Message) (behind : List Message) → first ∷ [] ≡ before ++ m ∷ behind → (m ≡ first) × (before ++ behind ≡ [])
    only [] m behind e = (cc, cc)
    only (y ∷ []) m behind e = absurd (let z : m ∷ behind ≡ [] = cc in cc)
    only (y ∷ (z ∷ before)) m behind e = absurd (let u : z ∷ (before ++ m ∷ behind) ≡ [] = cc in cc)

    no_split : (before : List Message) (m : Message) (behind : List Message) → [] ≡ before ++ m ∷ behind → ⊥
    no_split [] m behind h = cc
    no_split (y ∷ before) m behind h = cc

    pub phase_step : Runs.Phase n texts line p → IsPoolStep law p q → Runs.Phase n texts line q
    phase_step (Runs.Waits w) (inl h) = let one = only h.before h.message h.behind (sym w.pending ∙ h.pending) in read_step w h one.0 one.1
    phase_step (Runs.Waits w) (inr h) =
        let one = only h.1.before h.1.message h.1.behind (sym w.pending ∙ h.1.pending) in absurd (some_none h.1.to (sym h.1.move ∙ ap moves_to one.0))
    phase_step (Runs.Works b drawn left slot size pieces w) (inl h) = Runs.acted_step law c texts line p q h b drawn left slot size pieces w
    phase_step (Runs.Works b drawn left slot size pieces w) (inr h) =
        let there = in_bag h.1.before h.1.message h.1.behind p.pending (Pieces.all_due n b slot 0 pieces) h.1.pending w.bag in
        absurd (some_none h.1.to (sym h.1.move ∙ any_holds (λ y. moves_to y ≡ None) h.1.message (Pieces.all_due n b slot 0 pieces) (Runs.none_move n b slot 0 pieces) there))
    phase_step (Runs.Over w) (inl h) = absurd (no_split h.before h.message h.behind (sym w.pending ∙ h.pending))
    phase_step (Runs.Over w) (inr h) = absurd (no_split h.1.before h.1.message h.1.behind (sym w.pending ∙ h.1.pending))

  -- ---- steps

  pub phases : (k : ℕ) (p q : Pool) → Runs.Phase n texts line p → Steps law k p q → Runs.Phase n texts line q
  phases zero p q h steps = subst (Runs.Phase n texts line) (sym steps) h
  phases (suc k) p q h steps = phases k steps.0 q (phase_step p steps.0 h steps.1) steps.2

  -- once nothing is pending
  pub ends : (q : Pool) → Runs.Phase n texts line q → q.pending ≡ [] → q.printed ≡ texts
  ends q (Runs.Waits w) none = absurd (let z : first ∷ [] ≡ [] = sym w.pending ∙ none in cc)
  ends q (Runs.Works b drawn left slot size pieces w) none =
      absurd (omega (arith, Runs.due_some n b slot 0 pieces w.open_yet, w.bag (λ y. 1), ap (sum_by (λ y. 1)) none))
  ends q (Runs.Over w) none = w.printed

  -- before that some of the texts are printed
  pub so_far : (q : Pool) → Runs.Phase n texts line q → (later : List (List ℕ)) × (q.printed ++ later ≡ texts)
  so_far q (Runs.Waits w) = (texts, ap (λ ts. ts ++ texts) w.printed)
  so_far q (Runs.Works b drawn left slot size pieces w) = (Runs.to_come b (joined (Pieces.rows_in pieces)) left, w.printed)
  so_far q (Runs.Over w) = ([], append-nil q.printed ∙ w.printed)
