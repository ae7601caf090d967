-- Runs of the pool: the line, the tree, and the end.
use Rattle.std.specs.Prelude.{ℕ, zero, suc, pos, Bool, true, false, cond, List, [], ◌∷◌, ◌++◌, ◌≡◌, ◌≢◌, ◌+◌, ◌<◌, ◌≤◌, ◌⊎◌, Option, Some, None, refl}
use Rattle.std.specs.List.{AllByRecursion, sum_by}
use Rattle.std.proofs.Common.{sym, ap, ◌∙◌, subst, arith, inl, inr, append-nil}
use Rattle.std.proofs.lemmas.Bool.{cases_Bool, le-leb}
use Rattle.std.proofs.lemmas.List.Sums.{sum_by-cons, sum_by-append}
use Rattle.hpx_value.specs.Ids.{Id, same_object}
use Rattle.hpx_value.specs.Values.{empty_state, named}
use Rattle.hpx_value.specs.declared.value.Message.{Message}
use Rattle.hpx_value.specs.Hands.{Slot, session, state_after}
use Rattle.hpx_journal.specs.Entries.{Rules, line_message}
use Rattle.hpx_journal.specs.Pool.{Pool, IsActed, target_in, moves_to, outcome_in, sent_by, with_made}
use Rattle.hpx_journal.specs.Sessions.{IsStep as IsPoolStep, Steps}
use Rattle.hpx_journal.proofs.Same.{same_object-refl}
use Rattle.app_compute.specs.Types.{State, Outcome}
use Rattle.app_compute.specs.Numbers.{fibonacci}
use Rattle.app_compute.specs.Texts.{fibonacci_text}
use Rattle.app_compute.specs.Lines.{question_of}
use Rattle.app_compute.specs.Session.{awaited_out, first_call, session_outcome, spoken}
use Rattle.app_compute.specs.Computing.{computing_outcome}
use Rattle.app_compute.specs.Judging.{Computes}
use Rattle.app_compute.proofs.Acted.{same_target, other_target, places_are, lower, alike_after, printed_are, pending_are}
use Rattle.app_compute.proofs.Bags.{none_left, sum_split, in_bag, any_holds}
use Rattle.app_compute.proofs.Computed.{fib_computed}
use Rattle.app_compute.proofs.Small.{fibonacci_small}
use Rattle.app_compute.proofs.Does.{plain_at, slot_of, fib_message, sum_message, get_message, set_message}
use Rattle.app_compute.proofs.Trees
use Rattle.app_compute.proofs.TreeSteps.{IsStep, IsStepped}
use Rattle.app_compute.proofs.NodeSteps.{step_at}

-- ---- trees have something pending, at places that there are

some_at : (t : ℕ) (o : Id) (x : Slot) (kept : Bool) (l r : Trees.Tree) → Trees.IsOpen kept (Trees.input l) (Trees.input r)
    → (Trees.input l ≡ None → 1 ≤ sum_by (λ y. 1) (Trees.sent t (slot_of o 0) l)) → (Trees.input r ≡ None → 1 ≤ sum_by (λ y. 1) (Trees.sent t (slot_of o 1) r))
    → 1 ≤ sum_by (λ y. 1) (Trees.asked kept o x) + (sum_by (λ y. 1) (Trees.sent t (slot_of o 0) l) + sum_by (λ y. 1) (Trees.sent t (slot_of o 1) r))
some_at t o x false l r gap i j = omega (arith, sum_by-cons (λ y. 1) (get_message o x) [])
some_at t o x true l r gap i j = by_inputs (Trees.input l) (Trees.input r) gap i j
  where
    by_inputs : (a b : Option ℕ) → Trees.IsOpen true a b → (a ≡ None → 1 ≤ sum_by (λ y. 1) (Trees.sent t (slot_of o 0) l))
        → (b ≡ None → 1 ≤ sum_by (λ y. 1) (Trees.sent t (slot_of o 1) r))
        → 1 ≤ sum_by (λ y. 1) (Trees.asked true o x) + (sum_by (λ y. 1) (Trees.sent t (slot_of o 0) l) + sum_by (λ y. 1) (Trees.sent t (slot_of o 1) r))
    by_inputs None b gap i j = let z = i refl in omega arith
    by_inputs (Some v) None gap i j = let z = j refl in omega arith
    by_inputs (Some v) (Some w) gap i j = absurd gap

sent_some : (t n : ℕ) (T : Trees.Tree) (x : Slot) → Trees.Fits n T → Trees.input T ≡ None → 1 ≤ sum_by (λ y. 1) (Trees.sent t x T)
sent_some t n (Trees.Got v) x fits h = cc
sent_some t n (Trees.Node o kept late l r) x fits h =
    omega (
      arith,
      some_at t o x kept l r fits.0 (sent_some t n l (slot_of o 0) fits.1) (sent_some t n r (slot_of o 1) fits.2),
      sum_by-append (λ y. 1) (Trees.asked kept o x) (Trees.sent t (slot_of o 0) l ++ Trees.sent t (slot_of o 1) r),
      sum_by-append (λ y. 1) (Trees.sent t (slot_of o 0) l) (Trees.sent t (slot_of o 1) r),
    )
sent_some t n (Trees.Set v) x fits h = omega (arith, sum_by-cons (λ y. 1) (set_message x v) [])
sent_some t n (Trees.Calc a k) x fits h = omega (arith, sum_by-cons (λ y. 1) (fib_message t a k x) [])
sent_some t n (Trees.Sum v w k) x fits h = omega (arith, sum_by-cons (λ y. 1) (sum_message v w k x) [])

all_low : (t n : ℕ) (pl : Id → ℕ) (f : Id → Option State) → ((k : ℕ) → k < n → pl (plain_at k) < n) → (T : Trees.Tree) (x : Slot) → pl x.object < n
    → Trees.Stands n x T f pl → Trees.Fits n T → AllByRecursion (λ m. pl (target_in m) < n) (Trees.sent t x T)
all_low t n pl f plain (Trees.Got v) x low stands fits = tt
all_low t n pl f plain (Trees.Set v) x low stands fits = (low, tt)
all_low t n pl f plain (Trees.Calc a k) x low stands fits = (plain k fits.1, tt)
all_low t n pl f plain (Trees.Sum v w k) x low stands fits = (plain k fits, tt)
all_low t n pl f plain (Trees.Node o kept late l r) x low stands fits =
    all_append (Trees.asked kept o x) _ (first kept)
    (all_append (Trees.sent t (slot_of o 0) l) _ (all_low t n pl f plain l (slot_of o 0) stands.1 stands.3 fits.1) (all_low t n pl f plain r (slot_of o 1) stands.1 stands.4 fits.2))
  where
    all_append : (xs ys : List Message) → AllByRecursion (λ m. pl (target_in m) < n) xs → AllByRecursion (λ m. pl (target_in m) < n) ys
        → AllByRecursion (λ m. pl (target_in m) < n) (xs ++ ys)
    all_append [] ys h k = k
    all_append (y ∷ xs) ys h k = (h.0, all_append xs ys h.1 k)

    first : (kept : Bool) → AllByRecursion (λ m. pl (target_in m) < n) (Trees.asked kept o x)
    first true = tt
    first false = (stands.1, tt)

-- ---- phases

-- the session asked for the number m, and awaits the answer in slot 0
abbrev awaiting : ℕ → State
awaiting m = record { drawn = 1; values = awaited_out (record { number = m; slot = 0 }); conts = []; ids = [] }

abbrev top : Slot
top = slot_of session 0

-- plain objects stand, at places that there are; objects are known by what they are
pub record IsRooted (n : ℕ) (p : Pool) : Type 0 where
  pub plain : (k : ℕ) → k < n → (p.states (plain_at k) ≡ Some empty_state) × (p.places (plain_at k) < n)
  pub alike : (a b : Id) → same_object a b ≡ true → p.states a ≡ p.states b
  pub place : p.places session < n

pub record IsWaiting (n : ℕ) (line : List ℕ) (p : Pool) : Type 0 where
  pub pending : p.pending ≡ line_message (99 ∷ line) ∷ []
  pub session_at : p.states session ≡ Some empty_state
  pub rooted : IsRooted n p
  pub printed : p.printed ≡ []

pub record IsWorking (n t a : ℕ) (p : Pool) : Type 0 where
  pub tree : Trees.Tree
  pub bag : (h : Message → ℕ) → sum_by h p.pending ≡ sum_by h (Trees.sent t top tree)
  pub total : Trees.value tree ≡ fibonacci a
  pub standing : Trees.Stands n top tree p.states p.places
  pub fitting : Trees.Fits n tree
  pub unset : Trees.input tree ≡ None
  pub once : (u : Id) → Trees.occurs u tree ≤ 1
  pub session_at : p.states session ≡ Some (awaiting a)
  pub rooted : IsRooted n p
  pub printed : p.printed ≡ []

pub record IsOver (a : ℕ) (p : Pool) : Type 0 where
  pub pending : p.pending ≡ []
  pub printed : p.printed ≡ fibonacci_text a (pos (fibonacci a)) ∷ []

pub data Phase (n t a : ℕ) (line : List ℕ) (p : Pool) : Type 0 where
  Waits : IsWaiting n line p → Phase n t a line p
  Works : IsWorking n t a p → Phase n t a line p
  Over : IsOver a p → Phase n t a line p

-- ---- what the session does

asks_first : (n t a : ℕ) (line : List ℕ) → question_of line ≡ Some (record { number = a; threshold = t })
    → computing_outcome n empty_state (named 0 0 (line_message (99 ∷ line))) ≡ spoken 1 (awaited_out (record { number = a; slot = 0 })) (first_call (record { number = a; threshold = t }) 0 ∷ []) []
unfolding session_outcome
asks_first n t a line e =
    fib_computed n empty_state (named 0 0 (line_message (99 ∷ line))) line (record { number = a; threshold = t }) refl refl e ∙ rw e refl

prints_last : (n a v : ℕ) → a ≤ 92 → computing_outcome n (awaiting a) (named 0 0 (set_message top v)) ≡ spoken 1 [] [] (fibonacci_text a (pos v) ∷ [])
unfolding session_outcome
prints_last n a v h = rw (le-leb a 92 h) refl

-- ---- one step

module _ (law : Rules) (c : Computes law) (t a : ℕ) (line : List ℕ) (large : 2 ≤ t) (few : t ≤ 92) (small : a ≤ 92)
    (asks : question_of line ≡ Some (record { number = a; threshold = t })) (p q : Pool) where
  abbrev n : ℕ
  n = law.localities

  step_of : (h : IsActed law p q) → p.places (target_in h.message) < n → IsRooted n p → IsStep law p.states q.states p.places q.places h.message h.state h.made
  step_of h low rooted = record {
    stands = h.stands;
    new = h.new;
    target = same_target law p q h (target_in h.message) (same_object-refl (target_in h.message));
    others = other_target law p q h;
    low = lower law p q h low;
    born = λ u e. let z = places_are law p q h u ∙ ap (λ b. cond b (p.places (target_in h.message)) (p.places u)) e in omega arith;
    alike = rooted.alike;
    plain = rooted.plain;
  }

  -- the tree is rewritten
  works_on : (w : IsWorking n t a p) (h : IsActed law p q) → p.places (target_in h.message) < n
      → IsStepped law t p.states q.states p.places q.places h.message h.state h.made top w.tree → IsWorking n t a q
  works_on w h low st = record {
    tree = st.tree;
    bag = λ k.
        omega (
          arith,
          ap (sum_by k) (pending_are law p q h),
          st.bag k,
          w.bag k,
          sum_split k h.before h.message h.behind p.pending h.pending,
          sum_by-append k (sent_by h.message h.state h.made (outcome_in law (p.places (target_in h.message)) h.message h.state)) (h.before ++ h.behind),
        );
    total = st.total ∙ w.total;
    standing = st.standing;
    fitting = st.fitting;
    unset = st.unset;
    once = λ u. elim (st.among u) [
      | inl i ↦ let z = w.once u in omega arith
      | inr i ↦ let z = i.1 in let y = none_of u i.0 in omega arith
    ];
    session_at = other_target law p q h session (Trees.kind_apart session (target_in h.message) apart_kind) ∙ (st.apart session (λ e. absurd (omega arith)) ∙ w.session_at);
    rooted = record {
      plain = λ k l. (plain_after k l, lower law p q h low (plain_at k) ((w.rooted).plain k l).1);
      alike = alike_after law p q h (w.rooted).alike;
      place = lower law p q h low session (w.rooted).place;
    };
    printed = printed_are law p q h ∙ (ap (λ texts. p.printed ++ texts) st.silent ∙ (append-nil p.printed ∙ w.printed));
  }
    where
      zero_from : (k : ℕ) → (1 ≤ k → ⊥) → k ≡ 0
      zero_from zero f = refl
      zero_from (suc k) f = absurd (f (omega arith))

      none_of : (u : Id) → p.states u ≡ None → Trees.occurs u w.tree ≡ 0
      none_of u e = zero_from (Trees.occurs u w.tree) (λ i.
          let z = Trees.tree_there n w.tree top p.states p.places (w.rooted).alike u w.standing i in Trees.some_none z.state (sym z.is ∙ e))

      kind_of : ((target_in h.message).kind ≡ 7) ⊎ ((target_in h.message).kind ≡ 33)
      kind_of = elim st.place [
        | inl e ↦ inl e
        | inr e ↦ inr (Trees.tree_there n w.tree top p.states p.places (w.rooted).alike (target_in h.message) w.standing e).kind
      ]

      apart_kind : 1 ≢ (target_in h.message).kind
      apart_kind e = elim kind_of [ inl i ↦ absurd (omega arith) | inr i ↦ absurd (omega arith) ]

      plain_after : (k : ℕ) → k < n → q.states (plain_at k) ≡ Some empty_state
      plain_after k l = elim (cases_Bool (same_object (plain_at k) (target_in h.message))) [
        | inl e ↦ same_target law p q h (plain_at k) e ∙ ap Some (st.calm (sym (Trees.kind_same (plain_at k) (target_in h.message) e)))
        | inr e ↦ other_target law p q h (plain_at k) e ∙ (st.apart (plain_at k) (λ z. absurd (omega arith)) ∙ ((w.rooted).plain k l).0)
      ]

  -- the answer is printed
  works_over : (w : IsWorking n t a p) (h : IsActed law p q) → p.places (target_in h.message) < n → (v : ℕ) → w.tree ≡ Trees.Set v → h.message ≡ set_message top v → IsOver a q
  works_over w h low v et em =
      let place = (w.rooted).place in
      let es : h.state ≡ awaiting a = Trees.some_same h.state (awaiting a) (sym h.stands ∙ (ap (λ m. p.states (target_in m)) em ∙ w.session_at)) in
      let out : outcome_in law (p.places (target_in h.message)) h.message h.state ≡ spoken 1 [] [] (fibonacci_text a (pos v) ∷ []) =
      ap (λ m. outcome_in law (p.places (target_in m)) m h.state) em ∙ ap (λ s. outcome_in law (p.places session) (set_message top v) s) es
      ∙ c.session (p.places session) (awaiting a) (named 0 0 (set_message top v)) place refl ∙ prints_last n a v small in
      let none : sent_by h.message h.state h.made (outcome_in law (p.places (target_in h.message)) h.message h.state) ≡ [] = ap (sent_by h.message h.state h.made) out in
      record {
        pending = none_left q.pending (omega (
          arith,
          ap (sum_by (λ y. 1)) (pending_are law p q h),
          ap (λ ms. sum_by (λ y. 1) (ms ++ (h.before ++ h.behind))) none,
          sum_split (λ y. 1) h.before h.message h.behind p.pending h.pending,
          w.bag (λ y. 1),
          ap (λ T. sum_by (λ y. 1) (Trees.sent t top T)) et,
          sum_by-cons (λ y. 1) (set_message top v) [],
        ));
        printed = printed_are law p q h ∙ (ap (λ o. p.printed ++ o.prints) out ∙ (ap (λ texts. texts ++ fibonacci_text a (pos v) ∷ []) w.printed
            ∙ ap (λ y. fibonacci_text a (pos y) ∷ []) (sym (ap Trees.value et) ∙ w.total)));
      }

  works_step : IsWorking n t a p → IsPoolStep law p q → Phase n t a line q
  works_step w (inl h) =
      let there = in_bag h.before h.message h.behind p.pending (Trees.sent t top w.tree) h.pending w.bag in
      let low = any_holds (λ m. p.places (target_in m) < n) h.message (Trees.sent t top w.tree)
      (all_low t n p.places p.states (λ k l. ((w.rooted).plain k l).1) w.tree top (w.rooted).place w.standing w.fitting) there in
      elim (step_at law c t large few p.states q.states p.places q.places h.message h.state h.made (step_of h low w.rooted) w.tree top there w.standing w.fitting w.once
      (let z = w.total in let y = fibonacci_small a small in omega arith)) [
        | inl z ↦ Over (works_over w h low z.0 z.1 z.2)
        | inr z ↦ Works (works_on w h low z)
      ]
  works_step w (inr h) =
      let m = h.1.message in
      let there = in_bag h.1.before m h.1.behind p.pending (Trees.sent t top w.tree) h.1.pending w.bag in
      absurd (Trees.some_none h.1.to (sym h.1.move ∙ any_holds (λ y. moves_to y ≡ None) m (Trees.sent t top w.tree) (Trees.none_moves t top w.tree) there))

  -- ---- the line is read

  waits_step : IsWaiting n line p → IsPoolStep law p q → Phase n t a line q
  waits_step w (inl h) = Works (begins h (only h.before h.message h.behind (sym w.pending ∙ h.pending)))
    where
      only : (before : List Message) (m : Message) (behind : List Message) → line_message (99 ∷ line) ∷ [] ≡ before ++ m ∷ behind
          → (m ≡ line_message (99 ∷ line)) × (before ++ behind ≡ [])
      only [] m behind e = (cc, cc)
      only (y ∷ []) m behind e = absurd (let z : m ∷ behind ≡ [] = cc in cc)
      only (y ∷ (z ∷ before)) m behind e = absurd (let u : z ∷ (before ++ m ∷ behind) ≡ [] = cc in cc)

      begins : (h : IsActed law p q) → (h.message ≡ line_message (99 ∷ line)) × (h.before ++ h.behind ≡ []) → IsWorking n t a q
      begins h one =
          let em = one.0 in
          let place = (w.rooted).place in
          let low : p.places (target_in h.message) < n = subst (λ m. p.places (target_in m) < n) (sym em) place in
          let es : h.state ≡ empty_state = Trees.some_same h.state empty_state (sym h.stands ∙ (ap (λ m. p.states (target_in m)) em ∙ w.session_at)) in
          let out : outcome_in law (p.places (target_in h.message)) h.message h.state ≡ spoken 1 (awaited_out (record { number = a; slot = 0 })) (first_call (record { number = a; threshold = t }) 0 ∷ []) [] =
          ap (λ m. outcome_in law (p.places (target_in m)) m h.state) em ∙ ap (λ s. outcome_in law (p.places session) (line_message (99 ∷ line)) s) es
          ∙ c.session (p.places session) empty_state (named 0 0 (line_message (99 ∷ line))) place refl ∙ asks_first n t a line asks in
          let sends : sent_by h.message h.state h.made (outcome_in law (p.places (target_in h.message)) h.message h.state) ≡ fib_message t a 0 top ∷ [] =
          ap (sent_by h.message h.state h.made) out in
          let spared : (u : Id) → with_made p.states (outcome_in law (p.places (target_in h.message)) h.message h.state).makes h.made u ≡ p.states u =
          λ u. ap (λ (o : Outcome). with_made p.states o.makes h.made u) out in
          let far : (k : ℕ) → same_object (plain_at k) (target_in h.message) ≡ false =
          λ k. ap (λ m. same_object (plain_at k) (target_in m)) em ∙ Trees.kind_apart (plain_at k) session (λ e. absurd (omega arith)) in
          record {
            tree = Trees.Calc a 0;
            bag = λ k. ap (sum_by k) (pending_are law p q h ∙ (ap (λ ms. sent_by h.message h.state h.made (outcome_in law (p.places (target_in h.message)) h.message h.state) ++ ms) one.1
                ∙ (append-nil (sent_by h.message h.state h.made (outcome_in law (p.places (target_in h.message)) h.message h.state)) ∙ sends)));
            total = refl;
            standing = tt;
            fitting = (small, let z = place in omega arith);
            unset = refl;
            once = λ u. omega arith;
            session_at = same_target law p q h session (ap (λ m. same_object session (target_in m)) em ∙ same_object-refl session)
                ∙ ap (λ o. Some (state_after h.state (named 0 0 h.message) h.made o)) out;
            rooted = record {
              plain = λ k l. (other_target law p q h (plain_at k) (far k) ∙ (spared (plain_at k) ∙ ((w.rooted).plain k l).0), lower law p q h low (plain_at k) ((w.rooted).plain k l).1);
              alike = alike_after law p q h (w.rooted).alike;
              place = lower law p q h low session place;
            };
            printed = printed_are law p q h ∙ (ap (λ o. p.printed ++ o.prints) out ∙ (append-nil p.printed ∙ w.printed));
          }
  waits_step w (inr h) = absurd (Trees.some_none h.1.to (sym h.1.move ∙ still h.1.before h.1.message h.1.behind (sym w.pending ∙ h.1.pending)))
    where
      still : (before : List Message) (m : Message) (behind : List Message) → line_message (99 ∷ line) ∷ [] ≡ before ++ m ∷ behind → moves_to m ≡ None
      still [] m behind e = let z : m ≡ line_message (99 ∷ line) = cc in ap moves_to z
      still (y ∷ []) m behind e = absurd (let z : m ∷ behind ≡ [] = cc in cc)
      still (y ∷ (z ∷ before)) m behind e = absurd (let u : z ∷ (before ++ m ∷ behind) ≡ [] = cc in cc)

  no_split : (before : List Message) (m : Message) (behind : List Message) → [] ≡ before ++ m ∷ behind → ⊥
  no_split [] m behind h = cc
  no_split (y ∷ before) m behind h = cc

  over_step : IsOver a p → IsPoolStep law p q → Phase n t a line q
  over_step w (inl h) = absurd (no_split h.before h.message h.behind (sym w.pending ∙ h.pending))
  over_step w (inr h) = absurd (no_split h.1.before h.1.message h.1.behind (sym w.pending ∙ h.1.pending))

  pub phase_step : Phase n t a line p → IsPoolStep law p q → Phase n t a line q
  phase_step (Waits w) h = waits_step w h
  phase_step (Works w) h = works_step w h
  phase_step (Over w) h = over_step w h

-- ---- steps

module _ (law : Rules) (c : Computes law) (t a : ℕ) (line : List ℕ) (large : 2 ≤ t) (few : t ≤ 92) (small : a ≤ 92)
    (asks : question_of line ≡ Some (record { number = a; threshold = t })) where
  pub phases : (k : ℕ) (p q : Pool) → Phase law.localities t a line p → Steps law k p q → Phase law.localities t a line q
  phases zero p q h steps = subst (Phase law.localities t a line) (sym steps) h
  phases (suc k) p q h steps = phases k steps.0 q (phase_step law c t a line large few small asks p steps.0 h steps.1) steps.2

  -- once nothing is pending
  pub ends : (q : Pool) → Phase law.localities t a line q → q.pending ≡ [] → q.printed ≡ fibonacci_text a (pos (fibonacci a)) ∷ []
  ends q (Waits w) none = absurd (let z : line_message (99 ∷ line) ∷ [] ≡ [] = sym w.pending ∙ none in cc)
  ends q (Works w) none = absurd (omega (arith, sent_some t law.localities w.tree top w.fitting w.unset, w.bag (λ y. 1), ap (sum_by (λ y. 1)) none))
  ends q (Over w) none = w.printed

  -- before that
  pub so_far : (q : Pool) → Phase law.localities t a line q → (q.printed ≡ []) ⊎ (q.printed ≡ fibonacci_text a (pos (fibonacci a)) ∷ [])
  so_far q (Waits w) = inl w.printed
  so_far q (Works w) = inl w.printed
  so_far q (Over w) = inr w.printed
