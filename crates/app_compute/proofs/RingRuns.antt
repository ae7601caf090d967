-- Runs of the pool where a ring is stepped: the line, the pieces, and the end.
use Rattle.std.specs.Prelude.{ℕ, zero, suc, ℤ, Bool, true, false, cond, List, [], ◌∷◌, ◌++◌, ◌≡◌, ◌≢◌, ◌+◌, ◌-◌, ◌*◌, ◌%◌, ◌<◌, ◌≤◌, ◌&&◌, ◌||◌, Option, Some, None, length, refl}
use Rattle.std.specs.List.{AllByRecursion, list_any, sum_by}
use Rattle.std.proofs.Common.{sym, ap, ◌∙◌, subst, arith, inl, inr, append-nil, append_assoc}
use Rattle.std.proofs.Math.Nat.{mod-lt}
use Rattle.std.proofs.lemmas.Bool.{cases_Bool}
use Rattle.std.proofs.lemmas.List.Sums.{sum_by-cons, sum_by-append}
use Rattle.hpx_value.specs.Ids.{Id, same_object}
use Rattle.hpx_value.specs.Values.{empty_state, named}
use Rattle.hpx_value.specs.declared.value.Message.{Message}
use Rattle.hpx_value.specs.Hands.{session, state_after}
use Rattle.hpx_journal.specs.Entries.{Rules, line_message}
use Rattle.hpx_journal.specs.Pool.{Pool, AreNew, IsActed, target_in, moves_to, outcome_in, sent_by, with_made}
use Rattle.hpx_journal.proofs.Same.{same_object-refl}
use Rattle.hpx_journal.proofs.SameMessage.{same_message}
use Rattle.hpx_calls.specs.Outcomes.{outcome_of}
use Rattle.hpx_calls.specs.Tables.{stepped}
use Rattle.app_compute.specs.Types.{State, Outcome}
use Rattle.app_compute.specs.Computing.{computing_outcome}
use Rattle.app_compute.specs.Judging.{Computes}
use Rattle.app_compute.specs.Ring.{IsFilled, first_of, joined, last_of, ring_step, row_text, row_texts}
use Rattle.app_compute.specs.StencilSession.{first_rows, printed}
use Rattle.app_compute.proofs.Acted.{same_target, other_target, places_are, lower, alike_after, printed_are, pending_are}
use Rattle.app_compute.proofs.Bags.{none_left, sum_split, in_bag, any_holds}
use Rattle.app_compute.proofs.Does.{Does}
use Rattle.app_compute.proofs.Pieces
use Rattle.app_compute.proofs.PieceActs.{IsBounded, Made, new_does, step_does, row_make}
use Rattle.app_compute.proofs.PieceAnswers as Answers
use Rattle.app_compute.proofs.PieceViews
use Rattle.app_compute.proofs.RingRows.{AreLow, row_printed, low_step, length-step, length-stepped}
use Rattle.app_compute.proofs.Rings.{ring_whole}
use Rattle.app_compute.proofs.Trees.{kind_apart, kind_same, only_message, own, own_none, own_one, some_none, some_same}
use Rattle.app_compute.proofs.TreeSteps.{made_old, none_made}

-- ---- phases

-- components stand, at places that there are; objects are known by what they are
pub record IsRooted (n : ℕ) (p : Pool) : Type 0 where
  pub maker : (k : ℕ) → k < n → (p.states (Pieces.maker_at k) ≡ Some empty_state) × (p.places (Pieces.maker_at k) < n)
  pub alike : (a b : Id) → same_object a b ≡ true → p.states a ≡ p.states b
  pub place : p.places session < n

-- the line is to be read
pub record IsFed (n : ℕ) (line : List ℕ) (p : Pool) : Type 0 where
  pub pending : p.pending ≡ line_message (99 ∷ line) ∷ []
  pub session_at : p.states session ≡ Some empty_state
  pub rooted : IsRooted n p
  pub printed : p.printed ≡ []

-- slots that are drawn ahead
abbrev pub ahead : Bool → ℕ
ahead false = 0
ahead true = 32

-- what is to be printed, where so many rows are to come; whether the ring is stepped already
abbrev pub to_come : Bool → List ℤ → ℕ → List (List ℕ)
to_come false xs left = row_texts xs left
to_come true xs zero = []
to_come true xs (suc left) = row_text xs ∷ row_texts xs left

-- the pieces of a step are pending
pub record IsOn (n : ℕ) (texts : List (List ℕ)) (b : Bool) (drawn left slot size : ℕ) (pieces : List Pieces.Piece) (p : Pool) : Type 0 where
  pub bounded : IsBounded b drawn left slot size pieces
  pub some : 1 ≤ size
  pub more : 1 ≤ left
  pub room : drawn + 32 * left ≤ 40000 + ahead b
  pub first : b ≡ false → Pieces.rows_in pieces ≡ first_rows size 0 (length pieces)
  pub low : AreLow (joined (Pieces.rows_in pieces))
  pub points : length (joined (Pieces.rows_in pieces)) ≤ 1024
  pub bag : (h : Message → ℕ) → sum_by h p.pending ≡ sum_by h (Pieces.all_due n b slot 0 pieces)
  pub open_yet : Pieces.all_kept pieces ≡ false
  pub standing : AllByRecursion (Pieces.Stands n p.states p.places) pieces
  pub once : (u : Id) → Pieces.occurs u pieces ≤ 1
  pub session_at : p.states session ≡ Some (PieceViews.stepping b drawn left slot size pieces)
  pub rooted : IsRooted n p
  pub printed : p.printed ++ to_come b (joined (Pieces.rows_in pieces)) left ≡ texts

pub record IsOver (texts : List (List ℕ)) (p : Pool) : Type 0 where
  pub pending : p.pending ≡ []
  pub printed : p.printed ≡ texts

pub data Phase (n : ℕ) (texts : List (List ℕ)) (line : List ℕ) (p : Pool) : Type 0 where
  Waits : IsFed n line p → Phase n texts line p
  Works : (b : Bool) → (drawn left slot size : ℕ) → (pieces : List Pieces.Piece) → IsOn n texts b drawn left slot size pieces p → Phase n texts line p
  Over : IsOver texts p → Phase n texts line p

-- ---- objects of pieces

-- an object of a piece stands, and is a part of a ring
pub record IsThere (f : Id → Option State) (u : Id) : Type 0 where
  pub kind : u.kind ≡ 17
  pub state : State
  pub is : f u ≡ Some state

held_there : (n : ℕ) (f : Id → Option State) (pl : Id → ℕ) (o : Id) (xs : List ℤ) (u : Id) → ((a b : Id) → same_object a b ≡ true → f a ≡ f b)
    → Pieces.Holds n f pl o xs → 1 ≤ own u o → IsThere f u
held_there n f pl o xs u alike h i = elim (cases_Bool (same_object u o)) [
  | inl e ↦ record { kind = kind_same u o e ∙ h.0; state = Pieces.row_state xs; is = alike u o e ∙ h.2 }
  | inr e ↦ let none = own_none u o e in absurd (omega arith)
]

piece_there : (n : ℕ) (f : Id → Option State) (pl : Id → ℕ) (x : Pieces.Piece) (u : Id) → ((a b : Id) → same_object a b ≡ true → f a ≡ f b)
    → Pieces.Stands n f pl x → 1 ≤ Pieces.owns u x → IsThere f u
piece_there n f pl (Pieces.Wanted xs) u alike h i = absurd (omega arith)
piece_there n f pl (Pieces.Asked o left xs right) u alike h i = held_there n f pl o xs u alike h i
piece_there n f pl (Pieces.Said o xs) u alike h i = held_there n f pl o xs u alike h i
piece_there n f pl (Pieces.Kept o xs) u alike h i = held_there n f pl o xs u alike h i

pieces_there : (n : ℕ) (f : Id → Option State) (pl : Id → ℕ) (pieces : List Pieces.Piece) (u : Id) → ((a b : Id) → same_object a b ≡ true → f a ≡ f b)
    → AllByRecursion (Pieces.Stands n f pl) pieces → 1 ≤ Pieces.occurs u pieces → IsThere f u
pieces_there n f pl [] u alike h i = absurd (omega arith)
pieces_there n f pl (x ∷ pieces) u alike h i =
    by (Pieces.owns u x) (Pieces.occurs u pieces) i (λ j. piece_there n f pl x u alike h.0 j) (λ j. pieces_there n f pl pieces u alike h.1 j)
  where
    by : (j k : ℕ) → 1 ≤ j + k → (1 ≤ j → IsThere f u) → (1 ≤ k → IsThere f u) → IsThere f u
    by zero k some one other = other (omega arith)
    by (suc j) k some one other = one (omega arith)

-- what is not there is no piece's
none_there : (n : ℕ) (f : Id → Option State) (pl : Id → ℕ) (pieces : List Pieces.Piece) (u : Id) → ((a b : Id) → same_object a b ≡ true → f a ≡ f b)
    → AllByRecursion (Pieces.Stands n f pl) pieces → f u ≡ None → Pieces.occurs u pieces ≡ 0
none_there n f pl pieces u alike h e = zero_from (Pieces.occurs u pieces) (λ i. let z = pieces_there n f pl pieces u alike h i in some_none z.state (sym z.is ∙ e))
  where
    zero_from : (k : ℕ) → (1 ≤ k → ⊥) → k ≡ 0
    zero_from zero g = refl
    zero_from (suc k) g = absurd (g (omega arith))

-- pieces whose objects stay as they are
holds_other : (n : ℕ) (f g : Id → Option State) (pl pl' : Id → ℕ) (o : Id) (xs : List ℤ) → ((u : Id) → pl u < n → pl' u < n)
    → ((s : State) → o.kind ≡ 17 → f o ≡ Some s → g o ≡ Some s) → Pieces.Holds n f pl o xs → Pieces.Holds n g pl' o xs
holds_other n f g pl pl' o xs low same h = (h.0, low o h.1, same (Pieces.row_state xs) h.0 h.2)

stands_other : (n : ℕ) (f g : Id → Option State) (pl pl' : Id → ℕ) (pieces : List Pieces.Piece) → ((u : Id) → pl u < n → pl' u < n)
    → ((u : Id) → 1 ≤ Pieces.occurs u pieces → (s : State) → u.kind ≡ 17 → f u ≡ Some s → g u ≡ Some s) → AllByRecursion (Pieces.Stands n f pl) pieces
    → AllByRecursion (Pieces.Stands n g pl') pieces
stands_other n f g pl pl' [] low same h = tt
stands_other n f g pl pl' (x ∷ pieces) low same h =
    (by x h.0 (λ u i s k e. same u (omega arith) s k e), stands_other n f g pl pl' pieces low (λ u i s k e. same u (omega arith) s k e) h.1)
  where
    own_self : (o : Id) → 1 ≤ own o o
    own_self o = let one = own_one o o (same_object-refl o) in omega arith

    by : (y : Pieces.Piece) → Pieces.Stands n f pl y → ((u : Id) → 1 ≤ Pieces.owns u y → (s : State) → u.kind ≡ 17 → f u ≡ Some s → g u ≡ Some s) → Pieces.Stands n g pl' y
    by (Pieces.Wanted xs) h same = tt
    by (Pieces.Asked o left xs right) h same = holds_other n f g pl pl' o xs low (same o (own_self o)) h
    by (Pieces.Said o xs) h same = holds_other n f g pl pl' o xs low (same o (own_self o)) h
    by (Pieces.Kept o xs) h same = holds_other n f g pl pl' o xs low (same o (own_self o)) h

-- ---- messages of pieces

pub none_move : (n : ℕ) (b : Bool) (slot q : ℕ) (pieces : List Pieces.Piece) → AllByRecursion (λ m. moves_to m ≡ None) (Pieces.all_due n b slot q pieces)
none_move n b slot q [] = tt
none_move n b slot q (x ∷ pieces) = by b x _ (none_move n b (slot + 1) (q + 1) pieces)
  where
    by : (b : Bool) (y : Pieces.Piece) → (ms : List Message) → AllByRecursion (λ m. moves_to m ≡ None) ms → AllByRecursion (λ m. moves_to m ≡ None) (Pieces.due n b slot q y ++ ms)
    by b (Pieces.Wanted xs) ms rest = (refl, rest)
    by b (Pieces.Asked o left xs right) ms rest = (refl, rest)
    by false (Pieces.Said o xs) ms rest = (refl, rest)
    by true (Pieces.Said o xs) ms rest = (refl, rest)
    by b (Pieces.Kept o xs) ms rest = rest

-- each goes to a locality that there is
due_low : (n : ℕ) (b : Bool) (slot q : ℕ) (f : Id → Option State) (pl : Id → ℕ) (pieces : List Pieces.Piece) → 1 ≤ n → ((k : ℕ) → k < n → pl (Pieces.maker_at k) < n) → pl session < n
    → AllByRecursion (Pieces.Stands n f pl) pieces → AllByRecursion (λ m. pl (target_in m) < n) (Pieces.all_due n b slot q pieces)
due_low n b slot q f pl [] some maker place h = tt
due_low n b slot q f pl (x ∷ pieces) some maker place h = by b x h.0 _ (due_low n b (slot + 1) (q + 1) f pl pieces some maker place h.1)
  where
    by : (b : Bool) (y : Pieces.Piece) → Pieces.Stands n f pl y → (ms : List Message) → AllByRecursion (λ m. pl (target_in m) < n) ms
        → AllByRecursion (λ m. pl (target_in m) < n) (Pieces.due n b slot q y ++ ms)
    by b (Pieces.Wanted xs) h ms rest = (maker (q % n) (mod-lt q some), rest)
    by b (Pieces.Asked o left xs right) h ms rest = (h.1, rest)
    by false (Pieces.Said o xs) h ms rest = (place, rest)
    by true (Pieces.Said o xs) h ms rest = (place, rest)
    by b (Pieces.Kept o xs) h ms rest = rest

-- something is pending until all answers have come
pub due_some : (n : ℕ) (b : Bool) (slot q : ℕ) (pieces : List Pieces.Piece) → Pieces.all_kept pieces ≡ false → 1 ≤ sum_by (λ m. 1) (Pieces.all_due n b slot q pieces)
due_some n b slot q [] e = cc
due_some n b slot q (x ∷ pieces) e = by x e (λ f. due_some n b (slot + 1) (q + 1) pieces f)
  where
    by : (y : Pieces.Piece) → (Pieces.is_kept y && Pieces.all_kept pieces) ≡ false → (Pieces.all_kept pieces ≡ false → 1 ≤ sum_by (λ m. 1) (Pieces.all_due n b (slot + 1) (q + 1) pieces))
        → 1 ≤ sum_by (λ m. 1) (Pieces.due n b slot q y ++ (Pieces.all_due n b (slot + 1) (q + 1) pieces))
    by (Pieces.Wanted xs) e more = omega (arith, sum_by-cons (λ m. 1) (Pieces.new_message n slot q xs) (Pieces.all_due n b (slot + 1) (q + 1) pieces))
    by (Pieces.Asked o left xs right) e more = omega (arith, sum_by-cons (λ m. 1) (Pieces.step_message slot o left right) (Pieces.all_due n b (slot + 1) (q + 1) pieces))
    by (Pieces.Said o xs) e more = omega (arith, sum_by-cons (λ m. 1) (Pieces.answer_message b slot o xs) (Pieces.all_due n b (slot + 1) (q + 1) pieces))
    by (Pieces.Kept o xs) e more = more e

due_none : (n : ℕ) (b : Bool) (slot q : ℕ) (pieces : List Pieces.Piece) → Pieces.all_kept pieces ≡ true → Pieces.all_due n b slot q pieces ≡ []
due_none n b slot q [] e = refl
due_none n b slot q (x ∷ pieces) e = by x e (λ f. due_none n b (slot + 1) (q + 1) pieces f)
  where
    by : (y : Pieces.Piece) → (Pieces.is_kept y && Pieces.all_kept pieces) ≡ true → (Pieces.all_kept pieces ≡ true → Pieces.all_due n b (slot + 1) (q + 1) pieces ≡ [])
        → Pieces.due n b slot q y ++ Pieces.all_due n b (slot + 1) (q + 1) pieces ≡ []
    by (Pieces.Kept o xs) e more = more e
    by (Pieces.Wanted xs) e more = cc
    by (Pieces.Asked o left xs right) e more = cc
    by (Pieces.Said o xs) e more = cc

open_middle : (front back : List Pieces.Piece) (x : Pieces.Piece) → Pieces.is_kept x ≡ false → Pieces.all_kept (front ++ x ∷ back) ≡ false
open_middle [] back x e = ap (λ b. b && Pieces.all_kept back) e
open_middle (z ∷ front) back x e = ap (λ b. Pieces.is_kept z && b) (open_middle front back x e) ∙ and_false (Pieces.is_kept z)
  where
    and_false : (b : Bool) → (b && false) ≡ false
    and_false true = refl
    and_false false = refl

-- ---- what a session keeps of pieces before and behind one

parts_middle : (b : Bool) (k : ℕ) (front back : List Pieces.Piece) (x y : Pieces.Piece) → PieceViews.seen_to b x ≡ PieceViews.seen_to b y → PieceViews.seen_row b x ≡ PieceViews.seen_row b y
    → PieceViews.parts_from b k (front ++ x ∷ back) ≡ PieceViews.parts_from b k (front ++ y ∷ back)
parts_middle b k [] back x y e f =
    ap (λ to. record { to = PieceViews.place_from k to; row = PieceViews.seen_row b x } ∷ PieceViews.parts_from b (PieceViews.next_place k to) back) e
    ∙ ap (λ row. record { to = PieceViews.place_from k (PieceViews.seen_to b y); row = row } ∷ PieceViews.parts_from b (PieceViews.next_place k (PieceViews.seen_to b y)) back) f
parts_middle b k (z ∷ front) back x y e f =
    ap (λ ps. record { to = PieceViews.place_from k (PieceViews.seen_to b z); row = PieceViews.seen_row b z } ∷ ps)
    (parts_middle b (PieceViews.next_place k (PieceViews.seen_to b z)) front back x y e f)

ids_middle : (b : Bool) (front back : List Pieces.Piece) (x y : Pieces.Piece) → PieceViews.seen_to b x ≡ PieceViews.seen_to b y
    → PieceViews.ids_of b (front ++ x ∷ back) ≡ PieceViews.ids_of b (front ++ y ∷ back)
ids_middle b [] back x y e = ap (λ o. PieceViews.id_of o ++ PieceViews.ids_of b back) e
ids_middle b (z ∷ front) back x y e = ap (λ ids. PieceViews.id_of (PieceViews.seen_to b z) ++ ids) (ids_middle b front back x y e)

stepping_middle : (b : Bool) (drawn left slot size : ℕ) (front back : List Pieces.Piece) (x y : Pieces.Piece) → PieceViews.seen_to b x ≡ PieceViews.seen_to b y
    → PieceViews.seen_row b x ≡ PieceViews.seen_row b y
    → PieceViews.stepping b drawn left slot size (front ++ x ∷ back) ≡ PieceViews.stepping b drawn left slot size (front ++ y ∷ back)
stepping_middle b drawn left slot size front back x y e f = rw (parts_middle b 0 front back x y e f, ids_middle b front back x y e) refl

-- ---- one action

module _ (law : Rules) (c : Computes law) (texts : List (List ℕ)) (line : List ℕ) (p q : Pool) (h : IsActed law p q) where
  abbrev n : ℕ
  n = law.localities

  abbrev m : Message
  m = h.message

  abbrev here : ℕ
  here = p.places (target_in m)

  abbrev out : Outcome
  out = outcome_in law here m h.state

  abbrev On : Bool → (drawn left slot size : ℕ) → List Pieces.Piece → Pool → Type 0
  On b drawn left slot size pieces w = IsOn n texts b drawn left slot size pieces w

  -- what stands elsewhere stays as it is
  elsewhere : ((a b : Id) → same_object a b ≡ true → p.states a ≡ p.states b) → (u : Id) (s : State) → same_object u (target_in m) ≡ false → p.states u ≡ Some s → q.states u ≡ Some s
  elsewhere alike u s far e = other_target law p q h u far ∙ made_old p.states here alike out.makes h.made h.new u s e

  -- what is neither the target nor made stays
  stays : (u : Id) → same_object u (target_in m) ≡ false → with_made p.states out.makes h.made u ≡ p.states u → q.states u ≡ p.states u
  stays u far apart = other_target law p q h u far ∙ apart

  -- roots are still there
  rooted_after : IsRooted n p → here < n → ((k : ℕ) → k < n → q.states (Pieces.maker_at k) ≡ Some empty_state) → IsRooted n q
  rooted_after rooted low makers = record {
    maker = λ k l. (makers k l, lower law p q h low (Pieces.maker_at k) (rooted.maker k l).1);
    alike = alike_after law p q h rooted.alike;
    place = lower law p q h low session rooted.place;
  }

  -- the bag without the message
  others_sum : (k : Message → ℕ) → sum_by k p.pending ≡ sum_by k (h.before ++ h.behind) + k m
  others_sum k = sum_split k h.before m h.behind p.pending h.pending

  pending_sum : (k : Message → ℕ) → sum_by k q.pending ≡ sum_by k (sent_by m h.state h.made out) + sum_by k (h.before ++ h.behind)
  pending_sum k = ap (sum_by k) (pending_are law p q h) ∙ sum_by-append k (sent_by m h.state h.made out) (h.before ++ h.behind)

  -- ---- a piece becomes another

  record IsReplaced (b : Bool) (slot size : ℕ) (front back : List Pieces.Piece) (x y : Pieces.Piece) : Type 0 where
    comes : Pieces.comes_to x ≡ Pieces.comes_to y
    fits : Pieces.Fits b size y
    to : PieceViews.seen_to b x ≡ PieceViews.seen_to b y
    row : PieceViews.seen_row b x ≡ PieceViews.seen_row b y
    open_yet : Pieces.is_kept y ≡ false
    gives : Pieces.due n b (slot + length front) (0 + length front) x ≡ m ∷ []
    sends : sent_by m h.state h.made out ≡ Pieces.due n b (slot + length front) (0 + length front) y
    stands : Pieces.Stands n q.states q.places y
    target : (target_in m).kind ≢ 1
    apart : (u : Id) → u.kind ≢ 17 → with_made p.states out.makes h.made u ≡ p.states u
    makers : (k : ℕ) → k < n → same_object (Pieces.maker_at k) (target_in m) ≡ true → state_after h.state (named 0 0 m) h.made out ≡ empty_state
    once : (u : Id) → Pieces.occurs u (front ++ y ∷ back) ≤ 1
    far : (u : Id) → u.kind ≡ 17 → same_object u (target_in m) ≡ true → Pieces.occurs u front + Pieces.occurs u back ≡ 0
    silent : out.prints ≡ []

  replaced : (b : Bool) (drawn left slot size : ℕ) (front back : List Pieces.Piece) (x y : Pieces.Piece) → On b drawn left slot size (front ++ x ∷ back) p → here < n
      → IsReplaced b slot size front back x y → On b drawn left slot size (front ++ y ∷ back) q
  replaced b drawn left slot size front back x y w low r =
      let bounded = w.bounded in
      let many = Pieces.length-middle front back x y in
      let fits = Pieces.all-front (Pieces.Fits b size) front back x bounded.fits in
      let split = Pieces.all-front (Pieces.Stands n p.states p.places) front back x w.standing in
      let rows = Pieces.rows-middle front back x y r.comes in
      let few = bounded.few in
      let short = bounded.short in
      record {
        bounded = record {
          drawn_low = bounded.drawn_low;
          left_low = bounded.left_low;
          slot_low = bounded.slot_low;
          size_low = bounded.size_low;
          few = omega arith;
          short = subst (λ k. size * k ≤ 1024) many short;
          fits = Pieces.all-middle (Pieces.Fits b size) front back y fits.0 r.fits fits.2;
        };
        some = w.some;
        more = w.more;
        room = w.room;
        first = λ e. sym rows ∙ (w.first e ∙ ap (first_rows size 0) many);
        low = subst (λ rs. AreLow (joined rs)) rows w.low;
        points = subst (λ rs. length (joined rs) ≤ 1024) rows w.points;
        bag = λ k.
            let one = ap (sum_by k) r.gives in
            let two = ap (sum_by k) r.sends in
            omega (
              arith,
              pending_sum k,
              others_sum k,
              w.bag k,
              one,
              two,
              sum_by-cons k m [],
              Pieces.sum-due n b slot 0 front back x k,
              Pieces.sum-due n b slot 0 front back y k,
            );
        open_yet = open_middle front back y r.open_yet;
        standing =
            Pieces.all-middle (Pieces.Stands n q.states q.places) front back y
            (stands_other n p.states q.states p.places q.places front (lower law p q h low) (λ u i s kind e. elsewhere (w.rooted).alike u s (away u kind (λ z. let y = r.far u kind z in omega arith)) e) split.0)
            r.stands
            (stands_other n p.states q.states p.places q.places back (lower law p q h low) (λ u i s kind e. elsewhere (w.rooted).alike u s (away u kind (λ z. let y = r.far u kind z in omega arith)) e) split.2);
        once = r.once;
        session_at =
            stays session (kind_apart session (target_in m) (λ e. r.target (sym e))) (r.apart session (λ e. absurd (omega arith)))
            ∙ (w.session_at ∙ ap Some (stepping_middle b drawn left slot size front back x y r.to r.row));
        rooted = rooted_after w.rooted low (λ k l. elim (cases_Bool (same_object (Pieces.maker_at k) (target_in m))) [
          | inl e ↦ same_target law p q h (Pieces.maker_at k) e ∙ ap Some (r.makers k l e)
          | inr e ↦ stays (Pieces.maker_at k) e (r.apart (Pieces.maker_at k) (λ z. absurd (omega arith))) ∙ ((w.rooted).maker k l).0
        ]);
        printed =
            ap (λ ts. ts ++ to_come b (joined (Pieces.rows_in (front ++ y ∷ back))) left) (printed_are law p q h ∙ (ap (λ ts. p.printed ++ ts) r.silent ∙ append-nil p.printed))
            ∙ (ap (λ rs. p.printed ++ to_come b (joined rs) left) (sym rows) ∙ w.printed);
      }
    where
      away : (u : Id) → u.kind ≡ 17 → (same_object u (target_in m) ≡ true → ⊥) → same_object u (target_in m) ≡ false
      away u kind f = elim (cases_Bool (same_object u (target_in m))) [
        | inl e ↦ absurd (f e)
        | inr e ↦ e
      ]

  -- ---- a part is made

  made_is : (b : Bool) (drawn left slot size : ℕ) (front back : List Pieces.Piece) (xs : List ℤ) → On b drawn left slot size (front ++ Pieces.Wanted xs ∷ back) p → here < n
      → m ≡ Pieces.new_message n (slot + length front) (0 + length front) xs → h.state ≡ empty_state → b ≡ false → (o : Id) → h.made ≡ o ∷ [] → (o.kind ≡ 17) × (p.states o ≡ None)
      → Made h.state m out xs o (Pieces.object_message (slot + length front) o ∷ [])
      → On b drawn left slot size (front ++ Pieces.Said o xs ∷ back) q
  made_is b drawn left slot size front back xs w low em es eb o mo fit d =
      let kind : (target_in m).kind ≡ 3 = ap (λ y. (target_in y).kind) em in
      let far : same_object o (target_in m) ≡ false = kind_apart o (target_in m) (λ z. let k = fit.0 in absurd (omega arith)) in
      let news : (u : Id) → with_made p.states out.makes h.made u ≡ cond (same_object u o) (Some (Pieces.row_state xs)) (p.states u) =
      λ u. ap (λ makes. with_made p.states makes h.made u) d.makes ∙ ap (λ ids. with_made p.states (row_make xs ∷ []) ids u) mo in
      let sized = Pieces.all-front (Pieces.Fits b size) front back (Pieces.Wanted xs) (w.bounded).fits in
      replaced b drawn left slot size front back (Pieces.Wanted xs) (Pieces.Said o xs) w low (record {
        comes = refl;
        fits = sized.1.1;
        to = subst (λ c. PieceViews.seen_to c (Pieces.Wanted xs) ≡ PieceViews.seen_to c (Pieces.Said o xs)) (sym eb) refl;
        row = subst (λ c. PieceViews.seen_row c (Pieces.Wanted xs) ≡ PieceViews.seen_row c (Pieces.Said o xs)) (sym eb) refl;
        open_yet = refl;
        gives = ap (λ y. y ∷ []) (sym em);
        sends = ap (λ ids. sent_by m h.state ids out) mo
            ∙ (d.sends ∙ ap (λ e. Pieces.answer_message e (slot + length front) o xs ∷ []) (sym eb));
        stands = (
          fit.0,
          let z = places_are law p q h o ∙ (ap (λ ids. cond (list_any (same_object o) ids) here (p.places o)) mo ∙ ap (λ e. cond (e || false) here (p.places o)) (same_object-refl o)) in omega arith,
          other_target law p q h o far ∙ (news o ∙ ap (λ e. cond e (Some (Pieces.row_state xs)) (p.states o)) (same_object-refl o)),
        );
        target = λ e. absurd (omega arith);
        apart = λ u other. news u ∙ ap (λ e. cond e (Some (Pieces.row_state xs)) (p.states u)) (kind_apart u o (λ z. other (z ∙ fit.0)));
        makers = λ k l e. ap (λ ids. state_after h.state (named 0 0 m) ids out) mo ∙ (d.state ∙ es);
        once = λ u. elim (cases_Bool (same_object u o)) [
          | inl i ↦
              let none = none_there n p.states p.places (front ++ Pieces.Wanted xs ∷ back) u (w.rooted).alike w.standing ((w.rooted).alike u o i ∙ fit.1) in
              omega (arith, own_one u o i, none, Pieces.occurs-middle u front back (Pieces.Wanted xs), Pieces.occurs-middle u front back (Pieces.Said o xs))
          | inr i ↦ omega (arith, own_none u o i, w.once u, Pieces.occurs-middle u front back (Pieces.Wanted xs), Pieces.occurs-middle u front back (Pieces.Said o xs))
        ];
        far = λ u k e. absurd (let z = kind_same u (target_in m) e in omega arith);
        silent = d.prints;
      })

  wanted_step : (b : Bool) (drawn left slot size : ℕ) (front back : List Pieces.Piece) (xs : List ℤ) → On b drawn left slot size (front ++ Pieces.Wanted xs ∷ back) p → here < n
      → m ≡ Pieces.new_message n (slot + length front) (0 + length front) xs → Phase n texts line q
  wanted_step b drawn left slot size front back xs w low em = by h.made refl (subst (λ makes. AreNew p.states here makes h.made) (made session).makes h.new)
    where
      some : 1 ≤ n
      some = let z = low in omega arith

      sized : (b ≡ false) × (length xs ≡ size)
      sized = (Pieces.all-front (Pieces.Fits b size) front back (Pieces.Wanted xs) (w.bounded).fits).1

      es : h.state ≡ empty_state
      es = some_same h.state empty_state (sym h.stands ∙ (ap (λ y. p.states (target_in y)) em ∙ ((w.rooted).maker ((0 + length front) % n) (mod-lt (0 + length front) some)).0))

      made : (o : Id) → Made h.state m out xs o (Pieces.object_message (slot + length front) o ∷ [])
      made o =
          let place = p.places (Pieces.maker_at ((0 + length front) % n)) in
          let few = (w.bounded).size_low in
          let long = sized.1 in
          let least = w.some in
          let msg = Pieces.new_message n (slot + length front) (0 + length front) xs in
          let d : Made empty_state msg (outcome_in law place msg empty_state) xs o (Pieces.object_message (slot + length front) o ∷ []) =
          subst (λ y. Made empty_state msg y xs o (Pieces.object_message (slot + length front) o ∷ []))
          (sym (c.maker place empty_state (named 0 0 msg) ((w.rooted).maker ((0 + length front) % n) (mod-lt (0 + length front) some)).1))
          (new_does n place (slot + length front) (0 + length front) xs o (omega arith) (omega arith)) in
          subst (λ y. Made h.state y (outcome_in law (p.places (target_in y)) y h.state) xs o (Pieces.object_message (slot + length front) o ∷ [])) (sym em)
          (subst (λ y. Made y msg (outcome_in law (p.places (target_in msg)) msg y) xs o (Pieces.object_message (slot + length front) o ∷ [])) (sym es) d)

      by : (news : List Id) → h.made ≡ news → AreNew p.states here (row_make xs ∷ []) h.made → Phase n texts line q
      by [] e new = absurd (subst (AreNew p.states here (row_make xs ∷ [])) e new)
      by (o ∷ []) e new =
          let are = subst (AreNew p.states here (row_make xs ∷ [])) e new in
          Works b drawn left slot size (front ++ Pieces.Said o xs ∷ back) (made_is b drawn left slot size front back xs w low em es sized.0 o e (are.0, are.2) (made o))
      by (o ∷ u ∷ news) e new = let are = subst (AreNew p.states here (row_make xs ∷ [])) e new in absurd are.4

  -- ---- a part steps

  asked_step : (b : Bool) (drawn left slot size : ℕ) (front back : List Pieces.Piece) (o : Id) (x y : ℤ) (xs : List ℤ) → On b drawn left slot size (front ++ Pieces.Asked o x xs y ∷ back) p
      → here < n → m ≡ Pieces.step_message (slot + length front) o x y → Phase n texts line q
  asked_step b drawn left slot size front back o x y xs w low em =
      Works b drawn left slot size (front ++ Pieces.Said o (stepped x xs y) ∷ back) (replaced b drawn left slot size front back (Pieces.Asked o x xs y) (Pieces.Said o (stepped x xs y)) w low (record {
        comes = refl;
        fits = length-stepped x xs y ∙ sized.1;
        to = subst (λ e. PieceViews.seen_to e (Pieces.Asked o x xs y) ≡ PieceViews.seen_to e (Pieces.Said o (stepped x xs y))) (sym sized.0) refl;
        row = subst (λ e. PieceViews.seen_row e (Pieces.Asked o x xs y) ≡ PieceViews.seen_row e (Pieces.Said o (stepped x xs y))) (sym sized.0) refl;
        open_yet = refl;
        gives = ap (λ z. z ∷ []) (sym em);
        sends = ap (λ ids. sent_by m h.state ids out) nobody
            ∙ (does.sends ∙ ap (λ e. Pieces.answer_message e (slot + length front) o (stepped x xs y) ∷ []) (sym sized.0));
        stands = (
          stands.0,
          lower law p q h low o stands.1,
          same_target law p q h o (ap (λ z. same_object o (target_in z)) em ∙ same_object-refl o)
              ∙ ap Some (ap (λ ids. state_after h.state (named 0 0 m) ids out) nobody ∙ does.state),
        );
        target = λ e. let z = kind in absurd (omega arith);
        apart = λ u other. ap (λ makes. with_made p.states makes h.made u) does.makes;
        makers = λ k l e. absurd (let z = kind_same (Pieces.maker_at k) (target_in m) e in let y = kind in omega arith);
        once = λ u. omega (arith, w.once u, Pieces.occurs-middle u front back (Pieces.Asked o x xs y), Pieces.occurs-middle u front back (Pieces.Said o (stepped x xs y)));
        far = λ u k e.
            let same : same_object u o ≡ true = ap (λ z. same_object u (target_in z)) (sym em) ∙ e in
            omega (arith, own_one u o same, w.once u, Pieces.occurs-middle u front back (Pieces.Asked o x xs y));
        silent = does.prints;
      }))
    where
      sized : (b ≡ true) × (length xs ≡ size)
      sized = (Pieces.all-front (Pieces.Fits b size) front back (Pieces.Asked o x xs y) (w.bounded).fits).1

      stands : Pieces.Holds n p.states p.places o xs
      stands = (Pieces.all-front (Pieces.Stands n p.states p.places) front back (Pieces.Asked o x xs y) w.standing).1

      kind : (target_in m).kind ≡ 17
      kind = ap (λ z. (target_in z).kind) em ∙ stands.0

      es : h.state ≡ Pieces.row_state xs
      es = some_same h.state (Pieces.row_state xs) (sym h.stands ∙ (ap (λ z. p.states (target_in z)) em ∙ stands.2))

      does : Does h.state m out (Pieces.row_state (stepped x xs y)) (Pieces.row_message (slot + length front) (stepped x xs y) ∷ [])
      does =
          let few = (w.bounded).size_low in
          let long = sized.1 in
          let least = w.some in
          let msg = Pieces.step_message (slot + length front) o x y in
          let is : outcome_in law (p.places o) msg (Pieces.row_state xs) ≡ outcome_of n 17 (p.places o) (Pieces.row_state xs) (named 0 0 msg) =
          ap (λ k. law.outcome_of k (p.places o) (Pieces.row_state xs) (named 0 0 msg)) stands.0 ∙ c.part (p.places o) (Pieces.row_state xs) (named 0 0 msg) stands.1 in
          let d : Does (Pieces.row_state xs) msg (outcome_in law (p.places o) msg (Pieces.row_state xs)) (Pieces.row_state (stepped x xs y)) (Pieces.row_message (slot + length front) (stepped x xs y) ∷ []) =
          subst (λ z. Does (Pieces.row_state xs) msg z (Pieces.row_state (stepped x xs y)) (Pieces.row_message (slot + length front) (stepped x xs y) ∷ [])) (sym is)
          (step_does n (p.places o) (slot + length front) o x y xs (omega arith) (omega arith)) in
          subst (λ z. Does h.state z (outcome_in law (p.places (target_in z)) z h.state) (Pieces.row_state (stepped x xs y)) (Pieces.row_message (slot + length front) (stepped x xs y) ∷ [])) (sym em)
          (subst (λ z. Does z msg (outcome_in law (p.places (target_in msg)) msg z) (Pieces.row_state (stepped x xs y)) (Pieces.row_message (slot + length front) (stepped x xs y) ∷ [])) (sym es) d)

      nobody : h.made ≡ []
      nobody = none_made p.states here h.made (subst (λ makes. AreNew p.states here makes h.made) does.makes h.new)

  -- ---- an answer comes

  module _ (b : Bool) (drawn left slot size : ℕ) (front back : List Pieces.Piece) (o : Id) (xs : List ℤ) (w : On b drawn left slot size (front ++ Pieces.Said o xs ∷ back) p) (low : here < n)
      (em : m ≡ Pieces.answer_message b (slot + length front) o xs) where
    abbrev old : List Pieces.Piece
    old = front ++ Pieces.Said o xs ∷ back

    abbrev new : List Pieces.Piece
    new = front ++ Pieces.Kept o xs ∷ back

    abbrev rows : List (List ℤ)
    rows = Pieces.rows_in new

    many : length old ≡ length new
    many = Pieces.length-middle front back (Pieces.Said o xs) (Pieces.Kept o xs)

    same_rows : Pieces.rows_in old ≡ rows
    same_rows = Pieces.rows-middle front back (Pieces.Said o xs) (Pieces.Kept o xs) refl

    te : target_in m ≡ session
    te = ap target_in em ∙ to_session b
      where
        to_session : (b : Bool) → target_in (Pieces.answer_message b (slot + length front) o xs) ≡ session
        to_session false = refl
        to_session true = refl

    es : h.state ≡ PieceViews.stepping b drawn left slot size old
    es = some_same h.state (PieceViews.stepping b drawn left slot size old) (sym h.stands ∙ (ap p.states te ∙ w.session_at))

    -- what the session does
    does : Answers.Answered n b drawn left slot size new h.state m out
    does =
        let s = PieceViews.stepping b drawn left slot size old in
        let msg = Pieces.answer_message b (slot + length front) o xs in
        let is : outcome_in law (p.places (target_in msg)) msg s ≡ computing_outcome n s (named 0 0 msg) =
        by b (p.places (target_in msg)) (subst (λ y. p.places (target_in y) < n) em low) in
        let first : b ≡ false → rows ≡ first_rows size 0 (length new) = λ e. sym same_rows ∙ (w.first e ∙ ap (first_rows size 0) many) in
        let d : Answers.Answered n b drawn left slot size new s msg (outcome_in law (p.places (target_in msg)) msg s) =
        subst (Answers.Answered n b drawn left slot size new s msg) (sym is) (Answers.answered n drawn left slot size front back o xs b w.bounded first) in
        subst (λ y. Answers.Answered n b drawn left slot size new h.state y (outcome_in law (p.places (target_in y)) y h.state)) (sym em)
        (subst (λ y. Answers.Answered n b drawn left slot size new y msg (outcome_in law (p.places (target_in msg)) msg y)) (sym es) d)
      where
        by : (e : Bool) (place : ℕ) → place < n
            → outcome_in law place (Pieces.answer_message e (slot + length front) o xs) (PieceViews.stepping b drawn left slot size old)
            ≡ computing_outcome n (PieceViews.stepping b drawn left slot size old) (named 0 0 (Pieces.answer_message e (slot + length front) o xs))
        by false place l = c.session place (PieceViews.stepping b drawn left slot size old) (named 0 0 (Pieces.object_message (slot + length front) o)) l refl
        by true place l = c.session place (PieceViews.stepping b drawn left slot size old) (named 0 0 (Pieces.row_message (slot + length front) xs)) l refl

    -- what it leaves
    module _ (s' : State) (ms : List Message) (said : List (List ℕ)) (d : Answers.Leaves h.state m out s' ms said) where
      nobody : h.made ≡ []
      nobody = none_made p.states here h.made (subst (λ makes. AreNew p.states here makes h.made) d.makes h.new)

      session_then : q.states session ≡ Some s'
      session_then =
          same_target law p q h session (ap (λ u. same_object session u) te ∙ same_object-refl session)
          ∙ ap Some (ap (λ ids. state_after h.state (named 0 0 m) ids out) nobody ∙ d.state)

      others_then : (u : Id) → u.kind ≢ 1 → q.states u ≡ p.states u
      others_then u other =
          stays u (ap (λ v. same_object u v) te ∙ kind_apart u session other) (ap (λ makes. with_made p.states makes h.made u) d.makes)

      rooted_then : IsRooted n q
      rooted_then = rooted_after w.rooted low (λ k l. others_then (Pieces.maker_at k) (λ e. absurd (omega arith)) ∙ ((w.rooted).maker k l).0)

      standing_then : AllByRecursion (Pieces.Stands n q.states q.places) new
      standing_then =
          let split = Pieces.all-front (Pieces.Stands n p.states p.places) front back (Pieces.Said o xs) w.standing in
          stands_other n p.states q.states p.places q.places new (lower law p q h low)
          (λ u i s kind e. others_then u (λ z. absurd (omega arith)) ∙ e)
          (Pieces.all-middle (Pieces.Stands n p.states p.places) front back (Pieces.Kept o xs) split.0 split.1 split.2)

      sum_then : (k : Message → ℕ) → sum_by k q.pending ≡ sum_by k ms + sum_by k (Pieces.all_due n b slot 0 new)
      sum_then k =
          let one = ap (sum_by k) (ap (λ ids. sent_by m h.state ids out) nobody ∙ d.sends) in
          let two : sum_by k (Pieces.due n b (slot + length front) (0 + length front) (Pieces.Said o xs)) ≡ sum_by k (m ∷ []) = ap (λ y. sum_by k (y ∷ [])) (sym em) in
          omega (
            arith,
            pending_sum k,
            others_sum k,
            w.bag k,
            one,
            two,
            sum_by-cons k m [],
            Pieces.sum-due n b slot 0 front back (Pieces.Said o xs) k,
            Pieces.sum-due n b slot 0 front back (Pieces.Kept o xs) k,
          )

      printed_then : q.printed ≡ p.printed ++ said
      printed_then = printed_are law p q h ∙ ap (λ ts. p.printed ++ ts) d.prints

    once_then : (u : Id) → Pieces.occurs u new ≤ 1
    once_then u = omega (arith, w.once u, Pieces.occurs-middle u front back (Pieces.Said o xs), Pieces.occurs-middle u front back (Pieces.Kept o xs))

    fits_then : AllByRecursion (Pieces.Fits b size) new
    fits_then =
        let split = Pieces.all-front (Pieces.Fits b size) front back (Pieces.Said o xs) (w.bounded).fits in
        Pieces.all-middle (Pieces.Fits b size) front back (Pieces.Kept o xs) split.0 split.1 split.2

    low_then : AreLow (joined rows)
    low_then = subst (λ rs. AreLow (joined rs)) same_rows w.low

    points_then : length (joined rows) ≤ 1024
    points_then = subst (λ rs. length (joined rs) ≤ 1024) same_rows w.points

    printed_before : p.printed ++ to_come b (joined rows) left ≡ texts
    printed_before = subst (λ rs. p.printed ++ to_come b (joined rs) left ≡ texts) same_rows w.printed

    -- others are awaited still
    waits_then : Pieces.all_kept new ≡ false → Answers.Leaves h.state m out (PieceViews.stepping b drawn left slot size new) [] [] → On b drawn left slot size new q
    waits_then still d =
        let bounded = w.bounded in
        let as_many = many in
        let few = bounded.few in
        let short = bounded.short in
        let s' = PieceViews.stepping b drawn left slot size new in
        record {
          bounded = record {
            drawn_low = bounded.drawn_low;
            left_low = bounded.left_low;
            slot_low = bounded.slot_low;
            size_low = bounded.size_low;
            few = omega arith;
            short = subst (λ k. size * k ≤ 1024) many short;
            fits = fits_then;
          };
          some = w.some;
          more = w.more;
          room = w.room;
          first = λ e. sym same_rows ∙ (w.first e ∙ ap (first_rows size 0) many);
          low = low_then;
          points = points_then;
          bag = λ k. omega (arith, sum_then s' [] [] d k);
          open_yet = still;
          standing = standing_then s' [] [] d;
          once = once_then;
          session_at = session_then s' [] [] d;
          rooted = rooted_then s' [] [] d;
          printed = ap (λ ts. ts ++ to_come b (joined rows) left) (printed_then s' [] [] d ∙ append-nil p.printed) ∙ printed_before;
        }

    -- all parts are asked to step
    filled : (size' : ℕ) (rs : List Pieces.Piece) → 1 ≤ size' → AllByRecursion (Pieces.Fits b size') rs → Pieces.all_kept rs ≡ true → AllByRecursion IsFilled (Pieces.rows_in rs)
    filled size' [] some fits e = tt
    filled size' (x ∷ rs) some fits e =
        let k = Pieces.both_true (Pieces.is_kept x) (Pieces.all_kept rs) e in (by (Pieces.comes_to x) (Pieces.kept_fits b size' x k.0 fits.0), filled size' rs some fits.1 k.1)
      where
        by : (zs : List ℤ) → length zs ≡ size' → IsFilled zs
        by [] e = absurd (omega arith)
        by (z ∷ zs) e = tt

    stepped_rows : Pieces.all_kept new ≡ true → joined (Pieces.rows_in (Answers.asked new)) ≡ ring_step (joined rows)
    stepped_rows kept = ap joined (Pieces.ask_rows (last_of rows) new (first_of rows)) ∙ ring_whole rows (filled size new w.some fits_then kept)

    sum_of_asked : (s' : State) (ms : List Message) (said : List (List ℕ)) → Answers.Leaves h.state m out s' ms said → Pieces.all_kept new ≡ true → (k : Message → ℕ) → sum_by k q.pending ≡ sum_by k ms
    sum_of_asked s' ms said d kept k = omega (arith, sum_then s' ms said d k, ap (sum_by k) (due_none n b slot 0 new kept))

    asks_then : (left' : ℕ) (said : List (List ℕ)) → Pieces.all_kept new ≡ true
        → Answers.Leaves h.state m out (PieceViews.stepping true (drawn + length new) left' drawn size (Answers.asked new)) (Pieces.all_due n true drawn 0 (Answers.asked new)) said
        → 1 ≤ left' → left' ≤ 1000 → drawn + 32 * left' ≤ 40000 → (p.printed ++ said) ++ to_come true (ring_step (joined rows)) left' ≡ texts
        → On true (drawn + length new) left' drawn size (Answers.asked new) q
    asks_then left' said kept d some most room text =
        let bounded = w.bounded in
        let as_many = many in
        let few = bounded.few in
        let short = bounded.short in
        let length_asked = Pieces.ask_many (last_of rows) new (first_of rows) in
        let next = stepped_rows kept in
        let s' = PieceViews.stepping true (drawn + length new) left' drawn size (Answers.asked new) in
        let ms = Pieces.all_due n true drawn 0 (Answers.asked new) in
        let same = length-step (joined rows) in
        let points = points_then in
        record {
          bounded = record {
            drawn_low = omega arith;
            left_low = most;
            slot_low = omega arith;
            size_low = bounded.size_low;
            few = omega arith;
            short = subst (λ k. size * k ≤ 1024) (many ∙ sym length_asked) short;
            fits = Pieces.ask_fits b size (last_of rows) new (first_of rows) kept fits_then;
          };
          some = w.some;
          more = some;
          room = omega arith;
          first = λ e. absurd (let no : true ≡ false = e in cc);
          low = subst AreLow (sym next) (low_step (joined rows) low_then);
          points = subst (λ zs. length zs ≤ 1024) (sym next) (omega arith);
          bag = λ k. sum_of_asked s' ms said d kept k;
          open_yet = asked_open front (Pieces.Kept o xs) back (last_of rows) (first_of rows);
          standing = Pieces.ask_stands n q.states q.places (last_of rows) new (first_of rows) kept (standing_then s' ms said d);
          once = λ u. let z = once_then u in let y = Pieces.ask_occurs u (last_of rows) new (first_of rows) kept in omega arith;
          session_at = session_then s' ms said d;
          rooted = rooted_then s' ms said d;
          printed = ap (λ ts. ts ++ to_come true (joined (Pieces.rows_in (Answers.asked new))) left') (printed_then s' ms said d)
              ∙ (ap (λ zs. (p.printed ++ said) ++ to_come true zs left') next ∙ text);
        }
      where
        asked_open : (f : List Pieces.Piece) (x : Pieces.Piece) (g : List Pieces.Piece) (l r : ℤ) → Pieces.all_kept (Pieces.ask l (f ++ x ∷ g) r) ≡ false
        asked_open [] x g l r = refl
        asked_open (y ∷ f) x g l r = refl

    -- it is over
    ends_then : (s' : State) → b ≡ true → left ≡ 1 → Pieces.all_kept new ≡ true → Answers.Leaves h.state m out s' [] (printed (joined rows)) → IsOver texts q
    ends_then s' eb last kept d = record {
      pending = none_left q.pending (sum_of_asked s' [] (printed (joined rows)) d kept (λ y. 1));
      printed =
          printed_then s' [] (printed (joined rows)) d
          ∙ (ap (λ ts. p.printed ++ ts) (row_printed (joined rows) low_then points_then)
          ∙ (ap (λ k. p.printed ++ to_come true (joined rows) k) (sym last) ∙ (ap (λ e. p.printed ++ to_come e (joined rows) left) (sym eb) ∙ printed_before)));
    }

    -- the texts that are to come then
    texts_begin : (k : ℕ) → 1 ≤ k → to_come true (ring_step (joined rows)) k ≡ to_come false (joined rows) k
    texts_begin zero some = absurd (omega arith)
    texts_begin (suc k) some = refl

    texts_go : (k : ℕ) → 1 ≤ k → k ≢ 1 → row_text (joined rows) ∷ to_come true (ring_step (joined rows)) (k - 1) ≡ to_come true (joined rows) k
    texts_go zero some more = absurd (omega arith)
    texts_go (suc zero) some more = absurd (more refl)
    texts_go (suc (suc k)) some more = ap (λ j. row_text (joined rows) ∷ to_come true (ring_step (joined rows)) j) (let e : suc (suc k) - 1 ≡ suc k = omega arith in e)

    pub said_step : Phase n texts line q
    said_step = by does
      where
        by : Answers.Answered n b drawn left slot size new h.state m out → Phase n texts line q
        by (Answers.Waits still d) = Works b drawn left slot size new (waits_then still d)
        by (Answers.Begins eb kept d) =
            let room : drawn + 32 * left ≤ 40000 + ahead false = subst (λ e. drawn + 32 * left ≤ 40000 + ahead e) eb w.room in
            Works true (drawn + length new) left drawn size (Answers.asked new)
            (asks_then left [] kept d w.more (w.bounded).left_low (omega arith)
            (ap (λ ts. ts ++ to_come true (ring_step (joined rows)) left) (append-nil p.printed)
            ∙ (ap (λ ts. p.printed ++ ts) (texts_begin left w.more) ∙ (ap (λ e. p.printed ++ to_come e (joined rows) left) (sym eb) ∙ printed_before))))
        by (Answers.Goes eb more kept d) =
            let room : drawn + 32 * left ≤ 40000 + ahead true = subst (λ e. drawn + 32 * left ≤ 40000 + ahead e) eb w.room in
            let some = w.more in
            let most = (w.bounded).left_low in
            Works true (drawn + length new) (left - 1) drawn size (Answers.asked new)
            (asks_then (left - 1) (printed (joined rows)) kept d (omega arith) (omega arith) (omega arith)
            (ap (λ ts. (p.printed ++ ts) ++ to_come true (ring_step (joined rows)) (left - 1)) (row_printed (joined rows) low_then points_then)
            ∙ (append_assoc p.printed (row_text (joined rows) ∷ []) (to_come true (ring_step (joined rows)) (left - 1))
            ∙ (ap (λ ts. p.printed ++ ts) (texts_go left w.more more) ∙ (ap (λ e. p.printed ++ to_come e (joined rows) left) (sym eb) ∙ printed_before)))))
        by (Answers.Ends eb last kept s' d) = Over (ends_then s' eb last kept d)

  -- ---- any piece

  piece_step : (b : Bool) (drawn left slot size : ℕ) (front back : List Pieces.Piece) (x : Pieces.Piece) → On b drawn left slot size (front ++ x ∷ back) p → here < n
      → list_any (same_message m) (Pieces.due n b (slot + length front) (0 + length front) x) ≡ true → Phase n texts line q
  piece_step b drawn left slot size front back (Pieces.Wanted xs) w low there =
      wanted_step b drawn left slot size front back xs w low (only_message m (Pieces.new_message n (slot + length front) (0 + length front) xs) there)
  piece_step b drawn left slot size front back (Pieces.Asked o x xs y) w low there =
      asked_step b drawn left slot size front back o x y xs w low (only_message m (Pieces.step_message (slot + length front) o x y) there)
  piece_step b drawn left slot size front back (Pieces.Said o xs) w low there =
      said_step b drawn left slot size front back o xs w low (only_message m (Pieces.answer_message b (slot + length front) o xs) there)
  piece_step b drawn left slot size front back (Pieces.Kept o xs) w low there = absurd (let no : false ≡ true = there in cc)

  pub acted_step : (b : Bool) (drawn left slot size : ℕ) (pieces : List Pieces.Piece) → On b drawn left slot size pieces p → Phase n texts line q
  acted_step b drawn left slot size pieces w =
      let there = in_bag h.before m h.behind p.pending (Pieces.all_due n b slot 0 pieces) h.pending w.bag in
      let place = (w.rooted).place in
      let low = any_holds (λ y. p.places (target_in y) < n) m (Pieces.all_due n b slot 0 pieces)
      (due_low n b slot 0 p.states p.places pieces (omega arith) (λ k l. ((w.rooted).maker k l).1) (w.rooted).place w.standing) there in
      let f = Pieces.found n b slot 0 m pieces there in
      piece_step b drawn left slot size f.front f.back f.piece (subst (λ ps. On b drawn left slot size ps p) f.is w) low f.there
