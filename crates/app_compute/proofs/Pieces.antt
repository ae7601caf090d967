-- What is still to be done for a ring's step, as a piece for each part: it is asked for, it is asked to step, its answer is
-- sent, or its answer has come. The pool is such pieces, and each action changes one of them and keeps what it comes to.
use Rattle.std.specs.Prelude.{ℕ, zero, suc, ℤ, pos, Bool, true, false, List, [], ◌∷◌, ◌++◌, ◌≡◌, ◌+◌, ◌*◌, ◌%◌, ◌<◌, ◌&&◌, Option, Some, None, length, codes, refl}
use Rattle.std.specs.List.{AllByRecursion, list_any, sum_by}
use Rattle.std.proofs.Common.{sym, ap, ◌∙◌, arith, inl, inr}
use Rattle.std.proofs.lemmas.List.Sums.{sum_by-append}
use Rattle.std.proofs.lemmas.List.Folds.{list_any-append}
use Rattle.hpx_value.specs.Ids.{Id, bare_id}
use Rattle.hpx_value.specs.declared.value.Message.{Message}
use Rattle.hpx_value.specs.Hands.{session}
use Rattle.hpx_journal.proofs.SameMessage.{same_message}
use Rattle.hpx_calls.specs.Tables.{stepped}
use Rattle.app_compute.specs.Types.{Int, Text, Ref, Ints, State}
use Rattle.app_compute.specs.Ring.{last_or, points_from, parts_stepped}
use Rattle.app_compute.specs.StencilSession.{next_of}
use Rattle.app_compute.proofs.Trees.{own, or_cases}

pub data Piece : Type 0 where
  Wanted : (xs : List ℤ) → Piece  -- NEW is sent, with these numbers
  Asked : (o : Id) → (left : ℤ) → (xs : List ℤ) → (right : ℤ) → Piece  -- STEP is sent to a part with these numbers
  Said : (o : Id) → (xs : List ℤ) → Piece  -- its answer is sent
  Kept : (o : Id) → (xs : List ℤ) → Piece  -- its answer has come

-- the numbers of the part once it has answered
abbrev pub comes_to : Piece → List ℤ
comes_to (Wanted xs) = xs
comes_to (Asked o left xs right) = stepped left xs right
comes_to (Said o xs) = xs
comes_to (Kept o xs) = xs

abbrev pub rows_in : List Piece → List (List ℤ)
rows_in [] = []
rows_in (x ∷ pieces) = comes_to x ∷ rows_in pieces

-- ---- messages

abbrev pub row_state : List ℤ → State
row_state xs = record { drawn = 0; values = Ints xs ∷ []; conts = []; ids = [] }

abbrev pub maker_at : ℕ → Id
maker_at k = bare_id k 3 1

abbrev pub new_message : ℕ → ℕ → ℕ → List ℤ → Message
new_message n slot q xs =
    record { code = 5; args = Text (codes "partition") ∷ Ints xs ∷ []; cont = Some (record { place = 1; slot = slot }); ids = maker_at (q % n) ∷ session ∷ [] }

abbrev pub step_message : ℕ → Id → ℤ → ℤ → Message
step_message slot o left right =
    record { code = 19; args = Int left ∷ Int right ∷ []; cont = Some (record { place = 1; slot = slot }); ids = o ∷ session ∷ [] }

-- the object of a part that was asked for
abbrev pub object_message : ℕ → Id → Message
object_message slot o = record { code = 3; args = Int (pos slot) ∷ Ref 1 ∷ []; cont = None; ids = session ∷ o ∷ [] }

-- the numbers of a part that was asked to step
abbrev pub row_message : ℕ → List ℤ → Message
row_message slot xs = record { code = 3; args = Int (pos slot) ∷ Ints xs ∷ []; cont = None; ids = session ∷ [] }

-- what is pending for a part, in the slot of its answer; whether the ring is stepped, or its parts are made
abbrev pub answer_message : Bool → ℕ → Id → List ℤ → Message
answer_message false slot o xs = object_message slot o
answer_message true slot o xs = row_message slot xs

abbrev pub due : ℕ → Bool → ℕ → ℕ → Piece → List Message
due n b slot q (Wanted xs) = new_message n slot q xs ∷ []
due n b slot q (Asked o left xs right) = step_message slot o left right ∷ []
due n b slot q (Said o xs) = answer_message b slot o xs ∷ []
due n b slot q (Kept o xs) = []

-- of all parts, from the q-th on
abbrev pub all_due : ℕ → Bool → ℕ → ℕ → List Piece → List Message
all_due n b slot q [] = []
all_due n b slot q (x ∷ pieces) = due n b slot q x ++ all_due n b (slot + 1) (q + 1) pieces

-- ---- objects

-- how often an object is that of a part
abbrev pub owns : Id → Piece → ℕ
owns u (Wanted xs) = 0
owns u (Asked o left xs right) = own u o
owns u (Said o xs) = own u o
owns u (Kept o xs) = own u o

abbrev pub occurs : Id → List Piece → ℕ
occurs u [] = 0
occurs u (x ∷ pieces) = owns u x + occurs u pieces

-- the object of a part keeps its numbers, at a place that there is
abbrev pub Holds : ℕ → (Id → Option State) → (Id → ℕ) → Id → List ℤ → Type 0
Holds n f pl o xs = (o.kind ≡ 17) × (pl o < n) × (f o ≡ Some (row_state xs))

abbrev pub Stands : ℕ → (Id → Option State) → (Id → ℕ) → Piece → Type 0
Stands n f pl (Wanted xs) = Unit {0}
Stands n f pl (Asked o left xs right) = Holds n f pl o xs
Stands n f pl (Said o xs) = Holds n f pl o xs
Stands n f pl (Kept o xs) = Holds n f pl o xs

-- parts have so many numbers; they are stepped only once all are made
abbrev pub Fits : Bool → ℕ → Piece → Type 0
Fits b size (Wanted xs) = (b ≡ false) × (length xs ≡ size)
Fits b size (Asked o left xs right) = (b ≡ true) × (length xs ≡ size)
Fits b size (Said o xs) = length xs ≡ size
Fits b size (Kept o xs) = length xs ≡ size

-- ---- pieces before and behind one

pub length-middle : (front back : List Piece) (x y : Piece) → length (front ++ x ∷ back) ≡ length (front ++ y ∷ back)
length-middle [] back x y = refl
length-middle (z ∷ front) back x y = ap suc (length-middle front back x y)

pub rows-middle : (front back : List Piece) (x y : Piece) → comes_to x ≡ comes_to y → rows_in (front ++ x ∷ back) ≡ rows_in (front ++ y ∷ back)
rows-middle [] back x y e = ap (λ row. row ∷ rows_in back) e
rows-middle (z ∷ front) back x y e = ap (λ rows. comes_to z ∷ rows) (rows-middle front back x y e)

pub occurs-middle : (u : Id) (front back : List Piece) (x : Piece) → occurs u (front ++ x ∷ back) ≡ occurs u front + (owns u x + occurs u back)
occurs-middle u [] back x = omega arith
occurs-middle u (z ∷ front) back x = let rest = occurs-middle u front back x in omega arith

pub all-front : (P : Piece → Type 0) (front back : List Piece) (x : Piece) → AllByRecursion P (front ++ x ∷ back) → AllByRecursion P front × P x × AllByRecursion P back
all-front P [] back x h = (tt, h.0, h.1)
all-front P (z ∷ front) back x h = let rest = all-front P front back x h.1 in ((h.0, rest.0), rest.1, rest.2)

pub all-middle : (P : Piece → Type 0) (front back : List Piece) (x : Piece) → AllByRecursion P front → P x → AllByRecursion P back → AllByRecursion P (front ++ x ∷ back)
all-middle P [] back x f p h = (p, h)
all-middle P (z ∷ front) back x f p h = (f.0, all-middle P front back x f.1 p h)

pub all-each : (P Q : Piece → Type 0) (pieces : List Piece) → ((x : Piece) → P x → Q x) → AllByRecursion P pieces → AllByRecursion Q pieces
all-each P Q [] f h = tt
all-each P Q (x ∷ pieces) f h = (f x h.0, all-each P Q pieces f h.1)

-- what is due of all but one
pub sum-due : (n : ℕ) (b : Bool) (slot q : ℕ) (front back : List Piece) (x : Piece) (h : Message → ℕ)
    → sum_by h (all_due n b slot q (front ++ x ∷ back))
    ≡ sum_by h (all_due n b slot q front) + (sum_by h (due n b (slot + length front) (q + length front) x) + sum_by h (all_due n b (slot + length front + 1) (q + length front + 1) back))
sum-due n b slot q [] back x h =
    let none : slot + 0 ≡ slot = omega arith in
    let same : q + 0 ≡ q = omega arith in
    let whole : sum_by h (due n b (slot + 0) (q + 0) x) + sum_by h (all_due n b (slot + 0 + 1) (q + 0 + 1) back)
    ≡ sum_by h (due n b slot q x) + sum_by h (all_due n b (slot + 1) (q + 1) back) =
    ap (λ k. sum_by h (due n b k (q + 0) x) + sum_by h (all_due n b (k + 1) (q + 0 + 1) back)) none
    ∙ ap (λ k. sum_by h (due n b slot k x) + sum_by h (all_due n b (slot + 1) (k + 1) back)) same in
    omega (arith, sum_by-append h (due n b slot q x) (all_due n b (slot + 1) (q + 1) back))
sum-due n b slot q (z ∷ front) back x h =
    let rest = sum-due n b (slot + 1) (q + 1) front back x h in
    let one : slot + 1 + length front ≡ slot + length (z ∷ front) = omega arith in
    let two : q + 1 + length front ≡ q + length (z ∷ front) = omega arith in
    let whole : sum_by h (due n b (slot + 1 + length front) (q + 1 + length front) x) + sum_by h (all_due n b (slot + 1 + length front + 1) (q + 1 + length front + 1) back)
    ≡ sum_by h (due n b (slot + length (z ∷ front)) (q + length (z ∷ front)) x) + sum_by h (all_due n b (slot + length (z ∷ front) + 1) (q + length (z ∷ front) + 1) back) =
    ap (λ k. sum_by h (due n b k (q + 1 + length front) x) + sum_by h (all_due n b (k + 1) (q + 1 + length front + 1) back)) one
    ∙ ap (λ k. sum_by h (due n b (slot + length (z ∷ front)) k x) + sum_by h (all_due n b (slot + length (z ∷ front) + 1) (k + 1) back)) two in
    omega (
      arith,
      sum_by-append h (due n b slot q z) (all_due n b (slot + 1) (q + 1) (front ++ x ∷ back)),
      sum_by-append h (due n b slot q z) (all_due n b (slot + 1) (q + 1) front),
    )

-- the piece that a message is of
pub record Found (n : ℕ) (b : Bool) (slot q : ℕ) (m : Message) (pieces : List Piece) : Type 0 where
  pub front : List Piece
  pub piece : Piece
  pub back : List Piece
  pub is : pieces ≡ front ++ piece ∷ back
  pub there : list_any (same_message m) (due n b (slot + length front) (q + length front) piece) ≡ true

pub found : (n : ℕ) (b : Bool) (slot q : ℕ) (m : Message) (pieces : List Piece) → list_any (same_message m) (all_due n b slot q pieces) ≡ true → Found n b slot q m pieces
found n b slot q m [] h = cc
found n b slot q m (x ∷ pieces) h =
    elim (or_cases (list_any (same_message m) (due n b slot q x)) (list_any (same_message m) (all_due n b (slot + 1) (q + 1) pieces))
    (sym (list_any-append (same_message m) (due n b slot q x) (all_due n b (slot + 1) (q + 1) pieces)) ∙ h)) [
      | inl e ↦
          let none : slot + 0 ≡ slot = omega arith in
          let same : q + 0 ≡ q = omega arith in
          record {
            front = [];
            piece = x;
            back = pieces;
            is = refl;
            there = ap (λ k. list_any (same_message m) (due n b k (q + 0) x)) none ∙ (ap (λ k. list_any (same_message m) (due n b slot k x)) same ∙ e);
          }
      | inr e ↦
          let rest = found n b (slot + 1) (q + 1) m pieces e in
          let one : slot + length (x ∷ rest.front) ≡ slot + 1 + length rest.front = omega arith in
          let two : q + length (x ∷ rest.front) ≡ q + 1 + length rest.front = omega arith in
          record {
            front = x ∷ rest.front;
            piece = rest.piece;
            back = rest.back;
            is = ap (λ ps. x ∷ ps) rest.is;
            there = ap (λ k. list_any (same_message m) (due n b k (q + length (x ∷ rest.front)) rest.piece)) one
                ∙ (ap (λ k. list_any (same_message m) (due n b (slot + 1 + length rest.front) k rest.piece)) two ∙ rest.there);
          }
    ]

-- ---- all have come

abbrev pub is_kept : Piece → Bool
is_kept (Wanted xs) = false
is_kept (Asked o left xs right) = false
is_kept (Said o xs) = false
is_kept (Kept o xs) = true

abbrev pub all_kept : List Piece → Bool
all_kept [] = true
all_kept (x ∷ pieces) = is_kept x && all_kept pieces

-- ---- pieces at the start

abbrev pub wanted : ℕ → ℕ → ℕ → List Piece
wanted size q zero = []
wanted size q (suc count) = Wanted (points_from (q * size) size) ∷ wanted size (q + 1) count

-- ---- and at a step

abbrev pub object : Piece → Id
object (Wanted xs) = session
object (Asked o left xs right) = o
object (Said o xs) = o
object (Kept o xs) = o

abbrev pub ask : ℤ → List Piece → ℤ → List Piece
ask left [] right = []
ask left (x ∷ pieces) right = Asked (object x) left (comes_to x) (next_of (rows_in pieces) right) ∷ ask (last_or (comes_to x) left) pieces right

pub ask_rows : (left : ℤ) (pieces : List Piece) (right : ℤ) → rows_in (ask left pieces right) ≡ parts_stepped left (rows_in pieces) right
ask_rows left [] right = refl
ask_rows left (x ∷ []) right = refl
ask_rows left (x ∷ y ∷ pieces) right = ap (λ rows. stepped left (comes_to x) (next_of (rows_in (y ∷ pieces)) right) ∷ rows) (ask_rows (last_or (comes_to x) left) (y ∷ pieces) right)

pub ask_many : (left : ℤ) (pieces : List Piece) (right : ℤ) → length (ask left pieces right) ≡ length pieces
ask_many left [] right = refl
ask_many left (x ∷ pieces) right = ap suc (ask_many (last_or (comes_to x) left) pieces right)

-- what a kept piece keeps
kept_owns : (u : Id) (x : Piece) → is_kept x ≡ true → own u (object x) ≡ owns u x
kept_owns u (Kept o xs) e = refl
kept_owns u (Wanted xs) e = cc
kept_owns u (Asked o left xs right) e = cc
kept_owns u (Said o xs) e = cc

pub both_true : (a b : Bool) → (a && b) ≡ true → (a ≡ true) × (b ≡ true)
both_true true b h = (refl, h)
both_true false b h = cc

pub ask_occurs : (u : Id) (left : ℤ) (pieces : List Piece) (right : ℤ) → all_kept pieces ≡ true → occurs u (ask left pieces right) ≡ occurs u pieces
ask_occurs u left [] right e = refl
ask_occurs u left (x ∷ pieces) right e =
    let h = both_true (is_kept x) (all_kept pieces) e in
    let one = kept_owns u x h.0 in
    let rest = ask_occurs u (last_or (comes_to x) left) pieces right h.1 in
    omega arith

kept_stands : (n : ℕ) (f : Id → Option State) (pl : Id → ℕ) (x : Piece) → is_kept x ≡ true → Stands n f pl x → Holds n f pl (object x) (comes_to x)
kept_stands n f pl (Kept o xs) e h = h
kept_stands n f pl (Wanted xs) e h = cc
kept_stands n f pl (Asked o left xs right) e h = cc
kept_stands n f pl (Said o xs) e h = cc

pub ask_stands : (n : ℕ) (f : Id → Option State) (pl : Id → ℕ) (left : ℤ) (pieces : List Piece) (right : ℤ) → all_kept pieces ≡ true
    → AllByRecursion (Stands n f pl) pieces → AllByRecursion (Stands n f pl) (ask left pieces right)
ask_stands n f pl left [] right e h = tt
ask_stands n f pl left (x ∷ pieces) right e h =
    let k = both_true (is_kept x) (all_kept pieces) e in
    (kept_stands n f pl x k.0 h.0, ask_stands n f pl (last_or (comes_to x) left) pieces right k.1 h.1)

pub kept_fits : (b : Bool) (size : ℕ) (x : Piece) → is_kept x ≡ true → Fits b size x → length (comes_to x) ≡ size
kept_fits b size (Kept o xs) e h = h
kept_fits b size (Wanted xs) e h = cc
kept_fits b size (Asked o left xs right) e h = cc
kept_fits b size (Said o xs) e h = cc

pub ask_fits : (b : Bool) (size : ℕ) (left : ℤ) (pieces : List Piece) (right : ℤ) → all_kept pieces ≡ true → AllByRecursion (Fits b size) pieces
    → AllByRecursion (Fits true size) (ask left pieces right)
ask_fits b size left [] right e h = tt
ask_fits b size left (x ∷ pieces) right e h =
    let k = both_true (is_kept x) (all_kept pieces) e in
    ((refl, kept_fits b size x k.0 h.0), ask_fits b size (last_or (comes_to x) left) pieces right k.1 h.1)
