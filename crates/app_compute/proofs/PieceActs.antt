-- What acting on the messages of pieces comes to.
use Rattle.std.specs.Prelude.{ℕ, zero, suc, ℤ, pos, Bool, true, false, List, [], ◌∷◌, ◌≡◌, ◌+◌, ◌-◌, ◌*◌, ◌≤◌, Option, Some, None, length, map, refl, if◌then◌else◌}
use Rattle.std.specs.List.{AllByRecursion}
use Rattle.std.proofs.Common.{ap, ◌∙◌, arith, append-nil}
use Rattle.std.proofs.lemmas.Bool.{le-leb}
use Rattle.hpx_value.specs.Ids.{Id}
use Rattle.hpx_value.specs.Values.{empty_state, named, refs_in}
use Rattle.hpx_value.specs.declared.value.Message.{Message}
use Rattle.hpx_value.specs.Hands.{hand_ids, id_at, sent, state_after}
use Rattle.hpx_value.specs.Laws.{birth_state}
use Rattle.hpx_journal.specs.Pool.{sent_by}
use Rattle.hpx_calls.specs.Outcomes.{outcome_of}
use Rattle.hpx_calls.specs.Tables.{stepped}
use Rattle.app_compute.specs.Types.{Value, Flag, Int, Ref, Ints, Make, State, Act, Outcome, Sending}
use Rattle.app_compute.specs.declared.ring.Part.{Part}
use Rattle.app_compute.specs.declared.ring.Ring.{Ring}
use Rattle.app_compute.specs.Acts.{refused}
use Rattle.app_compute.specs.Computing.{computing_outcome}
use Rattle.app_compute.specs.Ring.{last_or, points_from}
use Rattle.app_compute.specs.Session.{spoken}
use Rattle.app_compute.specs.Stencil.{parts_out, ring_in, ring_out}
use Rattle.app_compute.specs.StencilSession
use Rattle.app_compute.proofs.Does.{Does}
use Rattle.app_compute.proofs.Pieces
use Rattle.app_compute.proofs.PieceViews

-- ---- a part is made

abbrev pub row_make : List ℤ → Make
row_make xs = record { kind = 17; values = Ints xs ∷ [] }

pub record Made (s : State) (m : Message) (out : Outcome) (xs : List ℤ) (o : Id) (ms : List Message) : Type 0 where
  pub makes : out.makes ≡ row_make xs ∷ []
  pub prints : out.prints ≡ []
  pub state : state_after s (named 0 0 m) (o ∷ []) out ≡ s
  pub sends : sent_by m s (o ∷ []) out ≡ ms

pub new_does : (n here slot q : ℕ) (xs : List ℤ) (o : Id) → 1 ≤ length xs → length xs ≤ 1024
    → Made empty_state (Pieces.new_message n slot q xs) (outcome_of n 3 here empty_state (named 0 0 (Pieces.new_message n slot q xs))) xs o (Pieces.object_message slot o ∷ [])
unfolding outcome_of
new_does n here slot q xs o some few = rw (le-leb 1 (length xs) some, le-leb (length xs) 1024 few) (record { makes = refl; prints = refl; state = refl; sends = refl })

pub born : (xs : List ℤ) → birth_state (row_make xs) ≡ Pieces.row_state xs
born xs = refl

-- ---- a part is stepped

pub step_does : (n here slot : ℕ) (o : Id) (left right : ℤ) (xs : List ℤ) → 1 ≤ length xs → length xs ≤ 1024
    → Does (Pieces.row_state xs) (Pieces.step_message slot o left right) (outcome_of n 17 here (Pieces.row_state xs) (named 0 0 (Pieces.step_message slot o left right)))
    (Pieces.row_state (stepped left xs right)) (Pieces.row_message slot (stepped left xs right) ∷ [])
unfolding outcome_of
step_does n here slot o left right xs some few =
    rw (le-leb 1 (length xs) some, le-leb (length xs) 1024 few) (record { makes = refl; prints = refl; state = refl; sends = refl })

-- ---- an answer comes to the session

-- what is known of its parts and of what it can still draw
pub record IsBounded (b : Bool) (drawn left slot size : ℕ) (pieces : List Pieces.Piece) : Type 0 where
  pub drawn_low : drawn ≤ 4000000000
  pub left_low : left ≤ 1000
  pub slot_low : slot ≤ drawn
  pub size_low : size ≤ 1024
  pub few : length pieces ≤ 32
  pub short : size * length pieces ≤ 1024
  pub fits : AllByRecursion (Pieces.Fits b size) pieces

module _ (n : ℕ) (b : Bool) (drawn left slot size : ℕ) (pieces : List Pieces.Piece) (bounded : IsBounded b drawn left slot size pieces) where
  abbrev s : State
  s = PieceViews.stepping b drawn left slot size pieces

  abbrev ring : Ring
  ring = record { rows = left; first = slot; size = size; parts = PieceViews.parts_from b 0 pieces }

  read : ring_in (ring_out ring) ≡ Some ring
  read =
      let many = PieceViews.many_from b 0 pieces in
      let few = bounded.few in
      let short = bounded.short in
      let same = ap (λ k. size * k) many in
      let low = bounded.slot_low in
      let drawn_low = bounded.drawn_low in
      PieceViews.ring_again left slot size (PieceViews.parts_from b 0 pieces) bounded.left_low (omega arith) bounded.size_low (PieceViews.sized_from b size 0 pieces bounded.fits) (omega arith) (omega arith)

  -- what the ring becomes
  abbrev gone : Message → Value → ℕ → Outcome
  gone m v j = StencilSession.goes drawn ring (StencilSession.parts_with size (length (PieceViews.ids_of b pieces)) v (PieceViews.parts_from b 0 pieces) j) s (named 0 0 m)

  abbrev heard : Message → Value → ℕ → Option Ring → Outcome
  heard m v k o = StencilSession.answers_by s (named 0 0 m) k v o

  -- an answer in the j-th slot
  hears : (m : Message) (v : Value) (j : ℕ) → heard m v (slot + j) (Some ring) ≡ StencilSession.answers s (named 0 0 m) v ring j
  hears m v j =
      ap (λ c. if c then StencilSession.answers s (named 0 0 m) v ring (slot + j - slot) else refused s (named 0 0 m)) (le-leb slot (slot + j) (omega arith))
      ∙ ap (λ k. StencilSession.answers s (named 0 0 m) v ring k) (let e : slot + j - slot ≡ j = omega arith in e)

  pub told_object : (j : ℕ) (o : Id) → computing_outcome n s (named 0 0 (Pieces.object_message (slot + j) o)) ≡ gone (Pieces.object_message (slot + j) o) (Ref 1) j
  unfolding StencilSession.ring_outcome
  told_object j o =
      rw (le-leb drawn 4000000000 bounded.drawn_low) (ap (heard (Pieces.object_message (slot + j) o) (Ref 1) (slot + j)) read ∙ hears (Pieces.object_message (slot + j) o) (Ref 1) j)

  pub told_row : (j : ℕ) (xs : List ℤ) → computing_outcome n s (named 0 0 (Pieces.row_message (slot + j) xs)) ≡ gone (Pieces.row_message (slot + j) xs) (Ints xs) j
  unfolding StencilSession.ring_outcome
  told_row j xs =
      rw (le-leb drawn 4000000000 bounded.drawn_low) (ap (heard (Pieces.row_message (slot + j) xs) (Ints xs) (slot + j)) read ∙ hears (Pieces.row_message (slot + j) xs) (Ints xs) j)

-- ---- what it leaves

state_fields : (drawn : ℕ) (vs vs' : List Value) (ids ids' : List Id) → vs ≡ vs' → ids ≡ ids'
    → ◌≡◌ {A = State} (record { drawn = drawn; values = vs; conts = []; ids = ids }) (record { drawn = drawn; values = vs'; conts = []; ids = ids' })
state_fields drawn vs vs' ids ids' e i = rw (e, i) refl

-- the session that keeps parts that are seen
pub leaves : (s : State) (a : Act) (b : Bool) (drawn left slot size : ℕ) (parts : List Part) (pieces : List Pieces.Piece) (sends : List Sending) (texts : List (List ℕ))
    → PieceViews.AreSeen (hand_ids s a []) b parts pieces
    → state_after s a [] (spoken drawn (ring_out (record { rows = left; first = slot; size = size; parts = parts })) sends texts)
    ≡ PieceViews.stepping b drawn left slot size pieces
leaves s a b drawn left slot size parts pieces sends texts seen =
    state_fields drawn _ _ _ _
    (ap (λ vs. Flag true ∷ Int (pos left) ∷ Int (pos slot) ∷ Int (pos size) ∷ vs) (PieceViews.seen_values (hand_ids s a []) b 0 parts pieces seen))
    (append-nil (map (id_at (hand_ids s a [])) (refs_in (parts_out parts))) ∙ PieceViews.seen_ids (hand_ids s a []) b parts pieces seen)

-- what is sent to parts that are asked to step
pub step_sends : (n : ℕ) (s : State) (a : Act) (b : Bool) (slot q : ℕ) (left right : ℤ) (parts : List Part) (pieces : List Pieces.Piece) → Pieces.all_kept pieces ≡ true
    → PieceViews.AreSeen (hand_ids s a []) b parts pieces
    → map (sent s a []) (StencilSession.step_calls slot left parts (Pieces.rows_in pieces) right) ≡ Pieces.all_due n true slot q (Pieces.ask left pieces right)
step_sends n s a b slot q left right [] [] e h = refl
step_sends n s a b slot q left right (y ∷ parts) (x ∷ pieces) e h =
    let k = Pieces.both_true (Pieces.is_kept x) (Pieces.all_kept pieces) e in
    by x y.to k.0 h.0 (step_sends n s a b (slot + 1) (q + 1) (last_or (Pieces.comes_to x) left) right parts pieces k.1 h.2)
  where
    by : (z : Pieces.Piece) (to : Option ℕ) → Pieces.is_kept z ≡ true → PieceViews.IsSeen (hand_ids s a []) to (PieceViews.seen_to b z)
        → (map (sent s a []) (StencilSession.step_calls (slot + 1) (last_or (Pieces.comes_to x) left) parts (Pieces.rows_in pieces) right)) ≡ Pieces.all_due n true (slot + 1) (q + 1) (Pieces.ask (last_or (Pieces.comes_to x) left) pieces right)
        → sent s a [] (StencilSession.step_call slot to left (StencilSession.next_of (Pieces.rows_in pieces) right)) ∷ (map (sent s a []) (StencilSession.step_calls (slot + 1) (last_or (Pieces.comes_to x) left) parts (Pieces.rows_in pieces) right))
        ≡ Pieces.step_message slot (Pieces.object z) left (StencilSession.next_of (Pieces.rows_in pieces) right) ∷ Pieces.all_due n true (slot + 1) (q + 1) (Pieces.ask (last_or (Pieces.comes_to x) left) pieces right)
    by (Pieces.Kept o xs) (Some p) kept seen same = ap (λ u. Pieces.step_message slot u left (StencilSession.next_of (Pieces.rows_in pieces) right) ∷ (map (sent s a []) (StencilSession.step_calls (slot + 1) (last_or (Pieces.comes_to x) left) parts (Pieces.rows_in pieces) right))) seen ∙ ap (λ ms. Pieces.step_message slot o left (StencilSession.next_of (Pieces.rows_in pieces) right) ∷ ms) same
    by (Pieces.Kept o xs) None kept seen same = absurd seen
    by (Pieces.Wanted xs) to kept seen same = cc
    by (Pieces.Asked o l xs r) to kept seen same = cc
    by (Pieces.Said o xs) to kept seen same = cc
step_sends n s a b slot q left right [] (x ∷ pieces) e h = absurd h
step_sends n s a b slot q left right (y ∷ parts) [] e h = absurd h

-- what is sent for parts that are to be made
pub new_sends : (n : ℕ) (s : State) (a : Act) (slot size q count : ℕ) → map (sent s a []) (StencilSession.new_calls n slot size q count) ≡ Pieces.all_due n false slot q (Pieces.wanted size q count)
new_sends n s a slot size q zero = refl
new_sends n s a slot size q (suc count) = ap (λ ms. Pieces.new_message n slot q (points_from (q * size) size) ∷ ms) (new_sends n s a (slot + 1) size (q + 1) count)
