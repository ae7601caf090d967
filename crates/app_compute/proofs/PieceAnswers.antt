-- What the session does with the answer of a part: it waits for others, or has all parts step, or ends.
use Rattle.std.specs.Prelude.{ℕ, suc, ℤ, Bool, true, false, List, [], ◌∷◌, ◌++◌, ◌≡◌, ◌≢◌, ◌+◌, ◌-◌, ◌==◌, Option, Some, None, length, refl, if◌then◌else◌}
use Rattle.std.specs.List.{AllByRecursion}
use Rattle.std.proofs.Common.{sym, ap, ◌∙◌, subst, arith, append-nil}
use Rattle.std.proofs.lemmas.Bool.{eqb-false, eqb-true}
use Rattle.hpx_value.specs.Ids.{Id}
use Rattle.hpx_value.specs.Values.{named}
use Rattle.hpx_value.specs.declared.value.Message.{Message}
use Rattle.hpx_value.specs.Hands.{hand_ids, id_at, session, state_after}
use Rattle.hpx_journal.specs.Pool.{sent_by}
use Rattle.app_compute.specs.Types.{State, Act, Outcome}
use Rattle.app_compute.specs.declared.ring.Part.{Part}
use Rattle.app_compute.specs.declared.ring.Ring.{Ring}
use Rattle.app_compute.specs.Computing.{computing_outcome}
use Rattle.app_compute.specs.Ring.{first_of, joined, last_of}
use Rattle.app_compute.specs.Session.{spoken}
use Rattle.app_compute.specs.StencilSession
use Rattle.app_compute.proofs.Pieces
use Rattle.app_compute.proofs.PieceViews
use Rattle.app_compute.proofs.PieceActs.{IsBounded, leaves, step_sends, told_object, told_row}

-- what is asked of all pieces next
abbrev pub asked : List Pieces.Piece → List Pieces.Piece
asked pieces = Pieces.ask (last_of (Pieces.rows_in pieces)) pieces (first_of (Pieces.rows_in pieces))

-- nothing is made, this state is left, and this is sent and printed
pub record Leaves (s : State) (m : Message) (out : Outcome) (s' : State) (ms : List Message) (texts : List (List ℕ)) : Type 0 where
  pub makes : out.makes ≡ []
  pub state : state_after s (named 0 0 m) [] out ≡ s'
  pub sends : sent_by m s [] out ≡ ms
  pub prints : out.prints ≡ texts

pub data Answered (n : ℕ) (b : Bool) (drawn left slot size : ℕ) (pieces : List Pieces.Piece) (s : State) (m : Message) (out : Outcome) : Type 0 where
  -- others are awaited still
  Waits : Pieces.all_kept pieces ≡ false → Leaves s m out (PieceViews.stepping b drawn left slot size pieces) [] [] → Answered n b drawn left slot size pieces s m out
  -- all parts are made
  Begins : b ≡ false → Pieces.all_kept pieces ≡ true
      → Leaves s m out (PieceViews.stepping true (drawn + length pieces) left drawn size (asked pieces)) (Pieces.all_due n true drawn 0 (asked pieces)) []
      → Answered n b drawn left slot size pieces s m out
  -- all parts are stepped, and step again
  Goes : b ≡ true → left ≢ 1 → Pieces.all_kept pieces ≡ true
      → Leaves s m out (PieceViews.stepping true (drawn + length pieces) (left - 1) drawn size (asked pieces)) (Pieces.all_due n true drawn 0 (asked pieces))
      (StencilSession.printed (joined (Pieces.rows_in pieces)))
      → Answered n b drawn left slot size pieces s m out
  -- for the last time
  Ends : b ≡ true → left ≡ 1 → Pieces.all_kept pieces ≡ true → (s' : State) → Leaves s m out s' [] (StencilSession.printed (joined (Pieces.rows_in pieces))) → Answered n b drawn left slot size pieces s m out

carried : (s : State) (m : Message) (out out' : Outcome) (s' : State) (ms : List Message) (texts : List (List ℕ)) → out ≡ out' → Leaves s m out' s' ms texts → Leaves s m out s' ms texts
carried s m out out' s' ms texts e h = subst (λ o. Leaves s m o s' ms texts) (sym e) h

-- how many ids stand before
at_second : (ids : List Id) (u o : Id) (rest : List Id) → id_at (ids ++ u ∷ o ∷ rest) (length ids + 1) ≡ o
at_second [] u o rest = refl
at_second (x ∷ ids) u o rest =
    ap (id_at (x ∷ (ids ++ u ∷ o ∷ rest))) (let e : suc (length ids) + 1 ≡ suc (length ids + 1) = omega arith in e) ∙ at_second ids u o rest

module _ (n : ℕ) (b : Bool) (drawn left slot size : ℕ) (s : State) (m : Message) (pieces : List Pieces.Piece) (new : List Part)
    (seen : PieceViews.AreSeen (hand_ids s (named 0 0 m) []) b new pieces) (fits : AllByRecursion (Pieces.Fits b size) pieces)
    (first : b ≡ false → Pieces.rows_in pieces ≡ StencilSession.first_rows size 0 (length pieces)) where
  abbrev a : Act
  a = named 0 0 m

  abbrev hand : List Id
  hand = hand_ids s a []

  abbrev ring : List Part → Ring
  ring parts = record { rows = left; first = slot; size = size; parts = parts }

  -- an outcome by what its parts are
  abbrev going : List Part → Bool → Bool → Option (List (List ℤ)) → Outcome
  going parts made bare rows =
      if made then (if bare then StencilSession.steps drawn left size new (StencilSession.first_rows size 0 (length new)) [] else StencilSession.stepped_on drawn (ring parts) new rows)
      else StencilSession.waits drawn (ring parts) new

  many : length new ≡ length pieces
  many = PieceViews.seen_many hand b new pieces seen

  waits_leave : (parts : List Part) → Leaves s m (StencilSession.waits drawn (ring parts) new) (PieceViews.stepping b drawn left slot size pieces) [] []
  waits_leave parts = record { makes = refl; state = leaves s a b drawn left slot size new pieces [] [] seen; sends = refl; prints = refl }

  steps_leave : (left' : ℕ) (rows : List (List ℤ)) (texts : List (List ℕ)) → Pieces.all_kept pieces ≡ true → rows ≡ Pieces.rows_in pieces
      → Leaves s m (StencilSession.steps drawn left' size new rows texts) (PieceViews.stepping true (drawn + length pieces) left' drawn size (asked pieces)) (Pieces.all_due n true drawn 0 (asked pieces)) texts
  steps_leave left' rows texts kept e =
      let rs = Pieces.rows_in pieces in
      let cleared = PieceViews.cleared_seen hand b new (last_of rs) pieces (first_of rs) kept seen in
      carried s m (StencilSession.steps drawn left' size new rows texts) (StencilSession.steps drawn left' size new rs texts) _ _ _
      (ap (λ r. StencilSession.steps drawn left' size new r texts) e)
      (record {
        makes = refl;
        state =
            leaves s a true (drawn + length new) left' drawn size (StencilSession.cleared new) (asked pieces) (StencilSession.step_calls drawn (last_of rs) new rs (first_of rs)) texts cleared
            ∙ ap (λ k. PieceViews.stepping true (drawn + k) left' drawn size (asked pieces)) many;
        sends = append-nil _ ∙ step_sends n s a b drawn 0 (last_of rs) (first_of rs) new pieces kept seen;
        prints = refl;
      })

  -- parts are made
  making : (parts : List Part) → b ≡ false → (kept : Bool) → Pieces.all_kept pieces ≡ kept
      → Answered n b drawn left slot size pieces s m (going parts kept true (StencilSession.rows_of new))
  making parts eb false e = Waits e (waits_leave parts)
  making parts eb true e =
      Begins eb e (steps_leave left (StencilSession.first_rows size 0 (length new)) [] e
      (ap (StencilSession.first_rows size 0) many ∙ sym (first eb)))

  -- parts are stepped
  stepping : (parts : List Part) → b ≡ true → (kept : Bool) → Pieces.all_kept pieces ≡ kept
      → Answered n b drawn left slot size pieces s m (going parts true false (if kept then Some (Pieces.rows_in pieces) else None))
  stepping parts eb false e = Waits e (waits_leave parts)
  stepping parts eb true e = by (left == 1) refl
    where
      by : (c : Bool) → (left == 1) ≡ c
          → Answered n b drawn left slot size pieces s m (if left == 1 then spoken drawn [] [] (StencilSession.printed (joined (Pieces.rows_in pieces))) else StencilSession.steps drawn (left - 1) size new (Pieces.rows_in pieces) (StencilSession.printed (joined (Pieces.rows_in pieces))))
      by true f =
          subst (λ c. Answered n b drawn left slot size pieces s m (if c then spoken drawn [] [] (StencilSession.printed (joined (Pieces.rows_in pieces))) else StencilSession.steps drawn (left - 1) size new (Pieces.rows_in pieces) (StencilSession.printed (joined (Pieces.rows_in pieces))))) (sym f)
          (Ends eb (eqb-true left 1 f) e _ (record { makes = refl; state = refl; sends = refl; prints = refl }))
      by false f =
          subst (λ c. Answered n b drawn left slot size pieces s m (if c then spoken drawn [] [] (StencilSession.printed (joined (Pieces.rows_in pieces))) else StencilSession.steps drawn (left - 1) size new (Pieces.rows_in pieces) (StencilSession.printed (joined (Pieces.rows_in pieces))))) (sym f)
          (Goes eb (eqb-false left 1 f) e (steps_leave (left - 1) (Pieces.rows_in pieces) (StencilSession.printed (joined (Pieces.rows_in pieces))) e refl))

  going_is : (parts : List Part) (made bare : Bool) (rows : Option (List (List ℤ))) → StencilSession.are_made new ≡ made → StencilSession.are_bare new ≡ bare → StencilSession.rows_of new ≡ rows
      → Answered n b drawn left slot size pieces s m (going parts made bare rows)
      → Answered n b drawn left slot size pieces s m (going parts (StencilSession.are_made new) (StencilSession.are_bare new) (StencilSession.rows_of new))
  going_is parts made bare rows e f g h =
      subst (λ x. Answered n b drawn left slot size pieces s m (going parts x (StencilSession.are_bare new) (StencilSession.rows_of new))) (sym e)
      (subst (λ x. Answered n b drawn left slot size pieces s m (going parts made x (StencilSession.rows_of new))) (sym f)
      (subst (λ x. Answered n b drawn left slot size pieces s m (going parts made bare x)) (sym g) h))

-- the answer of the piece behind `front`
module _ (n : ℕ) (drawn left slot size : ℕ) (front back : List Pieces.Piece) (o : Id) (xs : List ℤ) where
  abbrev before : List Pieces.Piece
  before = front ++ Pieces.Said o xs ∷ back

  abbrev after : List Pieces.Piece
  after = front ++ Pieces.Kept o xs ∷ back

  abbrev message : Bool → Message
  message b = Pieces.answer_message b (slot + length front) o xs

  abbrev state : Bool → State
  state b = PieceViews.stepping b drawn left slot size before

  -- the pieces as they are then
  after_fits : (b : Bool) → AllByRecursion (Pieces.Fits b size) before → AllByRecursion (Pieces.Fits b size) after
  after_fits b h = let split = Pieces.all-front (Pieces.Fits b size) front back (Pieces.Said o xs) h in
      Pieces.all-middle (Pieces.Fits b size) front back (Pieces.Kept o xs) split.0 split.1 split.2

  telling : (b : Bool) → AllByRecursion (Pieces.Fits b size) before
      → PieceViews.IsTold (hand_ids (state b) (named 0 0 (message b)) []) b size (length (PieceViews.ids_of b before)) (PieceViews.told b xs) (PieceViews.parts_from b 0 before) (length front) after
  telling b h =
      let split = Pieces.all-front (Pieces.Fits b size) front back (Pieces.Said o xs) h in
      let hand = hand_ids (state b) (named 0 0 (message b)) [] in
      PieceViews.told_seen hand b size (length (PieceViews.ids_of b before)) (PieceViews.parts_from b 0 before) front back o xs split.1 (there b)
      (PieceViews.kept_seen hand b before [] ((message b).ids ++ []) 0 refl refl)
    where
      there : (b : Bool) → b ≡ false → id_at (hand_ids (state b) (named 0 0 (message b)) []) (length (PieceViews.ids_of b before) + 1) ≡ o
      there false e = at_second (PieceViews.ids_of false before) session o []
      there true e = absurd (let no : true ≡ false = e in cc)

  pub answered : (b : Bool) → IsBounded b drawn left slot size before → (b ≡ false → Pieces.rows_in after ≡ StencilSession.first_rows size 0 (length after))
      → Answered n b drawn left slot size after (state b) (message b) (computing_outcome n (state b) (named 0 0 (message b)))
  answered false bounded first =
      let told = telling false bounded.fits in
      let fits = after_fits false bounded.fits in
      let s = state false in
      let m = message false in
      subst (Answered n false drawn left slot size after s m)
      (sym (told_object n false drawn left slot size before bounded (length front) o
      ∙ ap (λ p. StencilSession.goes drawn (record { rows = left; first = slot; size = size; parts = PieceViews.parts_from false 0 before }) p s (named 0 0 m)) told.is))
      (going_is n false drawn left slot size s m after told.new told.seen fits first (PieceViews.parts_from false 0 before) (Pieces.all_kept after) true (StencilSession.rows_of told.new)
      (PieceViews.made_seen (hand_ids s (named 0 0 m) []) false size told.new after told.seen fits) (PieceViews.bare_false (hand_ids s (named 0 0 m) []) told.new after told.seen) refl
      (making n false drawn left slot size s m after told.new told.seen fits first (PieceViews.parts_from false 0 before) refl (Pieces.all_kept after) refl))
  answered true bounded first =
      let told = telling true bounded.fits in
      let fits = after_fits true bounded.fits in
      let s = state true in
      let m = message true in
      subst (Answered n true drawn left slot size after s m)
      (sym (told_row n true drawn left slot size before bounded (length front) xs
      ∙ ap (λ p. StencilSession.goes drawn (record { rows = left; first = slot; size = size; parts = PieceViews.parts_from true 0 before }) p s (named 0 0 m)) told.is))
      (going_is n true drawn left slot size s m after told.new told.seen fits first (PieceViews.parts_from true 0 before) true false
      (if Pieces.all_kept after then Some (Pieces.rows_in after) else None)
      (PieceViews.made_seen (hand_ids s (named 0 0 m) []) true size told.new after told.seen fits)
      (PieceViews.bare_true (hand_ids s (named 0 0 m) []) told.new front back o xs told.seen) (PieceViews.rows_seen (hand_ids s (named 0 0 m) []) told.new after told.seen)
      (stepping n true drawn left slot size s m after told.new told.seen fits first (PieceViews.parts_from true 0 before) refl (Pieces.all_kept after) refl))
