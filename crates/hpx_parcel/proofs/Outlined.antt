-- The outline of a frame is that of its parcel.
use Rattle.std.proofs.Common.{◌≡◌, ℕ, ◌-◌, ◌<◌, ◌≤◌, true, false, ltb, eqb, List, length, Ok, Err, refl, sym, ap, ◌∙◌}
use Rattle.std.proofs.lemmas.Bool.{lt-ltb, le-ltb}
use Rattle.hpx_parcel.specs.Types.{Act, State, Parcel, Apply, Move, Go, Object, Long}
use Rattle.hpx_parcel.specs.Reading.{Stop, ActRule, Applied, Moves, act_at, state_at, object_at, fields_at, whole_of, parcel_at, reading, IsRefused}
use Rattle.hpx_parcel.specs.Outlines.{Outline, ActOutline, most_home, most_place, moving, applied, outline, act_part, state_part, parcel_part, IsOutline}
use Rattle.hpx_parcel.specs.Outlines.kinds
use Rattle.hpx_parcel.proofs.FieldLaws.{IsBytes}
use Rattle.hpx_parcel.proofs.Frames.{read_spelled, one_parcel, refused_is}

-- what is kept of an action
abbrev pub SeenAct : ActRule → List ℕ → ActOutline → List ℕ → Type 0
SeenAct rule bytes act rest = (y : Act × List ℕ) × (act_at rule bytes ≡ Ok y) × (act_part y ≡ (act, rest))

pub object_is : (bytes : List ℕ) (act : ActOutline) (mid : List ℕ) (most : ℕ) (rest : List ℕ) → SeenAct Moves bytes act mid
    → (y : State × List ℕ) × (state_at mid ≡ Ok y) × (state_part (most_place act.most act.to) y ≡ (most, rest))
    → (y : Parcel × List ℕ) × (object_at bytes ≡ Ok y) × (parcel_part y ≡ (record (moving kinds.Object act) { most = most }, rest))
unfolding object_at
object_is bytes act mid most rest o p =
    let next : o.0.1 ≡ mid = ap (λ (q : ActOutline × List ℕ). q.1) o.2 in
    let state : state_at o.0.1 ≡ Ok p.0 = ap state_at next ∙ p.1 in (
      (Object o.0.0 p.0.0, p.0.1),
      rw (o.1, state) refl,
      ap (λ (q : ActOutline × List ℕ). (record (moving kinds.Object q.0) { most = most_home (most_place q.0.most q.0.to) p.0.0.ids }, p.0.1)) o.2
          ∙ ap (λ (q : ℕ × List ℕ). (record (moving kinds.Object act) { most = q.0 }, q.1)) p.2,
    )

-- what is kept of a parcel of a kind
abbrev pub SeenFields : ℕ → List ℕ → List ℕ → Outline → List ℕ → Type 0
SeenFields kind bytes rest o after = (y : Parcel × List ℕ) × (fields_at kind bytes rest ≡ Ok y) × (parcel_part y ≡ (o, after))

pub fields_apply : (bytes rest : List ℕ) (act : ActOutline) (after : List ℕ) → SeenAct Applied rest act after → SeenFields 1 bytes rest (applied act) after
unfolding fields_at
fields_apply bytes rest act after o = ((Apply o.0.0, o.0.1), rw (o.1) refl, ap (λ (q : ActOutline × List ℕ). (applied q.0, q.1)) o.2)

pub fields_move : (bytes rest : List ℕ) (act : ActOutline) (after : List ℕ) → SeenAct Moves rest act after → SeenFields 6 bytes rest (moving kinds.Move act) after
unfolding fields_at
fields_move bytes rest act after o = ((Move o.0.0, o.0.1), rw (o.1) refl, ap (λ (q : ActOutline × List ℕ). (moving kinds.Move q.0, q.1)) o.2)

pub fields_go : (bytes rest : List ℕ) (act : ActOutline) (after : List ℕ) → SeenAct Moves rest act after → SeenFields 7 bytes rest (moving kinds.Go act) after
unfolding fields_at
fields_go bytes rest act after o = ((Go o.0.0, o.0.1), rw (o.1) refl, ap (λ (q : ActOutline × List ℕ). (moving kinds.Go q.0, q.1)) o.2)

-- what is kept of a parcel, and the bytes after it
abbrev pub SeenParcel : List ℕ → Outline → List ℕ → Type 0
SeenParcel bytes o rest = (y : Parcel × List ℕ) × (parcel_at bytes ≡ Ok y) × (parcel_part y ≡ (o, rest))

pub whole_is : (bytes : List ℕ) (o : Outline) (rest : List ℕ) → SeenParcel bytes o rest → length rest ≡ 0 → (p : Parcel) × (whole_of bytes ≡ Ok p) × (outline p ≡ o)
unfolding whole_of
whole_is bytes o rest s none =
    let next : s.0.1 ≡ rest = ap (λ (q : Outline × List ℕ). q.1) s.2 in
    let zero : eqb (length s.0.1) 0 ≡ true = ap (λ (r : List ℕ). eqb (length r) 0) next ∙ ap (λ (n : ℕ). eqb n 0) none in
    (s.0.0, rw (s.1, zero) refl, ap (λ (q : Outline × List ℕ). q.0) s.2)

pub outlined : (bytes : List ℕ) (o : Outline) → IsBytes bytes → length bytes ≤ 65536 → (p : Parcel) × (whole_of bytes ≡ Ok p) × (outline p ≡ o) → IsOutline bytes o
unfolding reading
outlined bytes o fits short w =
    let t : ltb 65536 (length bytes) ≡ false = le-ltb _ _ short in
    let read : reading bytes ≡ Ok w.0 = rw (t, w.1) refl in
    let s = read_spelled bytes w.0 fits read in
    record { frame = (w.0, s); same = λ q e. sym w.2 ∙ ap outline (one_parcel bytes w.0 q s e) }

pub stopped : (bytes : List ℕ) (s : Stop) → length bytes ≤ 65536 → whole_of bytes ≡ Err s → IsRefused bytes (record { at = length bytes - s.left; why = s.why })
unfolding reading
stopped bytes s short e =
    let t : ltb 65536 (length bytes) ≡ false = le-ltb _ _ short in
    refused_is bytes (record { at = length bytes - s.left; why = s.why }) (rw (t, e) refl)

pub too_long : (bytes : List ℕ) → 65536 < length bytes → IsRefused bytes (record { at = 65536; why = Long })
unfolding reading
too_long bytes long =
    let t : ltb 65536 (length bytes) ≡ true = lt-ltb _ _ long in
    refused_is bytes (record { at = 65536; why = Long }) (rw t refl)
