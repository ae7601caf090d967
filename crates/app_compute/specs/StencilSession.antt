-- What a session does with the line `stencil P Q S`, and with the answers to it: it has the parts of a ring made, steps them
-- together, and prints a row for each step.
use Rattle.std.specs.Prelude.{ℕ, zero, suc, ℤ, pos, Bool, true, false, nat_le, nat_lt, List, [], ◌∷◌, ◌+◌, ◌-◌, ◌*◌, ◌/◌, ◌%◌, ◌==◌, ◌&&◌, Option, Some, None, codes, length, if◌then◌else◌}
use Rattle.hpx_calls.specs.Contents.{both, is_none}
use Rattle.app_compute.specs.Types.{Value, Int, Text, Ref, Fault, Ints, Cont, State, Act, Place, Root, Here, Sending, Outcome}
use Rattle.app_compute.specs.declared.shape.Shape.{Shape}
use Rattle.app_compute.specs.declared.ring.Part.{Part}
use Rattle.app_compute.specs.declared.ring.Ring.{Ring}
use Rattle.app_compute.specs.Acts.{refused, is_empty}
use Rattle.app_compute.specs.Ring.{first_or, last_or, first_of, last_of, joined, points_from, row_text}
use Rattle.app_compute.specs.Session.{spoken}
use Rattle.app_compute.specs.Stencil.{ring_in, ring_out, shape_of}
use Rattle.app_compute.specs.Texts.{fault_text}

-- ---- the parts are made

-- NEW, code 5, of a part with its points, for the components of a locality, kind 3
abbrev pub new_call : ℕ → ℕ → ℕ → ℕ → Sending
new_call n slot size q = record {
  target = Root 3 (q % n);
  code = 5;
  args = Text (codes "partition") ∷ Ints (points_from (q * size) size) ∷ [];
  cont = Here slot;
}

-- so many parts, from the q-th on, in turn at all localities
abbrev pub new_calls : ℕ → ℕ → ℕ → ℕ → ℕ → List Sending
new_calls n slot size q zero = []
new_calls n slot size q (suc count) = new_call n slot size q ∷ new_calls n (slot + 1) size (q + 1) count

-- parts of which nothing has come
abbrev pub blank_parts : ℕ → List Part
blank_parts zero = []
blank_parts (suc count) = record { to = None; row = None } ∷ blank_parts count

-- where a step is asked for
abbrev pub begins : ℕ → State → Shape → Outcome
begins n s x =
    if x.steps == 0 then spoken s.drawn [] [] []
    else spoken (s.drawn + x.parts)
    (ring_out (record { rows = x.steps; first = s.drawn; size = x.points / x.parts; parts = blank_parts x.parts }))
    (new_calls n s.drawn (x.points / x.parts) 0 x.parts) []

-- ---- they are stepped

-- the place of an object that has come
abbrev pub place_or_0 : Option ℕ → ℕ
place_or_0 None = 0
place_or_0 (Some place) = place

-- STEP, code 19, for a part
abbrev pub step_call : ℕ → Option ℕ → ℤ → ℤ → Sending
step_call slot to left right = record { target = Place (place_or_0 to); code = 19; args = Int left ∷ Int right ∷ []; cont = Here slot }

-- the first number of the rows that follow, or what stands behind them
abbrev pub next_of : List (List ℤ) → ℤ → ℤ
next_of [] right = right
next_of (x ∷ rows) right = first_or x right

-- each part between the nearest numbers of those beside it
abbrev pub step_calls : ℕ → ℤ → List Part → List (List ℤ) → ℤ → List Sending
step_calls slot left (x ∷ parts) (row ∷ rows) right =
    step_call slot x.to left (next_of rows right) ∷ step_calls (slot + 1) (last_or row left) parts rows right
step_calls slot left _ _ right = []

-- the parts, of which no numbers have come
abbrev pub cleared : List Part → List Part
cleared [] = []
cleared (x ∷ parts) = record { to = x.to; row = None } ∷ cleared parts

-- one more step, from these rows on, where so many are to come
abbrev pub steps : ℕ → ℕ → ℕ → List Part → List (List ℤ) → List (List ℕ) → Outcome
steps drawn left size parts rows texts =
    spoken (drawn + length parts) (ring_out (record { rows = left; first = drawn; size = size; parts = cleared parts }))
    (step_calls drawn (last_of rows) parts rows (first_of rows)) texts

-- ---- the answers

-- what a part is after an answer: its object comes first, and then, with every step, as many numbers as it has
abbrev pub answered : ℕ → ℕ → Value → Option ℕ → Option (List ℤ) → Option Part
answered size places (Ref place) None row = Some (record { to = Some (places + place); row = None })
answered size places (Ints numbers) (Some to) None =
    if length numbers == size then Some (record { to = Some to; row = Some numbers }) else None
answered size places _ to row = None

-- the answer of the q-th part, where it was awaited
abbrev pub parts_with : ℕ → ℕ → Value → List Part → ℕ → Option (List Part)
parts_with size places v [] q = None
parts_with size places v (x ∷ parts) zero = both (answered size places v x.to x.row) (Some parts)
parts_with size places v (x ∷ parts) (suc q) = both (Some x) (parts_with size places v parts q)

-- each part has its object
abbrev pub are_made : List Part → Bool
are_made [] = true
are_made (x ∷ parts) = (if is_none x.to then false else true) && are_made parts

-- no part has its numbers
abbrev pub are_bare : List Part → Bool
are_bare [] = true
are_bare (x ∷ parts) = is_none x.row && are_bare parts

-- the numbers of all parts, once they have come
abbrev pub rows_of : List Part → Option (List (List ℤ))
rows_of [] = Some []
rows_of (x ∷ parts) = both x.row (rows_of parts)

-- the points that parts begin with
abbrev pub first_rows : ℕ → ℕ → ℕ → List (List ℤ)
first_rows size q zero = []
first_rows size q (suc count) = points_from (q * size) size ∷ first_rows size (q + 1) count

-- a row, or the fault Full where it is too long to be printed
abbrev pub printed : List ℤ → List (List ℕ)
printed numbers = (if nat_le (length (row_text numbers)) 16384 then row_text numbers else fault_text 10) ∷ []

abbrev pub waits : ℕ → Ring → List Part → Outcome
waits drawn x parts = spoken drawn (ring_out (record { rows = x.rows; first = x.first; size = x.size; parts = parts })) [] []

-- once all numbers have come the row is printed, and the next step is made if one is to come
abbrev pub stepped_on : ℕ → Ring → List Part → Option (List (List ℤ)) → Outcome
stepped_on drawn x parts None = waits drawn x parts
stepped_on drawn x parts (Some rows) =
    if x.rows == 1 then spoken drawn [] [] (printed (joined rows))
    else steps drawn (x.rows - 1) x.size parts rows (printed (joined rows))

-- once all parts are made they are stepped
abbrev pub goes : ℕ → Ring → Option (List Part) → State → Act → Outcome
goes drawn x None s a = refused s a
goes drawn x (Some parts) s a =
    if are_made parts
    then (if are_bare parts then steps drawn x.rows x.size parts (first_rows x.size 0 (length parts)) [] else stepped_on drawn x parts (rows_of parts))
    else waits drawn x parts

-- a fault ends it
abbrev pub answers : State → Act → Value → Ring → ℕ → Outcome
answers s a (Fault code) x q = if nat_lt q (length x.parts) then spoken s.drawn [] [] (fault_text code ∷ []) else refused s a
answers s a v x q = goes s.drawn x (parts_with x.size (length s.ids) v x.parts q) s a

-- ---- the session

abbrev pub begins_by : ℕ → State → Act → Option Shape → Outcome
begins_by n s a None = refused s a
begins_by n s a (Some x) = begins n s x

abbrev pub answers_by : State → Act → ℕ → Value → Option Ring → Outcome
answers_by s a slot v None = refused s a
answers_by s a slot v (Some x) = if nat_le x.first slot then answers s a v x (slot - x.first) else refused s a

-- code 4 is LINE, where nothing is awaited and after the mark `c`; code 3 is SET
abbrev pub ring_args : ℕ → State → Act → List Value → Outcome
ring_args n s a (Text (mark ∷ line) ∷ []) =
    if (a.code == 4) && ((mark == 99) && is_empty s.values) then begins_by n s a (shape_of line) else refused s a
ring_args n s a (Int (pos slot) ∷ v ∷ []) = if a.code == 3 then answers_by s a slot v (ring_in s.values) else refused s a
ring_args n s a _ = refused s a

-- neither carries a continuation
abbrev pub ring_cont : ℕ → State → Act → Option Cont → Outcome
ring_cont n s a None = ring_args n s a a.args
ring_cont n s a (Some c) = refused s a

-- what the session does at n localities; it keeps no continuations, and can draw 32 slots more
unfoldable pub ring_outcome : ℕ → State → Act → Outcome
ring_outcome n s a = if is_empty s.conts && nat_le s.drawn 4000000000 then ring_cont n s a a.cont else refused s a
