-- A session that computes sends no MOVE.
use Rattle.std.specs.Prelude.{ℕ, zero, suc, ℤ, pos, nat_le, nat_lt, List, [], ◌∷◌, ◌≢◌, ◌+◌, ◌-◌, ◌/◌, ◌==◌, ◌&&◌, Option, Some, None, length}
use Rattle.std.specs.List.{AllByRecursion}
use Rattle.std.proofs.lemmas.Bool.{cond_both}
use Rattle.app_compute.specs.Types.{Value, Nothing, Flag, Int, Text, Ref, Fault, Ints, Cont, State, Act, Outcome, Sending}
use Rattle.app_compute.specs.declared.shape.Shape.{Shape}
use Rattle.app_compute.specs.declared.ring.Part.{Part}
use Rattle.app_compute.specs.declared.ring.Ring.{Ring}
use Rattle.app_compute.specs.declared.line.Question.{Question}
use Rattle.app_compute.specs.declared.session.Awaited.{Awaited}
use Rattle.app_compute.specs.Acts.{is_empty}
use Rattle.app_compute.specs.Computing.{computing_outcome, rings}
use Rattle.app_compute.specs.Lines.{question_of}
use Rattle.app_compute.specs.Ring.{first_of, last_of, last_or}
use Rattle.app_compute.specs.Session
use Rattle.app_compute.specs.Stencil.{ring_in, shape_of}
use Rattle.app_compute.specs.StencilSession

abbrev pub AreStill : List Sending → Type 0
AreStill sends = AllByRecursion (λ x. x.code ≢ 1) sends

abbrev pub IsStill : Outcome → Type 0
IsStill o = AreStill o.sends

-- ---- a ring

new_still : (n slot size q count : ℕ) → AreStill (StencilSession.new_calls n slot size q count)
new_still n slot size q zero = tt
new_still n slot size q (suc count) = ((λ x. cc), new_still n (slot + 1) size (q + 1) count)

step_still : (slot : ℕ) (left right : ℤ) (parts : List Part) (rows : List (List ℤ)) → AreStill (StencilSession.step_calls slot left parts rows right)
step_still slot left right [] rows = tt
step_still slot left right (x ∷ parts) [] = tt
step_still slot left right (x ∷ parts) (row ∷ rows) = ((λ x. cc), step_still (slot + 1) (last_or row left) right parts rows)

stepped_still : (drawn : ℕ) (x : Ring) (parts : List Part) (o : Option (List (List ℤ))) → IsStill (StencilSession.stepped_on drawn x parts o)
stepped_still drawn x parts None = tt
stepped_still drawn x parts (Some rows) =
    cond_both (x.rows == 1) _ _ IsStill (λ e. tt) (λ e. step_still drawn (last_of rows) (first_of rows) parts rows)

goes_still : (drawn : ℕ) (x : Ring) (o : Option (List Part)) (s : State) (a : Act) → IsStill (StencilSession.goes drawn x o s a)
goes_still drawn x None s a = tt
goes_still drawn x (Some parts) s a =
    cond_both (StencilSession.are_made parts) _ _ IsStill
    (λ e. cond_both (StencilSession.are_bare parts) _ _ IsStill
    (λ f.
    let rows = StencilSession.first_rows x.size 0 (length parts) in
    step_still drawn (last_of rows) (first_of rows) parts rows)
    (λ f. stepped_still drawn x parts (StencilSession.rows_of parts)))
    (λ e. tt)

ring_answers_still : (s : State) (a : Act) (v : Value) (x : Ring) (q : ℕ) → IsStill (StencilSession.answers s a v x q)
ring_answers_still s a (Fault code) x q = cond_both (nat_lt q (length x.parts)) _ _ IsStill (λ e. tt) (λ e. tt)
ring_answers_still s a Nothing x q = goes_still s.drawn x (StencilSession.parts_with x.size (length s.ids) Nothing x.parts q) s a
ring_answers_still s a (Flag b) x q = goes_still s.drawn x (StencilSession.parts_with x.size (length s.ids) (Flag b) x.parts q) s a
ring_answers_still s a (Int z) x q = goes_still s.drawn x (StencilSession.parts_with x.size (length s.ids) (Int z) x.parts q) s a
ring_answers_still s a (Text t) x q = goes_still s.drawn x (StencilSession.parts_with x.size (length s.ids) (Text t) x.parts q) s a
ring_answers_still s a (Ref p) x q = goes_still s.drawn x (StencilSession.parts_with x.size (length s.ids) (Ref p) x.parts q) s a
ring_answers_still s a (Ints zs) x q = goes_still s.drawn x (StencilSession.parts_with x.size (length s.ids) (Ints zs) x.parts q) s a

answers_by_still : (s : State) (a : Act) (slot : ℕ) (v : Value) (o : Option Ring) → IsStill (StencilSession.answers_by s a slot v o)
answers_by_still s a slot v None = tt
answers_by_still s a slot v (Some x) = cond_both (nat_le x.first slot) _ _ IsStill (λ e. ring_answers_still s a v x (slot - x.first)) (λ e. tt)

begins_still : (n : ℕ) (s : State) (a : Act) (o : Option Shape) → IsStill (StencilSession.begins_by n s a o)
begins_still n s a None = tt
begins_still n s a (Some x) = cond_both (x.steps == 0) _ _ IsStill (λ e. tt) (λ e. new_still n s.drawn (x.points / x.parts) 0 x.parts)

ring_args_still : (n : ℕ) (s : State) (a : Act) (args : List Value) → IsStill (StencilSession.ring_args n s a args)
ring_args_still n s a (Text (mark ∷ line) ∷ []) =
    cond_both ((a.code == 4) && ((mark == 99) && is_empty s.values)) _ _ IsStill (λ e. begins_still n s a (shape_of line)) (λ e. tt)
ring_args_still n s a (Int (pos slot) ∷ v ∷ []) = cond_both (a.code == 3) _ _ IsStill (λ e. answers_by_still s a slot v (ring_in s.values)) (λ e. tt)
ring_args_still n s a _ = tt

ring_cont_still : (n : ℕ) (s : State) (a : Act) (cont : Option Cont) → IsStill (StencilSession.ring_cont n s a cont)
ring_cont_still n s a None = ring_args_still n s a a.args
ring_cont_still n s a (Some c) = tt

ring_still : (n : ℕ) (s : State) (a : Act) → IsStill (StencilSession.ring_outcome n s a)
unfolding StencilSession.ring_outcome
ring_still n s a = cond_both (is_empty s.conts && nat_le s.drawn 4000000000) _ _ IsStill (λ e. ring_cont_still n s a a.cont) (λ e. tt)

-- ---- numbers

asks_still : (s : State) (a : Act) (question : Option Question) → IsStill (Session.asks s a question)
asks_still s a None = tt
asks_still s a (Some q) = ((λ x. cc), tt)

answers_still : (s : State) (a : Act) (slot : ℕ) (v : Value) (awaited : Option Awaited) → IsStill (Session.answers s a slot v awaited)
answers_still s a slot v None = tt
answers_still s a slot v (Some x) = cond_both (slot == x.slot) _ _ IsStill (λ e. tt) (λ e. tt)

args_still : (s : State) (a : Act) (args : List Value) → IsStill (Session.session_args s a args)
args_still s a (Text (mark ∷ line) ∷ []) =
    cond_both ((a.code == 4) && ((mark == 99) && is_empty s.values)) _ _ IsStill (λ e. asks_still s a (question_of line)) (λ e. tt)
args_still s a (Int (pos slot) ∷ v ∷ []) = cond_both (a.code == 3) _ _ IsStill (λ e. answers_still s a slot v (Session.awaited_in s.values)) (λ e. tt)
args_still s a _ = tt

cont_still : (s : State) (a : Act) (cont : Option Cont) → IsStill (Session.session_cont s a cont)
cont_still s a None = args_still s a a.args
cont_still s a (Some c) = tt

session_still : (s : State) (a : Act) → IsStill (Session.session_outcome s a)
unfolding Session.session_outcome
session_still s a = cond_both (is_empty s.conts && nat_le s.drawn 4000000000) _ _ IsStill (λ e. cont_still s a a.cont) (λ e. tt)

-- ---- both

pub computing_still : (n : ℕ) (s : State) (a : Act) → IsStill (computing_outcome n s a)
computing_still n s a = cond_both (rings s a) _ _ IsStill (λ e. ring_still n s a) (λ e. session_still s a)
