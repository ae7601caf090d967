-- Actions on accumulators and partitions keep the laws.
use Rattle.std.specs.Prelude.{ℕ, suc, ℤ, pos, List, [], ◌∷◌, ◌≤◌, ◌≡◌, ◌+ℤ◌, length, refl}
use Rattle.std.proofs.Common.{ap, arith, lit≤}
use Rattle.hpx_value.specs.declared.value.Value.{Value as Spelled}
use Rattle.hpx_value.specs.declared.value.Value.TheVariants.{Unit as SpelledUnit, Int as SpelledInt, Ints as SpelledInts}
use Rattle.hpx_value.specs.declared.value.State.{State}
use Rattle.hpx_value.specs.declared.value.Act.{Act}
use Rattle.hpx_calls.specs.Values.{spelled}
use Rattle.hpx_calls.specs.Requests.{Request, Add, Query, Reset, Step}
use Rattle.hpx_calls.specs.Contents.{Number, Row, layout}
use Rattle.hpx_calls.specs.Tables.{on_number, on_row, fits, stepped}
use Rattle.hpx_calls.proofs.Controls.{IsCall, IsGood, good_if, stay_good, refused_good, answers_good, one_int}

pub number_good : (n kind here : ℕ) (s : State) (a : Act) (v : ℤ) (r : Request Spelled) → IsCall kind s a → layout spelled (Number v) ≡ s.values → length s.conts ≡ 0
    → IsGood n kind here s a (on_number spelled v r)
number_good n kind here s a v (Add z) h e none =
    good_if n kind here s a (fits (v +ℤ z)) _ _ (λ f. answers_good n kind here s a (Number (v +ℤ z)) SpelledUnit h (omega arith) (one_int (v +ℤ z)) tt refl)
    (λ f. refused_good n kind here s a (Number v) 1 h e (lit≤ tt) (lit≤ tt))
number_good n kind here s a v Query h e none = stay_good n kind here s a (Number v) (SpelledInt v) h e tt refl
number_good n kind here s a v Reset h e none = answers_good n kind here s a (Number (pos 0)) SpelledUnit h (omega arith) (one_int (pos 0)) tt refl
number_good n kind here s a v _ h e none = refused_good n kind here s a (Number v) 11 h e (lit≤ tt) (lit≤ tt)

length_stepped : (left : ℤ) (xs : List ℤ) (right : ℤ) → length (stepped left xs right) ≡ length xs
length_stepped left [] right = refl
length_stepped left (x ∷ []) right = refl
length_stepped left (x ∷ y ∷ xs) right = ap suc (length_stepped x (y ∷ xs) right)

pub row_good : (n kind here : ℕ) (s : State) (a : Act) (xs : List ℤ) (r : Request Spelled) → IsCall kind s a → layout spelled (Row xs) ≡ s.values → length s.conts ≡ 0 → length xs ≤ 1024
    → IsGood n kind here s a (on_row spelled xs r)
row_good n kind here s a xs (Step left right) h e none few =
    let long = length_stepped left xs right in
    answers_good n kind here s a (Row (stepped left xs right)) (SpelledInts (stepped left xs right)) h (omega arith)
    (record { refs = refl; values = record { few = lit≤ tt; each = (omega arith, tt) }; short = omega arith }) (omega arith) refl
row_good n kind here s a xs _ h e none few = refused_good n kind here s a (Row xs) 11 h e (lit≤ tt) (lit≤ tt)
