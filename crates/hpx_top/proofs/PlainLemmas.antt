-- Inputs, lines and texts, one line after another.
use Rattle.std.specs.Prelude.{ℕ, Bool, true, false, cond, List, [], ◌∷◌, ◌++◌, ◌≡◌, refl, if◌then◌else◌}
use Rattle.std.specs.List.{slice_split, onto_first, list_any, All}
use Rattle.std.specs.Str.Lines.{strip_carriage_return}
use Rattle.std.proofs.Common.{sym, ap, ◌∙◌, arith, zero, suc}
use Rattle.std.proofs.lemmas.Bool.{or_parts}
use Rattle.std.proofs.lemmas.List.Splits.{slice_split_at, slice_split_none}
use Rattle.app_console.specs.Console.{is_filled}
use Rattle.app_console.specs.Lines.{is_newline, IsPiece, lines_in}

-- ---- lines

all_other : (piece : List ℕ) → IsPiece piece → All (λ b. is_newline b ≡ false) piece
all_other [] h k d low = absurd (omega arith)
all_other (b ∷ bs) h zero d low = (or_parts (is_newline b) (list_any is_newline bs) h).0
all_other (b ∷ bs) h (suc k) d low = all_other bs (or_parts (is_newline b) (list_any is_newline bs) h).1 k d (omega arith)

-- there is always a piece
record HasPieces (pieces : List (List ℕ)) : Type 0 where
  first : List ℕ
  others : List (List ℕ)
  are : pieces ≡ first ∷ others

onto_some : (b : ℕ) (pieces : List (List ℕ)) → HasPieces (onto_first b pieces)
onto_some b [] = record { first = b ∷ []; others = []; are = refl }
onto_some b (piece ∷ pieces) = record { first = b ∷ piece; others = pieces; are = refl }

cut_some : (cut : Bool) (b : ℕ) (pieces : List (List ℕ)) → HasPieces (cond cut ([] ∷ pieces) (onto_first b pieces))
cut_some true b pieces = record { first = []; others = pieces; are = refl }
cut_some false b pieces = onto_some b pieces

split_some : (bytes : List ℕ) → HasPieces (slice_split is_newline bytes)
split_some [] = record { first = []; others = []; are = refl }
split_some (b ∷ bs) = cut_some (is_newline b) b (slice_split is_newline bs)

pub lines_in-first : (piece rest : List ℕ) → IsPiece piece
    → lines_in (slice_split is_newline (piece ++ 10 ∷ rest)) ≡ strip_carriage_return piece ∷ lines_in (slice_split is_newline rest)
lines_in-first piece rest h =
    let more = split_some rest in
    ap lines_in (slice_split_at is_newline piece 10 rest (all_other piece h) refl)
    ∙ ap (λ pieces. lines_in (piece ∷ pieces)) more.are
    ∙ ap (λ pieces. strip_carriage_return piece ∷ lines_in pieces) (sym more.are)

pub lines_in-last : (piece : List ℕ) → IsPiece piece
    → lines_in (slice_split is_newline piece) ≡ (if is_filled piece then strip_carriage_return piece ∷ [] else [])
lines_in-last piece h = ap lines_in (slice_split_none is_newline piece (all_other piece h))
