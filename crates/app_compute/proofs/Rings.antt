-- A ring that is stepped part by part is stepped as a whole.
use Rattle.std.specs.Prelude.{ℤ, pos, List, [], ◌∷◌, ◌++◌, ◌≡◌, ◌+ℤ◌, codes, refl}
use Rattle.std.specs.List.{AllByRecursion}
use Rattle.std.specs.Fmt.{digits}
use Rattle.std.proofs.Common.{sym, ap, ◌∙◌, append-nil}
use Rattle.hpx_calls.specs.Tables.{half, stepped}
use Rattle.app_compute.specs.Ring
use Rattle.app_compute.specs.Stencil
use Rattle.app_compute.specs.declared.ring.Part.{Part}

-- the first number, and then the others
stepped_first : (left x right : ℤ) (xs : List ℤ) → stepped left (x ∷ xs) right ≡ half (left +ℤ Ring.first_or xs right) ∷ stepped x xs right
stepped_first left x right [] = refl
stepped_first left x right (y ∷ xs) = refl

-- what follows begins with the first number of what is there
first_behind : (xs ys : List ℤ) (other : ℤ) → Ring.first_or (xs ++ ys) other ≡ Ring.first_or xs (Ring.first_or ys other)
first_behind [] ys other = refl
first_behind (x ∷ xs) ys other = refl

last_behind : (xs ys : List ℤ) (other : ℤ) → Ring.last_or (xs ++ ys) other ≡ Ring.last_or ys (Ring.last_or xs other)
last_behind [] ys other = refl
last_behind (x ∷ xs) ys other = last_behind xs ys x

-- a row in two pieces
stepped_behind : (left : ℤ) (xs ys : List ℤ) (right : ℤ) → stepped left (xs ++ ys) right ≡ stepped left xs (Ring.first_or ys right) ++ stepped (Ring.last_or xs left) ys right
stepped_behind left [] ys right = refl
stepped_behind left (x ∷ xs) ys right =
    stepped_first left x right (xs ++ ys)
    ∙ ap (λ y. half (left +ℤ y) ∷ stepped x (xs ++ ys) right) (first_behind xs ys right)
    ∙ ap (λ rest. half (left +ℤ Ring.first_or xs (Ring.first_or ys right)) ∷ rest) (stepped_behind x xs ys right)
    ∙ ap (λ row. row ++ stepped (Ring.last_or xs x) ys right) (sym (stepped_first left x (Ring.first_or ys right) xs))

first_filled : (x : List ℤ) (a b : ℤ) → Ring.IsFilled x → Ring.first_or x a ≡ Ring.first_or x b
first_filled [] a b h = absurd h
first_filled (y ∷ x) a b h = refl

last_filled : (x : List ℤ) (a b : ℤ) → Ring.IsFilled x → Ring.last_or x a ≡ Ring.last_or x b
last_filled [] a b h = absurd h
last_filled (y ∷ x) a b h = refl

parts_whole : (left : ℤ) (rows : List (List ℤ)) (right : ℤ) → AllByRecursion Ring.IsFilled rows
    → Ring.joined (Ring.parts_stepped left rows right) ≡ stepped left (Ring.joined rows) right
parts_whole left [] right h = refl
parts_whole left (x ∷ []) right h = append-nil (stepped left x right) ∙ ap (λ xs. stepped left xs right) (sym (append-nil x))
parts_whole left (x ∷ y ∷ rows) right h =
    ap (λ rest. stepped left x (Ring.first_or y right) ++ rest) (parts_whole (Ring.last_or x left) (y ∷ rows) right h.1)
    ∙ ap (λ z. stepped left x z ++ stepped (Ring.last_or x left) (y ++ Ring.joined rows) right)
    (first_filled y right (Ring.first_or (Ring.joined rows) right) h.1.0 ∙ sym (first_behind y (Ring.joined rows) right))
    ∙ sym (stepped_behind left x (y ++ Ring.joined rows) right)

first_whole : (rows : List (List ℤ)) → AllByRecursion Ring.IsFilled rows → Ring.first_of rows ≡ Ring.first_or (Ring.joined rows) (pos 0)
first_whole [] h = refl
first_whole (x ∷ rows) h = first_filled x (pos 0) (Ring.first_or (Ring.joined rows) (pos 0)) h.0 ∙ sym (first_behind x (Ring.joined rows) (pos 0))

last_whole : (rows : List (List ℤ)) → AllByRecursion Ring.IsFilled rows → Ring.last_of rows ≡ Ring.last_or (Ring.joined rows) (pos 0)
last_whole [] h = refl
last_whole (x ∷ []) h = ap (λ xs. Ring.last_or xs (pos 0)) (sym (append-nil x))
last_whole (x ∷ y ∷ rows) h =
    last_whole (y ∷ rows) h.1 ∙ last_filled_whole y (Ring.joined rows) (pos 0) (Ring.last_or x (pos 0)) h.1.0 ∙ sym (last_behind x (y ++ Ring.joined rows) (pos 0))
  where
    last_filled_whole : (y ys : List ℤ) (a b : ℤ) → Ring.IsFilled y → Ring.last_or (y ++ ys) a ≡ Ring.last_or (y ++ ys) b
    last_filled_whole [] ys a b h = absurd h
    last_filled_whole (z ∷ y) ys a b h = refl

pub ring_whole : (rows : List (List ℤ)) → AllByRecursion Ring.IsFilled rows → Ring.joined (Ring.ring_stepped rows) ≡ Ring.ring_step (Ring.joined rows)
ring_whole rows h =
    parts_whole (Ring.last_of rows) rows (Ring.first_of rows) h
    ∙ ap (λ z. stepped z (Ring.joined rows) (Ring.first_of rows)) (last_whole rows h)
    ∙ ap (λ z. stepped (Ring.last_or (Ring.joined rows) (pos 0)) (Ring.joined rows) z) (first_whole rows h)

-- ---- samples

four_points : Ring.stencil_texts 4 2 ≡ codes "2 1 2 1\n" ∷ codes "1 2 1 2\n" ∷ []
unfolding digits
four_points = refl

no_steps : Ring.stencil_texts 4 0 ≡ []
no_steps = refl

one_point : Ring.row_texts (pos 7 ∷ []) 2 ≡ codes "7\n" ∷ codes "7\n" ∷ []
unfolding digits
one_point = refl

in_two_parts : Ring.ring_stepped ((pos 0 ∷ pos 1 ∷ []) ∷ (pos 2 ∷ pos 3 ∷ []) ∷ []) ≡ (pos 2 ∷ pos 1 ∷ []) ∷ (pos 2 ∷ pos 1 ∷ []) ∷ []
in_two_parts = refl

-- ---- what a session keeps of parts, one more at the end

pub parts_more : (xs : List Part) (x : Part) → Stencil.parts_out (xs ++ x ∷ []) ≡ (Stencil.parts_out xs ++ Stencil.to_out x.to ∷ []) ++ Stencil.row_out x.row ∷ []
parts_more [] x = refl
parts_more (y ∷ xs) x = ap (λ rest. Stencil.to_out y.to ∷ Stencil.row_out y.row ∷ rest) (parts_more xs x)
