-- What a session keeps of pieces.
use Rattle.std.specs.Prelude.{ℕ, zero, suc, ℤ, Bool, true, false, List, [], ◌∷◌, ◌++◌, ◌≡◌, ◌+◌, ◌*◌, ◌≤◌, ◌&&◌, Option, Some, None, length, map, refl, if◌then◌else◌}
use Rattle.std.specs.List.{AllByRecursion}
use Rattle.std.proofs.Common.{sym, ap, ◌∙◌, arith, append_assoc}
use Rattle.std.proofs.lemmas.Bool.{eq-eqb, le-leb}
use Rattle.hpx_value.specs.Ids.{Id}
use Rattle.hpx_value.specs.Values.{refs_in}
use Rattle.hpx_value.specs.Hands.{id_at, renumbered}
use Rattle.hpx_calls.specs.Contents.{both, is_none}
use Rattle.app_compute.specs.Types.{Value, Nothing, Ref, Ints, State}
use Rattle.app_compute.specs.declared.ring.Part.{Part}
use Rattle.app_compute.specs.Ring.{last_or}
use Rattle.app_compute.specs.Stencil.{part_by, parts_in, parts_out, ring_in, ring_out, row_in, row_out, to_in, to_out}
use Rattle.app_compute.specs.StencilSession.{are_bare, are_made, blank_parts, cleared, parts_with, rows_of}
use Rattle.app_compute.proofs.Pieces
use Rattle.app_compute.proofs.RingReads.{IsSized, AreSized}

-- ---- what is seen of a piece: its object and its numbers, once they have come

abbrev pub seen_to : Bool → Pieces.Piece → Option Id
seen_to b (Pieces.Wanted xs) = None
seen_to b (Pieces.Asked o left xs right) = Some o
seen_to false (Pieces.Said o xs) = None
seen_to true (Pieces.Said o xs) = Some o
seen_to b (Pieces.Kept o xs) = Some o

abbrev pub seen_row : Bool → Pieces.Piece → Option (List ℤ)
seen_row true (Pieces.Kept o xs) = Some xs
seen_row _ _ = None

-- the places of objects are numbered from one on
abbrev pub place_from : ℕ → Option Id → Option ℕ
place_from k None = None
place_from k (Some o) = Some k

abbrev pub next_place : ℕ → Option Id → ℕ
next_place k None = k
next_place k (Some o) = k + 1

abbrev pub parts_from : Bool → ℕ → List Pieces.Piece → List Part
parts_from b k [] = []
parts_from b k (x ∷ pieces) = record { to = place_from k (seen_to b x); row = seen_row b x } ∷ parts_from b (next_place k (seen_to b x)) pieces

abbrev pub id_of : Option Id → List Id
id_of None = []
id_of (Some o) = o ∷ []

abbrev pub ids_of : Bool → List Pieces.Piece → List Id
ids_of b [] = []
ids_of b (x ∷ pieces) = id_of (seen_to b x) ++ ids_of b pieces

-- the session that awaits the pieces in the slots from one on
abbrev pub stepping : Bool → ℕ → ℕ → ℕ → ℕ → List Pieces.Piece → State
stepping b drawn left slot size pieces = record {
  drawn = drawn;
  values = ring_out (record { rows = left; first = slot; size = size; parts = parts_from b 0 pieces });
  conts = [];
  ids = ids_of b pieces;
}

-- ---- parts whose objects stand anywhere in a hand

abbrev pub IsSeen : List Id → Option ℕ → Option Id → Type 0
IsSeen hand None None = Unit {0}
IsSeen hand (Some p) (Some o) = id_at hand p ≡ o
IsSeen hand _ _ = ⊥

abbrev pub AreSeen : List Id → Bool → List Part → List Pieces.Piece → Type 0
AreSeen hand b [] [] = Unit {0}
AreSeen hand b (y ∷ parts) (x ∷ pieces) = IsSeen hand y.to (seen_to b x) × (y.row ≡ seen_row b x) × AreSeen hand b parts pieces
AreSeen hand b _ _ = ⊥

pub seen_many : (hand : List Id) (b : Bool) (parts : List Part) (pieces : List Pieces.Piece) → AreSeen hand b parts pieces → length parts ≡ length pieces
seen_many hand b [] [] h = refl
seen_many hand b (y ∷ parts) (x ∷ pieces) h = ap suc (seen_many hand b parts pieces h.2)
seen_many hand b [] (x ∷ pieces) h = absurd h
seen_many hand b (y ∷ parts) [] h = absurd h

-- numbered anew they are those that a session keeps
pub seen_values : (hand : List Id) (b : Bool) (k : ℕ) (parts : List Part) (pieces : List Pieces.Piece) → AreSeen hand b parts pieces
    → renumbered k (parts_out parts) ≡ parts_out (parts_from b k pieces)
seen_values hand b k [] [] h = refl
seen_values hand b k (y ∷ parts) (x ∷ pieces) h =
    by y.to (seen_to b x) y.row (seen_row b x) h.0 h.1 (seen_values hand b k parts pieces h.2) (seen_values hand b (k + 1) parts pieces h.2)
  where
    by : (to : Option ℕ) (o : Option Id) (row seen : Option (List ℤ)) → IsSeen hand to o → row ≡ seen
        → renumbered k (parts_out parts) ≡ parts_out (parts_from b k pieces) → renumbered (k + 1) (parts_out parts) ≡ parts_out (parts_from b (k + 1) pieces)
        → renumbered k (to_out to ∷ row_out row ∷ parts_out parts) ≡ to_out (place_from k o) ∷ row_out seen ∷ parts_out (parts_from b (next_place k o) pieces)
    by None None None seen i e same more = ap (λ vs. Nothing ∷ Nothing ∷ vs) same ∙ ap (λ r. Nothing ∷ row_out r ∷ parts_out (parts_from b k pieces)) e
    by None None (Some zs) seen i e same more = ap (λ vs. Nothing ∷ Ints zs ∷ vs) same ∙ ap (λ r. Nothing ∷ row_out r ∷ parts_out (parts_from b k pieces)) e
    by (Some p) (Some o) None seen i e same more = ap (λ vs. Ref k ∷ Nothing ∷ vs) more ∙ ap (λ r. Ref k ∷ row_out r ∷ parts_out (parts_from b (k + 1) pieces)) e
    by (Some p) (Some o) (Some zs) seen i e same more = ap (λ vs. Ref k ∷ Ints zs ∷ vs) more ∙ ap (λ r. Ref k ∷ row_out r ∷ parts_out (parts_from b (k + 1) pieces)) e
    by None (Some o) row seen i e same more = absurd i
    by (Some p) None row seen i e same more = absurd i
seen_values hand b k [] (x ∷ pieces) h = absurd h
seen_values hand b k (y ∷ parts) [] h = absurd h

pub seen_ids : (hand : List Id) (b : Bool) (parts : List Part) (pieces : List Pieces.Piece) → AreSeen hand b parts pieces → map (id_at hand) (refs_in (parts_out parts)) ≡ ids_of b pieces
seen_ids hand b [] [] h = refl
seen_ids hand b (y ∷ parts) (x ∷ pieces) h = by y.to (seen_to b x) y.row h.0 (seen_ids hand b parts pieces h.2)
  where
    by : (to : Option ℕ) (o : Option Id) (row : Option (List ℤ)) → IsSeen hand to o → map (id_at hand) (refs_in (parts_out parts)) ≡ ids_of b pieces
        → map (id_at hand) (refs_in (to_out to ∷ row_out row ∷ parts_out parts)) ≡ id_of o ++ ids_of b pieces
    by None None None i same = same
    by None None (Some zs) i same = same
    by (Some p) (Some o) None i same = ap (λ ids. id_at hand p ∷ ids) same ∙ ap (λ u. u ∷ ids_of b pieces) i
    by (Some p) (Some o) (Some zs) i same = ap (λ ids. id_at hand p ∷ ids) same ∙ ap (λ u. u ∷ ids_of b pieces) i
    by None (Some o) row i same = absurd i
    by (Some p) None row i same = absurd i
seen_ids hand b [] (x ∷ pieces) h = absurd h
seen_ids hand b (y ∷ parts) [] h = absurd h

at_place : (front : List Id) (o : Id) (rest : List Id) → id_at (front ++ o ∷ rest) (length front) ≡ o
at_place [] o rest = refl
at_place (x ∷ front) o rest = at_place front o rest

length_end : (front : List Id) (o : Id) → length (front ++ o ∷ []) ≡ length front + 1
length_end [] o = refl
length_end (x ∷ front) o = let rest = length_end front o in omega arith

-- those that a session keeps are seen in its hand
pub kept_seen : (hand : List Id) (b : Bool) (pieces : List Pieces.Piece) (front rest : List Id) (k : ℕ) → hand ≡ front ++ (ids_of b pieces ++ rest) → k ≡ length front
    → AreSeen hand b (parts_from b k pieces) pieces
kept_seen hand b [] front rest k e i = tt
kept_seen hand b (x ∷ pieces) front rest k e i = by (seen_to b x) e (λ f l j m. kept_seen hand b pieces f rest l j m)
  where
    by : (o : Option Id) → hand ≡ front ++ ((id_of o ++ ids_of b pieces) ++ rest)
        → ((f : List Id) (l : ℕ) → hand ≡ f ++ (ids_of b pieces ++ rest) → l ≡ length f → AreSeen hand b (parts_from b l pieces) pieces)
        → IsSeen hand (place_from k o) o × (seen_row b x ≡ seen_row b x) × AreSeen hand b (parts_from b (next_place k o) pieces) pieces
    by None e more = (tt, refl, more front k e i)
    by (Some o) e more = (
      ap (λ ids. id_at ids k) e ∙ (ap (λ l. id_at (front ++ o ∷ (ids_of b pieces ++ rest)) l) i ∙ at_place front o (ids_of b pieces ++ rest)),
      refl,
      more (front ++ o ∷ []) (k + 1) (e ∙ sym (append_assoc front (o ∷ []) (ids_of b pieces ++ rest))) (let m = length_end front o in omega arith),
    )

-- ---- what is kept is read again

sized_row : (b : Bool) (size : ℕ) (x : Pieces.Piece) → Pieces.Fits b size x → IsSized size (seen_row b x)
sized_row true size (Pieces.Kept o xs) h = h
sized_row false size (Pieces.Kept o xs) h = tt
sized_row true size (Pieces.Wanted xs) h = tt
sized_row true size (Pieces.Asked o left xs right) h = tt
sized_row true size (Pieces.Said o xs) h = tt
sized_row false size (Pieces.Wanted xs) h = tt
sized_row false size (Pieces.Asked o left xs right) h = tt
sized_row false size (Pieces.Said o xs) h = tt

pub sized_from : (b : Bool) (size k : ℕ) (pieces : List Pieces.Piece) → AllByRecursion (Pieces.Fits b size) pieces → AreSized size (parts_from b k pieces)
sized_from b size k [] h = tt
sized_from b size k (x ∷ pieces) h = (sized_row b size x h.0, sized_from b size (next_place k (seen_to b x)) pieces h.1)

pub many_from : (b : Bool) (k : ℕ) (pieces : List Pieces.Piece) → length (parts_from b k pieces) ≡ length pieces
many_from b k [] = refl
many_from b k (x ∷ pieces) = ap suc (many_from b (next_place k (seen_to b x)) pieces)

part_again : (size : ℕ) (to : Option ℕ) (row : Option (List ℤ)) → IsSized size row → part_by (to_in (to_out to)) (row_in size (row_out row)) ≡ Some (record { to = to; row = row })
part_again size None None h = refl
part_again size (Some p) None h = refl
part_again size None (Some zs) h = ap (λ b. part_by (Some None) (if b then Some (Some zs) else None)) (eq-eqb (length zs) size h)
part_again size (Some p) (Some zs) h = ap (λ b. part_by (Some (Some p)) (if b then Some (Some zs) else None)) (eq-eqb (length zs) size h)

parts_again : (size : ℕ) (parts : List Part) → AreSized size parts → parts_in size (parts_out parts) ≡ Some parts
parts_again size [] h = refl
parts_again size (x ∷ parts) h =
    ap (λ o. both o (parts_in size (parts_out parts))) (part_again size x.to x.row h.0) ∙ ap (both (Some x)) (parts_again size parts h.1)

pub ring_again : (rows first size : ℕ) (parts : List Part) → rows ≤ 1000 → first ≤ 4294967295 → size ≤ 1024 → AreSized size parts → length parts ≤ 32 → size * length parts ≤ 1024
    → ring_in (ring_out (record { rows = rows; first = first; size = size; parts = parts })) ≡ Some (record { rows = rows; first = first; size = size; parts = parts })
ring_again rows first size parts a b c sized few short =
    rw (le-leb rows 1000 a, le-leb first 4294967295 b, le-leb size 1024 c, parts_again size parts sized, le-leb (length parts) 32 few, le-leb (size * length parts) 1024 short) refl

-- ---- what a session asks of its parts

and_both : (a b c d : Bool) → a ≡ c → b ≡ d → (a && b) ≡ (c && d)
and_both a b c d e f = ap (λ x. x && b) e ∙ ap (λ x. c && x) f

seen_some : (hand : List Id) (to : Option ℕ) (o : Option Id) → IsSeen hand to o → (if is_none to then false else true) ≡ (if is_none o then false else true)
seen_some hand None None h = refl
seen_some hand (Some p) (Some o) h = refl
seen_some hand None (Some o) h = absurd h
seen_some hand (Some p) None h = absurd h

-- a part is made where its object has come
made_is : (b : Bool) (size : ℕ) (x : Pieces.Piece) → Pieces.Fits b size x → (if is_none (seen_to b x) then false else true) ≡ (if b then true else Pieces.is_kept x)
made_is true size (Pieces.Wanted xs) h = absurd (let no : true ≡ false = h.0 in cc)
made_is true size (Pieces.Asked o left xs right) h = refl
made_is true size (Pieces.Said o xs) h = refl
made_is true size (Pieces.Kept o xs) h = refl
made_is false size (Pieces.Wanted xs) h = refl
made_is false size (Pieces.Asked o left xs right) h = absurd (let no : false ≡ true = h.0 in cc)
made_is false size (Pieces.Said o xs) h = refl
made_is false size (Pieces.Kept o xs) h = refl

pub made_seen : (hand : List Id) (b : Bool) (size : ℕ) (parts : List Part) (pieces : List Pieces.Piece) → AreSeen hand b parts pieces → AllByRecursion (Pieces.Fits b size) pieces
    → are_made parts ≡ (if b then true else Pieces.all_kept pieces)
made_seen hand b size [] [] h fits = both_is b
  where
    both_is : (b : Bool) → true ≡ (if b then true else true)
    both_is true = refl
    both_is false = refl
made_seen hand b size (y ∷ parts) (x ∷ pieces) h fits =
    and_both _ _ _ _ (seen_some hand y.to (seen_to b x) h.0 ∙ made_is b size x fits.0) (made_seen hand b size parts pieces h.2 fits.1) ∙ split b
  where
    split : (b : Bool) → ((if b then true else Pieces.is_kept x) && (if b then true else Pieces.all_kept pieces)) ≡ (if b then true else (Pieces.is_kept x && Pieces.all_kept pieces))
    split true = refl
    split false = refl
made_seen hand b size [] (x ∷ pieces) h fits = absurd h
made_seen hand b size (y ∷ parts) [] h fits = absurd h

bare_row : (x : Pieces.Piece) → is_none (seen_row false x) ≡ true
bare_row (Pieces.Wanted xs) = refl
bare_row (Pieces.Asked o left xs right) = refl
bare_row (Pieces.Said o xs) = refl
bare_row (Pieces.Kept o xs) = refl

pub bare_false : (hand : List Id) (parts : List Part) (pieces : List Pieces.Piece) → AreSeen hand false parts pieces → are_bare parts ≡ true
bare_false hand [] [] h = refl
bare_false hand (y ∷ parts) (x ∷ pieces) h = and_both _ _ _ _ (ap is_none h.1 ∙ bare_row x) (bare_false hand parts pieces h.2)
bare_false hand [] (x ∷ pieces) h = absurd h
bare_false hand (y ∷ parts) [] h = absurd h

and_false : (b : Bool) → (b && false) ≡ false
and_false true = refl
and_false false = refl

pub bare_true : (hand : List Id) (parts : List Part) (front back : List Pieces.Piece) (o : Id) (xs : List ℤ) → AreSeen hand true parts (front ++ Pieces.Kept o xs ∷ back)
    → are_bare parts ≡ false
bare_true hand [] [] back o xs h = absurd h
bare_true hand (y ∷ parts) [] back o xs h = ap (λ r. is_none r && are_bare parts) h.1
bare_true hand [] (x ∷ front) back o xs h = absurd h
bare_true hand (y ∷ parts) (x ∷ front) back o xs h = ap (λ b. is_none y.row && b) (bare_true hand parts front back o xs h.2) ∙ and_false (is_none y.row)

-- the numbers of all parts, once all are kept
kept_row : (x : Pieces.Piece) → Pieces.is_kept x ≡ true → seen_row true x ≡ Some (Pieces.comes_to x)
kept_row (Pieces.Kept o xs) e = refl
kept_row (Pieces.Wanted xs) e = cc
kept_row (Pieces.Asked o left xs right) e = cc
kept_row (Pieces.Said o xs) e = cc

other_row : (x : Pieces.Piece) → Pieces.is_kept x ≡ false → seen_row true x ≡ None
other_row (Pieces.Kept o xs) e = cc
other_row (Pieces.Wanted xs) e = refl
other_row (Pieces.Asked o left xs right) e = refl
other_row (Pieces.Said o xs) e = refl

pub rows_seen : (hand : List Id) (parts : List Part) (pieces : List Pieces.Piece) → AreSeen hand true parts pieces
    → rows_of parts ≡ (if Pieces.all_kept pieces then Some (Pieces.rows_in pieces) else None)
rows_seen hand [] [] h = refl
rows_seen hand (y ∷ parts) (x ∷ pieces) h =
    ap (λ r. both r (rows_of parts)) h.1 ∙ (ap (both (seen_row true x)) (rows_seen hand parts pieces h.2) ∙ by (Pieces.is_kept x) refl (Pieces.all_kept pieces))
  where
    by : (b : Bool) → Pieces.is_kept x ≡ b → (c : Bool)
        → both (seen_row true x) (if c then Some (Pieces.rows_in pieces) else None) ≡ (if b && c then Some (Pieces.comes_to x ∷ Pieces.rows_in pieces) else None)
    by true e true = ap (λ r. both r (Some (Pieces.rows_in pieces))) (kept_row x e)
    by true e false = ap (λ r. both {X = List ℤ} r None) (kept_row x e)
    by false e true = ap (λ r. both r (Some (Pieces.rows_in pieces))) (other_row x e)
    by false e false = ap (λ r. both {X = List ℤ} r None) (other_row x e)
rows_seen hand [] (x ∷ pieces) h = absurd h
rows_seen hand (y ∷ parts) [] h = absurd h

-- ---- one answer

-- what is told for a piece
abbrev pub told : Bool → List ℤ → Value
told false xs = Ref 1
told true xs = Ints xs

-- the parts after it
pub record IsTold (hand : List Id) (b : Bool) (size places : ℕ) (v : Value) (parts : List Part) (j : ℕ) (pieces : List Pieces.Piece) : Type 0 where
  pub new : List Part
  pub is : parts_with size places v parts j ≡ Some new
  pub seen : AreSeen hand b new pieces

pub told_seen : (hand : List Id) (b : Bool) (size places : ℕ) (parts : List Part) (front back : List Pieces.Piece) (o : Id) (xs : List ℤ) → length xs ≡ size
    → (b ≡ false → id_at hand (places + 1) ≡ o) → AreSeen hand b parts (front ++ Pieces.Said o xs ∷ back)
    → IsTold hand b size places (told b xs) parts (length front) (front ++ Pieces.Kept o xs ∷ back)
told_seen hand b size places [] [] back o xs sized there h = absurd h
told_seen hand b size places [] (x ∷ front) back o xs sized there h = absurd h
told_seen hand b size places (y ∷ parts) (x ∷ front) back o xs sized there h =
    let rest = told_seen hand b size places parts front back o xs sized there h.2 in
    record { new = y ∷ rest.new; is = ap (both (Some y)) rest.is; seen = (h.0, h.1, rest.seen) }
told_seen hand b size places (y ∷ parts) [] back o xs sized there h = by b there y.to y.row h.0 h.1 h.2
  where
    by : (b : Bool) → (b ≡ false → id_at hand (places + 1) ≡ o) → (to : Option ℕ) (row : Option (List ℤ)) → IsSeen hand to (seen_to b (Pieces.Said o xs)) → row ≡ seen_row b (Pieces.Said o xs)
        → AreSeen hand b parts back → IsTold hand b size places (told b xs) (record { to = to; row = row } ∷ parts) 0 (Pieces.Kept o xs ∷ back)
    by false there None row i e rest = record { new = record { to = Some (places + 1); row = None } ∷ parts; is = refl; seen = (there refl, refl, rest) }
    by false there (Some p) row i e rest = absurd i
    by true there None row i e rest = absurd i
    by true there (Some p) (Some zs) i e rest = absurd (let no : Some zs ≡ None = e in cc)
    by true there (Some p) None i e rest =
        record { new = record { to = Some p; row = Some xs } ∷ parts; is = ap (λ (c : Bool). both (if c then Some (record { to = Some p; row = Some xs }) else None) (Some parts)) (eq-eqb (length xs) size sized); seen = (i, refl, rest) }

-- ---- parts of which no numbers have come yet

pub cleared_seen : (hand : List Id) (b : Bool) (parts : List Part) (left : ℤ) (pieces : List Pieces.Piece) (right : ℤ) → Pieces.all_kept pieces ≡ true → AreSeen hand b parts pieces
    → AreSeen hand true (cleared parts) (Pieces.ask left pieces right)
cleared_seen hand b [] left [] right e h = tt
cleared_seen hand b (y ∷ parts) left (x ∷ pieces) right e h =
    let k = Pieces.both_true (Pieces.is_kept x) (Pieces.all_kept pieces) e in
    (by x k.0 h.0, refl, cleared_seen hand b parts (last_or (Pieces.comes_to x) left) pieces right k.1 h.2)
  where
    by : (x : Pieces.Piece) → Pieces.is_kept x ≡ true → IsSeen hand y.to (seen_to b x) → IsSeen hand y.to (Some (Pieces.object x))
    by (Pieces.Kept o xs) e i = i
    by (Pieces.Wanted xs) e i = cc
    by (Pieces.Asked o left xs right) e i = cc
    by (Pieces.Said o xs) e i = cc
cleared_seen hand b [] left (x ∷ pieces) right e h = absurd h
cleared_seen hand b (y ∷ parts) left [] right e h = absurd h

pub wanted_parts : (k size q count : ℕ) → parts_from false k (Pieces.wanted size q count) ≡ blank_parts count
wanted_parts k size q zero = refl
wanted_parts k size q (suc count) = ap (λ parts. record { to = None; row = None } ∷ parts) (wanted_parts k size (q + 1) count)

pub wanted_ids : (size q count : ℕ) → ids_of false (Pieces.wanted size q count) ≡ []
wanted_ids size q zero = refl
wanted_ids size q (suc count) = wanted_ids size (q + 1) count
