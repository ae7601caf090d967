-- The lines that are left before and after one is handed out.
use Rattle.std.specs.Prelude.{ℕ, zero, suc, Bool, true, false, cond, List, [], ◌∷◌, ◌++◌, ◌≡◌, ◌+◌, ◌-◌, ◌/◌, ◌%◌, ◌≤◌, ◌<◌, length, codes, drop, get_or}
use Rattle.std.proofs.Common.{ap, ◌∙◌, sym, arith}
use Rattle.std.proofs.Math.ListN.{drop_of_length-le}
use Rattle.std.proofs.lemmas.List.{drop_more}
use Rattle.app_compute.specs.Load.{line_of, line_with, lines_from, next_number, objects_from}
use Rattle.app_load.specs.Session.{lines_left, queries_from, query_line, standing_after, standing_behind}
use Rattle.app_load.specs.declared.session.position.Position.{Position}
use Rattle.app_load.specs.declared.session.position.Standing.{Standing}

-- ---- objects

pub object_next : (n k : ℕ) → k < 8 → objects_from n k (8 - k) ≡ line_with (codes "new") k (k % n) ∷ objects_from n (k + 1) (8 - (k + 1))
object_next n k low = ap (objects_from n k) (let e : 8 - k ≡ suc (8 - (k + 1)) = omega arith in e)

pub objects_over : (n k : ℕ) → k ≡ 8 → objects_from n k (8 - k) ≡ []
objects_over n k e = ap (λ m. objects_from n m (8 - m)) e

-- ---- lines that follow from a number

abbrev pub behind : ℕ → ℕ → ℕ → ℕ → List Bool → List (List ℕ)
behind n x left asked xs = lines_from n x left ++ queries_from asked (drop asked (standing_after x left xs))

pub made_next : (n x left asked : ℕ) (xs : List Bool) → 1 ≤ left → behind n x left asked xs
    ≡ line_of n (next_number x / 65536) ∷ behind n (next_number x) (left - 1) asked (standing_behind (next_number x / 65536) xs)
made_next n x zero asked xs h = absurd (omega arith)
made_next n x (suc left) asked xs h =
    ap (λ k. line_of n (next_number x / 65536) ∷ behind n (next_number x) k asked (standing_behind (next_number x / 65536) xs))
    (let e : left ≡ suc left - 1 = omega arith in e)

pub made_over : (n x left asked : ℕ) (xs : List Bool) → left ≡ 0 → behind n x left asked xs ≡ queries_from asked (drop asked xs)
made_over n x left asked xs e = ap (λ k. behind n x k asked xs) e

-- the line of a number is handed out, and followed
pub made_handed : (p : Position) (number : ℕ) (line : List ℕ) (standing : Standing) → p.objects ≡ 8 → 1 ≤ p.left → number ≡ next_number p.number
    → line ≡ line_of p.localities (number / 65536) → standing.names ≡ standing_behind (number / 65536) p.standing.names
    → lines_left p ≡ line ∷ lines_left (record {
      localities = p.localities;
      objects = p.objects;
      number = number;
      left = p.left - 1;
      asked = p.asked;
      standing = standing;
    })
made_handed p number line standing made some is line_is names_are =
    let n = p.localities in
    let names = p.standing.names in
    ap (λ os. os ++ behind n p.number p.left p.asked names) (objects_over n p.objects made)
    ∙ (made_next n p.number p.left p.asked names some
    ∙ (ap (λ m. line_of n (m / 65536) ∷ behind n m (p.left - 1) p.asked (standing_behind (m / 65536) names)) (sym is)
    ∙ (ap (λ l. l ∷ behind n number (p.left - 1) p.asked (standing_behind (number / 65536) names)) (sym line_is)
    ∙ (ap (λ xs. line ∷ behind n number (p.left - 1) p.asked xs) (sym names_are)
    ∙ ap (λ os. line ∷ (os ++ behind n number (p.left - 1) p.asked standing.names)) (sym (objects_over n p.objects made))))))

-- ---- queries

pub asked_next : (j : ℕ) (xs : List Bool) → j < length xs → get_or xs j false ≡ true
    → queries_from j (drop j xs) ≡ query_line j ∷ queries_from (j + 1) (drop (j + 1) xs)
asked_next j xs low has =
    let left = queries_from (j + 1) (drop (j + 1) xs) in
    ap (queries_from j) (drop_more xs j false low) ∙ ap (λ b. cond b (query_line j ∷ left) left) has

pub asked_skipped : (j : ℕ) (xs : List Bool) → j < length xs → get_or xs j false ≡ false
    → queries_from j (drop j xs) ≡ queries_from (j + 1) (drop (j + 1) xs)
asked_skipped j xs low lacks =
    let left = queries_from (j + 1) (drop (j + 1) xs) in
    ap (queries_from j) (drop_more xs j false low) ∙ ap (λ b. cond b (query_line j ∷ left) left) lacks

pub asked_over : (j : ℕ) (xs : List Bool) → length xs ≤ j → queries_from j (drop j xs) ≡ []
asked_over j xs end = ap (queries_from j) (drop_of_length-le xs end)
