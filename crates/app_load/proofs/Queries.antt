-- The queries in the end are those of the names that are known to stand.
use Rattle.std.specs.Prelude.{ℕ, zero, suc, Bool, true, false, is_some, cond, List, [], ◌∷◌, ◌++◌, ◌≡◌, ◌+◌, ◌≤◌, ◌<◌, ◌==◌, length, get_or, refl}
use Rattle.std.specs.Fmt.{digits}
use Rattle.std.proofs.Common.{ap, ◌∙◌, sym, arith, lit≤, append_assoc}
use Rattle.std.proofs.lemmas.Bool.{cond_both}
use Rattle.app_console.specs.Desks.{seek}
use Rattle.app_console.specs.Plain.{Who, RootOf, Thing, Plain, at_boot, first_item}
use Rattle.app_compute.specs.Load.{lines_from, objects_from}
use Rattle.app_load.specs.Load.{made, end_of, queries, names, session_lines}
use Rattle.app_load.specs.Session.{standing_after, queries_from, query_line}
use Rattle.app_load.proofs.Small.{below_each}
use Rattle.app_load.proofs.Words.{name}
use Rattle.app_load.proofs.Bindings.{times, absent_seek, present_seek}
use Rattle.app_load.proofs.Standings.{one_if}
use Rattle.app_load.proofs.Calm.{is_calm}
use Rattle.app_load.proofs.Stills.{IsStill}
use Rattle.app_load.proofs.Sound.{IsSound, lines_sound, objects_sound}

-- ---- at boot, and once the objects are made

boot_still : (n : ℕ) → IsStill (first_item n)
boot_still n = record { calm = calm; alone = alone; makers = λ at. refl }
  where
    calm : (u : Who) → is_calm (first_item n u).held.content ≡ true
    calm (RootOf kind at) =
        cond_both (kind == 3) _ _ (λ x. is_calm x ≡ true) (λ e. refl)
        (λ e. cond_both (kind == 4) _ _ (λ x. is_calm x ≡ true) (λ f. refl) (λ f. refl))
    calm (Thing number) = refl

    alone : (u : Who) → (first_item n u).held.waiting ≡ []
    alone (RootOf kind at) = refl
    alone (Thing number) = refl

abbrev none_stand : List Bool
none_stand = false ∷ false ∷ false ∷ false ∷ false ∷ false ∷ false ∷ false ∷ []

-- all names stand
abbrev pub all_stand : List Bool
all_stand = true ∷ true ∷ true ∷ true ∷ true ∷ true ∷ true ∷ true ∷ []

boot_sound : (n : ℕ) → IsSound (at_boot n) none_stand
boot_sound n = record {
  still = boot_still n;
  none = refl;
  names = record {
    bound = tt;
    known = λ j low. below_each (λ i. 0 ≡ one_if (get_or none_stand i false)) 8 j (refl, (refl, (refl, (refl, (refl, (refl, (refl, (refl, tt)))))))) low;
    few = lit≤ tt;
    eight = refl;
  };
}

made_sound : (n : ℕ) → 1 ≤ n → n ≤ 64 → IsSound (made n) all_stand
made_sound n some few = objects_sound n 0 8 (at_boot n) none_stand some few (lit≤ tt) (boot_sound n)

-- ---- in the end

abbrev names_from : ℕ → ℕ → List (List ℕ)
names_from j zero = []
names_from j (suc count) = name j ∷ names_from (j + 1) count

names_are : names ≡ names_from 0 8
unfolding digits
names_are = refl

queries_are : (v : Plain) (j : ℕ) (ys : List Bool) → ((i : ℕ) → i < length ys → is_some (seek (name (j + i)) v.names) ≡ get_or ys i false)
    → queries v (names_from j (length ys)) ≡ queries_from j ys
queries_are v j [] known = refl
queries_are v j (y ∷ ys) known =
    let here : is_some (seek (name j) v.names) ≡ y = ap (λ k. is_some (seek (name k) v.names)) (let e : j ≡ j + 0 = omega arith in e) ∙ known 0 (omega arith) in
    let behind = queries_are v (j + 1) ys (λ i low. ap (λ k. is_some (seek (name k) v.names)) (let e : j + 1 + i ≡ j + suc i = omega arith in e) ∙ known (suc i) (omega arith)) in
    ap (λ b. cond b (query_line j ∷ queries v (names_from (j + 1) (length ys))) (queries v (names_from (j + 1) (length ys)))) here
    ∙ ap (λ lines. cond y (query_line j ∷ lines) lines) behind

-- whether a name stands for an object
stands : (v : Plain) (xs : List Bool) → IsSound v xs → (j : ℕ) → j < 8 → is_some (seek (name j) v.names) ≡ get_or xs j false
stands v xs s j low = by (get_or xs j false) (s.names.known j low)
  where
    by : (b : Bool) → times (name j) v.names ≡ one_if b → is_some (seek (name j) v.names) ≡ b
    by true e = present_seek (name j) v.names s.names.bound (omega arith)
    by false e = absent_seek (name j) v.names e

queries_known : (v : Plain) (xs : List Bool) → IsSound v xs → queries v names ≡ queries_from 0 xs
queries_known v xs s =
    ap (queries v) names_are ∙ (ap (λ k. queries v (names_from 0 k)) (sym s.names.eight)
    ∙ queries_are v 0 xs (λ i low. ap (λ k. is_some (seek (name k) v.names)) (let e : 0 + i ≡ i = omega arith in e) ∙ stands v xs s i (let e = s.names.eight in omega arith)))

-- what is asked in the end is known without the space
pub queries_end : (start count n : ℕ) → 1 ≤ n → n ≤ 64 → queries (end_of start count n) names ≡ queries_from 0 (standing_after start count all_stand)
queries_end start count n some few =
    queries_known (end_of start count n) (standing_after start count all_stand)
    (lines_sound n start count (made n) all_stand some few (made_sound n some few))

-- all lines
pub session_known : (start count n : ℕ) → 1 ≤ n → n ≤ 64
    → objects_from n 0 8 ++ (lines_from n start count ++ queries_from 0 (standing_after start count all_stand)) ≡ session_lines start count n
session_known start count n some few =
    ap (λ qs. objects_from n 0 8 ++ (lines_from n start count ++ qs)) (sym (queries_end start count n some few))
    ∙ sym (append_assoc (objects_from n 0 8) (lines_from n start count) (queries (end_of start count n) names))
