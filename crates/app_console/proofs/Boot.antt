-- At boot the pool holds what the plain space holds.
use Rattle.std.specs.Prelude.{◌==◌, ◌&&◌}
use Rattle.std.specs.List.{find, AllByRecursion}
use Rattle.std.specs.Option.{option_map}
use Rattle.std.proofs.Common.{ℕ, Bool, true, false, cond, List, [], ◌∷◌, ◌++◌, ◌≡◌, ◌≢◌, ◌<◌, ◌≤◌, Option, Some, refl, sym, ap, ◌∙◌, subst, inl, inr, length, arith, lit≤}
use Rattle.std.proofs.lemmas.Bool.{eq-eqb}
use Rattle.hpx_value.specs.Ids.{Id, bare_id, same_object}
use Rattle.hpx_value.specs.Values.{empty_state}
use Rattle.hpx_value.specs.Hands.{session}
use Rattle.hpx_value.specs.Laws.{IsRoot}
use Rattle.hpx_parcel.specs.declared.parcel.Parcel.{Parcel}
use Rattle.hpx_journal.specs.Local.{is_standing}
use Rattle.hpx_journal.specs.Roots.{root, roots_of_first}
use Rattle.hpx_journal.specs.Pool.{Pool, boot_pool}
use Rattle.hpx_journal.specs.Entries.{Rules}
use Rattle.hpx_journal.proofs.Same.{same_object-true}
use Rattle.hpx_journal.proofs.Reduced.{boot_shows}
use Rattle.hpx_calls.specs.Ids.{state_of, IsReadable}
use Rattle.app_console.specs.Judging.{Acting, judging}
use Rattle.app_console.specs.Plain.{Who, RootOf, Thing, at_boot, first_item, root_content}
use Rattle.app_console.proofs.Alikes.{IsOurs, waiter}
use Rattle.app_console.proofs.Fit.{at, IsIn, IsGoodContent, held_over, Fits}
use Rattle.app_console.proofs.Steps.{Settled}

and_false : (b : Bool) → (b && false) ≡ false
and_false true = refl
and_false false = refl

third_found : (n k : ℕ) (b : Bool)
    → option_map (λ x. x.state) (find (is_standing (bare_id k 3 1)) (cond b (roots_of_first n) [] ++ (root k 3 [] ∷ root k 5 [] ∷ root k 7 [] ∷ [])))
    ≡ Some empty_state
third_found n k true = rw (eq-eqb k k refl, and_false (k == 0)) refl
third_found n k false = rw (eq-eqb k k refl) refl

fifth_found : (n k : ℕ) (b : Bool)
    → option_map (λ x. x.state) (find (is_standing (bare_id k 5 1)) (cond b (roots_of_first n) [] ++ (root k 3 [] ∷ root k 5 [] ∷ root k 7 [] ∷ [])))
    ≡ Some empty_state
fifth_found n k true = rw (eq-eqb k k refl, and_false (k == 0)) refl
fifth_found n k false = rw (eq-eqb k k refl) refl

-- a root that a console calls
by_root : (n : ℕ) (P : ℕ → ℕ → Type 0) → P 2 0 → P 4 0 → ((x : ℕ) → x < n → P 3 x) → ((x : ℕ) → x < n → P 5 x) → (kind place : ℕ) → IsIn n 0 (RootOf kind place) → P kind place
by_root n P two four three five kind place i = by_kind i.0
  where
    one_place : (k x : ℕ) → kind ≡ k → place ≡ x → P k x → P kind place
    one_place k x e f p = let Q : ℕ → Type 0 = λ y. P y place in subst Q (sym e) (subst (P k) (sym f) p)

    by_kind : IsRoot n kind place → P kind place
    by_kind (inl ((inl e), z)) = absurd (i.1 e)
    by_kind (inl ((inr (inl e)), z)) = one_place 2 0 e z two
    by_kind (inl ((inr (inr e)), z)) = one_place 4 0 e z four
    by_kind (inr ((inl e), z)) = one_place 3 place e refl (three place z)
    by_kind (inr ((inr (inl e)), z)) = one_place 5 place e refl (five place z)
    by_kind (inr ((inr (inr e)), z)) = absurd (i.2 e)

module _ (acts : Acting) (n log limit : ℕ) (parcel_of : List ℕ → Option Parcel) (some : 1 ≤ n) where
  abbrev rules : Rules
  rules = judging acts n log limit parcel_of

  abbrev pub boot : Pool
  boot = boot_pool rules

  -- nothing was made
  abbrev none_made : ℕ → Id
  none_made i = session

  abbrev nobody : Who → List ℕ
  nobody u = []

  one : (u w : Who) → IsIn n 0 u → IsIn n 0 w → same_object (at none_made u) (at none_made w) ≡ true → u ≡ w
  one (Thing i) w h g e = absurd (omega arith)
  one (RootOf kind place) (Thing i) h g e = absurd (omega arith)
  one (RootOf kind place) (RootOf kind' place') h g e =
      let same : bare_id place kind 1 ≡ bare_id place' kind' 1 = same_object-true (bare_id place kind 1) (bare_id place' kind' 1) e in
      ap (λ k. RootOf k place) (ap (λ (o : Id). o.kind) same) ∙ ap (λ x. RootOf kind' x) (ap (λ (o : Id). o.home) same)

  begins : Fits n none_made (first_item n) 0 0 nobody 0 []
  begins = record {
    kinds = kinds;
    apart = apart;
    one = one;
    there = there;
    good = good;
    ours = ours;
    readable = readable;
    sizes = sizes;
    alike = alike;
    held = λ u h k a. absurd a;
    owner = λ u w h g k a b. absurd a;
    distinct = λ u h. tt;
    low = λ u h k a. absurd a;
    total = refl;
  }
    where
      kinds : (u : Who) → IsIn n 0 u → (at none_made u).kind ≡ (first_item n u).kind
      kinds (RootOf kind place) h = refl
      kinds (Thing i) h = absurd (omega arith)

      apart : (u : Who) → IsIn n 0 u → ((first_item n u).kind ≢ 1) × ((first_item n u).kind ≢ 7)
      apart (RootOf kind place) h = (h.1, h.2)
      apart (Thing i) h = absurd (omega arith)

      there : (u : Who) → IsIn n 0 u → (first_item n u).place < n
      there (RootOf kind place) h = by_root n (λ k x. x < n) some some (λ x l. l) (λ x l. l) kind place h
      there (Thing i) h = absurd (omega arith)

      good : (u : Who) → IsIn n 0 u → IsGoodContent 0 (first_item n u).held.content
      good (RootOf kind place) h = by_root n (λ k x. IsGoodContent 0 (root_content n k)) refl refl (λ x l. refl) (λ x l. refl) kind place h
      good (Thing i) h = absurd (omega arith)

      ours : (u : Who) → IsIn n 0 u → IsOurs (first_item n u).held.content
      ours (RootOf kind place) h = by_root n (λ k x. IsOurs (root_content n k)) tt tt (λ x l. tt) (λ x l. tt) kind place h
      ours (Thing i) h = absurd (omega arith)

      readable : (u : Who) → IsIn n 0 u → IsReadable n (first_item n u).kind (held_over none_made (first_item n u).held.content [])
      readable (RootOf kind place) h =
          by_root n (λ k x. IsReadable n k (held_over none_made (root_content n k) [])) refl (size (eq-eqb n n refl)) (λ x l. refl) (λ x l. refl) kind place h
        where
          size : (n == n) ≡ true → IsReadable n 4 (held_over none_made (root_content n 4) [])
          size e = rw e refl
      readable (Thing i) h = absurd (omega arith)

      sizes : (u : Who) → IsIn n 0 u → length (nobody u) ≡ length (first_item n u).held.waiting
      sizes (RootOf kind place) h = refl
      sizes (Thing i) h = absurd (omega arith)

      alike : (u : Who) → IsIn n 0 u → AllByRecursion (λ w. w ≡ waiter (first_item n u).held.content) (first_item n u).held.waiting
      alike (RootOf kind place) h = tt
      alike (Thing i) h = absurd (omega arith)

  stands : (u : Who) → IsIn n 0 u → boot.states (at none_made u) ≡ Some (state_of 0 (held_over none_made (first_item n u).held.content []))
  stands (RootOf kind place) h =
      by_root n (λ k x. boot.states (bare_id x k 1) ≡ Some (state_of 0 (held_over none_made (root_content n k) []))) refl refl (λ x l. third_found n x (x == 0)) (λ x l. fifth_found n x (x == 0)) kind place h
  stands (Thing i) h = absurd (omega arith)

  placed : (u : Who) → IsIn n 0 u → boot.places (at none_made u) ≡ (first_item n u).place
  placed (RootOf kind place) h = refl
  placed (Thing i) h = absurd (omega arith)

  pub boot_settled : Settled n 0 (at_boot n) boot
  boot_settled = record {
    ref = none_made;
    slots = nobody;
    drawn = 0;
    few = lit≤ tt;
    aw = [];
    named = tt;
    fits = begins;
    stands = stands;
    placed = placed;
    alike = λ a b e. ((boot_shows rules).alike.alike a b e).0;
    home = some;
    fit = record { names = tt; awaits = tt; few_names = lit≤ tt; few_awaits = lit≤ tt };
    desk = refl;
    pending = refl;
  }
