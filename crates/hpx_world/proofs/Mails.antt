-- What a message counts of a move, by who sends it and where it goes.
use Rattle.std.proofs.Common.{ℕ, Bool, true, false, cond, List, [], ◌∷◌, ◌≡◌, ◌≢◌, ◌<◌, ◌≤◌, ◌==◌, Some, refl, sym, ap, ◌∙◌, subst, arith, inl, inr}
use Rattle.std.specs.Prelude.{◌&&◌, ◌⊎◌, IfSome, nat_lt}
use Rattle.std.specs.List.{AllByRecursion}
use Rattle.std.proofs.lemmas.Bool.{cases_eq, eq-eqb, ne_eqb}
use Rattle.std.proofs.lemmas.Bool.Decides.{nat_tests}
use Rattle.hpx_value.specs.Ids.{same_object}
use Rattle.hpx_value.specs.Values.{bare_act}
use Rattle.hpx_parcel.specs.Parcels.{IsParcel, IsMove, IsMovable}
use Rattle.hpx_journal.specs.Bags.{total}
use Rattle.hpx_journal.specs.Data.{Id, Act, Parcel, Go, Shipped, Arrived}
use Rattle.hpx_journal.specs.Entries.{target_of, move_to, is_movable}
use Rattle.hpx_journal.specs.Frames.{acts_in}
use Rattle.hpx_journal.specs.Rows.{is_to}
use Rattle.hpx_journal.proofs.Bags.{total-zero}
use Rattle.hpx_journal.proofs.Same.{same_object-true}
use Rattle.hpx_steps.specs.Frames.{MayGoTo}
use Rattle.hpx_steps.specs.Flows.{go_for}
use Rattle.hpx_steps.specs.Rows.{go_to, ship_to, moves_to, tell_of, tells_at, one_if}
use Rattle.hpx_steps.specs.Sound.{grants_of}
use Rattle.hpx_steps.proofs.Puts.{move_to-bare}
use Rattle.hpx_world.proofs.Near.{IsNear, near_move}
use Rattle.hpx_world.proofs.Traffic.{total_one}

pub both_few : (a b : Bool) → one_if (a && b) ≤ one_if a
both_few true true = omega arith
both_few true false = omega arith
both_few false b = omega arith

no_if : (b : Bool) → (b ≡ true → ⊥) → one_if b ≡ 0
no_if true h = absurd (h refl)
no_if false h = refl

pub nothing : (b : Bool) → ◌≡◌ {A = ℕ} 0 (cond b 0 0)
nothing true = refl
nothing false = refl

-- one that counts at its own locality alone
pub if_at : (b : Bool) (j k : ℕ) → one_if (b && (j == k)) ≡ cond (k == j) (one_if b) 0
if_at b j k = each b (cases_eq j k)
  where
    each : (b : Bool) → (j ≡ k) ⊎ (j ≢ k) → one_if (b && (j == k)) ≡ cond (k == j) (one_if b) 0
    each b (inl e) = rw (eq-eqb j k e, eq-eqb k j (sym e)) (yes b)
      where
        yes : (b : Bool) → one_if (b && true) ≡ one_if b
        yes true = refl
        yes false = refl
    each b (inr d) = rw (ne_eqb j k d, ne_eqb k j (λ e. d (sym e))) (no b)
      where
        no : (b : Bool) → one_if (b && false) ≡ 0
        no true = refl
        no false = refl

-- ---- grants

pub go_few : (o : Id) (t : ℕ) (p : Parcel) → go_to o t p ≤ grants_of o p
go_few o t (Go act) = both_few (same_object o (target_of act)) (is_to t (move_to act))
go_few o t _ = omega arith

pub for_few : (o : Id) (j k : ℕ) (p : Parcel) → go_for o j k p ≤ grants_of o p
for_few o j k (Go act) = both_few (same_object o (target_of act)) (j == k)
for_few o j k _ = omega arith

-- one for j counts where it goes there
pub for_is : (o : Id) (j k : ℕ) (p : Parcel) → go_for o j k p ≡ cond (k == j) (grants_of o p) 0
for_is o j k (Go act) = if_at (same_object o (target_of act)) j k
for_is o j k _ = nothing (k == j)

-- only the home of an object grants its moves
pub grants_home : (o : Id) (k to : ℕ) (p : Parcel) → MayGoTo k to p → o.home ≢ k → grants_of o p ≡ 0
grants_home o k to (Go act) may other = no_if (same_object o (target_of act)) (λ t. other (ap (λ (x : Id). x.home) (same_object-true o (target_of act) t) ∙ sym may.0))
grants_home o k to _ may other = refl

-- where a MOVE goes
pub move_is : (n : ℕ) (act : Act) → IsMove act → IsNear n act → (to : ℕ) × (to < n) × (move_to act ≡ Some to)
move_is n act move near = (move.args.0, subst (λ m. IfSome m (λ t. t < n)) is (near_move n act near), is)
  where
    kind : (ids : List Id) → act.ids ≡ ids → IsMovable ids → is_movable (target_of act).kind ≡ true
    kind [] e h = absurd h
    kind (id ∷ ids) e h = let a = h.0 in let b = h.1 in rw e (search (arith, nat_tests, a, b))

    is : move_to act ≡ Some move.args.0
    is = let small : nat_lt move.args.0 64 ≡ true = let lt = move.args.1 in search (arith, nat_tests, lt) in
        rw (eq-eqb act.code 1 move.code, kind act.ids refl move.target, move.args.2) (rw small refl)

pub all_goes : (n : ℕ) (o : Id) (p : Parcel) → IsParcel p → AllByRecursion (IsNear n) (acts_in (Some p)) → total n (λ t. go_to o t p) ≡ grants_of o p
all_goes n o (Go act) form near =
    let x = move_is n act form (near.0) in rw x.2 (each (same_object o (target_of act)) x.0 x.1)
  where
    each : (b : Bool) (to : ℕ) → to < n → total n (λ t. one_if (b && (to == t))) ≡ one_if b
    each true to lt = total_one n to 1 lt
    each false to lt = total-zero n (λ t. 0) (λ t h. refl)
all_goes n o _ form near = total-zero n (λ t. 0) (λ t h. refl)

-- ---- objects

-- an object goes where its MOVE says
moved : (o : Id) (t to : ℕ) (act : Act) → move_to (bare_act act) ≡ Some to → (to ≡ t → ⊥) → moves_to o t act ≡ 0
moved o t to act is d = let e : move_to act ≡ Some to = sym (move_to-bare act) ∙ is in rw (e, ne_eqb to t d) (no (same_object o (target_of act)))
  where
    no : (b : Bool) → one_if (b && false) ≡ 0
    no true = refl
    no false = refl

pub ship_bound : (o : Id) (k t to : ℕ) (p : Parcel) → MayGoTo k to p → cond (to == t) (ship_to o t p) 0 ≡ ship_to o t p
ship_bound o k t to (Shipped act state) may = elim (cases_eq to t) [
  | inl e ↦ rw (eq-eqb to t e) refl
  | inr d ↦ rw (ne_eqb to t d) (sym (moved o t to act may.0 d))
]
ship_bound o k t to _ may = sym (nothing (to == t))

pub ship_elsewhere : (o : Id) (k t to : ℕ) (p : Parcel) → MayGoTo k to p → to ≢ t → ship_to o t p ≡ 0
ship_elsewhere o k t to (Shipped act state) may d = moved o t to act may.0 d
ship_elsewhere o k t to _ may d = refl

pub ship_self : (o : Id) (k to : ℕ) (p : Parcel) → MayGoTo k to p → ship_to o k p ≡ 0
ship_self o k to (Shipped act state) may = moved o k to act may.0 may.1
ship_self o k to _ may = refl

-- it names what goes
pub ship_few : (o : Id) (t : ℕ) (act : Act) → moves_to o t act ≤ one_if (same_object o (target_of act))
ship_few o t act = both_few (same_object o (target_of act)) (is_to t (move_to act))

-- ---- landings

-- what tells of a landing tells that it was here
pub tells_here : (o : Id) (k to : ℕ) (p : Parcel) → MayGoTo k to p → tells_at o k p ≡ tell_of o p
tells_here o k to (Arrived id place) may = rw (eq-eqb place k may.1) (yes (same_object o id))
  where
    yes : (b : Bool) → one_if (b && true) ≡ one_if b
    yes true = refl
    yes false = refl
tells_here o k to _ may = refl

pub tells_elsewhere : (o : Id) (k t to : ℕ) (p : Parcel) → MayGoTo k to p → k ≢ t → tells_at o t p ≡ 0
tells_elsewhere o k t to (Arrived id place) may d = rw (ne_eqb place t (λ e. d (sym may.1 ∙ e))) (no (same_object o id))
  where
    no : (b : Bool) → one_if (b && false) ≡ 0
    no true = refl
    no false = refl
tells_elsewhere o k t to _ may d = refl

-- and goes home
pub tell_home : (o : Id) (k to : ℕ) (p : Parcel) → MayGoTo k to p → to ≢ o.home → tell_of o p ≡ 0
tell_home o k to (Arrived id place) may d = no_if (same_object o id) (λ t. d (may.0 ∙ sym (ap (λ (x : Id). x.home) (same_object-true o id t))))
tell_home o k to _ may d = refl

pub tell_bound : (o : Id) (k to : ℕ) (p : Parcel) → MayGoTo k to p → cond (to == o.home) (tells_at o k p) 0 ≡ tell_of o p
tell_bound o k to p may = elim (cases_eq to o.home) [
  | inl e ↦ rw (eq-eqb to o.home e) (tells_here o k to p may)
  | inr d ↦ rw (ne_eqb to o.home d) (sym (tell_home o k to p may d))
]
