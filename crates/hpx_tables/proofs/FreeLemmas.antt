-- Actions that wait: one more that may not be fired, the one that is taken, and where their objects have their homes.
use Rattle.std.proofs.Common.{ℕ, zero, suc, ◌+◌, ◌<◌, None, take, drop, get_or, arith, subst, Bool, false, cond, List, [], ◌∷◌, ◌++◌, ◌≡◌, ◌==◌, Some, map, length, refl, sym, ap, ◌∙◌, inl, inr}
use Rattle.std.specs.Prelude.{◌||◌}
use Rattle.std.proofs.lemmas.Bool.{cases_Bool}
use Rattle.std.specs.List.{slice_get, find, remove, list_any, AllByRecursion}
use Rattle.hpx_value.specs.declared.acts.Job.{Job}
use Rattle.hpx_journal.specs.Data.{Id, Act}
use Rattle.hpx_journal.specs.Entries.{target_of}
use Rattle.hpx_journal.specs.Local.{is_standing, acts_on, is_busy}
use Rattle.hpx_part.specs.Data.{Standing}
use Rattle.hpx_part.proofs.Keyed.{find_step}
use Rattle.hpx_tables.specs.Tables.{Tables}
use Rattle.hpx_tables.specs.Jobs.{IsRunning}
use Rattle.hpx_tables.specs.Pending.{Waits, action_of, fired_of}
use Rattle.hpx_tables.specs.Free.{IsFree, NoneIsFree}

pub NoneIsFree-push : (running : List Act) (objects : List Standing) (acts : List Act) (act : Act) → NoneIsFree running objects acts
    → (IsFree running objects act → ⊥) → NoneIsFree running objects (acts ++ act ∷ [])
NoneIsFree-push running objects [] act h i = (i, tt)
NoneIsFree-push running objects (x ∷ acts) act h i = (h.0, NoneIsFree-push running objects acts act h.1 i)

last_of : {X : Type 0} (xs : List X) (y : X) → slice_get (xs ++ y ∷ []) (length xs) ≡ Some y
last_of [] y = refl
last_of (x ∷ xs) y = last_of xs y

-- the action that was taken last runs
pub started_runs : (here : ℕ) (running : List Act) (objects : List Standing) (t' : Tables) (job : Job) (j : ℕ) (x : Standing)
    → t'.here ≡ here → t'.running ≡ running ++ job.action ∷ [] → t'.objects ≡ objects → job.at ≡ here → slice_get objects j ≡ Some x
    → find (is_standing (target_of job.action)) objects ≡ Some x → job.kind ≡ x.object.kind → job.state ≡ x.state → IsRunning t' job
started_runs here running objects t' job j x at runs same from stands found kind state = record {
  i = length running;
  j = j;
  is = record {
    standing = x;
    here = from ∙ sym at;
    runs = ap (λ xs. slice_get xs (length running)) runs ∙ last_of running job.action;
    stands = ap (λ xs. slice_get xs j) same ∙ stands;
    found = ap (find (is_standing (target_of job.action))) same ∙ found;
    kind = sym kind;
    state = sym state;
  };
}

-- ---- fired actions

pub any_over : {X Y : Type 0} (p : Y → Bool) (g : X → Y) (xs : List Y) (ys : List X) → list_any p (xs ++ map g ys) ≡ (list_any p xs || list_any (λ y. p (g y)) ys)
any_over p g [] [] = refl
any_over p g [] (y ∷ ys) = ap (λ b. p (g y) || b) (any_over p g [] ys)
any_over p g (x ∷ xs) ys = elim (cases_Bool (p x)) [
  | inl t ↦ rw t refl
  | inr t ↦ rw t (any_over p g xs ys)
]

-- an object is kept busy by an action that runs, or by one whose commit waits
pub busy_fired : (o : Id) (running : List Act) (pending : List Waits)
    → is_busy o (fired_of running pending) ≡ cond (o.kind == 7) false (list_any (acts_on o) running || list_any (λ (w : Waits). acts_on o w.job.action) pending)
busy_fired o running pending = ap (λ b. cond (o.kind == 7) false b) (any_over (acts_on o) action_of running pending)

-- none passes before the first that does
pub find_none_more : {X : Type 0} (p : X → Bool) (xs : List X) (i : ℕ) (d : X) → i < length xs → find p (take i xs) ≡ None → p (get_or xs i d) ≡ false
    → find p (take (i + 1) xs) ≡ None
find_none_more p xs i d lt none other = subst (λ n. find p (take n xs) ≡ None) (plus_one i) (more p xs i d lt none other)
  where
    plus_one : (n : ℕ) → suc n ≡ n + 1
    plus_one n = omega arith

    more : {X : Type 0} (p : X → Bool) (xs : List X) (i : ℕ) (d : X) → i < length xs → find p (take i xs) ≡ None → p (get_or xs i d) ≡ false
        → find p (take (suc i) xs) ≡ None
    more p [] i d lt none other = absurd (omega (arith, lt))
    more p (x ∷ xs) zero d lt none other = rw other refl
    more p (x ∷ xs) (suc i) d lt none other = elim (cases_Bool (p x)) [
      | inl t ↦ absurd (let e : Some x ≡ None = rw t at none in cc)
      | inr f ↦ rw f (more p xs i d (omega (arith, lt)) (rw f at none) other)
    ]

-- one more that does not pass
pub find_next : {X : Type 0} (p : X → Bool) (xs : List X) (i : ℕ) (x : X) → i < length xs → x ≡ get_or xs i x → p x ≡ false
    → (find p xs ≡ find p (drop i xs)) × (find p (take i xs) ≡ None) → (find p xs ≡ find p (drop (i + 1) xs)) × (find p (take (i + 1) xs) ≡ None)
find_next p xs i x lt is other h =
    let e : p (get_or xs i x) ≡ false = subst (λ y. p y ≡ false) is other in (
      h.0 ∙ (find_step p xs i x lt ∙ ap (λ b. cond b (Some (get_or xs i x)) (find p (drop (i + 1) xs))) e),
      find_none_more p xs i x lt h.1 e,
    )

-- ---- where their objects have their homes

pub here_remove : (P : Act → Type 0) (xs : List Act) (i : ℕ) → AllByRecursion P xs → AllByRecursion P (remove xs i)
here_remove P [] zero h = tt
here_remove P [] (suc i) h = tt
here_remove P (x ∷ xs) zero h = h.1
here_remove P (x ∷ xs) (suc i) h = (h.0, here_remove P xs i h.1)
