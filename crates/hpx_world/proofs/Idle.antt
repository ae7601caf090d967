-- What holds of all nodes, and what jobs are out.
use Rattle.std.proofs.Common.{ℕ, zero, suc, List, [], ◌∷◌, ◌≡◌, ◌+◌, add-one, Some, refl, sym, ap, ◌∙◌, subst, length, take, set}
use Rattle.std.specs.List.{slice_get, remove, AllByRecursion}
use Rattle.hpx_value.specs.declared.acts.Job.{Job}
use Rattle.hpx_journal.specs.Data.{Act}
use Rattle.hpx_tables.specs.Tables.{Tables}
use Rattle.hpx_part.specs.Data.{Entry}
use Rattle.hpx_world.specs.Quiet.{NoneRuns, running_in}
use Rattle.hpx_world.specs.Sound.{IsSame}
use Rattle.hpx_world.specs.Steps.{IsOut}

one_more : (P : Tables → Type 0) (xs : List Tables) (k : ℕ) → ((t : Tables) → slice_get xs k ≡ Some t → P t) → AllByRecursion P (take k xs)
    → AllByRecursion P (take (suc k) xs)
one_more P [] k h i = tt
one_more P (x ∷ xs) zero h i = (h x refl, tt)
one_more P (x ∷ xs) (suc k) h i = (i.0, one_more P xs k h i.1)

-- a node that cannot do anything is passed, and no node changes
pub passed : (P : Tables → Type 0) (k : ℕ) (xs ys : List Tables) → ys ≡ xs → ((t : Tables) → slice_get xs k ≡ Some t → P t)
    → AllByRecursion P (take k xs) → AllByRecursion P (take (k + 1) ys)
passed P k xs ys e h i = rw add-one (subst (λ zs. AllByRecursion P (take (suc k) zs)) (sym e) (one_more P xs k h i))

take_whole : (xs : List Tables) → take (length xs) xs ≡ xs
take_whole [] = refl
take_whole (x ∷ xs) = ap (λ ys. x ∷ ys) (take_whole xs)

pub whole : (P : Tables → Type 0) (k : ℕ) (xs : List Tables) → k ≡ length xs → AllByRecursion P (take k xs) → AllByRecursion P xs
whole P k xs e h = subst (AllByRecursion P) (take_whole xs) (subst (λ n. AllByRecursion P (take n xs)) e h)

pub same_then : (a b c : List Tables) (p q r : List Entry) → IsSame a b p q → IsSame b c q r → IsSame a c p r
same_then a b c p q r g h = record { tables = h.tables ∙ g.tables; journal = h.journal ∙ g.journal }

-- ---- jobs

pub running_same : (xs ys : List Tables) → ys ≡ xs → running_in ys ≡ running_in xs
running_same xs ys e = ap running_in e

pub none_same : (xs ys : List Tables) → running_in ys ≡ running_in xs → NoneRuns xs → NoneRuns ys
none_same xs ys e h = subst (AllByRecursion (λ (acts : List Act). acts ≡ [])) (sym e) h

pub none_at : (xs ys : List Tables) → ys ≡ xs → NoneRuns xs → NoneRuns ys
none_at xs ys e h = none_same xs ys (running_same xs ys e) h

pub none_runs_at : (xs : List Tables) (k : ℕ) (t : Tables) → NoneRuns xs → slice_get xs k ≡ Some t → t.running ≡ []
none_runs_at [] k t h at = absurd (cc)
none_runs_at (x ∷ xs) zero t h at = let e : x ≡ t = cc in subst (λ (y : Tables). y.running ≡ []) e h.0
none_runs_at (x ∷ xs) (suc k) t h at = none_runs_at xs k t h.1 at

pub none_twice : (xs : List Tables) (k : ℕ) (y z : Tables) → NoneRuns xs → z.running ≡ [] → NoneRuns (set (set xs k y) k z)
none_twice [] k y z h e = tt
none_twice (x ∷ xs) zero y z h e = (e, h.1)
none_twice (x ∷ xs) (suc k) y z h e = (h.0, none_twice xs k y z h.1 e)

pub removed_one : (xs : List Act) (a b : Act) (i : ℕ) → xs ≡ a ∷ [] → slice_get xs i ≡ Some b → remove xs i ≡ []
removed_one xs a b zero e h = ap (λ ys. remove ys 0) e
removed_one xs a b (suc i) e h = let f = subst (λ ys. slice_get ys (suc i) ≡ Some b) e h in cc

-- ---- a job that is out

-- nothing changed
pub out_same : (xs ys : List Tables) (n : ℕ) (job : Job) → ys ≡ xs → IsOut xs n job → IsOut ys n job
out_same xs ys n job e out = subst (λ ns. IsOut ns n job) (sym e) out
