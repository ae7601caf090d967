-- What is said of the tables of nodes, one node after the other.
use Rattle.std.proofs.Common.{ℕ, zero, suc, List, [], ◌∷◌, ◌++◌, ◌≡◌, ◌<◌, ◌+◌, ◌∙◌, sym, ap, subst, arith, length, get_or, take, append-nil}
use Rattle.std.specs.Prelude.{flat_map}
use Rattle.std.specs.List.{AllByRecursion}
use Rattle.std.proofs.lemmas.List.{length-map, take_more}
use Rattle.hpx_part.proofs.Keyed.{slice_get_is}
use Rattle.hpx_tables.proofs.Alls.{all_append, all_at}
use Rattle.hpx_tables.specs.Tables.{Tables}
use Rattle.hpx_steps.proofs.Sums.{flat_append}
use Rattle.hpx_node.specs.Locality.{Locality, tables_of}

pub tables_get : (xs : List Locality) (k : ℕ) (v : Locality) → k < length (tables_of xs) → v ≡ get_or xs k v → v.tables ≡ get_or (tables_of xs) k v.tables
tables_get [] k v lt is = absurd (omega arith)
tables_get (x ∷ xs) zero v lt is = ap (λ (n : Locality). n.tables) is
tables_get (x ∷ xs) (suc k) v lt is = tables_get xs k v (omega arith) is

pub tables_long : (xs : List Locality) → length (tables_of xs) ≡ length xs
tables_long xs = length-map xs (λ n. n.tables)

-- ns up to k, and n that follows
module _ (ns ms : List Locality) (k : ℕ) (n : Locality) (own : ms ≡ ns) (lt : k < length ms) (is : n ≡ get_or ms k n) where
  inside : k < length (tables_of ns)
  inside = omega (arith, lt, ap (λ xs. length xs) own, tables_long ns)

  got : n.tables ≡ get_or (tables_of ns) k n.tables
  got = tables_get ns k n inside (subst (λ xs. n ≡ get_or xs k n) own is)

  more : take (k + 1) (tables_of ns) ≡ take k (tables_of ns) ++ n.tables ∷ []
  more = take_more (tables_of ns) k n.tables inside ∙ ap (λ t. take k (tables_of ns) ++ t ∷ []) (sym got)

  pub of_all : (P : Tables → Type 0) → AllByRecursion P (tables_of ns) → P n.tables
  of_all P all = all_at P (tables_of ns) k n.tables all (slice_get_is (tables_of ns) k n.tables inside got)

  pub all_more : (P : Tables → Type 0) → AllByRecursion P (take k (tables_of ns)) → P n.tables → AllByRecursion P (take (k + 1) (tables_of ns))
  all_more P all one = subst (AllByRecursion P) (sym more) (all_append P (take k (tables_of ns)) (n.tables ∷ []) all (one, tt))

  pub flat_more : {Y : Type 0} (f : Tables → List Y) → flat_map f (take (k + 1) (tables_of ns)) ≡ flat_map f (take k (tables_of ns)) ++ f n.tables
  flat_more f = ap (flat_map f) more ∙ (flat_append f (take k (tables_of ns)) (n.tables ∷ []) ∙ ap (λ ys. flat_map f (take k (tables_of ns)) ++ ys) (append-nil (f n.tables)))
