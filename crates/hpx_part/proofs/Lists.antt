-- The actions and objects of a view, at a place where one is put or taken.
use Rattle.std.proofs.Common.{ℕ, List, ◌∷◌, ◌++◌, ◌≡◌, ◌+◌, ◌≤◌, Some, ap, subst, arith}
use Rattle.std.specs.List.{find, count_by, sum_by}
use Rattle.std.proofs.lemmas.List.Sums.{sum_by-cons, sum_by-append}
use Rattle.hpx_journal.specs.Data.{Act}
use Rattle.hpx_journal.specs.Bags.{without}
use Rattle.hpx_part.specs.Keyed.{Agree}
use Rattle.hpx_journal.specs.Entries.{name_of}
use Rattle.hpx_journal.specs.Local.{is_act, is_standing}
use Rattle.hpx_part.specs.Data.{Standing}
use Rattle.hpx_part.proofs.Keys.{means, own, stood, means_object, own_object}
use Rattle.hpx_part.proofs.Keyed.{Agree-put, Agree-take, Agree-found, counts_true, count_middle}

pub sum_middle : {X : Type 0} (f : X → ℕ) (l : List X) (x : X) (m : List X) → sum_by f (l ++ x ∷ m) ≡ sum_by f (l ++ m) + f x
sum_middle f l x m = omega (arith, sum_by-append f l (x ∷ m), sum_by-append f l m, sum_by-cons f x m)

module _ (xs ys l m : List Act) (act : Act) (agree : Agree is_act xs ys) where
  pub acts_put : ys ≡ l ++ m → count_by (is_act (name_of act)) xs ≡ 0 → Agree is_act (act ∷ xs) (l ++ act ∷ m)
  acts_put is none = Agree-put is_act name_of means own xs l m act (subst (Agree is_act xs) is agree) none

  pub acts_taken : ys ≡ l ++ act ∷ m → Agree is_act (without (is_act (name_of act)) xs) (l ++ m)
  acts_taken is = Agree-take is_act name_of means own xs l m act (subst (Agree is_act xs) is agree)

  pub acts_found : ys ≡ l ++ act ∷ m → find (is_act (name_of act)) xs ≡ Some act
  acts_found is = Agree-found is_act name_of means own xs l m act (subst (Agree is_act xs) is agree)

  pub acts_once : ys ≡ l ++ act ∷ m → 1 ≤ count_by (is_act (name_of act)) xs
  acts_once is = omega (
    arith,
    agree.counts (name_of act),
    ap (count_by (is_act (name_of act))) is,
    count_middle (is_act (name_of act)) l act m,
    counts_true (is_act (name_of act)) act (own act),
  )

module _ (xs ys l m : List Standing) (x : Standing) (agree : Agree is_standing xs ys) where
  pub objects_put : ys ≡ l ++ m → count_by (is_standing x.object) xs ≡ 0 → Agree is_standing (x ∷ xs) (l ++ x ∷ m)
  objects_put is none = Agree-put is_standing stood means_object own_object xs l m x (subst (Agree is_standing xs) is agree) none

  pub objects_taken : ys ≡ l ++ x ∷ m → Agree is_standing (without (is_standing x.object) xs) (l ++ m)
  objects_taken is = Agree-take is_standing stood means_object own_object xs l m x (subst (Agree is_standing xs) is agree)

  pub objects_found : ys ≡ l ++ x ∷ m → find (is_standing x.object) xs ≡ Some x
  objects_found is = Agree-found is_standing stood means_object own_object xs l m x (subst (Agree is_standing xs) is agree)
