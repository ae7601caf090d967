-- Lists of the same sums: what is found in one by a key that fits once is found in the other.
use Rattle.std.proofs.Common.{Bool, true, List, [], ◌∷◌, ◌≡◌, ◌≤◌, Option, Some, None, refl, sym, ap, ◌∙◌, subst, arith, inl, inr}
use Rattle.std.specs.List.{find, count_by}
use Rattle.std.proofs.lemmas.Bool.{cases_Bool}
use Rattle.std.proofs.lemmas.List.Sums.{sum_by-cons}
use Rattle.hpx_journal.proofs.Bags.{find-passes, find-nothing, list_any-find, sum_by-without-find}
use Rattle.hpx_journal.proofs.Seek.{none_any}
use Rattle.hpx_part.specs.Keyed.{Agree}
use Rattle.hpx_part.specs.Shows.{SameSums}
use Rattle.hpx_part.proofs.Keyed.{counts_of, counts_true, counts_false, counted_any, none_counted}
use Rattle.hpx_part.proofs.Telling.{Telling}

module _ {X : Type 0} (t : Telling X) where
  -- an element that is there and passes is found, where only one passes
  found_once : (test : X → Bool) (x : X) (ys : List X) → test x ≡ true → 1 ≤ count_by (t.same x) ys → count_by test ys ≤ 1 → find test ys ≡ Some x
  found_once test x [] passes there few = absurd (omega arith)
  found_once test x (y ∷ ys) passes there few = elim (cases_Bool (t.same x y)) [
    | inl s ↦
        let e : x ≡ y = t.sound x y s in
        let p : test y ≡ true = subst (λ z. test z ≡ true) e passes in
        rw p (ap (λ z. Some z) (sym e))
    | inr s ↦
        let later = found_once test x ys passes
        (omega (arith, sum_by-cons (counts_of (t.same x)) y ys, counts_false (t.same x) y s))
        (omega (arith, sum_by-cons (counts_of test) y ys)) in
        elim (cases_Bool (test y)) [
          | inl p ↦
              absurd (omega (
                arith,
                sum_by-cons (counts_of test) y ys,
                counts_true test y p,
                counted_any test ys (list_any-find test ys x later),
              ))
          | inr p ↦ rw p later
        ]
  ]

  found_as : (test : X → Bool) (xs ys : List X) → SameSums xs ys → count_by test xs ≤ 1 → (o : Option X) → find test xs ≡ o → find test ys ≡ o
  found_as test xs ys same few None h =
      find-nothing test ys (omega (arith, same (counts_of test), none_counted test xs (none_any test xs h)))
  found_as test xs ys same few (Some x) h =
      found_once test x ys (find-passes test xs x h)
      (omega (
        arith,
        same (counts_of (t.same x)),
        sum_by-without-find (counts_of (t.same x)) test xs x h,
        counts_true (t.same x) x (t.own x),
      ))
      (omega (arith, few, same (counts_of test)))

  pub Agree-sums : {K : Type 0} (test : K → X → Bool) (s xs ys : List X) → Agree test s xs → SameSums xs ys → Agree test s ys
  Agree-sums test s xs ys agree same = record {
    single = agree.single;
    counts = λ k. omega (arith, agree.counts k, same (counts_of (test k)));
    finds = λ k.
        agree.finds k
        ∙ sym (found_as (test k) xs ys same (omega (arith, agree.single k, agree.counts k)) (find (test k) xs) refl);
  }
