use Rattle.std.proofs.Common.{◌≡◌, ◌∙◌, ℕ, suc, ◌<◌, List, [], ◌∷◌, length, get_or, map, refl, sym, ap, ap₂, arith}
use Rattle.hpx_pool.specs.Hands.{frame_of}
use Rattle.hpx_site.proofs.workers.work_each.Goals as goal

-- lists of the same length whose elements look the same are mapped to the same
same_by : {X Y : Type 0} (f : X → Y) (xs ys : List X) → length ys ≡ length xs → ((i : ℕ) (d : X) → i < length xs → f (get_or ys i d) ≡ f (get_or xs i d)) → map f ys ≡ map f xs
same_by f [] [] n h = refl
same_by f [] (y ∷ ys) n h = absurd (omega arith)
same_by f (x ∷ xs) [] n h = absurd (omega arith)
same_by f (x ∷ xs) (y ∷ ys) n h = ap₂ (λ a rest. a ∷ rest) (h 0 x (omega arith)) (same_by f xs ys (omega arith) (λ i d l. h (suc i) d (omega arith)))

pub returns : goal.returns
returns g c = same_by frame_of _ _ c.for_each_mut.auto.s
    (λ i d l. let k = (c.for_each_mut.ensures i d l).1 in ap frame_of (sym k.left) ∙ k.call ∙ ap frame_of k.argument_is)
