-- What a name is among names behind the first.
use Rattle.std.proofs.Common.{ℕ, suc, ◌+◌, eqb, Option, Some, None, ◌-◌, ◌≤◌, ◌≡◌, Bool, true, false, cond, List, [], ◌∷◌, length, take, drop, get_or, ◌++◌, map, IfOk, Result, refl, sym, ap, subst, ◌∙◌, arith}
use Rattle.std.specs.Str.{bytes_eq}
use Rattle.app_console.specs.Types.{Naming, Console, Plan, Await}
use Rattle.app_console.specs.Commands.{Sight, plan_by, judged, first_of, commands_of, row_in}
use Rattle.app_console.specs.Desks.{seek, status_in, status_by, after, index_named, index_awaited, without, erased, held_at}

take_all : {X : Type 0} (xs : List X) → take (length xs) xs ≡ xs
take_all [] = refl
take_all (x ∷ xs) = ap (λ ys. x ∷ ys) (take_all xs)

-- a list is its first, and then the rest
pub front_rest : {X : Type 0} (xs : List X) (x : X) → 1 ≤ length xs → x ≡ get_or xs 0 x → xs ≡ x ∷ take (length xs - 1) (drop 1 xs)
front_rest [] x h e = absurd (omega arith)
front_rest (y ∷ ys) x h e =
    let one : suc (length ys) - 1 ≡ length ys = omega arith in
    ap (λ z. z ∷ ys) (sym e) ∙ ap (λ zs. x ∷ zs) (sym (ap (λ n. take n ys) one ∙ take_all ys))

pub status_rest : {V : Type 0} (kind : V → ℕ) (name w : List ℕ) (xs : List (Naming V)) (x : Naming V) → 1 ≤ length xs → x ≡ get_or xs 0 x → w ≡ x.name → bytes_eq name w ≡ false
    → status_in kind xs name ≡ status_in kind (take (length xs - 1) (drop 1 xs)) name
status_rest kind name w xs x some first same other =
    ap (λ ys. status_in kind ys name) (front_rest xs x some first)
    ∙ ap (λ b. cond b (status_by kind x.to) (status_in kind (take (length xs - 1) (drop 1 xs)) name)) (ap (bytes_eq name) (sym same) ∙ other)

pub seek_rest : {V : Type 0} (name w : List ℕ) (xs : List (Naming V)) (x : Naming V) → 1 ≤ length xs → x ≡ get_or xs 0 x → w ≡ x.name → bytes_eq name w ≡ false
    → seek name xs ≡ seek name (take (length xs - 1) (drop 1 xs))
seek_rest name w xs x some first same other =
    ap (seek name) (front_rest xs x some first) ∙ ap (λ b. cond b x.to (seek name (take (length xs - 1) (drop 1 xs)))) (ap (bytes_eq name) (sym same) ∙ other)

-- a line by its first word, and the rest
pub plan_rest : {W : Type 0} (f : W → List ℕ) (c : Console) (s : Sight) (ws : List W) (w : W) → 1 ≤ length ws → w ≡ get_or ws 0 w
    → plan_by c s (map f ws) ≡ judged s (first_of c ++ map f (take (length ws - 1) (drop 1 ws))) (row_in (commands_of c) (f w))
plan_rest f c s ws w some first = ap (λ vs. plan_by c s (map f vs)) (front_rest ws w some first)

pub plan_ok : {W E : Type 0} (f : W → List ℕ) (c : Console) (s : Sight) (ws : List W) (d : W) (r : Result Plan E) → 1 ≤ length ws
    → IfOk r (λ plan. plan ≡ judged s (first_of c ++ map f (take (length ws - 1) (drop 1 ws))) (row_in (commands_of c) (f (get_or ws 0 d))))
    → IfOk r (λ plan. plan ≡ plan_by c s (map f ws))
plan_ok f c s ws d r some h = subst (λ p. IfOk r (λ plan. plan ≡ p)) (sym (plan_rest f c s ws (get_or ws 0 d) some (first_of_two ws d some))) h
  where
    first_of_two : {X : Type 0} (xs : List X) (d : X) → 1 ≤ length xs → get_or xs 0 d ≡ get_or xs 0 (get_or xs 0 d)
    first_of_two [] d h = absurd (omega arith)
    first_of_two (x ∷ xs) d h = refl

-- ---- where a name or a slot stands

cond_rest : {X : Type 0} (b : Bool) (x y : X) → b ≡ false → cond b x y ≡ y
cond_rest b x y e = ap (λ c. cond c x y) e

pub index_named_rest : {V : Type 0} (name w : List ℕ) (xs : List (Naming V)) (x : Naming V) → 1 ≤ length xs → x ≡ get_or xs 0 x → w ≡ x.name → bytes_eq name w ≡ false
    → index_named name xs ≡ after (index_named name (take (length xs - 1) (drop 1 xs)))
index_named_rest name w xs x some first same other =
    ap (index_named name) (front_rest xs x some first) ∙ cond_rest (bytes_eq name x.name) _ _ (ap (bytes_eq name) (sym same) ∙ other)

pub index_awaited_rest : (slot k : ℕ) (xs : List Await) (x : Await) → 1 ≤ length xs → x ≡ get_or xs 0 x → k ≡ x.slot → eqb slot k ≡ false
    → index_awaited slot xs ≡ after (index_awaited slot (take (length xs - 1) (drop 1 xs)))
index_awaited_rest slot k xs x some first same other =
    ap (index_awaited slot) (front_rest xs x some first) ∙ cond_rest (eqb slot x.slot) _ _ (ap (eqb slot) (sym same) ∙ other)

pub without_none : {V : Type 0} (name : List ℕ) (xs : List (Naming V)) → index_named name xs ≡ None → without name xs ≡ xs
without_none name [] e = refl
without_none name (x ∷ xs) e = by_name (bytes_eq name x.name) e (without_none name xs)
  where
    none_after : (o : Option ℕ) → after o ≡ None → o ≡ None
    none_after None f = refl
    none_after (Some i) f = cc

    by_name : (b : Bool) → cond b (Some 0) (after (index_named name xs)) ≡ None → (index_named name xs ≡ None → without name xs ≡ xs) → cond b xs (x ∷ without name xs) ≡ x ∷ xs
    by_name true f g = cc
    by_name false f g = ap (λ ys. x ∷ ys) (g (none_after (index_named name xs) f))

pub without_at : {V : Type 0} (name : List ℕ) (xs : List (Naming V)) (i : ℕ) → index_named name xs ≡ Some i → without name xs ≡ take i xs ++ drop (suc i) xs
without_at name [] i e = cc
without_at name (x ∷ xs) i e = by_name (bytes_eq name x.name) (index_named name xs) e (without_at name xs)
  where
    by_name : (b : Bool) (o : Option ℕ) → cond b (Some 0) (after o) ≡ Some i → ((j : ℕ) → o ≡ Some j → without name xs ≡ take j xs ++ drop (suc j) xs)
        → cond b xs (x ∷ without name xs) ≡ take i (x ∷ xs) ++ drop (suc i) (x ∷ xs)
    by_name true o f g = let here : 0 ≡ i = cc in ap (λ k. take k (x ∷ xs) ++ drop (suc k) (x ∷ xs)) here
    by_name false None f g = cc
    by_name false (Some j) f g =
        let next : j + 1 ≡ i = cc in
        let same : suc j ≡ i = omega arith in
        ap (λ ys. x ∷ ys) (g j refl) ∙ ap (λ k. take k (x ∷ xs) ++ drop (suc k) (x ∷ xs)) same

pub erased_none : (slot : ℕ) (xs : List Await) → index_awaited slot xs ≡ None → erased slot xs ≡ xs
erased_none slot [] e = refl
erased_none slot (x ∷ xs) e = by_slot (eqb slot x.slot) e (erased_none slot xs)
  where
    none_after : (o : Option ℕ) → after o ≡ None → o ≡ None
    none_after None f = refl
    none_after (Some i) f = cc

    by_slot : (b : Bool) → cond b (Some 0) (after (index_awaited slot xs)) ≡ None → (index_awaited slot xs ≡ None → erased slot xs ≡ xs) → cond b xs (x ∷ erased slot xs) ≡ x ∷ xs
    by_slot true f g = cc
    by_slot false f g = ap (λ ys. x ∷ ys) (g (none_after (index_awaited slot xs) f))

pub held_none : (slot : ℕ) (xs : List Await) → index_awaited slot xs ≡ None → held_at slot xs ≡ None
held_none slot [] e = refl
held_none slot (x ∷ xs) e = by_slot (eqb slot x.slot) e (held_none slot xs)
  where
    none_after : (o : Option ℕ) → after o ≡ None → o ≡ None
    none_after None f = refl
    none_after (Some i) f = cc

    by_slot : (b : Bool) → cond b (Some 0) (after (index_awaited slot xs)) ≡ None → (index_awaited slot xs ≡ None → held_at slot xs ≡ None) → cond b (Some x.what) (held_at slot xs) ≡ None
    by_slot true f g = cc
    by_slot false f g = g (none_after (index_awaited slot xs) f)

-- what stands where a slot stands is taken out, and says what is done with its answer
pub taken_at : (slot : ℕ) (xs : List Await) (i : ℕ) (x : Await) → index_awaited slot xs ≡ Some i → x ≡ get_or xs i x
    → (erased slot xs ≡ take i xs ++ drop (suc i) xs) × (held_at slot xs ≡ Some x.what)
taken_at slot [] i x e is = cc
taken_at slot (y ∷ xs) i x e is = by_slot (eqb slot y.slot) (index_awaited slot xs) e is (λ j f g. taken_at slot xs j x f g)
  where
    by_slot : (b : Bool) (o : Option ℕ) → cond b (Some 0) (after o) ≡ Some i → x ≡ get_or (y ∷ xs) i x
        → ((j : ℕ) → o ≡ Some j → x ≡ get_or xs j x → (erased slot xs ≡ take j xs ++ drop (suc j) xs) × (held_at slot xs ≡ Some x.what))
        → (cond b xs (y ∷ erased slot xs) ≡ take i (y ∷ xs) ++ drop (suc i) (y ∷ xs)) × (cond b (Some y.what) (held_at slot xs) ≡ Some x.what)
    by_slot true o f g h =
        let here : 0 ≡ i = cc in
        let same : x ≡ y = g ∙ ap (λ k. get_or (y ∷ xs) k x) (sym here) in
        (ap (λ k. take k (y ∷ xs) ++ drop (suc k) (y ∷ xs)) here, ap (λ (z : Await). Some z.what) (sym same))
    by_slot false None f g h = absurd (cc)
    by_slot false (Some j) f g h =
        let next : j + 1 ≡ i = cc in
        let same : suc j ≡ i = omega arith in
        let rest = h j refl (g ∙ ap (λ k. get_or (y ∷ xs) k x) (sym same)) in
        (ap (λ ys. y ∷ ys) rest.0 ∙ ap (λ k. take k (y ∷ xs) ++ drop (suc k) (y ∷ xs)) same, rest.1)

pub erased_at : (slot : ℕ) (xs : List Await) (i : ℕ) (x : Await) → index_awaited slot xs ≡ Some i → x ≡ get_or xs i x → erased slot xs ≡ take i xs ++ drop (suc i) xs
erased_at slot xs i x e is = (taken_at slot xs i x e is).0

pub held_here : (slot : ℕ) (xs : List Await) (i : ℕ) (x : Await) → index_awaited slot xs ≡ Some i → x ≡ get_or xs i x → held_at slot xs ≡ Some x.what
held_here slot xs i x e is = (taken_at slot xs i x e is).1
