-- What a table holds after calls, and what calls on name services are told.
use Rattle.std.specs.Prelude.{ℕ, suc, pos, negsuc, Bool, true, false, nat_le, List, [], ◌∷◌, ◌++◌, ◌≡◌, ◌≤◌, ◌==◌, ◌&&◌, ◌||◌, Option, Some, None, codes, is_some, length, refl, if◌then◌else◌}
use Rattle.std.proofs.Common.{ap, sym, ◌∙◌}
use Rattle.std.specs.Str.{bytes_eq}
use Rattle.std.proofs.lemmas.Bool.{cond_both}
use Rattle.hpx_calls.specs.Values.{Sort, Look, Nothing, Flag, Int, Text, Ref, Fault, Ints}
use Rattle.hpx_calls.specs.declared.content.Pair.{Pair}
use Rattle.hpx_calls.specs.declared.content.Content.{Content}
use Rattle.hpx_calls.specs.declared.content.Content.TheVariants.{Table, Maker, Size, Number, Promise, Channel, Latch, Barrier}
use Rattle.hpx_calls.specs.declared.request.Request.{Request}
use Rattle.hpx_calls.specs.declared.request.Request.TheVariants.{Move, Where, Register, Resolve, Unregister, Keys, New, Count}
use Rattle.hpx_calls.specs.declared.effect.Called.{Called}
use Rattle.hpx_calls.specs.Contents.{precedes, rises_from, count_in}
use Rattle.hpx_calls.specs.Tables.{found, added, removed, listed, registers, unregisters, resolves, makes, makes_bare, makes_at, makes_counted, makes_row, with_one}
use Rattle.hpx_calls.specs.Histories.{Setting, Call, own, next, still, tells, called_on, run, says}
use Rattle.hpx_calls.proofs.Steps.{object, call, either, told_either, same_where, same_move, told_on, where_told, move_told, root_low, fixed_low}
use Rattle.hpx_calls.proofs.Orders.{bytes_same, bytes_differ, found_added, is_sorted, sorted_added, sorted_removed, sorted_found}
use Rattle.hpx_names.specs.Every.{table_says, maker_says, size_says}
use Rattle.hpx_names.specs.Maps.{has, with_key, without_key, keys_after, keys, stands_after, stands_for, in_order_from, in_order, spaced, register_answer, resolve_answer, unregister_answer, is_empty, is_within, is_row, is_one, shape_under, new_answer}

-- ---- the pairs after calls

abbrev add_free : {V : Type 0} → List (Pair V) → List ℕ → V → Option V → List (Pair V)
add_free xs key to (Some old) = xs
add_free xs key to None = if length xs == 100 then xs else added key to xs

abbrev take_out : {V : Type 0} → List (Pair V) → List ℕ → Option V → List (Pair V)
take_out xs key None = xs
take_out xs key (Some old) = removed key xs

abbrev pairs_after : {V : Type 0} → Request V → List (Pair V) → List (Pair V)
pairs_after (Register key to) xs = add_free xs key to (found key xs)
pairs_after (Unregister key) xs = take_out xs key (found key xs)
pairs_after _ xs = xs

abbrev pairs_of : {V W : Type 0} → List (Call V W) → List (Pair V)
pairs_of [] = []
pairs_of (c ∷ h) = pairs_after c.request (pairs_of h)

register_step : {V W : Type 0} (k : Sort V) (xs : List (Pair V)) (key : List ℕ) (to : V) (o : Option V) (w : Option W)
    → object (registers k xs key to o).content (still (registers k xs key to o).effect [] w) ≡ object (Table (add_free xs key to o)) []
register_step k xs key to (Some old) w = refl
register_step k xs key to None w = either (length xs == 100) _ _ [] w (λ b. object (Table (if b then xs else added key to xs)) []) refl refl

unregister_step : {V W : Type 0} (k : Sort V) (xs : List (Pair V)) (key : List ℕ) (o : Option V) (w : Option W)
    → object (unregisters k xs key o).content (still (unregisters k xs key o).effect [] w) ≡ object (Table (take_out xs key o)) []
unregister_step k xs key None w = refl
unregister_step k xs key (Some old) w = refl

resolve_step : {V W : Type 0} (k : Sort V) (xs : List (Pair V)) (o : Option V) (w : Option W) → object (resolves k xs o).content (still (resolves k xs o).effect [] w) ≡ object (Table xs) []
resolve_step k xs None w = refl
resolve_step k xs (Some old) w = refl

table_step : {V W : Type 0} (g : Setting V) (xs : List (Pair V)) (r : Request V) (w : Option W) → next g (object (Table xs) []) (call r w) ≡ object (Table (pairs_after r xs)) []
table_step g xs Where w = same_where g (Table xs) [] w
table_step g xs (Move to) w = same_move g (Table xs) to [] w
table_step g xs (Register key to) None = register_step g.sort xs key to (found key xs) None
table_step g xs (Register key to) (Some w) = register_step g.sort xs key to (found key xs) (Some w)
table_step g xs (Unregister key) None = unregister_step g.sort xs key (found key xs) None
table_step g xs (Unregister key) (Some w) = unregister_step g.sort xs key (found key xs) (Some w)
table_step g xs (Resolve key) None = resolve_step g.sort xs (found key xs) None
table_step g xs (Resolve key) (Some w) = resolve_step g.sort xs (found key xs) (Some w)
table_step g xs _ None = refl
table_step g xs _ (Some w) = refl

table_run : {V W : Type 0} (g : Setting V) (h : List (Call V W)) → run g (Table []) h ≡ object (Table (pairs_of h)) []
table_run g [] = refl
table_run g (c ∷ h) = ap (λ o. next g o c) (table_run g h) ∙ table_step g (pairs_of h) c.request c.waiter

-- ---- they are in order, each key once

add_sorted : {V : Type 0} (xs : List (Pair V)) (key : List ℕ) (to : V) (o : Option V) → is_sorted xs ≡ true → found key xs ≡ o → is_sorted (add_free xs key to o) ≡ true
add_sorted xs key to (Some old) h e = h
add_sorted xs key to None h e = cond_both (length xs == 100) _ _ (λ ys. is_sorted ys ≡ true) (λ f. h) (λ f. sorted_added key to xs h e)

out_sorted : {V : Type 0} (xs : List (Pair V)) (key : List ℕ) (o : Option V) → is_sorted xs ≡ true → is_sorted (take_out xs key o) ≡ true
out_sorted xs key None h = h
out_sorted xs key (Some old) h = sorted_removed key xs h

after_sorted : {V : Type 0} (r : Request V) (xs : List (Pair V)) → is_sorted xs ≡ true → is_sorted (pairs_after r xs) ≡ true
after_sorted (Register key to) xs h = add_sorted xs key to (found key xs) h refl
after_sorted (Unregister key) xs h = out_sorted xs key (found key xs) h
after_sorted _ xs h = h

pairs_sorted : {V W : Type 0} (h : List (Call V W)) → is_sorted (pairs_of h) ≡ true
pairs_sorted [] = refl
pairs_sorted (c ∷ h) = after_sorted c.request (pairs_of h) (pairs_sorted h)

-- ---- the keys

abbrev keys_of : {V : Type 0} → List (Pair V) → List (List ℕ)
keys_of [] = []
keys_of (x ∷ xs) = x.key ∷ keys_of xs

length_keys : {V : Type 0} (xs : List (Pair V)) → length (keys_of xs) ≡ length xs
length_keys [] = refl
length_keys (x ∷ xs) = ap suc (length_keys xs)

has_found : {V : Type 0} (key : List ℕ) (xs : List (Pair V)) → has key (keys_of xs) ≡ is_some (found key xs)
has_found key [] = refl
has_found key (x ∷ xs) = by_test (bytes_eq key x.key) (has_found key xs)
  where
    by_test : (b : Bool) → has key (keys_of xs) ≡ is_some (found key xs) → (b || has key (keys_of xs)) ≡ is_some (if b then Some x.to else found key xs)
    by_test true e = refl
    by_test false e = e

keys_added : {V : Type 0} (key : List ℕ) (to : V) (xs : List (Pair V)) → keys_of (added key to xs) ≡ with_key key (keys_of xs)
keys_added key to [] = refl
keys_added key to (x ∷ xs) = by_test (precedes key x.key) (keys_added key to xs)
  where
    by_test : (b : Bool) → keys_of (added key to xs) ≡ with_key key (keys_of xs)
        → keys_of (if b then record { key = key; to = to } ∷ x ∷ xs else x ∷ added key to xs) ≡ (if b then key ∷ x.key ∷ keys_of xs else x.key ∷ with_key key (keys_of xs))
    by_test true e = refl
    by_test false e = ap (λ ks. x.key ∷ ks) e

keys_removed : {V : Type 0} (key : List ℕ) (xs : List (Pair V)) → keys_of (removed key xs) ≡ without_key key (keys_of xs)
keys_removed key [] = refl
keys_removed key (x ∷ xs) = by_test (bytes_eq key x.key) (keys_removed key xs)
  where
    by_test : (b : Bool) → keys_of (removed key xs) ≡ without_key key (keys_of xs) → keys_of (if b then xs else x ∷ removed key xs) ≡ (if b then keys_of xs else x.key ∷ without_key key (keys_of xs))
    by_test true e = refl
    by_test false e = ap (λ ks. x.key ∷ ks) e

removed_none : {V : Type 0} (key : List ℕ) (xs : List (Pair V)) → found key xs ≡ None → removed key xs ≡ xs
removed_none key [] e = refl
removed_none key (x ∷ xs) e = by_test (bytes_eq key x.key) e (removed_none key xs)
  where
    by_test : (b : Bool) → (if b then Some x.to else found key xs) ≡ None → (found key xs ≡ None → removed key xs ≡ xs) → (if b then xs else x ∷ removed key xs) ≡ x ∷ xs
    by_test true f rest = absurd (cc)
    by_test false f rest = ap (λ ys. x ∷ ys) (rest f)

add_keys : {V : Type 0} (xs : List (Pair V)) (key : List ℕ) (to : V) (o : Option V)
    → keys_of (add_free xs key to o) ≡ (if is_some o then keys_of xs else if length xs == 100 then keys_of xs else with_key key (keys_of xs))
add_keys xs key to (Some old) = refl
add_keys xs key to None = by_test (length xs == 100)
  where
    by_test : (b : Bool) → keys_of (if b then xs else added key to xs) ≡ (if b then keys_of xs else with_key key (keys_of xs))
    by_test true = refl
    by_test false = keys_added key to xs

out_keys : {V : Type 0} (xs : List (Pair V)) (key : List ℕ) (o : Option V) → found key xs ≡ o → keys_of (take_out xs key o) ≡ without_key key (keys_of xs)
out_keys xs key None e = ap keys_of (sym (removed_none key xs e)) ∙ keys_removed key xs
out_keys xs key (Some old) e = keys_removed key xs

after_keys : {V : Type 0} (r : Request V) (xs : List (Pair V)) → keys_of (pairs_after r xs) ≡ keys_after r (keys_of xs)
after_keys (Register key to) xs =
    add_keys xs key to (found key xs)
    ∙ ap (λ (b : Bool). if b then keys_of xs else if length xs == 100 then keys_of xs else with_key key (keys_of xs)) (sym (has_found key xs))
    ∙ ap (λ m. if has key (keys_of xs) then keys_of xs else if m == 100 then keys_of xs else with_key key (keys_of xs)) (sym (length_keys xs))
after_keys (Unregister key) xs = out_keys xs key (found key xs) refl
after_keys _ xs = refl

keys_are : {V W : Type 0} (h : List (Call V W)) → keys_of (pairs_of h) ≡ keys h
keys_are [] = refl
keys_are (c ∷ h) = after_keys c.request (pairs_of h) ∙ ap (keys_after c.request) (keys_are h)

-- ---- what a key stands for

-- a key that is found is another one, or stands for what it stands for
other_key : {V : Type 0} (key at : List ℕ) (xs : List (Pair V)) (old : V) → found at xs ≡ None → found key xs ≡ Some old → bytes_eq at key ≡ false
other_key key at xs old none some = bytes_differ at key (λ same. clash (sym none ∙ ap (λ k. found k xs) same ∙ some))
  where
    clash : None ≡ Some old → ⊥
    clash e = cc

same_both : {X : Type 0} (b : Bool) (o : Option X) → o ≡ (if b then o else o)
same_both true o = refl
same_both false o = refl

add_stands : {V : Type 0} (key at : List ℕ) (to : V) (xs : List (Pair V)) (o p : Option V) → found key xs ≡ o → found at xs ≡ p
    → found at (add_free xs key to o) ≡ stands_after (Register key to) at (length xs) p
add_stands key at to xs (Some old) (Some v) e f = f
add_stands key at to xs (Some old) None e f =
    f ∙ ap (λ (b : Bool). if b then (if length xs == 100 then None else Some to) else None) (sym (other_key key at xs old f e))
add_stands {V} key at to xs None (Some v) e f =
    cond_both (length xs == 100) _ _ (λ ys. found at ys ≡ Some v) (λ g. f)
    (λ g. found_added key at to xs e ∙ ap (λ (b : Bool). if b then Some to else found at xs) (other_side v f) ∙ f)
  where
    other_side : (v : V) → found at xs ≡ Some v → bytes_eq at key ≡ false
    other_side v f = bytes_differ at key (λ same. clash (sym e ∙ ap (λ k. found k xs) (sym same) ∙ f))
      where
        clash : None ≡ Some v → ⊥
        clash e = cc
add_stands key at to xs None None e f = by_test (length xs == 100)
  where
    by_test : (b : Bool) → found at (if b then xs else added key to xs) ≡ (if bytes_eq at key then (if b then None else Some to) else None)
    by_test true = f ∙ same_both (bytes_eq at key) None
    by_test false = found_added key at to xs e ∙ ap (λ o. if bytes_eq at key then Some to else o) f

out_stands : {V : Type 0} (key at : List ℕ) (xs : List (Pair V)) (o : Option V) → is_sorted xs ≡ true → found key xs ≡ o → found at (take_out xs key o) ≡ (if bytes_eq at key then None else found at xs)
out_stands key at xs (Some old) h e = sorted_found key at xs h
out_stands key at xs None h e = by_test (bytes_eq at key) refl
  where
    by_test : (b : Bool) → bytes_eq at key ≡ b → found at xs ≡ (if b then None else found at xs)
    by_test true f = ap (λ k. found k xs) (bytes_same at key f) ∙ e
    by_test false f = refl

after_stands : {V : Type 0} (r : Request V) (xs : List (Pair V)) (at : List ℕ) → is_sorted xs ≡ true → found at (pairs_after r xs) ≡ stands_after r at (length xs) (found at xs)
after_stands (Register key to) xs at h = add_stands key at to xs (found key xs) (found at xs) refl refl
after_stands (Unregister key) xs at h = out_stands key at xs (found key xs) h refl
after_stands _ xs at h = refl

stands_are : {V W : Type 0} (h : List (Call V W)) (at : List ℕ) → found at (pairs_of h) ≡ stands_for h at
stands_are [] at = refl
stands_are (c ∷ h) at =
    after_stands c.request (pairs_of h) at (pairs_sorted h)
    ∙ ap (λ m. stands_after c.request at m (found at (pairs_of h))) (sym (length_keys (pairs_of h)) ∙ ap length (keys_are h))
    ∙ ap (stands_after c.request at (length (keys h))) (stands_are h at)

pub keys_same : {V W : Type 0} (h : List (Call V W)) (key : List ℕ) → has key (keys h) ≡ is_some (stands_for h key)
keys_same h key = ap (has key) (sym (keys_are h)) ∙ has_found key (pairs_of h) ∙ ap is_some (stands_are h key)

order_from : {V : Type 0} (key : List ℕ) (xs : List (Pair V)) → in_order_from key (keys_of xs) ≡ rises_from key xs
order_from key [] = refl
order_from key (x ∷ xs) = ap (λ b. precedes key x.key && b) (order_from x.key xs)

order_of : {V : Type 0} (xs : List (Pair V)) → in_order (keys_of xs) ≡ is_sorted xs
order_of [] = refl
order_of (x ∷ xs) = order_from x.key xs

pub keys_in_order : {V W : Type 0} (h : List (Call V W)) → in_order (keys h) ≡ true
keys_in_order h = ap in_order (sym (keys_are h)) ∙ order_of (pairs_of h) ∙ pairs_sorted h

spaced_listed : {V : Type 0} (xs : List (Pair V)) → listed xs ≡ spaced (keys_of xs)
spaced_listed [] = refl
spaced_listed (x ∷ []) = refl
spaced_listed (x ∷ y ∷ xs) = ap (λ text. x.key ++ 32 ∷ text) (spaced_listed (y ∷ xs))

-- ---- what calls are told

register_told : {V W : Type 0} (g : Setting V) (xs : List (Pair V)) (key : List ℕ) (to : V) (o : Option V) (w : Option W)
    → tells g (registers g.sort xs key to o).effect [] w ≡ own w (register_answer g.sort o (length xs))
register_told g xs key to (Some old) w = refl
register_told g xs key to None w = told_either g (length xs == 100) _ _ [] w (λ b. own w (if b then g.sort.fault 10 else g.sort.nothing)) refl refl

pub register_tells : {V W : Type 0} (g : Setting V) (h : List (Call V W)) (key : List ℕ) (to : V) (w : Option W)
    → says g (Table []) h (call (Register key to) w) ≡ own w (register_answer g.sort (stands_for h key) (length (keys h)))
register_tells {V} {W} g h key to w =
    ap (λ o. tells g (called_on g o (call (Register key to) w)).effect o.waiting w) (table_run g h) ∙ by_waiter w
    ∙ ap (λ o. own w (register_answer g.sort o (length (pairs_of h)))) (stands_are h key)
    ∙ ap (λ m. own w (register_answer g.sort (stands_for h key) m)) (sym (length_keys (pairs_of h)) ∙ ap length (keys_are h))
  where
    by_waiter : (w : Option W) → tells g (called_on g (object (Table (pairs_of h)) []) (call (Register key to) w)).effect [] w ≡ own w (register_answer g.sort (found key (pairs_of h)) (length (pairs_of h)))
    by_waiter None = register_told g (pairs_of h) key to (found key (pairs_of h)) None
    by_waiter (Some w) = register_told g (pairs_of h) key to (found key (pairs_of h)) (Some w)

resolve_told : {V W : Type 0} (g : Setting V) (xs : List (Pair V)) (o : Option V) (w : Option W) → tells g (resolves g.sort xs o).effect [] w ≡ own w (resolve_answer g.sort o)
resolve_told g xs None w = refl
resolve_told g xs (Some to) w = refl

pub resolve_tells : {V W : Type 0} (g : Setting V) (h : List (Call V W)) (key : List ℕ) (w : Option W)
    → says g (Table []) h (call (Resolve key) w) ≡ own w (resolve_answer g.sort (stands_for h key))
resolve_tells {V} {W} g h key w =
    ap (λ o. tells g (called_on g o (call (Resolve key) w)).effect o.waiting w) (table_run g h) ∙ by_waiter w ∙ ap (λ o. own w (resolve_answer g.sort o)) (stands_are h key)
  where
    by_waiter : (w : Option W) → tells g (called_on g (object (Table (pairs_of h)) []) (call (Resolve key) w)).effect [] w ≡ own w (resolve_answer g.sort (found key (pairs_of h)))
    by_waiter None = resolve_told g (pairs_of h) (found key (pairs_of h)) None
    by_waiter (Some w) = resolve_told g (pairs_of h) (found key (pairs_of h)) (Some w)

unregister_told : {V W : Type 0} (g : Setting V) (xs : List (Pair V)) (key : List ℕ) (o : Option V) (w : Option W) → tells g (unregisters g.sort xs key o).effect [] w ≡ own w (unregister_answer g.sort o)
unregister_told g xs key None w = refl
unregister_told g xs key (Some to) w = refl

pub unregister_tells : {V W : Type 0} (g : Setting V) (h : List (Call V W)) (key : List ℕ) (w : Option W)
    → says g (Table []) h (call (Unregister key) w) ≡ own w (unregister_answer g.sort (stands_for h key))
unregister_tells {V} {W} g h key w =
    ap (λ o. tells g (called_on g o (call (Unregister key) w)).effect o.waiting w) (table_run g h) ∙ by_waiter w ∙ ap (λ o. own w (unregister_answer g.sort o)) (stands_are h key)
  where
    by_waiter : (w : Option W) → tells g (called_on g (object (Table (pairs_of h)) []) (call (Unregister key) w)).effect [] w ≡ own w (unregister_answer g.sort (found key (pairs_of h)))
    by_waiter None = unregister_told g (pairs_of h) key (found key (pairs_of h)) None
    by_waiter (Some w) = unregister_told g (pairs_of h) key (found key (pairs_of h)) (Some w)

pub list_tells : {V W : Type 0} (g : Setting V) (h : List (Call V W)) (w : Option W) → says g (Table []) h (call Keys w) ≡ own w (g.sort.text (spaced (keys h)))
list_tells {V} {W} g h w =
    ap (λ o. tells g (called_on g o (call Keys w)).effect o.waiting w) (table_run g h) ∙ by_waiter w
    ∙ ap (λ text. own w (g.sort.text text)) (spaced_listed (pairs_of h) ∙ ap spaced (keys_are h))
  where
    by_waiter : (w : Option W) → tells g (called_on g (object (Table (pairs_of h)) []) (call Keys w)).effect [] w ≡ own w (g.sort.text (listed (pairs_of h)))
    by_waiter None = refl
    by_waiter (Some w) = refl

-- ---- components and localities

bare_told : {V W : Type 0} (g : Setting V) (x : Content V) (vs : List V) (w : Option W) → tells g (makes_bare g.sort x vs).effect [] w ≡ own w (new_answer g.sort g.made (Some (is_empty vs)))
bare_told g x [] w = refl
bare_told g x (v ∷ vs) w = refl

at_told : {V W : Type 0} (g : Setting V) (f : ℕ → Content V) (most n : ℕ) (w : Option W)
    → tells g (makes_at g.sort f (if nat_le n most then Some n else None)).effect [] w ≡ own w (new_answer g.sort g.made (Some (nat_le 1 n && nat_le n most)))
at_told g f most n w = by_tests (nat_le 1 n) (nat_le n most) refl
  where
    by_tests : (a b : Bool) → nat_le 1 n ≡ a → tells g (makes_at g.sort f (if b then Some n else None)).effect [] w ≡ own w (new_answer g.sort g.made (Some (a && b)))
    by_tests true true e = rw e refl
    by_tests true false e = refl
    by_tests false true e = rw e refl
    by_tests false false e = refl

look_told : {V W : Type 0} (g : Setting V) (most : ℕ) (f : ℕ → Content V) (l : Look) (w : Option W)
    → tells g (makes_counted g.sort most f l).effect [] w ≡ own w (new_answer g.sort g.made (Some (is_within most l)))
look_told g most f (Int (pos n)) w = at_told g f most n w
look_told g most f (Int (negsuc n)) w = refl
look_told g most f Nothing w = refl
look_told g most f (Flag b) w = refl
look_told g most f (Text t) w = refl
look_told g most f (Ref r) w = refl
look_told g most f (Fault c) w = refl
look_told g most f (Ints zs) w = refl

counted_told : {V W : Type 0} (g : Setting V) (most : ℕ) (f : ℕ → Content V) (vs : List V) (w : Option W)
    → tells g (with_one g.sort (makes_counted g.sort most f) vs).effect [] w ≡ own w (new_answer g.sort g.made (Some (is_one g.sort (is_within most) vs)))
counted_told g most f [] w = refl
counted_told g most f (v ∷ []) w = look_told g most f (g.sort.look v) w
counted_told g most f (v ∷ u ∷ vs) w = refl

row_look : {V W : Type 0} (g : Setting V) (l : Look) (w : Option W) → tells g (makes_row g.sort l).effect [] w ≡ own w (new_answer g.sort g.made (Some (is_row l)))
row_look g (Ints zs) w = told_either g (nat_le 1 (length zs) && nat_le (length zs) 1024) _ _ [] w (λ b. own w (new_answer g.sort g.made (Some b))) refl refl
row_look g (Int z) w = refl
row_look g Nothing w = refl
row_look g (Flag b) w = refl
row_look g (Text t) w = refl
row_look g (Ref r) w = refl
row_look g (Fault c) w = refl

row_told : {V W : Type 0} (g : Setting V) (vs : List V) (w : Option W) → tells g (with_one g.sort (makes_row g.sort) vs).effect [] w ≡ own w (new_answer g.sort g.made (Some (is_one g.sort is_row vs)))
row_told g [] w = refl
row_told g (v ∷ []) w = row_look g (g.sort.look v) w
row_told g (v ∷ u ∷ vs) w = refl

-- a test that says which is made, and which shape it has
new_either : {V W : Type 0} (g : Setting V) (w : Option W) (b : Bool) (x y : Called V) (o p : Option Bool) → tells g x.effect [] w ≡ own w (new_answer g.sort g.made o)
    → tells g y.effect [] w ≡ own w (new_answer g.sort g.made p) → tells g (if b then x else y).effect [] w ≡ own w (new_answer g.sort g.made (if b then o else p))
new_either g w true x y o p h i = h
new_either g w false x y o p h i = i

makes_told : {V W : Type 0} (g : Setting V) (name : List ℕ) (vs : List V) (w : Option W) → tells g (makes g.sort name vs).effect [] w ≡ own w (new_answer g.sort g.made (shape_under g.sort name vs))
makes_told g name vs w =
    new_either g w (bytes_eq name (codes "accumulator")) _ _ _ _ (bare_told g (Number (pos 0)) vs w)
    (new_either g w (bytes_eq name (codes "partition")) _ _ _ _ (row_told g vs w)
    (new_either g w (bytes_eq name (codes "promise")) _ _ _ _ (bare_told g (Promise None) vs w)
    (new_either g w (bytes_eq name (codes "channel")) _ _ _ _ (bare_told g (Channel false []) vs w)
    (new_either g w (bytes_eq name (codes "latch")) _ _ _ _ (counted_told g 1000000 Latch vs w)
    (new_either g w (bytes_eq name (codes "barrier")) _ _ _ _ (counted_told g 100 Barrier vs w) refl)))))

-- components stay as they are
abbrev Stays : {V W : Type 0} → Option W → Called V → Type 0
Stays {V} {W} w c = object c.content (still c.effect [] w) ≡ object Maker []

stays_if : {V W : Type 0} (w : Option W) (b : Bool) (x y : Called V) → Stays w x → Stays w y → Stays w (if b then x else y)
stays_if w true x y p q = p
stays_if w false x y p q = q

bare_stays : {V W : Type 0} (k : Sort V) (x : Content V) (vs : List V) (w : Option W) → Stays w (makes_bare k x vs)
bare_stays k x [] w = refl
bare_stays k x (v ∷ vs) w = refl

at_stays : {V W : Type 0} (k : Sort V) (f : ℕ → Content V) (o : Option ℕ) (w : Option W) → Stays w (makes_at k f o)
at_stays k f None w = refl
at_stays k f (Some n) w = stays_if w (nat_le 1 n) _ _ refl refl

look_stays : {V W : Type 0} (k : Sort V) (most : ℕ) (f : ℕ → Content V) (l : Look) (w : Option W) → Stays w (makes_counted k most f l)
look_stays k most f (Int z) w = at_stays k f (count_in most z) w
look_stays k most f Nothing w = refl
look_stays k most f (Flag b) w = refl
look_stays k most f (Text t) w = refl
look_stays k most f (Ref r) w = refl
look_stays k most f (Fault c) w = refl
look_stays k most f (Ints zs) w = refl

row_stays : {V W : Type 0} (k : Sort V) (l : Look) (w : Option W) → Stays w (makes_row k l)
row_stays k (Ints zs) w = stays_if w (nat_le 1 (length zs) && nat_le (length zs) 1024) _ _ refl refl
row_stays k (Int z) w = refl
row_stays k Nothing w = refl
row_stays k (Flag b) w = refl
row_stays k (Text t) w = refl
row_stays k (Ref r) w = refl
row_stays k (Fault c) w = refl

one_stays : {V W : Type 0} (k : Sort V) (f : Look → Called V) (vs : List V) (w : Option W) → ((l : Look) → Stays w (f l)) → Stays w (with_one k f vs)
one_stays k f [] w h = refl
one_stays k f (v ∷ []) w h = h (k.look v)
one_stays k f (v ∷ u ∷ vs) w h = refl

makes_stays : {V W : Type 0} (k : Sort V) (name : List ℕ) (vs : List V) (w : Option W) → Stays w (makes k name vs)
makes_stays k name vs w =
    stays_if w (bytes_eq name (codes "accumulator")) _ _ (bare_stays k (Number (pos 0)) vs w)
    (stays_if w (bytes_eq name (codes "partition")) _ _ (one_stays k (makes_row k) vs w (λ l. row_stays k l w))
    (stays_if w (bytes_eq name (codes "promise")) _ _ (bare_stays k (Promise None) vs w)
    (stays_if w (bytes_eq name (codes "channel")) _ _ (bare_stays k (Channel false []) vs w)
    (stays_if w (bytes_eq name (codes "latch")) _ _ (one_stays k (makes_counted k 1000000 Latch) vs w (λ l. look_stays k 1000000 Latch l w))
    (stays_if w (bytes_eq name (codes "barrier")) _ _ (one_stays k (makes_counted k 100 Barrier) vs w (λ l. look_stays k 100 Barrier l w)) refl)))))

maker_step : {V W : Type 0} (g : Setting V) (r : Request V) (w : Option W) → next g (object Maker []) (call r w) ≡ object Maker []
maker_step g Where w = same_where g Maker [] w
maker_step g (Move to) w = same_move g Maker to [] w
maker_step g (New name vs) None = makes_stays g.sort name vs None
maker_step g (New name vs) (Some w) = makes_stays g.sort name vs (Some w)
maker_step g _ None = refl
maker_step g _ (Some w) = refl

pub maker_run : {V W : Type 0} (g : Setting V) (h : List (Call V W)) → run g Maker h ≡ object Maker []
maker_run g [] = refl
maker_run g (c ∷ h) = ap (λ o. next g o c) (maker_run g h) ∙ maker_step g c.request c.waiter

pub new_tells : {V W : Type 0} (g : Setting V) (h : List (Call V W)) (name : List ℕ) (vs : List V) (w : Option W)
    → says g Maker h (call (New name vs) w) ≡ own w (new_answer g.sort g.made (shape_under g.sort name vs))
new_tells {V} {W} g h name vs w = ap (λ o. tells g (called_on g o (call (New name vs) w)).effect o.waiting w) (maker_run g h) ∙ by_waiter w
  where
    by_waiter : (w : Option W) → tells g (called_on g (object Maker []) (call (New name vs) w)).effect [] w ≡ own w (new_answer g.sort g.made (shape_under g.sort name vs))
    by_waiter None = makes_told g name vs None
    by_waiter (Some w) = makes_told g name vs (Some w)

size_step : {V W : Type 0} (g : Setting V) (n : ℕ) (r : Request V) (w : Option W) → next g (object (Size n) []) (call r w) ≡ object (Size n) []
size_step g n Where w = same_where g (Size n) [] w
size_step g n (Move to) w = same_move g (Size n) to [] w
size_step g n Count None = refl
size_step g n Count (Some w) = refl
size_step g n _ None = refl
size_step g n _ (Some w) = refl

size_run : {V W : Type 0} (g : Setting V) (n : ℕ) (h : List (Call V W)) → run g (Size n) h ≡ object (Size n) []
size_run g n [] = refl
size_run g n (c ∷ h) = ap (λ o. next g o c) (size_run g n h) ∙ size_step g n c.request c.waiter

pub count_tells : {V W : Type 0} (g : Setting V) (n : ℕ) (h : List (Call V W)) (w : Option W) → says g (Size n) h (call Count w) ≡ own w (g.sort.int (pos n))
count_tells {V} {W} g n h w = ap (λ o. tells g (called_on g o (call Count w)).effect o.waiting w) (size_run g n h) ∙ by_waiter w
  where
    by_waiter : (w : Option W) → tells g (called_on g (object (Size n) []) (call Count w)).effect [] w ≡ own w (g.sort.int (pos n))
    by_waiter None = refl
    by_waiter (Some w) = refl

-- ---- every call

pub table_tells : {V W : Type 0} (g : Setting V) (h : List (Call V W)) (r : Request V) (w : Option W) → g.kind ≤ 15
    → says g (Table []) h (call r w) ≡ table_says g h r w
table_tells {V} {W} g h r w low = ap (λ o. told_on g o (call r w)) (table_run g h) ∙ by_request r w
  where
    back : (c : Call V W) → told_on g (object (Table (pairs_of h)) []) c ≡ says g (Table []) h c
    back c = sym (ap (λ o. told_on g o c) (table_run g h))

    by_request : (r : Request V) (w : Option W) → told_on g (object (Table (pairs_of h)) []) (call r w) ≡ table_says g h r w
    by_request (Register key to) w = back (call (Register key to) w) ∙ register_tells g h key to w
    by_request (Resolve key) w = back (call (Resolve key) w) ∙ resolve_tells g h key w
    by_request (Unregister key) w = back (call (Unregister key) w) ∙ unregister_tells g h key w
    by_request Keys w = back (call Keys w) ∙ list_tells g h w
    by_request Where w = where_told g (Table (pairs_of h)) [] w false (root_low g.kind low)
    by_request (Move to) w = move_told g (Table (pairs_of h)) to [] w (fixed_low g.kind low)
    by_request _ None = refl
    by_request _ (Some w) = refl

pub maker_tells : {V W : Type 0} (g : Setting V) (h : List (Call V W)) (r : Request V) (w : Option W) → g.kind ≤ 15
    → says g Maker h (call r w) ≡ maker_says g r w
maker_tells {V} {W} g h r w low = ap (λ o. told_on g o (call r w)) (maker_run g h) ∙ by_request r w
  where
    by_request : (r : Request V) (w : Option W) → told_on g (object Maker []) (call r w) ≡ maker_says g r w
    by_request (New name vs) w = sym (ap (λ o. told_on g o (call (New name vs) w)) (maker_run g h)) ∙ new_tells g h name vs w
    by_request Where w = where_told g Maker [] w false (root_low g.kind low)
    by_request (Move to) w = move_told g Maker to [] w (fixed_low g.kind low)
    by_request _ None = refl
    by_request _ (Some w) = refl

pub size_tells : {V W : Type 0} (g : Setting V) (n : ℕ) (h : List (Call V W)) (r : Request V) (w : Option W) → g.kind ≤ 15
    → says g (Size n) h (call r w) ≡ size_says g n r w
size_tells {V} {W} g n h r w low = ap (λ o. told_on g o (call r w)) (size_run g n h) ∙ by_request r w
  where
    by_request : (r : Request V) (w : Option W) → told_on g (object (Size n) []) (call r w) ≡ size_says g n r w
    by_request Count None = refl
    by_request Count (Some w) = refl
    by_request Where w = where_told g (Size n) [] w false (root_low g.kind low)
    by_request (Move to) w = move_told g (Size n) to [] w (fixed_low g.kind low)
    by_request _ None = refl
    by_request _ (Some w) = refl
