-- What a promise holds after calls, and what calls on it are told.
use Rattle.std.specs.Prelude.{ℤ, ◌≤◌, Bool, true, false, List, [], ◌∷◌, ◌++◌, ◌≡◌, ◌==◌, Option, Some, None, is_some, length, take, refl, if◌then◌else◌}
use Rattle.std.proofs.Common.{ap, ◌∙◌}
use Rattle.hpx_calls.specs.Values.{is_number_or_text}
use Rattle.hpx_calls.specs.declared.content.Content.TheVariants.{Promise}
use Rattle.hpx_calls.specs.declared.request.Request.{Request}
use Rattle.hpx_calls.specs.declared.request.Request.TheVariants.{Move, Where, Set, Get, Put}
use Rattle.hpx_calls.specs.declared.effect.Called.{Called}
use Rattle.hpx_calls.specs.declared.effect.Effect.TheVariants.{Silent}
use Rattle.hpx_calls.specs.Tables.{is_first, leaves, sets, wrong}
use Rattle.hpx_calls.specs.Histories.{Setting, Object, Call, Told, own, each, next, still, tells, called_on, run, says}
use Rattle.hpx_lco.specs.Every.{wrong_says, promise_says}
use Rattle.hpx_calls.proofs.Steps.{told_on, where_told, move_told, managed_high, fixed_high}
use Rattle.hpx_lco.specs.Answered.{setting, or_else, first_set, joins_get, gets, set_says, get_says}
use Rattle.hpx_lco.proofs.Still.{object, call, same_where, same_move, either, told_either, joins_cut, is_full, drop_all, take_all}

-- those that wait: the first 7, until a value is set
abbrev pub held_back : {V W : Type 0} → Option V → List W → List W
held_back None ws = take 7 ws
held_back (Some v) ws = []

abbrev promise_at : {V W : Type 0} → Option V → List W → Object V W
promise_at o ws = object (Promise o) (held_back o ws)

get_step : {V W : Type 0} (g : Setting V) (ws : List W) (w : W)
    → next g (object (Promise None) (take 7 ws)) (call Get (Some w)) ≡ object (Promise None) (take 7 (ws ++ w ∷ []))
get_step g ws w =
    either (length (take 7 ws) == 7) _ _ (take 7 ws) (Some w) (λ b. object (Promise None) (if b then take 7 ws else take 7 ws ++ w ∷ [])) refl refl
    ∙ ap (object (Promise None)) (joins_cut 7 ws w)

-- what a value does that is set where a test holds
set_step : {V W : Type 0} (g : Setting V) (b : Bool) (ws : List W) (v : V) (w : Option W) (x y : Called V)
    → x.content ≡ Promise (Some v) → still x.effect (take 7 ws) w ≡ [] → object y.content (still y.effect (take 7 ws) w) ≡ object (Promise None) (take 7 ws)
    → object (if b then x else y).content (still (if b then x else y).effect (take 7 ws) w) ≡ promise_at (if b then Some v else None) ws
set_step g true ws v w x y p q h = let first = p in let second = q in cc
set_step g false ws v w x y p q h = h

promise_step : {V W : Type 0} (g : Setting V) (o : Option V) (ws : List W) (r : Request V) (w : Option W)
    → next g (promise_at o ws) (call r w) ≡ promise_at (or_else o (setting g.sort r)) (joins_get r ws w)
promise_step g None ws Where w = same_where g (Promise None) (take 7 ws) w
promise_step g None ws (Move to) w = same_move g (Promise None) to (take 7 ws) w
promise_step g None ws Get None = refl
promise_step g None ws Get (Some w) = get_step g ws w
promise_step g None ws (Put v) None = set_step g (is_number_or_text (g.sort.look v)) ws v None _ _ refl (drop_all (take 7 ws)) refl
promise_step g None ws (Put v) (Some w) = set_step g (is_number_or_text (g.sort.look v)) ws v (Some w) _ _ refl (drop_all (take 7 ws)) refl
promise_step g None ws (Set slot v) None = set_step g (is_first slot) ws v None _ _ refl (drop_all (take 7 ws)) refl
promise_step g None ws (Set slot v) (Some w) = set_step g (is_first slot) ws v (Some w) _ _ refl (drop_all (take 7 ws)) refl
promise_step g None ws _ None = refl
promise_step g None ws _ (Some w) = refl
promise_step g (Some u) ws Where w = same_where g (Promise (Some u)) [] w
promise_step g (Some u) ws (Move to) w = same_move g (Promise (Some u)) to [] w
promise_step g (Some u) ws (Put v) None = either (is_number_or_text (g.sort.look v)) _ _ [] None (λ b. object (Promise (Some u)) []) refl refl
promise_step g (Some u) ws (Put v) (Some w) = either (is_number_or_text (g.sort.look v)) _ _ [] (Some w) (λ b. object (Promise (Some u)) []) refl refl
promise_step g (Some u) ws (Set slot v) None = either (is_first slot) _ _ [] None (λ b. object (Promise (Some u)) []) refl refl
promise_step g (Some u) ws (Set slot v) (Some w) = either (is_first slot) _ _ [] (Some w) (λ b. object (Promise (Some u)) []) refl refl
promise_step g (Some u) ws _ None = refl
promise_step g (Some u) ws _ (Some w) = refl

-- after calls a promise holds the first value that was set, and before it the first 7 wait
pub promise_run : {V W : Type 0} (g : Setting V) (h : List (Call V W)) → run g (Promise None) h ≡ promise_at (first_set g.sort h) (gets h)
promise_run g [] = refl
promise_run g (c ∷ h) = ap (λ o. next g o c) (promise_run g h) ∙ promise_step g (first_set g.sort h) (gets h) c.request c.waiter

-- ---- what calls are told

abbrev freed : {V W : Type 0} → V → List W → Option W → V → List (Told V W)
freed v ws w answer = each v ws ++ own w answer

set_by : {V W : Type 0} (g : Setting V) (o : Option V) (ws : List W) (v : V) (w : Option W) (r : Request V)
    → (is_some w ≡ true → called_on g (promise_at o ws) (call r w) ≡ sets g.sort (length (held_back o ws)) o v)
    → (is_some w ≡ false → called_on g (promise_at o ws) (call r w) ≡ sets g.sort (length (held_back o ws)) o v)
    → tells g (called_on g (promise_at o ws) (call r w)).effect (held_back o ws) w ≡ set_says g.sort o ws v w
set_by g None ws v None r p q = ap (λ c. tells g c.effect (take 7 ws) None) (q refl) ∙ ap (λ us. freed v us None g.sort.nothing) (take_all (take 7 ws))
set_by g None ws v (Some w) r p q = ap (λ c. tells g c.effect (take 7 ws) (Some w)) (p refl) ∙ ap (λ us. freed v us (Some w) g.sort.nothing) (take_all (take 7 ws))
set_by g (Some u) ws v None r p q = ap (λ c. tells g c.effect [] None) (q refl)
set_by g (Some u) ws v (Some w) r p q = ap (λ c. tells g c.effect [] (Some w)) (p refl)

put_called : {V W : Type 0} (g : Setting V) (o : Option V) (ws : List W) (v : V) (w : Option W) → is_number_or_text (g.sort.look v) ≡ true
    → called_on g (promise_at o ws) (call (Put v) w) ≡ sets g.sort (length (held_back o ws)) o v
put_called g o ws v None e = ap (λ b. if b then sets g.sort (length (held_back o ws)) o v else wrong g.sort (Promise o)) e
put_called g o ws v (Some w) e = ap (λ b. if b then sets g.sort (length (held_back o ws)) o v else wrong g.sort (Promise o)) e

set_called : {V W : Type 0} (g : Setting V) (o : Option V) (ws : List W) (slot : ℤ) (v : V) (w : Option W) → is_first slot ≡ true
    → called_on g (promise_at o ws) (call (Set slot v) w) ≡ sets g.sort (length (held_back o ws)) o v
set_called g o ws slot v None e = ap (λ b. if b then sets g.sort (length (held_back o ws)) o v else leaves (Promise o) Silent) e
set_called g o ws slot v (Some w) e = ap (λ b. if b then sets g.sort (length (held_back o ws)) o v else leaves (Promise o) Silent) e

pub put_tells : {V W : Type 0} (g : Setting V) (h : List (Call V W)) (v : V) (w : Option W) → is_number_or_text (g.sort.look v) ≡ true
    → says g (Promise None) h (call (Put v) w) ≡ set_says g.sort (first_set g.sort h) (gets h) v w
put_tells g h v w e =
    ap (λ o. tells g (called_on g o (call (Put v) w)).effect o.waiting w) (promise_run g h)
    ∙ set_by g (first_set g.sort h) (gets h) v w (Put v) (λ f. put_called g (first_set g.sort h) (gets h) v w e) (λ f. put_called g (first_set g.sort h) (gets h) v w e)

pub set_tells : {V W : Type 0} (g : Setting V) (h : List (Call V W)) (slot : ℤ) (v : V) (w : Option W) → is_first slot ≡ true
    → says g (Promise None) h (call (Set slot v) w) ≡ set_says g.sort (first_set g.sort h) (gets h) v w
set_tells g h slot v w e =
    ap (λ o. tells g (called_on g o (call (Set slot v) w)).effect o.waiting w) (promise_run g h)
    ∙ set_by g (first_set g.sort h) (gets h) v w (Set slot v) (λ f. set_called g (first_set g.sort h) (gets h) slot v w e) (λ f. set_called g (first_set g.sort h) (gets h) slot v w e)

get_by : {V W : Type 0} (g : Setting V) (o : Option V) (ws : List W) (w : W)
    → tells g (called_on g (promise_at o ws) (call Get (Some w))).effect (held_back o ws) (Some w) ≡ get_says g.sort o ws (Some w)
get_by g (Some u) ws w = refl
get_by g None ws w =
    told_either g (length (take 7 ws) == 7) _ _ (take 7 ws) (Some w) (λ b. if b then own (Some w) (g.sort.fault 10) else []) refl refl
    ∙ ap (λ b. if b then own (Some w) (g.sort.fault 10) else []) (is_full 7 ws)

pub get_tells : {V W : Type 0} (g : Setting V) (h : List (Call V W)) (w : W)
    → says g (Promise None) h (call Get (Some w)) ≡ get_says g.sort (first_set g.sort h) (gets h) (Some w)
get_tells g h w =
    ap (λ o. tells g (called_on g o (call Get (Some w))).effect o.waiting (Some w)) (promise_run g h) ∙ get_by g (first_set g.sort h) (gets h) w

-- ---- every call

sets_told : {V W : Type 0} (g : Setting V) (o : Option V) (ws : List W) (v : V) (w : Option W)
    → tells g (sets g.sort (length (held_back o ws)) o v).effect (held_back o ws) w ≡ set_says g.sort o ws v w
sets_told g None ws v w = ap (λ us. freed v us w g.sort.nothing) (take_all (take 7 ws))
sets_told g (Some u) ws v w = refl

pub promise_tells : {V W : Type 0} (g : Setting V) (h : List (Call V W)) (r : Request V) (w : Option W) → 32 ≤ g.kind
    → says g (Promise None) h (call r w) ≡ promise_says g h r w
promise_tells {V} {W} g h r w high = ap (λ o. told_on g o (call r w)) (promise_run g h) ∙ by_request r w
  where
    o : Option V
    o = first_set g.sort h

    ws : List W
    ws = gets h

    by_request : (r : Request V) (w : Option W) → told_on g (promise_at o ws) (call r w) ≡ promise_says g h r w
    by_request Where w = where_told g (Promise o) (held_back o ws) w true (managed_high g.kind high)
    by_request (Move to) w = move_told g (Promise o) to (held_back o ws) w (fixed_high g.kind high)
    by_request Get None = refl
    by_request Get (Some w) = get_by g o ws w
    by_request (Put v) None =
        told_either g (is_number_or_text (g.sort.look v)) _ _ (held_back o ws) None (λ b. if b then set_says g.sort o ws v None else wrong_says g None) (sets_told g o ws v None) refl
    by_request (Put v) (Some w) =
        told_either g (is_number_or_text (g.sort.look v)) _ _ (held_back o ws) (Some w) (λ b. if b then set_says g.sort o ws v (Some w) else wrong_says g (Some w)) (sets_told g o ws v (Some w)) refl
    by_request (Set slot v) None =
        told_either g (is_first slot) _ _ (held_back o ws) None (λ b. if b then set_says g.sort o ws v None else []) (sets_told g o ws v None) refl
    by_request (Set slot v) (Some w) =
        told_either g (is_first slot) _ _ (held_back o ws) (Some w) (λ b. if b then set_says g.sort o ws v (Some w) else []) (sets_told g o ws v (Some w)) refl
    by_request _ None = refl
    by_request _ (Some w) = refl
