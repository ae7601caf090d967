-- What a latch holds after calls, and what calls on it are told.
use Rattle.std.specs.Prelude.{ℕ, zero, suc, Bool, true, false, nat_le, List, [], ◌∷◌, ◌++◌, ◌+◌, ◌-◌, ◌≡◌, ◌≤◌, ◌==◌, Option, Some, None, length, take, refl, if◌then◌else◌}
use Rattle.std.proofs.Common.{ap, ◌∙◌, arith}
use Rattle.std.proofs.lemmas.Bool.{le-leb, lt-leb, eq-eqb, ne_eqb, eqb-true, eqb-false}
use Rattle.hpx_calls.specs.Values.{Sort}
use Rattle.hpx_calls.specs.declared.content.Content.TheVariants.{Latch}
use Rattle.hpx_calls.specs.declared.request.Request.{Request}
use Rattle.hpx_calls.specs.declared.request.Request.TheVariants.{Move, Where, Down, Wait}
use Rattle.hpx_calls.specs.Histories.{Setting, Object, Call, Told, own, each, joined, next, tells, called_on, run, says}
use Rattle.hpx_lco.specs.Every.{latch_says}
use Rattle.hpx_calls.proofs.Steps.{told_on, where_told, move_told, managed_high, fixed_high}
use Rattle.hpx_lco.specs.Answered.{down_count, downs, joins_wait, waits, down_says, wait_says}
use Rattle.hpx_lco.proofs.Still.{object, call, same_where, same_move, either, told_either, same_test, joins_cut, is_full, drop_all, take_all}

-- those that wait: the first 100, while DOWNs are left
abbrev pub held_back : {W : Type 0} → ℕ → List W → List W
held_back left ws = if left == 0 then [] else take 100 ws

abbrev pub latch_at : {V W : Type 0} → ℕ → List W → Object V W
latch_at left ws = object (Latch left) (held_back left ws)

down_more : {V W : Type 0} (g : Setting V) (left : ℕ) (ws : List W) (w : Option W) → (left == 0) ≡ false → (left == 1) ≡ false → ((left - 1) == 0) ≡ false
    → next g (latch_at left ws) (call Down w) ≡ latch_at (left - 1) ws
down_more g left ws None a b d = rw (a, b, d) refl
down_more g left ws (Some w) a b d = rw (a, b, d) refl

down_step : {V W : Type 0} (g : Setting V) (left : ℕ) (ws : List W) (w : Option W) → next g (latch_at left ws) (call Down w) ≡ latch_at (left - 1) ws
down_step g zero ws None = refl
down_step g zero ws (Some w) = refl
down_step g (suc zero) ws None = ap (object (Latch 0)) (drop_all (take 100 ws))
down_step g (suc zero) ws (Some w) = ap (object (Latch 0)) (drop_all (take 100 ws))
down_step g (suc (suc n)) ws None = down_more g (suc (suc n)) ws None (ne_eqb _ _ (λ e. omega arith)) (ne_eqb _ _ (λ e. omega arith)) (ne_eqb _ _ (λ e. omega arith))
down_step g (suc (suc n)) ws (Some w) = down_more g (suc (suc n)) ws (Some w) (ne_eqb _ _ (λ e. omega arith)) (ne_eqb _ _ (λ e. omega arith)) (ne_eqb _ _ (λ e. omega arith))

wait_more : {V W : Type 0} (g : Setting V) (left : ℕ) (ws : List W) (w : W) → (left == 0) ≡ false
    → next g (latch_at left ws) (call Wait (Some w)) ≡ latch_at left (ws ++ w ∷ [])
wait_more g left ws w e =
    rw e (either (length (take 100 ws) == 100) _ _ (take 100 ws) (Some w) (λ b. object (Latch left) (if b then take 100 ws else take 100 ws ++ w ∷ [])) refl refl
    ∙ ap (object (Latch left)) (joins_cut 100 ws w))

wait_step : {V W : Type 0} (g : Setting V) (left : ℕ) (ws : List W) (w : Option W) → next g (latch_at left ws) (call Wait w) ≡ latch_at left (joined ws w)
wait_step g left ws None = refl
wait_step g zero ws (Some w) = refl
wait_step g (suc n) ws (Some w) = wait_more g (suc n) ws w (ne_eqb _ _ (λ e. omega arith))

latch_step : {V W : Type 0} (g : Setting V) (n d : ℕ) (ws : List W) (r : Request V) (w : Option W)
    → next g (latch_at (n - d) ws) (call r w) ≡ latch_at (n - (d + down_count r)) (joins_wait r ws w)
latch_step g n d ws Down w = down_step g (n - d) ws w ∙ ap (λ m. latch_at m ws) (omega arith)
latch_step g n d ws Wait w = wait_step g (n - d) ws w ∙ ap (λ m. latch_at m (joined ws w)) (omega arith)
latch_step g n d ws Where w = same_where g (Latch (n - d)) (held_back (n - d) ws) w ∙ ap (λ m. latch_at m ws) (omega arith)
latch_step g n d ws (Move to) w = same_move g (Latch (n - d)) to (held_back (n - d) ws) w ∙ ap (λ m. latch_at m ws) (omega arith)
latch_step g n d ws _ None = ap (λ m. latch_at m ws) (omega arith)
latch_step g n d ws _ (Some w) = ap (λ m. latch_at m ws) (omega arith)

none_yet : {W : Type 0} (b : Bool) (ws : List W) → ws ≡ [] → ws ≡ (if b then [] else take 100 ws)
none_yet true ws e = e
none_yet false [] e = refl
none_yet false (w ∷ ws) e = cc

-- after calls a latch of n has as many less as there were DOWNs, and the first 100 wait while some are left
pub latch_run : {V W : Type 0} (g : Setting V) (n : ℕ) (h : List (Call V W)) → run g (Latch n) h ≡ latch_at (n - downs h) (waits h)
latch_run g n [] = ap (object (Latch n)) (none_yet (n == 0) [] refl) ∙ ap (λ m. latch_at m []) (omega arith)
latch_run g n (c ∷ h) = ap (λ o. next g o c) (latch_run g n h) ∙ latch_step g n (downs h) (waits h) c.request c.waiter

-- ---- what calls are told

no_more_left : (n d : ℕ) → ((n - d) == 0) ≡ nat_le n d
no_more_left n d =
    same_test _ _ (λ e. le-leb n d (let none = eqb-true (n - d) 0 e in omega arith))
    (λ e. lt-leb n d (let some = eqb-false (n - d) 0 e in omega arith))

one_left : (n d : ℕ) → ((n - d) == 1) ≡ (n == d + 1)
one_left n d =
    same_test _ _ (λ e. eq-eqb n (d + 1) (let one = eqb-true (n - d) 1 e in omega arith))
    (λ e. ne_eqb n (d + 1) (λ same. let other = eqb-false (n - d) 1 e in other (omega arith)))

abbrev down_told : {V W : Type 0} → Sort V → Bool → Bool → List W → Option W → List (Told V W)
down_told k a b ws w =
    if a then own w (k.fault 9) else if b then each k.nothing (take 100 ws) ++ own w k.nothing else own w k.nothing

down_by : {V W : Type 0} (g : Setting V) (left : ℕ) (ws : List W) (w : Option W) (a b : Bool) → (left == 0) ≡ a → (left == 1) ≡ b
    → tells g (called_on g (latch_at left ws) (call Down w)).effect (held_back left ws) w ≡ down_told g.sort a b ws w
down_by g left ws None true b e f = rw e refl
down_by g left ws (Some w) true b e f = rw e refl
down_by g left ws None false true e f = rw (e, f) (ap (λ us. each g.sort.nothing us ++ []) (take_all (take 100 ws)))
down_by g left ws (Some w) false true e f = rw (e, f) (ap (λ us. each g.sort.nothing us ++ own (Some w) g.sort.nothing) (take_all (take 100 ws)))
down_by g left ws None false false e f = rw (e, f) refl
down_by g left ws (Some w) false false e f = rw (e, f) refl

pub down_tells : {V W : Type 0} (g : Setting V) (n : ℕ) (h : List (Call V W)) (w : Option W)
    → says g (Latch n) h (call Down w) ≡ down_says g.sort n h w
down_tells g n h w =
    ap (λ o. tells g (called_on g o (call Down w)).effect o.waiting w) (latch_run g n h)
    ∙ down_by g (n - downs h) (waits h) w _ _ (no_more_left n (downs h)) (one_left n (downs h))

wait_by : {V W : Type 0} (g : Setting V) (left : ℕ) (ws : List W) (w : W) (a : Bool) → (left == 0) ≡ a
    → tells g (called_on g (latch_at left ws) (call Wait (Some w))).effect (held_back left ws) (Some w)
    ≡ (if a then own (Some w) g.sort.nothing else if nat_le 100 (length ws) then own (Some w) (g.sort.fault 10) else [])
wait_by g left ws w true e = rw e refl
wait_by g left ws w false e =
    rw e (told_either g (length (take 100 ws) == 100) _ _ (take 100 ws) (Some w) (λ b. if b then own (Some w) (g.sort.fault 10) else []) refl refl
    ∙ ap (λ b. if b then own (Some w) (g.sort.fault 10) else []) (is_full 100 ws))

pub wait_tells : {V W : Type 0} (g : Setting V) (n : ℕ) (h : List (Call V W)) (w : W)
    → says g (Latch n) h (call Wait (Some w)) ≡ wait_says g.sort n h (Some w)
wait_tells g n h w =
    ap (λ o. tells g (called_on g o (call Wait (Some w))).effect o.waiting (Some w)) (latch_run g n h)
    ∙ wait_by g (n - downs h) (waits h) w _ (no_more_left n (downs h))

-- ---- every call

pub latch_tells : {V W : Type 0} (g : Setting V) (n : ℕ) (h : List (Call V W)) (r : Request V) (w : Option W) → 32 ≤ g.kind
    → says g (Latch n) h (call r w) ≡ latch_says g n h r w
latch_tells {V} {W} g n h r w high = ap (λ o. told_on g o (call r w)) (latch_run g n h) ∙ by_request r w
  where
    left : ℕ
    left = n - downs h

    by_request : (r : Request V) (w : Option W) → told_on g (latch_at left (waits h)) (call r w) ≡ latch_says g n h r w
    by_request Where w = where_told g (Latch left) (held_back left (waits h)) w true (managed_high g.kind high)
    by_request (Move to) w = move_told g (Latch left) to (held_back left (waits h)) w (fixed_high g.kind high)
    by_request Down w = down_by g left (waits h) w _ _ (no_more_left n (downs h)) (one_left n (downs h))
    by_request Wait None = refl
    by_request Wait (Some w) = wait_by g left (waits h) w _ (no_more_left n (downs h))
    by_request _ None = refl
    by_request _ (Some w) = refl
