-- What a barrier holds after calls, and what calls on it are told.
use Rattle.std.specs.Prelude.{ℕ, suc, Bool, true, false, List, [], ◌∷◌, ◌++◌, ◌+◌, ◌-◌, ◌%◌, ◌≤◌, ◌<◌, ◌≡◌, ◌≢◌, ◌==◌, Option, Some, None, length, drop, refl, if◌then◌else◌}
use Rattle.std.proofs.Common.{ap, sym, ◌∙◌, arith, length-drop}
use Rattle.std.proofs.Math.Nat.{suc-mod, mod-le, mod_self, mod-eq_of_lt}
use Rattle.std.proofs.lemmas.Bool.{eq-eqb, ne_eqb, eqb-true, eqb-false}
use Rattle.std.proofs.lemmas.List.{drop_all, drop-append-le}
use Rattle.hpx_calls.specs.declared.content.Content.TheVariants.{Barrier}
use Rattle.hpx_calls.specs.declared.request.Request.{Request}
use Rattle.hpx_calls.specs.declared.request.Request.TheVariants.{Move, Where, Arrive}
use Rattle.hpx_calls.specs.Histories.{Setting, Object, Call, own, each, next, tells, called_on, run, says}
use Rattle.hpx_lco.specs.Every.{barrier_says}
use Rattle.hpx_calls.proofs.Steps.{told_on, where_told, move_told, managed_high, fixed_high}
use Rattle.hpx_lco.specs.Answered.{joins_arrive, arrivals, arrive_says}
use Rattle.hpx_lco.proofs.Still
use Rattle.hpx_lco.proofs.Still.{object, call, same_where, same_move, either, told_either, same_test}

-- those that wait came after the last full round
abbrev pub round : {W : Type 0} → ℕ → List W → List W
round n ws = drop (length ws - length ws % n) ws

abbrev pub barrier_at : {V W : Type 0} → ℕ → List W → Object V W
barrier_at n ws = object (Barrier n) (round n ws)

length-round : {W : Type 0} (n : ℕ) (ws : List W) → length (round n ws) ≡ length ws % n
length-round n ws = let cut = length-drop (length ws - length ws % n) ws in let most = mod-le (length ws) n in omega arith

length-push : {X : Type 0} (xs : List X) (x : X) → length (xs ++ x ∷ []) ≡ suc (length xs)
length-push [] x = refl
length-push (y ∷ xs) x = ap suc (length-push xs x)

-- the number of one more, in its round
next_full : (m n : ℕ) → m % n + 1 ≡ n → suc m % n ≡ 0
next_full m n e = suc-mod m n ∙ ap (λ k. k % n) is_n ∙ mod_self n
  where
    is_n : suc (m % n) ≡ n
    is_n = omega arith

next_more : (m n : ℕ) → m % n + 1 < n → suc m % n ≡ suc (m % n)
next_more m n h = suc-mod m n ∙ mod-eq_of_lt below
  where
    below : suc (m % n) < n
    below = omega arith

ends : {W : Type 0} (n : ℕ) (ws : List W) → 1 ≤ n → (length (round n ws) + 1 == n) ≡ ((length ws + 1) % n == 0)
ends n ws h =
    let long = length-round n ws in
    same_test _ _
    (λ e. eq-eqb _ _ (let full : length (round n ws) + 1 ≡ n = eqb-true _ _ e in let last = next_full (length ws) n (omega arith) in ap (λ k. k % n) one_more ∙ last))
    (λ e. ne_eqb _ _ (λ f. let less : length (round n ws) + 1 ≢ n = eqb-false _ _ e in
    let below : length ws % n < n = omega arith in
    let room : length ws % n + 1 < n = room_left (length ws % n) (length (round n ws)) below long less in
    let more : suc (length ws) % n ≡ suc (length ws % n) = next_more (length ws) n room in
    let none : suc (length ws) % n ≡ 0 = ap (λ k. k % n) (sym one_more) ∙ f in
    absurd (omega arith)))
  where
    one_more : length ws + 1 ≡ suc (length ws)
    one_more = omega arith

    room_left : (r k : ℕ) → r < n → k ≡ r → k + 1 ≢ n → r + 1 < n
    room_left r k a b d = omega arith

round_full : {W : Type 0} (n : ℕ) (ws : List W) (w : W) → length (round n ws) + 1 ≡ n → round n (ws ++ w ∷ []) ≡ []
round_full n ws w e =
    let long = length-round n ws in
    let more = length-push ws w in
    let last : suc (length ws) % n ≡ 0 = next_full (length ws) n (omega arith) in
    let whole : length (ws ++ w ∷ []) % n ≡ 0 = ap (λ k. k % n) more ∙ last in
    drop_all (length (ws ++ w ∷ []) - length (ws ++ w ∷ []) % n) (ws ++ w ∷ []) (omega arith)

round_more : {W : Type 0} (n : ℕ) (ws : List W) (w : W) → length ws % n + 1 < n → round n (ws ++ w ∷ []) ≡ round n ws ++ w ∷ []
round_more n ws w h =
    let more = length-push ws w in
    let here : length (ws ++ w ∷ []) % n ≡ suc (length ws % n) = ap (λ k. k % n) more ∙ next_more (length ws) n h in
    ap (λ k. drop k (ws ++ w ∷ [])) (same_start more here) ∙ drop-append-le (length ws - length ws % n) ws (w ∷ []) (omega arith)
  where
    same_start : length (ws ++ w ∷ []) ≡ suc (length ws) → length (ws ++ w ∷ []) % n ≡ suc (length ws % n)
        → length (ws ++ w ∷ []) - length (ws ++ w ∷ []) % n ≡ length ws - length ws % n
    same_start a b = omega arith

arrive_by : {V W : Type 0} (g : Setting V) (n : ℕ) (ws : List W) (w : W) (b : Bool) → (length (round n ws) + 1 == n) ≡ b → 1 ≤ n
    → next g (barrier_at n ws) (call Arrive (Some w)) ≡ barrier_at n (ws ++ w ∷ [])
arrive_by g n ws w true e h =
    rw e (ap (object (Barrier n)) (Still.drop_all (round n ws) ∙ sym (round_full n ws w (eqb-true _ _ e))))
arrive_by g n ws w false e h =
    let less : length (round n ws) + 1 ≢ n = eqb-false _ _ e in
    let long = length-round n ws in
    let below : length ws % n < n = omega arith in
    rw e (ap (object (Barrier n)) (sym (round_more n ws w (room_left (length ws % n) (length (round n ws)) below long less))))
  where
    room_left : (r k : ℕ) → r < n → k ≡ r → k + 1 ≢ n → r + 1 < n
    room_left r k a b d = omega arith

barrier_step : {V W : Type 0} (g : Setting V) (n : ℕ) (ws : List W) (r : Request V) (w : Option W) → 1 ≤ n
    → next g (barrier_at n ws) (call r w) ≡ barrier_at n (joins_arrive r ws w)
barrier_step g n ws Where w h = same_where g (Barrier n) (round n ws) w
barrier_step g n ws (Move to) w h = same_move g (Barrier n) to (round n ws) w
barrier_step g n ws Arrive None h = refl
barrier_step g n ws Arrive (Some w) h = arrive_by g n ws w (length (round n ws) + 1 == n) refl h
barrier_step g n ws _ None h = refl
barrier_step g n ws _ (Some w) h = refl

-- after calls those wait at a barrier that came after the last full round
pub barrier_run : {V W : Type 0} (g : Setting V) (n : ℕ) (h : List (Call V W)) → 1 ≤ n → run g (Barrier n) h ≡ barrier_at n (arrivals h)
barrier_run g n [] e = ap (object (Barrier n)) (sym (drop_all (0 - 0 % n) [] (omega arith)))
barrier_run g n (c ∷ h) e = ap (λ o. next g o c) (barrier_run g n h e) ∙ barrier_step g n (arrivals h) c.request c.waiter e

told_by : {V W : Type 0} (g : Setting V) (n : ℕ) (ws : List W) (w : W) (b : Bool) → (length (round n ws) + 1 == n) ≡ b
    → tells g (called_on g (barrier_at n ws) (call Arrive (Some w))).effect (round n ws) (Some w)
    ≡ (if b then each g.sort.nothing (drop (length ws + 1 - n) ws) ++ own (Some w) g.sort.nothing else [])
told_by g n ws w true e =
    let full : length (round n ws) + 1 ≡ n = eqb-true _ _ e in
    let long = length-round n ws in
    let most = mod-le (length ws) n in
    rw e (ap (λ us. each g.sort.nothing us ++ own (Some w) g.sort.nothing) (Still.take_all (round n ws) ∙ ap (λ k. drop k ws) (same_start full long most)))
  where
    same_start : length (round n ws) + 1 ≡ n → length (round n ws) ≡ length ws % n → length ws % n ≤ length ws → length ws - length ws % n ≡ length ws + 1 - n
    same_start a b d = omega arith
told_by g n ws w false e = rw e refl

pub arrive_tells : {V W : Type 0} (g : Setting V) (n : ℕ) (h : List (Call V W)) (w : W) → 1 ≤ n
    → says g (Barrier n) h (call Arrive (Some w)) ≡ arrive_says g.sort n (arrivals h) (Some w)
arrive_tells g n h w e =
    ap (λ o. tells g (called_on g o (call Arrive (Some w))).effect o.waiting (Some w)) (barrier_run g n h e)
    ∙ told_by g n (arrivals h) w ((length (arrivals h) + 1) % n == 0) (ends n (arrivals h) e)

-- ---- every call

pub barrier_tells : {V W : Type 0} (g : Setting V) (n : ℕ) (h : List (Call V W)) (r : Request V) (w : Option W) → 1 ≤ n → 32 ≤ g.kind
    → says g (Barrier n) h (call r w) ≡ barrier_says g n h r w
barrier_tells {V} {W} g n h r w some high = ap (λ o. told_on g o (call r w)) (barrier_run g n h some) ∙ by_request r w
  where
    ws : List W
    ws = arrivals h

    by_request : (r : Request V) (w : Option W) → told_on g (barrier_at n ws) (call r w) ≡ barrier_says g n h r w
    by_request Where w = where_told g (Barrier n) (round n ws) w true (managed_high g.kind high)
    by_request (Move to) w = move_told g (Barrier n) to (round n ws) w (fixed_high g.kind high)
    by_request Arrive None = refl
    by_request Arrive (Some w) = told_by g n ws w ((length ws + 1) % n == 0) (ends n ws some)
    by_request _ None = refl
    by_request _ (Some w) = refl
