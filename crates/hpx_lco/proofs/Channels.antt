-- What a channel holds after calls, and what calls on it are told.
use Rattle.std.specs.Prelude.{ℕ, zero, suc, ℤ, Bool, true, false, List, [], ◌∷◌, ◌++◌, ◌+◌, ◌≤◌, ◌<◌, ◌≡◌, ◌==◌, Option, Some, None, length, take, drop, refl, if◌then◌else◌}
use Rattle.std.proofs.Common.{ap, sym, ◌∙◌, arith, length-drop}
use Rattle.std.proofs.lemmas.Bool.{eq-eqb, ne_eqb, eqb-true, eqb-false, lt-ltb, le-ltb}
use Rattle.std.proofs.lemmas.List.{drop_all, drop-append-le}
use Rattle.hpx_calls.specs.Values.{is_small}
use Rattle.hpx_calls.specs.declared.content.Content.TheVariants.{Channel}
use Rattle.hpx_calls.specs.declared.request.Request.{Request}
use Rattle.hpx_calls.specs.declared.request.Request.TheVariants.{Move, Where, Set, Get, Put, Close}
use Rattle.hpx_calls.specs.declared.effect.Called.{Called}
use Rattle.hpx_calls.specs.Tables.{is_first, sends, sends_small}
use Rattle.hpx_calls.specs.Histories.{Setting, Object, Call, Answered, own, each, next, still, tells, called_on, run, says}
use Rattle.hpx_lco.specs.Every.{wrong_says, channel_says}
use Rattle.hpx_calls.proofs.Steps.{told_on, where_told, move_told, managed_high, fixed_high}
use Rattle.hpx_lco.specs.Answered.{Accepted, is_close, closed, small, putting, getting, takes_put, takes_get, with_put, with_get, accepted, put_says, received, get_from, close_says}
use Rattle.hpx_lco.proofs.Still
use Rattle.hpx_lco.proofs.Still.{object, call, same_where, same_move, either, told_either, same_test}

-- those that wait are the gets past the puts, until the channel is closed
abbrev pub waiting_at : {V W : Type 0} → Bool → Accepted V W → List W
waiting_at true a = []
waiting_at false a = drop (length a.puts) a.gets

abbrev pub channel_at : {V W : Type 0} → Bool → Accepted V W → Object V W
channel_at is a = object (Channel is (drop (length a.gets) a.puts)) (waiting_at is a)

abbrev pairs : {V W : Type 0} → List V → List W → Accepted V W
pairs vs ws = record { puts = vs; gets = ws }

same_object : {V W : Type 0} (is : Bool) (xs ys : List V) (us ws : List W) → xs ≡ ys → us ≡ ws → object (Channel is xs) us ≡ object (Channel is ys) ws
same_object is xs ys us ws e f = ap (λ vs. object (Channel is vs) us) e ∙ ap (object (Channel is ys)) f

drop_suc : {X : Type 0} (n : ℕ) (xs : List X) (x : X) (rest : List X) → drop n xs ≡ x ∷ rest → drop (suc n) xs ≡ rest
drop_suc zero [] x rest e = cc
drop_suc zero (y ∷ xs) x rest e = cc
drop_suc (suc n) [] x rest e = cc
drop_suc (suc n) (y ∷ xs) x rest e = drop_suc n xs x rest e

length-push : {X : Type 0} (xs : List X) (x : X) → length (xs ++ x ∷ []) ≡ suc (length xs)
length-push [] x = refl
length-push (y ∷ xs) x = ap suc (length-push xs x)

drop_push : {X Y : Type 0} (us : List Y) (u : Y) (xs : List X) (x : X) (rest : List X) → drop (length us) xs ≡ x ∷ rest → drop (length (us ++ u ∷ [])) xs ≡ rest
drop_push us u xs x rest e = ap (λ n. drop n xs) (length-push us u) ∙ drop_suc (length us) xs x rest e

-- more of the one than of the other
some_more : {X : Type 0} (n : ℕ) (xs : List X) (x : X) (rest : List X) → drop n xs ≡ x ∷ rest → n < length xs
some_more n xs x rest e = let cut = length-drop n xs in let long : length (drop n xs) ≡ suc (length rest) = ap length e in omega arith

no_more : {X : Type 0} (n : ℕ) (xs : List X) → drop n xs ≡ [] → length xs ≤ n
no_more n xs e = let cut = length-drop n xs in let long : length (drop n xs) ≡ 0 = ap length e in omega arith

none_waits : {V W : Type 0} (is : Bool) (a : Accepted V W) → length a.gets ≤ length a.puts → waiting_at is a ≡ []
none_waits true a h = refl
none_waits false a h = drop_all (length a.puts) a.gets h

-- either of two things, by a test or by its opposite
turned : {X : Type 0} (b : Bool) (x y : X) → (if b then x else y) ≡ (if (if b then false else true) then y else x)
turned true x y = refl
turned false x y = refl

-- ---- gets

takes_more : {V W : Type 0} (is : Bool) (a : Accepted V W) → length a.gets < length a.puts → takes_get is a ≡ true
takes_more true a h = lt-ltb (length a.gets) (length a.puts) h
takes_more false a h = ap (λ b. if b then false else true) (ne_eqb (length a.gets) (length a.puts + 100) (λ e. omega arith))

with_taken : {V W : Type 0} (is : Bool) (a : Accepted V W) (w : W) → takes_get is a ≡ true → with_get is a (Some w) ≡ pairs a.puts (a.gets ++ w ∷ [])
with_taken is a w e = ap (λ b. if b then pairs a.puts (a.gets ++ w ∷ []) else a) e

-- as many wait as there are gets past the puts
is_crowded : {V W : Type 0} (a : Accepted V W) → (length (drop (length a.puts) a.gets) == 100) ≡ (length a.gets == length a.puts + 100)
is_crowded a =
    let cut = length-drop (length a.puts) a.gets in
    same_test _ _ (λ e. eq-eqb _ _ (let full = eqb-true (length (drop (length a.puts) a.gets)) 100 e in omega arith))
    (λ e. ne_eqb _ _ (λ f. let room = eqb-false (length (drop (length a.puts) a.gets)) 100 e in room (omega arith)))

get_case : {V W : Type 0} (g : Setting V) (is : Bool) (a : Accepted V W) (w : W) (kept : List V) → drop (length a.gets) a.puts ≡ kept
    → next g (object (Channel is kept) (waiting_at is a)) (call Get (Some w)) ≡ channel_at is (with_get is a (Some w))
get_case g is a w (v ∷ rest) e =
    let more = some_more (length a.gets) a.puts v rest e in
    let long : length (a.gets ++ w ∷ []) ≡ suc (length a.gets) = length-push a.gets w in
    same_object is rest (drop (length (a.gets ++ w ∷ [])) a.puts) (waiting_at is a) (waiting_at is (pairs a.puts (a.gets ++ w ∷ [])))
    (sym (drop_push a.gets w a.puts v rest e)) (none_waits is a (omega arith) ∙ sym (none_waits is (pairs a.puts (a.gets ++ w ∷ [])) (omega arith)))
    ∙ ap (channel_at is) (sym (with_taken is a w (takes_more is a more)))
get_case g true a w [] e =
    let less = no_more (length a.gets) a.puts e in
    ap (λ kept. object (Channel true kept) []) (sym e)
    ∙ ap (channel_at true) (ap (λ b. if b then pairs a.puts (a.gets ++ w ∷ []) else a) (sym (le-ltb (length a.gets) (length a.puts) less)))
get_case g false a w [] e =
    let less = no_more (length a.gets) a.puts e in
    let long : length (a.gets ++ w ∷ []) ≡ suc (length a.gets) = length-push a.gets w in
    either (length (drop (length a.puts) a.gets) == 100) _ _ (drop (length a.puts) a.gets) (Some w)
    (λ b. channel_at false (if b then a else pairs a.puts (a.gets ++ w ∷ [])))
    (ap (λ kept. object (Channel false kept) (drop (length a.puts) a.gets)) (sym e))
    (same_object false [] (drop (length (a.gets ++ w ∷ [])) a.puts) (drop (length a.puts) a.gets ++ w ∷ []) (drop (length a.puts) (a.gets ++ w ∷ []))
    (sym (drop_all (length (a.gets ++ w ∷ [])) a.puts (omega arith))) (sym (drop-append-le (length a.puts) a.gets (w ∷ []) less)))
    ∙ ap (λ b. channel_at false (if b then a else pairs a.puts (a.gets ++ w ∷ []))) (is_crowded a)
    ∙ ap (channel_at false) (turned (length a.gets == length a.puts + 100) a (pairs a.puts (a.gets ++ w ∷ [])))

-- ---- puts

is_stuffed : {V W : Type 0} (a : Accepted V W) → (length (drop (length a.gets) a.puts) == 1000) ≡ (length a.puts == length a.gets + 1000)
is_stuffed a =
    let cut = length-drop (length a.gets) a.puts in
    same_test _ _ (λ e. eq-eqb _ _ (let full = eqb-true (length (drop (length a.gets) a.puts)) 1000 e in omega arith))
    (λ e. ne_eqb _ _ (λ f. let room = eqb-false (length (drop (length a.gets) a.puts)) 1000 e in room (omega arith)))

put_open : {V W : Type 0} (g : Setting V) (a : Accepted V W) (v : V) (w : Option W) (ws : List W) → drop (length a.puts) a.gets ≡ ws
    → object (sends g.sort (length ws) false (drop (length a.gets) a.puts) v).content (still (sends g.sort (length ws) false (drop (length a.gets) a.puts) v).effect ws w)
    ≡ channel_at false (with_put false a (Some v))
put_open g a v w [] e =
    let less = no_more (length a.puts) a.gets e in
    let long : length (a.puts ++ v ∷ []) ≡ suc (length a.puts) = length-push a.puts v in
    either (length (drop (length a.gets) a.puts) == 1000) _ _ [] w (λ b. channel_at false (if b then a else pairs (a.puts ++ v ∷ []) a.gets))
    (ap (object (Channel false (drop (length a.gets) a.puts))) (sym e))
    (same_object false (drop (length a.gets) a.puts ++ v ∷ []) (drop (length a.gets) (a.puts ++ v ∷ [])) [] (drop (length (a.puts ++ v ∷ [])) a.gets)
    (sym (drop-append-le (length a.gets) a.puts (v ∷ []) less)) (sym (drop_all (length (a.puts ++ v ∷ [])) a.gets (omega arith))))
    ∙ ap (λ b. channel_at false (if b then a else pairs (a.puts ++ v ∷ []) a.gets)) (is_stuffed a)
    ∙ ap (channel_at false) (turned (length a.puts == length a.gets + 1000) a (pairs (a.puts ++ v ∷ []) a.gets))
put_open g a v w (u ∷ us) e =
    let more = some_more (length a.puts) a.gets u us e in
    let long : length (a.puts ++ v ∷ []) ≡ suc (length a.puts) = length-push a.puts v in
    same_object false (drop (length a.gets) a.puts) (drop (length a.gets) (a.puts ++ v ∷ [])) us (drop (length (a.puts ++ v ∷ [])) a.gets)
    (drop_all (length a.gets) a.puts (omega arith) ∙ sym (drop_all (length a.gets) (a.puts ++ v ∷ []) (omega arith))) (sym (drop_push a.puts v a.gets u us e))
    ∙ ap (channel_at false) (ap (λ b. if (if b then false else true) then pairs (a.puts ++ v ∷ []) a.gets else a)
    (sym (ne_eqb (length a.puts) (length a.gets + 1000) (λ f. omega arith))))

put_case : {V W : Type 0} (g : Setting V) (is : Bool) (a : Accepted V W) (v : V) (w : Option W)
    → object (sends g.sort (length (waiting_at is a)) is (drop (length a.gets) a.puts) v).content
    (still (sends g.sort (length (waiting_at is a)) is (drop (length a.gets) a.puts) v).effect (waiting_at is a) w)
    ≡ channel_at is (with_put is a (Some v))
put_case g true a v w = refl
put_case g false a v w = put_open g a v w (drop (length a.puts) a.gets) refl

-- where a test says whether a value is put
put_if : {V W : Type 0} (g : Setting V) (is b : Bool) (a : Accepted V W) (v : V) (w : Option W) (y z : Called V) (o : Option V)
    → object y.content (still y.effect (waiting_at is a) w) ≡ channel_at is (with_put is a o)
    → object z.content (still z.effect (waiting_at is a) w) ≡ channel_at is a
    → object (if b then y else z).content (still (if b then y else z).effect (waiting_at is a) w) ≡ channel_at is (with_put is a (if b then o else None))
put_if g is true a v w y z o p q = p
put_if g is false a v w y z o p q = q

put_small : {V W : Type 0} (g : Setting V) (is : Bool) (a : Accepted V W) (v : V) (w : Option W)
    → next g (channel_at is a) (call (Put v) w) ≡ channel_at is (with_put is a (small g.sort v))
put_small g is a v None = put_if g is (is_small (g.sort.look v)) a v None _ _ (Some v) (put_case g is a v None) refl
put_small g is a v (Some w) = put_if g is (is_small (g.sort.look v)) a v (Some w) _ _ (Some v) (put_case g is a v (Some w)) refl

put_slot : {V W : Type 0} (g : Setting V) (is : Bool) (a : Accepted V W) (slot : ℤ) (v : V) (w : Option W)
    → next g (channel_at is a) (call (Set slot v) w) ≡ channel_at is (with_put is a (if is_first slot then small g.sort v else None))
put_slot g is a slot v None = put_if g is (is_first slot) a v None _ _ (small g.sort v) (put_if g is (is_small (g.sort.look v)) a v None _ _ (Some v) (put_case g is a v None) refl) refl
put_slot g is a slot v (Some w) =
    put_if g is (is_first slot) a v (Some w) _ _ (small g.sort v) (put_if g is (is_small (g.sort.look v)) a v (Some w) _ _ (Some v) (put_case g is a v (Some w)) refl) refl

-- ---- every call

channel_step : {V W : Type 0} (g : Setting V) (is : Bool) (a : Accepted V W) (r : Request V) (w : Option W)
    → next g (channel_at is a) (call r w) ≡ channel_at (if is_close r then true else is) (with_get is (with_put is a (putting g.sort r)) (getting r w))
channel_step g is a Where w = same_where g (Channel is (drop (length a.gets) a.puts)) (waiting_at is a) w
channel_step g is a (Move to) w = same_move g (Channel is (drop (length a.gets) a.puts)) to (waiting_at is a) w
channel_step g is a Get None = refl
channel_step g is a Get (Some w) = get_case g is a w (drop (length a.gets) a.puts) refl
channel_step g is a (Put v) w = put_small g is a v w
channel_step g is a (Set slot v) w = put_slot g is a slot v w
channel_step g true a Close None = refl
channel_step g true a Close (Some w) = refl
channel_step g false a Close None = ap (object (Channel true (drop (length a.gets) a.puts))) (Still.drop_all (drop (length a.puts) a.gets))
channel_step g false a Close (Some w) = ap (object (Channel true (drop (length a.gets) a.puts))) (Still.drop_all (drop (length a.puts) a.gets))
channel_step g is a _ None = refl
channel_step g is a _ (Some w) = refl

-- after calls a channel keeps the puts past the gets, and the gets past the puts wait
pub channel_run : {V W : Type 0} (g : Setting V) (h : List (Call V W)) → run g (Channel false []) h ≡ channel_at (closed h) (accepted g.sort h)
channel_run g [] = refl
channel_run g (c ∷ h) = ap (λ o. next g o c) (channel_run g h) ∙ channel_step g (closed h) (accepted g.sort h) c.request c.waiter

-- ---- what calls are told

put_told : {V W : Type 0} (g : Setting V) (a : Accepted V W) (v : V) (w : Option W) (ws : List W) → drop (length a.puts) a.gets ≡ ws
    → tells g (sends g.sort (length ws) false (drop (length a.gets) a.puts) v).effect ws w
    ≡ (if takes_put false a then each v (take 1 ws) ++ own w g.sort.nothing else own w (g.sort.fault 10))
put_told g a v w [] e =
    told_either g (length (drop (length a.gets) a.puts) == 1000) _ _ [] w
    (λ b. if (if b then false else true) then own w g.sort.nothing else own w (g.sort.fault 10)) refl refl
    ∙ ap (λ b. if (if b then false else true) then own w g.sort.nothing else own w (g.sort.fault 10)) (is_stuffed a)
put_told g a v w (u ∷ us) e =
    let more = some_more (length a.puts) a.gets u us e in
    ap (λ b. if (if b then false else true) then Answered u v ∷ own w g.sort.nothing else own w (g.sort.fault 10))
    (sym (ne_eqb (length a.puts) (length a.gets + 1000) (λ f. omega arith)))

put_says_by : {V W : Type 0} (g : Setting V) (is : Bool) (a : Accepted V W) (v : V) (w : Option W) → is_small (g.sort.look v) ≡ true
    → tells g (called_on g (channel_at is a) (call (Put v) w)).effect (waiting_at is a) w ≡ put_says g.sort is a v w
put_says_by g true a v None e = rw e refl
put_says_by g true a v (Some w) e = rw e refl
put_says_by g false a v None e = rw e (put_told g a v None (drop (length a.puts) a.gets) refl)
put_says_by g false a v (Some w) e = rw e (put_told g a v (Some w) (drop (length a.puts) a.gets) refl)

pub put_tells : {V W : Type 0} (g : Setting V) (h : List (Call V W)) (v : V) (w : Option W) → is_small (g.sort.look v) ≡ true
    → says g (Channel false []) h (call (Put v) w) ≡ put_says g.sort (closed h) (accepted g.sort h) v w
put_tells g h v w e =
    ap (λ o. tells g (called_on g o (call (Put v) w)).effect o.waiting w) (channel_run g h) ∙ put_says_by g (closed h) (accepted g.sort h) v w e

get_told : {V W : Type 0} (g : Setting V) (is : Bool) (a : Accepted V W) (w : W) (kept : List V) → drop (length a.gets) a.puts ≡ kept
    → tells g (called_on g (object (Channel is kept) (waiting_at is a)) (call Get (Some w))).effect (waiting_at is a) (Some w)
    ≡ (if takes_get is a then received kept (Some w) else if is then own (Some w) (g.sort.fault 8) else own (Some w) (g.sort.fault 10))
get_told g is a w (v ∷ rest) e =
    let more = some_more (length a.gets) a.puts v rest e in
    ap (λ b. if b then own (Some w) v else if is then own (Some w) (g.sort.fault 8) else own (Some w) (g.sort.fault 10)) (sym (takes_more is a more))
get_told g true a w [] e =
    let less = no_more (length a.gets) a.puts e in
    ap (λ b. if b then [] else own (Some w) (g.sort.fault 8)) (sym (le-ltb (length a.gets) (length a.puts) less))
get_told g false a w [] e =
    told_either g (length (drop (length a.puts) a.gets) == 100) _ _ (drop (length a.puts) a.gets) (Some w)
    (λ b. if (if b then false else true) then [] else own (Some w) (g.sort.fault 10)) refl refl
    ∙ ap (λ b. if (if b then false else true) then [] else own (Some w) (g.sort.fault 10)) (is_crowded a)

pub get_tells : {V W : Type 0} (g : Setting V) (h : List (Call V W)) (w : W)
    → says g (Channel false []) h (call Get (Some w)) ≡ get_from g.sort (closed h) (accepted g.sort h) (Some w)
get_tells g h w =
    ap (λ o. tells g (called_on g o (call Get (Some w))).effect o.waiting (Some w)) (channel_run g h)
    ∙ get_told g (closed h) (accepted g.sort h) w (drop (length (accepted g.sort h).gets) (accepted g.sort h).puts) refl

close_by : {V W : Type 0} (g : Setting V) (is : Bool) (a : Accepted V W) (w : Option W)
    → tells g (called_on g (channel_at is a) (call Close w)).effect (waiting_at is a) w ≡ close_says g.sort is a w
close_by g true a None = refl
close_by g true a (Some w) = refl
close_by g false a None = ap (λ us. each (g.sort.fault 8) us ++ []) (Still.take_all (drop (length a.puts) a.gets))
close_by g false a (Some w) = ap (λ us. each (g.sort.fault 8) us ++ own (Some w) g.sort.nothing) (Still.take_all (drop (length a.puts) a.gets))

pub close_tells : {V W : Type 0} (g : Setting V) (h : List (Call V W)) (w : Option W)
    → says g (Channel false []) h (call Close w) ≡ close_says g.sort (closed h) (accepted g.sort h) w
close_tells g h w =
    ap (λ o. tells g (called_on g o (call Close w)).effect o.waiting w) (channel_run g h) ∙ close_by g (closed h) (accepted g.sort h) w

-- ---- every call

sends_told : {V W : Type 0} (g : Setting V) (is : Bool) (a : Accepted V W) (v : V) (w : Option W)
    → tells g (sends g.sort (length (waiting_at is a)) is (drop (length a.gets) a.puts) v).effect (waiting_at is a) w ≡ put_says g.sort is a v w
sends_told g true a v w = refl
sends_told g false a v w = put_told g a v w (drop (length a.puts) a.gets) refl

small_told : {V W : Type 0} (g : Setting V) (is : Bool) (a : Accepted V W) (v : V) (w : Option W)
    → tells g (sends_small g.sort (length (waiting_at is a)) is (drop (length a.gets) a.puts) v).effect (waiting_at is a) w
    ≡ (if is_small (g.sort.look v) then put_says g.sort is a v w else wrong_says g w)
small_told g is a v w =
    told_either g (is_small (g.sort.look v)) _ _ (waiting_at is a) w (λ b. if b then put_says g.sort is a v w else wrong_says g w) (sends_told g is a v w) refl

pub channel_tells : {V W : Type 0} (g : Setting V) (h : List (Call V W)) (r : Request V) (w : Option W) → 32 ≤ g.kind
    → says g (Channel false []) h (call r w) ≡ channel_says g h r w
channel_tells {V} {W} g h r w high = ap (λ o. told_on g o (call r w)) (channel_run g h) ∙ by_request r w
  where
    is : Bool
    is = closed h

    a : Accepted V W
    a = accepted g.sort h

    by_request : (r : Request V) (w : Option W) → told_on g (channel_at is a) (call r w) ≡ channel_says g h r w
    by_request Where w = where_told g (Channel is (drop (length a.gets) a.puts)) (waiting_at is a) w true (managed_high g.kind high)
    by_request (Move to) w = move_told g (Channel is (drop (length a.gets) a.puts)) to (waiting_at is a) w (fixed_high g.kind high)
    by_request Get None = refl
    by_request Get (Some w) = get_told g is a w (drop (length a.gets) a.puts) refl
    by_request (Put v) None = small_told g is a v None
    by_request (Put v) (Some w) = small_told g is a v (Some w)
    by_request (Set slot v) None =
        told_either g (is_first slot) _ _ (waiting_at is a) None (λ b. if b then (if is_small (g.sort.look v) then put_says g.sort is a v None else wrong_says g None) else [])
        (small_told g is a v None) refl
    by_request (Set slot v) (Some w) =
        told_either g (is_first slot) _ _ (waiting_at is a) (Some w) (λ b. if b then (if is_small (g.sort.look v) then put_says g.sort is a v (Some w) else wrong_says g (Some w)) else [])
        (small_told g is a v (Some w)) refl
    by_request Close w = close_by g is a w
    by_request _ None = refl
    by_request _ (Some w) = refl
