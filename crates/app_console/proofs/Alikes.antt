-- What calls of the console do: who waits at an object is told as all others there, and an answer to the caller says the same or nothing.
use Rattle.std.specs.Prelude.{ℕ, zero, suc, ℤ, pos, negsuc, Bool, true, false, nat_le, List, [], ◌∷◌, ◌+◌, ◌+ℤ◌, ◌≡◌, ◌==◌, ◌&&◌, ◌⊎◌, Option, Some, None, codes, length, refl, if◌then◌else◌}
use Rattle.std.specs.Str.{bytes_eq}
use Rattle.std.proofs.Common.{sym, ap, ◌∙◌, subst, inl, inr}
use Rattle.std.proofs.lemmas.Bool.{cond_both, eqb-true, leb-true, lt-ltb}
use Rattle.hpx_calls.specs.Values.{Value, Nothing, Flag, Int, Text, Ref, Fault, Ints, Look, Sort, plain, is_small, is_number_or_text}
use Rattle.hpx_calls.specs.declared.request.Request.{Request}
use Rattle.hpx_calls.specs.declared.request.Request.TheVariants.{Move, Where, Set, New, Register, Resolve, Unregister, Keys, Count, Add, Query, Reset, Step, Get, Put, PutAt, Close, Down, Wait, Arrive, Other}
use Rattle.hpx_calls.specs.Requests.{is_key, asks_bare, asks_move, asks_one, asks_register, asks_step, asks_two, asks_many, request_of}
use Rattle.hpx_calls.specs.declared.content.Pair.{Pair}
use Rattle.hpx_calls.specs.declared.content.Content.{Content}
use Rattle.hpx_calls.specs.declared.content.Content.TheVariants.{Table, Maker, Size, Number, Row, Promise, Dataflow, Started, Channel, Latch, Barrier, Unreadable}
use Rattle.hpx_calls.specs.Contents.{count_in, content_of, layout, provided, or_unreadable, latch_at, barrier_at}
use Rattle.hpx_calls.specs.Outcomes.{kind_of}
use Rattle.hpx_calls.specs.declared.effect.Effect.{Effect}
use Rattle.hpx_calls.specs.declared.effect.Effect.TheVariants.{Silent, Answers, Waits, Frees, Starts, Hands, Moves, Makes}
use Rattle.hpx_calls.specs.declared.effect.Called.{Called}
use Rattle.hpx_calls.specs.Tables
use Rattle.app_console.specs.Types.{What, NotSaid, Told, Released, Bound}
use Rattle.app_console.specs.Commands.{answer_text}

-- ---- contents of the console

-- it is none of a dataflow
abbrev pub IsOurs : {V : Type 0} → Content V → Type 0
IsOurs (Dataflow code inputs given) = ⊥
IsOurs (Started code inputs) = ⊥
IsOurs (Unreadable values) = ⊥
IsOurs _ = Unit {0}

-- what is done with the answers of those that wait there
abbrev pub waiter : {V : Type 0} → Content V → What
waiter (Promise value) = Told
waiter (Channel closed kept) = Told
waiter (Latch left) = Released
waiter (Barrier n) = Released
waiter _ = NotSaid

abbrev pub IsPlainWhat : What → Type 0
IsPlainWhat (Bound name) = ⊥
IsPlainWhat _ = Unit {0}

-- it refers to nothing
abbrev pub IsBlank : {V : Type 0} → Content V → Type 0
IsBlank (Number z) = Unit {0}
IsBlank (Row numbers) = Unit {0}
IsBlank (Promise None) = Unit {0}
IsBlank (Channel closed []) = Unit {0}
IsBlank (Latch left) = Unit {0}
IsBlank (Barrier n) = Unit {0}
IsBlank _ = ⊥

-- at its birth it is none of a dataflow, and its state shows it
abbrev pub IsBorn : {R : Type 0} → Content (Value R) → Type 0
IsBorn {R} x = IsOurs x × IsBlank x × ((n : ℕ) → content_of (plain R) n (kind_of x) 0 (layout (plain R) x) ≡ x)

-- an effect whose answers may come in any order
abbrev pub Said : {R : Type 0} → What → What → Effect (Value R) → Type 0
Said at what Silent = ⊥
Said at what (Answers v) = Unit {0}
Said at what Waits = what ≡ at
Said at what (Frees count v own) = IsPlainWhat what × ((answer_text what own ≡ []) ⊎ (answer_text what own ≡ answer_text at v))
Said at what (Starts code args) = ⊥
Said at what (Hands code args own) = ⊥
Said at what (Moves to) = Unit {0}
Said at what (Makes x) = IsBorn x

-- what is done with the answer to a request that may wait or free others
abbrev pub Paired : {V : Type 0} → Request V → What → Type 0
Paired Get what = what ≡ Told
Paired Wait what = what ≡ Released
Paired Arrive what = what ≡ Released
Paired (Put v) what = what ≡ NotSaid
Paired Close what = what ≡ NotSaid
Paired Down what = what ≡ NotSaid
Paired (Set slot v) what = ⊥
Paired _ what = Unit {0}

module _ (R : Type 0) (what : What) where
  abbrev pub V : Type 0
  V = Value R

  abbrev pub unit_value : Value R
  unit_value = Nothing

  abbrev pub k : Sort V
  k = plain R

  abbrev pub Fine : Content V → Called V → Type 0
  Fine x c = IsOurs c.content × (waiter c.content ≡ waiter x) × Said (waiter x) what c.effect

  fine_if : (x : Content V) (b : Bool) (c d : Called V) → (b ≡ true → Fine x c) → (b ≡ false → Fine x d) → Fine x (if b then c else d)
  fine_if x b c d p q = cond_both b c d (Fine x) p q

  registers_fine : (xs : List (Pair V)) (key : List ℕ) (to : V) (o : Option V) → Fine (Table xs) (Tables.registers k xs key to o)
  registers_fine xs key to (Some old) = (tt, refl, tt)
  registers_fine xs key to None = fine_if (Table xs) (length xs == 100) _ _ (λ e. (tt, refl, tt)) (λ e. (tt, refl, tt))

  resolves_fine : (xs : List (Pair V)) (o : Option V) → Fine (Table xs) (Tables.resolves k xs o)
  resolves_fine xs None = (tt, refl, tt)
  resolves_fine xs (Some to) = (tt, refl, tt)

  unregisters_fine : (xs : List (Pair V)) (key : List ℕ) (o : Option V) → Fine (Table xs) (Tables.unregisters k xs key o)
  unregisters_fine xs key None = (tt, refl, tt)
  unregisters_fine xs key (Some to) = (tt, refl, tt)

  table_fine : (xs : List (Pair V)) (r : Request V) → Fine (Table xs) (Tables.on_table k xs r)
  table_fine xs (Register key to) = registers_fine xs key to (Tables.found key xs)
  table_fine xs (Resolve key) = resolves_fine xs (Tables.found key xs)
  table_fine xs (Unregister key) = unregisters_fine xs key (Tables.found key xs)
  table_fine xs _ = (tt, refl, tt)

  bare_fine : (x : Content V) (vs : List V) → IsBorn x → Fine Maker (Tables.makes_bare k x vs)
  bare_fine x [] h = (tt, refl, h)
  bare_fine x (v ∷ vs) h = (tt, refl, tt)

  at_fine : (f : ℕ → Content V) (most : ℕ) (o : Option ℕ) → ((n : ℕ) → o ≡ Some n → nat_le n most ≡ true)
      → ((n : ℕ) → nat_le n most ≡ true → nat_le 1 n ≡ true → IsBorn (f n)) → Fine Maker (Tables.makes_at k f o)
  at_fine f most None g h = (tt, refl, tt)
  at_fine f most (Some n) g h = fine_if Maker (nat_le 1 n) _ _ (λ e. (tt, refl, h n (g n refl) e)) (λ e. (tt, refl, tt))

  within_most : (most : ℕ) (z : ℤ) (n : ℕ) → count_in most z ≡ Some n → nat_le n most ≡ true
  within_most most (pos m) n e = by_size (nat_le m most) refl e
    where
      by_size : (b : Bool) → nat_le m most ≡ b → (if b then Some m else None) ≡ Some n → nat_le n most ≡ true
      by_size true f g = let same : m ≡ n = cc in subst (λ i. nat_le i most ≡ true) same f
      by_size false f g = cc
  within_most most (negsuc m) n e = cc

  counted_fine : (most : ℕ) (f : ℕ → Content V) (l : Look) → ((n : ℕ) → nat_le n most ≡ true → nat_le 1 n ≡ true → IsBorn (f n)) → Fine Maker (Tables.makes_counted k most f l)
  counted_fine most f (Int z) h = at_fine f most (count_in most z) (within_most most z) h
  counted_fine most f _ h = (tt, refl, tt)

  row_fine : (l : Look) → Fine Maker (Tables.makes_row k l)
  row_fine (Ints zs) = fine_if Maker (nat_le 1 (length zs) && nat_le (length zs) 1024) _ _
      (λ e. (tt, refl, (tt, tt, λ n. ap (λ (b : Bool). or_unreadable (Ints zs ∷ []) (provided b (Row zs))) e))) (λ e. (tt, refl, tt))
  row_fine _ = (tt, refl, tt)

  latch_born : (n : ℕ) → nat_le n 1000000 ≡ true → nat_le 1 n ≡ true → IsBorn {R = R} (Latch n)
  latch_born n e g = (tt, tt, λ m. ap (λ (b : Bool). or_unreadable (Int (pos n) ∷ []) (latch_at 0 (if b then Some n else None))) e)

  barrier_born : (n : ℕ) → nat_le n 100 ≡ true → nat_le 1 n ≡ true → IsBorn {R = R} (Barrier n)
  barrier_born n e g = (
    tt,
    tt,
    λ m. ap (λ (b : Bool). or_unreadable (Int (pos n) ∷ []) (barrier_at 0 (if b then Some n else None))) e
        ∙ ap (λ (b : Bool). or_unreadable (Int (pos n) ∷ []) (provided b (Barrier n))) (lt-ltb 0 n (leb-true 1 n g)),
  )

  one_fine : (f : Look → Called V) (vs : List V) → ((l : Look) → Fine Maker (f l)) → Fine Maker (Tables.with_one k f vs)
  one_fine f [] h = (tt, refl, tt)
  one_fine f (v ∷ []) h = h (k.look v)
  one_fine f (v ∷ u ∷ vs) h = (tt, refl, tt)

  makes_fine : (name : List ℕ) (vs : List V) → Fine Maker (Tables.makes k name vs)
  makes_fine name vs =
      fine_if Maker (bytes_eq name (codes "accumulator")) _ _ (λ e. bare_fine (Number (pos 0)) vs (tt, tt, λ n. refl))
      (λ e. fine_if Maker (bytes_eq name (codes "partition")) _ _ (λ e. one_fine (Tables.makes_row k) vs row_fine)
      (λ e. fine_if Maker (bytes_eq name (codes "promise")) _ _ (λ e. bare_fine (Promise None) vs (tt, tt, λ n. refl))
      (λ e. fine_if Maker (bytes_eq name (codes "channel")) _ _ (λ e. bare_fine (Channel false []) vs (tt, tt, λ n. refl))
      (λ e. fine_if Maker (bytes_eq name (codes "latch")) _ _ (λ e. one_fine (Tables.makes_counted k 1000000 Latch) vs (λ l. counted_fine 1000000 Latch l latch_born))
      (λ e. fine_if Maker (bytes_eq name (codes "barrier")) _ _ (λ e. one_fine (Tables.makes_counted k 100 Barrier) vs (λ l. counted_fine 100 Barrier l barrier_born)) (λ e. (tt, refl, tt)))))))

  maker_fine : (r : Request V) → Fine Maker (Tables.on_maker k r)
  maker_fine (New name vs) = makes_fine name vs
  maker_fine _ = (tt, refl, tt)

  size_fine : (n : ℕ) (r : Request V) → Fine (Size n) (Tables.on_size k n r)
  size_fine n Count = (tt, refl, tt)
  size_fine n _ = (tt, refl, tt)

  number_fine : (z : ℤ) (r : Request V) → Fine (Number z) (Tables.on_number k z r)
  number_fine z (Add y) = fine_if (Number z) (Tables.fits (z +ℤ y)) _ _ (λ e. (tt, refl, tt)) (λ e. (tt, refl, tt))
  number_fine z Query = (tt, refl, tt)
  number_fine z Reset = (tt, refl, tt)
  number_fine z _ = (tt, refl, tt)

  row_calls_fine : (zs : List ℤ) (r : Request V) → Fine (Row zs) (Tables.on_row k zs r)
  row_calls_fine zs (Step left right) = (tt, refl, tt)
  row_calls_fine zs _ = (tt, refl, tt)

  -- an answer that says nothing
  quiet : (at : What) (v : V) → what ≡ NotSaid → IsPlainWhat what × ((answer_text what unit_value ≡ []) ⊎ (answer_text what unit_value ≡ answer_text at v))
  quiet at v e = let P : What → Type 0 = λ w. IsPlainWhat w × ((answer_text w unit_value ≡ []) ⊎ (answer_text w unit_value ≡ answer_text at v)) in
      subst P (sym e) (tt, inl refl)

  waits_fine : (x : Content V) (most w : ℕ) → IsOurs x → what ≡ waiter x → Fine x (Tables.waits k x most w)
  waits_fine x most w h e = fine_if x (w == most) _ _ (λ f. (h, refl, tt)) (λ f. (h, refl, e))

  sets_fine : (w : ℕ) (o : Option V) (v : V) → what ≡ NotSaid → Fine (Promise o) (Tables.sets k w o v)
  sets_fine w None v e = (tt, refl, quiet Told v e)
  sets_fine w (Some old) v e = (tt, refl, tt)

  gets_fine : (w : ℕ) (o : Option V) → what ≡ Told → Fine (Promise o) (Tables.gets k w o)
  gets_fine w None e = waits_fine (Promise None) 7 w tt e
  gets_fine w (Some v) e = (tt, refl, tt)

  promise_fine : (w : ℕ) (o : Option V) (r : Request V) → Paired r what → Fine (Promise o) (Tables.on_promise k w o r)
  promise_fine w o (Set slot v) h = absurd h
  promise_fine w o (Put v) h = fine_if (Promise o) (is_number_or_text (k.look v)) _ _ (λ e. sets_fine w o v h) (λ e. (tt, refl, tt))
  promise_fine w o Get h = gets_fine w o h
  promise_fine w o _ h = (tt, refl, tt)

  sends_fine : (w : ℕ) (closed : Bool) (kept : List V) (v : V) → what ≡ NotSaid → Fine (Channel closed kept) (Tables.sends k w closed kept v)
  sends_fine w true kept v e = (tt, refl, tt)
  sends_fine zero false kept v e = fine_if (Channel false kept) (length kept == 1000) _ _ (λ f. (tt, refl, tt)) (λ f. (tt, refl, tt))
  sends_fine (suc w) false kept v e = (tt, refl, quiet Told v e)

  receives_fine : (w : ℕ) (closed : Bool) (kept : List V) → what ≡ Told → Fine (Channel closed kept) (Tables.receives k w closed kept)
  receives_fine w closed (v ∷ kept) e = (tt, refl, tt)
  receives_fine w true [] e = (tt, refl, tt)
  receives_fine w false [] e = waits_fine (Channel false []) 100 w tt e

  closes_fine : (w : ℕ) (closed : Bool) (kept : List V) → what ≡ NotSaid → Fine (Channel closed kept) (Tables.closes k w closed kept)
  closes_fine w true kept e = (tt, refl, tt)
  closes_fine w false kept e = (tt, refl, quiet Told (k.fault 8) e)

  channel_fine : (w : ℕ) (closed : Bool) (kept : List V) (r : Request V) → Paired r what → Fine (Channel closed kept) (Tables.on_channel k w closed kept r)
  channel_fine w closed kept (Set slot v) h = absurd h
  channel_fine w closed kept (Put v) h = fine_if (Channel closed kept) (is_small (k.look v)) _ _ (λ e. sends_fine w closed kept v h) (λ e. (tt, refl, tt))
  channel_fine w closed kept Get h = receives_fine w closed kept h
  channel_fine w closed kept Close h = closes_fine w closed kept h
  channel_fine w closed kept _ h = (tt, refl, tt)

  downs_fine : (w left : ℕ) → what ≡ NotSaid → Fine (Latch left) (Tables.downs k w left)
  downs_fine w left e =
      fine_if (Latch left) (left == 0) _ _ (λ f. (tt, refl, tt)) (λ f. fine_if (Latch left) (left == 1) _ _ (λ g. (tt, refl, quiet Released Nothing e)) (λ g. (tt, refl, tt)))

  latch_fine : (w left : ℕ) (r : Request V) → Paired r what → Fine (Latch left) (Tables.on_latch k w left r)
  latch_fine w left Down h = downs_fine w left h
  latch_fine w left Wait h = fine_if (Latch left) (left == 0) _ _ (λ f. (tt, refl, tt)) (λ f. waits_fine (Latch left) 100 w tt h)
  latch_fine w left _ h = (tt, refl, tt)

  barrier_fine : (w n : ℕ) (r : Request V) → Paired r what → Fine (Barrier n) (Tables.on_barrier k w n r)
  barrier_fine w n Arrive h = fine_if (Barrier n) (w + 1 == n) _ _ (λ f. (tt, refl, released h)) (λ f. (tt, refl, h))
    where
      released : what ≡ Released → IsPlainWhat what × ((answer_text what unit_value ≡ []) ⊎ (answer_text what unit_value ≡ answer_text Released unit_value))
      released e = let P : What → Type 0 = λ w. IsPlainWhat w × ((answer_text w unit_value ≡ []) ⊎ (answer_text w unit_value ≡ answer_text Released unit_value)) in
          subst P (sym e) (tt, inr refl)
  barrier_fine w n _ h = (tt, refl, tt)

  content_fine : (w : ℕ) (x : Content V) (r : Request V) → IsOurs x → Paired r what → Fine x (Tables.on_content k w x r)
  content_fine w (Table pairs) r h p = table_fine pairs r
  content_fine w Maker r h p = maker_fine r
  content_fine w (Size n) r h p = size_fine n r
  content_fine w (Number z) r h p = number_fine z r
  content_fine w (Row zs) r h p = row_calls_fine zs r
  content_fine w (Promise o) r h p = promise_fine w o r p
  content_fine w (Dataflow code inputs given) r h p = absurd h
  content_fine w (Started code inputs) r h p = absurd h
  content_fine w (Channel closed kept) r h p = channel_fine w closed kept r p
  content_fine w (Latch left) r h p = latch_fine w left r p
  content_fine w (Barrier n) r h p = barrier_fine w n r p
  content_fine w (Unreadable values) r h p = absurd h

  -- what an object of the console does at a call that is waited for
  pub called_fine : (here kind w : ℕ) (x : Content V) (r : Request V) → IsOurs x → Paired r what → Fine x (Tables.called k here kind w true x r)
  called_fine here kind w x Where h p = fine_if x (nat_le 16 kind) _ _ (λ e. (h, refl, tt)) (λ e. (h, refl, tt))
  called_fine here kind w x (Move to) h p = fine_if x (Tables.is_movable kind) _ _ (λ e. (h, refl, tt)) (λ e. (h, refl, tt))
  called_fine here kind w x (Set slot v) h p = content_fine w x (Set slot v) h p
  called_fine here kind w x (New name vs) h p = content_fine w x (New name vs) h p
  called_fine here kind w x (Register key to) h p = content_fine w x (Register key to) h p
  called_fine here kind w x (Resolve key) h p = content_fine w x (Resolve key) h p
  called_fine here kind w x (Unregister key) h p = content_fine w x (Unregister key) h p
  called_fine here kind w x Keys h p = content_fine w x Keys h p
  called_fine here kind w x Count h p = content_fine w x Count h p
  called_fine here kind w x (Add z) h p = content_fine w x (Add z) h p
  called_fine here kind w x Query h p = content_fine w x Query h p
  called_fine here kind w x Reset h p = content_fine w x Reset h p
  called_fine here kind w x (Step left right) h p = content_fine w x (Step left right) h p
  called_fine here kind w x Get h p = content_fine w x Get h p
  called_fine here kind w x (Put v) h p = content_fine w x (Put v) h p
  called_fine here kind w x (PutAt slot v) h p = content_fine w x (PutAt slot v) h p
  called_fine here kind w x Close h p = content_fine w x Close h p
  called_fine here kind w x Down h p = content_fine w x Down h p
  called_fine here kind w x Wait h p = content_fine w x Wait h p
  called_fine here kind w x Arrive h p = content_fine w x Arrive h p
  called_fine here kind w x Other h p = content_fine w x Other h p

-- ---- requests by their codes

abbrev is_told : What → Bool
is_told Told = true
is_told _ = false

abbrev is_released : What → Bool
is_released Released = true
is_released _ = false

abbrev is_silent : What → Bool
is_silent NotSaid = true
is_silent _ = false

-- 32 GET, 33 PUT, 34 CLOSE, 35 DOWN, 36 WAIT, 37 ARRIVE
abbrev pub says_well : ℕ → What → Bool
says_well code what =
    if code == 32 then is_told what
    else if code == 33 then is_silent what
    else if code == 34 then is_silent what
    else if code == 35 then is_silent what
    else if code == 36 then is_released what
    else if code == 37 then is_released what
    else true

told_is : (w : What) → is_told w ≡ true → w ≡ Told
told_is Told e = refl
told_is NotSaid e = cc
told_is Released e = cc
told_is (Bound name) e = cc

released_is : (w : What) → is_released w ≡ true → w ≡ Released
released_is Released e = refl
released_is NotSaid e = cc
released_is Told e = cc
released_is (Bound name) e = cc

silent_is : (w : What) → is_silent w ≡ true → w ≡ NotSaid
silent_is NotSaid e = refl
silent_is Told e = cc
silent_is Released e = cc
silent_is (Bound name) e = cc

module _ {W : Type 0} (s : Sort W) (code : ℕ) (what : What) (h : says_well code what ≡ true) where
  says_at : (c : ℕ) → (code == c) ≡ true → says_well c what ≡ true
  says_at c e = let P : ℕ → Type 0 = λ k. says_well k what ≡ true in subst P (eqb-true code c e) h

  either : (b : Bool) (x y : Request W) → (b ≡ true → Paired x what) → Paired y what → Paired (if b then x else y) what
  either b x y p q = cond_both b x y (λ r. Paired r what) p (λ e. q)

  bare_paired : Paired (asks_bare {V = W} code) what
  bare_paired =
      either (code == 2) _ _ (λ e. tt) (either (code == 9) _ _ (λ e. tt) (either (code == 10) _ _ (λ e. tt) (either (code == 17) _ _ (λ e. tt) (either (code == 18) _ _ (λ e. tt)
      (either (code == 32) _ _ (λ e. told_is what (says_at 32 e)) (either (code == 34) _ _ (λ e. silent_is what (says_at 34 e)) (either (code == 35) _ _ (λ e. silent_is what (says_at 35 e))
      (either (code == 36) _ _ (λ e. released_is what (says_at 36 e)) (either (code == 37) _ _ (λ e. released_is what (says_at 37 e)) tt)))))))))

  move_paired : (z : ℤ) → Paired (asks_move {V = W} z) what
  move_paired (pos n) = either (nat_le n 63) _ _ (λ e. tt) tt
  move_paired (negsuc n) = tt

  one_paired : (l : Look) → Paired (asks_one {V = W} code l) what
  one_paired (Int z) = either (code == 1) _ _ (λ e. move_paired z) (either (code == 16) _ _ (λ e. tt) tt)
  one_paired (Text t) = either (code == 5) _ _ (λ e. tt) (either (code == 7) _ _ (λ e. tt) (either (code == 8) _ _ (λ e. tt) tt))
  one_paired Nothing = tt
  one_paired (Flag b) = tt
  one_paired (Ref r) = tt
  one_paired (Fault c) = tt
  one_paired (Ints zs) = tt

  step_paired : (z : ℤ) (l : Look) → Paired (asks_step {V = W} z l) what
  step_paired z (Int y) = tt
  step_paired z Nothing = tt
  step_paired z (Text t) = tt
  step_paired z (Flag b) = tt
  step_paired z (Ref r) = tt
  step_paired z (Fault c) = tt
  step_paired z (Ints zs) = tt

  register_paired : (key : List ℕ) (to : W) (l : Look) → Paired (asks_register key to l) what
  register_paired key to (Ref r) = either (is_key key) _ _ (λ e. tt) tt
  register_paired key to Nothing = tt
  register_paired key to (Text t) = tt
  register_paired key to (Flag b) = tt
  register_paired key to (Int z) = tt
  register_paired key to (Fault c) = tt
  register_paired key to (Ints zs) = tt

  two_paired : (l : Look) (v : W) → Paired (asks_two s code true l v) what
  two_paired (Int z) v = either (code == 3) _ _ (λ e. tt) (either (code == 19) _ _ (λ e. step_paired z (s.look v)) (either (code == 33) _ _ (λ e. tt) tt))
  two_paired (Text t) v = either (code == 5) _ _ (λ e. tt) (either (code == 6) _ _ (λ e. register_paired t v (s.look v)) tt)
  two_paired Nothing v = tt
  two_paired (Flag b) v = tt
  two_paired (Ref r) v = tt
  two_paired (Fault c) v = tt
  two_paired (Ints zs) v = tt

  many_paired : (l : Look) (vs : List W) → Paired (asks_many code l vs) what
  many_paired (Text t) vs = either (code == 5) _ _ (λ e. tt) tt
  many_paired Nothing vs = tt
  many_paired (Int z) vs = tt
  many_paired (Flag b) vs = tt
  many_paired (Ref r) vs = tt
  many_paired (Fault c) vs = tt
  many_paired (Ints zs) vs = tt

  -- what an action asks is paired with what is done with its answer
  pub paired : (args : List W) → Paired (request_of s code true args) what
  paired [] = bare_paired
  paired (v ∷ []) = either (code == 33) _ _ (λ e. silent_is what (says_at 33 e)) (one_paired (s.look v))
  paired (v ∷ u ∷ []) = two_paired (s.look v) u
  paired (v ∷ u ∷ t ∷ vs) = many_paired (s.look v) (u ∷ t ∷ vs)
