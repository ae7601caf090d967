-- An effect frees and hands on those that wait alone, and starts an action for a caller that waits.
use Rattle.std.specs.Prelude.{ℕ, zero, suc, ℤ, pos, negsuc, Bool, true, false, nat_le, nat_lt, List, [], ◌∷◌, ◌++◌, ◌+◌, ◌+ℤ◌, ◌≤◌, ◌≡◌, ◌==◌, ◌&&◌, Option, Some, None, codes, length, refl, if◌then◌else◌}
use Rattle.std.proofs.Common.{arith}
use Rattle.std.specs.Str.{bytes_eq}
use Rattle.std.proofs.lemmas.Bool.{leb-true, and_parts}
use Rattle.hpx_calls.specs.Values.{Sort, Look, Int, Ints, is_small, is_number_or_text}
use Rattle.hpx_calls.specs.Requests.{Request, Move, Where, Set, New, Register, Resolve, Unregister, Keys, Count, Add, Query, Reset, Step, Get, Put, PutAt, Close, Down, Wait, Arrive, Other}
use Rattle.hpx_calls.specs.Contents.{Pair, Given, Content, Table, Maker, Size, Number, Row, Promise, Dataflow, Started, Channel, Latch, Barrier, Unreadable, input_of, count_in}
use Rattle.hpx_calls.specs.Effects.{Effect, Frees, Starts, Hands, Makes, Called}
use Rattle.hpx_calls.specs.Tables.{found, registers, resolves, unregisters, on_table, makes, makes_bare, makes_at, makes_counted, makes_row, with_one, on_maker, on_size, fits, on_number, on_row, is_first, sets, gets, on_promise, fitted, gives, puts_free, puts, starts, on_dataflow, puts_late, on_started, sends, receives, closes, on_channel, downs, on_latch, on_barrier, on_content, is_movable, on_object, awaits, called}

-- a content without values that came from outside
abbrev pub IsBare : {V : Type 0} → Content V → Type 0
IsBare (Number z) = Unit {0}
IsBare (Row zs) = Unit {0}
IsBare (Promise None) = Unit {0}
IsBare (Channel closed []) = Unit {0}
IsBare (Latch left) = Unit {0}
IsBare (Barrier m) = Unit {0}
IsBare _ = ⊥

-- where so many wait, and the caller waits or not
abbrev pub IsRight : {V : Type 0} → ℕ → Bool → Effect V → Type 0
IsRight w b (Frees count v own) = count ≤ w
IsRight w b (Hands code args own) = 1 ≤ w
IsRight w b (Starts code args) = b ≡ true
IsRight w b (Makes x) = IsBare x
IsRight w b _ = Unit {0}

module _ {V : Type 0} (k : Sort V) (w : ℕ) (b : Bool) where
  abbrev Right : Called V → Type 0
  Right c = IsRight w b c.effect

  right_if : (t : Bool) (x y : Called V) → (t ≡ true → Right x) → (t ≡ false → Right y) → Right (if t then x else y)
  right_if true x y p q = p refl
  right_if false x y p q = q refl

  registers_right : (xs : List (Pair V)) (key : List ℕ) (to : V) (o : Option V) → Right (registers k xs key to o)
  registers_right xs key to (Some old) = tt
  registers_right xs key to None = right_if (length xs == 100) _ _ (λ e. tt) (λ e. tt)

  resolves_right : (xs : List (Pair V)) (o : Option V) → Right (resolves k xs o)
  resolves_right xs None = tt
  resolves_right xs (Some to) = tt

  unregisters_right : (xs : List (Pair V)) (key : List ℕ) (o : Option V) → Right (unregisters k xs key o)
  unregisters_right xs key None = tt
  unregisters_right xs key (Some to) = tt

  table_right : (xs : List (Pair V)) (r : Request V) → Right (on_table k xs r)
  table_right xs (Register key to) = registers_right xs key to (found key xs)
  table_right xs (Resolve key) = resolves_right xs (found key xs)
  table_right xs (Unregister key) = unregisters_right xs key (found key xs)
  table_right xs Keys = tt
  table_right xs _ = tt

  bare_right : (x : Content V) (vs : List V) → IsBare x → Right (makes_bare k x vs)
  bare_right x [] h = h
  bare_right x (v ∷ vs) h = tt

  at_right : (f : ℕ → Content V) (o : Option ℕ) → ((n : ℕ) → IsBare (f n)) → Right (makes_at k f o)
  at_right f None h = tt
  at_right f (Some n) h = right_if (nat_le 1 n) _ _ (λ e. h n) (λ e. tt)

  counted_right : (most : ℕ) (f : ℕ → Content V) (l : Look) → ((n : ℕ) → IsBare (f n)) → Right (makes_counted k most f l)
  counted_right most f (Int z) h = at_right f (count_in most z) h
  counted_right most f _ h = tt

  row_right : (l : Look) → Right (makes_row k l)
  row_right (Ints zs) = right_if (nat_le 1 (length zs) && nat_le (length zs) 1024) _ _ (λ e. tt) (λ e. tt)
  row_right _ = tt

  one_right : (f : Look → Called V) (vs : List V) → ((l : Look) → Right (f l)) → Right (with_one k f vs)
  one_right f [] h = tt
  one_right f (v ∷ []) h = h (k.look v)
  one_right f (v ∷ u ∷ vs) h = tt

  makes_right : (name : List ℕ) (vs : List V) → Right (makes k name vs)
  makes_right name vs =
      right_if (bytes_eq name (codes "accumulator")) _ _ (λ e. bare_right (Number (pos 0)) vs tt) (λ e.
      right_if (bytes_eq name (codes "partition")) _ _ (λ e. one_right (makes_row k) vs row_right) (λ e.
      right_if (bytes_eq name (codes "promise")) _ _ (λ e. bare_right (Promise None) vs tt) (λ e.
      right_if (bytes_eq name (codes "channel")) _ _ (λ e. bare_right (Channel false []) vs tt) (λ e.
      right_if (bytes_eq name (codes "latch")) _ _ (λ e. one_right (makes_counted k 1000000 Latch) vs (λ l. counted_right 1000000 Latch l (λ n. tt))) (λ e.
      right_if (bytes_eq name (codes "barrier")) _ _ (λ e. one_right (makes_counted k 100 Barrier) vs (λ l. counted_right 100 Barrier l (λ n. tt))) (λ e. tt))))))

  maker_right : (r : Request V) → Right (on_maker k r)
  maker_right (New name vs) = makes_right name vs
  maker_right _ = tt

  size_right : (n : ℕ) (r : Request V) → Right (on_size k n r)
  size_right n Count = tt
  size_right n _ = tt

  number_right : (v : ℤ) (r : Request V) → Right (on_number k v r)
  number_right v (Add z) = right_if (fits (v +ℤ z)) _ _ (λ e. tt) (λ e. tt)
  number_right v Query = tt
  number_right v Reset = tt
  number_right v _ = tt

  numbers_right : (zs : List ℤ) (r : Request V) → Right (on_row k zs r)
  numbers_right zs (Step left right) = tt
  numbers_right zs _ = tt

  sets_right : (o : Option V) (v : V) → Right (sets k w o v)
  sets_right None v = omega arith
  sets_right (Some old) v = tt

  gets_right : (o : Option V) → Right (gets k w o)
  gets_right None = right_if (w == 7) _ _ (λ e. tt) (λ e. tt)
  gets_right (Some v) = tt

  promise_right : (o : Option V) (r : Request V) → Right (on_promise k w o r)
  promise_right o (Set slot v) = right_if (is_first slot) _ _ (λ e. sets_right o v) (λ e. tt)
  promise_right o (Put v) = right_if (is_number_or_text (k.look v)) _ _ (λ e. sets_right o v) (λ e. tt)
  promise_right o Get = gets_right o
  promise_right o _ = tt

  gives_right : (code n : ℕ) (xs : List (Given V)) → Right (gives k w code n xs)
  gives_right code n xs = right_if ((length xs == n) && nat_le 1 w) _ _ (λ e. leb-true 1 w (and_parts (length xs == n) (nat_le 1 w) e).1) (λ e. tt)

  free_right : (code n : ℕ) (xs : List (Given V)) (slot : ℕ) (v : V) (o : Option V) → Right (puts_free k w code n xs slot v o)
  free_right code n xs slot v None = gives_right code n (xs ++ record { slot = slot; value = fitted k xs v } ∷ [])
  free_right code n xs slot v (Some old) = tt

  puts_right : (code n : ℕ) (xs : List (Given V)) (z : ℤ) (v : V) → Right (puts k w code n xs z v)
  puts_right code n xs (negsuc m) v = tt
  puts_right code n xs (pos slot) v = right_if (nat_lt slot n) _ _ (λ e. free_right code n xs slot v (input_of slot xs)) (λ e. tt)

  starts_right : (code n : ℕ) (xs : List (Given V)) → b ≡ true → Right (starts k w code n xs)
  starts_right code n xs waits = right_if (nat_le 1 w) _ _ (λ e. tt) (λ e. right_if (length xs == n) _ _ (λ f. waits) (λ f. tt))

  dataflow_right : (code n : ℕ) (xs : List (Given V)) (r : Request V) → (awaits r ≡ true → b ≡ true) → Right (on_dataflow k w code n xs r)
  dataflow_right code n xs (Set z v) waits = puts_right code n xs z v
  dataflow_right code n xs (PutAt z v) waits = puts_right code n xs z v
  dataflow_right code n xs Get waits = starts_right code n xs (waits refl)
  dataflow_right code n xs _ waits = tt

  late_right : (code n : ℕ) (z : ℤ) → Right (puts_late k code n z)
  late_right code n (pos slot) = tt
  late_right code n (negsuc m) = tt

  started_right : (code n : ℕ) (r : Request V) → Right (on_started k code n r)
  started_right code n (Set z v) = late_right code n z
  started_right code n (PutAt z v) = late_right code n z
  started_right code n Get = tt
  started_right code n _ = tt

  down_right : (left : ℕ) → Right (downs k w left)
  down_right left = right_if (left == 0) _ _ (λ e. tt) (λ e. right_if (left == 1) _ _ (λ f. omega arith) (λ f. tt))

  latch_right : (left : ℕ) (r : Request V) → Right (on_latch k w left r)
  latch_right left Down = down_right left
  latch_right left Wait = right_if (left == 0) _ _ (λ e. tt) (λ e. right_if (w == 100) _ _ (λ f. tt) (λ f. tt))
  latch_right left _ = tt

  barrier_right : (n : ℕ) (r : Request V) → Right (on_barrier k w n r)
  barrier_right n Arrive = right_if (w + 1 == n) _ _ (λ e. omega arith) (λ e. tt)
  barrier_right n _ = tt

  receives_right : (closed : Bool) (vs : List V) → Right (receives k w closed vs)
  receives_right closed (v ∷ vs) = tt
  receives_right true [] = tt
  receives_right false [] = right_if (w == 100) _ _ (λ e. tt) (λ e. tt)

  closes_right : (closed : Bool) (vs : List V) → Right (closes k w closed vs)
  closes_right true vs = tt
  closes_right false vs = omega arith

sends_right : {V : Type 0} (k : Sort V) (w : ℕ) (b closed : Bool) (vs : List V) (v : V) → Right k w b (sends k w closed vs v)
sends_right k w b true vs v = tt
sends_right k zero b false vs v = right_if k zero b (length vs == 1000) _ _ (λ e. tt) (λ e. tt)
sends_right k (suc w) b false vs v = omega arith

channel_right : {V : Type 0} (k : Sort V) (w : ℕ) (b closed : Bool) (vs : List V) (r : Request V) → Right k w b (on_channel k w closed vs r)
channel_right k w b closed vs (Set slot v) =
    right_if k w b (is_first slot) _ _ (λ e. right_if k w b (is_small (k.look v)) _ _ (λ f. sends_right k w b closed vs v) (λ f. tt)) (λ e. tt)
channel_right k w b closed vs (Put v) = right_if k w b (is_small (k.look v)) _ _ (λ f. sends_right k w b closed vs v) (λ f. tt)
channel_right k w b closed vs Get = receives_right k w b closed vs
channel_right k w b closed vs Close = closes_right k w b closed vs
channel_right k w b closed vs _ = tt

content_right : {V : Type 0} (k : Sort V) (w : ℕ) (b : Bool) (x : Content V) (r : Request V) → (awaits r ≡ true → b ≡ true) → Right k w b (on_content k w x r)
content_right k w b (Table pairs) r waits = table_right k w b pairs r
content_right k w b Maker r waits = maker_right k w b r
content_right k w b (Size n) r waits = size_right k w b n r
content_right k w b (Number z) r waits = number_right k w b z r
content_right k w b (Row zs) r waits = numbers_right k w b zs r
content_right k w b (Promise o) r waits = promise_right k w b o r
content_right k w b (Dataflow code n xs) r waits = dataflow_right k w b code n xs r waits
content_right k w b (Started code n) r waits = started_right k w b code n r
content_right k w b (Channel closed vs) r waits = channel_right k w b closed vs r
content_right k w b (Latch left) r waits = latch_right k w b left r
content_right k w b (Barrier n) r waits = barrier_right k w b n r
content_right k w b (Unreadable vs) r waits = tt

object_right : {V : Type 0} (k : Sort V) (here kind w : ℕ) (b : Bool) (x : Content V) (r : Request V) → (awaits r ≡ true → b ≡ true) → Right k w b (on_object k here kind w x r)
object_right k here kind w b x Where waits = right_if k w b (nat_le 16 kind) _ _ (λ e. tt) (λ e. tt)
object_right k here kind w b x (Move to) waits = right_if k w b (is_movable kind) _ _ (λ e. tt) (λ e. tt)
object_right k here kind w b x (Set slot v) waits = content_right k w b x (Set slot v) waits
object_right k here kind w b x (New name vs) waits = content_right k w b x (New name vs) waits
object_right k here kind w b x (Register key to) waits = content_right k w b x (Register key to) waits
object_right k here kind w b x (Resolve key) waits = content_right k w b x (Resolve key) waits
object_right k here kind w b x (Unregister key) waits = content_right k w b x (Unregister key) waits
object_right k here kind w b x Keys waits = content_right k w b x Keys waits
object_right k here kind w b x Count waits = content_right k w b x Count waits
object_right k here kind w b x (Add z) waits = content_right k w b x (Add z) waits
object_right k here kind w b x Query waits = content_right k w b x Query waits
object_right k here kind w b x Reset waits = content_right k w b x Reset waits
object_right k here kind w b x (Step left right) waits = content_right k w b x (Step left right) waits
object_right k here kind w b x Get waits = content_right k w b x Get waits
object_right k here kind w b x (Put v) waits = content_right k w b x (Put v) waits
object_right k here kind w b x (PutAt slot v) waits = content_right k w b x (PutAt slot v) waits
object_right k here kind w b x Close waits = content_right k w b x Close waits
object_right k here kind w b x Down waits = content_right k w b x Down waits
object_right k here kind w b x Wait waits = content_right k w b x Wait waits
object_right k here kind w b x Arrive waits = content_right k w b x Arrive waits
object_right k here kind w b x Other waits = content_right k w b x Other waits

pub called_right : {V : Type 0} (k : Sort V) (here kind w : ℕ) (b : Bool) (x : Content V) (r : Request V) → IsRight w b (called k here kind w b x r).effect
called_right k here kind w true x r = object_right k here kind w true x r (λ e. refl)
called_right k here kind w false x r =
    right_if k w false (awaits r) _ _ (λ e. tt) (λ e. object_right k here kind w false x r (λ f. never (awaits r) e f))
  where
    never : (t : Bool) → t ≡ false → t ≡ true → false ≡ true
    never t e f = cc
